use Rattle.std.proofs.Common.{◌≡◌, false, sym, ap, ◌∙◌, subst}
use Rattle.board_core.specs.Board.{Board}
use Rattle.board_core.specs.Answers.{runs_in}
use Rattle.word_core.specs.Answers.{refused_line, all_stepped_line}
use Rattle.word_core.specs.Said.{all_steps}
use Rattle.world_core.specs.Does.{Does, all_stepped, not_stepped}
use Rattle.world_core.proofs.ScriptTelling.{told_lines}
use Rattle.world_core.proofs.script.answer.tell_steps.Goals as goal

pub returns-then-not-runs : goal.returns-then-not-runs
returns-then-not-runs c =
    let w = c.args.world.now in
    let is : runs_in w.board c.args.number ≡ false = ap (λ (b : Board). runs_in b c.args.number) (sym c.desk.ensures.desk) ∙ sym c.if-not-runs.ensures in
    told_lines c.push_refused.result c.push_refused.new.out.items c.args.out.now.items (refused_line c.name.result.now) (λ x. Does (all_steps c.args.number) w x w) c.push_refused.ensures
    (subst (λ f. Does (all_steps c.args.number) w (refused_line f) w) (sym c.name.ensures) (not_stepped is))

pub returns : goal.returns
returns c =
    told_lines c.push_all_stepped.result c.push_all_stepped.new.out.items c.args.out.now.items (all_stepped_line c.args.number c.step_to_end-count.result)
    (λ x. Does (all_steps c.args.number) c.args.world.now x c.step_to_end-count.new.world) c.push_all_stepped.ensures
    (all_stepped c.step_to_end-count.result c.step_to_end-count.ensures)
