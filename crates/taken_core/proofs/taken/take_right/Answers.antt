use Rattle.std.proofs.Common.{◌≡◌, List, ℕ, ◌∙◌, ap}
use Rattle.std.specs.Prelude.{false}
use Rattle.taken_core.specs.TakeFile.{Lacks, counted, count_solid}
use Rattle.taken_core.proofs.Formats.{sure, unsure}
use Rattle.taken_core.proofs.Lost.{slice_behind}
use Rattle.taken_core.proofs.Answered.{answered_told, answered_behind}
use Rattle.taken_core.proofs.taken.take_right.Goals as goal

pub returns-then-branch : goal.returns-then-branch
returns-then-branch c =
    answered_behind c.args.file.now c.args.accepts_cut c.args.count c.count_written.result c.args.size c.requires.whole c.requires.checked c.requires.count (c.count_written.ensures ∙ ap (λ (l : List ℕ). counted (count_solid l)) (slice_behind c.args.file.now c.args.size))
    (sure ((c.args.accepts_cut ≡ false) × Lacks c.args.file.now) c.in_ok-is_cut.field-0 c.if-branch.true c.in_ok-is_cut.ensures)

pub returns : goal.returns
returns c =
    answered_told c.args.file.now c.args.accepts_cut c.in_ok-told.told c.args.size c.args.lines.now c.requires.size c.requires.whole c.requires.checked c.requires.lines
    (unsure ((c.args.accepts_cut ≡ false) × Lacks c.args.file.now) c.in_ok-is_cut.field-0 c.if-branch.false c.in_ok-is_cut.ensures) c.in_ok-told.ensures
