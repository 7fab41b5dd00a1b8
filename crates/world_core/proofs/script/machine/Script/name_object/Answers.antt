use Rattle.std.proofs.Common.{◌≡◌, [], refl, sym, ap, ◌∙◌, subst}
use Rattle.std.proofs.lemmas.List.{append-nil}
use Rattle.board_core.specs.Board.{Board}
use Rattle.word_core.specs.Answers.{bad_line}
use Rattle.world_core.specs.Writes.{NamesObject, named, not_named}
use Rattle.world_core.proofs.script.machine.Script.name_object.Goals as goal

pub returns-then-names_object : goal.returns-then-names_object
returns-then-names_object c =
    let same : c.object.result.now ≡ c.args.self.now.world.board.object = c.object.ensures.same ∙ c.accepted.ensures ∙ ap (λ (b : Board). b.object) c.desk.ensures.desk in
    ([], sym (append-nil c.args.out.now.items), named c.requires (subst (λ o. NamesObject o c.args.line.now) same (c.if-names_object.ensures.0 refl)))

pub returns : goal.returns
returns c =
    let same : c.object.result.now ≡ c.args.self.now.world.board.object = c.object.ensures.same ∙ c.accepted.ensures ∙ ap (λ (b : Board). b.object) c.desk.ensures.desk in
    (bad_line c.args.number, c.in_ok-push_bad_line.ensures, not_named c.requires (λ p. let h = c.if-names_object.ensures.1 (subst (λ o. NamesObject o c.args.line.now) (sym same) p) in cc))
