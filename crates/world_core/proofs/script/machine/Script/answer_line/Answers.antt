use Rattle.std.proofs.Common.{[], refl, sym, subst}
use Rattle.std.proofs.lemmas.List.{append-nil}
use Rattle.word_core.specs.ScriptView.{said_view}
use Rattle.board_core.specs.Sound.{IsSound}
use Rattle.world_core.specs.Writes.{skipped, done}
use Rattle.world_core.proofs.script.machine.Script.answer_line.Goals as goal

pub returns-then-is_skipped : goal.returns-then-is_skipped
returns-then-is_skipped c = ([], sym (append-nil c.args.out.now.items), skipped c.requires (c.if-is_skipped.ensures.0 refl))

pub returns-in_ok-answer_said-in-Some : goal.returns-in_ok-answer_said-in-Some
returns-in_ok-answer_said-in-Some c =
    let told = c.in_ok-answer_said-in-Some.ensures in
    (told.0, told.1, done (said_view c.in-Some.said) c.requires (λ p. let h = c.if-is_skipped.ensures.1 p in cc) (rw c.in-Some.is at c.in_ok-said.ensures) told.2 (record { sequential = c.desk.ensures.sequential; sound = subst IsSound c.desk.ensures.desk c.history.ensures.sound }))

pub answer_other-requires : goal.answer_other-requires
answer_other-requires c = record { named = c.requires; other = record { not_skipped = λ p. let h = c.if-is_skipped.ensures.1 p in cc; says_nothing = rw c.in-None.is at c.in_ok-said.ensures } }
