use Rattle.std.proofs.Common.{[], refl, sym, subst}
use Rattle.std.proofs.lemmas.List.{append-nil}
use Rattle.word_core.specs.ScriptView.{said_view}
use Rattle.board_core.specs.Sound.{IsSound}
use Rattle.decl_core.specs.HoldMap.{holds_of}
use Rattle.world_core.specs.HoldDoes.{HeldDoes, ward}
use Rattle.world_core.specs.HoldWrites.{skipped, done}
use Rattle.world_core.proofs.machine.HeldScript.answer_line.Goals as goal

pub returns-then-is_skipped : goal.returns-then-is_skipped
returns-then-is_skipped c = ([], sym (append-nil c.args.out.now.items), skipped c.requires (c.if-is_skipped.ensures.0 refl))

pub returns-in_ok-answer_held-in-Some : goal.returns-in_ok-answer_held-in-Some
returns-in_ok-answer_held-in-Some c =
    let told = c.in_ok-answer_held-in-Some.ensures in
    (told.0, told.1, done (said_view c.in-Some.said) c.requires (λ p. let h = c.if-is_skipped.ensures.1 p in cc) (rw c.in-Some.is at c.in_ok-said.ensures) (subst (λ rs. HeldDoes (holds_of rs) (said_view c.in-Some.said) (ward c.args.self.now.world c.args.self.now.holds c.args.self.now.gone.items) told.0 (ward c.answer_held.new.world c.answer_held.new.holds c.answer_held.new.gone.items)) c.deref.ensures.value told.2) (record { sequential = c.desk.ensures.sequential; sound = subst IsSound c.desk.ensures.desk c.history.ensures.sound }))

pub answer_other-requires : goal.answer_other-requires
answer_other-requires c = record { named = c.requires; other = record { not_skipped = λ p. let h = c.if-is_skipped.ensures.1 p in cc; says_nothing = rw c.in-None.is at c.in_ok-said.ensures } }
