use Rattle.std.proofs.Common.{◌≡◌, drop, false, refl, subst, sym}
use Rattle.std.specs.Prelude.{codes}
use Rattle.decl_core.specs.ObjectMap.{object_of}
use Rattle.front_read.specs.Rows.{AreRows, has_verb}
use Rattle.decl_core.specs.HoldMap.{holds_of}
use Rattle.front_read.specs.HeldLines.{held_words, IsHeldLine}
use Rattle.recover_core.proofs.Texts.{behind_is}
use Rattle.recover_core.proofs.text.held_behind.Goals as goal

pub returns-in-Ok : goal.returns-in-Ok
returns-in-Ok c =
    let o = object_of c.args.object.now in
    let holds = holds_of c.args.holds.now in
    let text = c.args.text.now in
    let taken = rw c.in-Ok.is at c.in_ok-rest.ensures in
    let are : AreRows (IsHeldLine o holds) (codes "held") (held_words o holds) (drop c.args.front text) c.take_lines.new.all c.in-Ok.rest.now = subst (λ t. AreRows (IsHeldLine o holds) (codes "held") (held_words o holds) t c.take_lines.new.all c.in-Ok.rest.now) c.from.ensures taken.0 in
    let rest : drop c.saturating_sub-behind.result text ≡ c.in-Ok.rest.now = behind_is o holds c.args.front c.saturating_sub-behind.result text c.in-Ok.rest.now c.take_lines.new.all are c.saturating_sub-behind.ensures in (
      refl,
      refl,
      subst (λ r. has_verb (codes "held") r ≡ false) (sym rest) taken.1,
      subst (λ r. AreRows (IsHeldLine o holds) (codes "held") (held_words o holds) (drop c.args.front text) c.take_lines.new.all r) (sym rest) are,
    )
