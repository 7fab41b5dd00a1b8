use Rattle.std.proofs.Common.{refl, sym, subst}
use Rattle.decl_core.specs.ObjectMap.{objects_of}
use Rattle.decl_core.specs.HoldMap.{all_rules_of}
use Rattle.decl_read.specs.HeldSources.{SayNothing}
use Rattle.decl_read.specs.OldSources.{nothing_of_each}
use Rattle.decl_read.proofs.OldSources.{old_is_held, old_say_nothing}
use Rattle.decl_read.proofs.held_read.look_at.Goals as goal

pub returns-then-say_nothing-clause-plain : goal.returns-then-say_nothing-clause-plain
returns-then-say_nothing-clause-plain c objects rules are is =
    subst SayNothing (c.in-Ok.ensures.only objects rules are).1 (subst (λ r. SayNothing (all_rules_of r)) c.deref.ensures.value (c.say_nothing.ensures.0 c.if-say_nothing.true))

pub returns-else-say_nothing-clause-old : goal.returns-else-say_nothing-clause-old
returns-else-say_nothing-clause-old c objects are =
    let none = (c.in-Ok.ensures.only objects (nothing_of_each objects) (old_is_held c.args.source.now objects are)).1 in
    let says = c.say_nothing.ensures.1 (subst (λ r. SayNothing (all_rules_of r)) (sym c.deref.ensures.value) (old_say_nothing objects _ none)) in
    absurd cc

pub returns-in_ok-look-in-Err : goal.returns-in_ok-look-in-Err
returns-in_ok-look-in-Err c = record {
  held = λ h is. absurd (c.in_ok-look-in-Err.ensures.0 h is);
  cut = λ h is. absurd (c.in_ok-look-in-Err.ensures.0 h is);
  plain = λ objects rules are is. absurd (c.in_ok-look-in-Err.ensures.1 (c.in-Err.ensures.only objects rules are));
  old = λ objects are. absurd (c.in_ok-look-in-Err.ensures.1 (c.in-Err.ensures.only objects (nothing_of_each objects) (old_is_held c.args.source.now objects are)));
}
