-- What epochs that are read tell of keys.
use Rattle.std.proofs.Common.{◌≡◌, inl, inr, ap, sym, subst, refl, List, [], ◌∷◌, ◌++◌, Option, Some}
use Rattle.decl_core.specs.ObjectForm.{ObjectForm}
use Rattle.apply_core.specs.declared.reply.Reply.{Reply}
use Rattle.apply_core.specs.History.{End}
use Rattle.history_law.specs.Keys.{KeyEvent, KeyedCall, AreWithin, all_told, call_ended, end_told, ends_told, epoch_began, name_came}
use Rattle.history_law.specs.Keys.AreWithin.{none_within, one_within, one_beside}
use Rattle.history_law.specs.Awaits.{IsElementOf}
use Rattle.history_law.proofs.Lists.{in_behind, in_front}
use Rattle.history_law.specs.AskedStarts.{HasEnd, StartsAreAsked, end_asked}

-- a call that ended is among the ends that are told
in_told : (o : ObjectForm) (newer older : List KeyEvent) (k : KeyedCall) (reply : Reply) → k.call.reply ≡ Some reply → IsElementOf (end_asked o k.call.asked reply) (ends_told o (newer ++ call_ended k ∷ older))
in_told o [] older k reply is =
    in_behind (end_asked o k.call.asked reply) (ends_told o older) (end_told o k.call.asked k.call.reply)
    (subst (λ (x : Option Reply). IsElementOf (end_asked o k.call.asked reply) (end_told o k.call.asked x)) (sym is) (inl refl))
in_told o (epoch_began clients ∷ newer) older k reply is = in_told o newer older k reply is
in_told o (name_came name ∷ newer) older k reply is = in_told o newer older k reply is
in_told o (call_ended d ∷ newer) older k reply is =
    in_front (end_asked o k.call.asked reply) (ends_told o (newer ++ call_ended k ∷ older)) (end_told o d.call.asked d.call.reply) (in_told o newer older k reply is)

within_has : (few all : List End) (e : End) → AreWithin few all → IsElementOf e few → HasEnd all e
within_has few all e none_within is = absurd is
within_has few all e (one_within {x = x} {few = rest} {all = more} within) (inl same) = record { before = []; after = more; stands = ap (λ (y : End). y ∷ more) same }
within_has few all e (one_within {x = x} {few = rest} {all = more} within) (inr is) =
    let on = within_has rest more e within is in record { before = x ∷ on.before; after = on.after; stands = ap (λ (l : List End). x ∷ l) on.stands }
within_has few all e (one_beside {x = x} {few = rest} {all = more} within) is =
    let on = within_has rest more e within is in record { before = x ∷ on.before; after = on.after; stands = ap (λ (l : List End). x ∷ l) on.stands }

pub starts_are_asked : StartsAreAsked
starts_are_asked o text texts t clients k reply was is =
    within_has (ends_told o (all_told o t.last t.earlier)) _ (end_asked o k.call.asked reply) t.within
    (subst (λ (l : List KeyEvent). IsElementOf (end_asked o k.call.asked reply) (ends_told o l)) (sym was.cut) (in_told o was.newer was.older k reply is))
