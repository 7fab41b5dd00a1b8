-- The ends of calls under keys, among those of the one history.
use Rattle.std.proofs.Common.{◌≡◌, ℕ, List, [], ◌∷◌, ◌++◌, Option, Some, None, refl, sym, ap, ◌∙◌, subst, append_assoc}
use Rattle.std.proofs.lemmas.List.{append-nil}
use Rattle.decl_core.specs.ObjectForm.{ObjectForm}
use Rattle.apply_core.specs.declared.reply.Reply.{Reply}
use Rattle.apply_core.specs.History.{End}
use Rattle.word_core.specs.Events.{Called, history_of}
use Rattle.live_core.specs.Hall.{Told}
use Rattle.live_core.specs.Front.{Opening}
use Rattle.guest_core.specs.declared.guest.Guest.{Guest}
use Rattle.guest_core.specs.Guests.{Guests}
use Rattle.guest_core.specs.Keys.{asks}
use Rattle.audit_core.specs.Steps.{Step, ran, cancelled, named as got_name, happened_of}
use Rattle.recover_core.specs.Carried.{told_by}
use Rattle.recover_core.specs.Clients.{MakeAll}
use Rattle.history_law.specs.Year.{all_ends}
use Rattle.history_law.specs.Keys.{KeyEvent, epoch_began, name_came, call_ended, client_of, under_key, told_by_steps, ReadEpoch, epochs_of, told_with, all_told, end_told, ends_told, AreWithin, none_within, one_within, one_beside}

within_none : (all : List End) → AreWithin [] all
within_none [] = none_within
within_none (x ∷ all) = one_beside (within_none all)

within_all : (all : List End) → AreWithin all all
within_all [] = none_within
within_all (x ∷ all) = one_within (within_all all)

within_both : (a b c d : List End) → AreWithin a b → AreWithin c d → AreWithin (a ++ c) (b ++ d)
within_both a b c d none_within second = second
within_both a b c d (one_within {x} {few} {all} first) second = one_within (within_both few all c d first second)
within_both a b c d (one_beside {x} {few} {all} first) second = one_beside (within_both a all c d first second)

-- what is told behind
ends_behind : (o : ObjectForm) (newer older : List KeyEvent) → ends_told o (newer ++ older) ≡ ends_told o older ++ ends_told o newer
ends_behind o [] older = sym (append-nil (ends_told o older))
ends_behind o (epoch_began clients ∷ newer) older = ends_behind o newer older
ends_behind o (name_came name ∷ newer) older = ends_behind o newer older
ends_behind o (call_ended c ∷ newer) older =
    ap (λ l. l ++ end_told o c.call.asked c.call.reply) (ends_behind o newer older) ∙ append_assoc (ends_told o older) (ends_told o newer) (end_told o c.call.asked c.call.reply)

-- a call that replied
within_ran : (o : ObjectForm) (g : Option Guest) (c : Called) (told : ℕ) (reply : Reply) (so_far : List KeyEvent) (history : List End) → AreWithin (ends_told o so_far) history
    → AreWithin (ends_told o (under_key g (record { asked = asks c.operation c.arguments; told = told; reply = Some reply }) ++ so_far)) (history ++ end_told o (asks c.operation c.arguments) (Some reply))
within_ran o None c told reply so_far history is =
    let own = end_told o (asks c.operation c.arguments) (Some reply) in
    subst (λ l. AreWithin l (history ++ own)) (append-nil (ends_told o so_far)) (within_both (ends_told o so_far) history [] own is (within_none own))
within_ran o (Some g) c told reply so_far history is =
    let own = end_told o (asks c.operation c.arguments) (Some reply) in
    within_both (ends_told o so_far) history own own is (within_all own)

-- a call that was cancelled
ends_cancelled : (o : ObjectForm) (g : Option Guest) (c : Called) (told : ℕ) (so_far : List KeyEvent)
    → ends_told o (under_key g (record { asked = asks c.operation c.arguments; told = told; reply = None }) ++ so_far) ≡ ends_told o so_far
ends_cancelled o None c told so_far = refl
ends_cancelled o (Some g) c told so_far = append-nil (ends_told o so_far)

within_steps : (o : ObjectForm) (f : Opening) (now : ℕ) (v : Guests) (steps : List Step) (new : Guests) (makes : MakeAll f.base f.carried now v steps new)
    → AreWithin (ends_told o (told_by_steps f now v steps new makes)) (history_of o (happened_of steps))
within_steps o f now v [] new makes = none_within
within_steps o f now v (ran c reply ∷ steps) new (mid, before, makes) =
    within_ran o (client_of mid c.session) c (told_by f.base f.carried c.number) reply (told_by_steps f now v steps mid before) (history_of o (happened_of steps)) (within_steps o f now v steps mid before)
within_steps o f now v (cancelled c ∷ steps) new (mid, before, makes) =
    subst (λ l. AreWithin l (history_of o (happened_of steps))) (sym (ends_cancelled o (client_of mid c.session) c (told_by f.base f.carried c.number) (told_by_steps f now v steps mid before)))
    (within_steps o f now v steps mid before)
within_steps o f now v (got_name session name ∷ steps) new (mid, before, makes) = within_steps o f now v steps mid before

-- an epoch behind others
within_epoch : (o : ObjectForm) (e : ReadEpoch o) (told : List KeyEvent) (history : List End) → AreWithin (ends_told o told) history
    → AreWithin (ends_told o (told_with o e told)) (history ++ history_of o e.epoch.told.happened)
within_epoch o e told history was =
    let f = e.is.front in
    let b = e.is.read.is in
    let steps = told_by_steps f e.is.house.now b.clients.opened b.steps e.came.guests b.clients.makes in
    let own : AreWithin (ends_told o steps) (history_of o e.epoch.told.happened) =
    subst (λ t. AreWithin (ends_told o steps) (history_of o t)) (sym (ap (λ (t : Told). t.happened) e.is.told)) (within_steps o f e.is.house.now b.clients.opened b.steps e.came.guests b.clients.makes) in
    subst (λ l. AreWithin l (history ++ history_of o e.epoch.told.happened)) (sym (ends_behind o steps (epoch_began f.clients ∷ told)))
    (within_both (ends_told o told) history (ends_told o steps) (history_of o e.epoch.told.happened) was own)

pub within : (o : ObjectForm) (e : ReadEpoch o) (earlier : List (ReadEpoch o)) → AreWithin (ends_told o (all_told o e earlier)) (all_ends o e.epoch (epochs_of o earlier))
within o e [] = within_epoch o e [] [] none_within
within o e (d ∷ earlier) = within_epoch o e (all_told o d earlier) (all_ends o d.epoch (epochs_of o earlier)) (within o d earlier)
