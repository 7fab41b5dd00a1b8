-- Keys over all epochs.
use Rattle.std.proofs.Common.{◌≡◌, ℕ, ◌+◌, List, [], ◌∷◌, Some, subst}
use Rattle.std.specs.Prelude.{slice_get}
use Rattle.decl_core.specs.ObjectForm.{ObjectForm}
use Rattle.live_core.specs.declared.front.NamedClient.{NamedClient}
use Rattle.history_law.specs.Keys.{epoch_began, ReadEpoch, told_with, all_told, AreKnownOn, KeysStandOnce, RepeatsAreTold}
use Rattle.history_law.proofs.Counted.{Events, CallsAreNext, IsCounted, no_calls, not_counted, stands_once}
use Rattle.history_law.proofs.Tables.{Holds, holds_steps, holds_began, keeps_lines, was_known}

-- an epoch behind others
holds_epoch : (o : ObjectForm) (e : ReadEpoch o) (told : Events) → CallsAreNext told → ((p : ℕ) (c : NamedClient) → slice_get e.is.front.clients p ≡ Some c → IsCounted told c.name (c.keys + 1))
    → Holds e.is.front (told_with o e told) e.came.guests
holds_epoch o e told calls fits =
    let f = e.is.front in
    let h = e.is.house in
    let b = e.is.read.is in
    holds_steps f f h.now _ b.clients.opened b.steps e.came.guests
    (holds_began f f told h b.clients.opened calls b.clients.opens fits (keeps_lines f (epoch_began f.clients ∷ told) h b.clients.opened b.clients.opens)) b.clients.makes

holds_all : (o : ObjectForm) (e : ReadEpoch o) (earlier : List (ReadEpoch o)) → AreKnownOn o e earlier → Holds e.is.front (all_told o e earlier) e.came.guests
holds_all o e [] are = holds_epoch o e [] no_calls (λ p c is. not_counted c.name (c.keys + 1))
holds_all o e (d ∷ earlier) are =
    let told = all_told o d earlier in
    let was = holds_all o d earlier are.1 in
    holds_epoch o e told was.calls (λ p c is.
    let k = (was_known d.came.guests e.is.front.clients e.is.front.kept p c are.0 is).1 in
    subst (λ n. IsCounted told c.name n) k.next (subst (λ n. IsCounted told n k.guest.keys.next) k.named (was.now k.place k.guest k.by.there).counted))

pub keys_stand_once : KeysStandOnce
keys_stand_once o e earlier are =
    let told = all_told o e earlier in
    let holds = holds_all o e earlier are in
    record { once = stands_once told holds.calls; calls = holds.calls; now = holds.now }

pub repeats_are_told : RepeatsAreTold
repeats_are_told o e earlier are place g key k a there (call, has, asked) = (call, has.there, asked, (holds_all o e earlier are).kept place g there key k call has)
