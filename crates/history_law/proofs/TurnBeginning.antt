-- Who waits where an object begins its next epoch.
use Rattle.std.proofs.Common.{◌≡◌, inl, inr, ◌∙◌, ap, sym, subst, refl, arith, ℕ, zero, suc, ◌+◌, ◌-◌, List, [], ◌∷◌}
use Rattle.std.specs.Prelude.{◌^◌, min, Some, map, slice_get, slice_set, slice_index_or}
use Rattle.std.proofs.lemmas.Option.{same_Some}
use Rattle.word_core.specs.Events.{Called}
use Rattle.live_core.specs.Epochs.{numbered_from, told_behind}
use Rattle.live_core.specs.Scene.{Scene, told_of}
use Rattle.live_core.specs.HostedSteps.{IsFollowed}
use Rattle.client_core.specs.Deeds.{Texts}
use Rattle.client_core.specs.Moves.{BeginsHeld}
use Rattle.client_core.specs.State.{Peer, State}
use Rattle.history_law.specs.Awaits.{IsElementOf, Lines, Awaits, waits_in}
use Rattle.history_law.proofs.Lists.{in_at}
use Rattle.history_law.proofs.Places.{AllStay, IsSameCall, all_stay, held_set, stay_set, waits_here, waits_others}

-- what is in a list stands at a place of it
in_place : (cs : List Called) (c : Called) → IsElementOf c cs → (k : ℕ) × (slice_get cs k ≡ Some c)
in_place [] c is = absurd is
in_place (d ∷ cs) c (inl is) = (0, ap Some is)
in_place (d ∷ cs) c (inr is) = let on = in_place cs c is in (suc on.0, on.1)

-- the calls that wait have the numbers behind this one
numbered_at : (n : ℕ) (cs : List Called) (k : ℕ) (c : Called) → slice_get cs k ≡ Some c → (m : ℕ) × (m ≡ n + k + 1) × (slice_get (numbered_from n cs) k ≡ Some (record c { number = m }))
numbered_at n [] k c is = absurd (grind (arith, is))
numbered_at n (d ∷ cs) zero c is = (n + 1, omega arith, ap (λ (x : Called). Some (record x { number = n + 1 })) (same_Some d c is))
numbered_at n (d ∷ cs) (suc k) c is =
    let on = numbered_at (n + 1) cs k c is in
    (on.0, (let was = on.1 in omega (arith, was)), on.2)

told_at : (f : Called → ℕ) (cs : List Called) (k : ℕ) (c : Called) (other : ℕ) → slice_get cs k ≡ Some c → slice_index_or (map f cs) k other ≡ f c
told_at f [] k c other is = absurd (grind (arith, is))
told_at f (d ∷ cs) zero c other is = ap f (same_Some d c is)
told_at f (d ∷ cs) (suc k) c other is = told_at f cs k c other is

-- each waits by the number that was told of it
followed_call : (old new : Scene) (past : List _) → IsFollowed old past new → (c : Called) → IsElementOf c old.hall.waiting → (d : Called) × IsElementOf d new.hall.waiting × IsSameCall old new c d
followed_call old new past is c waits =
    let place = in_place old.hall.waiting c waits in
    let n = numbered_at 0 old.hall.waiting place.0 c place.1 in
    let d : Called = record c { number = n.0 } in
    let other : ℕ = min (new.base + n.0) (2 ^ 64 - 1) in
    let at : n.0 - 1 ≡ place.0 = (let was = n.1 in omega (arith, was)) in (
      d,
      subst (λ (cs : List Called). IsElementOf d cs) (sym is.begun.waiting) (in_at (numbered_from 0 old.hall.waiting) place.0 d n.2),
      record {
        session = refl;
        operation = refl;
        arguments = refl;
        told = ap (λ (l : List ℕ). told_of (record new { carried = l }) n.0) is.carried
            ∙ ap (λ m. slice_index_or (map (λ (x : Called). told_of old x.number) old.hall.waiting) m other) at
            ∙ told_at (λ (x : Called). told_of old x.number) old.hall.waiting place.0 c other place.1;
      },
    )

pub begins_awaits : (heard : Lines) (past : Texts) (old new : State) (journal : ℕ) (text : List ℕ) → Awaits heard past old.objects old.peers → BeginsHeld old journal text new → Awaits heard past new.objects new.peers
begins_awaits heard past old new journal text a is =
    let b = is.begins in
    let followed = b.begun.followed in
    let t = a.held journal b.before b.there in
    let made = slice_set old.objects journal b.after in
    let stay : AllStay old.objects made (waits_in old.objects) (waits_in made) =
    stay_set old.objects journal b.before b.after (waits_in made) b.there followed.begun.object
    (λ c waits. let d = followed_call b.before b.after b.after.past followed c waits in (d.0, waits_here old.objects journal b.before b.after d.0 b.there d.1, d.2))
    (λ j c other waits. waits_others old.objects journal b.after j c other waits) in
    subst (λ (l : List Scene). Awaits heard past l new.peers) (sym b.left)
    (subst (λ (ps : List Peer). Awaits heard past made ps) (sym is.peers)
    (record {
      held = held_set old.objects journal b.before b.after b.there a.held (told_behind b.after.past b.before.hall.contents, followed.held t.0 t.1);
      alone = a.alone;
      seated = all_stay heard past old.objects made (waits_in old.objects) (waits_in made) old.peers stay a.seated;
    }))
