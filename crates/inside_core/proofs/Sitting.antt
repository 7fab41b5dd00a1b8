-- Who has opened an object.
use Rattle.std.proofs.Common.{◌≡◌, ◌∙◌, ap, sym, subst, arith, ℕ, suc, ◌+◌, ◌<◌, List, [], ◌∷◌, ◌++◌, length, take, drop, get_or, append_assoc, append-nil}
use Rattle.std.specs.Prelude.{slice_get}
use Rattle.std.specs.List.Sorted.{IsPermutation, IsNonDecreasingBy}
use Rattle.std.proofs.lemmas.List.{take_more, take_all, drop_all, length-take}
use Rattle.std.proofs.lemmas.List.Sorted.{length_permutation}
use Rattle.std.proofs.lemmas.Option.{slice_get-get_or}
use Rattle.client_core.specs.declared.client.OpenObject.{OpenObject}
use Rattle.client_core.specs.State.{Peer, nobody, opened_in}
use Rattle.client_core.specs.ToldInside.{sits_in, sitting_from, AreSitting}

sits_push : (n at from : ℕ) (peers : List Peer) (p : Peer) →
    sitting_from n at from (peers ++ p ∷ []) ≡ sitting_from n at from peers ++ sits_in at from (n + length peers) p.opened
sits_push n at from [] p = ap (λ k. sits_in at from k p.opened ++ []) (let e : n ≡ n + 0 = omega arith in e) ∙ append-nil (sits_in at from (n + 0) p.opened)
sits_push n at from (q ∷ peers) p =
    ap (λ l. sits_in at from n q.opened ++ l)
    (sits_push (suc n) at from peers p
    ∙ ap (λ k. sitting_from (suc n) at from peers ++ sits_in at from k p.opened) (let e : suc n + length peers ≡ n + suc (length peers) = omega arith in e))
    ∙ sym (append_assoc (sits_in at from n q.opened) (sitting_from (suc n) at from peers) (sits_in at from (n + suc (length peers)) p.opened))

-- one place more is looked at
pub sits_more : (at from : ℕ) (peers : List Peer) (k : ℕ) (before after : List (ℕ × OpenObject)) → k < length peers →
    before ≡ sitting_from 0 at from (take k peers) → after ≡ before ++ sits_in at from k (opened_in (slice_get peers k)) →
    after ≡ sitting_from 0 at from (take (k + 1) peers)
sits_more at from peers k before after inside was more =
    let count : k ≡ 0 + length (take k peers) = (let l = length-take k peers in omega (arith, inside, l)) in
    more ∙ ap (λ o. before ++ sits_in at from k (opened_in o)) (slice_get-get_or peers k nobody inside)
    ∙ ap (λ l. l ++ sits_in at from k (get_or peers k nobody).opened) was
    ∙ ap (λ n. sitting_from 0 at from (take k peers) ++ sits_in at from n (get_or peers k nobody).opened) count
    ∙ sym (ap (sitting_from 0 at from) (take_more peers k nobody inside) ∙ sits_push 0 at from (take k peers) (get_or peers k nobody))

in_place : (old new : List (ℕ × OpenObject)) (n : ℕ) → n ≡ length old → length new ≡ length old → take n (new ++ drop (length new) old) ≡ new
in_place old new n is same =
    ap (λ (l : List (ℕ × OpenObject)). take n (new ++ l)) (drop_all (length new) old (omega (arith, same))) ∙ ap (take n) (append-nil new) ∙ take_all n new (omega (arith, is, same))

-- all are put by their numbers, in place
pub are_sitting : (at from n : ℕ) (peers : List Peer) (was old new : List (ℕ × OpenObject)) → n ≡ length old → old ≡ sitting_from 0 at from peers → was ≡ old →
    IsPermutation was new → IsNonDecreasingBy (λ (seat : ℕ × OpenObject). seat.1.session) new → AreSitting at from peers (take n (new ++ drop (length new) old))
are_sitting at from n peers was old new count all is same rising =
    let long : length new ≡ length old = length_permutation was new same ∙ ap length is in
    subst (AreSitting at from peers) (sym (in_place old new n count long))
    (record { same = subst (λ (l : List (ℕ × OpenObject)). IsPermutation l new) (is ∙ all) same; rising = rising })
