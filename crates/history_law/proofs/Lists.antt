-- Lists, and what stands in them.
use Rattle.std.proofs.Common.{◌≡◌, ◌≢◌, ◌⊎◌, inl, inr, ◌∙◌, ap, sym, subst, refl, arith, ℕ, zero, suc, List, [], ◌∷◌, ◌++◌, eqb-true}
use Rattle.std.specs.Prelude.{Bool, true, false, ◌==◌, Option, Some, None, slice_get, slice_set, map}
use Rattle.std.proofs.lemmas.Bool.{eqb-false}
use Rattle.std.proofs.lemmas.Option.{same_Some}
use Rattle.decl_core.specs.ObjectForm.{ObjectForm}
use Rattle.word_core.specs.Events.{Called}
use Rattle.live_core.specs.declared.call.Ran.{Ran}
use Rattle.live_core.specs.Hall.{Every, EachPair, Told}
use Rattle.live_core.specs.Settles.{Settles}
use Rattle.live_core.specs.Settles.Settles.{rests, runs}
use Rattle.live_core.specs.Scene.{Scene}
use Rattle.client_core.specs.declared.client.OpenObject.{OpenObject}
use Rattle.client_core.specs.State.{Peer, change, opened_in}
use Rattle.history_law.specs.Awaits.{IsElementOf}

pub in_front : {X : Type 0} (x : X) (xs ys : List X) → IsElementOf x xs → IsElementOf x (xs ++ ys)
in_front x [] ys is = absurd is
in_front x (y ∷ xs) ys (inl is) = inl is
in_front x (y ∷ xs) ys (inr is) = inr (in_front x xs ys is)

pub in_behind : {X : Type 0} (x : X) (xs ys : List X) → IsElementOf x ys → IsElementOf x (xs ++ ys)
in_behind x [] ys is = is
in_behind x (y ∷ xs) ys is = inr (in_behind x xs ys is)

pub in_at : {X : Type 0} (xs : List X) (k : ℕ) (x : X) → slice_get xs k ≡ Some x → IsElementOf x xs
in_at [] k x is = absurd (grind (arith, is))
in_at (y ∷ xs) zero x is = inl (same_Some y x is)
in_at (y ∷ xs) (suc k) x is = inr (in_at xs k x is)

pub every_in : {X : Type 0} (P : X → Type 0) (xs : List X) (x : X) → Every P xs → IsElementOf x xs → P x
every_in P [] x all is = absurd is
every_in P (y ∷ xs) x all (inl is) = subst P is all.0
every_in P (y ∷ xs) x all (inr is) = every_in P xs x all.1 is

-- calls of different sessions
abbrev pub Apart : List Called → Type 0
Apart cs = EachPair (λ (c d : Called). c.session ≢ d.session) cs

pub one_of_session : (cs : List Called) (c d : Called) → Apart cs → IsElementOf c cs → IsElementOf d cs → c.session ≡ d.session → c ≡ d
one_of_session [] c d apart is also same = absurd is
one_of_session (x ∷ cs) c d apart (inl is) (inl also) same = sym is ∙ also
one_of_session (x ∷ cs) c d apart (inl is) (inr also) same =
    absurd (every_in (λ (b : Called). x.session ≢ b.session) cs d apart.0 also (ap (λ (z : Called). z.session) is ∙ same))
one_of_session (x ∷ cs) c d apart (inr is) (inl also) same =
    absurd (every_in (λ (b : Called). x.session ≢ b.session) cs c apart.0 is (ap (λ (z : Called). z.session) also ∙ sym same))
one_of_session (x ∷ cs) c d apart (inr is) (inr also) same = one_of_session cs c d apart.1 is also same

every_more : (P : Called → Type 0) (cs : List Called) (c : Called) → Every P cs → P c → Every P (cs ++ c ∷ [])
every_more P [] c all is = (is, tt)
every_more P (d ∷ cs) c all is = (all.0, every_more P cs c all.1 is)

pub apart_more : (cs : List Called) (c : Called) → Apart cs → Every (λ (d : Called). d.session ≢ c.session) cs → Apart (cs ++ c ∷ [])
apart_more [] c apart free = (tt, tt)
apart_more (d ∷ cs) c apart free = (every_more (λ (b : Called). d.session ≢ b.session) cs c apart.0 free.0, apart_more cs c apart.1 free.1)

-- the calls of those that ran
abbrev pub calls_of : List Ran → List Called
calls_of all = map (λ (r : Ran). r.call) all

abbrev RanOrLeft : List Ran → List Called → Called → Type 0
RanOrLeft all left c = IsElementOf c (calls_of all) ⊎ IsElementOf c left

pub left_out : (front behind : List Called) (x c : Called) → IsElementOf c (front ++ x ∷ behind) → (x ≡ c) ⊎ IsElementOf c (front ++ behind)
left_out [] behind x c is = is
left_out (y ∷ front) behind x c (inl is) = inr (inl is)
left_out (y ∷ front) behind x c (inr is) = elim (left_out front behind x c is) [ inl a ↦ inl a | inr a ↦ inr (inr a) ]

pub between_in : (front behind : List Called) (x c : Called) → (x ≡ c) ⊎ IsElementOf c (front ++ behind) → IsElementOf c (front ++ x ∷ behind)
between_in [] behind x c is = is
between_in (y ∷ front) behind x c (inl is) = inr (between_in front behind x c (inl is))
between_in (y ∷ front) behind x c (inr (inl is)) = inl is
between_in (y ∷ front) behind x c (inr (inr is)) = inr (between_in front behind x c (inr is))

-- each that waited ran or is left, and nobody else
pub settled_in : (o : ObjectForm) (t : Told) (waiting left : List Called) (all : List Ran) → Settles o t waiting all left → (c : Called) → IsElementOf c waiting → RanOrLeft all left c
settled_in o t waiting left all (rests none) c is = inr is
settled_in o t waiting left all (runs front behind r more first reply fails goes) c is =
    elim (left_out front behind r.call c is) [
      | inl same ↦ inl (inl same)
      | inr other ↦ elim (settled_in o _ (front ++ behind) left more goes c other) [ inl a ↦ inl (inr a) | inr a ↦ inr a ]
    ]

pub settled_out : (o : ObjectForm) (t : Told) (waiting left : List Called) (all : List Ran) → Settles o t waiting all left → (c : Called) → RanOrLeft all left c → IsElementOf c waiting
settled_out o t waiting left all (rests none) c (inl is) = absurd is
settled_out o t waiting left all (rests none) c (inr is) = is
settled_out o t waiting left all (runs front behind r more first reply fails goes) c (inl (inl is)) = between_in front behind r.call c (inl is)
settled_out o t waiting left all (runs front behind r more first reply fails goes) c (inl (inr is)) =
    between_in front behind r.call c (inr (settled_out o _ (front ++ behind) left more goes c (inl is)))
settled_out o t waiting left all (runs front behind r more first reply fails goes) c (inr is) =
    between_in front behind r.call c (inr (settled_out o _ (front ++ behind) left more goes c (inr is)))

-- objects at places

pub set_other : (xs : List Scene) (i j : ℕ) (x : Scene) → i ≢ j → slice_get (slice_set xs i x) j ≡ slice_get xs j
set_other [] i j x ne = refl
set_other (y ∷ xs) zero zero x ne = absurd (ne refl)
set_other (y ∷ xs) zero (suc j) x ne = refl
set_other (y ∷ xs) (suc i) zero x ne = refl
set_other (y ∷ xs) (suc i) (suc j) x ne = set_other xs i j x (λ e. ne (ap suc e))

pub set_at : (xs : List Scene) (j : ℕ) (x y : Scene) → slice_get xs j ≡ Some y → slice_get (slice_set xs j x) j ≡ Some x
set_at [] j x y is = absurd (grind (arith, is))
set_at (z ∷ xs) zero x y is = refl
set_at (z ∷ xs) (suc j) x y is = set_at xs j x y is

pub same_or_not : (m n : ℕ) → (m ≡ n) ⊎ (m ≢ n)
same_or_not m n = by (m == n) refl
  where
    by : (b : Bool) → (m == n) ≡ b → (m ≡ n) ⊎ (m ≢ n)
    by true same = inl (eqb-true m n same)
    by false other = inr (λ e. absurd (let no = eqb-false m n other in omega (arith, no, e)))

-- what now stands at a place, and what stood there
pub set_was : (xs : List Scene) (i j : ℕ) (x y z : Scene) → slice_get xs i ≡ Some z → slice_get (slice_set xs i x) j ≡ Some y →
    ((i ≡ j) × (y ≡ x)) ⊎ ((i ≢ j) × (slice_get xs j ≡ Some y))
set_was xs i j x y z there is = by (same_or_not i j)
  where
    by : (i ≡ j) ⊎ (i ≢ j) → ((i ≡ j) × (y ≡ x)) ⊎ ((i ≢ j) × (slice_get xs j ≡ Some y))
    by (inl same) = inl (same, same_Some y x (sym is ∙ ap (slice_get (slice_set xs i x)) (sym same) ∙ set_at xs i x z there))
    by (inr other) = inr (other, sym (set_other xs i j x other) ∙ is)

-- places of connections

-- what is now at a place was changed, or is what was there
abbrev pub IsChanged : List Peer → ℕ → (Peer → Peer) → ℕ → Peer → Type 0
IsChanged peers place f q p = ((q ≡ place) × ((was : Peer) × (slice_get peers q ≡ Some was) × (p ≡ f was))) ⊎ ((q ≢ place) × (slice_get peers q ≡ Some p))

pub changed_was : (peers : List Peer) (place : ℕ) (f : Peer → Peer) (q : ℕ) (p : Peer) → slice_get (change peers place f) q ≡ Some p → IsChanged peers place f q p
changed_was [] place f q p is = absurd (grind (arith, is))
changed_was (x ∷ peers) zero f zero p is = inl (refl, (x, refl, sym (same_Some (f x) p is)))
changed_was (x ∷ peers) zero f (suc q) p is = inr ((λ e. omega (arith, e)), is)
changed_was (x ∷ peers) (suc place) f zero p is = inr ((λ e. omega (arith, e)), is)
changed_was (x ∷ peers) (suc place) f (suc q) p is =
    elim (changed_was peers place f q p is) [ inl a ↦ inl (ap suc a.0, a.1) | inr a ↦ inr ((λ e. a.0 (omega (arith, e))), a.1) ]

pub change_at : (peers : List Peer) (place : ℕ) (f : Peer → Peer) (p : Peer) → slice_get peers place ≡ Some p → slice_get (change peers place f) place ≡ Some (f p)
change_at [] place f p is = absurd (grind (arith, is))
change_at (x ∷ peers) zero f p is = ap (λ (y : Peer). Some (f y)) (same_Some x p is)
change_at (x ∷ peers) (suc place) f p is = change_at peers place f p is

-- who has opened something is there
pub has_peer : (x : Option Peer) (o : OpenObject) → opened_in x ≡ Some o → (p : Peer) × (x ≡ Some p) × (p.opened ≡ Some o)
has_peer None o is = absurd (none_some o is)
  where
    none_some : (o : OpenObject) → None ≡ Some o → ⊥
    none_some o is = cc
has_peer (Some p) o is = (p, refl, is)
