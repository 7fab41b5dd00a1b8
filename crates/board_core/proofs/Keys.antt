-- Keys of calls.
use Rattle.std.proofs.Common.{◌≡◌, ◌≢◌, ℕ, zero, suc, ◌+◌, ◌-◌, ◌<◌, ◌≤◌, inl, inr, Bool, true, false, cond, ◌==◌, List, [], ◌∷◌, ◌++◌, length, Option, Some, None, refl, sym, ◌∙◌, ap, subst, arith, take, length-append}
use Rattle.std.specs.Prelude.{unwrap_or}
use Rattle.std.specs.List.{filter}
use Rattle.std.proofs.lemmas.Bool.{cases_lt}
use Rattle.std.proofs.lemmas.Bool.Decides.{eqb_tells}
use Rattle.std.proofs.lemmas.List.{take_all}
use Rattle.std.proofs.lemmas.Option.{slice_get_within}
use Rattle.page_core.specs.Lists.{Every, EachPair}
use Rattle.page_core.specs.ObjectCalls.{AcceptedCall, Noted}
use Rattle.board_core.specs.Board.{call_at}
use Rattle.board_core.specs.Sound.{IsNoted}
use Rattle.board_core.specs.Keys.{count_by, HasKey, next_key, KeysAreExact, key_of, KeysStandOnce}
use Rattle.page_core.proofs.Lists.{Every-both}
use Rattle.board_core.proofs.Items.{get_front, get_last}

abbrev one_if : Bool → ℕ
one_if b = cond b 1 0

-- what a call adds to the count of a session
abbrev adds : ℕ → AcceptedCall → ℕ
adds session call = one_if (call.session == session)

length-cond : {X : Type 0} (b : Bool) (x : X) (xs : List X) → length (cond b (x ∷ xs) xs) ≡ one_if b + length xs
length-cond true x xs = omega arith
length-cond false x xs = omega arith

count-cons : (session : ℕ) (c : AcceptedCall) (calls : List AcceptedCall) → count_by session (c ∷ calls) ≡ adds session c + count_by session calls
count-cons session c calls = length-cond (c.session == session) c (filter (λ (x : AcceptedCall). x.session == session) calls)

adds_one : (session : ℕ) (c : AcceptedCall) → c.session ≡ session → adds session c ≡ 1
adds_one session c same = elim (eqb_tells c.session session) [ inl x ↦ ap one_if x.0 | inr x ↦ absurd (x.1 same) ]

adds_none : (session : ℕ) (c : AcceptedCall) → c.session ≢ session → adds session c ≡ 0
adds_none session c other = elim (eqb_tells c.session session) [ inl x ↦ absurd (other x.1) | inr x ↦ ap one_if x.0 ]

pub count-snoc : (session : ℕ) (calls : List AcceptedCall) (c : AcceptedCall) → count_by session (calls ++ c ∷ []) ≡ count_by session calls + adds session c
count-snoc session [] c = omega (arith, count-cons session c [])
count-snoc session (x ∷ calls) c = omega (arith, count-cons session x (calls ++ c ∷ []), count-cons session x calls, count-snoc session calls c)

-- another session's call leaves the count
pub count_other : (session : ℕ) (calls : List AcceptedCall) (c : AcceptedCall) → c.session ≢ session → count_by session (calls ++ c ∷ []) ≡ count_by session calls
count_other session calls c other = omega (arith, count-snoc session calls c, adds_none session c other)

-- its own adds one
pub count_own : (session : ℕ) (calls : List AcceptedCall) (c : AcceptedCall) → c.session ≡ session → count_by session (calls ++ c ∷ []) ≡ count_by session calls + 1
count_own session calls c same = omega (arith, count-snoc session calls c, adds_one session c same)

-- a call of a session has more of the session's calls up to it than each place before it
grows : (session : ℕ) (calls : List AcceptedCall) (m n : ℕ) (call : AcceptedCall) → m < n → call_at calls n ≡ Some call → call.session ≡ session → count_by session (take m calls) < count_by session (take n calls)
grows session calls m zero call less is same = absurd cc
grows session [] m (suc k) call less is same = absurd cc
grows session (c ∷ calls) zero (suc zero) call less is same =
    omega (arith, count-cons session c [], adds_one session c (ap (λ (x : AcceptedCall). x.session) (ap (λ o. unwrap_or o c) is) ∙ same))
grows session (c ∷ calls) zero (suc (suc k)) call less is same =
    omega (arith, count-cons session c (take (suc k) calls), grows session calls zero (suc k) call (omega arith) is same)
grows session (c ∷ calls) (suc j) (suc zero) call less is same = absurd (omega (arith, less))
grows session (c ∷ calls) (suc j) (suc (suc k)) call less is same =
    omega (arith, count-cons session c (take j calls), count-cons session c (take (suc k) calls), grows session calls j (suc k) call (omega (arith, less)) is same)

-- the count up to a place is no more than the whole
count_le : (session n : ℕ) (calls : List AcceptedCall) → count_by session (take n calls) ≤ count_by session calls
count_le session zero calls = omega arith
count_le session (suc n) [] = omega arith
count_le session (suc n) (c ∷ calls) = omega (arith, count-cons session c (take n calls), count-cons session c calls, count_le session n calls)

above : (calls : List AcceptedCall) (session key n : ℕ) → HasKey calls session key n → 0 < n
above calls session key zero h = absurd (none (h.there))
  where
    none : {call : AcceptedCall} → ◌≡◌ {A = Option AcceptedCall} None (Some call) → ⊥
    none is = cc
above calls session key (suc n) h = omega arith

pub key_below : (calls : List AcceptedCall) (session key n : ℕ) → HasKey calls session key n → (0 < key) × (key < next_key calls session)
key_below calls session key n h = (
  omega (arith, h.rank, grows session calls zero n h.call (above calls session key n h) h.there h.caller),
  omega (arith, h.rank, count_le session n calls),
)

pub key_order : (calls : List AcceptedCall) (session j k m n : ℕ) → HasKey calls session j m → HasKey calls session k n → m < n → j < k
key_order calls session j k m n g h less = omega (arith, g.rank, h.rank, grows session calls m n h.call less h.there h.caller)

key_back : (calls : List AcceptedCall) (session j k m n : ℕ) → HasKey calls session j m → HasKey calls session k n → j < k → m < n
key_back calls session j k m n g h less = elim (cases_lt m n) [
  | inl x ↦ x
  | inr x ↦ elim (cases_lt n m) [
    | inl y ↦ absurd (omega (arith, less, key_order calls session k j n m h g y))
    | inr y ↦ absurd (omega (arith, less, g.rank, h.rank, ap (λ i. count_by session (take i calls)) (same m n x y)))
  ]
]
  where
    same : (m n : ℕ) → n ≤ m → m ≤ n → m ≡ n
    same m n a b = omega (arith, a, b)

pub key_one : (calls : List AcceptedCall) (session key m n : ℕ) → HasKey calls session key m → HasKey calls session key n → m ≡ n
key_one calls session key m n g h = elim (cases_lt m n) [
  | inl x ↦ absurd (omega (arith, key_order calls session key key m n g h x))
  | inr x ↦ elim (cases_lt n m) [
    | inl y ↦ absurd (omega (arith, key_order calls session key key n m h g y))
    | inr y ↦ omega (arith, x, y)
  ]
]

-- one call more in front
key_front : (calls : List AcceptedCall) (c : AcceptedCall) (session key n : ℕ) → HasKey calls session key n → HasKey (c ∷ calls) session (adds session c + key) (suc n)
key_front calls c session key zero h = absurd (omega (arith, above calls session key zero h))
key_front calls c session key (suc n) h = record {
  call = h.call;
  there = h.there;
  caller = h.caller;
  rank = count-cons session c (take (suc n) calls) ∙ ap (λ k. adds session c + k) h.rank;
}

-- each key below the next one has a call
abbrev HasEach : List AcceptedCall → ℕ → Type 0
HasEach calls session = (key : ℕ) → 0 < key → key < next_key calls session → (n : ℕ) × HasKey calls session key n

each_own : (c : AcceptedCall) (calls : List AcceptedCall) (session : ℕ) → c.session ≡ session → HasEach calls session → (key : ℕ) → 0 < key → key ≤ next_key calls session → (n : ℕ) × HasKey (c ∷ calls) session key n
each_own c calls session same each zero some less = absurd (omega (arith, some))
each_own c calls session same each (suc zero) some less = (1, record { call = c; there = refl; caller = same; rank = omega (arith, count-cons session c [], adds_one session c same) })
each_own c calls session same each (suc (suc k)) some less =
    let h = each (suc k) (omega arith) (omega (arith, less)) in
    (suc h.0, subst (λ i. HasKey (c ∷ calls) session i (suc h.0)) (omega (arith, adds_one session c same)) (key_front calls c session (suc k) h.0 h.1))

each_other : (c : AcceptedCall) (calls : List AcceptedCall) (session key : ℕ) → c.session ≢ session → ((n : ℕ) × HasKey calls session key n) → (n : ℕ) × HasKey (c ∷ calls) session key n
each_other c calls session key differ h = (suc h.0, subst (λ i. HasKey (c ∷ calls) session i (suc h.0)) (omega (arith, adds_none session c differ)) (key_front calls c session key h.0 h.1))

pub key_each : (calls : List AcceptedCall) (session : ℕ) → HasEach calls session
key_each [] session key some less = absurd (omega (arith, some, less))
key_each (c ∷ calls) session key some less = elim (eqb_tells c.session session) [
  | inl x ↦ each_own c calls session x.1 (key_each calls session) key some (omega (arith, less, count-cons session c calls, adds_one session c x.1))
  | inr x ↦ each_other c calls session key x.1 (key_each calls session key some (omega (arith, less, count-cons session c calls, adds_none session c x.1)))
]

take_front : {X : Type 0} (n : ℕ) (xs ys : List X) → n ≤ length xs → take n (xs ++ ys) ≡ take n xs
take_front zero xs ys less = refl
take_front (suc n) [] ys less = absurd (omega (arith, less))
take_front (suc n) (x ∷ xs) ys less = ap (λ zs. x ∷ zs) (take_front n xs ys (omega (arith, less)))

-- a call more leaves the keys of the others
pub key_stays : (calls : List AcceptedCall) (c : AcceptedCall) (session key n : ℕ) → HasKey calls session key n → HasKey (calls ++ c ∷ []) session key n
key_stays calls c session key zero h = absurd (omega (arith, above calls session key zero h))
key_stays calls c session key (suc n) h = record {
  call = h.call;
  there = get_front calls (c ∷ []) n h.call h.there;
  caller = h.caller;
  rank = ap (count_by session) (take_front (suc n) calls (c ∷ []) (omega (arith, slice_get_within calls n h.call h.there))) ∙ h.rank;
}

suc_one : (n : ℕ) → suc n ≡ n + 1
suc_one n = omega arith

-- and has its session's next key
pub key_joins : (calls : List AcceptedCall) (c : AcceptedCall) (session : ℕ) → c.session ≡ session → HasKey (calls ++ c ∷ []) session (next_key calls session) (length calls + 1)
key_joins calls c session same = subst (λ n. HasKey (calls ++ c ∷ []) session (next_key calls session) n) (suc_one (length calls)) (record {
  call = c;
  there = get_last calls c;
  caller = same;
  rank = ap (count_by session) (take_all (suc (length calls)) (calls ++ c ∷ []) (omega (arith, length-append calls (c ∷ [])))) ∙ count_own session calls c same;
})

pub keys_are_exact : KeysAreExact
keys_are_exact = record {
  below = key_below;
  one = key_one;
  each = key_each;
  in_order = λ calls session j k m n g h. (key_order calls session j k m n g h, key_back calls session j k m n g h);
  stays = key_stays;
  joins = λ calls call. key_joins calls call call.session refl;
}

once_from : (calls : List AcceptedCall) (history : List Noted) → Every (IsNoted calls) history → EachPair (λ (e f : Noted). e.session ≡ f.session → e.number < f.number) history
    → EachPair (λ (e f : Noted). e.session ≡ f.session → key_of calls e ≢ key_of calls f) history
once_from calls [] noted pairs = tt
once_from calls (e ∷ history) noted pairs = (
  Every-both (IsNoted calls) (λ (f : Noted). e.session ≡ f.session → e.number < f.number) (λ (f : Noted). e.session ≡ f.session → key_of calls e ≢ key_of calls f)
      (λ f is later same keys. absurd (omega (arith, keys, ap (λ s. count_by s (take e.number calls)) same, grows f.session calls e.number f.number is.call (later same) is.there (sym is.session)))) history noted.1 pairs.0,
  once_from calls history noted.1 pairs.1,
)

pub keys_stand_once : KeysStandOnce
keys_stand_once b h = once_from b.calls b.history h.told.noted h.told.in_order
