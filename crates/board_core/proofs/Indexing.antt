-- The numbers of the calls of each session.
use Rattle.std.proofs.Common.{get_or, ◌==◌, ◌≡◌, ◌≢◌, ℕ, zero, suc, ◌+◌, ◌-◌, ◌<◌, ◌≤◌, inl, inr, List, [], ◌∷◌, ◌++◌, length, Some, None, refl, sym, ◌∙◌, ap, subst, arith, map, length-append, replicate}
use Rattle.std.specs.Prelude.{slice_get, slice_set, slice_index_or, unwrap_or}
use Rattle.std.proofs.Math.ListN.{length-set}
use Rattle.std.proofs.Math.Seq.{map-set_same}
use Rattle.std.proofs.lemmas.List.{map-set}
use Rattle.std.proofs.lemmas.Option.{slice_get-get_or, same_Some}
use Rattle.page_core.specs.ObjectCalls.{AcceptedCall}
use Rattle.board_core.specs.Keys.{count_by, HasKey, next_key}
use Rattle.board_core.specs.Index.{number_in, AreNumbers, AreIndexed}
use Rattle.page_core.proofs.Lists.{filter_le}
use Rattle.board_core.proofs.Items.{get_more, get_set}
use Rattle.board_core.proofs.Keys.{count_other, count_own, key_stays, key_joins}

get_map : {X Y : Type 0} (f : X → Y) (xs : List X) (k : ℕ) (x : X) → slice_get xs k ≡ Some x → slice_get (map f xs) k ≡ Some (f x)
get_map f [] k x is = absurd cc
get_map f (y ∷ xs) zero x is = ap (λ o. Some (f (unwrap_or o y))) is
get_map f (y ∷ xs) (suc k) x is = get_map f xs k x is

-- a row that gets one number more
pub row_more : {X : Type 0} (f : X → List ℕ) (xs : List X) (k : ℕ) (x y : X) (row : List ℕ) (n : ℕ) → k < length xs → x ≡ slice_index_or xs k x → f y ≡ f x ++ n ∷ [] → slice_get (map f xs) k ≡ Some row
    → map f (slice_set xs k y) ≡ slice_set (map f xs) k (row ++ n ∷ [])
row_more f xs k x y row n within is made there =
    let here : slice_get xs k ≡ Some x = slice_get-get_or xs k x within ∙ ap Some (sym is) in
    let same : f x ≡ row = same_Some (f x) row (sym (get_map f xs k x here) ∙ there) in
    map-set f xs k y ∙ ap (slice_set (map f xs) k) (made ∙ ap (λ r. r ++ n ∷ []) same)

-- a row that stays
pub row_same : {X : Type 0} (f : X → List ℕ) (xs : List X) (k : ℕ) (x y : X) → x ≡ slice_index_or xs k x → f y ≡ f x → map f (slice_set xs k y) ≡ map f xs
row_same f xs k x y is same = map-set_same f xs k y x (same ∙ ap f is)

-- another session's call leaves the numbers
numbers_other : (calls : List AcceptedCall) (call : AcceptedCall) (session : ℕ) (row : List ℕ) → call.session ≢ session → AreNumbers calls session row → AreNumbers (calls ++ call ∷ []) session row
numbers_other calls call session row other h = record {
  all = h.all ∙ sym (count_other session calls call other);
  at = λ k n is. key_stays calls call session (suc k) n (h.at k n is);
}

-- a call of the session adds its own
numbers_own : (calls : List AcceptedCall) (call : AcceptedCall) (session : ℕ) (row : List ℕ) → call.session ≡ session → AreNumbers calls session row → AreNumbers (calls ++ call ∷ []) session (row ++ (length calls + 1) ∷ [])
numbers_own calls call session row same h = record {
  all = omega (arith, length-append row ((length calls + 1) ∷ []), h.all, count_own session calls call same);
  at = λ k n is. elim (get_more row (length calls + 1) k n is) [
    | inl there ↦ key_stays calls call session (suc k) n (h.at k n there)
    | inr new ↦ subst (HasKey (calls ++ call ∷ []) session (suc k)) new.1 (subst (λ key. HasKey (calls ++ call ∷ []) session key (length calls + 1)) (key_is k (length row) new.0 h.all) (key_joins calls call session same))
  ];
}
  where
    key_is : (k count : ℕ) → k ≡ count → count ≡ count_by session calls → next_key calls session ≡ suc k
    key_is k count e f = omega (arith, e, f)

-- the rows after a call of a session
pub indexed_joined : (calls : List AcceptedCall) (call : AcceptedCall) (rows : List (List ℕ)) (row : List ℕ) → AreIndexed calls rows → 0 < call.session → slice_get rows (call.session - 1) ≡ Some row
    → AreIndexed (calls ++ call ∷ []) (slice_set rows (call.session - 1) (row ++ (length calls + 1) ∷ []))
indexed_joined calls call rows row h above there = record {
  each = length-set rows (call.session - 1) (row ++ (length calls + 1) ∷ []) ∙ h.each;
  at = λ k r is. elim (get_set rows (call.session - 1) (row ++ (length calls + 1) ∷ []) k r is) [
    | inl here ↦ subst (AreNumbers (calls ++ call ∷ []) (suc k)) here.1
        (numbers_own calls call (suc k) row (omega (arith, here.0, above)) (h.at k row (ap (slice_get rows) here.0 ∙ there)))
    | inr other ↦ numbers_other calls call (suc k) r (λ same. other.0 (omega (arith, same))) (h.at k r other.1)
  ];
}

get_replicate : (n k : ℕ) (row : List ℕ) → slice_get (replicate n []) k ≡ Some row → row ≡ []
get_replicate zero k row is = absurd cc
get_replicate (suc n) zero row is = ap (λ o. unwrap_or o row) (sym is)
get_replicate (suc n) (suc k) row is = get_replicate n k row is

length-replicate : (n : ℕ) → length (replicate {A = List ℕ} n []) ≡ n
length-replicate zero = refl
length-replicate (suc n) = omega (arith, length-replicate n)

no_numbers : (session : ℕ) → AreNumbers [] session []
no_numbers session = record { all = refl; at = λ k n is. absurd (none k n is) }
  where
    none : (k n : ℕ) → slice_get [] k ≡ Some n → ⊥
    none k n is = cc

-- without calls each row is empty
pub indexed_opened : (rows : List (List ℕ)) → rows ≡ replicate 1024 [] → AreIndexed [] rows
indexed_opened rows are = record {
  each = ap length are ∙ length-replicate 1024;
  at = λ k row is. subst (AreNumbers [] (suc k)) (sym (get_replicate 1024 k row (ap (λ rs. slice_get rs k) (sym are) ∙ is))) (no_numbers (suc k));
}

-- the row of a session
pub row_at : (calls : List AcceptedCall) (rows : List (List ℕ)) (session : ℕ) → AreIndexed calls rows → 0 < session → session ≤ 1024 → (row : List ℕ) × (slice_get rows (session - 1) ≡ Some row) × AreNumbers calls session row
row_at calls rows session h above below =
    let row : List ℕ = get_or rows (session - 1) [] in
    let there : slice_get rows (session - 1) ≡ Some row = slice_get-get_or rows (session - 1) [] (omega (arith, h.each, above, below)) in
    (row, there, subst (λ s. AreNumbers calls s row) (omega (arith, above)) (h.at (session - 1) row there))

none_past : (row : List ℕ) (k : ℕ) → slice_get row k ≡ None → length row ≤ k
none_past [] k none = omega arith
none_past (n ∷ row) zero none = absurd cc
none_past (n ∷ row) (suc k) none = omega (arith, none_past row k none)

-- a key that has no number is past all that have
pub key_past : (row : List ℕ) (key : ℕ) → 0 < key → number_in row key ≡ None → length row < key
key_past row zero above none = absurd (omega (arith, above))
key_past row (suc k) above none = omega (arith, none_past row k none)

-- a key that has one is that of a call
pub key_found : (calls : List AcceptedCall) (session : ℕ) (row : List ℕ) (key n : ℕ) → AreNumbers calls session row → number_in row key ≡ Some n → HasKey calls session key n
key_found calls session row zero n h is = absurd cc
key_found calls session row (suc k) n h is = h.at k n is

-- a session makes no more calls than there are
pub count_few : (session : ℕ) (calls : List AcceptedCall) → count_by session calls ≤ length calls
count_few session calls = filter_le (λ (c : AcceptedCall). c.session == session) calls
