-- The operations of line 1, word by word.
use Rattle.std.proofs.Common.{◌≡◌, ◌≢◌, ℕ, ◌+◌, ◌<◌, ◌≤◌, List, [], ◌∷◌, ◌++◌, length, slice_index_or, refl, suc, zero, sym, ap, ◌∙◌, subst, arith, length-append, append_assoc}
use Rattle.std.specs.Prelude.{All, AllPairs, map}
use Rattle.std.specs.Str.{str_to_ascii_lowercase}
use Rattle.std.proofs.lemmas.List.{length-map, map-append, append-nil}
use Rattle.std.proofs.lemmas.List.Quantifiers.{all_pairs_push}
use Rattle.std.proofs.Math.ListN.{get_or-append}
use Rattle.std.proofs.Math.Seq.{get_or-append_seam}
use Rattle.std.proofs.lemmas.List.Elements.{All-append}
use Rattle.path_count.specs.Words.{words}
use Rattle.path_count.specs.Named.{IsUnnamed}
use Rattle.path_count.specs.Told.{AreOperations, IsOperationName}

-- the words so far are operations, and these are their names
pub record Named (line rest : List ℕ) (names : List (List ℕ)) : Type 0 where
  pub front : List (List ℕ)
  pub cut : words line ≡ front ++ words rest
  pub lower : names ≡ map str_to_ascii_lowercase front
  pub few : length front ≤ 32
  pub each : All IsOperationName front
  pub differ : AllPairs (λ a b. a ≢ b) (map str_to_ascii_lowercase front)

-- what holds of an element holds of the list of it alone
alone : {X : Type 0} (P : X → Type 0) (x : X) → P x → All P (x ∷ [])
alone P x holds zero d within = holds
alone P x holds (suc k) d within = absurd (omega arith)

-- the element behind a front
behind : {X : Type 0} (xs : List X) (y : X) (ys all : List X) (d : X) → all ≡ xs ++ y ∷ ys → slice_index_or all (length xs) d ≡ y
behind xs y ys all d same = rw same (get_or-append_seam xs y ys d)

pub Named-none : (line : List ℕ) → Named line line []
Named-none line = record {
  front = [];
  cut = refl;
  lower = refl;
  few = omega arith;
  each = λ k d within. absurd (omega arith);
  differ = λ i j d below within. absurd (omega arith);
}

-- as many names as words
same_length : (line rest : List ℕ) (names : List (List ℕ)) (so : Named line rest names) → length names ≡ length so.front
same_length line rest names so = ap length so.lower ∙ length-map so.front str_to_ascii_lowercase

-- one word more
pub Named-more : (line rest tail word name : List ℕ) (names : List (List ℕ)) → Named line rest names → words rest ≡ word ∷ words tail
    → length names < 32 → IsOperationName word → IsUnnamed names word → name ≡ str_to_ascii_lowercase word → Named line tail (names ++ name ∷ [])
Named-more line rest tail word name names so next few is new lower =
    let moved : map str_to_ascii_lowercase (so.front ++ word ∷ []) ≡ names ++ name ∷ [] =
    map-append str_to_ascii_lowercase so.front (word ∷ []) ∙ ap (λ ns. ns ++ str_to_ascii_lowercase word ∷ []) (sym so.lower) ∙ ap (λ n. names ++ n ∷ []) (sym lower) in
    let differ_so : AllPairs (λ a b. a ≢ b) names = subst (AllPairs (λ a b. a ≢ b)) (sym so.lower) so.differ in
    record {
      front = so.front ++ word ∷ [];
      cut = so.cut ∙ ap (λ ws. so.front ++ ws) next ∙ sym (append_assoc so.front (word ∷ []) (words tail));
      lower = sym moved;
      few = omega (arith, same_length line rest names so, length-append so.front (word ∷ []));
      each = All-append IsOperationName so.front (word ∷ []) so.each (alone IsOperationName word is);
      differ = subst (AllPairs (λ a b. a ≢ b)) (sym moved)
          (all_pairs_push (λ a b. a ≢ b) names name differ_so (λ k d within same. new k d within (same ∙ lower)));
    }

-- a word that is no further operation
pub Named-refused : (line rest tail word : List ℕ) (names : List (List ℕ)) → Named line rest names → words rest ≡ word ∷ words tail
    → (length names < 32 → IsOperationName word → IsUnnamed names word → ⊥) → AreOperations (words line) → ⊥
Named-refused line rest tail word names so next refused are =
    let count = same_length line rest names so in
    let all : words line ≡ so.front ++ word ∷ words tail = so.cut ∙ ap (λ ws. so.front ++ ws) next in
    let lowered : map str_to_ascii_lowercase (words line) ≡ names ++ str_to_ascii_lowercase word ∷ map str_to_ascii_lowercase (words tail) =
    ap (map str_to_ascii_lowercase) all ∙ map-append str_to_ascii_lowercase so.front (word ∷ words tail)
    ∙ ap (λ ns. ns ++ str_to_ascii_lowercase word ∷ map str_to_ascii_lowercase (words tail)) (sym so.lower) in
    let size : length (words line) ≡ length so.front + (1 + length (words tail)) = ap length all ∙ length-append so.front (word ∷ words tail) ∙ omega arith in
    let lowered_size : length (map str_to_ascii_lowercase (words line)) ≡ length (words line) = length-map (words line) str_to_ascii_lowercase in
    refused (omega (arith, are.few))
    (subst IsOperationName (behind so.front word (words tail) (words line) [] all) (are.each (length so.front) [] (omega arith)))
    (λ k d within same. are.differ k (length names) d within (omega arith)
    (rw lowered (get_or-append names (str_to_ascii_lowercase word ∷ map str_to_ascii_lowercase (words tail)) d k within ∙ same
    ∙ sym (get_or-append_seam names (str_to_ascii_lowercase word) (map str_to_ascii_lowercase (words tail)) d))))

-- no word is left
pub Named-whole : (line rest : List ℕ) (names : List (List ℕ)) → Named line rest names → words rest ≡ [] → (length names ≡ 0 → ⊥)
    → AreOperations (words line) × (names ≡ map str_to_ascii_lowercase (words line))
Named-whole line rest names so none some =
    let count = same_length line rest names so in
    let all : so.front ≡ words line = sym (append-nil so.front) ∙ ap (λ ws. so.front ++ ws) (sym none) ∙ sym so.cut in
    let front_are : AreOperations so.front = record { some = omega arith; few = so.few; each = so.each; differ = so.differ } in
    (subst AreOperations all front_are, so.lower ∙ ap (map str_to_ascii_lowercase) all)

pub Named-empty : (line rest : List ℕ) (names : List (List ℕ)) → Named line rest names → words rest ≡ [] → length names ≡ 0 → AreOperations (words line) → ⊥
Named-empty line rest names so none empty are =
    let count = same_length line rest names so in
    let all : so.front ≡ words line = sym (append-nil so.front) ∙ ap (λ ws. so.front ++ ws) (sym none) ∙ sym so.cut in
    absurd (omega (arith, are.some, ap length all))
