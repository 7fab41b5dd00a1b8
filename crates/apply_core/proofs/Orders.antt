-- Texts are ordered as the numbers that their bytes spell, so many at a time.
use Rattle.std.proofs.Common.{◌≡◌, ◌≢◌, ℕ, suc, zero, ◌+◌, ◌*◌, ◌<◌, ◌≤◌, List, [], ◌∷◌, ◌++◌, length, refl, sym, ap, ◌∙◌, subst, arith}
use Rattle.std.specs.Prelude.{All, get_or}
use Rattle.std.specs.Int.{w64, from_be_bytes}
use Rattle.std.specs.declared.cmp.Ordering.{Ordering}
use Rattle.std.specs.declared.cmp.Ordering.TheVariants.{Less, Equal, Greater}
use Rattle.std.specs.Ordering.{nat_cmp, ordering_then}
use Rattle.std.specs.Cmp.{nat_cmp_is, ranked}
use Rattle.value_core.specs.TextOrder.{text_cmp}
use Rattle.std.proofs.lemmas.List.Elements.{All-nil, All-cons}
use Rattle.value_core.proofs.TableRows.{head, tail}
use Rattle.apply_core.proofs.Cutting.{first_eight, behind_eight, cut_eight}
use Rattle.apply_core.proofs.Integers.{AreBytes}

abbrev pub IsByte : ℕ → Type 0
IsByte b = b < 256

-- a number, and bytes behind it
abbrev worth : ℕ → List ℕ → ℕ
worth n [] = n
worth n (x ∷ xs) = worth (n * 256 + x) xs

less_stays : (xs ys : List ℕ) (m n : ℕ) → length xs ≡ length ys → All IsByte xs → m < n → worth m xs < worth n ys
less_stays [] [] m n long small less = less
less_stays [] (y ∷ ys) m n long small less = absurd (omega (arith, long))
less_stays (x ∷ xs) [] m n long small less = absurd (omega (arith, long))
less_stays (x ∷ xs) (y ∷ ys) m n long small less =
    let few : x < 256 = head IsByte x xs small in
    less_stays xs ys (m * 256 + x) (n * 256 + y) (omega (arith, long)) (tail IsByte x xs small) (omega (arith, few, less))

-- as many bytes are in the order of their numbers
as_numbers : (xs ys : List ℕ) (n : ℕ) → length xs ≡ length ys → All IsByte xs → All IsByte ys → nat_cmp (worth n xs) (worth n ys) ≡ text_cmp xs ys
as_numbers [] [] n long small little = sym (nat_cmp_is n n Equal refl)
as_numbers [] (y ∷ ys) n long small little = absurd (omega (arith, long))
as_numbers (x ∷ xs) [] n long small little = absurd (omega (arith, long))
as_numbers (x ∷ xs) (y ∷ ys) n long small little =
    let as_long : length xs ≡ length ys = omega (arith, long) in
    elim (nat_cmp x y) as (λ r. nat_cmp x y ≡ r → nat_cmp (worth (n * 256 + x) xs) (worth (n * 256 + y) ys) ≡ ordering_then r (text_cmp xs ys)) [
      | Less ↦ λ e.
          let less : x < y = ranked x y Less (sym e) in
          sym (nat_cmp_is (worth (n * 256 + x) xs) (worth (n * 256 + y) ys) Less (less_stays xs ys (n * 256 + x) (n * 256 + y) as_long (tail IsByte x xs small) (omega (arith, less))))
      | Equal ↦ λ e.
          let same : x ≡ y = ranked x y Equal (sym e) in
          ap (λ k. nat_cmp (worth (n * 256 + x) xs) (worth (n * 256 + k) ys)) (sym same) ∙ as_numbers xs ys (n * 256 + x) as_long (tail IsByte x xs small) (tail IsByte y ys little)
      | Greater ↦ λ e.
          let more : y < x = ranked x y Greater (sym e) in
          sym (nat_cmp_is (worth (n * 256 + x) xs) (worth (n * 256 + y) ys) Greater (less_stays ys xs (n * 256 + y) (n * 256 + x) (sym as_long) (tail IsByte y ys little) (omega (arith, more))))
    ] refl

then_then : (a b c : Ordering) → ordering_then a (ordering_then b c) ≡ ordering_then (ordering_then a b) c
then_then Less b c = refl
then_then Equal b c = refl
then_then Greater b c = refl

-- of two texts that begin with as many bytes these decide, then what is behind them
fronts_first : (xs ys r s : List ℕ) → length xs ≡ length ys → text_cmp (xs ++ r) (ys ++ s) ≡ ordering_then (text_cmp xs ys) (text_cmp r s)
fronts_first [] [] r s long = refl
fronts_first [] (y ∷ ys) r s long = absurd (omega (arith, long))
fronts_first (x ∷ xs) [] r s long = absurd (omega (arith, long))
fronts_first (x ∷ xs) (y ∷ ys) r s long = ap (ordering_then (nat_cmp x y)) (fronts_first xs ys r s (omega (arith, long))) ∙ then_then (nat_cmp x y) (text_cmp xs ys) (text_cmp r s)

-- eight bytes are worth so much
eight_worth : (a b c d e f g h : ℕ) → from_be_bytes w64 (a ∷ b ∷ c ∷ d ∷ e ∷ f ∷ g ∷ h ∷ []) ≡ worth 0 (a ∷ b ∷ c ∷ d ∷ e ∷ f ∷ g ∷ h ∷ [])
eight_worth a b c d e f g h = omega arith

eight_get : (bytes : List ℕ) → AreBytes bytes → (i : ℕ) → get_or (first_eight bytes) i 0 < 256
eight_get bytes small zero = small 0
eight_get bytes small (suc zero) = small 1
eight_get bytes small (suc (suc zero)) = small 2
eight_get bytes small (suc (suc (suc zero))) = small 3
eight_get bytes small (suc (suc (suc (suc zero)))) = small 4
eight_get bytes small (suc (suc (suc (suc (suc zero))))) = small 5
eight_get bytes small (suc (suc (suc (suc (suc (suc zero)))))) = small 6
eight_get bytes small (suc (suc (suc (suc (suc (suc (suc zero))))))) = small 7
eight_get bytes small (suc (suc (suc (suc (suc (suc (suc (suc i)))))))) = omega arith

each_byte : (xs : List ℕ) → ((i : ℕ) → get_or xs i 0 < 256) → All IsByte xs
each_byte [] small = All-nil IsByte
each_byte (x ∷ xs) small = All-cons IsByte x xs (small 0) (each_byte xs (λ i. small (suc i)))

worth_of : (bytes : List ℕ) → from_be_bytes w64 (first_eight bytes) ≡ worth 0 (first_eight bytes)
worth_of bytes = eight_worth (get_or bytes 0 0) (get_or bytes 1 0) (get_or bytes 2 0) (get_or bytes 3 0) (get_or bytes 4 0) (get_or bytes 5 0) (get_or bytes 6 0) (get_or bytes 7 0)

-- two texts of eight bytes and more: the numbers that these spell decide, then what is behind them
pub by_eight : (x y : List ℕ) (n m : ℕ) → 8 ≤ length x → 8 ≤ length y → AreBytes x → AreBytes y → n ≡ from_be_bytes w64 (first_eight x) → m ≡ from_be_bytes w64 (first_eight y) → text_cmp x y ≡ ordering_then (nat_cmp n m) (text_cmp (behind_eight x) (behind_eight y))
by_eight x y n m long_x long_y small_x small_y is_n is_m =
    let order = as_numbers (first_eight x) (first_eight y) 0 refl (each_byte (first_eight x) (eight_get x small_x)) (each_byte (first_eight y) (eight_get y small_y)) in
    let left : worth 0 (first_eight x) ≡ n = sym (is_n ∙ worth_of x) in
    let right : worth 0 (first_eight y) ≡ m = sym (is_m ∙ worth_of y) in
    let same : text_cmp (first_eight x) (first_eight y) ≡ nat_cmp n m = sym order ∙ ap (λ k. nat_cmp k (worth 0 (first_eight y))) left ∙ ap (nat_cmp n) right in
    ap (λ (r : List ℕ). text_cmp r y) (cut_eight x long_x) ∙ ap (text_cmp (first_eight x ++ behind_eight x)) (cut_eight y long_y)
    ∙ fronts_first (first_eight x) (first_eight y) (behind_eight x) (behind_eight y) refl ∙ ap (λ r. ordering_then r (text_cmp (behind_eight x) (behind_eight y))) same

decided : (r o : Ordering) → r ≢ Equal → ordering_then r o ≡ r
decided Less o differ = refl
decided Equal o differ = absurd (differ refl)
decided Greater o differ = refl

-- where the numbers differ they decide
pub by_front : (x y : List ℕ) (n m : ℕ) → 8 ≤ length x → 8 ≤ length y → AreBytes x → AreBytes y → n ≡ from_be_bytes w64 (first_eight x) → m ≡ from_be_bytes w64 (first_eight y) → (n ≡ m → ⊥) → text_cmp x y ≡ nat_cmp n m
by_front x y n m long_x long_y small_x small_y is_n is_m differ =
    by_eight x y n m long_x long_y small_x small_y is_n is_m ∙ decided (nat_cmp n m) (text_cmp (behind_eight x) (behind_eight y)) (λ e. differ (ranked n m Equal (sym e)))

-- where they are the same, what is behind them decides
pub by_rest : (x y : List ℕ) (n m : ℕ) → 8 ≤ length x → 8 ≤ length y → AreBytes x → AreBytes y → n ≡ from_be_bytes w64 (first_eight x) → m ≡ from_be_bytes w64 (first_eight y) → n ≡ m → text_cmp x y ≡ text_cmp (behind_eight x) (behind_eight y)
by_rest x y n m long_x long_y small_x small_y is_n is_m same =
    by_eight x y n m long_x long_y small_x small_y is_n is_m ∙ ap (λ r. ordering_then r (text_cmp (behind_eight x) (behind_eight y))) (ap (nat_cmp n) (sym same) ∙ sym (nat_cmp_is n n Equal refl))

bytes_aft : (xs ys : List ℕ) → AreBytes (xs ++ ys) → AreBytes ys
bytes_aft [] ys small = small
bytes_aft (x ∷ xs) ys small = bytes_aft xs ys (λ i. small (suc i))

-- what is behind eight of them are bytes
pub behind_bytes : (bytes : List ℕ) → 8 ≤ length bytes → AreBytes bytes → AreBytes (behind_eight bytes)
behind_bytes bytes long small = bytes_aft (first_eight bytes) (behind_eight bytes) (subst AreBytes (cut_eight bytes long) small)
