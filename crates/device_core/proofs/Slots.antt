-- What a change of one file leaves.
use Rattle.std.proofs.Common.{◌≡◌, ◌≢◌, ◌⊎◌, ℕ, zero, suc, ◌<◌, ◌≤◌, ◌+◌, List, [], ◌∷◌, ◌++◌, Some, None, length, get_or, refl, sym, ap, ◌∙◌, subst, arith, inl, inr}
use Rattle.std.specs.Prelude.{slice_get, slice_set, ◌↔◌}
use Rattle.std.proofs.Common.{length-append, take, drop}
use Rattle.std.proofs.lemmas.Option.{slice_get_past, slice_get-get_or}
use Rattle.device_core.specs.declared.file.State.{State}
use Rattle.device_core.specs.declared.file.State.TheVariants.{Open, Sealed, Retired, Discarded}
use Rattle.std.specs.FinMap.{get}
use Rattle.device_core.specs.Device.{Assignment, Shows}
use Rattle.device_core.specs.declared.file.File.{File}
use Rattle.device_core.specs.Files.{file_at, sealed_of, open_of, sealed_bytes, open_bytes, HasFiles, IsOpen, IsKept, Puts, kept_bytes, kept_of}

got-set : {X : Type 0} (xs : List X) (i : ℕ) (x : X) → i < length xs → slice_get (slice_set xs i x) i ≡ Some x
got-set [] i x h = absurd (omega arith)
got-set (y ∷ xs) zero x h = refl
got-set (y ∷ xs) (suc i) x h = got-set xs i x (omega arith)

got-set_other : {X : Type 0} (xs : List X) (i j : ℕ) (x : X) → j ≢ i → slice_get (slice_set xs i x) j ≡ slice_get xs j
got-set_other [] i j x ne = refl
got-set_other (y ∷ xs) zero zero x ne = absurd (ne refl)
got-set_other (y ∷ xs) zero (suc j) x ne = refl
got-set_other (y ∷ xs) (suc i) zero x ne = refl
got-set_other (y ∷ xs) (suc i) (suc j) x ne = got-set_other xs i j x (λ e. ne (ap suc e))

got-last : {X : Type 0} (xs : List X) (x : X) → slice_get (xs ++ x ∷ []) (length xs) ≡ Some x
got-last [] x = refl
got-last (y ∷ xs) x = got-last xs x

got-before : {X : Type 0} (xs : List X) (x : X) (j : ℕ) → j ≢ length xs → slice_get (xs ++ x ∷ []) j ≡ slice_get xs j
got-before [] x zero ne = absurd (ne refl)
got-before [] x (suc j) ne = refl
got-before (y ∷ xs) x zero ne = refl
got-before (y ∷ xs) x (suc j) ne = got-before xs x j (λ e. ne (ap suc e))

-- one file is replaced
pub puts_set : (files : List File) (i : ℕ) (file : File) → i < length files → Puts files (slice_set files i file) (suc i) file
puts_set files i file h = record {
  there = got-set files i file h;
  elsewhere = elsewhere;
} where
  elsewhere : (m : ℕ) → m ≢ suc i → file_at (slice_set files i file) m ≡ file_at files m
  elsewhere zero ne = refl
  elsewhere (suc j) ne = got-set_other files i j file (λ e. ne (ap suc e))

-- one file is added
pub puts_push : (files : List File) (file : File) → Puts files (files ++ file ∷ []) (suc (length files)) file
puts_push files file = record {
  there = got-last files file;
  elsewhere = elsewhere;
} where
  elsewhere : (m : ℕ) → m ≢ suc (length files) → file_at (files ++ file ∷ []) m ≡ file_at files m
  elsewhere zero ne = refl
  elsewhere (suc j) ne = got-before files file j (λ e. ne (ap suc e))

-- a number is the changed one or another
dec : (m n : ℕ) → (m ≡ n) ⊎ (m ≢ n)
dec zero zero = inl refl
dec zero (suc n) = inr (λ e. absurd (omega arith))
dec (suc m) zero = inr (λ e. absurd (omega arith))
dec (suc m) (suc n) = elim (dec m n) [ inl e ↦ inl (ap suc e) | inr ne ↦ inr (λ e. ne (omega arith)) ]

-- what is sealed stays so
pub kept_sealed : (old new : List File) (n : ℕ) (file : File) → Puts old new n file → sealed_of (Some file) ≡ sealed_of (file_at old n)
    → (m : ℕ) → sealed_of (file_at new m) ≡ sealed_of (file_at old m)
kept_sealed old new n file puts same m = elim (dec m n) [
  | inl e ↦ subst (λ k. sealed_of (file_at new k) ≡ sealed_of (file_at old k)) (sym e) (ap sealed_of puts.there ∙ same)
  | inr ne ↦ ap sealed_of (puts.elsewhere m ne)
]

-- a change that leaves what is sealed leaves the assignments
pub agrees_kept : (old new : List File) (n : ℕ) (file : File) → Puts old new n file → sealed_of (Some file) ≡ sealed_of (file_at old n)
    → (a : Assignment) → HasFiles new a ↔ HasFiles old a
agrees_kept old new n file puts same a = (
  λ has. record { each = λ m b e. has.each m b (kept_sealed old new n file puts same m ∙ e) },
  λ has. record { each = λ m b e. has.each m b (sym (kept_sealed old new n file puts same m) ∙ e) },
)

none_some : {x : List ℕ} → None ≡ Some x → ⊥
none_some e = cc

-- a file that was open is sealed
pub agrees_sealed : (old new : List File) (n : ℕ) (file : File) (bytes : List ℕ) → Puts old new n file
    → sealed_of (Some file) ≡ Some bytes → sealed_of (file_at old n) ≡ None
    → (a : Assignment) → HasFiles new a ↔ (HasFiles old a × (get a n ≡ Some bytes))
agrees_sealed old new n file bytes puts is was a =
    (λ has. (earlier has, has.each n bytes (ap sealed_of puts.there ∙ is)), later) where
      earlier : HasFiles new a → HasFiles old a
      earlier has = record {
        each = λ m b e. elim (dec m n) [
          | inl same ↦ absurd (none_some (sym was ∙ ap (λ k. sealed_of (file_at old k)) (sym same) ∙ e))
          | inr ne ↦ has.each m b (ap sealed_of (puts.elsewhere m ne) ∙ e)
        ];
      }

      later : HasFiles old a × (get a n ≡ Some bytes) → HasFiles new a
      later has = record {
        each = λ m b e. elim (dec m n) [
          | inl same ↦ ap (get a) same ∙ has.1 ∙ sym is ∙ sym (ap sealed_of puts.there) ∙ ap (λ k. sealed_of (file_at new k)) (sym same) ∙ e
          | inr ne ↦ has.0.each m b (sym (ap sealed_of (puts.elsewhere m ne)) ∙ e)
        ];
      }

pub open_others : (old new : List File) (n : ℕ) (file : File) → Puts old new n file
    → (m : ℕ) (b : List ℕ) → m ≢ n → IsOpen old m b → IsOpen new m b
open_others old new n file puts m b ne is = ap open_of (puts.elsewhere m ne) ∙ is

open_sealed : (file : File) → file.state ≡ Open → sealed_of (Some file) ≡ None
open_sealed file is = ap (sealed_bytes file) is

pub is_open : (file : File) → file.state ≡ Open → open_of (Some file) ≡ Some file.bytes.items
is_open file is = ap (open_bytes file) is

-- a new file leaves the assignments
pub add_agrees : (files : List File) (file : File) → file.state ≡ Open → (a : Assignment) → HasFiles (files ++ file ∷ []) a ↔ HasFiles files a
add_agrees files file is a = agrees_kept _ _ _ _ (puts_push files file)
    (open_sealed file is ∙ sym (ap sealed_of (slice_get_past files (length files) (omega arith)))) a

pub add_open : (files : List File) (file : File) (b : List ℕ) → file.state ≡ Open → file.bytes.items ≡ b → IsOpen (files ++ file ∷ []) (length (files ++ file ∷ [])) b
add_open files file b is holds =
    let at : length (files ++ file ∷ []) ≡ suc (length files) = omega (arith, length-append files (file ∷ [])) in
    let there : file_at (files ++ file ∷ []) (suc (length files)) ≡ Some file = (puts_push files file).there in
    subst (λ n. IsOpen (files ++ file ∷ []) n b) (sym at) (ap open_of there ∙ is_open file is ∙ ap (λ x. Some x) holds)

pub add_others : (files : List File) (file : File) (n : ℕ) (b : List ℕ) → IsOpen files n b → IsOpen (files ++ file ∷ []) n b
add_others files file n b is = elim (dec n (suc (length files))) [
  | inl e ↦ absurd (none_some (sym (ap open_of (slice_get_past files (length files) (omega arith))) ∙ ap (λ k. open_of (file_at files k)) (sym e) ∙ is))
  | inr ne ↦ open_others _ _ _ _ (puts_push files file) n b ne is
]

pub some_same : {X : Type 0} {x y : X} → Some x ≡ Some y → x ≡ y
some_same e = cc

-- a seal asks of the assignments just the bytes of its file
pub sealed_agrees : (old new : List File) (i : ℕ) (file : File) → slice_get old i ≡ Some file → file.state ≡ Open
    → Puts old new (suc i) (record file { state = Sealed }) → (len : ℕ) (got : File) → slice_get new i ≡ Some got → len ≡ length got.bytes.items
    → (b : List ℕ) → IsOpen old (suc i) b → (a : Assignment) → HasFiles new a ↔ (HasFiles old a × (get a (suc i) ≡ Some b) × (len ≡ length b))
sealed_agrees old new i file was opened puts len got is length_is b pending a =
    let bytes : file.bytes.items ≡ b = some_same (sym (ap open_of was ∙ is_open file opened) ∙ pending) in
    let after : record file { state = Sealed } ≡ got = some_same (sym puts.there ∙ is) in
    let both : HasFiles new a ↔ (HasFiles old a × (get a (suc i) ≡ Some b)) =
    agrees_sealed old new (suc i) (record file { state = Sealed }) b puts (ap (λ x. Some x) bytes) (ap sealed_of was ∙ open_sealed file opened) a in
    let len_is : len ≡ length b = length_is ∙ ap (λ (f : File). length f.bytes.items) (sym after) ∙ ap length bytes in
    (λ has. ((both.0 has).0, (both.0 has).1, len_is), λ has. both.1 (has.0, has.1))

-- what is read of a sealed file is what is assigned
pub read_shows : (files : List File) (i at n : ℕ) (file : File) (bytes : List ℕ) → slice_get files i ≡ Some file → file.state ≡ Sealed
    → at + length bytes ≤ length file.bytes.items → take (length bytes) (drop at file.bytes.items) ≡ bytes → n ≡ suc i
    → (a : Assignment) → HasFiles files a → Shows a n at bytes
read_shows files i at n file bytes is sealed within there number a has = record {
  file = file.bytes.items;
  assigned = has.each n file.bytes.items (ap (λ k. sealed_of (file_at files k)) number ∙ ap sealed_of is ∙ ap (sealed_bytes file) sealed);
  within = within;
  there = there;
}

-- a state that keeps the sealed bytes leaves the assignments
pub marked_agrees : (files after : List File) (i : ℕ) (file : File) (state : State) → slice_get files i ≡ Some file → Puts files after (suc i) (record file { state = state })
    → sealed_bytes (record file { state = state }) state ≡ sealed_bytes file file.state
    → (a : Assignment) → HasFiles after a ↔ HasFiles files a
marked_agrees files after i file state is puts same a = agrees_kept _ _ _ _ puts (same ∙ sym (ap sealed_of is)) a

-- an indexed file stands at its place
pub stands_at : (files : List File) (i : ℕ) (file : File) → i < length files → file ≡ get_or files i file → slice_get files i ≡ Some file
stands_at files i file h e = slice_get-get_or files i file h ∙ sym (ap (λ x. Some x) e)

open_state : (file : File) (state : State) (b : List ℕ) → open_bytes file state ≡ Some b → state ≡ Open
open_state file Open b e = refl
open_state file Sealed b e = absurd (none_some e)
open_state file Retired b e = absurd (none_some e)
open_state file Discarded b e = absurd (none_some e)

kept_state : (file : File) (state : State) (b : List ℕ) → kept_bytes file state ≡ Some b → state ≡ Sealed
kept_state file Open b e = absurd (none_some e)
kept_state file Sealed b e = refl
kept_state file Retired b e = absurd (none_some e)
kept_state file Discarded b e = absurd (none_some e)

-- a file in another state is not open
pub not_open : (files : List File) (i n : ℕ) (file : File) → slice_get files i ≡ Some file → n ≡ suc i → file.state ≢ Open
    → (b : List ℕ) → IsOpen files n b → ⊥
not_open files i n file is number shut b pending =
    shut (open_state file file.state b (sym (ap open_of is) ∙ ap (λ k. open_of (file_at files k)) (sym number) ∙ pending))

-- a file in another state cannot be read
pub not_kept : (files : List File) (i n : ℕ) (file : File) → slice_get files i ≡ Some file → n ≡ suc i → file.state ≢ Sealed
    → (b : List ℕ) → IsKept files n b → ⊥
not_kept files i n file is number other b kept =
    other (kept_state file file.state b (sym (ap kept_of is) ∙ ap (λ k. kept_of (file_at files k)) (sym number) ∙ kept))
