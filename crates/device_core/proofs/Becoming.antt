-- What a changed file has become.
use Rattle.std.proofs.Common.{◌≡◌, ℕ, suc, ◌+◌, List, [], ◌∷◌, ◌++◌, Some, length, refl, sym, ap, ◌∙◌, subst, arith}
use Rattle.std.specs.Prelude.{slice_get}
use Rattle.device_core.specs.declared.file.File.{File}
use Rattle.device_core.specs.declared.file.State.{State}
use Rattle.device_core.specs.declared.file.State.TheVariants.{Open, Sealed}
use Rattle.device_core.specs.Files.{file_at, open_of, open_bytes, kept_of, kept_bytes, IsOpen, IsKept, Serves, Puts, Becomes}
use Rattle.device_core.proofs.Slots.{puts_push, some_same}

-- what is pending of an open file are its bytes
pub open_holds : (files : List File) (i n : ℕ) (file : File) → slice_get files i ≡ Some file → n ≡ suc i → file.state ≡ Open
    → (b : List ℕ) → IsOpen files n b → file.bytes.items ≡ b
open_holds files i n file is number opened b pending =
    some_same (sym (ap (open_bytes file) opened) ∙ sym (ap open_of is) ∙ ap (λ k. open_of (file_at files k)) (sym number) ∙ pending)

pub is_open_at : (files : List File) (i n : ℕ) (file : File) → slice_get files i ≡ Some file → n ≡ suc i → file.state ≡ Open → IsOpen files n file.bytes.items
is_open_at files i n file is number opened = ap (λ k. open_of (file_at files k)) number ∙ ap open_of is ∙ ap (open_bytes file) opened

-- what can be read of a sealed file are its bytes
pub kept_holds : (files : List File) (i n : ℕ) (file : File) → slice_get files i ≡ Some file → n ≡ suc i → file.state ≡ Sealed
    → (b : List ℕ) → IsKept files n b → file.bytes.items ≡ b
kept_holds files i n file is number sealed b kept =
    some_same (sym (ap (kept_bytes file) sealed) ∙ sym (ap kept_of is) ∙ ap (λ k. kept_of (file_at files k)) (sym number) ∙ kept)

-- a file whose state was changed
pub marked : (old new : List File) (i n : ℕ) (file : File) (state : State) → Puts old new (suc i) (record file { state = state }) → n ≡ suc i
    → (b : List ℕ) → file.bytes.items ≡ b → Becomes old new n state b
marked old new i n file state puts number b holds =
    (record file { state = state }, subst (λ k. Puts old new k (record file { state = state })) (sym number) puts, refl, holds)

-- a file that was added
pub begun : (files : List File) (file : File) → file.state ≡ Open → file.bytes.items ≡ []
    → Becomes files (files ++ file ∷ []) (length files + 1) Open []
begun files file opened empty =
    let number : suc (length files) ≡ length files + 1 = omega arith in
    (file, subst (λ k. Puts files (files ++ file ∷ []) k file) number (puts_push files file), opened, empty)

-- a sealed file is served
pub sealed_serves : (old new : List File) (n len : ℕ) (b : List ℕ) → Becomes old new n Sealed b → len ≡ length b → Serves new (record { number = n; len = len })
sealed_serves old new n len b is long =
    (b, ap kept_of is.1.there ∙ ap (kept_bytes is.0) is.2 ∙ ap (λ c. Some c) is.3, omega (arith, long))
