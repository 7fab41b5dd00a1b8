-- What stands in the file that a run writes.
use Rattle.std.proofs.Common.{◌≡◌, ℕ, zero, suc, List, [], ◌∷◌, ◌<◌, length, Some, subst, refl, arith}
use Rattle.std.specs.Prelude.{slice_get}
use Rattle.page_core.specs.declared.plan.PageWrite.{PageWrite}
use Rattle.run_core.specs.declared.phase.Phase.{Phase}
use Rattle.run_core.specs.declared.phase.Phase.TheVariants.{Reading, Paging, Creating, Appending, Sealing, Ended}
use Rattle.run_core.specs.declared.run.Run.{Run}
use Rattle.run_core.specs.Phases.{PenHoldsIn, HasNoPen, pen_in}
use Rattle.run_core.specs.Runs.{PenHolds, run_pen}
use Rattle.page_core.proofs.ListBytes.{some_same}

kept_in : (old new : ℕ → List ℕ → Type 0) (phase : Phase) → ((n : ℕ) (b : List ℕ) → pen_in phase ≡ Some n → old n b → new n b) → PenHoldsIn old phase → PenHoldsIn new phase
kept_in old new (Reading r) stays is = tt
kept_in old new (Paging m) stays is = tt
kept_in old new (Creating plan) stays is = tt
kept_in old new (Appending plan pen) stays is = stays pen.number [] refl is
kept_in old new (Sealing plan pen) stays is = λ write here. stays pen.number write.bytes refl (is write here)
kept_in old new (Ended reply left) stays is = tt

pub some_at : (xs : List PageWrite) (n : ℕ) → n < length xs → (x : PageWrite) × (slice_get xs n ≡ Some x)
some_at [] n low = absurd (omega (arith, low))
some_at (x ∷ xs) zero low = (x, refl)
some_at (x ∷ xs) (suc n) low = some_at xs n (omega (arith, low))

pending_in : (pending : ℕ → List ℕ → Type 0) (phase : Phase) (n : ℕ) → pen_in phase ≡ Some n → PenHoldsIn pending phase → (b : List ℕ) × pending n b
pending_in pending (Reading r) n at is = absurd cc
pending_in pending (Paging m) n at is = absurd cc
pending_in pending (Creating plan) n at is = absurd cc
pending_in pending (Appending plan pen) n at is = ([], subst (λ m. pending m []) (some_same at) is)
pending_in pending (Sealing plan pen) n at is =
    let c = some_at plan.pages.writes.items (length plan.pages.sealed.items) plan.left in
    (c.0.bytes, subst (λ m. pending m c.0.bytes) (some_same at) (is c.0 c.1))
pending_in pending (Ended reply left) n at is = absurd cc

-- what a run appended stays where its file does
pub kept : (old new : ℕ → List ℕ → Type 0) (run : Run) → ((n : ℕ) (b : List ℕ) → run_pen run ≡ Some n → old n b → new n b) → PenHolds old run → PenHolds new run
kept old new run stays is = kept_in old new run.phase stays is

-- something is known of its file
pub pending_of : (pending : ℕ → List ℕ → Type 0) (run : Run) (n : ℕ) → run_pen run ≡ Some n → PenHolds pending run → (b : List ℕ) × pending n b
pending_of pending run n at is = pending_in pending run.phase n at is

-- one that writes no file writes none of any number
pub no_file : (phase : Phase) (n : ℕ) → HasNoPen phase → pen_in phase ≡ Some n → ⊥
no_file (Reading r) n none at = absurd cc
no_file (Paging m) n none at = absurd cc
no_file (Creating plan) n none at = absurd cc
no_file (Appending plan pen) n none at = none
no_file (Sealing plan pen) n none at = none
no_file (Ended reply left) n none at = absurd cc
