-- Notes and receipts, one by one.
use Rattle.std.proofs.Common.{◌≡◌, inl, inr, ℕ, List, [], ◌∷◌, Option, Some, true, false, length, arith, sym, refl, subst, ◌∙◌}
use Rattle.std.specs.Prelude.{IsTrue}
use Rattle.std.proofs.Math.Dec.{eqb}
use Rattle.std.proofs.lemmas.Bool.Decides.{eqb_tells}
use Rattle.office_core.specs.Slips.{Told}
use Rattle.session_core.specs.declared.note.ReplyNote.{ReplyNote}
use Rattle.session_core.specs.declared.output.Health.{Health}
use Rattle.session_core.specs.declared.output.Health.TheVariants.{Fine}
use Rattle.session_core.specs.declared.stage.SessionStage.TheVariants.{Free}
use Rattle.session_core.specs.declared.fault.SessionFault.{SessionFault}
use Rattle.session_core.specs.declared.fault.SessionFault.TheVariants as faults
use Rattle.session_text.specs.declared.fault.HearFault.{HearFault}
use Rattle.session_text.specs.declared.fault.HearFault.TheVariants as hears
use Rattle.session_core.specs.Written.{AreFirst, AreAll, IsSaid}
use Rattle.session_core.proofs.Saying.{fresh, last_fine}
use Rattle.session_core.specs.Causes.{IsCausedBy, IsCaused}

-- where there are as many of the ones as of the others, the first ones are all
pub all_of : (receipts : List Told) (notes : List ReplyNote) → length receipts ≡ length notes → AreFirst receipts notes → AreAll receipts notes
all_of [] [] same first = tt
all_of (r ∷ receipts) [] same first = absurd (omega (arith, same))
all_of [] (note ∷ notes) same first = absurd first
all_of (r ∷ receipts) (note ∷ notes) same first = (first.0, all_of receipts notes (omega (arith, same)) first.1)

-- where they are all, they are the first ones
pub first_of : (receipts : List Told) (notes : List ReplyNote) → AreAll receipts notes → AreFirst receipts notes
first_of [] [] all = tt
first_of (r ∷ receipts) [] all = absurd all
first_of [] (note ∷ notes) all = absurd all
first_of (r ∷ receipts) (note ∷ notes) all = (all.0, first_of receipts notes all.1)

-- and there are as many of them
pub as_many : (receipts : List Told) (notes : List ReplyNote) → AreAll receipts notes → length receipts ≡ length notes
as_many [] [] all = refl
as_many (r ∷ receipts) [] all = absurd all
as_many [] (note ∷ notes) all = absurd all
as_many (r ∷ receipts) (note ∷ notes) all = omega (arith, as_many receipts notes all.1)

-- two numbers that are not the same are not told to be
pub not_same : (a b : ℕ) → (a ≡ b → ⊥) → IsTrue (eqb a b) → ⊥
not_same a b other told = elim (eqb_tells a b) [ inl same ↦ other same.1 | inr h ↦ absurd (let e : true ≡ false = sym told ∙ h.0 in cc) ]

-- the cause of a session's fault: the notes are those of what was said, and the receipts and the writer go on unchanged
pub caused_of : (start now then : Option (List ℕ)) (receipts gone : List Told) (notes marks : List ReplyNote) (health : Health) (heard : Option HearFault) (fault : Option SessionFault)
    → IsSaid start now health notes → then ≡ now → gone ≡ receipts → marks ≡ notes → IsCausedBy receipts marks health heard fault → IsCaused start then gone heard fault
caused_of start now then receipts gone notes marks health heard fault said same items are by = (
  health,
  notes,
  subst (λ w. IsSaid start w health notes) (sym same) said,
  subst (λ r. IsCausedBy r notes health heard fault) (sym items) (subst (λ n. IsCausedBy receipts n health heard fault) are by),
)

-- where nothing was said, for want of memory
pub none_said : (start now : Option (List ℕ)) (receipts : List Told) → now ≡ start → receipts ≡ [] → IsCaused start now receipts (Some hears.Memory) (Some faults.Memory)
none_said start now receipts same none = (
  Fine,
  [],
  last_fine start now [] Fine [] Free refl refl tt (fresh start now [] [] same refl refl),
  subst (λ r. IsCausedBy r [] Fine (Some hears.Memory) (Some faults.Memory)) (sym none) (true, (λ t. tt, λ a. refl), refl),
)
