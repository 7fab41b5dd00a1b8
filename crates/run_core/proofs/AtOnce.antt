-- What a call has read that reads its parts one after the other.
use Rattle.std.proofs.Common.{◌≡◌, ℕ, ◌+◌, ◌<◌, ◌≤◌, inl, inr, arith}
use Rattle.std.proofs.lemmas.Bool.{cases_lt}
use Rattle.decl_core.specs.Bodies.{body_of}
use Rattle.decl_core.specs.Touched.{Reads}
use Rattle.page_core.specs.CallPins.{Call, IsNext}

-- each part that is read has its place
pub has_place : (call : Call) (from part after last : ℕ) → IsNext call from part → after ≡ part + 1 → after ≤ last → ((p : ℕ) → Reads (body_of call.operation).statements p → part + 1 ≤ p → p < last) → (p : ℕ) → Reads (body_of call.operation).statements p → from ≤ p → p < last
has_place call from part after last next is grows rest p reads ge = elim (cases_lt p part) [
  | inl lt ↦ absurd (next.first p reads ge lt)
  | inr there ↦ elim (cases_lt part p) [
    | inl lt ↦ rest p reads (omega (arith, lt))
    | inr le ↦ omega (arith, le, grows, is)
  ]
]
