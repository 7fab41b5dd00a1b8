-- Calls of an operation, one behind another.
use Rattle.std.proofs.Common.{◌≡◌, ◌∙◌, ◌++◌, ◌<◌, ◌-◌, ℕ, zero, suc, List, [], ◌∷◌, ap, sym, arith}
use Rattle.std.proofs.Common.{append_assoc}
use Rattle.path_count.specs.declared.past.PastEvent.{PastEvent}
use Rattle.path_count.specs.declared.past.PastEvent.TheVariants.{Start, End}
use Rattle.keep_core.specs.First.{calls_of}

one_of : (left op : ℕ) → 0 < left → calls_of left op ≡ Start op ∷ End op ∷ calls_of (left - 1) op
one_of zero op some = absurd (omega arith)
one_of (suc k) op some = ap (λ n. Start op ∷ End op ∷ calls_of n op) (omega arith)

-- one call more is one less to come
pub one_more : (done : List PastEvent) (left op : ℕ) → 0 < left
    → ((done ++ Start op ∷ []) ++ End op ∷ []) ++ calls_of (left - 1) op ≡ done ++ calls_of left op
one_more done left op some =
    append_assoc (done ++ Start op ∷ []) (End op ∷ []) (calls_of (left - 1) op)
    ∙ append_assoc done (Start op ∷ []) (End op ∷ calls_of (left - 1) op)
    ∙ ap (λ more. done ++ more) (sym (one_of left op some))
