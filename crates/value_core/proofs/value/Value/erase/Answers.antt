use Rattle.std.proofs.Common.{subst}
use Rattle.value_core.specs.Contents.{IsContents}
use Rattle.value_core.specs.Body.{contents_of}
use Rattle.value_core.proofs.value.Value.erase.Goals as goal

pub invariant_of-self-2 : goal.invariant_of-self-2
invariant_of-self-2 c =
    rw c.in_ok-undo.ensures.sort (c.in_ok-undo.ensures.rows _ (subst (λ b. IsContents (contents_of b)) c.in-Table.is c.self.invariant))
