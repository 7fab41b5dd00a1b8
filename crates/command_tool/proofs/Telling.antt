-- What is said of objects, one after another.
use Rattle.std.proofs.Common.{List, ◌∷◌, ℕ}
use Rattle.decl_core.specs.ObjectForm.{ObjectForm}
use Rattle.recover_core.specs.Epochs.{IsNext}
use Rattle.recover_core.specs.declared.epochs.Epochs.{Epochs}
use Rattle.command_tool.specs.Said.{GoesOn}

-- an epoch more
pub next : (o : ObjectForm) {text : List ℕ} (old new : Epochs) → IsNext o text old new → GoesOn o old new
next o {text} old new is = λ texts are. (text ∷ texts, (old, are, is))

-- and those behind it
pub further : (o : ObjectForm) (a b c : Epochs) → GoesOn o a b → GoesOn o b c → GoesOn o a c
further o a b c first more = λ texts are. let mid = first texts are in more mid.0 mid.1
