-- What was read of operations, without where it lies in memory.
use Rattle.std.specs.Prelude.{List}
use Rattle.std.specs.Borrow.{Bor}
use Rattle.std.specs.Global.{Vec}
use Rattle.std.specs.declared.sync.Arc.{Arc}
use Rattle.path_tree.specs.Lexeme.{lexemes, Lexeme}
use Rattle.path_tree.specs.declared.token.Token.{Token}
use Rattle.decl_core.specs.declared.object.Operation.{Operation}
use Rattle.decl_core.specs.ObjectForm.{OperationForm}
use Rattle.decl_core.specs.ObjectMap.{operations_of}

abbrev pub operations_read : {Z : Type 0} → Vec (Arc Operation Z) × Bor (List Token) → List OperationForm × List Lexeme
operations_read x = (operations_of x.0.items, lexemes x.1.now)
