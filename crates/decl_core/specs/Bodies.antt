-- The body of an operation, without where it lies in memory.
use Rattle.std.specs.Prelude.{map}
use Rattle.decl_core.specs.declared.object.Operation.{Operation}
use Rattle.decl_core.specs.Form.{Body}
use Rattle.decl_core.specs.View.{all_of}

abbrev pub body_of : Operation → Body
body_of o = record { params = map (λ p. p.kind) o.params.items; result = o.result; statements = all_of o.body.items }
