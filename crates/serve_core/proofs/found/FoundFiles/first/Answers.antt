use Rattle.std.proofs.Common.{◌^◌, arith}
use Rattle.serve_core.proofs.found.FoundFiles.first.Goals as goal

pub returns-clause-most : goal.returns-clause-most
returns-clause-most c = c.self.invariant.0.2 (2 ^ 63) (omega arith) c.self.invariant.1
