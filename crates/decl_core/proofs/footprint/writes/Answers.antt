use Rattle.decl_core.specs.View.{all_of}
use Rattle.decl_core.proofs.DeclTouched.{writes_bits}
use Rattle.decl_core.proofs.footprint.writes.Goals as goal

pub returns-clause-changed : goal.returns-clause-changed
returns-clause-changed c = writes_bits (all_of c.args.operation.now.body.items) c.changed_by_block.result cc
