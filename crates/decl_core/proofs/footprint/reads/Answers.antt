use Rattle.decl_core.specs.View.{all_of}
use Rattle.decl_core.proofs.DeclTouched.{reads_bits}
use Rattle.decl_core.proofs.footprint.reads.Goals as goal

pub returns-clause-named : goal.returns-clause-named
returns-clause-named c = reads_bits (all_of c.args.operation.now.body.items) c.named_by_block.result cc
