use Rattle.std.proofs.Common.{arith}
use Rattle.decl_core.proofs.SameBlocks.{block_falls, blocks_same, ends_same}
use Rattle.decl_core.proofs.same_body.+same.Goals as goal

pub same_block-returns : goal.same_block-returns
same_block-returns t c = ends_same c.statements.x.now c.statements.y.now c.is_empty.result c.in_default.len_below c.is_empty.ensures c.statements.invariant.0

pub same_statement-same_block-requires : goal.same_statement-same_block-requires
same_statement-same_block-requires t c = let less = block_falls c.args.a.now c.in-Block.all c.deref.result.now c.in-Block.is c.deref.ensures.value in let d = c.decreases in (omega (arith, less, d), tt)

pub same_statement-returns-in-Block-b : goal.same_statement-returns-in-Block-b
same_statement-returns-in-Block-b t c =
    blocks_same c.args.a.now c.args.b.now c.in-Block.all c.in-Block-b.others c.deref.result.now c.deref-in-Block-b.result.now c.same_block.result c.in-Block.is c.in-Block-b.is c.deref.ensures.value c.deref-in-Block-b.ensures.value c.same_block.ensures
