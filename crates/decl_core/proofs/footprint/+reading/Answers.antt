use Rattle.std.proofs.Common.{sym, ap, ◌∙◌}
use Rattle.decl_core.specs.View.{statement_of, all_of}
use Rattle.decl_core.specs.Footprint.{named_in_statement, named_in_all}
use Rattle.decl_core.proofs.Rows.{block_is}
use Rattle.decl_core.proofs.footprint.+reading.Goals as goal

pub named_by_statement-returns-in-Block : goal.named_by_statement-returns-in-Block
named_by_statement-returns-in-Block t c =
    c.named_by_block.ensures ∙ ap (λ xs. named_in_all (all_of xs) c.args.so_far) c.deref.ensures.value ∙ sym (ap (λ s. named_in_statement s c.args.so_far) (block_is c.in-Block.all)) ∙ sym (ap (λ s. named_in_statement (statement_of s) c.args.so_far) c.in-Block.is)
