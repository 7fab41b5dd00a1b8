use Rattle.std.proofs.Common.{sym, ap, ◌∙◌}
use Rattle.decl_core.specs.View.{statement_of, all_of}
use Rattle.decl_core.specs.Footprint.{changed_by_all}
use Rattle.decl_core.specs.Footprint.{changed_by_statement as by_statement}
use Rattle.decl_core.proofs.Rows.{block_is}
use Rattle.decl_core.proofs.footprint.+writing.Goals as goal

pub changed_by_statement-returns-in-Block : goal.changed_by_statement-returns-in-Block
changed_by_statement-returns-in-Block t c =
    c.changed_by_block.ensures ∙ ap (λ xs. changed_by_all (all_of xs) c.args.so_far) c.deref.ensures.value ∙ sym (ap (λ s. by_statement s c.args.so_far) (block_is c.in-Block.all)) ∙ sym (ap (λ s. by_statement (statement_of s) c.args.so_far) c.in-Block.is)
