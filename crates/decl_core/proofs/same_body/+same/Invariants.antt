use Rattle.std.proofs.Common.{◌≡◌, ◌↔◌, ◌≤◌}
use Rattle.decl_core.specs.View.{all_of, statement_of}
use Rattle.decl_core.proofs.Weights.{weight_statement, weight_all}
use Rattle.decl_core.proofs.same_body.+same.Given as goal

abbrev pub decreases-same_statement : goal.decreases-same_statement
decreases-same_statement l = weight_statement (statement_of l.a.now)

abbrev pub decreases-same_block : goal.decreases-same_block
decreases-same_block l = weight_all (all_of l.a.now)

abbrev pub invariant-same_block-statements : goal.invariant-same_block-statements
invariant-same_block-statements l =
    ((all_of l.x ≡ all_of l.y) ↔ (all_of l.fn.a ≡ all_of l.fn.b)) × (weight_all (all_of l.x) ≤ weight_all (all_of l.fn.a))

abbrev pub decreases-same_block-statements : goal.decreases-same_block-statements
decreases-same_block-statements l = weight_all (all_of l.x)
