use Rattle.std.proofs.Common.{◌≡◌, ◌++◌, length}
use Rattle.path_tree.specs.Lexeme.{lexemes}
use Rattle.decl_read.specs.Declarations.{entry_names}
use Rattle.decl_read.specs.declared.collect.Opening.TheVariants.{Nothing}
use Rattle.decl_read.proofs.collect.operation_names.Given as goal

abbrev pub invariant-tokens : goal.invariant-tokens
invariant-tokens l = l.all.items ++ entry_names l.opening (lexemes l.rest) ≡ entry_names Nothing (lexemes l.tokens)

abbrev pub decreases-tokens : goal.decreases-tokens
decreases-tokens l = length l.rest
