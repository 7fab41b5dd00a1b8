-- A block, as the list of its statements.
use Rattle.std.proofs.Common.{◌≡◌, List, sym, ap, ◌∙◌, Vec, Global}
use Rattle.decl_core.specs.declared.stmt.Stmt.{Stmt, Block}
use Rattle.decl_core.specs.Form.{block}
use Rattle.decl_core.specs.View.{statement_of, all_of}
use Rattle.decl_core.proofs.Rows.{block_is}

pub block_as : (s : Stmt) (all : Vec Stmt Global) (list : List Stmt) → s ≡ Block all → list ≡ all.items → statement_of s ≡ block (all_of list)
block_as s all list is same = ap statement_of is ∙ block_is all ∙ ap (λ xs. block (all_of xs)) (sym same)
