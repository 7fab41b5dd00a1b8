use Rattle.std.proofs.Common.{rules}
use Rattle.value_core.specs.Rows.{rows_map, rows_sort}
use Rattle.value_core.proofs.Backs.{under_back, none_back}
use Rattle.value_core.proofs.rows.Rows.store.Goals as goal

pub returns-in_ok-insert-in-Some-clause-back : goal.returns-in_ok-insert-in-Some-clause-back
returns-in_ok-insert-in-Some-clause-back c =
    under_back (rows_map c.args.self.now) (rows_map c.insert.new.self) c.args.key _ c.args.datum (rows_sort c.insert.new.self) c.in-Some.kept (search rules) (search rules) (search rules) (search rules)

pub returns-in_ok-insert-in-None-clause-back : goal.returns-in_ok-insert-in-None-clause-back
returns-in_ok-insert-in-None-clause-back c =
    none_back (rows_map c.args.self.now) (rows_map c.insert-in-None.new.self) c.args.key _ c.args.datum (search rules) (search rules) (search rules)
