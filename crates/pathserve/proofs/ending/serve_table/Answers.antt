use Rattle.table_core.specs.declared.table.Table.{Table}
use Rattle.table_core.specs.Moves.{Gives}
use Rattle.table_core.specs.Seen.{seen}
use Rattle.pathserve.proofs.Kept.{kept_by}
use Rattle.pathserve.proofs.ending.serve_table.Goals as goal

pub returns-in_ok-end_objects-in-Ok-clause-kept : goal.returns-in_ok-end_objects-in-Ok-clause-kept
returns-in_ok-end_objects-in-Ok-clause-kept g c =
    kept_by Gives (λ (last : Table). (seen last).objects) c.args.table c.in-Ok.table c.args.limits (g.O.Outside.seen c.run.new.outside)
    (λ papers. g.S.Shelf.holds c.args.shelf.now papers) (λ papers. g.S.Shelf.holds c.end_objects.new.shelf papers) c.objects.result.now
    c.objects.ensures c.in-Ok.ensures.ended c.in_ok-end_objects-in-Ok.ensures.saved
