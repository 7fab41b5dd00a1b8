use Rattle.decl_read.proofs.MapEntries.{add_named}
use Rattle.decl_read.proofs.catalog.Catalog.with.Goals as goal

pub invariant_of-result : goal.invariant_of-result
invariant_of-result c =
    (add_named c.self.inside.objects c.args.self c.in_ok-key.key c.args.object _ c.self.invariant c.self.view_is c.in_ok-key.ensures c.requires c.in_ok-insert.ensures.entries).0

pub returns : goal.returns
returns c =
    (add_named c.self.inside.objects c.args.self c.in_ok-key.key c.args.object _ c.self.invariant c.self.view_is c.in_ok-key.ensures c.requires c.in_ok-insert.ensures.entries).1
