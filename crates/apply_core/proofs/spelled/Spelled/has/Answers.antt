use Rattle.value_core.specs.declared.kind.Kind.TheVariants as kinds
use Rattle.apply_core.specs.There.{contents_there}
use Rattle.apply_core.proofs.Holding.{held_as, held_kind, table_kind}
use Rattle.apply_core.proofs.spelled.Spelled.has.Goals as goal

pub returns : goal.returns
returns c =
    let kind = table_kind c.self.inside.kind c.args.self.now c.sort.result (held_kind c.self.inside.bytes.items c.self.inside.kind (contents_there c.self.inside.kind c.self.inside.bytes.items) c.args.self.now c.self.invariant c.self.view_is) c.requires c.sort.ensures in
    c.has.ensures c.args.self.now (held_as c.self.inside.bytes.items c.deref.result.now c.self.inside.kind (kinds.Table c.sort.result) (contents_there c.self.inside.kind c.self.inside.bytes.items) c.args.self.now c.self.invariant c.self.view_is c.deref.ensures.value kind)
