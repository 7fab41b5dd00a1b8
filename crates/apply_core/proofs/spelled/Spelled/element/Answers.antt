use Rattle.value_core.specs.declared.kind.Kind.TheVariants as kinds
use Rattle.value_core.specs.Contents.{kind_of}
use Rattle.apply_core.specs.There.{contents_there}
use Rattle.apply_core.proofs.Holding.{held_as, held_kind, array_kind, length_of}
use Rattle.apply_core.proofs.spelled.Spelled.element.Goals as goal

pub returns-clause-value : goal.returns-clause-value
returns-clause-value c =
    let kind = array_kind c.self.inside.kind c.args.self.now c.sort.result (held_kind c.self.inside.bytes.items c.self.inside.kind (contents_there c.self.inside.kind c.self.inside.bytes.items) c.args.self.now c.self.invariant c.self.view_is) c.requires c.sort.ensures in
    c.element.ensures.value (length_of (kind_of c.args.self.now)) c.args.self.now (held_as c.self.inside.bytes.items c.deref.result.now c.self.inside.kind (kinds.Array (length_of (kind_of c.args.self.now)) c.sort.result) (contents_there c.self.inside.kind c.self.inside.bytes.items) c.args.self.now c.self.invariant c.self.view_is c.deref.ensures.value kind)
