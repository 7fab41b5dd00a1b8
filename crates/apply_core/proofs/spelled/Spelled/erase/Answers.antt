use Rattle.std.proofs.Common.{refl}
use Rattle.value_core.specs.declared.kind.Kind.TheVariants as kinds
use Rattle.value_core.specs.Meaning.{without_key}
use Rattle.apply_core.specs.There.{contents_there}
use Rattle.apply_core.proofs.Holding.{held_as, held_kind, table_kind, fresh, fresh_kind, undone}
use Rattle.apply_core.proofs.spelled.Spelled.erase.Goals as goal

pub invariant_of-self : goal.invariant_of-self
invariant_of-self c =
    let kind = table_kind c.self.inside.kind c.args.self.now c.sort.result (held_kind c.self.inside.bytes.items c.self.inside.kind (contents_there c.self.inside.kind c.self.inside.bytes.items) c.args.self.now c.self.invariant c.self.view_is) c.requires c.sort.ensures in
    (fresh c.self.inside.kind (kinds.Table c.sort.result) c.in-Ok.bytes.items (without_key c.args.self.now c.args.key.now) kind (c.in-Ok.ensures c.args.self.now (held_as c.self.inside.bytes.items c.deref.result.now c.self.inside.kind (kinds.Table c.sort.result) (contents_there c.self.inside.kind c.self.inside.bytes.items) c.args.self.now c.self.invariant c.self.view_is c.deref.ensures.value kind))).spelled

pub returns-in-Ok-clause-change : goal.returns-in-Ok-clause-change
returns-in-Ok-clause-change c =
    let kind = table_kind c.self.inside.kind c.args.self.now c.sort.result (held_kind c.self.inside.bytes.items c.self.inside.kind (contents_there c.self.inside.kind c.self.inside.bytes.items) c.args.self.now c.self.invariant c.self.view_is) c.requires c.sort.ensures in
    (fresh c.self.inside.kind (kinds.Table c.sort.result) c.in-Ok.bytes.items (without_key c.args.self.now c.args.key.now) kind (c.in-Ok.ensures c.args.self.now (held_as c.self.inside.bytes.items c.deref.result.now c.self.inside.kind (kinds.Table c.sort.result) (contents_there c.self.inside.kind c.self.inside.bytes.items) c.args.self.now c.self.invariant c.self.view_is c.deref.ensures.value kind))).means

pub returns-in-Ok-clause-kind : goal.returns-in-Ok-clause-kind
returns-in-Ok-clause-kind c =
    let kind = table_kind c.self.inside.kind c.args.self.now c.sort.result (held_kind c.self.inside.bytes.items c.self.inside.kind (contents_there c.self.inside.kind c.self.inside.bytes.items) c.args.self.now c.self.invariant c.self.view_is) c.requires c.sort.ensures in
    fresh_kind c.self.inside.kind c.in-Ok.bytes.items (without_key c.args.self.now c.args.key.now) c.args.self.now (fresh c.self.inside.kind (kinds.Table c.sort.result) c.in-Ok.bytes.items (without_key c.args.self.now c.args.key.now) kind (c.in-Ok.ensures c.args.self.now (held_as c.self.inside.bytes.items c.deref.result.now c.self.inside.kind (kinds.Table c.sort.result) (contents_there c.self.inside.kind c.self.inside.bytes.items) c.args.self.now c.self.invariant c.self.view_is c.deref.ensures.value kind))) (held_kind c.self.inside.bytes.items c.self.inside.kind (contents_there c.self.inside.kind c.self.inside.bytes.items) c.args.self.now c.self.invariant c.self.view_is)

pub returns-in-Err-clause-change : goal.returns-in-Err-clause-change
returns-in-Err-clause-change c =
    let kind = table_kind c.self.inside.kind c.args.self.now c.sort.result (held_kind c.self.inside.bytes.items c.self.inside.kind (contents_there c.self.inside.kind c.self.inside.bytes.items) c.args.self.now c.self.invariant c.self.view_is) c.requires c.sort.ensures in
    undone (kinds.Table c.sort.result) c.in-Err.fault (without_key c.args.self.now c.args.key.now) c.args.self.now c.args.self.now (c.in-Err.ensures c.args.self.now (held_as c.self.inside.bytes.items c.deref.result.now c.self.inside.kind (kinds.Table c.sort.result) (contents_there c.self.inside.kind c.self.inside.bytes.items) c.args.self.now c.self.invariant c.self.view_is c.deref.ensures.value kind)) refl
