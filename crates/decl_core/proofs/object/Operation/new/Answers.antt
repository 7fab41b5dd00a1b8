use Rattle.std.proofs.Common.{◌≡◌, map, sym, subst}
use Rattle.decl_core.specs.View.{all_of}
use Rattle.decl_core.specs.Footprint.{named_in_all}
use Rattle.decl_core.specs.ObjectForm.{kinds_from}
use Rattle.decl_core.specs.Typed.{IsWellTyped}
use Rattle.decl_core.specs.ObjectMap.{parts_of}
use Rattle.decl_core.proofs.KnownKinds.{kinds_are, kinds_few}
use Rattle.decl_core.proofs.object.Operation.new.Goals as goal

pub invariant_of-result : goal.invariant_of-result
invariant_of-result c =
    let reads = named_in_all (all_of c.args.body.items) 0 in
    let e : c.in_ok-kinds.kinds.items ≡ kinds_from reads 0 (parts_of c.args.parts.now) =
    kinds_are c.new.result.items c.in_ok-kinds.kinds.items c.named_by_block.result c.args.parts.now c.deref.result.now c.args.body.items c.new.ensures.items c.named_by_block.ensures c.deref.ensures.value c.in_ok-kinds.ensures in
    record {
      few_parts = kinds_few c.in_ok-kinds.kinds.items reads c.args.parts.now e c.requires.few;
      typed = subst (λ k. IsWellTyped k (map (λ p. p.kind) c.args.params.items) c.args.reply (all_of c.args.body.items)) (sym e) c.requires.typed;
    }
