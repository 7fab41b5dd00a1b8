use Rattle.std.proofs.Common.{◌≡◌, Some, length, refl, sym, ◌∙◌, subst, arith}
use Rattle.std.proofs.lemmas.Option.{slice_get_read}
use Rattle.std.specs.Prelude.{slice_get}
use Rattle.device_core.proofs.reads.Reads.give.Goals as goal

pub returns-then-is_of : goal.returns-then-is_of
returns-then-is_of c = λ given.
    let items = c.deref-kept-items.result.now in
    let i = c.loop-kept.kept-index in
    let kept = c.kept-item.result in
    record {
      place = i;
      kept = kept;
      there = subst (λ xs. slice_get xs i ≡ Some kept) c.deref-kept-items.ensures.value (slice_get_read items (length items) i kept refl (omega arith) c.kept-item.is);
      of = c.is_of.ensures.of c.if-is_of.true;
      same = sym c.deref.ensures.value ∙ sym c.copy_from_slice.ensures.after;
    }
