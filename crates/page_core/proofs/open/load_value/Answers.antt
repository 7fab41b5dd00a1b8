use Rattle.std.proofs.Common.{◌≡◌, Some, Ok, Err, sym, ap, subst, ◌∙◌, refl, rules}
use Rattle.std.specs.Prelude.{IsErrOf}
use Rattle.std.specs.FinMap.{get}
use Rattle.value_bytes.specs.declared.decode.DecodeFault.TheVariants.{Damaged}
use Rattle.device_core.specs.Papers.{Papers, LoadAgrees, found_bytes}
use Rattle.page_core.proofs.open.load_value.Goals as goal

pub returns-in-Err-Damaged-clause-cause : goal.returns-in-Err-Damaged-clause-cause
returns-in-Err-Damaged-clause-cause g c = (
  refl,
  λ papers is.
      let told : IsErrOf c.decode_kept.result Damaged = c.in-Err-Damaged.is ∙ ap Err c.in-Err-Damaged.field-0-is in
      let agrees : LoadAgrees papers c.args.key.now (Ok c.in-Ok-Some.field-0) = subst (λ r. LoadAgrees papers c.args.key.now r) c.in-Ok-Some.is ((c.load.ensures.agrees papers).0 is).1 in
      record {
        bytes = c.deref.result.now;
        there = sym (subst (λ f. found_bytes f ≡ get papers c.args.key.now) c.in-Ok-Some.field-0-is agrees) ∙ ap Some (sym c.deref.ensures.value);
        unspelled = c.decode_kept.ensures.damaged told;
      },
)
