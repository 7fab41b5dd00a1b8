use Rattle.std.proofs.Common.{◌≡◌, ◌∙◌, List, ℕ, inl, inr, ap, refl, subst, sym}
use Rattle.std.specs.FinMap.{insert}
use Rattle.device_core.specs.Papers.{part_key}
use Rattle.value_core.specs.Contents.{kind_of}
use Rattle.value_bytes.specs.Spelling.{Spells}
use Rattle.keep_core.proofs.save.save_value.Goals as goal

pub returns-in_default-clause-left : goal.returns-in_default-clause-left
returns-in_default-clause-left g c = λ papers is. (papers, is, inl refl)

pub returns-in_default-encode-clause-left : goal.returns-in_default-encode-clause-left
returns-in_default-encode-clause-left g c = λ papers is. (papers, is, inl refl)

pub returns-in-Ok-store-clause-saved : goal.returns-in-Ok-store-clause-saved
returns-in-Ok-store-clause-saved g c = λ papers is.
    let one = c.in-Ok-store.ensures.agrees papers is in
    let key : c.deref.result.now ≡ part_key c.args.object.now c.args.part.now = c.deref.ensures.value ∙ c.in-Ok.ensures in
    let value = c.args.value.now in (
      one.0,
      one.1,
      record {
        bytes = c.deref-2.result.now;
        spells = subst (λ bytes. Spells bytes (kind_of value) value) (sym c.deref-2.ensures.value) c.in-Ok-encode.ensures;
        stored = one.2 ∙ ap (λ (k : List ℕ). insert one.0 k c.deref-2.result.now) key;
      },
    )

pub returns-clause-left : goal.returns-clause-left
returns-clause-left g c = λ papers is.
    let one = c.in-Err.ensures.agrees papers is in
    let key : c.deref.result.now ≡ part_key c.args.object.now c.args.part.now = c.deref.ensures.value ∙ c.in-Ok.ensures in
    let value = c.args.value.now in (
      one.0,
      one.1,
      elim one.2 [
        | inl same ↦ inl same
        | inr stored ↦ inr (record {
          bytes = c.deref-2.result.now;
          spells = subst (λ bytes. Spells bytes (kind_of value) value) (sym c.deref-2.ensures.value) c.in-Ok-encode.ensures;
          stored = stored ∙ ap (λ (k : List ℕ). insert one.0 k c.deref-2.result.now) key;
        })
      ],
    )
