use Rattle.std.proofs.Common.{◌≡◌, sym, ap, ◌∙◌, subst}
use Rattle.value_core.specs.declared.format.Format.TheVariants.{Second}
use Rattle.value_core.specs.Contents.{kind_of}
use Rattle.value_bytes.specs.Spelling.{Spells, spelling_in}
use Rattle.value_bytes.proofs.Unique.{unique_in}
use Rattle.recover_core.proofs.chain.is_same_value.Goals as goal

pub returns : goal.returns
returns c =
    let a = c.args.a.now in
    let b = c.args.b.now in (
      (λ yes. let same : c.in_ok-first.first.items ≡ c.in_ok-second.second.items = sym c.deref.ensures.value ∙ c.is_same.ensures.0 yes ∙ c.deref-2.ensures.value in
          (unique_in Second Second c.in_ok-second.second.items (kind_of a) (kind_of b) a b (subst (λ bytes. Spells bytes (kind_of a) a) same c.in_ok-first.ensures) c.in_ok-second.ensures).1),
      (λ same. c.is_same.ensures.1 (c.deref.ensures.value ∙ c.in_ok-first.ensures.spelled ∙ ap (spelling_in Second) same ∙ sym c.in_ok-second.ensures.spelled ∙ sym c.deref-2.ensures.value)),
    )
