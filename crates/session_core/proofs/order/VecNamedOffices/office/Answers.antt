use Rattle.std.proofs.Common.{◌≡◌, Some, length, refl, subst}
use Rattle.std.specs.Prelude.{slice_get}
use Rattle.std.proofs.lemmas.Option.{slice_get_read}
use Rattle.session_core.proofs.order.VecNamedOffices.office.Goals as goal

pub returns-in-Some-clause-some : goal.returns-in-Some-clause-some
returns-in-Some-clause-some c =
    let there = c.deref.result.now in
    let found = c.in-Some.named.now in
    let look = c.in-Some.ensures.lookup in (
      found,
      subst (λ offices. slice_get offices c.args.at ≡ Some found) c.deref.ensures.value (slice_get_read there (length there) c.args.at found refl look.3.0 look.1),
      refl,
    )
