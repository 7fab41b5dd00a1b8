use Rattle.std.proofs.Common.{◌≡◌, ◌≢◌, ◌≤◌, ◌<◌, ◌+◌, ◌∙◌, ℕ, Some, inl, inr, sym, ap, subst, arith, length, length-set}
use Rattle.std.specs.Prelude.{slice_index, slice_get, slice_set}
use Rattle.std.proofs.lemmas.Bool.{cases_lt}
use Rattle.std.proofs.lemmas.Option.{slice_get_within}
use Rattle.word_core.specs.Events.{Called}
use Rattle.live_core.proofs.Places.{there, one_at, ordered, all_of, noted_by, noted_here}
use Rattle.live_core.proofs.waiters.note_all.Goals as goal

pub loop-place-preserved : goal.loop-place-preserved
loop-place-preserved c =
    let rows = c.args.rows.now in
    let k = c.loop-place.place in
    let call = c.index-rows-place.result in
    let here = there rows k call c.loop-place-test.true c.index-rows-place.is in
    let I = c.loop-place.invariant in (
      λ j d before at. elim (cases_lt j k) [
        | inl less ↦ omega (arith, I.0 j d less at, c.tell.ensures.lower d.operation)
        | inr more ↦
            subst (λ (x : Called). slice_index c.tell.new.firsts x.operation ≤ x.number) (one_at rows k j call d (omega (arith, before, more)) here at)
            c.tell.ensures.here
      ],
      λ j d before at. subst (λ ns. (n : ℕ) → slice_get ns d.session ≡ Some n → n ≡ d.number) (sym c.tell.ensures.noted) (elim (cases_lt j k) [
        | inl less ↦ noted_by c.loop-place.numbers call d (I.1 j d less at) (ordered (λ (x y : Called). x.session ≢ y.session) rows j k d call c.requires less at here)
        | inr more ↦
            subst (λ (x : Called). (n : ℕ) → slice_get (slice_set c.loop-place.numbers call.session call.number) x.session ≡ Some n → n ≡ x.number)
            (one_at rows k j call d (omega (arith, before, more)) here at) (noted_here c.loop-place.numbers call)
      ]),
      ap length c.tell.ensures.noted ∙ length-set c.loop-place.numbers call.session call.number ∙ I.2,
    )

pub returns-clause-firsts : goal.returns-clause-firsts
returns-clause-firsts c = all_of (λ (x : Called). slice_index c.loop-place.firsts x.operation ≤ x.number) c.args.rows.now
    (λ j d at. c.loop-place.invariant.0 j d (omega (arith, c.loop-place-test.false, slice_get_within c.args.rows.now j d at)) at)

pub returns-clause-noted : goal.returns-clause-noted
returns-clause-noted c = all_of (λ (x : Called). (n : ℕ) → slice_get c.loop-place.numbers x.session ≡ Some n → n ≡ x.number) c.args.rows.now
    (λ j d at. c.loop-place.invariant.1 j d (omega (arith, c.loop-place-test.false, slice_get_within c.args.rows.now j d at)) at)
