use Rattle.std.proofs.Common.{◌≤◌, Some, length, ap, sym, subst, ◌∙◌, arith}
use Rattle.std.proofs.lemmas.Option.{slice_get-get_or}
use Rattle.page_core.specs.ObjectCalls.{Noted}
use Rattle.desk_core.specs.Held.{TellsDatum}
use Rattle.desk_core.proofs.Looked.{next_is, are_all}
use Rattle.desk_core.proofs.held.replies_are_data.Goals as goal

pub loop-place-preserved : goal.loop-place-preserved
loop-place-preserved c =
    next_is (λ (e : Noted). TellsDatum e.reply) c.args.entries.now c.loop-place.place c.index-entries-place.result c.loop-place.invariant
    (slice_get-get_or c.args.entries.now c.loop-place.place c.index-entries-place.result c.loop-place-test.true ∙ ap Some (sym c.index-entries-place.is))
    (subst TellsDatum c.reply.ensures c.reply_is_datum.ensures)

pub returns : goal.returns
returns c =
    let few : length c.args.entries.now ≤ c.loop-place.place = omega (arith, c.loop-place-test.false) in
    are_all (λ (e : Noted). TellsDatum e.reply) c.args.entries.now c.loop-place.place few c.loop-place.invariant
