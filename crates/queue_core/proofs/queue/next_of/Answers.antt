use Rattle.std.proofs.Common.{◌≡◌, ◌∙◌, ◌-◌, ◌<◌, arith, sym, ap, Some, length}
use Rattle.std.specs.Prelude.{slice_get}
use Rattle.std.proofs.lemmas.Option.{slice_get-get_or}
use Rattle.page_core.proofs.Lists.{among_at, true_false}
use Rattle.queue_core.proofs.Queueing.{last_first, none_can, op_counted, op_within}
use Rattle.queue_core.proofs.queue.next_of.Goals as goal

pub returns-clause-some : goal.returns-clause-some
returns-clause-some c = λ n paths t stands.
    last_first n paths t c.args.rows.now c.index-rows-rows.result c.args.counts.now c.op-last.result (omega (arith, c.if-rows-eq0.false)) c.index-rows-rows.is c.op-last.ensures c.requires
    (c.others_rest.ensures n paths t stands c.if-not-others_rest.false) c.if-counts-last-gt1.false ((c.can_start.ensures n paths t stands).0 c.if-not-can_start.false)

pub returns-then-not-can_start-clause-none : goal.returns-then-not-can_start-clause-none
returns-then-not-can_start-clause-none c = λ n paths t stands.
    none_can n paths t c.args.rows.now c.args.counts.now c.op-last.result c.requires (c.others_rest.ensures n paths t stands c.if-not-others_rest.false)
    (λ can. true_false c.can_start.result ((c.can_start.ensures n paths t stands).1 can) c.if-not-can_start.true)

pub bounds-counts-last : goal.bounds-counts-last
bounds-counts-last c =
    let within : length c.args.rows.now - 1 < length c.args.rows.now = omega (arith, c.if-rows-eq0.false) in
    let there : slice_get c.args.rows.now (length c.args.rows.now - 1) ≡ Some c.index-rows-rows.result =
    slice_get-get_or c.args.rows.now (length c.args.rows.now - 1) c.index-rows-rows.result within ∙ ap Some (sym c.index-rows-rows.is) in
    let among = among_at c.args.rows.now (length c.args.rows.now - 1) c.index-rows-rows.result there in
    let less = op_within c.args.counts.now c.index-rows-rows.result.call.op (op_counted c.args.rows.now c.args.counts.now c.index-rows-rows.result c.requires among) in
    omega (arith, c.op-last.ensures, c.told-counts, less)
