use Rattle.std.proofs.Common.{◌∙◌, ◌<◌, ◌-◌, ap, sym, Some, arith, length, map}
use Rattle.std.specs.Arc.{arc_value}
use Rattle.std.proofs.lemmas.Option.{slice_get-get_or}
use Rattle.board_core.proofs.Made.{arc_at, call_before}
use Rattle.desk_core.proofs.text.call_of.Goals as goal

pub returns-clause-some : goal.returns-clause-some
returns-clause-some c =
    let call = c.index-calls-number.result in
    let within : c.args.number - 1 < length c.args.calls.now = omega (arith, c.if-number-eq0.false, c.if-number-calls.false) in
    call_before (map (λ x. arc_value x) c.args.calls.now) c.args.number (arc_value call) c.if-number-eq0.false
    (arc_at c.args.calls.now (c.args.number - 1) call (slice_get-get_or c.args.calls.now (c.args.number - 1) call within ∙ ap Some (sym c.index-calls-number.is)))
    ∙ ap Some (sym c.deref.ensures)
