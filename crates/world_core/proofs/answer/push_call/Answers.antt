use Rattle.std.proofs.Common.{◌≡◌, ◌∙◌, ◌+◌, ◌++◌, List, None, arith, ap, ap₂, sym}
use Rattle.std.specs.List.{flat_map}
use Rattle.std.proofs.lemmas.List.{length-map}
use Rattle.decl_core.specs.declared.object.Object.{Object}
use Rattle.decl_core.specs.ObjectMap.{object_of}
use Rattle.stuck_core.specs.declared.reason.Reason.{Reason}
use Rattle.stuck_core.specs.ReasonViews.{why_of, whys_of}
use Rattle.stuck_core.specs.declared.who.WaitingRow.{WaitingRow}
use Rattle.stuck_core.specs.Who.{waits_line}
use Rattle.world_core.proofs.Telling.{told_by}
use Rattle.world_core.proofs.Waiting.{no_call, not_waiting, one_waits}
use Rattle.world_core.proofs.answer.push_call.Goals as goal

pub returns-in_default : goal.returns-in_default
returns-in_default c = no_call c.args.desk.now c.args.place c.args.lines c.args.text.now.items c.requires.told c.in_default.ensures.none

pub returns-then-not-waits : goal.returns-then-not-waits
returns-then-not-waits c =
    not_waiting c.args.desk.now c.args.place c.args.lines c.args.text.now.items c.in-Some.call.now c.requires.told c.in-Some.ensures.some (sym c.if-not-waits.ensures)

pub returns : goal.returns
returns c =
    let b = c.args.desk.now in
    let call = c.in-Some.call.now in
    let w : WaitingRow = record { number = c.args.place + 1; session = c.session.result; operation = c.op-2.result; seconds = None } in
    let same : c.object-object.result.now ≡ b.object = c.object-object.ensures.same ∙ c.accepted.ensures in
    let found = c.in_ok-reasons.reasons.items in
    one_waits b c.args.place c.args.lines (c.args.lines + c.len.result) c.args.text.now.items c.push_waits.new.out.items call w (whys_of found) c.requires.told c.in-Some.ensures.some (sym c.if-not-waits.ensures)
    (ap₂ (λ s o. record { number = c.args.place + 1; session = s; operation = o; seconds = None }) c.session.ensures c.op-2.ensures)
    (told_by b c.args.counters.now c.object-object.result.now c.deref.result.now c.op.result call.op found c.requires.counted same c.deref.ensures.value c.op.ensures c.in_ok-reasons.ensures)
    (c.in_ok-push_waits.ensures
    ∙ ap (λ (o : Object). c.args.text.now.items ++ flat_map (waits_line (object_of o) w) (whys_of c.deref-2.result.now)) same
    ∙ ap (λ (rs : List Reason). c.args.text.now.items ++ flat_map (waits_line (object_of b.object) w) (whys_of rs)) c.deref-2.ensures.value)
    (omega (arith, c.len.ensures, c.in_ok-reasons.reasons.ok.0, length-map found why_of))
