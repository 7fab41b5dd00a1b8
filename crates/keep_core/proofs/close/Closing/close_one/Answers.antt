use Rattle.std.proofs.Common.{◌∙◌, ap, sym, subst, true, false}
use Rattle.board_core.specs.Sound.{IsSound}
use Rattle.office_core.specs.Insides.{InsideView}
use Rattle.std.proofs.lemmas.Bool.{false≢true}
use Rattle.keep_core.proofs.KeepEnding.{ending_by, closed_by, lacking_by, refused_by_office}
use Rattle.keep_core.proofs.close.Closing.close_one.Goals as goal

pub returns-then-whole-clause-ended : goal.returns-then-whole-clause-ended
returns-then-whole-clause-ended g c =
    let e = c.args.ending in
    let closes = c.in-Ok.ensures in
    let b = c.in-Ok.closed.desk in
    ending_by e.name e.opening e.seats.items e.receipts.items b true closes.0 c.as_bytes.ensures.bytes (sym closes.1.3) c.has_all-whole.ensures.sound
    (closed_by e.name e.opening e.seats.items e.receipts.items b closes.0 c.deref.ensures.value c.deref-in-Ok.ensures.value closes.1.3 (closes.1.0, closes.1.1, closes.1.2) (c.has_all-whole.ensures.all.0 c.if-whole.true)) c.end_closed.ensures.ends

pub returns-in-Ok-clause-ended : goal.returns-in-Ok-clause-ended
returns-in-Ok-clause-ended g c =
    let e = c.args.ending in
    let closes = c.in-Ok.ensures in
    let b = c.in-Ok.closed.desk in
    ending_by e.name e.opening e.seats.items e.receipts.items b false closes.0 c.as_bytes-else-whole.ensures.bytes (sym closes.1.3) c.has_all-whole.ensures.sound
    (lacking_by e.name e.opening e.seats.items e.receipts.items b closes.0 c.deref.ensures.value c.deref-in-Ok.ensures.value closes.1.3 (closes.1.0, closes.1.1, closes.1.2) (λ has. false≢true (sym c.if-whole.false ∙ c.has_all-whole.ensures.all.1 has))) c.end_refused.ensures.ends

pub returns-clause-ended : goal.returns-clause-ended
returns-clause-ended g c =
    let e = c.args.ending in
    let refused = c.in-Err.ensures in
    let b = c.desk-desk.result.now in
    ending_by e.name e.opening e.seats.items e.receipts.items b false refused.0 c.as_bytes-in-Err.ensures.bytes
    (sym (c.desk-desk.ensures.desk ∙ ap (λ (r : InsideView). r.board) refused.1.1)) (subst IsSound (sym c.desk-desk.ensures.desk) c.desk-desk.ensures.sound)
    (refused_by_office e.name e.opening e.seats.items e.receipts.items refused.0 c.in-Err.refused.why c.deref.ensures.value refused.1.0) c.end_refused-in-Err.ensures.ends
