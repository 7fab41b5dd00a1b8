use Rattle.std.proofs.Common.{arith, refl, length, ◌-◌, ◌<◌}
use Rattle.std.specs.Prelude.{slice_get}
use Rattle.std.proofs.lemmas.Option.{slice_get_read}
use Rattle.page_core.specs.ObjectCalls.{Noted}
use Rattle.board_core.specs.Outcomes.{IsEntryOf}
use Rattle.office_core.proofs.SlipFound.{is_there}
use Rattle.office_core.proofs.uncalled.stands.Goals as goal

pub returns-in-Some : goal.returns-in-Some
returns-in-Some c =
    let r = c.args.receipt.now in
    let h = c.args.history.now in
    let x = c.in-Some.entry.now in
    let look = c.in-Some.ensures.lookup in
    let at = slice_get_read h (length h) (r.place - 1) x refl look.3.0 look.1 in
    let is = is_there (λ (e : Noted). IsEntryOf r.noted.session r.noted.outcome e) (slice_get h (r.place - 1)) x c.is_entry_of.result at c.is_entry_of.ensures in
    let some : 0 < r.place = omega (arith, c.if-receipt-eq0.false) in
    (λ t. (some, is.0 t), λ s. is.1 s.1)
