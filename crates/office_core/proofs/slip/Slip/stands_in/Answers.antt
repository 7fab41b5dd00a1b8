use Rattle.std.proofs.Common.{arith, ◌≡◌, ap, subst, refl, length, ◌-◌, ◌<◌, Some}
use Rattle.std.specs.Prelude.{slice_get}
use Rattle.std.proofs.lemmas.Option.{slice_get_read}
use Rattle.office_core.specs.Slips.{Told, IsEntryTold}
use Rattle.office_core.proofs.SlipFound.{is_there}
use Rattle.office_core.proofs.slip.Slip.stands_in.Goals as goal

pub returns-in-Some : goal.returns-in-Some
returns-in-Some c =
    let t = c.args.self.now in
    let h = c.args.history.now in
    let x = c.in-Some.entry.now in
    let look = c.in-Some.ensures.lookup in
    let place = ap (λ (s : Told). s.place) c.self.view_is in
    let at = slice_get_read h (length h) (c.self.inside.place - 1) x refl look.3.0 look.1 in
    let there = subst (λ n. slice_get h (n - 1) ≡ Some x) place at in
    let is = is_there (IsEntryTold t) (slice_get h (t.place - 1)) x c.is_of.result there c.is_of.ensures in
    let some : 0 < t.place = subst (λ n. 0 < n) place (omega (arith, c.if-self-eq0.false)) in
    (λ is_so. (some, is.0 is_so), λ s. is.1 s.1)
