use Rattle.std.proofs.Common.{◌≡◌, ◌∙◌, ◌-◌, ◌<◌, suc, false, Some, sym, ap, subst, arith, length}
use Rattle.std.specs.Prelude.{slice_get}
use Rattle.std.specs.Arc.{arc_value}
use Rattle.std.proofs.lemmas.List.{length-map}
use Rattle.std.proofs.lemmas.Option.{slice_get-get_or, slice_get_within, get_or_from_slice_get}
use Rattle.page_core.specs.Lists.{Among}
use Rattle.page_core.specs.ObjectCalls.{Noted}
use Rattle.board_core.specs.Board.{Board}
use Rattle.page_core.proofs.Lists.{among_at}
use Rattle.board_core.specs.Answers.{ended_in}
use Rattle.desk_core.specs.Kept.{board_of, IsPlaceOf}
use Rattle.desk_core.proofs.Places.{place_tells, place_entry}
use Rattle.desk_core.proofs.roster.Roster.state.Goals as goal

pub returns-then-place-eq0 : goal.returns-then-place-eq0
returns-then-place-eq0 c =
    let b : Board = board_of c.self.inside in
    let n = c.args.number in
    let k = n - 1 in
    let ps = c.self.inside.places.items in
    let all : length c.args.self.now.calls ≡ length c.self.inside.calls.items = ap (λ (x : Board). length x.calls) (sym c.self.view_is) ∙ length-map c.self.inside.calls.items (λ x. arc_value x) in
    let within : k < length ps = omega (arith, c.requires, all, c.self.invariant.places.each) in
    let there : slice_get ps k ≡ Some c.index-place.result.now = slice_get-get_or ps k c.index-place.result.now within ∙ ap Some (sym c.index-place.ensures) in
    let number : suc k ≡ n = omega (arith, c.requires) in
    let place : IsPlaceOf b.history n c.index-place.result.now = subst (λ m. IsPlaceOf b.history m c.index-place.result.now) number (c.self.invariant.places.at k c.index-place.result.now there) in
    let ended : ended_in b n ≡ false = place_tells b.history n 0 (subst (IsPlaceOf b.history n) c.if-place-eq0.true place) in
    (sym c.waits.ensures ∙ c.if-waits.false, sym c.runs.ensures ∙ c.if-runs.false, ap (λ (x : Board). ended_in x n) (sym c.self.view_is) ∙ ended)

pub index-requires : goal.index-requires
index-requires c =
    let b : Board = board_of c.self.inside in
    let n = c.args.number in
    let k = n - 1 in
    let ps = c.self.inside.places.items in
    let all : length c.args.self.now.calls ≡ length c.self.inside.calls.items = ap (λ (x : Board). length x.calls) (sym c.self.view_is) ∙ length-map c.self.inside.calls.items (λ x. arc_value x) in
    let within : k < length ps = omega (arith, c.requires, all, c.self.invariant.places.each) in
    let there : slice_get ps k ≡ Some c.index-place.result.now = slice_get-get_or ps k c.index-place.result.now within ∙ ap Some (sym c.index-place.ensures) in
    let number : suc k ≡ n = omega (arith, c.requires) in
    let place : IsPlaceOf b.history n c.index-place.result.now = subst (λ m. IsPlaceOf b.history m c.index-place.result.now) number (c.self.invariant.places.at k c.index-place.result.now there) in
    let entry = place_entry b.history n c.index-place.result.now (omega (arith, c.if-place-eq0.false)) place in
    omega (arith, slice_get_within b.history (c.index-place.result.now - 1) entry.0 entry.1, c.self.inside.history.ok.0)

pub returns : goal.returns
returns c =
    let b : Board = board_of c.self.inside in
    let n = c.args.number in
    let k = n - 1 in
    let ps = c.self.inside.places.items in
    let all : length c.args.self.now.calls ≡ length c.self.inside.calls.items = ap (λ (x : Board). length x.calls) (sym c.self.view_is) ∙ length-map c.self.inside.calls.items (λ x. arc_value x) in
    let within : k < length ps = omega (arith, c.requires, all, c.self.invariant.places.each) in
    let there : slice_get ps k ≡ Some c.index-place.result.now = slice_get-get_or ps k c.index-place.result.now within ∙ ap Some (sym c.index-place.ensures) in
    let number : suc k ≡ n = omega (arith, c.requires) in
    let place : IsPlaceOf b.history n c.index-place.result.now = subst (λ m. IsPlaceOf b.history m c.index-place.result.now) number (c.self.invariant.places.at k c.index-place.result.now there) in
    let entry = place_entry b.history n c.index-place.result.now (omega (arith, c.if-place-eq0.false)) place in
    let at = c.index-place.result.now - 1 in
    let found : c.index.result.now ≡ entry.0 = c.index.ensures ∙ get_or_from_slice_get b.history at entry.0 c.index.result.now entry.1 in
    let told : c.reply.result ≡ entry.0.reply = c.reply.ensures ∙ ap (λ (e : Noted). e.reply) found in (
      sym c.waits.ensures ∙ c.if-waits.false,
      sym c.runs.ensures ∙ c.if-runs.false,
      (entry.0, subst (λ (x : Board). Among entry.0 x.history) c.self.view_is (among_at b.history at entry.0 entry.1), entry.2, sym told),
    )
