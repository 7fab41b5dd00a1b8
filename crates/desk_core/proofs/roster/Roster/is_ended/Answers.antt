use Rattle.std.proofs.Common.{◌≡◌, ◌≢◌, ◌∙◌, ◌-◌, ◌<◌, suc, Some, sym, ap, subst, arith, length}
use Rattle.std.specs.Prelude.{slice_get}
use Rattle.std.specs.Arc.{arc_value}
use Rattle.std.proofs.lemmas.List.{length-map}
use Rattle.std.proofs.lemmas.Option.{slice_get-get_or}
use Rattle.page_core.specs.Lists.{Every}
use Rattle.page_core.specs.ObjectCalls.{Noted}
use Rattle.board_core.specs.Board.{Board}
use Rattle.board_core.specs.Sound.{IsNoted}
use Rattle.page_core.proofs.Lists.{Every-map}
use Rattle.board_core.proofs.Sound.{call_number}
use Rattle.board_core.specs.Answers.{ended_in}
use Rattle.desk_core.specs.Kept.{board_of, IsPlaceOf}
use Rattle.desk_core.proofs.Places.{place_tells, none_beyond}
use Rattle.desk_core.proofs.roster.Roster.is_ended.Goals as goal

pub returns-then-number-eq0 : goal.returns-then-number-eq0
returns-then-number-eq0 c =
    let b : Board = board_of c.self.inside in
    let none : Every (λ (e : Noted). e.number ≢ c.args.number) b.history =
    Every-map (IsNoted b.calls) (λ e. e.number ≢ c.args.number) (λ e is same. omega (arith, call_number b.calls e.number is.call is.there, same, c.if-number-eq0.true)) b.history c.self.invariant.sound.told.noted in
    sym (none_beyond b.history c.args.number none) ∙ ap (λ (x : Board). ended_in x c.args.number) c.self.view_is

pub returns-then-number-len : goal.returns-then-number-len
returns-then-number-len c =
    let b : Board = board_of c.self.inside in
    let long = length-map c.self.inside.calls.items (λ x. arc_value x) in
    let none : Every (λ (e : Noted). e.number ≢ c.args.number) b.history =
    Every-map (IsNoted b.calls) (λ e. e.number ≢ c.args.number) (λ e is same. omega (arith, call_number b.calls e.number is.call is.there, same, long, c.self.invariant.places.each, c.if-number-len.true, c.len.ensures, c.self.inside.places.ok.0)) b.history c.self.invariant.sound.told.noted in
    sym (none_beyond b.history c.args.number none) ∙ ap (λ (x : Board). ended_in x c.args.number) c.self.view_is

pub returns : goal.returns
returns c =
    let b : Board = board_of c.self.inside in
    let k = c.args.number - 1 in
    let within : k < length c.self.inside.places.items = omega (arith, c.if-number-eq0.false, c.if-number-len.false, c.len.ensures, c.self.inside.places.ok.0) in
    let there : slice_get c.self.inside.places.items k ≡ Some c.index.result.now = slice_get-get_or c.self.inside.places.items k c.index.result.now within ∙ ap Some (sym c.index.ensures) in
    let number : suc k ≡ c.args.number = omega (arith, c.if-number-eq0.false) in
    let place : IsPlaceOf b.history c.args.number c.index.result.now = subst (λ n. IsPlaceOf b.history n c.index.result.now) number (c.self.invariant.places.at k c.index.result.now there) in
    sym (place_tells b.history c.args.number c.index.result.now place) ∙ ap (λ (x : Board). ended_in x c.args.number) c.self.view_is
