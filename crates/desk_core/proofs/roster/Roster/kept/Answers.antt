use Rattle.std.proofs.Common.{◌≡◌, ◌∙◌, ◌<◌, sym, ap, subst, arith, length}
use Rattle.std.proofs.lemmas.Option.{same_Some}
use Rattle.page_core.specs.ObjectCalls.{AcceptedCall}
use Rattle.board_core.specs.Board.{Board}
use Rattle.board_core.specs.Keys.{HasKey, count_by}
use Rattle.board_core.proofs.Sound.{call_number}
use Rattle.page_core.proofs.Lists.{true_false}
use Rattle.board_core.specs.Answers.{HasName, IsGone}
use Rattle.desk_core.specs.Kept.{board_of}
use Rattle.board_core.specs.Index.{number_in}
use Rattle.board_core.proofs.Indexing.{row_at, key_past, key_found}
use Rattle.desk_core.proofs.Sessions.{session_there}
use Rattle.desk_core.proofs.roster.Roster.kept.Goals as goal

pub returns-in-None : goal.returns-in-None
returns-in-None c =
    let b : Board = board_of c.self.inside in
    let s = c.args.session in
    let here : IsGone c.args.self.now s → ⊥ = λ g. true_false c.is_gone.result (c.is_gone.ensures.1 g) c.if-is_gone.false in
    let range = session_there c.args.self.now s here in
    let row = row_at b.calls c.self.inside.index s c.self.invariant.index range.0 range.1 in
    let found : c.number.result ≡ number_in row.0 c.args.key = c.number.ensures row.0 row.1 in
    let past : length row.0 < c.args.key = key_past row.0 c.args.key (omega (arith, c.if-key-eq0.false)) (sym found ∙ c.in-None.is) in
    let count : count_by s b.calls ≡ count_by s c.args.self.now.calls = ap (λ (x : Board). count_by s x.calls) c.self.view_is in
    (here, omega (arith, past, row.2.all, count, c.next_key.ensures, c.if-key-next_key.false))

pub returns-then-not-is_same : goal.returns-then-not-is_same
returns-then-not-is_same c =
    let b : Board = board_of c.self.inside in
    let s = c.args.session in
    let here : IsGone c.args.self.now s → ⊥ = λ g. true_false c.is_gone.result (c.is_gone.ensures.1 g) c.if-is_gone.false in
    let range = session_there c.args.self.now s here in
    let row = row_at b.calls c.self.inside.index s c.self.invariant.index range.0 range.1 in
    let found : c.number.result ≡ number_in row.0 c.args.key = c.number.ensures row.0 row.1 in
    let n = c.in-Some.number in
    let has : HasKey c.args.self.now.calls s c.args.key n = subst (λ (x : Board). HasKey x.calls s c.args.key n) c.self.view_is (key_found b.calls s row.0 c.args.key n row.2 (sym found ∙ c.in-Some.is)) in
    (here, (n, has, λ same. true_false c.is_same.result (c.is_same.ensures.1 (has.call, has.there, same.named, same.arguments)) c.if-not-is_same.true))

pub state-state-requires : goal.state-state-requires
state-state-requires c =
    let b : Board = board_of c.self.inside in
    let s = c.args.session in
    let here : IsGone c.args.self.now s → ⊥ = λ g. true_false c.is_gone.result (c.is_gone.ensures.1 g) c.if-is_gone.false in
    let range = session_there c.args.self.now s here in
    let row = row_at b.calls c.self.inside.index s c.self.invariant.index range.0 range.1 in
    let found : c.number.result ≡ number_in row.0 c.args.key = c.number.ensures row.0 row.1 in
    let n = c.in-Some.number in
    let has : HasKey c.args.self.now.calls s c.args.key n = subst (λ (x : Board). HasKey x.calls s c.args.key n) c.self.view_is (key_found b.calls s row.0 c.args.key n row.2 (sym found ∙ c.in-Some.is)) in
    call_number c.args.self.now.calls n has.call has.there

pub returns-else-not-is_same : goal.returns-else-not-is_same
returns-else-not-is_same c =
    let b : Board = board_of c.self.inside in
    let s = c.args.session in
    let here : IsGone c.args.self.now s → ⊥ = λ g. true_false c.is_gone.result (c.is_gone.ensures.1 g) c.if-is_gone.false in
    let range = session_there c.args.self.now s here in
    let row = row_at b.calls c.self.inside.index s c.self.invariant.index range.0 range.1 in
    let found : c.number.result ≡ number_in row.0 c.args.key = c.number.ensures row.0 row.1 in
    let n = c.in-Some.number in
    let has : HasKey c.args.self.now.calls s c.args.key n = subst (λ (x : Board). HasKey x.calls s c.args.key n) c.self.view_is (key_found b.calls s row.0 c.args.key n row.2 (sym found ∙ c.in-Some.is)) in
    let is = c.is_same.ensures.0 c.if-not-is_same.false in
    let one : is.0 ≡ has.call = same_Some is.0 has.call (sym is.1 ∙ has.there) in (
      here,
      record {
        has = has;
        same = record { named = subst (λ (call : AcceptedCall). HasName c.args.name.now call.operation) one is.2; arguments = sym (ap (λ (call : AcceptedCall). call.arguments) one) ∙ is.3 };
        state = c.state-state.ensures;
      },
    )
