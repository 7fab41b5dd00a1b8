use Rattle.std.proofs.Common.{◌≡◌, ◌∙◌, ℕ, ap, subst, ◌+◌, length}
use Rattle.std.specs.Arc.{arc_value}
use Rattle.board_core.specs.Board.{Board, joined}
use Rattle.page_core.specs.ObjectCalls.{AcceptedCall}
use Rattle.board_core.specs.Started.{Settles}
use Rattle.board_core.specs.Answers.{Asked, IsTaken, IsRefused}
use Rattle.office_core.specs.Insides.{InsideView}
use Rattle.office_core.proofs.Found.{joined_is}
use Rattle.office_core.proofs.inside.Inside.submit.Goals as goal

pub returns-in-Ok-clause-asks : goal.returns-in-Ok-clause-asks
returns-in-Ok-clause-asks c = record { named = c.in-Ok.ensures.taken.asked.named.has; arguments = c.in-Ok.ensures.taken.asked.arguments }

pub returns-in-Ok-clause-board : goal.returns-in-Ok-clause-board
returns-in-Ok-clause-board c =
    let asked : ℕ → Asked = λ n. record { session = n; name = c.args.op.now; arguments = c.args.args.now } in
    let board : c.self.inside.desk ≡ c.args.self.now.board = ap (λ (r : InsideView). r.board) c.self.view_is in
    subst
    (λ (n : ℕ). (c.in-Ok.number ≡ length c.args.self.now.board.calls + 1)
    × ((call : AcceptedCall) × IsTaken c.args.self.now.board (asked n) call × Settles (joined c.args.self.now.board call) c.submit_and_share.new.self))
    c.session.ensures
    (subst
    (λ (b : Board). (c.in-Ok.number ≡ length b.calls + 1) × ((call : AcceptedCall) × IsTaken b (asked c.session.result) call × Settles (joined b call) c.submit_and_share.new.self))
    board
    (c.in-Ok.ensures.number, (arc_value c.in-Ok.call, c.in-Ok.ensures.taken, c.in-Ok.ensures.board)))

pub returns-in-Ok-clause-accepted : goal.returns-in-Ok-clause-accepted
returns-in-Ok-clause-accepted c =
    let asked : Asked = record { session = c.session.result; name = c.args.op.now; arguments = c.args.args.now } in
    joined_is c.self.inside.desk c.submit_and_share.new.self asked (record { number = c.in-Ok.number; call = c.in-Ok.call }) c.in-Ok.ensures.taken c.in-Ok.ensures.number c.in-Ok.ensures.board

pub returns-in-Err-clause-refused : goal.returns-in-Err-clause-refused
returns-in-Err-clause-refused c =
    let asked : ℕ → Asked = λ n. record { session = n; name = c.args.op.now; arguments = c.args.args.now } in
    let board : c.self.inside.desk ≡ c.args.self.now.board = ap (λ (r : InsideView). r.board) c.self.view_is in
    let refused = subst (λ (b : Board). IsRefused b (asked c.session.result) c.in-Err.fault) board c.in-Err.ensures.refused.0 in
    (subst (λ (n : ℕ). IsRefused c.args.self.now.board (asked n) c.in-Err.fault) c.session.ensures refused, c.in-Err.ensures.refused.1 ∙ board)
