use Rattle.std.proofs.Common.{◌≡◌, ap, sym, subst}
use Rattle.board_core.specs.declared.answer.Collected.TheVariants as collected
use Rattle.board_core.specs.Answers.{Collects}
use Rattle.office_core.specs.Insides.{InsideView}
use Rattle.office_core.specs.Submissions.{IsOf}
use Rattle.office_core.proofs.Found.{ticket_is}
use Rattle.office_core.proofs.inside.Inside.look.Goals as goal

pub returns-in-Ticket-clause-tells : goal.returns-in-Ticket-clause-tells
returns-in-Ticket-clause-tells c =
    let board : c.self.inside.desk ≡ c.args.self.now.board = ap (λ (r : InsideView). r.board) c.self.view_is in
    ticket_is c.self.inside.desk c.args.submitted c.in-Ticket.ticket c.collect.new.self c.history-history.ensures.sound (subst (λ b. IsOf b c.args.submitted) (sym board) c.requires) c.in-Ticket.ensures.board

pub returns-in-Ticket-clause-inside : goal.returns-in-Ticket-clause-inside
returns-in-Ticket-clause-inside c =
    let s = c.args.submitted in
    let board : c.self.inside.desk ≡ c.args.self.now.board = ap (λ (r : InsideView). r.board) c.self.view_is in (
      c.requires,
      subst (λ b. Collects b s.number (collected.Ticket c.in-Ticket.ticket) c.collect.new.self) board c.in-Ticket.ensures.board,
      (ap (λ (r : InsideView). r.given) c.self.view_is, ap (λ (r : InsideView). r.clients) c.self.view_is),
    )

pub returns-in-Waiting-clause-inside : goal.returns-in-Waiting-clause-inside
returns-in-Waiting-clause-inside c =
    let s = c.args.submitted in
    let board : c.self.inside.desk ≡ c.args.self.now.board = ap (λ (r : InsideView). r.board) c.self.view_is in (
      c.requires,
      subst (λ b. Collects b s.number collected.Waiting c.collect.new.self) board c.in-Waiting.ensures.board,
      (ap (λ (r : InsideView). r.given) c.self.view_is, ap (λ (r : InsideView). r.clients) c.self.view_is),
    )

pub returns-in-Cancelled-clause-inside : goal.returns-in-Cancelled-clause-inside
returns-in-Cancelled-clause-inside c =
    let s = c.args.submitted in
    let board : c.self.inside.desk ≡ c.args.self.now.board = ap (λ (r : InsideView). r.board) c.self.view_is in (
      c.requires,
      subst (λ b. Collects b s.number collected.Cancelled c.collect.new.self) board c.in-Cancelled.ensures.board,
      (ap (λ (r : InsideView). r.given) c.self.view_is, ap (λ (r : InsideView). r.clients) c.self.view_is),
    )

pub returns-in-Cancelled-clause-tells : goal.returns-in-Cancelled-clause-tells
returns-in-Cancelled-clause-tells c =
    let board : c.self.inside.desk ≡ c.args.self.now.board = ap (λ (r : InsideView). r.board) c.self.view_is in
    let is = c.in-Cancelled.ensures.board in
    record {
      board = c.self.inside.desk;
      sound = c.history-history.ensures.sound;
      is_of = subst (λ b. IsOf b c.args.submitted) (sym board) c.requires;
      waits = is.1;
      runs = is.2;
      ended = is.3;
    }
