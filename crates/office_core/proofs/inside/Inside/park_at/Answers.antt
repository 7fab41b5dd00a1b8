use Rattle.std.proofs.Common.{◌≡◌, ◌∙◌, ℕ, Some, List, ap, sym, subst, arith}
use Rattle.std.specs.Prelude.{slice_get, slice_set}
use Rattle.board_core.specs.Board.{Board, released, marked}
use Rattle.board_core.specs.Started.{Settles}
use Rattle.board_core.specs.Answers.{runs_by}
use Rattle.office_core.specs.declared.clients.Client.{Client}
use Rattle.office_core.specs.Clients.{AreClients}
use Rattle.office_core.proofs.Naming.{clients_put, client_within}
use Rattle.office_core.specs.Insides.{InsideView}
use Rattle.office_core.proofs.inside.Inside.park_at.Goals as goal

pub invariant_of-self : goal.invariant_of-self
invariant_of-self c =
    let clients : c.self.inside.clients ≡ c.args.self.now.clients = ap (λ (r : InsideView). r.clients) c.self.view_is in
    let client = c.requires.0 in
    let there : slice_get c.self.inside.clients c.args.place ≡ Some client = ap (λ (cs : List Client). slice_get cs c.args.place) clients ∙ c.requires.1 in (
      c.self.invariant.0,
      subst
          (AreClients c.self.inside.given)
          (sym (c.put_at.ensures client there))
          (clients_put c.self.inside.given c.self.inside.clients c.args.place client c.args.seat c.self.invariant.1 there (sym c.requires.2.of)),
    )

pub returns : goal.returns
returns c =
    let board : c.self.inside.desk ≡ c.args.self.now.board = ap (λ (r : InsideView). r.board) c.self.view_is in
    let clients : c.self.inside.clients ≡ c.args.self.now.clients = ap (λ (r : InsideView). r.clients) c.self.view_is in
    let client = c.requires.0 in
    let there : slice_get c.self.inside.clients c.args.place ≡ Some client = ap (λ (cs : List Client). slice_get cs c.args.place) clients ∙ c.requires.1 in
    let within = client_within c.self.inside.given c.self.inside.clients c.args.place client c.self.invariant.1 there in
    let s = c.session-session.result in
    let same : s ≡ c.args.seat.session = c.session-session.ensures in
    let settled = c.disconnect.ensures.left (omega (arith, within.0, same, c.requires.2.of)) (omega (arith, within.1, c.self.invariant.0, same, c.requires.2.of)) in
    record {
      place = c.args.place;
      client = client;
      there = c.requires.1;
      out = c.requires.2;
      rests = sym (c.runs_for.ensures ∙ ap (λ (n : ℕ). runs_by c.self.inside.desk n) same ∙ ap (λ (b : Board). runs_by b c.args.seat.session) board) ∙ c.if-runs_for.false;
      board = subst (λ (n : ℕ). Settles (marked (released c.args.self.now.board n) n) c.disconnect.new.self) same (subst (λ (b : Board). Settles (marked (released b s) s) c.disconnect.new.self) board settled);
      given = ap (λ (r : InsideView). r.given) c.self.view_is;
      clients = c.put_at.ensures client there ∙ ap (λ (cs : List Client). slice_set cs c.args.place (record client { seat = Some c.args.seat })) clients;
    }
