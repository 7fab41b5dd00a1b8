use Rattle.std.proofs.Common.{◌≡◌, ◌∙◌, ◌⊎◌, inl, ℕ, Some, None, List, ap, sym, subst, refl, arith}
use Rattle.std.specs.Prelude.{slice_get, slice_set}
use Rattle.board_core.specs.Board.{Board}
use Rattle.board_core.specs.Keys.{resumed}
use Rattle.office_core.specs.declared.clients.Client.{Client}
use Rattle.office_core.specs.Clients.{AreClients}
use Rattle.office_core.proofs.Naming.{clients_taken, parked_within}
use Rattle.office_core.specs.Insides.{InsideView}
use Rattle.office_core.proofs.inside.Inside.seat_again.Goals as goal

pub invariant_of-self : goal.invariant_of-self
invariant_of-self c =
    let clients : c.self.inside.clients ≡ c.args.self.now.clients = ap (λ (r : InsideView). r.clients) c.self.view_is in
    let client = c.requires.0 in
    let there : slice_get c.self.inside.clients c.args.place ≡ Some client = ap (λ (cs : List Client). slice_get cs c.args.place) clients ∙ c.requires.1 in
    let took = c.in-Some.ensures.some client there in
    (c.self.invariant.0, subst (AreClients c.self.inside.given) (sym took.1) (clients_taken c.self.inside.given c.self.inside.clients c.args.place client c.self.invariant.1 there))

pub invariant_of-self-in-None : goal.invariant_of-self-in-None
invariant_of-self-in-None c =
    let clients : c.self.inside.clients ≡ c.args.self.now.clients = ap (λ (r : InsideView). r.clients) c.self.view_is in
    let client = c.requires.0 in
    let there : slice_get c.self.inside.clients c.args.place ≡ Some client = ap (λ (cs : List Client). slice_get cs c.args.place) clients ∙ c.requires.1 in
    let left = c.in-None.ensures.none client there in
    (c.self.invariant.0, subst (AreClients c.self.inside.given) (sym left.1) c.self.invariant.1)

pub returns-in-Some-clause-gives : goal.returns-in-Some-clause-gives
returns-in-Some-clause-gives c = λ client is.
    let board : c.self.inside.desk ≡ c.args.self.now.board = ap (λ (r : InsideView). r.board) c.self.view_is in
    let clients : c.self.inside.clients ≡ c.args.self.now.clients = ap (λ (r : InsideView). r.clients) c.self.view_is in
    let there : slice_get c.self.inside.clients c.args.place ≡ Some client = ap (λ (cs : List Client). slice_get cs c.args.place) clients ∙ is in
    let took = c.in-Some.ensures.some client there in
    let seat = c.in-Some.seat in
    let within = parked_within c.self.inside.given c.self.inside.clients c.args.place client seat c.self.invariant.1 there took.0 in
    let same : c.session.result ≡ seat.session = c.session.ensures in
    let back = c.resume.ensures.back (omega (arith, within.0, same)) (omega (arith, within.1, c.self.invariant.0, same)) in
    inl
    (record {
      place = c.args.place;
      client = client;
      at = record { there = is; named = refl };
      parked = took.0;
      board = back.1 ∙ ap (λ (n : ℕ). resumed c.self.inside.desk n) same ∙ ap (λ (b : Board). resumed b seat.session) board;
      given = ap (λ (r : InsideView). r.given) c.self.view_is;
      clients = took.1 ∙ ap (λ (cs : List Client). slice_set cs c.args.place (record client { seat = None })) clients;
    })

pub returns-in-Some-clause-within : goal.returns-in-Some-clause-within
returns-in-Some-clause-within c =
    let clients : c.self.inside.clients ≡ c.args.self.now.clients = ap (λ (r : InsideView). r.clients) c.self.view_is in
    let client = c.requires.0 in
    let there : slice_get c.self.inside.clients c.args.place ≡ Some client = ap (λ (cs : List Client). slice_get cs c.args.place) clients ∙ c.requires.1 in
    let took = c.in-Some.ensures.some client there in
    let within = parked_within c.self.inside.given c.self.inside.clients c.args.place client c.in-Some.seat c.self.invariant.1 there took.0 in
    (within.0, omega (arith, within.1, c.self.invariant.0))
