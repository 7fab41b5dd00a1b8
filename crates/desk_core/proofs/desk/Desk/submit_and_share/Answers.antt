use Rattle.std.proofs.Common.{◌≡◌, ◌∙◌, arith, refl, ap, subst, sym}
use Rattle.std.specs.Arc.{arc_value}
use Rattle.std.proofs.lemmas.List.{length-map}
use Rattle.std.proofs.lemmas.Option.{slice_get_within}
use Rattle.page_core.specs.ObjectCalls.{AcceptedCall}
use Rattle.board_core.specs.Board.{Board, joined, bodies, Admits}
use Rattle.board_core.specs.Answers.{Asked, IsTaken, IsRefused}
use Rattle.guest_core.specs.declared.answer.SubmitFault.TheVariants.{Memory}
use Rattle.board_core.specs.Started.{Settles}
use Rattle.board_core.proofs.Admission.{rests_after, joined_history, settled}
use Rattle.desk_core.proofs.Sessions.{session_there}
use Rattle.desk_core.proofs.Naming.{first_at}
use Rattle.desk_core.proofs.desk.Desk.submit_and_share.Goals as goal

pub join-requires-clause-place : goal.join-requires-clause-place
join-requires-clause-place c =
    let taken = c.in-Ok.ensures.taken in
    omega (arith, slice_get_within (bodies c.self.inside.roster.object) c.in-Ok.place taken.0 taken.1.asked.named.there, length-map c.self.inside.roster.object.operations.items (λ x. arc_value x))

pub join-requires-clause-session : goal.join-requires-clause-session
join-requires-clause-session c = session_there c.self.inside.roster c.args.session c.in-Ok.ensures.taken.1.here

pub join-requires-clause-first : goal.join-requires-clause-first
join-requires-clause-first c = λ operation is.
    let taken = c.in-Ok.ensures.taken in
    first_at c.self.inside.roster.object c.in-Ok.place taken.0 operation _ taken.1.asked.named is

pub invariant_of-self : goal.invariant_of-self
invariant_of-self c = rests_after _ _ c.admit.ensures

pub returns-in-Ok-join-clause-taken : goal.returns-in-Ok-join-clause-taken
returns-in-Ok-join-clause-taken c =
    let taken0 = c.in-Ok.ensures.taken in
    let asked : Asked = record { session = c.args.session; name = c.args.op.now; arguments = c.args.args.now } in
    let call : AcceptedCall = record { session = c.args.session; op = c.in-Ok.place; operation = taken0.0; arguments = c.args.args.now } in
    let taken : IsTaken c.self.inside.roster asked call = subst (λ name. IsTaken c.self.inside.roster (record { session = c.args.session; name = name; arguments = c.args.args.now }) call) c.as_bytes.ensures.value taken0.1 in
    let is : arc_value c.in-Ok-join.call ≡ call = c.in-Ok-join.ensures.shared taken0.0 taken0.1.asked.named.there in
    subst (λ (b : Board). IsTaken b asked (arc_value c.in-Ok-join.call)) c.self.view_is (subst (IsTaken c.self.inside.roster asked) (sym is) taken)

pub returns-in-Ok-join-clause-board : goal.returns-in-Ok-join-clause-board
returns-in-Ok-join-clause-board c =
    let taken0 = c.in-Ok.ensures.taken in
    let call : AcceptedCall = record { session = c.args.session; op = c.in-Ok.place; operation = taken0.0; arguments = c.args.args.now } in
    let is : arc_value c.in-Ok-join.call ≡ call = c.in-Ok-join.ensures.shared taken0.0 taken0.1.asked.named.there in
    let admits : Admits (joined c.self.inside.roster call) c.admit.new.self = subst (λ b. Admits b c.admit.new.self) (c.in-Ok-join.ensures.ok taken0.0 taken0.1.asked.named.there) c.admit.ensures in
    subst (λ (b : Board). Settles (joined b (arc_value c.in-Ok-join.call)) c.admit.new.self) c.self.view_is
    (subst (λ x. Settles (joined c.self.inside.roster x) c.admit.new.self) (sym is) (settled _ _ admits))

pub returns-in-Ok-join-clause-history : goal.returns-in-Ok-join-clause-history
returns-in-Ok-join-clause-history c =
    let taken0 = c.in-Ok.ensures.taken in
    let call : AcceptedCall = record { session = c.args.session; op = c.in-Ok.place; operation = taken0.0; arguments = c.args.args.now } in
    (joined_history c.self.inside.roster c.admit.new.self call (subst (λ b. Admits b c.admit.new.self) (c.in-Ok-join.ensures.ok taken0.0 taken0.1.asked.named.there) c.admit.ensures)).0 ∙ ap (λ (b : Board). b.history) c.self.view_is

pub returns-in-Ok-join-clause-pins : goal.returns-in-Ok-join-clause-pins
returns-in-Ok-join-clause-pins c =
    let taken0 = c.in-Ok.ensures.taken in
    let call : AcceptedCall = record { session = c.args.session; op = c.in-Ok.place; operation = taken0.0; arguments = c.args.args.now } in
    (joined_history c.self.inside.roster c.admit.new.self call (subst (λ b. Admits b c.admit.new.self) (c.in-Ok-join.ensures.ok taken0.0 taken0.1.asked.named.there) c.admit.ensures)).1 ∙ ap (λ (b : Board). b.pins) c.self.view_is

pub returns-in-Err-clause-refused : goal.returns-in-Err-clause-refused
returns-in-Err-clause-refused c = (
  subst (λ (b : Board). IsRefused b (record { session = c.args.session; name = c.args.op.now; arguments = c.args.args.now }) c.in-Err.fault) c.self.view_is
      (subst (λ name. IsRefused c.self.inside.roster (record { session = c.args.session; name = name; arguments = c.args.args.now }) c.in-Err.fault) c.as_bytes.ensures.value c.in-Err.ensures.refused),
  refl,
)

pub returns-in-Err-join-clause-refused : goal.returns-in-Err-join-clause-refused
returns-in-Err-join-clause-refused c =
    let taken0 = c.in-Ok.ensures.taken in
    let asked : Asked = record { session = c.args.session; name = c.args.op.now; arguments = c.args.args.now } in
    let call : AcceptedCall = record { session = c.args.session; op = c.in-Ok.place; operation = taken0.0; arguments = c.args.args.now } in
    let taken : IsTaken c.self.inside.roster asked call = subst (λ name. IsTaken c.self.inside.roster (record { session = c.args.session; name = name; arguments = c.args.args.now }) call) c.as_bytes.ensures.value taken0.1 in
    (subst (λ (b : Board). IsRefused b asked Memory) c.self.view_is (call, taken), c.in-Err-join.ensures.err ∙ c.self.view_is)
