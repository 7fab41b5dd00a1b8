use Rattle.std.proofs.Common.{◌≡◌, ◌≢◌, ◌∙◌, List, [], ◌∷◌, ◌++◌, sym, ap, subst, length, None}
use Rattle.std.specs.Prelude.{IfSome, IfNone}
use Rattle.decl_core.specs.ObjectForm.{OperationForm}
use Rattle.decl_core.specs.ObjectMap.{operation_of}
use Rattle.decl_core.specs.Bodies.{body_of}
use Rattle.decl_core.specs.Touched.{Writes}
use Rattle.page_core.specs.PartPins.{PartPin, pin_at}
use Rattle.apply_core.specs.declared.reply.Reply.{Reply}
use Rattle.page_core.specs.CallPins.{Call}
use Rattle.page_core.specs.CallPins.{AreSized}
use Rattle.page_core.specs.declared.outcome.Outcome.{Outcome}
use Rattle.page_core.specs.Outcomes.{outcome_call, outcome_reply, outcome_news, outcome_pins, if_done}
use Rattle.page_core.specs.Lists.{Among}
use Rattle.page_core.specs.ObjectCalls.{RunningCall, Noted}
use Rattle.board_core.specs.Started.{Settles}
use Rattle.board_core.specs.Board.{Board, ended, entry_of, Admits}
use Rattle.board_core.specs.Chain.{pins_after}
use Rattle.board_core.specs.Free.{IsNeeded, Picks}
use Rattle.page_core.proofs.Lists.{among_at}
use Rattle.board_core.proofs.Admission.{rests_after, ended_history, settled}
use Rattle.desk_core.proofs.desk.Desk.finish_in_place.Goals as goal

pub end-session-requires : goal.end-session-requires
end-session-requires c =
    let found = c.in-Some.ensures.some.1 in
    let r : RunningCall = found.0 in
    let o : Outcome = c.take_entry-news.new.self in
    let kept : List PartPin = c.take_entry-news.result in
    let told : if_done c.reply.result.now kept ≡ outcome_pins o =
    ap (λ x. if_done x kept) c.reply.ensures ∙ ap (if_done (outcome_reply o)) (c.take_entry-news.ensures.taken ∙ c.in-Some.ensures.some.0 ∙ sym c.take_entry-news.ensures.same.news) in
    let same : (body_of r.call.operation).statements ≡ (body_of (outcome_call o).operation).statements =
    ap (λ (f : OperationForm). f.statements) (found.2.operation ∙ ap (λ (call : Call). operation_of call.operation) (sym c.take_entry-news.ensures.same.call)) in
    record {
      there = (r, found.1, λ p has. subst (λ st. Writes st p) (sym same) (c.new_pins.ensures.inside p (subst (λ ns. pin_at ns p ≢ None) told has)));
      some = subst (λ ns. IfSome c.new_pins.result (λ n. n.now ≡ ns)) (sym told) c.new_pins.ensures.some;
      none = subst (λ (ns : List PartPin). IfNone c.new_pins.result (ns ≡ [])) (sym told) c.new_pins.ensures.none;
      sized = subst AreSized (sym told) c.new_pins.ensures.sized;
    }

pub invariant_of-self : goal.invariant_of-self
invariant_of-self c = rests_after _ _ c.admit.ensures

pub returns-clause-board : goal.returns-clause-board
returns-clause-board c =
    let found = c.in-Some.ensures.some.1 in
    let r : RunningCall = found.0 in
    let before : Board = c.self.inside.roster in
    let after : Board = c.admit.new.self in
    let reply : Reply = outcome_reply c.args.outcome.now in
    let news : List PartPin = outcome_news c.args.outcome.now in
    let kept : List PartPin = c.take_entry-news.result in
    let once = c.take_entry-news.ensures.same in
    let twice = c.take_free-free.ensures.same in
    let e : Noted = entry_of r reply news in
    let entry : entry_of r c.reply.result.now kept ≡ e =
    ap (λ x. entry_of r x kept) (c.reply.ensures ∙ once.reply) ∙ ap (entry_of r reply) (c.take_entry-news.ensures.taken ∙ c.in-Some.ensures.some.0) in
    let made : c.end-session.new.self ≡ ended before e = c.end-session.ensures.board r found.1 ∙ ap (ended before) entry in
    let admits : Admits (ended before e) after = subst (λ b. Admits b after) made c.admit.ensures in
    record {
      call = r;
      runs = subst (λ (b : Board). Among r b.running) c.self.view_is (among_at before.running c.in-Some.place r found.1);
      is = found.2;
      settles = subst (λ (b : Board). Settles (ended b e) after) c.self.view_is (settled _ _ admits);
      history = (ended_history before after e admits).0 ∙ ap (λ (b : Board). b.history ++ e ∷ []) c.self.view_is;
      pins = (ended_history before after e admits).1 ∙ ap (λ (b : Board). pins_after b.pins e) c.self.view_is;
      place = ap length c.history-place.ensures.history;
      session = c.end-session.ensures.session r found.1;
      outcome = record { call = twice.call ∙ once.call; reply = twice.reply ∙ once.reply; news = twice.news ∙ once.news };
      free = subst (λ stamps. Picks (IsNeeded after.pins after.running) [] stamps c.pick.new.free.items) (c.take_free-free.ensures.taken ∙ c.take_entry-news.ensures.free) c.pick.ensures;
    }
