use Rattle.std.proofs.Common.{◌≡◌, ap, sym, refl, ◌∙◌, subst, map, List, None}
use Rattle.word_core.specs.Events.{Called}
use Rattle.decl_core.specs.HoldForm.{HoldForm}
use Rattle.decl_core.specs.HoldMap.{holds_of}
use Rattle.guest_core.specs.Held.{HeldCall, hold_ended, hold_of_op}
use Rattle.live_core.specs.Calls.{seat_of}
use Rattle.client_core.specs.GoneClients.{ended_for}
use Rattle.client_core.specs.Since.{KeepsSince}
use Rattle.client_core.specs.Holding.{Holding, told_as}
use Rattle.client_core.proofs.Owing.{held_follows}
use Rattle.client_core.proofs.Timing.{gives_at, keeps_since}
use Rattle.client_core.proofs.holding.Holding.ended.Goals as goal

pub returns-clause-ends : goal.returns-clause-ends
returns-clause-ends c =
    let h : Holding = c.args.self.now in
    let told : Called = told_as c.args.told c.args.call.now in
    let holds : List HoldForm = holds_of c.deref.result.now in
    let rules : holds ≡ h.rules.holds = ap holds_of c.deref.ensures.value ∙ ap (λ (h : Holding). h.rules.holds) c.self.view_is in
    let again : holds_of c.deref-2.result.now ≡ holds = ap holds_of c.deref-2.ensures.value ∙ ap holds_of (sym c.deref.ensures.value) in
    let session = c.session.ensures in
    let operation = c.operation.ensures in
    let arguments = c.arguments.ensures in
    let call : Called = record { number = c.args.told; session = c.session.result; operation = c.operation.result; arguments = c.arguments.result.now } in
    let same : call ≡ told = λ i. record { number = c.args.told; session = session i; operation = operation i; arguments = arguments i } in
    let held : c.self.inside.holds ≡ h.held = ap (λ (h : Holding). h.held) c.self.view_is in
    let ended = c.in_ok-end.ensures.ended in
    let given = gives_at holds h.rules.holds call told c.args.reply.now c.self.inside.holds h.held ended.0 c.end.new.self rules same held (ended.1, ended.2) in
    let seat = c.seat_of.ensures ∙ ap seat_of c.session-2.ensures in
    record {
      left = ended.0;
      gives = given.0;
      held = given.1;
      since = subst (λ was. KeepsSince c.args.told c.args.second h.since was c.note_end.new.rows.items c.end.new.self) held
          (keeps_since holds call c.args.reply.now c.args.told c.args.second c.operation-2.result c.self.inside.holds c.end.new.self c.all.result.now h.since c.reserve.new.self.items c.note_end.new.rows.items
          c.may_change-touches.result refl (c.operation-2.ensures ∙ sym c.operation.ensures) (c.in_ok-reserve.ensures.items ∙ ap (λ (h : Holding). h.since) c.self.view_is) c.all.ensures ended
          (λ no. subst (λ r. hold_of_op r c.operation-2.result ≡ None) again (c.may_change-touches.ensures.begins no))
          (λ no. subst (λ r. hold_ended r c.operation-2.result ≡ None) again (c.may_change-touches.ensures.ends no))
          c.note_end.ensures.are c.note_end.ensures.each);
      gone = c.end_one.ensures ∙ ap (λ s. map (ended_for s c.args.second c.args.reply.now) c.self.inside.gone.items) seat ∙ ap (λ (h : Holding). map (ended_for (seat_of told.session) c.args.second c.args.reply.now) h.gone) c.self.view_is;
      rules = ap (λ (h : Holding). h.rules) c.self.view_is;
      away = ap (λ (h : Holding). h.away) c.self.view_is;
      ticking = ap (λ (h : Holding). h.ticking) c.self.view_is;
    }

pub returns-clause-follows : goal.returns-clause-follows
returns-clause-follows c = λ past are.
    let rules : holds_of c.deref.result.now ≡ c.args.self.now.rules.holds = ap holds_of c.deref.ensures.value ∙ ap (λ (h : Holding). h.rules.holds) c.self.view_is in
    let session = c.session.ensures in
    let operation = c.operation.ensures in
    let arguments = c.arguments.ensures in
    let call : Called = record { number = c.args.told; session = c.session.result; operation = c.operation.result; arguments = c.arguments.result.now } in
    let told : call ≡ told_as c.args.told c.args.call.now = λ i. record { number = c.args.told; session = session i; operation = operation i; arguments = arguments i } in
    held_follows (holds_of c.deref.result.now) c.args.self.now.rules.holds call (told_as c.args.told c.args.call.now) c.args.reply.now c.self.inside.holds c.args.self.now.held c.end.new.self past rules told (ap (λ (h : Holding). h.held) c.self.view_is) c.in_ok-end.ensures.ended are
