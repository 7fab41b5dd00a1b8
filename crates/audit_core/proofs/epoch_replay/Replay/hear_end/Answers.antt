use Rattle.std.proofs.Common.{◌≡◌, ◌∷◌, ◌++◌, [], length, sym, refl, ap, ◌∙◌, subst, map}
use Rattle.std.specs.Prelude.{None}
use Rattle.value_core.specs.Contents.{kind_of}
use Rattle.decl_core.specs.ObjectMap.{object_of}
use Rattle.apply_core.specs.History.{IsReplyOn, left_by}
use Rattle.word_core.specs.Events.{call_of, body_at}
use Rattle.audit_core.specs.Replies.{CanDo}
use Rattle.audit_core.specs.View.{told_view}
use Rattle.path_count.specs.declared.past.PastEvent.TheVariants as past
use Rattle.audit_core.specs.Counts.{Counted}
use Rattle.audit_core.specs.Numbers.{AreNumbers}
use Rattle.audit_core.specs.Steps.{ran, trace_by}
use Rattle.audit_core.specs.EpochTells.{end_told}
use Rattle.audit_core.specs.EpochStands.{known_call}
use Rattle.audit_core.specs.declared.epoch_replay.Replay.{Replay}
use Rattle.audit_core.proofs.EpochStanding.{stranger, runs_is, can_do, unused_fresh, ran_stands}
use Rattle.audit_core.proofs.epoch_replay.Replay.hear_end.Goals as goal

pub returns-in_default : goal.returns-in_default
returns-in_default c = λ line e heard s says. record {
  number = c.args.number;
  reply = told_view c.args.told;
  says = says;
  none = stranger (object_of c.args.object.now) e c.args.self.now heard c.args.number s c.in_default.ensures.none;
}

pub returns-then-not-branch : goal.returns-then-not-branch
returns-then-not-branch c = λ line e heard s says.
    let o = object_of c.args.object.now in
    let old = c.args.self.now in
    let k = c.in-Some.known in
    let found = c.in-Some.ensures.some in
    let p = runs_is o e old heard k s found.0 in
    let mid = c.take_running.new.self in
    let parts : mid.parts ≡ old.parts = ap (λ (r : Replay). r.parts) found.2 in
    let can : CanDo o k.call mid.parts.items = subst (λ v. CanDo o k.call v.items) (sym parts) (can_do o e old heard k s p) in
    record {
      call = known_call k;
      reply = told_view c.args.told;
      told = end_told says p.runs found.1;
      wrong = λ is. (rw c.if-not-branch.true at c.in_ok-is_right.ensures) can (subst (λ v. IsReplyOn (told_view c.args.told) (body_at o k.call.operation) k.call.arguments.items v) (sym s.contents ∙ ap (λ v. v.items) (sym parts)) is);
    }

pub returns : goal.returns
returns c = λ line e heard s says.
    let o = object_of c.args.object.now in
    let old = c.args.self.now in
    let k = c.in-Some.known in
    let found = c.in-Some.ensures.some in
    let p = runs_is o e old heard k s found.0 in
    let mid = c.take_running.new.self in
    let t = trace_by e heard.steps in
    let n = length o.operations in
    let reply = told_view c.args.told in
    let call = known_call k in
    let parts : mid.parts ≡ old.parts = ap (λ (r : Replay). r.parts) found.2 in
    let can : CanDo o k.call mid.parts.items = subst (λ v. CanDo o k.call v.items) (sym parts) (can_do o e old heard k s p) in
    let right = (rw c.if-not-branch.false at c.in_ok-is_right.ensures) can in
    let new = c.count.new.self in
    let did = c.in_ok-count.ensures in
    let counted = did.counted n o.paths t (call_of call) (subst (λ (r : Replay). Counted r.counts.all r.counts.each.items n o.paths t) (sym found.2) s.counted) refl p.known p.may p.few (unused_fresh e heard.steps call.number p.number.1 s.before p.unused) in
    let numbers = did.numbers heard.steps (ran call reply) found.1 (subst (λ (r : Replay). AreNumbers r.numbers.used.items r.numbers.greatest heard.steps) (sym found.2) s.numbers) in
    let left = ap (λ v. v.items) did.same.0 in (
      record { steps = ran call reply ∷ heard.steps; running = None },
      end_told says p.runs found.1,
      refl,
      ran_stands o e old new heard call reply s p counted
          (subst (λ v. IsReplyOn reply (body_at o call.operation) call.arguments v.items) parts right.0)
          (left ∙ right.1 ∙ ap (λ v. left_by reply (body_at o call.operation) call.arguments v.items) parts)
          (ap (map kind_of) left ∙ right.2 ∙ ap (λ v. map kind_of v.items) parts)
          numbers
          (did.long ∙ ap (λ (r : Replay). r.long.items ++ past.Start call.operation ∷ past.End call.operation ∷ []) found.2)
          (did.same.1 ∙ ap (λ (r : Replay). r.carried) found.2)
          (did.same.2 ∙ ap (λ (r : Replay). r.running) found.2),
    )
