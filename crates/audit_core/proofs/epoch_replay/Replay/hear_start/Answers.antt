use Rattle.std.proofs.Common.{◌≡◌, length, sym, refl, subst, arith}
use Rattle.std.specs.Prelude.{Some}
use Rattle.decl_core.specs.ObjectMap.{object_of}
use Rattle.word_core.specs.Events.{Called}
use Rattle.audit_core.specs.EpochSaid.{asks}
use Rattle.audit_core.specs.Steps.{trace_by}
use Rattle.audit_core.specs.EpochTells.{IsCall, start_told}
use Rattle.audit_core.specs.EpochStands.{known_call, IsPending}
use Rattle.audit_core.specs.declared.epoch_replay.Known.{Known}
use Rattle.audit_core.specs.declared.epoch_replay.Replay.{Replay}
use Rattle.audit_core.proofs.EpochHearing.{start_bad}
use Rattle.audit_core.proofs.Paths.{one_left}
use Rattle.audit_core.proofs.EpochStanding.{call_known, pending_so, started_stands}
use Rattle.audit_core.proofs.epoch_replay.Replay.hear_start.Goals as goal

pub returns-in_default : goal.returns-in_default
returns-in_default c = λ line e heard s says.
    start_bad (object_of c.args.object.now) e heard line (asks c.args.number c.args.session c.args.name.now c.args.arguments.items) says
    (λ call is few. (rw c.deref.ensures.value at (c.in_default.ensures e heard s)) call is)

pub returns-then-is_spent : goal.returns-then-is_spent
returns-then-is_spent c = λ line e heard s says.
    let o = object_of c.args.object.now in
    start_bad o e heard line (asks c.args.number c.args.session c.args.name.now c.args.arguments.items) says
    (λ call is few. omega (arith, few, (c.is_spent.ensures (length o.operations) o.paths (trace_by e heard.steps) s.counted).0 c.if-is_spent.true))

pub returns-in-Some-refusing : goal.returns-in-Some-refusing
returns-in-Some-refusing c = λ line e heard s says.
    let o = object_of c.args.object.now in
    let t = trace_by e heard.steps in
    let asked = asks c.args.number c.args.session c.args.name.now c.args.arguments.items in
    let call : Called = record { number = c.args.number; session = c.args.session; operation = c.in-Some.operation; arguments = c.args.arguments.items } in
    let is : IsCall o e heard asked call = rw c.deref.ensures.value at (c.in-Some.ensures e heard s) in
    let few = one_left c.args.self.now.counts.all (length o.operations) o.paths t c.is_spent.result s.counted.together (c.is_spent.ensures (length o.operations) o.paths t s.counted) c.if-is_spent.false in
    let first = c.in-Some-refusing.ensures (length o.operations) o.paths t s.counted (call_known o e heard asked call is) in
    record { call = call; told = start_told says is few; place = first.0; counted = first.1; first = first.2 }

pub returns : goal.returns
returns c = λ line e heard s says.
    let o = object_of c.args.object.now in
    let t = trace_by e heard.steps in
    let asked = asks c.args.number c.args.session c.args.name.now c.args.arguments.items in
    let call : Called = record { number = c.args.number; session = c.args.session; operation = c.in-Some.operation; arguments = c.args.arguments.items } in
    let is : IsCall o e heard asked call = rw c.deref.ensures.value at (c.in-Some.ensures e heard s) in
    let few = one_left c.args.self.now.counts.all (length o.operations) o.paths t c.is_spent.result s.counted.together (c.is_spent.ensures (length o.operations) o.paths t s.counted) c.if-is_spent.false in
    let may = c.in_default-refusing.ensures (length o.operations) o.paths t s.counted (call_known o e heard asked call is) in
    let k : Known = c.make_known.result in
    let same : known_call k ≡ call = c.make_known.ensures in
    let old = c.args.self.now in
    let new : Replay = record { alloc = old.alloc; counts = old.counts; parts = old.parts; numbers = old.numbers; carried = old.carried; running = Some k; long = old.long } in
    let pending : IsPending o e (record heard { running = Some (known_call k) }) (known_call k) =
    subst (λ (x : Called). IsPending o e (record heard { running = Some x }) x) (sym same) (pending_so o e heard asked call is may few) in (
      record heard { running = Some (known_call k) },
      start_told says (subst (IsCall o e heard asked) (sym same) is) few,
      refl,
      started_stands o e old new heard k s refl refl refl refl refl refl pending,
    )
