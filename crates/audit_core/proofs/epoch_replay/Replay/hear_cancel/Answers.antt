use Rattle.std.proofs.Common.{◌≡◌, ◌∷◌, sym, refl, ap, subst}
use Rattle.decl_core.specs.ObjectMap.{object_of}
use Rattle.word_core.specs.Events.{Called}
use Rattle.audit_core.specs.EpochSaid.{asks}
use Rattle.audit_core.specs.Steps.{cancelled}
use Rattle.audit_core.specs.EpochTells.{IsCall, cancel_told}
use Rattle.audit_core.specs.EpochStands.{known_call}
use Rattle.audit_core.specs.declared.epoch_replay.Known.{Known}
use Rattle.audit_core.specs.declared.epoch_replay.Replay.{Replay}
use Rattle.audit_core.proofs.EpochHearing.{cancel_bad}
use Rattle.audit_core.proofs.EpochStanding.{rests_so, cancelled_stands}
use Rattle.audit_core.proofs.epoch_replay.Replay.hear_cancel.Goals as goal

pub returns-in_default : goal.returns-in_default
returns-in_default c = λ line e heard s says.
    cancel_bad (object_of c.args.object.now) e heard line (asks c.args.number c.args.session c.args.name.now c.args.arguments.items) says
    (λ call is. (rw c.deref.ensures.value at (c.in_default.ensures e heard s)) call is)

pub returns : goal.returns
returns c = λ line e heard s says.
    let o = object_of c.args.object.now in
    let asked = asks c.args.number c.args.session c.args.name.now c.args.arguments.items in
    let call : Called = record { number = c.args.number; session = c.args.session; operation = c.in-Some.operation; arguments = c.args.arguments.items } in
    let is : IsCall o e heard asked call = rw c.deref.ensures.value at (c.in-Some.ensures e heard s) in
    let k : Known = c.make_known.result in
    let same : known_call k ≡ call = c.make_known.ensures in
    let old = c.args.self.now in
    let new : Replay = record { alloc = old.alloc; counts = old.counts; parts = old.parts; numbers = c.take.new.self; carried = old.carried; running = old.running; long = old.long } in
    let numbers = c.in_ok-take.ensures heard.steps (cancelled (known_call k)) (ap (λ (x : Called). x.number) same) s.numbers in (
      record heard { steps = cancelled (known_call k) ∷ heard.steps },
      cancel_told says (subst (IsCall o e heard asked) (sym same) is),
      refl,
      cancelled_stands o e old new heard (known_call k) s is.rests (rests_so o e old heard s is.rests) numbers refl refl refl refl refl,
    )
