use Rattle.std.proofs.Common.{◌≡◌, ◌+◌, ◌<◌, length, sym, ap, subst, ◌∙◌, arith}
use Rattle.std.specs.Prelude.{drop, set, IfErr}
use Rattle.device_core.specs.Made.{retires}
use Rattle.device_core.specs.Device.{FaultCause}
use Rattle.std.proofs.lemmas.List.{take_more_set, drop-set-lt, length-set}
use Rattle.device_core.proofs.Retiring.{start, go_on, leave, next_left, Retires}
use Rattle.device_core.proofs.retire.retire_all.Goals as goal
use Rattle.device_core.proofs.retire.retire_all.Goals.{in-Ok, in-Err}

pub loop-at-init : goal.loop-at-init
loop-at-init g c = start g.H.Hand.makes g.H.Hand.failed g.H.Hand.agrees g.H.Hand.pending g.H.Hand.serves g.H.Hand.works_for c.args.hand.now c.args.stamps.items

pub loop-at-preserved : goal.loop-at-preserved
loop-at-preserved g c =
    let xs = c.args.stamps.items in
    let items = c.loop-at.stamps.items in
    let at = c.loop-at.at in
    let kept = c.loop-at.kept in
    let stamp = c.index.result.now in
    let so = c.loop-at.invariant in
    let within : at < length items = omega (arith, c.loop-at-test.true, c.len-at-end.ensures, so.many, c.args.stamps.ok.0, c.loop-at.stamps.ok.0) in
    let next = next_left xs items at stamp within so.many so.rest c.index.ensures in
    let step : Retires g.H.Hand.makes g.H.Hand.failed g.H.Hand.agrees g.H.Hand.pending g.H.Hand.serves g.H.Hand.works_for c.loop-at.hand stamp c.retire.new.self = record {
      agrees = c.retire.ensures.agrees;
      others = c.retire.ensures.others;
      earlier = c.retire.ensures.earlier;
      serves = c.retire.ensures.serves;
      works = c.retire.ensures.works;
      counted = c.retire.ensures.counted;
    } in
    elim c.match-retire.branch [
      | in-Ok w ↦ rw (w.stamps-is, w.kept-is)
          (go_on g.H.Hand.makes g.H.Hand.failed g.H.Hand.agrees g.H.Hand.pending g.H.Hand.serves g.H.Hand.works_for c.args.hand.now c.loop-at.hand c.retire.new.self xs items at kept stamp so step next.0 next.1
          (subst (λ r. g.H.Hand.makes c.loop-at.hand (retires stamp r) c.retire.new.self) w.in-Ok.is c.retire.ensures.makes))
      | in-Err w ↦
          let before : kept < length items = omega (arith, so.fits, within) in
          let behind : drop (at + 1) (set items kept stamp) ≡ drop (at + 1) items = drop-set-lt (at + 1) items kept stamp (omega (arith, so.fits)) in
          rw (w.stamps-is, w.kept-is)
          (leave g.H.Hand.makes g.H.Hand.failed g.H.Hand.agrees g.H.Hand.pending g.H.Hand.serves g.H.Hand.works_for c.args.hand.now c.loop-at.hand c.retire.new.self xs items (set items kept stamp) at kept stamp w.in-Err.field-0 so step next.0
          (take_more_set items kept stamp before) (length-set items kept stamp) (behind ∙ next.1)
          (subst (λ r. g.H.Hand.makes c.loop-at.hand (retires stamp r) c.retire.new.self) w.in-Err.is c.retire.ensures.makes) (subst (λ r. IfErr r (λ e. FaultCause (g.H.Hand.failed c.loop-at.hand) (g.H.Hand.failed c.retire.new.self) e)) w.in-Err.is c.retire.ensures.cause))
    ]
