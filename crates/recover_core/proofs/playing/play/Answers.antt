use Rattle.std.proofs.Common.{◌+◌, ◌∷◌, length, refl, arith, ap, length-append}
use Rattle.std.specs.Prelude.{Ok, Err}
use Rattle.decl_core.specs.ObjectMap.{object_of}
use Rattle.recover_core.specs.Playing.{Plays}
use Rattle.recover_core.proofs.Hearing.{follow_none, follow_more, follow_end, follow_fault}
use Rattle.recover_core.proofs.playing.play.Goals as goal

pub lines-init : goal.lines-init
lines-init c = record {
  follows = λ f now opened s. follow_none (object_of c.args.object.now) f now opened c.args.behind.now c.args.playing.now s;
  bound = omega arith;
  few = omega (arith, c.requires);
  mark = omega arith;
}

pub returns-in-Err-clause-played : goal.returns-in-Err-clause-played
returns-in-Err-clause-played c = λ f now opened s.
    let o = object_of c.args.object.now in
    let heard : Plays o c.in-Some.line.now c.lines.playing (Err c.in-Err.refused) c.hear.new.self = rw c.in-Err.is at c.in_ok-refused.ensures.heard in
    follow_fault o f now opened c.args.behind.now c.lines.rest.now c.in-Some.line.now c.in-Some.tail.now c.lines.playing c.hear.new.self c.lines.number c.lines.mark (c.lines.number + 1) c.in-Err.refused
    (c.lines.invariant.follows f now opened s) c.in-Some.ensures.0 c.in-Some.ensures.1 (λ h stands. heard f now opened h stands) refl

pub lines-preserved : goal.lines-preserved
lines-preserved c =
    let o = object_of c.args.object.now in
    let heard : Plays o c.in-Some.line.now c.lines.playing (Ok c.in-Ok.rests) c.hear.new.self = rw c.in-Ok.is at c.in_ok-refused.ensures.heard in
    let shorter = length-append c.in-Some.line.now (10 ∷ c.in-Some.tail.now) in
    record {
      follows = λ f now opened s. follow_more o f now opened c.args.behind.now c.lines.rest.now c.in-Some.line.now c.in-Some.tail.now c.lines.playing c.hear.new.self c.lines.number c.lines.mark (c.lines.number + 1) c.mark_of-mark.result c.in-Ok.rests
          (c.lines.invariant.follows f now opened s) c.in-Some.ensures.0 c.in-Some.ensures.1 (λ h stands. heard f now opened h stands) refl c.mark_of-mark.ensures.mark;
      bound = omega (arith, c.lines.invariant.bound, shorter, ap length c.in-Some.ensures.1);
      few = omega (arith, c.lines.invariant.few, c.in_ok-refused.ensures.ended);
      mark = c.mark_of-mark.ensures.few (length c.args.behind.now) (omega arith) c.lines.invariant.mark;
    }

pub returns-clause-played : goal.returns-clause-played
returns-clause-played c = λ f now opened s.
    follow_end (object_of c.args.object.now) f now opened c.args.behind.now c.lines.rest.now c.lines.playing c.lines.number c.lines.mark (c.lines.invariant.follows f now opened s) c.in_default.ensures
