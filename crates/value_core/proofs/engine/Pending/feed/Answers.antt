use Rattle.std.proofs.Common.{◌≡◌, ◌++◌, ◌∷◌, [], length, ap, subst, arith, length-append}
use Rattle.std.specs.Str.Lines.{strip_carriage_return}
use Rattle.value_core.proofs.Reading.{Reading-none, Reading-more, Reading-stops}
use Rattle.value_core.proofs.engine.Pending.feed.Goals as goal

pub loop-front-init : goal.loop-front-init
loop-front-init g c = record {
  clear = c.requires.held;
  room = omega arith;
  reading = Reading-none g.M.Machine.gives c.args.machine.now c.args.self.now.number c.args.self.now.held.items c.args.self.now.out.items c.args.piece.now;
}

pub returns-then-not-branch-clause-fed : goal.returns-then-not-branch-clause-fed
returns-then-not-branch-clause-fed g c =
    let answer = c.in_ok-answer_line.ensures.answer in
    let parts = c.in-Some.ensures in
    let step = subst (λ goes. g.M.Machine.gives c.loop-front.machine c.loop-front.self.number (strip_carriage_return (c.loop-front.self.held.items ++ c.in-Some.front.now)) answer.0 goes c.answer_line.new.machine) c.if-not-branch.true answer.2 in
    Reading-stops g.M.Machine.gives c.args.machine.now c.args.self.now.number c.args.self.now.held.items c.args.self.now.out.items c.args.piece.now
    c.loop-front.rest.now c.loop-front.machine c.loop-front.self.number c.loop-front.self.held.items c.loop-front.self.out.items c.in-Some.front.now c.in-Some.back.now
    answer.0 c.answer_line.new.out.items c.answer_line.new.machine c.answer_line.new.held.items
    c.loop-front.invariant.reading c.loop-front.invariant.clear parts.0 parts.1 step answer.1

pub loop-front-preserved : goal.loop-front-preserved
loop-front-preserved g c =
    let answer = c.in_ok-answer_line.ensures.answer in
    let parts = c.in-Some.ensures in
    let empty : c.answer_line.new.held.items ≡ [] = c.in_ok-answer_line.ensures.held in
    let step = subst (λ goes. g.M.Machine.gives c.loop-front.machine c.loop-front.self.number (strip_carriage_return (c.loop-front.self.held.items ++ c.in-Some.front.now)) answer.0 goes c.answer_line.new.machine) c.if-not-branch.false answer.2 in
    let more = Reading-more g.M.Machine.gives c.args.machine.now c.args.self.now.number c.args.self.now.held.items c.args.self.now.out.items c.args.piece.now
    c.loop-front.rest.now c.loop-front.machine c.loop-front.self.number c.loop-front.self.held.items c.loop-front.self.out.items c.in-Some.front.now c.in-Some.back.now
    answer.0 c.answer_line.new.out.items c.answer_line.new.machine
    c.loop-front.invariant.reading c.loop-front.invariant.clear parts.0 parts.1 step answer.1 in
    record {
      clear = (rw empty (λ k d below. absurd (omega arith)));
      room = (let len = length-append c.in-Some.front.now (10 ∷ c.in-Some.back.now) in omega (arith, len, c.loop-front.invariant.room, ap length parts.1));
      reading = rw empty more;
    }
