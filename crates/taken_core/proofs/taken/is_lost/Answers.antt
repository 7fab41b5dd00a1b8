use Rattle.keep_loop.specs.Taken.{SaysMore}
use Rattle.taken_core.proofs.Formats.{unsure}
use Rattle.taken_core.proofs.Lost.{more_on, more_back, more_none}
use Rattle.taken_core.proofs.taken.is_lost.Goals as goal

pub loop-more-preserved : goal.loop-more-preserved
loop-more-preserved c =
    let not = unsure (SaysMore c.in-Some.more.now c.args.written) c.in_ok-says_more.field-0 c.if-branch.false c.in_ok-says_more.ensures in
    record {
      on = λ has. more_on c.loop-more.rest.now c.in-Some.field-0-0.now c.in-Some.more.now c.args.written c.in-Some.ensures.0 c.in-Some.ensures.1 not (c.loop-more.invariant.on has);
      back = λ has. c.loop-more.invariant.back (more_back c.loop-more.rest.now c.in-Some.field-0-0.now c.in-Some.more.now c.args.written c.in-Some.ensures.1 has);
    }

pub returns : goal.returns
returns c has = more_none c.loop-more.rest.now c.args.written c.in_default.ensures (c.loop-more.invariant.on has)
