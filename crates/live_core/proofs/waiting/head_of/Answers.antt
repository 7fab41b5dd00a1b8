use Rattle.std.proofs.Common.{◌≡◌, ◌≤◌, ◌<◌, arith}
use Rattle.word_core.specs.Events.{Called}
use Rattle.live_core.proofs.Listing.{every_get}
use Rattle.live_core.proofs.waiting.head_of.Goals as goal

pub returns-then-ends_below : goal.returns-then-ends_below
returns-then-ends_below c = record {
  within = omega arith;
  there = λ less. absurd (omega (arith, less));
  earlier = λ j d before at same.
      absurd (omega (arith, c.ends_below.ensures c.if-ends_below.true j d at, every_get (λ (x : Called). x.operation ≡ c.args.operation → c.args.bound ≤ x.number) c.args.waiting.now j d c.requires.bound at same));
}

pub first_of-requires : goal.first_of-requires
first_of-requires c = record {
  from = c.place_from.ensures.within;
  earlier = λ j d before at same.
      absurd (omega (arith, c.place_from.ensures.lower j d before at, every_get (λ (x : Called). x.operation ≡ c.args.operation → c.args.bound ≤ x.number) c.args.waiting.now j d c.requires.bound at same));
}
