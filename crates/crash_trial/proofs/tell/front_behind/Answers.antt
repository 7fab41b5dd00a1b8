use Rattle.crash_trial.proofs.tell.front_behind.Goals as goal

pub returns-then-is_whole : goal.returns-then-is_whole
returns-then-is_whole c = (
  c.source_of-source.result,
  c.in-Some.hosted,
  rw c.in-Some.is at c.in_ok-begin_again.ensures,
  rw c.new-front.ensures.items at (c.in_ok-is_whole-in-Some.ensures c.if-is_whole.true),
)
