use Rattle.std.proofs.Common.{[], refl}
use Rattle.path_count.proofs.Fields.{stands_whole}
use Rattle.path_count.proofs.counters.compile.Goals as goal

pub invariant_of-result : goal.invariant_of-result
invariant_of-result c = let w = c.in_ok-words.ensures in let o = c.in_ok-operations.ensures in let r = c.in_ok-running.ensures in (
  c.args.n_ops,
  c.args.paths.now,
  [],
  stands_whole (record { words = c.in_ok-words.words; operations = c.in_ok-operations.operations; running = c.in_ok-running.running; taken = 0 })
      c.args.n_ops c.args.paths.now w.0 w.1 w.2 o.0 o.1 r.0 r.1 refl,
)

pub returns : goal.returns
returns c = let w = c.in_ok-words.ensures in let o = c.in_ok-operations.ensures in let r = c.in_ok-running.ensures in
    stands_whole (record { words = c.in_ok-words.words; operations = c.in_ok-operations.operations; running = c.in_ok-running.running; taken = 0 })
    c.args.n_ops c.args.paths.now w.0 w.1 w.2 o.0 o.1 r.0 r.1 refl
