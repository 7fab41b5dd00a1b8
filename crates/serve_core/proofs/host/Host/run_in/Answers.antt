use Rattle.std.proofs.Common.{refl, subst, inl, inr, ℕ}
use Rattle.value_core.specs.declared.machine.LinesFault.TheVariants.{Memory}
use Rattle.serve_core.specs.Numbers.{AreBetween}
use Rattle.serve_core.proofs.Running.{run_none, run_behind}
use Rattle.serve_core.proofs.Tidying.{moved_not, moved_all}
use Rattle.serve_core.proofs.host.Host.run_in.Goals as goal

pub returns-in-Err-clause-run : goal.returns-in-Err-clause-run
returns-in-Err-clause-run g c = inr (run_none _ Memory, refl)

pub returns-in-Err-clause-files : goal.returns-in-Err-clause-files
returns-in-Err-clause-files g c = record {
  mid = c.move_left.new.values;
  moved = moved_not g.V.Values.does c.args.files.now.values c.move_left.new.values c.args.files.now.found.numbers c.in-Err.ensures.err.0;
  own = inl refl;
}

pub returns-then-self-clause-run : goal.returns-then-self-clause-run
returns-then-self-clause-run g c = run_behind c.args.ready.items c.run-ended.result c.remove_own.result c.run-ended.ensures c.remove_own.ensures.ended

pub returns-then-self-clause-files : goal.returns-then-self-clause-files
returns-then-self-clause-files g c =
    let own = c.remove_own.ensures.own in
    record {
      mid = c.move_left.new.values;
      moved = moved_all g.V.Values.does c.args.files.now.values c.move_left.new.values c.args.files.now.found.numbers c.numbers.result.now c.remove_own.result c.numbers.ensures.numbers (λ none. (c.in-Ok.ensures.none none).1)
          (λ many. let moved = c.in-Ok.ensures.moved many in (moved.0, moved.1, moved.2, moved.3));
      own = inr (c.if-self.true, (own.0, own.1, subst (λ (first : ℕ). AreBetween first own.0 own.1) c.deref.ensures own.2, own.3));
    }

pub returns-else-self-clause-files : goal.returns-else-self-clause-files
returns-else-self-clause-files g c = record {
  mid = c.move_left.new.values;
  moved = moved_all g.V.Values.does c.args.files.now.values c.move_left.new.values c.args.files.now.found.numbers c.numbers.result.now c.run-ended.result c.numbers.ensures.numbers (λ none. (c.in-Ok.ensures.none none).1)
      (λ many. let moved = c.in-Ok.ensures.moved many in (moved.0, moved.1, moved.2, moved.3));
  own = inl refl;
}
