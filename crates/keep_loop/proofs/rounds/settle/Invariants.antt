use Rattle.keep_loop.specs.Epochs.{rules_of}
use Rattle.std.proofs.Common.{◌≡◌, ◌<◌, ℕ, [], length}
use Rattle.keep_loop.specs.Texts.{text_at}
use Rattle.keep_loop.specs.Stands.{Keeps}
use Rattle.keep_loop.proofs.rounds.settle.Given as goal

abbrev pub invariant-loop-journal : goal.invariant-loop-journal
invariant-loop-journal g l = record {
  goes : Keeps (rules_of g.O.Served.gives g.O.Served.fronts) (g.W.Outside.seen l.fn.outside) l.fn.keep (g.W.Outside.seen l.outside) l.keep;
  count : length l.keep.post.lines.items ≡ l.journal-end;
  none : (j : ℕ) → j < l.journal → text_at l.keep.post.lines.items j ≡ [];
}
