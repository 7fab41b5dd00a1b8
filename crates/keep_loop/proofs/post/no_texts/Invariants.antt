use Rattle.std.proofs.Common.{◌≡◌, ℕ, [], length}
use Rattle.keep_loop.specs.Texts.{text_at}
use Rattle.keep_loop.proofs.post.no_texts.Given as goal

abbrev pub invariant-loop-text : goal.invariant-loop-text
invariant-loop-text l = record {
  count : length l.texts.items ≡ l._text;
  empty : (k : ℕ) → text_at l.texts.items k ≡ [];
}
