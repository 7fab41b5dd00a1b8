use Rattle.std.proofs.Common.{◌≡◌, ℕ, length, slice_get}
use Rattle.keep_loop.specs.Posts.{stage_at}
use Rattle.keep_loop.specs.declared.post.Stage.TheVariants.{Gone}
use Rattle.keep_loop.proofs.post.no_places.Given as goal

abbrev pub invariant-loop-place : goal.invariant-loop-place
invariant-loop-place l = record {
  count : length l.places.items ≡ l._place;
  none : (k : ℕ) → stage_at (slice_get l.places.items k) ≡ Gone;
}
