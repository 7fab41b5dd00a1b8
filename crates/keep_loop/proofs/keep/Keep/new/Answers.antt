use Rattle.std.proofs.Common.{refl, sym, ◌∙◌}
use Rattle.keep_loop.proofs.Stood.{stands_none}
use Rattle.keep_loop.proofs.keep.Keep.new.Goals as goal

pub returns : goal.returns
returns g c = record {
  stands = stands_none g.O.Served.gives c.args.object c.args.limits _ refl refl (c.in_ok-held.ensures.count ∙ sym c.in_ok-post.ensures.places) c.in_ok-post.ensures.journals
      c.in_ok-post.ensures.none c.in_ok-post.ensures.empty;
}
