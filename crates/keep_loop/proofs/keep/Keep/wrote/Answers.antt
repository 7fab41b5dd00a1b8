use Rattle.std.proofs.Common.{refl, take, ◌∷◌}
use Rattle.keep_loop.specs.declared.keep.Keep.{Keep}
use Rattle.keep_loop.specs.Posts.{owed_to}
use Rattle.keep_loop.specs.Seen.Happened.{Wrote}
use Rattle.keep_loop.proofs.Stood.{rests_same, rests_wrote}
use Rattle.keep_loop.proofs.keep.Keep.wrote.Goals as goal

pub returns : goal.returns
returns g c = record {
  rests = λ first limits seen r.
      let mid : Keep g.row.O.Denot = record { object = c.args.self.now.object; post = c.wrote.new.self; held = c.args.self.now.held; base = c.args.self.now.base; free = c.args.self.now.free; has_freed = c.args.self.now.has_freed; limits = c.args.self.now.limits } in
      let new : Keep g.row.O.Denot = record { object = c.args.self.now.object; post = c.call_if.new.self; held = c.args.self.now.held; base = c.args.self.now.base; free = c.args.self.now.free; has_freed = c.args.self.now.has_freed; limits = c.args.self.now.limits } in
      rests_same g.O.Served.gives first limits (Wrote c.args.who (take c.args.n (owed_to c.args.self.now.post.places.items c.args.who)) ∷ seen) mid new refl refl refl refl c.in_ok-call_if.ensures
      (rests_wrote g.O.Served.gives first limits seen c.args.self.now mid c.args.who c.args.n refl refl refl refl c.requires.here c.wrote.ensures r);
}
