use Rattle.std.proofs.Common.{refl}
use Rattle.keep_loop.specs.declared.keep.Keep.{Keep}
use Rattle.keep_loop.proofs.Stood.{rests_same}
use Rattle.keep_loop.proofs.keep.Keep.next_told.Goals as goal

pub returns : goal.returns
returns g c = record {
  rests = λ first limits seen r.
      let new : Keep g.row.O.Denot = record { object = c.args.self.now.object; post = c.next_told.new.self; held = c.args.self.now.held; base = c.args.self.now.base; free = c.args.self.now.free; has_freed = c.args.self.now.has_freed; limits = c.args.self.now.limits } in
      rests_same g.O.Served.gives first limits seen c.args.self.now new refl refl refl refl c.next_told.ensures r;
}
