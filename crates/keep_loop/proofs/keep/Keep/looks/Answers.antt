use Rattle.std.proofs.Common.{refl, false}
use Rattle.keep_loop.specs.declared.keep.Keep.{Keep}
use Rattle.keep_loop.proofs.Places.{tells_none}
use Rattle.keep_loop.proofs.Stood.{stands_same}
use Rattle.keep_loop.proofs.keep.Keep.looks.Goals as goal

pub returns : goal.returns
returns g c = record {
  stands = λ first limits seen s.
      let new : Keep g.row.O.Denot = record { object = c.args.self.now.object; post = c.args.self.now.post; held = c.args.self.now.held; base = c.args.self.now.base; free = c.args.self.now.free; has_freed = false; limits = c.args.self.now.limits } in
      stands_same g.O.Served.gives first limits seen c.args.self.now new refl refl refl refl (tells_none c.args.self.now.post) s;
}
