use Rattle.std.proofs.Common.{refl, true}
use Rattle.keep_loop.specs.declared.keep.Keep.{Keep}
use Rattle.keep_loop.proofs.Stood.{rests_closes}
use Rattle.keep_loop.proofs.keep.Keep.closed.Goals as goal

pub returns-in_ok-push-in-Some : goal.returns-in_ok-push-in-Some
returns-in_ok-push-in-Some g c = record {
  rests = λ first limits seen r.
      let new : Keep g.row.O.Denot = record { object = c.args.self.now.object; post = c.close.new.self; held = c.args.self.now.held; base = c.args.self.now.base; free = c.push.new.self; has_freed = true; limits = c.args.self.now.limits } in
      rests_closes g.O.Served.gives first limits seen c.args.self.now new refl refl refl refl c.close.ensures r;
}

pub returns-in-None : goal.returns-in-None
returns-in-None g c = record {
  rests = λ first limits seen r.
      let new : Keep g.row.O.Denot = record { object = c.args.self.now.object; post = c.close.new.self; held = c.args.self.now.held; base = c.args.self.now.base; free = c.args.self.now.free; has_freed = true; limits = c.args.self.now.limits } in
      rests_closes g.O.Served.gives first limits seen c.args.self.now new refl refl refl refl c.close.ensures r;
}
