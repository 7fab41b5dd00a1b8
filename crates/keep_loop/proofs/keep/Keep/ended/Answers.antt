use Rattle.std.proofs.Common.{refl}
use Rattle.std.proofs.lemmas.List.{append-nil}
use Rattle.keep_loop.specs.declared.keep.Keep.{Keep}
use Rattle.keep_loop.specs.Stands.{held_of}
use Rattle.keep_loop.proofs.Stood.{stands_ended, stands_last}
use Rattle.keep_loop.proofs.keep.Keep.ended.Goals as goal

pub returns-then-is_empty : goal.returns-then-is_empty
returns-then-is_empty g c = record {
  stands = λ first limits seen s.
      let new : Keep g.row.O.Denot = record { object = c.args.self.now.object; post = c.quit.new.self; held = c.args.self.now.held; base = c.args.self.now.base; free = c.args.self.now.free; has_freed = c.args.self.now.has_freed; limits = c.args.self.now.limits } in
      stands_ended g.O.Served.gives first limits seen c.args.self.now new c.args.who c.requires.hears c.in_ok-quit.ensures.deaf refl refl refl refl c.in_ok-quit.ensures.told s;
}

pub returns : goal.returns
returns g c = record {
  stands = λ first limits seen s.
      let e = c.in_ok-answer_last.ensures in
      stands_last g.O.Served.gives first limits seen c.args.self.now c.answer_last.new.self c.args.who _ (append-nil (held_of c.args.self.now.held.items c.args.who)) c.requires.hears e.deaf e.base e.limits e.count e.held e.does s;
}
