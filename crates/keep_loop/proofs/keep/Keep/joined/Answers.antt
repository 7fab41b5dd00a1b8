use Rattle.std.proofs.Common.{refl}
use Rattle.keep_loop.specs.declared.keep.Keep.{Keep}
use Rattle.keep_loop.proofs.Stood.{stands_join}
use Rattle.keep_loop.proofs.keep.Keep.joined.Goals as goal

pub returns : goal.returns
returns g c = record {
  stands = λ first limits seen s.
      let new : Keep g.row.O.Denot = record { object = c.note.new.self; post = c.note.new.post; held = c.let_go.new.texts; base = c.args.next; free = c.pop.new.self; has_freed = c.args.self.now.has_freed; limits = c.args.self.now.limits } in
      stands_join g.O.Served.gives first limits seen c.args.self.now new c.open.new.self c.args.who c.args.next c.requires.from c.requires.below c.let_go.ensures.count c.let_go.ensures.held
      refl refl c.open.ensures c.in_ok-note.ensures s;
}
