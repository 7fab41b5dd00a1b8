use Rattle.std.proofs.Common.{refl, subst}
use Rattle.keep_loop.specs.Turns.Asked.{Changes}
use Rattle.std.specs.Prelude.{[]}
use Rattle.keep_loop.specs.declared.keep.Keep.{Keep}
use Rattle.keep_loop.proofs.Stood.{stands_renewed, stands_stays}
use Rattle.keep_loop.proofs.keep.Keep.changed.Goals as goal

pub returns : goal.returns
returns g c =
    let new : Keep g.row.O.Denot = record { object = c.changed.new.self; post = c.args.self.now.post; held = c.args.self.now.held; base = c.args.self.now.base; free = c.args.self.now.free; has_freed = c.args.self.now.has_freed; limits = c.args.self.now.limits } in
    record {
      renewed = λ is first limits seen r.
          stands_renewed g.O.Served.gives first limits seen c.args.self.now new c.args.journal c.args.front.now refl refl refl refl
          (subst (λ w. g.O.Served.gives c.args.self.now.object (Changes c.args.journal c.args.front.now w) [] [] c.changed.new.self) is c.in_ok-changed.ensures) r;
      stays = λ is first limits seen s.
          stands_stays g.O.Served.gives first limits seen c.args.self.now new c.args.journal c.args.front.now refl refl refl refl
          (subst (λ w. g.O.Served.gives c.args.self.now.object (Changes c.args.journal c.args.front.now w) [] [] c.changed.new.self) is c.in_ok-changed.ensures) s;
    }
