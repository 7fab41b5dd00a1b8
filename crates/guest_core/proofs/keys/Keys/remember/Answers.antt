use Rattle.std.proofs.Common.{◌≡◌, ◌≤◌, ◌<◌, ◌+◌, length, None, sym, subst, arith}
use Rattle.guest_core.specs.Keys.{Keys}
use Rattle.guest_core.specs.KeysView.{keys_of}
use Rattle.guest_core.proofs.Remembering.{put_few, put_counted, remembered_is}
use Rattle.guest_core.proofs.keys.Keys.remember.Goals as goal

pub invariant_of-self : goal.invariant_of-self
invariant_of-self c =
    let none = subst (λ (w : Keys). w.asked ≡ None) (sym c.self.view_is) c.requires.ended in
    record {
      few = subst (λ xs. length xs ≤ 16) (sym c.put.ensures.items) (put_few c.args.call c.self.inside.kept.items);
      counted = subst (λ xs. length xs < c.self.inside.next + 1) (sym c.put.ensures.items) (put_counted c.args.call c.self.inside.kept.items c.self.inside.next c.self.invariant.counted);
      place = omega (arith, c.put.ensures.room, c.self.invariant.place);
      text = λ some. absurd (some none);
      key = λ some. absurd (some none);
    }

pub returns : goal.returns
returns c =
    let none = subst (λ (w : Keys). w.asked ≡ None) (sym c.self.view_is) c.requires.ended in
    remembered_is (keys_of c.self.inside) c.args.self.now c.args.call c.put.new.kept.items c.self.view_is c.put.ensures.items none
