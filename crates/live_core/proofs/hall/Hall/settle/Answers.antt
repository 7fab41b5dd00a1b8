use Rattle.std.proofs.Common.{◌∙◌, ◌∷◌, [], refl, sym, ap, subst, arith, length, length-append}
use Rattle.decl_core.specs.ObjectMap.{object_of}
use Rattle.live_core.specs.Hall.{Hall}
use Rattle.live_core.specs.Settles.{with_all}
use Rattle.live_core.proofs.Settling.{SoFar, none_yet, one_more, at_rest, none_wait}
use Rattle.live_core.proofs.Fixed.{fixed_on}
use Rattle.live_core.proofs.hall.Hall.settle.Goals as goal

pub loop-turn-init : goal.loop-turn-init
loop-turn-init c = (
  omega (arith, c.len-turns.ensures, ap (λ (h : Hall). length h.waiting) c.self.view_is),
  c.requires.room,
  record { fixed = record { object = refl; before = refl; sessions = refl; room = refl }; given = refl },
  λ t kept. none_yet c.args.self.now t c.args.all.now.items kept,
)

pub returns-in-None-clause-settles : goal.returns-in-None-clause-settles
returns-in-None-clause-settles c = λ t kept.
    let far = c.loop-turn.invariant.3 t kept in
    at_rest c.args.self.now c.loop-turn.self t c.args.all.now.items c.loop-turn.all.items c.loop-turn.invariant.2.fixed.object far (c.in-None.ensures.none (with_all t far.ran) far.kept)

pub loop-turn-preserved : goal.loop-turn-preserved
loop-turn-preserved c = (
  omega (arith, c.loop-turn.invariant.0, c.run-ran.ensures.fewer),
  omega (arith, c.loop-turn.invariant.1, c.run-ran.ensures.fewer, ap length c.push_reserved.ensures.items, length-append c.loop-turn.all.items (c.run-ran.result ∷ []), c.push_reserved.ensures.capacity),
  record {
    fixed = fixed_on c.args.self.now c.loop-turn.self c.run-ran.new.self c.loop-turn.invariant.2.fixed c.run-ran.ensures.same.fixed;
    given = c.run-ran.ensures.same.given ∙ c.loop-turn.invariant.2.given;
  },
  λ t kept.
      let far = c.loop-turn.invariant.3 t kept in
      subst (SoFar c.args.self.now t c.args.all.now.items c.run-ran.new.self) (sym c.push_reserved.ensures.items)
      (one_more c.args.self.now c.loop-turn.self c.run-ran.new.self t c.args.all.now.items c.loop-turn.all.items c.run-ran.result c.loop-turn.invariant.2.fixed.object far (c.run-ran.ensures.runs (with_all t far.ran) far.kept)),
)

pub returns-clause-settles : goal.returns-clause-settles
returns-clause-settles c = λ t kept.
    let far = c.loop-turn.invariant.3 t kept in
    at_rest c.args.self.now c.loop-turn.self t c.args.all.now.items c.loop-turn.all.items c.loop-turn.invariant.2.fixed.object far
    (none_wait (object_of c.loop-turn.self.object) (with_all t far.ran) c.loop-turn.self.waiting (omega (arith, c.loop-turn.invariant.0, c.loop-turn-test.false)))
