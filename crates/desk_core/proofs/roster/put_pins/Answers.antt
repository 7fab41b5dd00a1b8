use Rattle.std.proofs.Common.{◌≡◌, ◌+◌, length, sym, subst, arith}
use Rattle.desk_core.specs.Publishing.{ArePageLists}
use Rattle.desk_core.proofs.Publishing.{ArePut, none_put, one_put, all_put, none_published}
use Rattle.desk_core.proofs.roster.put_pins.Goals as goal

pub returns-then-len-eq0 : goal.returns-then-len-eq0
returns-then-len-eq0 c = sym (none_published c.args.pins.now c.args.news.now c.requires (omega (arith, c.len.ensures, c.if-len-eq0.true)))

pub loop-part-init : goal.loop-part-init
loop-part-init c = none_put c.args.pins.now c.args.news.now

pub put_pin-requires : goal.put_pin-requires
put_pin-requires c =
    let many : length c.loop-part.pins ≡ length c.args.pins.now = c.loop-part.invariant.each in
    record {
      part = omega (arith, c.loop-part-test.true, c.len-part-end.ensures.len, many);
      sized = subst (λ parts. ArePageLists parts c.args.news.now) (sym many) c.requires;
    }

pub loop-part-preserved : goal.loop-part-preserved
loop-part-preserved c =
    subst (ArePut c.args.pins.now c.args.news.now (c.loop-part.part + 1)) (sym c.put_pin.ensures)
    (one_put c.args.pins.now c.args.news.now c.loop-part.part c.loop-part.pins (omega (arith, c.loop-part-test.true, c.len-part-end.ensures.len)) c.loop-part.invariant)

pub returns : goal.returns
returns c = all_put c.args.pins.now c.args.news.now c.loop-part.part c.loop-part.pins (omega (arith, c.loop-part-test.false, c.len-part-end.ensures.len)) c.loop-part.invariant
