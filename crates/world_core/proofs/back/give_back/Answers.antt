use Rattle.std.proofs.lemmas.Option.{slice_get-get_or}
use Rattle.decl_core.specs.HoldMap.{holds_of}
use Rattle.world_core.proofs.Giving.{given_none, given_more, given_all}
use Rattle.world_core.proofs.back.give_back.Goals as goal

pub sessions-init : goal.sessions-init
sessions-init c = given_none (holds_of c.args.rules.now) c.args.holds.now c.args.world.now c.args.gone.now c.args.out.now.items

pub sessions-preserved : goal.sessions-preserved
sessions-preserved c =
    let told = c.in_ok-give_one.ensures in
    given_more (holds_of c.args.rules.now) c.args.holds.now c.args.world.now c.sessions.world c.give_one.new.world c.args.gone.now c.sessions.place _ c.args.out.now.items c.sessions.out.items c.give_one.new.out.items told.0 c.sessions.invariant
    (slice_get-get_or c.args.gone.now c.sessions.place _ c.sessions-test.true) told.1 told.2

pub returns : goal.returns
returns c =
    given_all (holds_of c.args.rules.now) c.args.holds.now c.args.world.now c.sessions.world c.args.gone.now c.sessions.place c.args.out.now.items c.sessions.out.items c.sessions-test.false c.sessions.invariant
