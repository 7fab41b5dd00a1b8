use Rattle.std.proofs.Common.{◌≡◌, ◌<◌, Some, length, refl, sym, ap, ◌∙◌, arith}
use Rattle.std.specs.Prelude.{slice_get}
use Rattle.std.proofs.lemmas.Option.{slice_get_read}
use Rattle.decl_core.specs.declared.object.Object.{Object}
use Rattle.decl_core.specs.declared.object.Part.{Part}
use Rattle.apply_core.specs.History.{leads_to}
use Rattle.board_core.specs.Board.{Board}
use Rattle.board_core.specs.Chain.{history_of}
use Rattle.world_core.proofs.Showing.{one_more, value_of, all_shown}
use Rattle.world_core.proofs.stage.WorldTables.contents.Goals as goal

pub read_value-requires-clause-shown : goal.read_value-requires-clause-shown
read_value-requires-clause-shown c =
    let o : Object = c.object.result.now in
    let part : Part = c.index.result.now in
    let same : o ≡ c.loop-part.self.desk.object = c.object.ensures.same ∙ c.accepted.ensures in
    let many = c.requires.staged.kept.sound.pinned.each in
    let within : c.loop-part.part < length o.parts.items =
    omega (arith, c.loop-part-test.true, c.len-count.ensures.len, ap length c.pins-pins.ensures, many, ap (λ (x : Object). length x.parts.items) same, ap (λ (b : Board). length b.object.parts.items) c.loop-part.invariant.desk) in
    let there : slice_get o.parts.items c.loop-part.part ≡ Some part = slice_get_read o.parts.items (length o.parts.items) c.loop-part.part part refl within c.index.ensures in
    let shown = value_of c.args.self.now c.loop-part.self c.loop-part.values.items c.loop-part.part o part c.pins-pins.result c.in-Some.pin c.requires.staged c.loop-part.invariant same c.pins-pins.ensures there (sym c.in-Some.ensures) in
    (shown.0, shown.2)

pub loop-part-preserved : goal.loop-part-preserved
loop-part-preserved c =
    let o : Object = c.object.result.now in
    let part : Part = c.index.result.now in
    let same : o ≡ c.loop-part.self.desk.object = c.object.ensures.same ∙ c.accepted.ensures in
    let many = c.requires.staged.kept.sound.pinned.each in
    let within : c.loop-part.part < length o.parts.items =
    omega (arith, c.loop-part-test.true, c.len-count.ensures.len, ap length c.pins-pins.ensures, many, ap (λ (x : Object). length x.parts.items) same, ap (λ (b : Board). length b.object.parts.items) c.loop-part.invariant.desk) in
    let there : slice_get o.parts.items c.loop-part.part ≡ Some part = slice_get_read o.parts.items (length o.parts.items) c.loop-part.part part refl within c.index.ensures in
    let shown = value_of c.args.self.now c.loop-part.self c.loop-part.values.items c.loop-part.part o part c.pins-pins.result c.in-Some.pin c.requires.staged c.loop-part.invariant same c.pins-pins.ensures there (sym c.in-Some.ensures) in
    let at : slice_get (leads_to (history_of c.args.self.now.desk.history) c.args.self.now.opening.items) c.loop-part.part ≡ Some c.in_ok-value.value =
    shown.1 ∙ ap Some (sym (c.in_ok-value.ensures.value shown.0 shown.2)) in
    one_more c.args.self.now c.loop-part.self _ c.loop-part.values.items _ c.loop-part.part c.in_ok-value.value c.loop-part.invariant refl c.read_value.ensures.files refl refl c.in_ok-push.ensures.items at

pub returns-clause-values : goal.returns-clause-values
returns-clause-values c =
    all_shown c.args.self.now c.loop-part.self c.loop-part.values.items c.loop-part.part c.requires.staged c.loop-part.invariant
    (omega (arith, c.loop-part-test.false, c.len-count.ensures.len, ap length c.pins-pins.ensures))
