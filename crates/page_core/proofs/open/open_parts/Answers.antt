use Rattle.std.proofs.Common.{◌≡◌, ◌+◌, ◌<◌, [], ◌∷◌, ◌++◌, Some, length, take, sym, ap, subst, ◌∙◌, refl, arith, rules}
use Rattle.std.specs.Prelude.{slice_get, map}
use Rattle.page_core.specs.Pages.{ArePinsServed}
use Rattle.page_core.specs.Opened.{AreLoaded, ArePinned}
use Rattle.std.proofs.lemmas.List.{take_more, take_all}
use Rattle.std.proofs.lemmas.Option.{slice_get_read}
use Rattle.decl_core.specs.declared.object.Part.{Part}
use Rattle.page_core.proofs.Opening.{start, next, since, shelf_since}
use Rattle.page_core.proofs.open.open_parts.Goals as goal

pub loop-number-init : goal.loop-number-init
loop-number-init g c = rw (c.in_ok-lists.ensures.items, c.in_ok-values.ensures.items) (start _ _ _ _ _ _ _)

pub returns-in-Err-clause-papers : goal.returns-in-Err-clause-papers
returns-in-Err-clause-papers g c = λ p is. c.loop-number.invariant.papers p (c.open_part.ensures.papers p is)

pub returns-in-Err-clause-files : goal.returns-in-Err-clause-files
returns-in-Err-clause-files g c = λ a is. c.loop-number.invariant.files a (c.open_part.ensures.files a is)

pub returns-in-Err-clause-counted_shelf : goal.returns-in-Err-clause-counted_shelf
returns-in-Err-clause-counted_shelf g c = omega (arith, c.loop-number.invariant.shelf, c.open_part.ensures.counted_shelf)

pub returns-in-Err-clause-counted_hand : goal.returns-in-Err-clause-counted_hand
returns-in-Err-clause-counted_hand g c = omega (arith, c.loop-number.invariant.hand, c.open_part.ensures.counted_hand)

pub returns-in-Err-clause-cause : goal.returns-in-Err-clause-cause
returns-in-Err-clause-cause g c =
    let all = c.args.object.now.parts.items in
    let part = c.index-part.result.now in
    let within : c.loop-number.number < length all = omega (arith, c.loop-number-test.true, c.len-count.ensures, c.args.object.now.parts.ok.0) in
    let there : slice_get all c.loop-number.number ≡ Some part = slice_get_read all (length all) c.loop-number.number part refl within c.index-part.ensures in
    since _ all part c.loop-number.number there c.loop-number.invariant c.open_part.ensures.papers c.open_part.ensures.counted_shelf c.open_part.ensures.counted_hand _ c.in-Err.ensures.cause

pub returns-in_err-add-clause-papers : goal.returns-in_err-add-clause-papers
returns-in_err-add-clause-papers g c = λ p is. c.loop-number.invariant.papers p (c.open_part.ensures.papers p is)

pub returns-in_err-add-clause-files : goal.returns-in_err-add-clause-files
returns-in_err-add-clause-files g c = λ a is. c.loop-number.invariant.files a (c.open_part.ensures.files a is)

pub returns-in_err-add-clause-counted_shelf : goal.returns-in_err-add-clause-counted_shelf
returns-in_err-add-clause-counted_shelf g c = omega (arith, c.loop-number.invariant.shelf, c.open_part.ensures.counted_shelf)

pub returns-in_err-add-clause-counted_hand : goal.returns-in_err-add-clause-counted_hand
returns-in_err-add-clause-counted_hand g c = omega (arith, c.loop-number.invariant.hand, c.open_part.ensures.counted_hand)

pub loop-number-preserved : goal.loop-number-preserved
loop-number-preserved g c =
    let all = c.args.object.now.parts.items in
    let part = c.index-part.result.now in
    let within : c.loop-number.number < length all = omega (arith, c.loop-number-test.true, c.len-count.ensures, c.args.object.now.parts.ok.0) in
    let longer : take (c.loop-number.number + 1) all ≡ take c.loop-number.number all ++ part ∷ [] = take_more all c.loop-number.number part within ∙ ap (λ (p : Part). take c.loop-number.number all ++ p ∷ []) (sym c.index-part.ensures) in
    rw (longer, c.in_ok-add.ensures.lists, c.in_ok-add.ensures.values)
    (next part _ _ c.loop-number.invariant c.in-Ok.ensures.loaded c.in-Ok.ensures.pinned c.in-Ok.ensures.served c.in-Ok.ensures.kind c.open_part.ensures.papers c.open_part.ensures.files c.open_part.ensures.serves c.open_part.ensures.works c.open_part.ensures.counted_shelf c.open_part.ensures.counted_hand)

pub new-requires : goal.new-requires
new-requires g c =
    let whole : take c.loop-number.number c.args.object.now.parts.items ≡ c.args.object.now.parts.items = take_all c.loop-number.number c.args.object.now.parts.items (omega (arith, c.loop-number-test.false, c.len-count.ensures, c.args.object.now.parts.ok.0)) in
    let many : length c.loop-number.lists.items ≡ length c.args.object.now.parts.items = c.loop-number.invariant.many ∙ ap length whole in
    let lists : c.deref.result.now ≡ c.loop-number.lists.items = search rules in
    rw lists (omega (arith, many, c.args.object.now.few))

pub returns-clause-loaded : goal.returns-clause-loaded
returns-clause-loaded g c = λ papers is.
    let whole : take c.loop-number.number c.args.object.now.parts.items ≡ c.args.object.now.parts.items = take_all c.loop-number.number c.args.object.now.parts.items (omega (arith, c.loop-number-test.false, c.len-count.ensures, c.args.object.now.parts.ok.0)) in
    subst (λ ps. AreLoaded papers c.args.object.now.name ps c.loop-number.values.items) whole (c.loop-number.invariant.loaded papers is)

pub returns-clause-pinned : goal.returns-clause-pinned
returns-clause-pinned g c = λ a so.
    let whole : take c.loop-number.number c.args.object.now.parts.items ≡ c.args.object.now.parts.items = take_all c.loop-number.number c.args.object.now.parts.items (omega (arith, c.loop-number-test.false, c.len-count.ensures, c.args.object.now.parts.ok.0)) in
    let pins : c.new.result ≡ c.loop-number.lists.items = search rules in
    subst (λ ss. ArePinned a c.args.object.now.parts.items ss c.loop-number.values.items) (sym pins) (subst (λ ps. ArePinned a ps c.loop-number.lists.items c.loop-number.values.items) whole (c.loop-number.invariant.pinned a so))

pub returns-clause-served : goal.returns-clause-served
returns-clause-served g c =
    let pins : c.new.result ≡ c.loop-number.lists.items = search rules in
    subst (λ ss. ArePinsServed (g.H.Hand.serves c.loop-number.hand) ss) (sym pins) c.loop-number.invariant.served

pub returns-clause-serves : goal.returns-clause-serves
returns-clause-serves g c = c.loop-number.invariant.kept

pub returns-clause-works : goal.returns-clause-works
returns-clause-works g c = c.loop-number.invariant.works

pub returns-in-Err-clause-serves : goal.returns-in-Err-clause-serves
returns-in-Err-clause-serves g c = λ s is. c.open_part.ensures.serves s (c.loop-number.invariant.kept s is)

pub returns-in-Err-clause-works : goal.returns-in-Err-clause-works
returns-in-Err-clause-works g c = λ always. c.open_part.ensures.works (c.loop-number.invariant.works always)

pub returns-in_err-add-clause-serves : goal.returns-in_err-add-clause-serves
returns-in_err-add-clause-serves g c = λ s is. c.open_part.ensures.serves s (c.loop-number.invariant.kept s is)

pub returns-in_err-add-clause-works : goal.returns-in_err-add-clause-works
returns-in_err-add-clause-works g c = λ always. c.open_part.ensures.works (c.loop-number.invariant.works always)

pub returns-in-Err-clause-in_order : goal.returns-in-Err-clause-in_order
returns-in-Err-clause-in_order g c = λ always is. shelf_since c.loop-number.invariant c.open_part.ensures.counted_shelf (c.in-Err.ensures.in_order (c.loop-number.invariant.works always) is)

pub returns-clause-many : goal.returns-clause-many
returns-clause-many g c =
    let whole : take c.loop-number.number c.args.object.now.parts.items ≡ c.args.object.now.parts.items = take_all c.loop-number.number c.args.object.now.parts.items (omega (arith, c.loop-number-test.false, c.len-count.ensures, c.args.object.now.parts.ok.0)) in
    let pins : c.new.result ≡ c.loop-number.lists.items = search rules in
    ap length pins ∙ c.loop-number.invariant.many ∙ ap length whole

pub returns-clause-kinds : goal.returns-clause-kinds
returns-clause-kinds g c =
    let whole : take c.loop-number.number c.args.object.now.parts.items ≡ c.args.object.now.parts.items = take_all c.loop-number.number c.args.object.now.parts.items (omega (arith, c.loop-number-test.false, c.len-count.ensures, c.args.object.now.parts.ok.0)) in
    c.loop-number.invariant.kinds ∙ ap (map (λ (p : Part). p.kind)) whole

pub returns-clause-papers : goal.returns-clause-papers
returns-clause-papers g c = c.loop-number.invariant.papers

pub returns-clause-files : goal.returns-clause-files
returns-clause-files g c = c.loop-number.invariant.files

pub returns-clause-counted_shelf : goal.returns-clause-counted_shelf
returns-clause-counted_shelf g c = c.loop-number.invariant.shelf

pub returns-clause-counted_hand : goal.returns-clause-counted_hand
returns-clause-counted_hand g c = c.loop-number.invariant.hand
