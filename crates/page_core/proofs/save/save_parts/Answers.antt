use Rattle.std.proofs.Common.{◌≡◌, ◌+◌, ◌<◌, ◌≤◌, List, [], ◌∷◌, ◌++◌, Some, length, take, sym, ap, subst, ◌∙◌, refl, arith, slice_index_or}
use Rattle.std.specs.Prelude.{slice_get}
use Rattle.std.proofs.lemmas.List.{take_more, take_all}
use Rattle.std.proofs.lemmas.Option.{slice_get_read, slice_get-get_or}
use Rattle.decl_core.specs.declared.object.Part.{Part}
use Rattle.device_core.specs.declared.hand.Stamp.{Stamp}
use Rattle.device_core.specs.Papers.{Papers}
use Rattle.page_core.specs.Saved.{AreFetched, with_parts}
use Rattle.page_core.proofs.Saving.{start, next, since, leaves, shelf_since}
use Rattle.page_core.proofs.save.save_parts.Goals as goal

pub loop-number-init : goal.loop-number-init
loop-number-init g c = start _ _ _ _ _ _ _

pub loop-number-preserved : goal.loop-number-preserved
loop-number-preserved g c =
    let parts = c.args.object.now.parts.items in
    let part = c.index-part.result.now in
    let n = c.loop-number.number in
    let within : n < length parts = omega (arith, c.loop-number-test.true, c.len-number-end.ensures, c.args.object.now.parts.ok.0) in
    let pin : List Stamp = c.index-lists-number.result in
    let same : slice_index_or c.args.pins.now n pin ≡ pin = ap (λ (ps : List (List Stamp)). slice_index_or ps n pin) (sym c.as_slice-lists.ensures.lists) ∙ sym c.index-lists-number.is in
    let longer : take (n + 1) parts ≡ take n parts ++ part ∷ [] = take_more parts n part within ∙ ap (λ (p : Part). take n parts ++ p ∷ []) (sym c.index-part.ensures) in
    let further : take (n + 1) c.args.pins.now ≡ take n c.args.pins.now ++ pin ∷ [] = take_more c.args.pins.now n pin (omega (arith, within, c.requires)) ∙ ap (λ (p : List Stamp). take n c.args.pins.now ++ p ∷ []) same in
    rw (longer, further) (next _ _ _ _ part pin c.loop-number.invariant c.in-Ok.ensures.ok c.save_part.ensures.files c.save_part.ensures.serves c.save_part.ensures.works c.save_part.ensures.counted_shelf c.save_part.ensures.counted_hand)

pub returns-in-Err-clause-files : goal.returns-in-Err-clause-files
returns-in-Err-clause-files g c = λ a is. c.loop-number.invariant.files a (c.save_part.ensures.files a is)

pub returns-in-Err-clause-counted_shelf : goal.returns-in-Err-clause-counted_shelf
returns-in-Err-clause-counted_shelf g c = omega (arith, c.loop-number.invariant.shelf, c.save_part.ensures.counted_shelf)

pub returns-in-Err-clause-counted_hand : goal.returns-in-Err-clause-counted_hand
returns-in-Err-clause-counted_hand g c = omega (arith, c.loop-number.invariant.hand, c.save_part.ensures.counted_hand)

pub returns-in-Err-clause-cause : goal.returns-in-Err-clause-cause
returns-in-Err-clause-cause g c =
    let parts = c.args.object.now.parts.items in
    let part = c.index-part.result.now in
    let n = c.loop-number.number in
    let within : n < length parts = omega (arith, c.loop-number-test.true, c.len-number-end.ensures, c.args.object.now.parts.ok.0) in
    let pin : List Stamp = c.index-lists-number.result in
    let same : slice_index_or c.args.pins.now n pin ≡ pin = ap (λ (ps : List (List Stamp)). slice_index_or ps n pin) (sym c.as_slice-lists.ensures.lists) ∙ sym c.index-lists-number.is in
    let there : slice_get parts n ≡ Some part = slice_get_read parts (length parts) n part refl within c.index-part.ensures in
    let under : slice_get c.args.pins.now n ≡ Some pin = slice_get-get_or c.args.pins.now n pin (omega (arith, within, c.requires)) ∙ ap (λ (p : List Stamp). Some p) same in
    since _ parts c.args.pins.now part pin n there under c.loop-number.invariant c.save_part.ensures.counted_shelf c.save_part.ensures.counted_hand _ c.in-Err.ensures.cause

pub returns-clause-ok : goal.returns-clause-ok
returns-clause-ok g c =
    let parts = c.args.object.now.parts.items in
    let n = c.loop-number.number in
    let so_far = c.loop-number.invariant in
    let end : length parts ≤ n = omega (arith, c.loop-number-test.false, c.len-number-end.ensures, c.args.object.now.parts.ok.0) in
    let whole : take n parts ≡ parts = take_all n parts end in
    let pinned : take n c.args.pins.now ≡ c.args.pins.now = take_all n c.args.pins.now (omega (arith, end, c.requires)) in (
      so_far.all,
      λ a is. subst (λ ps. AreFetched a ps c.args.pins.now so_far.all) whole (subst (λ ss. AreFetched a (take n parts) ss so_far.all) pinned (so_far.fetched a is)),
      so_far.many ∙ ap length whole,
      λ papers is. subst (λ ps. (before : Papers) × g.S.Shelf.holds c.args.shelf.now before × (papers ≡ with_parts before c.args.object.now.name ps so_far.all)) whole (so_far.stored papers is),
    )

pub returns-clause-files : goal.returns-clause-files
returns-clause-files g c = c.loop-number.invariant.files

pub returns-clause-counted_shelf : goal.returns-clause-counted_shelf
returns-clause-counted_shelf g c = c.loop-number.invariant.shelf

pub returns-clause-counted_hand : goal.returns-clause-counted_hand
returns-clause-counted_hand g c = c.loop-number.invariant.hand

pub returns-in-Err-clause-left : goal.returns-in-Err-clause-left
returns-in-Err-clause-left g c =
    let parts = c.args.object.now.parts.items in
    let part = c.index-part.result.now in
    let n = c.loop-number.number in
    let within : n < length parts = omega (arith, c.loop-number-test.true, c.len-number-end.ensures, c.args.object.now.parts.ok.0) in
    let pin : List Stamp = c.index-lists-number.result in
    let same : slice_index_or c.args.pins.now n pin ≡ pin = ap (λ (ps : List (List Stamp)). slice_index_or ps n pin) (sym c.as_slice-lists.ensures.lists) ∙ sym c.index-lists-number.is in
    let longer : take (n + 1) parts ≡ take n parts ++ part ∷ [] = take_more parts n part within ∙ ap (λ (p : Part). take n parts ++ p ∷ []) (sym c.index-part.ensures) in
    let further : take (n + 1) c.args.pins.now ≡ take n c.args.pins.now ++ pin ∷ [] = take_more c.args.pins.now n pin (omega (arith, within, c.requires)) ∙ ap (λ (p : List Stamp). take n c.args.pins.now ++ p ∷ []) same in
    leaves _ _ _ parts c.args.pins.now part pin n longer further c.loop-number.invariant c.save_part.ensures.files _ c.in-Err.ensures.cause c.in-Err.ensures.left

pub returns-clause-serves : goal.returns-clause-serves
returns-clause-serves g c = c.loop-number.invariant.kept

pub returns-clause-works : goal.returns-clause-works
returns-clause-works g c = c.loop-number.invariant.works

pub returns-in-Err-clause-serves : goal.returns-in-Err-clause-serves
returns-in-Err-clause-serves g c = λ s is. c.save_part.ensures.serves s (c.loop-number.invariant.kept s is)

pub returns-in-Err-clause-works : goal.returns-in-Err-clause-works
returns-in-Err-clause-works g c = λ always. c.save_part.ensures.works (c.loop-number.invariant.works always)

pub returns-in-Err-clause-in_order : goal.returns-in-Err-clause-in_order
returns-in-Err-clause-in_order g c = λ always served k is.
    let n = c.loop-number.number in
    let within : n < length c.args.object.now.parts.items = omega (arith, c.loop-number-test.true, c.len-number-end.ensures, c.args.object.now.parts.ok.0) in
    let pin : List Stamp = c.index-lists-number.result in
    let same : slice_index_or c.args.pins.now n pin ≡ pin = ap (λ (ps : List (List Stamp)). slice_index_or ps n pin) (sym c.as_slice-lists.ensures.lists) ∙ sym c.index-lists-number.is in
    let under : slice_get c.args.pins.now n ≡ Some pin = slice_get-get_or c.args.pins.now n pin (omega (arith, within, c.requires)) ∙ ap (λ (p : List Stamp). Some p) same in
    shelf_since c.loop-number.invariant c.save_part.ensures.counted_shelf (c.in-Err.ensures.in_order (c.loop-number.invariant.works always) (λ j s there. c.loop-number.invariant.kept s (served n pin under j s there)) k is)
