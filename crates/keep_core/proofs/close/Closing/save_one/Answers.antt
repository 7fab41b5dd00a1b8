use Rattle.std.proofs.Common.{◌≡◌, ◌∙◌, ap, sym, refl, List, length, Some, slice_index_or}
use Rattle.std.specs.Prelude.{slice_get}
use Rattle.std.proofs.lemmas.Option.{slice_get_read, slice_get-get_or}
use Rattle.device_core.specs.declared.hand.Stamp.{Stamp}
use Rattle.keep_core.proofs.Keeping.{saves_one, saves_not}
use Rattle.keep_core.proofs.close.Closing.save_one.Goals as goal

pub returns-in-Ok-clause-saves : goal.returns-in-Ok-clause-saves
returns-in-Ok-clause-saves g c =
    let parts = c.args.object.now.parts.items in
    let part = c.index-part.result.now in
    let n = c.args.place in
    let pin : List Stamp = c.index-lists-place.result in
    let same : slice_index_or c.args.pins.now n pin ≡ pin = ap (λ (ps : List (List Stamp)). slice_index_or ps n pin) (sym c.as_slice-lists.ensures.lists) ∙ sym c.index-lists-place.is in
    let there : slice_get parts n ≡ Some part = slice_get_read parts (length parts) n part refl c.requires.within c.index-part.ensures in
    let under : slice_get c.args.pins.now n ≡ Some pin = slice_get-get_or c.args.pins.now n pin (rw c.requires.pinned c.requires.within) ∙ ap (λ (p : List Stamp). Some p) same in
    saves_one c.args.self.now.trouble (g.W.Write.contents c.args.writer.now) n part pin there under c.in-Ok.ensures.ok

pub returns-in-Err-clause-saves : goal.returns-in-Err-clause-saves
returns-in-Err-clause-saves g c =
    let parts = c.args.object.now.parts.items in
    let part = c.index-part.result.now in
    let n = c.args.place in
    let pin : List Stamp = c.index-lists-place.result in
    let same : slice_index_or c.args.pins.now n pin ≡ pin = ap (λ (ps : List (List Stamp)). slice_index_or ps n pin) (sym c.as_slice-lists.ensures.lists) ∙ sym c.index-lists-place.is in
    let there : slice_get parts n ≡ Some part = slice_get_read parts (length parts) n part refl c.requires.within c.index-part.ensures in
    let under : slice_get c.args.pins.now n ≡ Some pin = slice_get-get_or c.args.pins.now n pin (rw c.requires.pinned c.requires.within) ∙ ap (λ (p : List Stamp). Some p) same in
    saves_not _ n part pin c.in-Err.fault there under c.in-Err.ensures.cause c.in-Err.ensures.left c.note_unsaved.ensures
