use Rattle.std.proofs.Common.{◌≡◌, ◌∙◌, ap, sym, subst, refl, List, length, true}
use Rattle.decl_core.specs.declared.object.Object.{Object}
use Rattle.device_core.specs.declared.hand.Stamp.{Stamp}
use Rattle.keep_core.specs.Kept.{Saves}
use Rattle.keep_core.proofs.Keeping.{saves_all, saves_front, saves_then}
use Rattle.keep_core.proofs.close.Closing.save_all.Goals as goal

pub save_parts-requires : goal.save_parts-requires
save_parts-requires g c =
    ap length c.pins-pins.ensures ∙ (c.history.ensures.sound.pinned.each ∙ sym (ap (λ (o : Object). length o.parts.items) (c.object-object.ensures.same ∙ c.accepted.ensures)))

pub save_from-requires : goal.save_from-requires
save_from-requires g c =
    ap length c.pins-pins.ensures ∙ (c.history.ensures.sound.pinned.each ∙ sym (ap (λ (o : Object). length o.parts.items) (c.object-object.ensures.same ∙ c.accepted.ensures)))

pub returns-in-Ok-clause-saves : goal.returns-in-Ok-clause-saves
returns-in-Ok-clause-saves g c =
    let o : c.object-object.result.now ≡ c.args.desk.now.object = c.object-object.ensures.same ∙ c.accepted.ensures in
    let agrees = g.H.Hand.agrees c.save_parts.new.hand in
    let were = g.S.Shelf.holds c.args.self.now.parts in
    let are = g.S.Shelf.holds c.save_parts.new.shelf in
    let t = c.args.self.now.trouble in
    let known = g.W.Write.contents c.args.writer.now in
    subst (λ (x : Object). Saves agrees x c.args.desk.now.pins 0 (length x.parts.items) were are true t t known known) o
    (subst (λ (ps : List (List Stamp)). Saves agrees c.object-object.result.now ps 0 (length c.object-object.result.now.parts.items) were are true t t known known) c.pins-pins.ensures (saves_all t known c.in-Ok.ensures.ok))

pub returns-in-Err-clause-saves : goal.returns-in-Err-clause-saves
returns-in-Err-clause-saves g c =
    let o : c.object-object.result.now ≡ c.args.desk.now.object = c.object-object.ensures.same ∙ c.accepted.ensures in
    let agrees = g.H.Hand.agrees c.save_from.new.self.hand in
    let were = g.S.Shelf.holds c.args.self.now.parts in
    let are = g.S.Shelf.holds c.save_from.new.self.parts in
    let t = c.args.self.now.trouble in
    let after = c.save_from.new.self.trouble in
    let known = g.W.Write.contents c.args.writer.now in
    let new = g.W.Write.contents c.save_from.new.writer in
    subst (λ (x : Object). Saves agrees x c.args.desk.now.pins 0 (length x.parts.items) were are c.save_from.result t after known new) o
    (subst (λ (ps : List (List Stamp)). Saves agrees c.object-object.result.now ps 0 (length c.object-object.result.now.parts.items) were are c.save_from.result t after known new) c.pins-pins.ensures
    (saves_then c.save_from.result (saves_front t known c.in-Err.fault c.first_unsaved-first.result c.in-Err.ensures.left c.first_unsaved-first.ensures) c.save_from.ensures.saves c.save_from.ensures.files (λ all. (refl, all)) (λ one two. two)))

pub returns-in-Err-clause-files : goal.returns-in-Err-clause-files
returns-in-Err-clause-files g c = λ a is. c.save_parts.ensures.files a (c.save_from.ensures.files a is)
