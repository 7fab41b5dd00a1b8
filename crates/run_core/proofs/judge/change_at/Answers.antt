use Rattle.std.proofs.Common.{◌≡◌, ◌<◌, Some, length, refl, sym, ◌∙◌}
use Rattle.std.specs.Prelude.{slice_get}
use Rattle.std.specs.Int.{bit_at}
use Rattle.std.proofs.lemmas.Bool.{eqb-true}
use Rattle.std.proofs.lemmas.Option.{slice_get_read}
use Rattle.decl_core.specs.Bodies.{body_of}
use Rattle.decl_core.proofs.Footprints.{writes_are_reads}
use Rattle.run_core.proofs.Changes.{is_rewritten}
use Rattle.run_core.proofs.judge.change_at.Goals as goal

pub bounds-read-part : goal.bounds-read-part
bounds-read-part c =
    let set : bit_at c.args.writes c.args.part ≡ 1 = eqb-true _ _ (sym c.is_in.ensures ∙ c.if-not-is_in.false) in
    c.requires.read c.args.part (writes_are_reads (body_of c.args.operation.now) c.args.part ((c.requires.bits c.args.part).0 set))

pub returns : goal.returns
returns c =
    let set : bit_at c.args.writes c.args.part ≡ 1 = eqb-true _ _ (sym c.is_in.ensures ∙ c.if-not-is_in.false) in
    let written = (c.requires.bits c.args.part).0 set in
    let within : c.args.part < length c.args.read.now = c.requires.read c.args.part (writes_are_reads (body_of c.args.operation.now) c.args.part written) in
    let there : slice_get c.args.read.now c.args.part ≡ Some c.index-read-part.result = slice_get_read c.args.read.now (length c.args.read.now) c.args.part c.index-read-part.result refl within c.index-read-part.is in
    let held : slice_get c.args.after.now c.args.part ≡ Some c.index-after-part.result = slice_get_read c.args.after.now (length c.args.after.now) c.args.part c.index-after-part.result refl c.requires.part c.index-after-part.is in
    is_rewritten (body_of c.args.operation.now).statements c.args.read.now c.args.after.now c.args.part c.index-read-part.result c.index-after-part.result c.in_ok-change.change written there held c.in_ok-change.ensures
