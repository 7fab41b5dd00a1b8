use Rattle.std.proofs.Common.{◌∙◌, refl}
use Rattle.std.proofs.lemmas.Option.{slice_get_read}
use Rattle.client_core.proofs.Becoming.{looks_end, looks_more}
use Rattle.client_core.proofs.all.look_all.Goals as goal

pub loop-at-preserved : goal.loop-at-preserved
loop-at-preserved c = (
  c.look_in.ensures.held ∙ c.loop-at.invariant.0,
  looks_more c.args.objects.now c.args.second c.loop-at.at c.index-objects-at.result c.args.rows.now.items c.loop-at.rows.items c.look_in.new.rows.items
      (slice_get_read c.args.objects.now _ c.loop-at.at c.index-objects-at.result refl c.loop-at-test.true c.index-objects-at.is)
      c.loop-at.invariant.1 c.look_in.ensures.looks,
)

pub returns-clause-looks : goal.returns-clause-looks
returns-clause-looks c = looks_end c.args.objects.now c.args.second c.loop-at.at c.args.rows.now.items c.loop-at.rows.items c.loop-at-test.false c.loop-at.invariant.1
