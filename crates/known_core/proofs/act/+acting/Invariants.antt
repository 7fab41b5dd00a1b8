use Rattle.std.proofs.Common.{◌≡◌, map, drop}
use Rattle.value_core.specs.Contents.{kind_of}
use Rattle.decl_core.specs.View.{all_of}
use Rattle.known_core.specs.Partly.{all_known}
use Rattle.known_core.specs.Masks.{known_by}
use Rattle.apply_core.specs.Fitting.{StatementsFit}
use Rattle.known_core.specs.Breaks.{changing}
use Rattle.known_core.proofs.act.+acting.Given as goal

abbrev pub invariant-act_all-loop-s : goal.invariant-act_all-loop-s
invariant-act_all-loop-s g l =
    StatementsFit (map kind_of (g.P.PartValues.values l.fn.parts)) (all_of (drop l.s-index l.all)) × (map kind_of (g.P.PartValues.values l.parts) ≡ map kind_of (g.P.PartValues.values l.fn.parts)) × (all_known (known_by l.known) l.args (all_of (drop l.s-index l.all)) (changing (g.P.PartValues.values l.parts) l.reply) ≡ all_known (known_by l.known) l.args (all_of l.all) (changing (g.P.PartValues.values l.fn.parts) l.fn.reply)) × (g.P.PartValues.origin l.parts ≡ g.P.PartValues.origin l.fn.parts)
