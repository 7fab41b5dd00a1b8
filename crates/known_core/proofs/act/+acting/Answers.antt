use Rattle.std.proofs.Common.{rules, map, sym, subst}
use Rattle.value_core.specs.Contents.{kind_of}
use Rattle.decl_core.specs.declared.stmt.Stmt.{the_lemmas}
use Rattle.known_core.specs.Partly.{after_known}
use Rattle.known_core.specs.Masks.{known_by}
use Rattle.apply_core.specs.Fitting.{StatementFits}
use Rattle.known_core.specs.Breaks.{changing, Leaves}
use Rattle.apply_core.proofs.Blocks.{block_as}
use Rattle.known_core.proofs.act.+acting.Goals as goal

pub act-act_all-requires : goal.act-act_all-requires
act-act_all-requires g t c =
    λ κs longer. (search (rules, the_lemmas), (longer, subst (StatementFits (map kind_of (g.P.PartValues.values c.args.parts.now))) (block_as c.args.s.now c.in-Block.all c.deref.result.now c.in-Block.is c.deref.ensures.value) c.requires.fits))

pub act-returns-in-Block-clause-left : goal.act-returns-in-Block-clause-left
act-returns-in-Block-clause-left g t c =
    subst (λ s. Leaves c.act_all.result (after_known (known_by c.args.known.now) c.args.args.now s (changing (g.P.PartValues.values c.args.parts.now) c.args.reply.now)) (changing (g.P.PartValues.values c.act_all.new.parts) c.act_all.new.reply)) (sym (block_as c.args.s.now c.in-Block.all c.deref.result.now c.in-Block.is c.deref.ensures.value)) c.act_all.ensures.left
