use Rattle.std.proofs.Common.{◌+◌, refl, sym, subst, arith, ◌∙◌}
use Rattle.decl_core.specs.ObjectMap.{object_of}
use Rattle.recover_core.specs.Recovered.{RefusesBehind}
use Rattle.recover_core.proofs.Recovering.{is_behind, refused_so}
use Rattle.recover_core.proofs.recover.recover_lines.Goals as goal

pub overflow_add-size : goal.overflow_add-size
overflow_add-size c = let few = rw c.in-Ok.is at c.in_ok-mark.ensures.mark in omega (arith, few, c.requires.bytes)

pub overflow_add-size-in-Err : goal.overflow_add-size-in-Err
overflow_add-size-in-Err c = let few = rw c.in-Err.is at c.in_ok-mark.ensures.number in omega (arith, few, c.requires.lines)

pub returns-in-Ok : goal.returns-in-Ok
returns-in-Ok c = λ f h opened p counted opens epoch source base.
    let o = object_of c.args.object.now in
    let played = rw c.in-Ok.is at c.in_ok-mark.ensures.played in
    is_behind o h f opened c.args.size.bytes c.in-Ok.mark c.args.behind.now c.play.new.playing c.finish.result (played f h.now opened p) counted opens
    (λ heard s. c.finish.ensures.comes o f h.now opened heard s) c.finish.ensures.clients c.finish.ensures.length
    (c.finish.ensures.head.0 ∙ epoch) (c.finish.ensures.head.1 ∙ source) (c.finish.ensures.head.2 ∙ base)

pub returns-in-Err : goal.returns-in-Err
returns-in-Err c = λ f h opened p counted opens epoch source base.
    let o = object_of c.args.object.now in
    let refused = rw c.in-Err.is at c.in_ok-mark.ensures.played in
    subst (RefusesBehind o h f c.args.size.lines c.args.behind.now) (sym c.fault_of.ensures)
    (refused_so o h f opened c.args.size.lines c.in-Err.number (c.args.size.lines + c.in-Err.number) c.args.behind.now c.in-Err.refused counted opens (refused f h.now opened p) refl)
