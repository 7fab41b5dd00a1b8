use Rattle.std.proofs.Common.{sym, subst}
use Rattle.std.specs.Map.{values_of}
use Rattle.decl_core.specs.ObjectMap.{object_of, objects_of}
use Rattle.check_core.proofs.Reports.{told_fault}
use Rattle.check_core.specs.Opening.{IsTold, faulty, lacking}
use Rattle.check_core.proofs.Judging.{opened_by}
use Rattle.check_core.proofs.open.opened_object.Goals as goal

pub returns-in_ok-text-in-Err : goal.returns-in_ok-text-in-Err
returns-in_ok-text-in-Err c text named =
    let told = c.in_ok-text-in-Err.ensures in
    let fault = c.in-Err.ensures in
    subst (IsTold c.args.source.now text) (sym told.1) (faulty named (told_fault _ _ told.0 fault.only fault.too_long fault.lexical))

pub returns-in_ok-text-in-None : goal.returns-in_ok-text-in-None
returns-in_ok-text-in-None c text named =
    subst (IsTold c.args.source.now text) (sym c.in_ok-text-in-None.ensures) (lacking named (record {
      objects = objects_of (values_of c.in-Ok.all.entries);
      are = c.in-Ok.ensures.found;
      other = c.in-None.ensures;
    }))

pub returns-in_ok-opened-in-Some : goal.returns-in_ok-opened-in-Some
returns-in_ok-opened-in-Some c text named =
    opened_by c.args.source.now text c.args.name.now (object_of c.in-Some.object) c.in_ok-opened-in-Some.opened named
    (record { objects = objects_of (values_of c.in-Ok.all.entries); are = c.in-Ok.ensures.found; is_one = c.in-Some.ensures.0; named = c.in-Some.ensures.1 })
    c.in_ok-opened-in-Some.ensures
