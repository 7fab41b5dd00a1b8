use Rattle.std.proofs.Common.{sym, subst}
use Rattle.check_core.specs.Opening.{IsTold, unnamed}
use Rattle.check_core.proofs.Heads.{none_named}
use Rattle.check_core.proofs.open.open_script.Goals as goal

pub returns-in_ok-text-in-None : goal.returns-in_ok-text-in-None
returns-in_ok-text-in-None c =
    subst (IsTold c.args.source.now c.args.head.now) (sym c.in_ok-text-in-None.ensures) (unnamed (none_named c.args.head.now c.in_ok-named_object.field-0 c.in-None.is c.in_ok-named_object.ensures))
