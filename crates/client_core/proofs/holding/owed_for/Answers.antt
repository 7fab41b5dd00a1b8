use Rattle.std.proofs.Common.{sym, subst}
use Rattle.decl_core.specs.ObjectMap.{object_of}
use Rattle.decl_core.specs.HoldMap.{holds_of}
use Rattle.guest_core.specs.Undo.{IsUndoOf}
use Rattle.client_core.proofs.holding.owed_for.Goals as goal

pub returns-in-None : goal.returns-in-None
returns-in-None c = λ op arguments is.
    c.in-None.ensures op arguments (subst (λ hs. IsUndoOf (object_of c.args.object.now) (holds_of hs) c.args.held.now op arguments) (sym c.deref.ensures.value) is)
