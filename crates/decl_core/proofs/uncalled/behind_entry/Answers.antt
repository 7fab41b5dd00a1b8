use Rattle.std.proofs.Common.{refl}
use Rattle.std.proofs.lemmas.Bool.{false≢true}
use Rattle.decl_core.specs.ObjectMap.{object_of}
use Rattle.decl_core.specs.Rest.{NodeSeparates}
use Rattle.decl_core.proofs.Rest.{behind_taken, other_first, none_left}
use Rattle.decl_core.proofs.uncalled.behind_entry.Goals as goal

pub returns-in_err-entry : goal.returns-in_err-entry
returns-in_err-entry c =
    let o = object_of c.args.object.now in
    rw c.from_residual.ensures (none_left o (NodeSeparates o) c.args.first c.args.second c.requires.in_order c.requires.conflict c.args.entries.now c.in_err-entry.ensures.cases)

pub returns-then-is_entry_of : goal.returns-then-is_entry_of
returns-then-is_entry_of c =
    let o = object_of c.args.object.now in
    behind_taken o (NodeSeparates o) c.args.first c.args.second c.requires.in_order c.requires.conflict c.args.entries.now c.in_ok-entry.entry.now c.in_ok-entry.rest.now
    c.in_ok-entry.ensures.cases.0 (c.if-is_entry_of.ensures.0 refl)

pub returns-else-is_entry_of : goal.returns-else-is_entry_of
returns-else-is_entry_of c =
    let o = object_of c.args.object.now in
    other_first o (NodeSeparates o) c.args.first c.args.second c.requires.in_order c.requires.conflict c.args.entries.now c.in_ok-entry.entry.now c.in_ok-entry.rest.now
    c.in_ok-entry.ensures.cases.0 (λ fits. false≢true (c.if-is_entry_of.ensures.1 fits))
