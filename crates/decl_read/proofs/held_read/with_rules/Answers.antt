use Rattle.std.proofs.Common.{ap, refl, ◌∙◌}
use Rattle.std.specs.Map.{values_of}
use Rattle.decl_core.specs.ObjectMap.{objects_of}
use Rattle.decl_core.specs.HoldMap.{all_rules_of}
use Rattle.decl_read.proofs.Reading.{ruled_all, found_all, same_some, only_memory}
use Rattle.decl_read.proofs.held_read.with_rules.Goals as goal

pub returns-in-Ok-all_rules-clause-found : goal.returns-in-Ok-all_rules-clause-found
returns-in-Ok-all_rules-clause-found c =
    (c.in-Ok.ensures, ruled_all _ _ _ _ _ (ap all_rules_of c.new.ensures.items) (ap objects_of c.deref.ensures.value) c.in-Ok-all_rules.ensures, refl)

pub returns-in-Ok-all_rules-clause-only : goal.returns-in-Ok-all_rules-clause-only
returns-in-Ok-all_rules-clause-only c rules are =
    same_some _ c.in-Ok-all_rules.ensures (found_all _ rules (objects_of (values_of c.args.all.entries)) _ c.args.tokens.now (ap all_rules_of c.new.ensures.items) (ap objects_of c.deref.ensures.value ∙ c.in-Ok.ensures) c.requires are)

pub returns-in-Err-all_rules-clause-only : goal.returns-in-Err-all_rules-clause-only
returns-in-Err-all_rules-clause-only c rules are =
    let read = found_all _ rules (objects_of (values_of c.args.all.entries)) _ c.args.tokens.now (ap all_rules_of c.new.ensures.items) (ap objects_of c.deref.ensures.value ∙ c.in-Ok.ensures) c.requires are in
    c.told_behind.ensures (c.fault_of-fault.ensures ∙ only_memory c.in-Err-all_rules.fault rules _ read c.in-Err-all_rules.ensures)
