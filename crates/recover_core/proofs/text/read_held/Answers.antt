use Rattle.std.proofs.Common.{◌++◌}
use Rattle.decl_core.specs.ObjectMap.{object_of}
use Rattle.decl_core.specs.HoldMap.{holds_of}
use Rattle.front_read.specs.HeldLines.{held_text}
use Rattle.recover_core.proofs.Texts.{fault_by, found_by, told_by}
use Rattle.recover_core.proofs.text.read_held.Goals as goal

pub returns-in-Err-clause-found : goal.returns-in-Err-clause-found
returns-in-Err-clause-found c = λ f held behind has goes.
    let found = rw c.in-Err.is at c.in_ok-line.ensures.found in
    found f (held_text (object_of c.args.object.now) (holds_of c.args.holds.now) held ++ behind) has.rows goes has.told

pub returns-in_ok-found-in-Ok-clause-told : goal.returns-in_ok-found-in-Ok-clause-told
returns-in_ok-found-in-Ok-clause-told c =
    let told = rw c.in-Ok.is at c.in_ok-line.ensures.told in
    told_by (object_of c.args.object.now) (holds_of c.args.holds.now) c.in-Ok.opening c.in-Ok.front c.args.text.now c.in_ok-found-in-Ok.found told.1 told.2 c.in_ok-found-in-Ok.ensures

pub returns-in_ok-found-in-Ok-clause-found : goal.returns-in_ok-found-in-Ok-clause-found
returns-in_ok-found-in-Ok-clause-found c = λ f held behind has goes.
    let found = rw c.in-Ok.is at c.in_ok-line.ensures.found in
    found_by (object_of c.args.object.now) (holds_of c.args.holds.now) c.in-Ok.opening c.in-Ok.front c.args.text.now c.in_ok-found-in-Ok.found f held behind c.object_has_names.ensures has
    (found f (held_text (object_of c.args.object.now) (holds_of c.args.holds.now) held ++ behind) has.rows goes has.told) c.in_ok-found-in-Ok.ensures

pub returns-in_ok-found-in-Ok-clause-fault : goal.returns-in_ok-found-in-Ok-clause-fault
returns-in_ok-found-in-Ok-clause-fault c =
    let told = rw c.in-Ok.is at c.in_ok-line.ensures.told in
    fault_by (object_of c.args.object.now) (holds_of c.args.holds.now) c.in-Ok.opening c.in-Ok.front c.args.text.now c.in_ok-found-in-Ok.found told.1 told.2 c.in_ok-found-in-Ok.ensures
