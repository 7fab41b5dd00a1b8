use Rattle.std.proofs.Common.{refl}
use Rattle.device_core.specs.declared.file.State.TheVariants.{Open}
use Rattle.device_core.proofs.Becoming.{begun}
use Rattle.device_core.proofs.Slots.{add_agrees, add_open, add_others}
use Rattle.device_core.proofs.file.add.Goals as goal

pub returns-clause-agrees : goal.returns-clause-agrees
returns-clause-agrees c = rw c.in_ok-push.ensures.items (λ a. add_agrees c.args.files.now.items _ refl a)

pub returns-clause-opened : goal.returns-clause-opened
returns-clause-opened c = rw c.in_ok-push.ensures.items (add_open c.args.files.now.items (record { bytes = c.new.result; state = Open }) _ refl c.new.ensures.items)

pub returns-clause-others : goal.returns-clause-others
returns-clause-others c = rw c.in_ok-push.ensures.items (λ n b. add_others c.args.files.now.items _ n b)

pub returns-clause-begins : goal.returns-clause-begins
returns-clause-begins c = rw c.in_ok-push.ensures.items (begun c.args.files.now.items (record { bytes = c.new.result; state = Open }) refl c.new.ensures.items)
