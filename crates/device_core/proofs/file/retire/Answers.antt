use Rattle.std.proofs.Common.{sym, ap}
use Rattle.device_core.specs.declared.file.State.TheVariants.{Retired}
use Rattle.device_core.specs.Files.{sealed_bytes}
use Rattle.device_core.proofs.Becoming.{kept_holds, marked}
use Rattle.device_core.proofs.Slots.{marked_agrees}
use Rattle.device_core.proofs.file.retire.Goals as goal

pub returns-clause-agrees : goal.returns-clause-agrees
returns-clause-agrees c = λ a.
    let found = c.in-Some.ensures.some in
    marked_agrees c.args.files.now.items _ c.in-Some.place found.2 Retired found.3 (c.mark.ensures.puts found.2 found.3)
    (sym (ap (sealed_bytes found.2) found.4)) a

pub returns-clause-retires : goal.returns-clause-retires
returns-clause-retires c = λ b is.
    let found = c.in-Some.ensures.some in
    marked c.args.files.now.items c.mark.new.files.items c.in-Some.place c.args.number found.2 Retired (c.mark.ensures.puts found.2 found.3) found.0 b
    (kept_holds c.args.files.now.items c.in-Some.place c.args.number found.2 found.3 found.0 found.4 b is)
