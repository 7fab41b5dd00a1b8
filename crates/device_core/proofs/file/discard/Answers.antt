use Rattle.device_core.specs.declared.file.State.TheVariants.{Discarded}
use Rattle.device_core.proofs.Becoming.{open_holds, is_open_at, marked}
use Rattle.device_core.proofs.file.discard.Goals as goal

pub returns-in-Some-clause-ends : goal.returns-in-Some-clause-ends
returns-in-Some-clause-ends c = λ b is.
    let found = c.in-Some.ensures.some in
    marked c.args.files.now.items c.mark.new.files.items c.in-Some.place c.args.number found.2 Discarded (c.mark.ensures.puts found.2 found.3) found.0 b
    (open_holds c.args.files.now.items c.in-Some.place c.args.number found.2 found.3 found.0 found.4 b is)

pub returns-in-Some-clause-same : goal.returns-in-Some-clause-same
returns-in-Some-clause-same c = λ shut.
    let found = c.in-Some.ensures.some in
    absurd (shut found.2.bytes.items (is_open_at c.args.files.now.items c.in-Some.place c.args.number found.2 found.3 found.0 found.4))
