use Rattle.std.proofs.Common.{ℕ, List, Some, inl, ap, sym, ◌∙◌, rules}
use Rattle.crash_trial.specs.declared.device.Happened.TheVariants.{Stored}
use Rattle.crash_trial.specs.Kept.{read_behind}
use Rattle.crash_trial.proofs.Kept.{in_some, may_stored, read_stored, elapses_to}
use Rattle.crash_trial.proofs.device.RecordedFileDevice.sync.Goals as goal

pub returns-clause-durable : goal.returns-clause-durable
returns-clause-durable c file seen left may =
    may_stored c.args.self.now.file.items c.args.self.now.happened.items c.note.new.happened.items c.in_ok-note.ensures.ok left may ∙ in_some seen

pub returns-clause-seen : goal.returns-clause-seen
returns-clause-seen c =
    let f = c.args.self.now.file.items in
    ap Some (ap (λ l. read_behind f l) c.in_ok-note.ensures.ok ∙ read_stored f c.args.self.now.happened.items)

pub returns-clause-crash : goal.returns-clause-crash
returns-clause-crash c left may =
    inl (may_stored c.args.self.now.file.items c.args.self.now.happened.items c.note.new.happened.items c.in_ok-note.ensures.ok left may)

pub returns-clause-time : goal.returns-clause-time
returns-clause-time c =
    elapses_to c.args.self.now.file.items c.args.self.now.happened.items c.note.new.happened.items Stored c.in_ok-note.ensures.ok
