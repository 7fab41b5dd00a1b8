use Rattle.std.proofs.Common.{◌≡◌, ℕ, List, Some, inl, inr, ap, sym, ◌∙◌, rules}
use Rattle.crash_trial.specs.declared.device.Happened.TheVariants.{Replaced, Refused}
use Rattle.crash_trial.specs.Kept.{read_behind}
use Rattle.crash_trial.proofs.Kept.{may_replaced, read_replaced, may_refused, read_refused, elapses_to}
use Rattle.crash_trial.proofs.device.RecordedFileDevice.replace.Goals as goal

pub returns-then-is_refused-clause-kept : goal.returns-then-is_refused-clause-kept
returns-then-is_refused-clause-kept c kept =
    let f = c.args.self.now.file.items in
    ap Some (ap (λ l. read_behind f l) c.in_ok-note.ensures.ok ∙ read_refused f c.args.self.now.happened.items)

pub returns-then-is_refused-clause-kept_crash : goal.returns-then-is_refused-clause-kept_crash
returns-then-is_refused-clause-kept_crash c kept left may =
    may_refused c.args.self.now.file.items c.args.self.now.happened.items c.note.new.happened.items c.in_ok-note.ensures.ok left may

pub returns-then-is_refused-clause-crash : goal.returns-then-is_refused-clause-crash
returns-then-is_refused-clause-crash c left may =
    inl (may_refused c.args.self.now.file.items c.args.self.now.happened.items c.note.new.happened.items c.in_ok-note.ensures.ok left may)

pub returns-then-is_refused-clause-time : goal.returns-then-is_refused-clause-time
returns-then-is_refused-clause-time c =
    elapses_to c.args.self.now.file.items c.args.self.now.happened.items c.note.new.happened.items Refused c.in_ok-note.ensures.ok

pub returns-clause-replaced : goal.returns-clause-replaced
returns-clause-replaced c went =
    let same : c.in_ok-bytes.bytes.items ≡ c.args.bytes.now = search rules in
    let f = c.args.self.now.file.items in
    ap Some (ap (λ l. read_behind f l) c.in_ok-note-2.ensures.ok ∙ read_replaced f c.args.self.now.happened.items c.in_ok-bytes.bytes ∙ same)

pub returns-clause-durable : goal.returns-clause-durable
returns-clause-durable c went left may =
    let same : c.in_ok-bytes.bytes.items ≡ c.args.bytes.now = search rules in
    may_replaced c.args.self.now.file.items c.args.self.now.happened.items c.note-2.new.happened.items c.in_ok-bytes.bytes c.in_ok-note-2.ensures.ok left may ∙ same

pub returns-clause-crash : goal.returns-clause-crash
returns-clause-crash c left may =
    let same : c.in_ok-bytes.bytes.items ≡ c.args.bytes.now = search rules in
    inr (may_replaced c.args.self.now.file.items c.args.self.now.happened.items c.note-2.new.happened.items c.in_ok-bytes.bytes c.in_ok-note-2.ensures.ok left may ∙ same)

pub returns-clause-time : goal.returns-clause-time
returns-clause-time c =
    elapses_to c.args.self.now.file.items c.args.self.now.happened.items c.note-2.new.happened.items (Replaced c.in_ok-bytes.bytes) c.in_ok-note-2.ensures.ok
