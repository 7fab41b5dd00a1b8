use Rattle.std.proofs.Common.{◌≡◌, ℕ, List, Some, length, refl, ap, sym, ◌∙◌, subst, ◌+◌, ◌≤◌, rules}
use Rattle.crash_trial.specs.declared.device.Happened.TheVariants.{Wrote}
use Rattle.crash_trial.specs.Kept.{read_behind, MayLeave}
use Rattle.keep_loop.specs.Device.{with_bytes, Writes}
use Rattle.crash_trial.proofs.Kept.{may_wrote, may_not_write, read_wrote, elapses_to}
use Rattle.crash_trial.proofs.device.RecordedFileDevice.write_at.Goals as goal

pub returns-in_err-bytes-clause-crash : goal.returns-in_err-bytes-clause-crash
returns-in_err-bytes-clause-crash c =
    let f = c.args.self.now.file.items in
    let h = c.args.self.now.happened.items in
    may_not_write f h h c.args.at c.args.bytes.now refl (c.requires (read_behind f h) refl)

pub returns-in_err-note-clause-crash : goal.returns-in_err-note-clause-crash
returns-in_err-note-clause-crash c =
    let f = c.args.self.now.file.items in
    let h = c.args.self.now.happened.items in
    may_not_write f h c.note.new.happened.items c.args.at c.args.bytes.now c.in_err-note.ensures.err (c.requires (read_behind f h) refl)

pub returns-clause-written : goal.returns-clause-written
returns-clause-written c =
    let same : c.in_ok-bytes.bytes.items ≡ c.args.bytes.now = search rules in
    let f = c.args.self.now.file.items in
    let h = c.args.self.now.happened.items in
    ap Some (ap (λ l. read_behind f l) c.in_ok-note.ensures.ok ∙ read_wrote f h c.args.at c.in_ok-bytes.bytes
    ∙ ap (λ (l : List ℕ). with_bytes c.args.at l (read_behind f h)) same)

pub returns-clause-crash : goal.returns-clause-crash
returns-clause-crash c =
    let same : c.in_ok-bytes.bytes.items ≡ c.args.bytes.now = search rules in
    let f = c.args.self.now.file.items in
    let h = c.args.self.now.happened.items in
    subst (λ (l : List ℕ). Writes c.args.at l (MayLeave f h) (MayLeave f c.note.new.happened.items)) same
    (may_wrote f h c.note.new.happened.items c.args.at c.in_ok-bytes.bytes c.in_ok-note.ensures.ok
    (subst (λ (l : List ℕ). c.args.at + length l ≤ length (read_behind f h)) (sym same) (c.requires (read_behind f h) refl)))

pub returns-clause-time : goal.returns-clause-time
returns-clause-time c =
    elapses_to c.args.self.now.file.items c.args.self.now.happened.items c.note.new.happened.items (Wrote c.args.at c.in_ok-bytes.bytes) c.in_ok-note.ensures.ok
