use Rattle.std.proofs.Common.{◌≡◌, ◌⊎◌, inl, inr, ⊎_elim, ℕ, List}
use Rattle.keep_loop.specs.Taken.{taken, Tells, TellsBetween}
use Rattle.history_law.specs.CrashLaws.{FileIsLeft}
use Rattle.keep_loop.proofs.Runs.{weaker}
use Rattle.history_law.proofs.anew.begin_anew.Goals as goal

pub returns-in_err-went-clause-any_moment : goal.returns-in_err-went-clause-any_moment
returns-in_err-went-clause-any_moment g c o opening stored text ends parts opening_are begins stored_are holds legal =
    let front = c.args.front.now in
    weaker g.D.Device.moment g.D.Device.left_since c.args.journal.now.device c.change.new.self.device (λ f. TellsBetween stored text f ⊎ Tells front f) (λ f. FileIsLeft o stored text ends f ⊎ Tells front f)
    (λ f is. ⊎_elim (λ between. inl (record { is_taken = between.is_taken; left = c.crash_leaves_legal.ensures o opening stored text (taken f) ends parts opening_are begins stored_are legal (c.taken_are_lines.ensures f between.is_taken) between.between })) (λ new. inr new) is) (c.change.ensures.any_moment stored text holds)

pub returns-clause-any_moment : goal.returns-clause-any_moment
returns-clause-any_moment g c o opening stored text ends parts opening_are begins stored_are holds legal =
    let front = c.args.front.now in
    weaker g.D.Device.moment g.D.Device.left_since c.args.journal.now.device c.change.new.self.device (λ f. TellsBetween stored text f ⊎ Tells front f) (λ f. FileIsLeft o stored text ends f ⊎ Tells front f)
    (λ f is. ⊎_elim (λ between. inl (record { is_taken = between.is_taken; left = c.crash_leaves_legal.ensures o opening stored text (taken f) ends parts opening_are begins stored_are legal (c.taken_are_lines.ensures f between.is_taken) between.between })) (λ new. inr new) is) (c.change.ensures.any_moment stored text holds)

pub returns-clause-any_moment_kept : goal.returns-clause-any_moment_kept
returns-clause-any_moment_kept g c kept o opening stored text ends parts opening_are begins stored_are holds legal =
    weaker g.D.Device.moment g.D.Device.left_since c.args.journal.now.device c.change.new.self.device (λ f. TellsBetween stored text f) (λ f. FileIsLeft o stored text ends f)
    (λ f between. record { is_taken = between.is_taken; left = c.crash_leaves_legal.ensures o opening stored text (taken f) ends parts opening_are begins stored_are legal (c.taken_are_lines.ensures f between.is_taken) between.between }) (c.in_ok-went.ensures.any_moment_kept kept stored text holds)
