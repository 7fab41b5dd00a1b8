use Rattle.std.proofs.Common.{ℕ, List, ◌++◌}
use Rattle.keep_loop.specs.Taken.{taken, TellsBetween}
use Rattle.keep_loop.specs.Run.{added}
use Rattle.history_law.specs.CrashLaws.{FileIsLeft}
use Rattle.keep_loop.proofs.Runs.{weaker}
use Rattle.history_law.proofs.keep.keep.Goals as goal

pub returns : goal.returns
returns g c =
    let j = c.args.journal.now in
    record {
      any_moment = λ o front stored text ends parts front_are begins stored_are holds legal.
          weaker g.D.Device.moment g.D.Device.left_since j.device c.run.new.self.device (λ f. TellsBetween stored (text ++ added c.args.steps.now) f) (λ f. FileIsLeft o stored (text ++ added c.args.steps.now) ends f)
          (λ f is. record {
            is_taken = is.is_taken;
            left = c.crash_leaves_legal.ensures o front stored (text ++ added c.args.steps.now) (taken f) ends parts front_are begins stored_are legal (c.taken_are_lines.ensures f is.is_taken) is.between;
          })
          (c.run.ensures.any_moment stored text holds);
    }
