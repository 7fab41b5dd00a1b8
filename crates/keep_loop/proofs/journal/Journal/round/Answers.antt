use Rattle.std.proofs.Common.{◌++◌}
use Rattle.keep_loop.specs.Taken.{TellsBetween}
use Rattle.keep_loop.proofs.Runs.{then}
use Rattle.keep_loop.proofs.journal.Journal.round.Goals as goal

pub returns-in_default-sync-clause-any_moment : goal.returns-in_default-sync-clause-any_moment
returns-in_default-sync-clause-any_moment g c stored text h =
    let D = g.D.Device in
    let j = c.args.self.now in
    let lines = c.args.lines.now in
    then D.moment D.left_since j.device c.append.new.self.device c.sync.new.self.device (λ f. TellsBetween stored (text ++ lines) f) (c.append.ensures.any_moment stored text h)
    (c.sync.ensures.any_moment stored (text ++ lines) (c.in-Ok.ensures.added stored text h))

pub returns-in_default-write_all-clause-any_moment : goal.returns-in_default-write_all-clause-any_moment
returns-in_default-write_all-clause-any_moment g c stored text h =
    let D = g.D.Device in
    let j = c.args.self.now in
    let lines = c.args.lines.now in
    then D.moment D.left_since j.device c.append.new.self.device c.sync.new.self.device (λ f. TellsBetween stored (text ++ lines) f) (c.append.ensures.any_moment stored text h)
    (c.sync.ensures.any_moment stored (text ++ lines) (c.in-Ok.ensures.added stored text h))

pub returns-clause-any_moment : goal.returns-clause-any_moment
returns-clause-any_moment g c stored text h =
    let D = g.D.Device in
    let j = c.args.self.now in
    let lines = c.args.lines.now in
    then D.moment D.left_since j.device c.append.new.self.device c.sync.new.self.device (λ f. TellsBetween stored (text ++ lines) f) (c.append.ensures.any_moment stored text h)
    (c.sync.ensures.any_moment stored (text ++ lines) (c.in-Ok.ensures.added stored text h))
