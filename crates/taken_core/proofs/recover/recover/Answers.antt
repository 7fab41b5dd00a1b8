use Rattle.std.proofs.Common.{◌≡◌, List, ℕ}
use Rattle.keep_loop.proofs.Moments.{started, goes_on}
use Rattle.taken_core.proofs.recover.recover.Goals as goal

pub returns-clause-any_moment : goal.returns-clause-any_moment
returns-clause-any_moment g c file known =
    let old = c.args.device.now in
    let P : List ℕ → Type 0 = λ f. f ≡ file in
    let here : (f : List ℕ) → g.D.Device.may_leave old f → P f = λ f now. c.requires file known f now in
    let at_start = started g.D.Device.moment g.D.Device.left_since old P (λ f left. here f (g.met.D.Device.only_now old f left)) in
    goes_on g.D.Device.moment g.D.Device.left_since old old c.read.new.self P _ at_start c.read.ensures.time (λ f now. here f (c.read.ensures.crash f now))
