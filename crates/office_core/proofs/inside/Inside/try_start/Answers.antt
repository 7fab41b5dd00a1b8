use Rattle.std.proofs.Common.{◌≡◌, ap, sym, subst, refl}
use Rattle.page_core.proofs.Lists.{true_false}
use Rattle.office_core.specs.Insides.{InsideView}
use Rattle.office_core.specs.Submissions.{IsOf}
use Rattle.office_core.proofs.inside.Inside.try_start.Goals as goal

pub returns-then-not-is_of-clause-inside : goal.returns-then-not-is_of-clause-inside
returns-then-not-is_of-clause-inside c =
    let board : c.self.inside.desk ≡ c.args.self.now.board = ap (λ (r : InsideView). r.board) c.self.view_is in
    (λ is. absurd (true_false c.is_of.result (c.is_of.ensures.1 (subst (λ b. IsOf b c.args.submitted) (sym board) is)) c.if-not-is_of.true), refl)

pub look-requires : goal.look-requires
look-requires c =
    let board : c.self.inside.desk ≡ c.args.self.now.board = ap (λ (r : InsideView). r.board) c.self.view_is in
    subst (λ b. IsOf b c.args.submitted) board (c.is_of.ensures.0 c.if-not-is_of.false)
