use Rattle.std.proofs.Common.{◌≡◌, ◌⊎◌, inl, ℕ, List, ◌∙◌, ◌+◌, arith}
use Rattle.keep_loop.specs.Taken.{Tells}
use Rattle.keep_loop.proofs.Moments.{started, goes_on}
use Rattle.keep_loop.proofs.KeptLines.{changed_to}
use Rattle.keep_loop.proofs.FrontTold.{begin_fits, begin_stands, begin_checks, begin_told, begin_disk, begin_leaves}
use Rattle.keep_loop.proofs.journal.Journal.begin.Goals as goal

pub returns-in-Ok-true-clause-in_order : goal.returns-in-Ok-true-clause-in_order
returns-in-Ok-true-clause-in_order g c =
    let fits = begin_fits _ c.args.front.now (c.args.room + 2359296) c.in-Ok-file_of.size (c.deref.ensures.value ∙ c.in-Ok-file_of.ensures.0) c.in-Ok-file_of.ensures.1 c.requires.lines (omega (arith, c.deref.type_inv.1)) in
    record {
      fits = omega (arith, fits);
      stands = λ file known. begin_stands _ c.args.front.now (c.args.room + 2359296) c.in-Ok-file_of.size (c.deref.ensures.value ∙ c.in-Ok-file_of.ensures.0) c.in-Ok-file_of.ensures.1 c.requires.lines (omega (arith, c.deref.type_inv.1)) _ _ (c.in-Ok-true.ensures.replaced c.in-Ok-true.field-0-test) _ (c.in-Ok-true.ensures.durable c.in-Ok-true.field-0-test) file known;
      checks = λ file known. begin_checks _ c.args.front.now (c.args.room + 2359296) c.in-Ok-file_of.size (c.deref.ensures.value ∙ c.in-Ok-file_of.ensures.0) c.in-Ok-file_of.ensures.1 c.requires.lines (omega (arith, c.deref.type_inv.1)) _ _ (c.in-Ok-true.ensures.replaced c.in-Ok-true.field-0-test) file known;
    }

pub returns-in-Ok-true-clause-holds : goal.returns-in-Ok-true-clause-holds
returns-in-Ok-true-clause-holds g c file known = record {
  file = c.deref.result.now;
  known = changed_to (λ _. c.deref.result.now) _ _ (c.in-Ok-true.ensures.replaced c.in-Ok-true.field-0-test) file known;
  lines_are = begin_told _ c.args.front.now (c.args.room + 2359296) c.in-Ok-file_of.size (c.deref.ensures.value ∙ c.in-Ok-file_of.ensures.0) c.in-Ok-file_of.ensures.1 c.requires.lines (omega (arith, c.deref.type_inv.1));
  stored_are = begin_disk _ c.args.front.now (c.args.room + 2359296) c.in-Ok-file_of.size (c.deref.ensures.value ∙ c.in-Ok-file_of.ensures.0) c.in-Ok-file_of.ensures.1 c.requires.lines (omega (arith, c.deref.type_inv.1));
}

pub returns-in-Ok-true-clause-any_moment : goal.returns-in-Ok-true-clause-any_moment
returns-in-Ok-true-clause-any_moment g c =
    let D = g.D.Device in
    let d = c.args.device in
    let P : List ℕ → Type 0 = λ f. D.may_leave d f ⊎ Tells c.args.front.now f in
    goes_on D.moment D.left_since d d c.replace.new.self P _ (started D.moment D.left_since d P (λ f left. inl (g.met.D.Device.only_now d f left))) c.replace.ensures.time
    (λ f now. begin_leaves _ c.args.front.now (c.args.room + 2359296) c.in-Ok-file_of.size (c.deref.ensures.value ∙ c.in-Ok-file_of.ensures.0) c.in-Ok-file_of.ensures.1 c.requires.lines (omega (arith, c.deref.type_inv.1)) _ _ c.replace.ensures.crash f now)

pub returns-in-Err-clause-any_moment_err : goal.returns-in-Err-clause-any_moment_err
returns-in-Err-clause-any_moment_err g c =
    let D = g.D.Device in
    let d = c.args.device in
    let P : List ℕ → Type 0 = λ f. D.may_leave d f ⊎ Tells c.args.front.now f in
    goes_on D.moment D.left_since d d c.replace.new.self P _ (started D.moment D.left_since d P (λ f left. inl (g.met.D.Device.only_now d f left))) c.replace.ensures.time
    (λ f now. begin_leaves _ c.args.front.now (c.args.room + 2359296) c.in-Ok-file_of.size (c.deref.ensures.value ∙ c.in-Ok-file_of.ensures.0) c.in-Ok-file_of.ensures.1 c.requires.lines (omega (arith, c.deref.type_inv.1)) _ _ c.replace.ensures.crash f now)

pub returns-in-Ok-false-clause-any_moment_err : goal.returns-in-Ok-false-clause-any_moment_err
returns-in-Ok-false-clause-any_moment_err g c =
    let D = g.D.Device in
    let d = c.args.device in
    let P : List ℕ → Type 0 = λ f. D.may_leave d f ⊎ Tells c.args.front.now f in
    goes_on D.moment D.left_since d d c.replace.new.self P _ (started D.moment D.left_since d P (λ f left. inl (g.met.D.Device.only_now d f left))) c.replace.ensures.time
    (λ f now. begin_leaves _ c.args.front.now (c.args.room + 2359296) c.in-Ok-file_of.size (c.deref.ensures.value ∙ c.in-Ok-file_of.ensures.0) c.in-Ok-file_of.ensures.1 c.requires.lines (omega (arith, c.deref.type_inv.1)) _ _ c.replace.ensures.crash f now)
