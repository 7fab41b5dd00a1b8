use Rattle.std.proofs.Common.{◌≡◌, ◌⊎◌, inl, inr, ⊎_elim, ℕ, List, sym, ◌∙◌, ◌+◌, arith}
use Rattle.keep_loop.specs.Taken.{Tells, TellsBetween}
use Rattle.keep_loop.proofs.Moments.{started, goes_on}
use Rattle.keep_loop.proofs.KeptLines.{changed_to, stands_kept}
use Rattle.keep_loop.proofs.KeptTold.{now_tells}
use Rattle.keep_loop.proofs.FrontTold.{begin_fits, begin_stands, begin_checks, begin_told, begin_disk, begin_leaves}
use Rattle.keep_loop.proofs.journal.Journal.change.Goals as goal

pub returns-in_default-clause-any_moment : goal.returns-in_default-clause-any_moment
returns-in_default-clause-any_moment g c stored text h =
    let D = g.D.Device in
    let j = c.args.self.now in
    let s = c.requires.in_order.stands h.file h.known in
    let k = c.requires.in_order.checks h.file h.known in
    started D.moment D.left_since j.device (λ f. TellsBetween stored text f ⊎ Tells c.args.front.now f)
    (λ f left. inl (now_tells h.file _ j.stored j.size (j.room + j.checks) j.crc s k stored text h.lines_are h.stored_are f (g.met.D.Device.only_now j.device f left)))

pub returns-in_default-clause-any_moment_kept : goal.returns-in_default-clause-any_moment_kept
returns-in_default-clause-any_moment_kept g c kept stored text h =
    let D = g.D.Device in
    let j = c.args.self.now in
    let s = c.requires.in_order.stands h.file h.known in
    let k = c.requires.in_order.checks h.file h.known in
    started D.moment D.left_since j.device (λ f. TellsBetween stored text f)
    (λ f left. now_tells h.file _ j.stored j.size (j.room + j.checks) j.crc s k stored text h.lines_are h.stored_are f (g.met.D.Device.only_now j.device f left))

pub returns-in-Ok-true-clause-any_moment : goal.returns-in-Ok-true-clause-any_moment
returns-in-Ok-true-clause-any_moment g c stored text h =
    let D = g.D.Device in
    let j = c.args.self.now in
    let s = c.requires.in_order.stands h.file h.known in
    let k = c.requires.in_order.checks h.file h.known in
    let P : List ℕ → Type 0 = λ f. TellsBetween stored text f ⊎ Tells c.args.front.now f in
    let before : (f : List ℕ) → D.may_leave j.device f → P f = λ f now. inl (now_tells h.file _ j.stored j.size (j.room + j.checks) j.crc s k stored text h.lines_are h.stored_are f now) in
    goes_on D.moment D.left_since j.device j.device c.replace.new.self P _ (started D.moment D.left_since j.device P (λ f left. before f (g.met.D.Device.only_now j.device f left))) c.replace.ensures.time
    (λ f now. ⊎_elim (λ was. before f was) (λ e. inr e) (begin_leaves _ c.args.front.now (c.args.room + 2359296) c.in-Ok.size (c.deref.ensures.value ∙ c.in-Ok.ensures.0) c.in-Ok.ensures.1 c.requires.lines (omega (arith, c.deref.type_inv.1)) _ _ c.replace.ensures.crash f now))

pub returns-in-Ok-false-clause-any_moment : goal.returns-in-Ok-false-clause-any_moment
returns-in-Ok-false-clause-any_moment g c stored text h =
    let D = g.D.Device in
    let j = c.args.self.now in
    let s = c.requires.in_order.stands h.file h.known in
    let k = c.requires.in_order.checks h.file h.known in
    let P : List ℕ → Type 0 = λ f. TellsBetween stored text f ⊎ Tells c.args.front.now f in
    let before : (f : List ℕ) → D.may_leave j.device f → P f = λ f now. inl (now_tells h.file _ j.stored j.size (j.room + j.checks) j.crc s k stored text h.lines_are h.stored_are f now) in
    goes_on D.moment D.left_since j.device j.device c.replace.new.self P _ (started D.moment D.left_since j.device P (λ f left. before f (g.met.D.Device.only_now j.device f left))) c.replace.ensures.time
    (λ f now. ⊎_elim (λ was. before f was) (λ e. inr e) (begin_leaves _ c.args.front.now (c.args.room + 2359296) c.in-Ok.size (c.deref.ensures.value ∙ c.in-Ok.ensures.0) c.in-Ok.ensures.1 c.requires.lines (omega (arith, c.deref.type_inv.1)) _ _ c.replace.ensures.crash f now))

pub returns-clause-any_moment : goal.returns-clause-any_moment
returns-clause-any_moment g c stored text h =
    let D = g.D.Device in
    let j = c.args.self.now in
    let s = c.requires.in_order.stands h.file h.known in
    let k = c.requires.in_order.checks h.file h.known in
    let P : List ℕ → Type 0 = λ f. TellsBetween stored text f ⊎ Tells c.args.front.now f in
    let before : (f : List ℕ) → D.may_leave j.device f → P f = λ f now. inl (now_tells h.file _ j.stored j.size (j.room + j.checks) j.crc s k stored text h.lines_are h.stored_are f now) in
    goes_on D.moment D.left_since j.device j.device c.replace.new.self P _ (started D.moment D.left_since j.device P (λ f left. before f (g.met.D.Device.only_now j.device f left))) c.replace.ensures.time
    (λ f now. ⊎_elim (λ was. before f was) (λ e. inr e) (begin_leaves _ c.args.front.now (c.args.room + 2359296) c.in-Ok.size (c.deref.ensures.value ∙ c.in-Ok.ensures.0) c.in-Ok.ensures.1 c.requires.lines (omega (arith, c.deref.type_inv.1)) _ _ c.replace.ensures.crash f now))

pub returns-in-Ok-false-clause-any_moment_kept : goal.returns-in-Ok-false-clause-any_moment_kept
returns-in-Ok-false-clause-any_moment_kept g c kept stored text h =
    let D = g.D.Device in
    let j = c.args.self.now in
    let s = c.requires.in_order.stands h.file h.known in
    let k = c.requires.in_order.checks h.file h.known in
    let P : List ℕ → Type 0 = λ f. TellsBetween stored text f in
    let before : (f : List ℕ) → D.may_leave j.device f → P f = λ f now. now_tells h.file _ j.stored j.size (j.room + j.checks) j.crc s k stored text h.lines_are h.stored_are f now in
    goes_on D.moment D.left_since j.device j.device c.replace.new.self P _ (started D.moment D.left_since j.device P (λ f left. before f (g.met.D.Device.only_now j.device f left))) c.replace.ensures.time
    (λ f now. before f (c.in-Ok-false.ensures.kept_crash c.in-Ok-false.field-0-test f now))

pub returns-in-Ok-false-clause-in_order : goal.returns-in-Ok-false-clause-in_order
returns-in-Ok-false-clause-in_order g c =
    let j = c.args.self.now in
    record {
      fits = c.requires.in_order.fits;
      stands = λ file known.
          stands_kept file _ _ j.stored j.size (j.room + j.checks) (c.requires.in_order.stands file (sym (c.in-Ok-false.ensures.kept c.in-Ok-false.field-0-test) ∙ known)) (c.in-Ok-false.ensures.kept_crash c.in-Ok-false.field-0-test);
      checks = λ file known. c.requires.in_order.checks file (sym (c.in-Ok-false.ensures.kept c.in-Ok-false.field-0-test) ∙ known);
    }

pub returns-in-Ok-true-clause-in_order : goal.returns-in-Ok-true-clause-in_order
returns-in-Ok-true-clause-in_order g c =
    let fits = begin_fits _ c.args.front.now (c.args.room + 2359296) c.in-Ok.size (c.deref.ensures.value ∙ c.in-Ok.ensures.0) c.in-Ok.ensures.1 c.requires.lines (omega (arith, c.deref.type_inv.1)) in
    record {
      fits = omega (arith, fits);
      stands = λ file known. begin_stands _ c.args.front.now (c.args.room + 2359296) c.in-Ok.size (c.deref.ensures.value ∙ c.in-Ok.ensures.0) c.in-Ok.ensures.1 c.requires.lines (omega (arith, c.deref.type_inv.1)) _ _ (c.in-Ok-true.ensures.replaced c.in-Ok-true.field-0-test) _ (c.in-Ok-true.ensures.durable c.in-Ok-true.field-0-test) file known;
      checks = λ file known. begin_checks _ c.args.front.now (c.args.room + 2359296) c.in-Ok.size (c.deref.ensures.value ∙ c.in-Ok.ensures.0) c.in-Ok.ensures.1 c.requires.lines (omega (arith, c.deref.type_inv.1)) _ _ (c.in-Ok-true.ensures.replaced c.in-Ok-true.field-0-test) file known;
    }

pub returns-in-Ok-true-clause-holds : goal.returns-in-Ok-true-clause-holds
returns-in-Ok-true-clause-holds g c went stored text h = record {
  file = c.deref.result.now;
  known = changed_to (λ _. c.deref.result.now) _ _ (c.in-Ok-true.ensures.replaced c.in-Ok-true.field-0-test) h.file h.known;
  lines_are = begin_told _ c.args.front.now (c.args.room + 2359296) c.in-Ok.size (c.deref.ensures.value ∙ c.in-Ok.ensures.0) c.in-Ok.ensures.1 c.requires.lines (omega (arith, c.deref.type_inv.1));
  stored_are = begin_disk _ c.args.front.now (c.args.room + 2359296) c.in-Ok.size (c.deref.ensures.value ∙ c.in-Ok.ensures.0) c.in-Ok.ensures.1 c.requires.lines (omega (arith, c.deref.type_inv.1));
}
