use Rattle.std.proofs.Common.{true≢false, sym, ◌∙◌, Ok, Err, ◌+◌}
use Rattle.run_core.specs.Tasks.{task_call}
use Rattle.run_core.proofs.Fronts.{first_is_read, list_is_read}
use Rattle.run_core.proofs.MadeAtOnce.{all_read, first_read}
use Rattle.run_core.proofs.at_once.read_bytes.Goals as goal
use Rattle.run_core.proofs.at_once.read_bytes.Goals.{then-is_paged+in_default, else-is_paged}

pub returns-in-Ok-clause-found : goal.returns-in-Ok-clause-found
returns-in-Ok-clause-found g c = λ a agrees.
    let page = c.in-Ok.ensures.found in
    first_is_read a (task_call c.args.task.now) c.args.part c.pages_of-pages.result.now c.in-Some.first.now c.args.got.now.items c.read_page.new.got.items page.0 (c.is_paged.ensures.0 c.if-is_paged.true) c.pages_of-pages.ensures c.requires.empty page.1 (sym c.in-Some.ensures.value) (page.2 a agrees)

pub returns-in-Ok-read_list-clause-found : goal.returns-in-Ok-read_list-clause-found
returns-in-Ok-read_list-clause-found g c = λ a agrees.
    let list = c.in-Ok-read_list.ensures.found in
    list_is_read a (task_call c.args.task.now) c.args.part c.pages_of-pages.result.now c.args.got.now.items c.read_list.new.got.items list.0 c.pages_of-pages.ensures c.requires.empty list.1
    (λ paged. elim c.if-is_paged.branch [
      | then-is_paged+in_default w ↦ sym w.in_default.ensures.value
      | else-is_paged w ↦ absurd (true≢false (sym (c.is_paged.ensures.1 paged) ∙ w.if-is_paged.false))
    ]) (list.2 a agrees)

pub returns-in-Ok-clause-makes : goal.returns-in-Ok-clause-makes
returns-in-Ok-clause-makes g c = first_read g.H.Hand.makes (task_call c.args.task.now) c.args.part c.pages_of-pages.result.now c.in-Some.first.now (Ok c.in-Ok.field-0) c.args.hand.now c.read_page.new.hand c.pages_of-pages.ensures (sym c.in-Some.ensures.value) c.in-Ok.ensures.makes

pub returns-in-Err-clause-makes : goal.returns-in-Err-clause-makes
returns-in-Err-clause-makes g c = first_read g.H.Hand.makes (task_call c.args.task.now) c.args.part c.pages_of-pages.result.now c.in-Some.first.now (Err c.in-Err.fault) c.args.hand.now c.read_page.new.hand c.pages_of-pages.ensures (sym c.in-Some.ensures.value) c.in-Err.ensures.makes

pub returns-in-Ok-read_list-clause-makes : goal.returns-in-Ok-read_list-clause-makes
returns-in-Ok-read_list-clause-makes g c =
    all_read g.H.Hand.makes (task_call c.args.task.now) c.args.part c.pages_of-pages.result.now c.args.hand.now c.read_list.new.hand c.pages_of-pages.ensures
    (λ paged. elim c.if-is_paged.branch [
      | then-is_paged+in_default w ↦ sym w.in_default.ensures.value
      | else-is_paged w ↦ absurd (true≢false (sym (c.is_paged.ensures.1 paged) ∙ w.if-is_paged.false))
    ]) c.in-Ok-read_list.ensures.makes

pub returns-in-Err-read_list-clause-makes : goal.returns-in-Err-read_list-clause-makes
returns-in-Err-read_list-clause-makes g c =
    all_read g.H.Hand.makes (task_call c.args.task.now) c.args.part c.pages_of-pages.result.now c.args.hand.now c.read_list.new.hand c.pages_of-pages.ensures
    (λ paged. elim c.if-is_paged.branch [
      | then-is_paged+in_default w ↦ sym w.in_default.ensures.value
      | else-is_paged w ↦ absurd (true≢false (sym (c.is_paged.ensures.1 paged) ∙ w.if-is_paged.false))
    ]) c.in-Err-read_list.ensures.makes

pub returns-in-Err-clause-in_order : goal.returns-in-Err-clause-in_order
returns-in-Err-clause-in_order g c = λ always served is. c.in-Err.ensures.in_order (always 1) (served 0 c.pages_of-pages.result.now c.in-Some.first.now c.pages_of-pages.ensures (sym c.in-Some.ensures.value)) is

pub returns-in-Err-read_list-clause-in_order : goal.returns-in-Err-read_list-clause-in_order
returns-in-Err-read_list-clause-in_order g c = λ always served is. c.in-Err-read_list.ensures.in_order always (λ p pin at. served p c.pages_of-pages.result.now pin c.pages_of-pages.ensures at) is

pub returns-in-Ok-clause-works : goal.returns-in-Ok-clause-works
returns-in-Ok-clause-works g c = λ always n. c.in-Ok.ensures.works n (always n) (always (n + 1))

pub returns-in-Err-clause-works : goal.returns-in-Err-clause-works
returns-in-Err-clause-works g c = λ always n. c.in-Err.ensures.works n (always n) (always (n + 1))
