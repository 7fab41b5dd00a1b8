use Rattle.std.proofs.Common.{Err, List, ℕ, suc, ◌+◌, ◌++◌, ap, ◌∙◌, append_assoc}
use Rattle.std.specs.Prelude.{slice_get}
use Rattle.device_core.specs.declared.hand.Stamp.{Stamp}
use Rattle.page_core.proofs.Calling.{read_one, read_and_more}
use Rattle.page_core.proofs.ListBytes.{page_more}
use Rattle.page_core.proofs.read.+read_list.Goals as goal

pub returns-in-Err-clause-in_order : goal.returns-in-Err-clause-in_order
returns-in-Err-clause-in_order g t c = λ always served is.
    c.in-Err.ensures.in_order (always 1) (served 0 c.in-Some.page.now (ap (λ (l : List Stamp). slice_get l 0) c.in-Some.ensures.cases.0)) is

pub returns-in-Ok-read_list-clause-found : goal.returns-in-Ok-read_list-clause-found
returns-in-Ok-read_list-clause-found g t c =
    let page = c.in-Ok.ensures.found in
    let rest = c.in-Ok-read_list.ensures.found in (
      page.0 ++ rest.0,
      ◌∙◌ {A = List ℕ} rest.1 (◌∙◌ {A = List ℕ} (ap (λ (l : List ℕ). l ++ rest.0) page.1) (append_assoc c.args.got.now.items page.0 rest.0)),
      λ a is. page_more a c.args.pages.now c.in-Some.rest.now c.in-Some.page.now page.0 rest.0 c.in-Some.ensures.cases.0 (page.2 a (c.in-Ok-read_list.ensures.kept a is)) (rest.2 a is),
    )

pub returns-in-Ok-read_list-clause-works : goal.returns-in-Ok-read_list-clause-works
returns-in-Ok-read_list-clause-works g t c = λ always. c.in-Ok-read_list.ensures.works (λ n. c.in-Ok.ensures.works n (always n) (always (n + 1)))

pub returns-in-Err-read_list-clause-works : goal.returns-in-Err-read_list-clause-works
returns-in-Err-read_list-clause-works g t c = λ always. c.in-Err-read_list.ensures.works (λ n. c.in-Ok.ensures.works n (always n) (always (n + 1)))

pub returns-in-Err-read_list-clause-in_order : goal.returns-in-Err-read_list-clause-in_order
returns-in-Err-read_list-clause-in_order g t c = λ always served is.
    c.in-Err-read_list.ensures.in_order (λ n. c.in-Ok.ensures.works n (always n) (always (n + 1)))
    (λ p s there. c.in-Ok.ensures.serves s (served (suc p) s (ap (λ (l : List Stamp). slice_get l (suc p)) c.in-Some.ensures.cases.0 ∙ there))) is

pub returns-in-Err-clause-makes : goal.returns-in-Err-clause-makes
returns-in-Err-clause-makes g t c = read_one g.H.Hand.makes c.args.pages.now c.in-Some.rest.now c.in-Some.page.now (Err c.in-Err.fault) c.args.hand.now c.read_page.new.hand c.in-Some.ensures.cases.0 c.in-Err.ensures.makes

pub returns-in-Ok-read_list-clause-makes : goal.returns-in-Ok-read_list-clause-makes
returns-in-Ok-read_list-clause-makes g t c = read_and_more g.H.Hand.makes c.args.pages.now c.in-Some.rest.now c.in-Some.page.now c.in-Ok.field-0 c.args.hand.now c.read_page.new.hand c.read_list.new.hand c.in-Some.ensures.cases.0 c.in-Ok.ensures.makes c.in-Ok-read_list.ensures.makes

pub returns-in-Err-read_list-clause-makes : goal.returns-in-Err-read_list-clause-makes
returns-in-Err-read_list-clause-makes g t c = read_and_more g.H.Hand.makes c.args.pages.now c.in-Some.rest.now c.in-Some.page.now c.in-Ok.field-0 c.args.hand.now c.read_page.new.hand c.read_list.new.hand c.in-Some.ensures.cases.0 c.in-Ok.ensures.makes c.in-Err-read_list.ensures.makes
