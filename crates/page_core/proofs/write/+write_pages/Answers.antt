use Rattle.std.proofs.Common.{[], ◌∷◌, Some, None, List, refl, sym, subst}
use Rattle.std.proofs.lemmas.List.{append-nil, nil_from_length}
use Rattle.page_core.specs.declared.plan.PageWrite.{PageWrite}
use Rattle.page_core.specs.Calls.{WritesPages, all, stops}
use Rattle.page_core.proofs.Calling.{write_and_more, served_and_one}
use Rattle.page_core.proofs.write.+write_pages.Goals as goal

pub returns-in_default-clause-sealed : goal.returns-in_default-clause-sealed
returns-in_default-clause-sealed g t c = ([], sym (append-nil c.args.sealed.items), λ a is. tt)

pub returns-in-Err-clause-sealed : goal.returns-in-Err-clause-sealed
returns-in-Err-clause-sealed g t c = ([], sym (append-nil c.args.sealed.items), λ a is. tt)

pub returns-in_default-clause-makes : goal.returns-in_default-clause-makes
returns-in_default-clause-makes g t c = ([], [], sym (append-nil c.args.sealed.items), refl, subst (λ (w : List PageWrite). WritesPages w [] [] None) (sym (nil_from_length c.args.writes.now c.in_default.ensures.cases)) all)

pub returns-in-Err-clause-makes : goal.returns-in-Err-clause-makes
returns-in-Err-clause-makes g t c =
    let made = c.in-Err.ensures.makes in (
      made.0,
      [],
      sym (append-nil c.args.sealed.items),
      made.1,
      subst (λ (w : List PageWrite). WritesPages w made.0 [] (Some c.in-Err.fault)) (sym c.in-Some.ensures.cases.0)
          (stops c.in-Some.write.now c.in-Some.rest.now made.0 c.in-Err.fault (rw (sym c.as_slice.ensures) made.2)),
    )

pub returns-clause-makes : goal.returns-clause-makes
returns-clause-makes g t c =
    let made = c.in-Ok.ensures.makes in
    write_and_more g.H.Hand.makes c.args.writes.now c.in-Some.rest.now c.in-Some.write.now c.in-Ok.stamp c.args.sealed.items c.with_one.result.items c.write_pages.result.0.items c.write_pages.result.1 c.args.hand.now c.write_file.new.hand c.write_pages.new.hand c.in-Some.ensures.cases.0 c.with_one.ensures.items
    (made.0, made.1, rw (sym c.as_slice.ensures) made.2) c.write_pages.ensures.makes

pub returns-clause-served : goal.returns-clause-served
returns-clause-served g t c = λ was. c.write_pages.ensures.served (served_and_one (g.H.Hand.serves c.args.hand.now) (g.H.Hand.serves c.write_file.new.hand) c.args.sealed.items c.with_one.result.items c.in-Ok.stamp c.with_one.ensures.items c.write_file.ensures.serves c.in-Ok.ensures.served was)
