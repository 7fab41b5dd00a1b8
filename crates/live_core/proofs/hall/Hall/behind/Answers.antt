use Rattle.std.proofs.Common.{◌≡◌, ◌∙◌, ◌*◌, ◌/◌, [], length, sym, ap, subst, arith, map}
use Rattle.std.specs.Prelude.{IfSome}
use Rattle.path_tree.specs.Trace.{running_calls}
use Rattle.path_count.specs.Stands.{StandsFor, started_calls}
use Rattle.path_count.specs.Past.{events_of}
use Rattle.value_core.specs.Contents.{kind_of}
use Rattle.decl_core.specs.declared.object.Part.{Part}
use Rattle.decl_core.specs.ObjectMap.{object_of}
use Rattle.live_core.specs.Hall.{IsKept}
use Rattle.live_core.specs.Epochs.{told_behind}
use Rattle.live_core.proofs.Opening.{opened_kept, opened}
use Rattle.live_core.proofs.hall.Hall.behind.Goals as goal

pub invariant_of-result : goal.invariant_of-result
invariant_of-result c =
    let object = c.args.object in
    let stands = subst (λ f. IfSome f (λ x. StandsFor x (length (object_of object).operations) (object_of object).paths (events_of c.args.past.now))) c.in-Some.is c.in_ok-counters.ensures.stands in
    let quiet = subst (λ f. IfSome f (λ x. running_calls (events_of c.args.past.now) ≡ [])) c.in-Some.is c.in_ok-counters.ensures.quiet in
    let starts = subst (λ f. IfSome f (λ x. 2 * started_calls (events_of c.args.past.now) ≡ length c.args.past.now)) c.in-Some.is c.in_ok-counters.ensures.starts in
    let kinds = ap (map kind_of) (sym c.deref.ensures.value) ∙ c.are_of.ensures.0 c.if-not-are_of.false ∙ ap (map (λ (p : Part). p.kind)) c.deref-2.ensures.value in (
      told_behind c.args.past.now c.args.parts.items,
      subst (λ xs. IsKept (record (opened object c.in-Some.counters c.args.parts.items (length c.args.past.now / 2) c.args.limits) { waiting = xs }) (told_behind c.args.past.now c.args.parts.items)) (sym c.in_ok-waiting.ensures)
          (opened_kept object c.in-Some.counters c.args.parts.items c.args.past.now (length c.args.past.now / 2) c.args.limits stands quiet c.in_ok-counters.ensures.before kinds (omega (arith, starts)) (omega (arith, c.if-calls.false))),
    )

pub returns-clause-kept : goal.returns-clause-kept
returns-clause-kept c =
    let object = c.args.object in
    let stands = subst (λ f. IfSome f (λ x. StandsFor x (length (object_of object).operations) (object_of object).paths (events_of c.args.past.now))) c.in-Some.is c.in_ok-counters.ensures.stands in
    let quiet = subst (λ f. IfSome f (λ x. running_calls (events_of c.args.past.now) ≡ [])) c.in-Some.is c.in_ok-counters.ensures.quiet in
    let starts = subst (λ f. IfSome f (λ x. 2 * started_calls (events_of c.args.past.now) ≡ length c.args.past.now)) c.in-Some.is c.in_ok-counters.ensures.starts in
    let kinds = ap (map kind_of) (sym c.deref.ensures.value) ∙ c.are_of.ensures.0 c.if-not-are_of.false ∙ ap (map (λ (p : Part). p.kind)) c.deref-2.ensures.value in
    subst (λ xs. IsKept (record (opened object c.in-Some.counters c.args.parts.items (length c.args.past.now / 2) c.args.limits) { waiting = xs }) (told_behind c.args.past.now c.args.parts.items)) (sym c.in_ok-waiting.ensures)
    (opened_kept object c.in-Some.counters c.args.parts.items c.args.past.now (length c.args.past.now / 2) c.args.limits stands quiet c.in_ok-counters.ensures.before kinds (omega (arith, starts)) (omega (arith, c.if-calls.false)))
