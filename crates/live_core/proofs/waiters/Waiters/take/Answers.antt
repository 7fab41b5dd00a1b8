use Rattle.std.proofs.Common.{◌≡◌, ◌≢◌, ◌<◌, ◌≤◌, ◌∙◌, ℕ, Some, length, ap, arith, sym, subst}
use Rattle.std.specs.Prelude.{slice_get, slice_index, unwrap_or}
use Rattle.std.proofs.lemmas.Option.{slice_get-get_or}
use Rattle.word_core.specs.Events.{Called}
use Rattle.live_core.specs.Waiters.{AreFrom, AreByNumber}
use Rattle.live_core.proofs.Places.{left_every, left_pairs, there}
use Rattle.live_core.proofs.waiters.Waiters.take.Goals as goal

pub raise-requires-clause-in_order : goal.raise-requires-clause-in_order
raise-requires-clause-in_order c =
    let within : c.args.place < length c.self.inside.rows.items = omega (arith, ap length c.self.view_is, c.requires) in
    let at = there c.self.inside.rows.items c.args.place c.remove-call.result within c.remove-call.ensures.value in
    subst AreByNumber (sym c.deref.ensures.value)
    (left_pairs (λ (x y : Called). x.number < y.number) c.self.inside.rows.items c.remove-call.new.self.items c.args.place c.remove-call.result at c.remove-call.ensures.by_index.2 c.self.invariant.in_order)

pub raise-requires-clause-firsts : goal.raise-requires-clause-firsts
raise-requires-clause-firsts c =
    let within : c.args.place < length c.self.inside.rows.items = omega (arith, ap length c.self.view_is, c.requires) in
    let at = there c.self.inside.rows.items c.args.place c.remove-call.result within c.remove-call.ensures.value in
    subst (AreFrom c.self.inside.firsts) (sym c.deref.ensures.value)
    (left_every (λ (x : Called). slice_index c.self.inside.firsts x.operation ≤ x.number) c.self.inside.rows.items c.remove-call.new.self.items c.args.place c.remove-call.result at c.remove-call.ensures.by_index.2 c.self.invariant.firsts)

pub invariant_of-self : goal.invariant_of-self
invariant_of-self c =
    let within : c.args.place < length c.self.inside.rows.items = omega (arith, ap length c.self.view_is, c.requires) in
    let at = there c.self.inside.rows.items c.args.place c.remove-call.result within c.remove-call.ensures.value in
    let rest = c.remove-call.ensures.by_index.2 in
    let rows = c.self.inside.rows.items in
    let left = c.remove-call.new.self.items in
    record {
      in_order = left_pairs (λ (x y : Called). x.number < y.number) rows left c.args.place c.remove-call.result at rest c.self.invariant.in_order;
      one_each = left_pairs (λ (x y : Called). x.session ≢ y.session) rows left c.args.place c.remove-call.result at rest c.self.invariant.one_each;
      firsts = subst (AreFrom c.raise.new.firsts) c.deref.ensures.value c.raise.ensures.firsts;
      noted = left_every (λ (x : Called). (n : ℕ) → slice_get c.self.inside.numbers.items x.session ≡ Some n → n ≡ x.number) rows left c.args.place c.remove-call.result at rest c.self.invariant.noted;
    }

pub returns-clause-call : goal.returns-clause-call
returns-clause-call c = λ d at0.
    let within : c.args.place < length c.self.inside.rows.items = omega (arith, ap length c.self.view_is, c.requires) in
    let at : slice_get c.self.inside.rows.items c.args.place ≡ Some d = ap (λ ws. slice_get ws c.args.place) c.self.view_is ∙ at0 in
    c.remove-call.ensures.value ∙ ap (λ o. unwrap_or o d) (sym (slice_get-get_or c.self.inside.rows.items c.args.place c.remove-call.result within) ∙ at)
