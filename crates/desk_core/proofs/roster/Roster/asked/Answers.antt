use Rattle.std.proofs.Common.{◌≡◌, ◌∙◌, refl, sym, ap, subst, arith, length, false}
use Rattle.std.specs.Arc.{arc_value}
use Rattle.std.proofs.lemmas.List.{length-map}
use Rattle.decl_core.specs.declared.object.Operation.{Operation}
use Rattle.page_core.specs.ObjectCalls.{AcceptedCall}
use Rattle.board_core.specs.Board.{Board}
use Rattle.board_core.specs.Answers.{IsGone, IsNamedAt, IsAsked, is_busy}
use Rattle.page_core.proofs.Lists.{true_false}
use Rattle.desk_core.proofs.roster.Roster.asked.Goals as goal

pub returns-then-not-fits-clause-refused : goal.returns-then-not-fits-clause-refused
returns-then-not-fits-clause-refused c =
    let named0 = c.in-Some.ensures.some in
    let object : c.object-object.result.now ≡ c.args.self.now.object = c.object-object.ensures.same ∙ ap (λ (b : Board). b.object) c.self.view_is in
    let operation : Operation = named0.0 in
    let named : IsNamedAt c.args.self.now.object c.in-Some.place operation c.args.name.now = subst (λ o. IsNamedAt o c.in-Some.place operation c.args.name.now) object named0.1 in
    let here : IsGone c.args.self.now c.args.session → ⊥ = λ g. true_false c.is_gone.result (c.is_gone.ensures.1 g) c.if-is_gone.false in
    (here, (c.in-Some.place, operation, named, λ fit. true_false c.fits.result ((c.fits.ensures operation named0.1.there).1 fit) c.if-not-fits.true))

pub returns-then-is_busy-clause-refused : goal.returns-then-is_busy-clause-refused
returns-then-is_busy-clause-refused c =
    let named0 = c.in-Some.ensures.some in
    let object : c.object-object.result.now ≡ c.args.self.now.object = c.object-object.ensures.same ∙ ap (λ (b : Board). b.object) c.self.view_is in
    let operation : Operation = named0.0 in
    let named : IsNamedAt c.args.self.now.object c.in-Some.place operation c.args.name.now = subst (λ o. IsNamedAt o c.in-Some.place operation c.args.name.now) object named0.1 in
    let here : IsGone c.args.self.now c.args.session → ⊥ = λ g. true_false c.is_gone.result (c.is_gone.ensures.1 g) c.if-is_gone.false in
    let call : AcceptedCall = record { session = c.args.session; op = c.in-Some.place; operation = operation; arguments = c.args.args.now } in
    let asked : IsAsked c.args.self.now (record { session = c.args.session; name = c.args.name.now; arguments = c.args.args.now }) call =
    record { session = refl; named = named; arguments = refl; fits = (c.fits.ensures operation named0.1.there).0 c.if-not-fits.false } in
    (here, (call, asked), sym c.is_busy.ensures ∙ c.if-is_busy.true)

pub returns-then-len-ge-MOST_OPEN-clause-refused : goal.returns-then-len-ge-MOST_OPEN-clause-refused
returns-then-len-ge-MOST_OPEN-clause-refused c =
    let named0 = c.in-Some.ensures.some in
    let object : c.object-object.result.now ≡ c.args.self.now.object = c.object-object.ensures.same ∙ ap (λ (b : Board). b.object) c.self.view_is in
    let operation : Operation = named0.0 in
    let named : IsNamedAt c.args.self.now.object c.in-Some.place operation c.args.name.now = subst (λ o. IsNamedAt o c.in-Some.place operation c.args.name.now) object named0.1 in
    let here : IsGone c.args.self.now c.args.session → ⊥ = λ g. true_false c.is_gone.result (c.is_gone.ensures.1 g) c.if-is_gone.false in
    let call : AcceptedCall = record { session = c.args.session; op = c.in-Some.place; operation = operation; arguments = c.args.args.now } in
    let asked : IsAsked c.args.self.now (record { session = c.args.session; name = c.args.name.now; arguments = c.args.args.now }) call =
    record { session = refl; named = named; arguments = refl; fits = (c.fits.ensures operation named0.1.there).0 c.if-not-fits.false } in
    let w : c.len.result ≡ length c.args.self.now.waiting = omega (arith, c.len.ensures, ap (λ (b : Board). length b.waiting) c.self.view_is) in
    let r : c.len-2.result ≡ length c.args.self.now.running = omega (arith, c.len-2.ensures, c.self.inside.running.ok.0, ap (λ (b : Board). length b.running) c.self.view_is) in
    let free : is_busy c.args.self.now c.args.session ≡ false = sym c.is_busy.ensures ∙ c.if-is_busy.false in
    (here, (call, asked), free, omega (arith, w, r, c.if-len-ge-MOST_OPEN.true))

pub returns-then-len-ge-MOST_CALLS-clause-refused : goal.returns-then-len-ge-MOST_CALLS-clause-refused
returns-then-len-ge-MOST_CALLS-clause-refused c =
    let named0 = c.in-Some.ensures.some in
    let object : c.object-object.result.now ≡ c.args.self.now.object = c.object-object.ensures.same ∙ ap (λ (b : Board). b.object) c.self.view_is in
    let operation : Operation = named0.0 in
    let named : IsNamedAt c.args.self.now.object c.in-Some.place operation c.args.name.now = subst (λ o. IsNamedAt o c.in-Some.place operation c.args.name.now) object named0.1 in
    let here : IsGone c.args.self.now c.args.session → ⊥ = λ g. true_false c.is_gone.result (c.is_gone.ensures.1 g) c.if-is_gone.false in
    let call : AcceptedCall = record { session = c.args.session; op = c.in-Some.place; operation = operation; arguments = c.args.args.now } in
    let asked : IsAsked c.args.self.now (record { session = c.args.session; name = c.args.name.now; arguments = c.args.args.now }) call =
    record { session = refl; named = named; arguments = refl; fits = (c.fits.ensures operation named0.1.there).0 c.if-not-fits.false } in
    let w : c.len.result ≡ length c.args.self.now.waiting = omega (arith, c.len.ensures, ap (λ (b : Board). length b.waiting) c.self.view_is) in
    let r : c.len-2.result ≡ length c.args.self.now.running = omega (arith, c.len-2.ensures, c.self.inside.running.ok.0, ap (λ (b : Board). length b.running) c.self.view_is) in
    let n : c.len-3.result ≡ length c.args.self.now.calls = omega (arith, c.len-3.ensures, c.self.inside.calls.ok.0, length-map c.self.inside.calls.items (λ x. arc_value x), ap (λ (b : Board). length b.calls) c.self.view_is) in
    let free : is_busy c.args.self.now c.args.session ≡ false = sym c.is_busy.ensures ∙ c.if-is_busy.false in
    (here, (call, asked), free, omega (arith, w, r, c.if-len-ge-MOST_OPEN.false), omega (arith, n, c.if-len-ge-MOST_CALLS.true))

pub returns-clause-taken : goal.returns-clause-taken
returns-clause-taken c =
    let named0 = c.in-Some.ensures.some in
    let object : c.object-object.result.now ≡ c.args.self.now.object = c.object-object.ensures.same ∙ ap (λ (b : Board). b.object) c.self.view_is in
    let operation : Operation = named0.0 in
    let named : IsNamedAt c.args.self.now.object c.in-Some.place operation c.args.name.now = subst (λ o. IsNamedAt o c.in-Some.place operation c.args.name.now) object named0.1 in
    let here : IsGone c.args.self.now c.args.session → ⊥ = λ g. true_false c.is_gone.result (c.is_gone.ensures.1 g) c.if-is_gone.false in
    let call : AcceptedCall = record { session = c.args.session; op = c.in-Some.place; operation = operation; arguments = c.args.args.now } in
    let asked : IsAsked c.args.self.now (record { session = c.args.session; name = c.args.name.now; arguments = c.args.args.now }) call =
    record { session = refl; named = named; arguments = refl; fits = (c.fits.ensures operation named0.1.there).0 c.if-not-fits.false } in
    let w : c.len.result ≡ length c.args.self.now.waiting = omega (arith, c.len.ensures, ap (λ (b : Board). length b.waiting) c.self.view_is) in
    let r : c.len-2.result ≡ length c.args.self.now.running = omega (arith, c.len-2.ensures, c.self.inside.running.ok.0, ap (λ (b : Board). length b.running) c.self.view_is) in
    let n : c.len-3.result ≡ length c.args.self.now.calls = omega (arith, c.len-3.ensures, c.self.inside.calls.ok.0, length-map c.self.inside.calls.items (λ x. arc_value x), ap (λ (b : Board). length b.calls) c.self.view_is) in
    let free : is_busy c.args.self.now c.args.session ≡ false = sym c.is_busy.ensures ∙ c.if-is_busy.false in
    (operation, record { here = here; asked = asked; free = free; room = omega (arith, w, r, c.if-len-ge-MOST_OPEN.false); numbers = omega (arith, n, c.if-len-ge-MOST_CALLS.false) })
