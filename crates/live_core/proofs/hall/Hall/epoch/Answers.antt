use Rattle.std.proofs.Common.{rules, ◌≡◌, ◌/◌, refl, ap, subst, arith, length}
use Rattle.decl_core.specs.ObjectMap.{object_of}
use Rattle.live_core.specs.Hall.{Hall, Told, IsKept, IsHeld, Rests}
use Rattle.live_core.specs.Epochs.{IsBegun, IsShortOf, told_behind}
use Rattle.live_core.specs.View.{hall_of}
use Rattle.live_core.proofs.Beginning.{begun, begun_kept, begun_rests, is_begun, length_numbered}
use Rattle.live_core.proofs.hall.Hall.epoch.Goals as goal

pub overflow_cast-self : goal.overflow_cast-self
overflow_cast-self c = omega (arith, c.len-2.ensures, ap length c.renumber.ensures, length_numbered 0 c.self.inside.waiting, c.if-calls-len.false, c.len.ensures)

pub invariant_of-self : goal.invariant_of-self
invariant_of-self c =
    let h = hall_of c.self.inside in
    let short : IsShortOf (object_of h.object) h.counters c.args.past.now c.in-Some.counters = search rules in
    let counted : c.len-2.result ≡ length c.renumber.new.self = omega (arith, c.len-2.ensures) in
    let t = c.self.invariant.0 in
    (told_behind c.args.past.now h.contents, begun_kept h t c.in-Some.counters c.args.past.now (length c.args.past.now / 2) c.len-2.result c.renumber.new.self short c.renumber.ensures counted refl c.self.invariant.1 (omega (arith, c.if-calls-len.false, c.len.ensures)))

pub returns-clause-begun : goal.returns-clause-begun
returns-clause-begun c = λ _.
    let h = hall_of c.self.inside in
    let short : IsShortOf (object_of h.object) h.counters c.args.past.now c.in-Some.counters = search rules in
    let counted : c.len-2.result ≡ length c.renumber.new.self = omega (arith, c.len-2.ensures) in
    let t = c.self.invariant.0 in
    subst (λ (x : Hall). IsBegun x c.args.past.now (begun h t c.in-Some.counters c.args.past.now (length c.args.past.now / 2) c.len-2.result c.renumber.new.self short c.renumber.ensures counted refl)) c.self.view_is (is_begun h t c.in-Some.counters c.args.past.now (length c.args.past.now / 2) c.len-2.result c.renumber.new.self short c.renumber.ensures counted refl)

pub returns-clause-kept : goal.returns-clause-kept
returns-clause-kept c = λ _.
    let h = hall_of c.self.inside in
    let short : IsShortOf (object_of h.object) h.counters c.args.past.now c.in-Some.counters = search rules in
    let counted : c.len-2.result ≡ length c.renumber.new.self = omega (arith, c.len-2.ensures) in
    subst (λ (x : Hall). (t : Told) → IsKept x t → IsKept (begun h t c.in-Some.counters c.args.past.now (length c.args.past.now / 2) c.len-2.result c.renumber.new.self short c.renumber.ensures counted refl) (told_behind c.args.past.now x.contents)) c.self.view_is
    (λ t kept. begun_kept h t c.in-Some.counters c.args.past.now (length c.args.past.now / 2) c.len-2.result c.renumber.new.self short c.renumber.ensures counted refl kept (omega (arith, c.if-calls-len.false, c.len.ensures)))

pub returns-clause-rests : goal.returns-clause-rests
returns-clause-rests c = λ _.
    let h = hall_of c.self.inside in
    let short : IsShortOf (object_of h.object) h.counters c.args.past.now c.in-Some.counters = search rules in
    let counted : c.len-2.result ≡ length c.renumber.new.self = omega (arith, c.len-2.ensures) in
    subst (λ (x : Hall). (t : Told) → IsHeld x t → Rests (object_of h.object) c.renumber.new.self (told_behind c.args.past.now x.contents)) c.self.view_is
    (λ t held. begun_rests h t c.in-Some.counters c.args.past.now (length c.args.past.now / 2) c.len-2.result c.renumber.new.self short c.renumber.ensures counted refl held.kept held.rests)
