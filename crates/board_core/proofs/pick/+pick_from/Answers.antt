use Rattle.std.proofs.Common.{◌≡◌, suc, ◌+◌, ◌<◌, ◌⊎◌, List, ◌++◌, length, take, drop, sym, ap, ◌∙◌, subst, arith}
use Rattle.device_core.specs.declared.hand.Stamp.{Stamp}
use Rattle.board_core.specs.Free.{HasFile, IsIn}
use Rattle.board_core.proofs.Picking.{stands, pick_ends, pick_goes, pick_stays}
use Rattle.board_core.proofs.pick.+pick_from.Goals as goal

pub returns-then-at-len : goal.returns-then-at-len
returns-then-at-len t c = pick_ends (λ number. IsIn number c.args.lists.now) c.args.free.now.items c.args.at (omega (arith, c.if-at-len.true, c.args.free.now.ok.0))

pub returns-then-goes : goal.returns-then-goes
returns-then-goes t c =
    let items = c.args.free.now.items in
    let less : c.args.at < length items = omega (arith, c.requires, c.if-at-len.false, c.args.free.now.ok.0) in
    let here = stands items c.args.at less in
    let told = c.goes.ensures here.stamp here.rest (ap (λ (s : List Stamp). drop c.args.at s) c.deref.ensures.value ∙ here.here) in
    let goes = subst (λ (s : List Stamp). IsIn here.stamp.number c.args.lists.now ⊎ HasFile here.stamp.number (take c.args.at s)) c.deref.ensures.value (told.0 c.if-goes.true) in
    let one : suc c.args.at ≡ c.args.at + 1 = omega arith in
    pick_goes (λ number. IsIn number c.args.lists.now) items c.args.at less here c.remove.new.self.items c.pick_from.new.free.items goes (c.remove.ensures.items ∙ ap (λ n. take c.args.at items ++ drop n items) one) c.pick_from.ensures

pub returns : goal.returns
returns t c =
    let items = c.args.free.now.items in
    let less : c.args.at < length items = omega (arith, c.requires, c.if-at-len.false, c.args.free.now.ok.0) in
    let here = stands items c.args.at less in
    let told = c.goes.ensures here.stamp here.rest (ap (λ (s : List Stamp). drop c.args.at s) c.deref.ensures.value ∙ here.here) in
    pick_stays (λ number. IsIn number c.args.lists.now) items c.args.at less here c.pick_from-2.new.free.items
    (λ goes. let h = told.1 (subst (λ (s : List Stamp). IsIn here.stamp.number c.args.lists.now ⊎ HasFile here.stamp.number (take c.args.at s)) (sym c.deref.ensures.value) goes) in let f = c.if-goes.false in absurd cc) c.pick_from-2.ensures
