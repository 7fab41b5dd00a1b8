use Rattle.std.proofs.Common.{◌≡◌, ◌∷◌, length, subst, sym, arith}
use Rattle.std.proofs.lemmas.List.{with_items_is}
use Rattle.path_tree.specs.Trace.{Start, End}
use Rattle.audit_core.specs.Counting.{AreCounters}
use Rattle.audit_core.proofs.Paths.{all_may}
use Rattle.audit_core.proofs.counts.Counts.pass.Goals as goal

pub returns : goal.returns
returns c = λ n paths t call counted same known may few fresh.
    let apart = c.pass_each.ensures n paths t call (subst (λ cs. AreCounters cs n paths t) (sym c.deref_mut.ensures.value) counted.apart) same known may few fresh in
    let size : length c.pass_each.new.each ≡ c.args.self.now.each.len = omega (arith, c.pass_each.auto.each, c.deref_mut.ensures.len) in
    record {
      together = c.pass.ensures n paths t call counted.together same known (all_may paths c.args.op t may) few fresh;
      apart = subst (λ cs. AreCounters cs n paths (End call ∷ Start call ∷ t)) (sym (with_items_is c.args.self.now.each c.pass_each.new.each size)) apart;
    }
