use Rattle.serve_core.proofs.Numbering.{found_first}
use Rattle.serve_core.proofs.found.FoundFiles.of.Goals as goal

pub invariant_of-result : goal.invariant_of-result
invariant_of-result c =
    let found = found_first c.args.numbers.items c.sort_unstable.new.self.items c.deref.result.now c.number_above-first.result c.sort_unstable.ensures.permutation c.deref.ensures.value c.number_above-first.ensures c.requires in
    (found.0, found.1, c.sort_unstable.ensures.sorted)

pub returns-clause-first : goal.returns-clause-first
returns-clause-first c =
    (found_first c.args.numbers.items c.sort_unstable.new.self.items c.deref.result.now c.number_above-first.result c.sort_unstable.ensures.permutation c.deref.ensures.value c.number_above-first.ensures c.requires).0
