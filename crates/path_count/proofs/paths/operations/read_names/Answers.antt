use Rattle.std.proofs.Common.{◌∷◌, [], arith, length-append}
use Rattle.path_count.proofs.Naming.{Named-more, Named-refused}
use Rattle.path_count.proofs.paths.operations.read_names.Goals as goal

pub returns-in-None : goal.returns-in-None
returns-in-None c =
    let refused = rw c.in-None.is at c.in_ok-name.ensures in
    Named-refused c.args.line.now c.words.rest.now c.in-Some.tail.now c.in-Some.word.now c.words.names.items c.words.invariant.named c.in-Some.ensures
    (rw c.deref.ensures.value at refused)

pub words-preserved : goal.words-preserved
words-preserved c =
    let found = rw c.deref.ensures.value at (rw c.in-Some-2.is at c.in_ok-name.ensures) in
    let pushed = c.in_ok-push-in-Some-2.ensures.items in
    record {
      few = rw pushed (omega (arith, found.0, length-append c.words.names.items (c.in-Some-2.name ∷ [])));
      named = rw pushed (Named-more c.args.line.now c.words.rest.now c.in-Some.tail.now c.in-Some.word.now c.in-Some-2.name c.words.names.items c.words.invariant.named c.in-Some.ensures found.0 found.1 found.2 found.3);
    }
