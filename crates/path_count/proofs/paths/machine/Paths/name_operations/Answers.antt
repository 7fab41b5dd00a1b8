use Rattle.std.proofs.Common.{length, inl, inr, codes, refl, arith}
use Rattle.std.specs.Prelude.{decimal}
use Rattle.std.proofs.lemmas.Bool.Decides.{nat_tests}
use Rattle.path_count.specs.Asked.{operations}
use Rattle.path_count.specs.Words.{words}
use Rattle.value_core.specs.Reply.{reply}
use Rattle.path_count.proofs.Lines.{bad_told, some_told, none_told, named_told}
use Rattle.path_count.proofs.paths.machine.Paths.name_operations.Goals as goal

pub returns-then-not-is_empty : goal.returns-then-not-is_empty
returns-then-not-is_empty c = (
  reply (codes "bad line ") (decimal c.args.number),
  c.in_ok-push_count.ensures,
  λ told line stands is.
      bad_told told c.args.number line (operations (words c.args.text.now)) c.args.self.now stands is
      (inl (some_told told c.args.self.now c.names.result.now stands c.names.ensures.names (λ h. grind (arith, nat_tests)))),
)

pub returns-in_ok-push_count-in-None : goal.returns-in_ok-push_count-in-None
returns-in_ok-push_count-in-None c = (
  reply (codes "bad line ") (decimal c.args.number),
  c.in_ok-push_count-in-None.ensures,
  λ told line stands is.
      bad_told told c.args.number line (operations (words c.args.text.now)) c.args.self.now stands is (inr (rw c.in-None.is at c.in_ok-operations.ensures)),
)

pub returns-in_ok-push_count-in-Some : goal.returns-in_ok-push_count-in-Some
returns-in_ok-push_count-in-Some c =
    let read = rw c.in-Some.is at c.in_ok-operations.ensures in (
      reply (codes "ops ") (decimal (length c.in-Some.operations)),
      rw c.names-in-Some.ensures.names at c.in_ok-push_count-in-Some.ensures,
      λ told line stands is.
          named_told told c.args.number line (words c.args.text.now) c.in-Some.operations c.args.self.now _ stands
          (none_told told c.args.self.now c.names.result.now stands c.names.ensures.names (grind (arith, nat_tests))) is read.0 read.1 refl refl refl,
    )
