use Rattle.std.proofs.Common.{◌<◌, length, codes, refl, sym, subst}
use Rattle.std.specs.Prelude.{decimal}
use Rattle.path_count.specs.Asked.{finish}
use Rattle.path_count.specs.Named.{IsNamed, IsUnnamed}
use Rattle.value_core.specs.Reply.{reply}
use Rattle.path_count.proofs.Lines.{bad_told, named_some, finished_told}
use Rattle.path_count.proofs.paths.machine.Paths.finish.Goals as goal

pub returns-in_ok-push_count-in-None : goal.returns-in_ok-push_count-in-None
returns-in_ok-push_count-in-None c = (
  reply (codes "bad line ") (decimal c.args.number),
  c.in_ok-push_count-in-None.ensures,
  λ told line stands is.
      bad_told told c.args.number line (finish c.args.word.now) c.args.self.now stands is
      (subst (λ ns. IsUnnamed ns c.args.word.now) stands.names c.in-None.ensures),
)

pub returns-in_ok-finish_operation-in-Some : goal.returns-in_ok-finish_operation-in-Some
returns-in_ok-finish_operation-in-Some c =
    let done = rw c.name.ensures at c.in_ok-finish_operation-in-Some.ensures in
    let named : IsNamed c.begin.new.self.operations c.in-Some.op c.args.word.now
    = subst (λ ns. IsNamed ns c.in-Some.op c.args.word.now) (sym c.begin.ensures.names) c.in-Some.ensures in (
      done.0,
      done.1,
      λ told line stands is.
          let ready = c.in_ok-begin-in-Some.ensures.begun told stands (named_some told.names c.in-Some.op c.args.word.now (subst (λ ns. IsNamed ns c.in-Some.op c.args.word.now) stands.names c.in-Some.ensures)) in
          let answer = done.2 (length told.names) told.paths told.trace (ready.counted refl) (subst (λ ns. c.in-Some.op < length ns) ready.names named.0) in
          finished_told told c.args.number line c.args.word.now done.0 c.in-Some.op c.begin.new.self _ ready is named answer refl refl refl,
    )
