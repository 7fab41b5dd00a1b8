use Rattle.std.proofs.Common.{codes, sym}
use Rattle.std.specs.Prelude.{decimal}
use Rattle.path_count.specs.Asked.{other}
use Rattle.value_core.specs.Reply.{reply}
use Rattle.path_count.proofs.Lines.{bad_told}
use Rattle.path_count.proofs.paths.machine.PathsMachine.answer.Goals as goal

pub returns-in_ok-push_count-in-Other : goal.returns-in_ok-push_count-in-Other
returns-in_ok-push_count-in-Other c = (
  reply (codes "bad line ") (decimal c.args.number),
  c.in_ok-push_count-in-Other.ensures,
  λ told stands. bad_told told c.args.number c.args.line.now other c.args.self.now stands (sym c.in-Other.ensures) tt,
)
