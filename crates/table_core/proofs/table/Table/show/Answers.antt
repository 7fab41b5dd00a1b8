use Rattle.std.proofs.Common.{sym, subst}
use Rattle.std.specs.Prelude.{Result}
use Rattle.std.specs.Global.{Vec}
use Rattle.std.specs.declared.alloc.AllocError.{AllocError}
use Rattle.guest_core.specs.declared.answer.SubmitFault.TheVariants as faults
use Rattle.session_text.specs.declared.line.ReplyLine.TheVariants as lines
use Rattle.std.proofs.Common.{ℕ}
use Rattle.table_core.specs.Brings.{Brings}
use Rattle.table_core.specs.Parts.{Shows}
use Rattle.table_core.specs.Seen.{seen}
use Rattle.table_core.proofs.Bringing.{refuses}
use Rattle.table_core.proofs.table.Table.show.Goals as goal

pub returns-in_ok-reject-in-Err : goal.returns-in_ok-reject-in-Err
returns-in_ok-reject-in-Err c =
    subst (λ (r : Result (Vec ℕ) AllocError). Brings (Shows c.args.place r) c.args.post.now (seen c.args.self.now) c.reject.new.post (seen c.reject.new.self)) (sym c.in-Err.is)
    (refuses c.args.post.now c.reject.new.post (seen c.args.self.now) (seen c.reject.new.self) c.args.place (lines.Unsubmitted faults.Memory) tt c.in_ok-reject-in-Err.ensures)
