use Rattle.page_core.proofs.Touching.{read}
use Rattle.run_core.proofs.task.Task.next_part.Goals as goal

pub returns-in-Some-clause-next : goal.returns-in-Some-clause-next
returns-in-Some-clause-next c =
    let found = c.in-Some.ensures.found in (
      record {
        read = read _ c.in-Some.part (c.args.self.now.only c.in-Some.part found.2);
        behind = found.0;
        first = λ q reads from before. c.in-Some.ensures.first q from before (c.args.self.now.named q reads);
        pinned = c.args.self.now.pinned c.in-Some.part found.2;
      },
      found.1,
    )
