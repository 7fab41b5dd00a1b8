use Rattle.inside_core.proofs.StatusAdding.{two, ok_two}
use Rattle.inside_core.proofs.server.push_numbers.Goals as goal

pub returns : goal.returns
returns c = ok_two c.push_one-7.result c.args.out.now.items c.push_one-6.new.out.items c.push_one-7.new.out.items _ _ (two c.args.out.now.items c.push_one-5.new.out.items c.push_one-6.new.out.items _ _ (two c.args.out.now.items c.push_one-4.new.out.items c.push_one-5.new.out.items _ _ (two c.args.out.now.items c.push_one-3.new.out.items c.push_one-4.new.out.items _ _ (two c.args.out.now.items c.push_one-2.new.out.items c.push_one-3.new.out.items _ _ (two c.args.out.now.items c.push_one.new.out.items c.push_one-2.new.out.items _ _ c.in_ok-push_one.ensures
    c.in_ok-push_one-2.ensures)
    c.in_ok-push_one-3.ensures)
    c.in_ok-push_one-4.ensures)
    c.in_ok-push_one-5.ensures)
    c.in_ok-push_one-6.ensures) c.push_one-7.ensures
