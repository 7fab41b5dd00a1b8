use Rattle.inside_core.proofs.StatusAdding.{two, ok_two}
use Rattle.inside_core.proofs.objects.push_objects.Goals as goal

pub returns : goal.returns
returns c = ok_two c.push_current-3.result c.args.out.now.items c.push_current-2.new.out.items c.push_current-3.new.out.items _ _ (two c.args.out.now.items c.push_current.new.out.items c.push_current-2.new.out.items _ _ (two c.args.out.now.items c.push_calls.new.out.items c.push_current.new.out.items _ _ (two c.args.out.now.items c.push_numbers.new.out.items c.push_calls.new.out.items _ _ c.in_ok-push_numbers.ensures c.in_ok-push_calls.ensures) c.in_ok-push_current.ensures) c.in_ok-push_current-2.ensures) c.push_current-3.ensures
