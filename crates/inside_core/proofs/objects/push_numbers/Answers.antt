use Rattle.inside_core.proofs.StatusAdding.{two, ok_two}
use Rattle.inside_core.proofs.objects.push_numbers.Goals as goal

pub returns : goal.returns
returns c = ok_two c.push_metric-5.result c.args.out.now.items c.push_metric-4.new.out.items c.push_metric-5.new.out.items _ _ (two c.args.out.now.items c.push_metric-3.new.out.items c.push_metric-4.new.out.items _ _ (two c.args.out.now.items c.push_metric-2.new.out.items c.push_metric-3.new.out.items _ _ (two c.args.out.now.items c.push_metric.new.out.items c.push_metric-2.new.out.items _ _ c.in_ok-push_metric.ensures
    c.in_ok-push_metric-2.ensures)
    c.in_ok-push_metric-3.ensures)
    c.in_ok-push_metric-4.ensures) c.push_metric-5.ensures
