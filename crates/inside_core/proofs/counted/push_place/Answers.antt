use Rattle.inside_core.proofs.StatusAdding.{two, ok_two}
use Rattle.inside_core.proofs.counted.push_place.Goals as goal

pub returns : goal.returns
returns c = ok_two c.push_number-2.result c.args.out.now.items c.push_number.new.out.items c.push_number-2.new.out.items _ _ (two c.args.out.now.items c.push_label.new.out.items c.push_number.new.out.items _ _ c.in_ok-push_label.ensures c.in_ok-push_number.ensures) c.push_number-2.ensures
