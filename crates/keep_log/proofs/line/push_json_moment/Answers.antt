use Rattle.std.specs.Prelude.{codes}
use Rattle.keep_log.specs.Moment.{moment_text}
use Rattle.keep_log.proofs.Adding.{three}
use Rattle.keep_log.proofs.line.push_json_moment.Goals as goal

pub returns : goal.returns
returns c = three c.args.out.now.items c.extend_from_slice.new.self.items c.push_moment.new.out.items c.extend_from_slice-2.new.self.items
    (codes "{\"time\":\"") (moment_text c.args.moment) (codes "\",\"level\":\"")
    c.in_ok-extend_from_slice.ensures.items c.in_ok-push_moment.ensures c.in_ok-extend_from_slice-2.ensures.items
