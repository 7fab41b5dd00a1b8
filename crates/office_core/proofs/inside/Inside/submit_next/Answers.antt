use Rattle.board_core.specs.Answers.{Asked}
use Rattle.office_core.proofs.Keying.{refused_next}
use Rattle.office_core.proofs.inside.Inside.submit_next.Goals as goal

pub returns-in-Err-clause-told : goal.returns-in-Err-clause-told
returns-in-Err-clause-told c =
    let asked : Asked = record { session = c.args.seat.now.session; name = c.args.op.now; arguments = c.args.args.now } in
    refused_next c.args.self.now.board c.submit.new.self.board asked c.in-Err.fault c.requires.sound c.requires.here c.in-Err.ensures.refused.0 c.in-Err.ensures.refused.1
