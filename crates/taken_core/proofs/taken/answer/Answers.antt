use Rattle.std.proofs.Common.{take}
use Rattle.taken_core.proofs.Answered.{found_none, found_some}
use Rattle.taken_core.proofs.taken.answer.Goals as goal

pub take_format-requires : goal.take_format-requires
take_format-requires c = record {
  size = c.recovered_len-size.ensures.length;
  whole = c.recovered_len-size.ensures.lines;
  tells = found_some c.args.file.now (take c.recovered_len-size.result c.args.file.now) c.in_ok-format.field-0 c.in-Some.format c.recovered_len-size.ensures.lines c.in_ok-format.ensures c.in-Some.is;
}

pub returns-in-None : goal.returns-in-None
returns-in-None c = found_none c.args.file.now (take c.recovered_len-size.result c.args.file.now) c.args.accepts_cut c.in_ok-format.field-0 c.recovered_len-size.ensures.lines c.in_ok-format.ensures c.in-None.is
