use Rattle.std.proofs.Common.{[], Ok}
use Rattle.value_core.specs.declared.machine.LinesFault.TheVariants.{Memory}
use Rattle.keep_core.proofs.Telling.{line_told, write_told}
use Rattle.serve_core.proofs.Running.{none_said}
use Rattle.serve_core.specs.Runs.{listening_line}
use Rattle.serve_core.proofs.host.Host.listen.Goals as goal

pub returns-in-Err : goal.returns-in-Err
returns-in-Err g c = ([], none_said (listening_line []) Memory (g.W.Write.contents c.args.writer.now))

pub returns : goal.returns
returns g c = (
  c.as_bytes.result.now,
  (line_told c.new-line.result.items c.push_reply.new.out.items c.deref.result.now (listening_line c.as_bytes.result.now) (Ok tt) c.write_whole.result c.new-line.ensures.items c.in-Ok.ensures c.deref.ensures.value
      (write_told c.write_whole.result c.write_whole.ensures.ok c.write_whole.ensures.err c.write_whole.ensures.fault)).said,
)
