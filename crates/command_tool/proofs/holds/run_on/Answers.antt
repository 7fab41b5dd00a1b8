use Rattle.std.proofs.Common.{◌≡◌, ℕ, List}
use Rattle.std.specs.Io.KnownBytes.{Appends}
use Rattle.decl_core.specs.HoldMap.{holds_of}
use Rattle.world_core.specs.HoldRun.{IsHeldScript}
use Rattle.world_core.specs.declared.script.ScriptEnd.{ScriptEnd}
use Rattle.command_tool.specs.ScriptRun.{script_status}
use Rattle.command_tool.proofs.Scripts.{chained}
use Rattle.command_tool.proofs.holds.run_on.Goals as goal

pub returns-in-Ok-clause-ended : goal.returns-in-Ok-clause-ended
returns-in-Ok-clause-ended g c =
    chained (g.R.Read.remaining c.args.reader.now) _ c.args.head.now
    (λ text. (end : ScriptEnd) × (written : List ℕ) × Appends (g.W.Write.contents c.args.writer.now) (g.W.Write.contents c.run_held_script.new.writer) written × IsHeldScript c.args.accepted (holds_of c.args.holds.items) text end written × (c.status_of_script.result ≡ script_status end))
    (λ text. (written : List ℕ) × Appends (g.W.Write.contents c.args.writer.now) (g.W.Write.contents c.run_held_script.new.writer) written × IsHeldScript c.args.accepted (holds_of c.args.holds.items) text c.in-Ok.end written)
    c.chain-text.ensures.bytes c.in-Ok.ensures.known
    (λ text told. (c.in-Ok.end, told.0, told.1, told.2, c.status_of_script.ensures.is))
