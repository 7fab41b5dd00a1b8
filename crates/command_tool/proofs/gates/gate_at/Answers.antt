use Rattle.std.proofs.Common.{Some, refl, sym, subst}
use Rattle.command_line.specs.declared.request.Address.{Address}
use Rattle.answer_core.specs.Places.{IsSocketOf}
use Rattle.command_tool.proofs.gates.gate_at.Goals as goal

pub returns-in-Ok-gate_at_path-clause-made : goal.returns-in-Ok-gate_at_path-clause-made
returns-in-Ok-gate_at_path-clause-made c =
    let socket = c.in-Ok-gate_at_path.socket in
    subst (λ (address : Address). IsSocketOf address (Some socket)) (sym c.in-Path.is) (socket, refl, c.in-Ok-gate_at_path.ensures)
