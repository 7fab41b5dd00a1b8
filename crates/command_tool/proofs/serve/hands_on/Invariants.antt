use Rattle.std.proofs.Common.{◌≡◌, length}
use Rattle.command_tool.proofs.serve.hands_on.Given as goal

abbrev pub invariant-loop-made : goal.invariant-loop-made
invariant-loop-made g l = length l.hands.items ≡ l.made
