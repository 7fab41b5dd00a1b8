-- What a session may say.
use Rattle.std.specs.Prelude.{⊤}
use Rattle.session_text.specs.declared.line.AnyLine.{AnyLine}
use Rattle.session_text.specs.declared.line.AnyLine.TheVariants as lines
use Rattle.session_core.specs.Repeats.{WasNoted}

-- of a call that was made before, only what stands in a history is said
abbrev pub MaySay : AnyLine → Type 0
MaySay (lines.Opened name next) = ⊤
MaySay (lines.Ended n reply) = ⊤
MaySay (lines.Repeated n reply) = WasNoted n reply.now
MaySay (lines.Told line) = ⊤
