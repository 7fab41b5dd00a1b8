-- Why the code goes no further, as what it says of a body.
use Rattle.std.specs.Prelude.{◌≡◌, List, Option, Result, Ok, Err}
use Rattle.value_core.specs.declared.datum.Datum.{Datum}
use Rattle.value_core.specs.declared.refusal.GrowFault.{GrowFault}
use Rattle.value_core.specs.declared.refusal.GrowFault.TheVariants as grow_faults
use Rattle.value_core.specs.Contents.{Contents}
use Rattle.value_core.specs.Words.{word_of}
use Rattle.decl_core.specs.Meaning.{Changed, Reply, refused}
use Rattle.apply_core.specs.declared.reply.Reply.{Reply as Told}
use Rattle.apply_core.specs.declared.reply.Reply.TheVariants as replies
use Rattle.known_core.specs.declared.eval.Break.{Break}
use Rattle.known_core.specs.declared.eval.Break.TheVariants as breaks
use Rattle.known_core.specs.declared.act.Stop.{Stop}
use Rattle.known_core.specs.declared.act.Stop.TheVariants as stops
use Rattle.known_core.specs.declared.whole.WholeStop.{WholeStop}
use Rattle.known_core.specs.declared.whole.WholeStop.TheVariants as whole_stops
use Rattle.known_core.specs.Partly.{Halt, word, needs, Partly}

-- why an expression has no value
abbrev pub halt_of : Break → Halt
halt_of (breaks.Refused refusal) = word (word_of refusal)
halt_of (breaks.Needs p i) = needs p i

-- what an expression gives
abbrev pub given : {A : Type 0} → Result A Break → Partly A
given (Ok x) = Ok x
given (Err b) = Err (halt_of b)

-- why a body stops where an expression has no value
abbrev pub stop_for : Break → Stop
stop_for (breaks.Refused refusal) = stops.Refused (word_of refusal)
stop_for (breaks.Needs p i) = stops.Needs p i

-- why a body stops where a value did not grow
abbrev pub stop_of : GrowFault → Stop
stop_of (grow_faults.Refused refusal) = stops.Refused (word_of refusal)
stop_of grow_faults.Memory = stops.Memory

-- a refusal and a need are the body's; want of memory says nothing
abbrev pub StopTells : Partly Changed → Stop → Type 0
StopTells meaning (stops.Refused w) = meaning ≡ Err (word w)
StopTells meaning (stops.Needs p i) = meaning ≡ Err (needs p i)
StopTells meaning stops.Memory = Unit {0}

-- these contents of the parts, and this that is to be replied
abbrev pub changing : List Contents → Option Datum → Changed
changing parts reply = record { parts = parts; reply = reply }

-- statements that were done leave what they mean; ones that were not tell why, and want of memory says nothing
abbrev pub Leaves : Result (Unit {0}) Stop → Partly Changed → Changed → Type 0
Leaves (Ok u) meaning left = meaning ≡ Ok left
Leaves (Err stop) meaning left = StopTells meaning stop

-- of a body on whole values a refusal is the reply; want of memory says nothing
abbrev pub WholeTells : Reply → WholeStop → Type 0
WholeTells reply (whole_stops.Refused w) = reply ≡ refused w
WholeTells reply whole_stops.Memory = Unit {0}

-- why a body stopped, where nothing was needed
abbrev pub StopsAs : Stop → WholeStop → Type 0
StopsAs (stops.Refused w) whole = whole ≡ whole_stops.Refused w
StopsAs (stops.Needs p i) whole = ⊥
StopsAs stops.Memory whole = whole ≡ whole_stops.Memory

-- a body that was refused replies so
abbrev pub RepliesTo : WholeStop → Told → Type 0
RepliesTo (whole_stops.Refused w) reply = reply ≡ replies.Refused w
RepliesTo whole_stops.Memory reply = ⊥
