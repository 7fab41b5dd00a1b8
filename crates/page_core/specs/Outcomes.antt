-- What an outcome tells.
use Rattle.std.specs.Prelude.{◌≡◌, List, []}
use Rattle.std.specs.Arc.{arc_value}
use Rattle.device_core.specs.declared.hand.Stamp.{Stamp}
use Rattle.apply_core.specs.declared.reply.Reply.{Reply}
use Rattle.apply_core.specs.declared.reply.Reply.TheVariants.{Done, Refused, Failed}
use Rattle.page_core.specs.PartPins.{PartPin}
use Rattle.page_core.specs.CallPins.{Call, call_of}
use Rattle.page_core.specs.declared.outcome.Outcome.{Outcome}

abbrev pub outcome_call : Outcome → Call
outcome_call o = call_of o.number (arc_value o.operation) o.args.items o.pins

abbrev pub outcome_reply : Outcome → Reply
outcome_reply o = o.reply

-- the files that the run sealed, in order
abbrev pub outcome_sealed : Outcome → List Stamp
outcome_sealed o = o.sealed.items

-- the page lists that the run made
abbrev pub outcome_news : Outcome → List PartPin
outcome_news o = o.news

-- the files of the old lists that are not in those
abbrev pub outcome_gone : Outcome → List Stamp
outcome_gone o = o.gone.items

-- what holds where the body was done
abbrev pub if_done : {X : Type 0} → Reply → List X → List X
if_done (Done reply) xs = xs
if_done (Refused word) xs = []
if_done (Failed failure) xs = []

-- the files that a call leaves to nobody: those that it replaced or dropped where it was done, those that it
-- sealed where it failed
abbrev pub free_by : Reply → List Stamp → List Stamp → List Stamp
free_by (Done reply) gone sealed = gone
free_by (Refused word) gone sealed = []
free_by (Failed failure) gone sealed = sealed

-- the new pins of the parts that the body changed
abbrev pub outcome_pins : Outcome → List PartPin
outcome_pins o = if_done (outcome_reply o) (outcome_news o)

-- the files that the call leaves to nobody
abbrev pub outcome_free : Outcome → List Stamp
outcome_free o = free_by (outcome_reply o) (outcome_gone o) (outcome_sealed o)

-- the new page lists once more, in a row that the run made for the entry
abbrev pub outcome_entry : Outcome → List PartPin
outcome_entry o = o.entry

-- An outcome can be handed in: the row for its entry has its new page lists. It is handed in once.
abbrev pub IsFresh : Outcome → Type 0
IsFresh o = outcome_entry o ≡ outcome_news o

-- an outcome tells of a call what another one told of it
pub record TellsSame (o after : Outcome) : Type 0 where
  pub call : outcome_call after ≡ outcome_call o
  pub reply : outcome_reply after ≡ outcome_reply o
  pub news : outcome_news after ≡ outcome_news o
