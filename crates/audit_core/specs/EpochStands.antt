-- What is kept of an epoch that is played again.
use Rattle.std.specs.Prelude.{◌≡◌, ℕ, ◌<◌, List, [], ◌∷◌, length, map, Some, None, MatchOption, MatchResult, Result}
use Rattle.path_tree.specs.Trace.{running_calls}
use Rattle.path_count.specs.Stands.{started_calls}
use Rattle.value_core.specs.Contents.{Contents, kind_of}
use Rattle.value_core.specs.Datum.{elem_of}
use Rattle.decl_core.specs.ObjectForm.{ObjectForm}
use Rattle.apply_core.specs.History.{IsLegal}
use Rattle.word_core.specs.Events.{Called, history_of, body_at}
use Rattle.path_count.specs.declared.past.PastEvent.{PastEvent}
use Rattle.path_count.specs.Past.{events_of, AreBefore}
use Rattle.audit_core.specs.declared.carried.WaitedCall.{WaitedCall}
use Rattle.audit_core.specs.Calls.{called}
use Rattle.audit_core.specs.Counting.{AllMayStart}
use Rattle.audit_core.specs.Tells.{IsCallNumber}
use Rattle.audit_core.specs.View.{told_view}
use Rattle.audit_core.specs.declared.verdict.AuditFault.{AuditFault}
use Rattle.audit_core.specs.declared.epoch_replay.Known.{Known}
use Rattle.audit_core.specs.declared.epoch_replay.ReplayNote.{ReplayNote}
use Rattle.audit_core.specs.declared.epoch_replay.ReplayNote.TheVariants as notes
use Rattle.audit_core.specs.declared.epoch_replay.Replay.{Replay}
use Rattle.audit_core.specs.Steps.{ran, cancelled, named, Begun, Heard, IsUnused, happened_of, trace_by}
use Rattle.audit_core.specs.Steps.{contents_by, long_past}
use Rattle.audit_core.specs.Numbers.{AreNumbers}
use Rattle.audit_core.specs.Counts.{Counted}
use Rattle.audit_core.specs.Carried.{carried_calls}
use Rattle.audit_core.specs.EpochSaid as said
use Rattle.audit_core.specs.EpochTells.{Tells}
use Rattle.audit_core.specs.Sound.{IsFault}

-- an epoch with this past, these contents, and these calls that waited, numbered from 1
abbrev pub begun_with : List PastEvent → List Contents → List WaitedCall → Begun
begun_with past opening carried = record { past = past; opening = opening; carried = carried_calls carried }

-- a call that was told of
abbrev pub known_call : Known → Called
known_call k = called k.number k.call

-- a call has started that every path admits, of an operation that takes such arguments
pub record IsPending (o : ObjectForm) (e : Begun) (heard : Heard) (c : Called) : Type 0 where
  pub runs : heard.running ≡ Some c
  pub number : IsCallNumber c.number
  pub unused : IsUnused c.number heard.steps
  pub known : c.operation < length o.operations
  pub fit : map elem_of c.arguments ≡ (body_at o c.operation).params
  pub may : AllMayStart o.paths c.operation (trace_by e heard.steps)
  pub few : started_calls (trace_by e heard.steps) < 65536

-- what is kept stands for what was told
pub record Stands (o : ObjectForm) (e : Begun) (r : Replay) (heard : Heard) : Type 0 where
  pub counted : Counted r.counts.all r.counts.each.items (length o.operations) o.paths (trace_by e heard.steps)
  pub quiet : running_calls (trace_by e heard.steps) ≡ []
  pub before : AreBefore (events_of e.past)
  pub legal : IsLegal (history_of o (happened_of heard.steps)) e.opening
  pub contents : r.parts.items ≡ contents_by o e heard.steps
  pub kinds : map kind_of r.parts.items ≡ map (λ p. p.1) o.parts
  pub numbers : AreNumbers r.numbers.used.items r.numbers.greatest heard.steps
  pub carried : e.carried ≡ carried_calls r.carried.items
  pub running : MatchOption r.running (heard.running ≡ None) (λ k. IsPending o e heard (known_call k))
  pub long : r.long.items ≡ long_past e heard.steps

-- what a line told is what stands behind it more
abbrev pub IsNote : Heard → ReplayNote → Heard → Type 0
IsNote heard notes.Began after = after.steps ≡ heard.steps
IsNote heard (notes.Ran known reply) after =
    after ≡ record { steps = ran (known_call known) (told_view reply) ∷ heard.steps; running = None }
IsNote heard (notes.Cancelled known) after = after ≡ record heard { steps = cancelled (known_call known) ∷ heard.steps }
IsNote heard (notes.Named session client) after =
    after ≡ record heard { steps = named session client ∷ heard.steps }

-- what was found in a line behind those that told this
abbrev pub Found : ObjectForm → Begun → Heard → List ℕ → Result ReplayNote AuditFault → Replay → Type 0
Found o e heard line found new = MatchResult found
    (λ note. (after : Heard) × Tells o e heard line after × IsNote heard note after × Stands o e new after)
    (λ fault. IsFault o e heard line fault)

-- what was found in a line
abbrev pub Hears : ObjectForm → List ℕ → Replay → Result ReplayNote AuditFault → Replay → Type 0
Hears o line old found new = (e : Begun) (heard : Heard) → Stands o e old heard → Found o e heard line found new

-- what was found in a line that says this
abbrev pub HearsSaid : ObjectForm → said.Said → Replay → Result ReplayNote AuditFault → Replay → Type 0
HearsSaid o what old found new = (line : List ℕ) (e : Begun) (heard : Heard) → Stands o e old heard →
    said.Says line what → Found o e heard line found new
