-- The lines behind a front, one after another.
use Rattle.std.specs.Prelude.{◌≡◌, ℕ, ◌<◌, ◌≤◌, List, [], ◌∷◌, map, Some, None}
use Rattle.std.specs.Str.{str_to_ascii_lowercase}
use Rattle.path_tree.specs.Known.{place_of}
use Rattle.path_tree.specs.Identifier.{IsIdentifier}
use Rattle.path_count.specs.Stands.{started_calls}
use Rattle.value_core.specs.Datum.{elem_of}
use Rattle.decl_core.specs.ObjectForm.{ObjectForm}
use Rattle.apply_core.specs.declared.reply.Reply.{Reply}
use Rattle.word_core.specs.Events.{Called, body_at}
use Rattle.audit_core.specs.Operations.{operation_names}
use Rattle.audit_core.specs.Tells.{IsCallNumber}
use Rattle.audit_core.specs.Carried.{IsTheOne}
use Rattle.audit_core.specs.EpochSaid.{Says, Asked, a_start, an_end, a_cancel, a_name}
use Rattle.audit_core.specs.Steps.{ran, cancelled, named, Begun, Heard, IsUnused, trace_by}

-- behind a front sessions have the numbers up to this one
abbrev pub IsSession : ℕ → Type 0
IsSession session = (1 ≤ session) × (session ≤ 65535)

-- a line may tell of this call of the operation at a place: nothing runs, and no line told of its number before
pub record IsCall (o : ObjectForm) (e : Begun) (heard : Heard) (asked : Asked) (call : Called) : Type 0 where
  pub rests : heard.running ≡ None
  pub number : call.number ≡ asked.number
  pub session : call.session ≡ asked.session
  pub arguments : call.arguments ≡ asked.arguments
  pub number_is : IsCallNumber asked.number
  pub session_is : IsSession asked.session
  pub fresh : IsUnused asked.number heard.steps
  pub known : place_of (operation_names o.operations) (str_to_ascii_lowercase asked.name) ≡ Some call.operation
  pub fit : map elem_of asked.arguments ≡ (body_at o call.operation).params
  pub carried : IsTheOne e.carried call

-- a line has its place behind those before it, and this is told then
pub data Tells (o : ObjectForm) (e : Begun) (heard : Heard) (line : List ℕ) : Heard → Type 0 where
  start_told : {asked : Asked} {call : Called} → Says line (a_start asked) → IsCall o e heard asked call →
      started_calls (trace_by e heard.steps) < 65536 → Tells o e heard line (record heard { running = Some call })
  end_told : {number : ℕ} {reply : Reply} {call : Called} → Says line (an_end number reply) →
      heard.running ≡ Some call → call.number ≡ number
      → Tells o e heard line (record { steps = ran call reply ∷ heard.steps; running = None })
  cancel_told : {asked : Asked} {call : Called} → Says line (a_cancel asked) → IsCall o e heard asked call →
      Tells o e heard line (record heard { steps = cancelled call ∷ heard.steps })
  name_told : {session : ℕ} {client : List ℕ} → Says line (a_name session client) → heard.running ≡ None →
      IsSession session → IsIdentifier client
      → Tells o e heard line (record heard { steps = named session (str_to_ascii_lowercase client) ∷ heard.steps })

-- these lines have their places one behind another
abbrev pub Tell : ObjectForm → Begun → Heard → List (List ℕ) → Heard → Type 0
Tell o e heard [] after = after ≡ heard
Tell o e heard (line ∷ more) after = (mid : Heard) × Tells o e heard line mid × Tell o e mid more after
