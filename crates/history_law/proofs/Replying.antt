-- What calls replied that ran can be written.
use Rattle.std.proofs.Common.{◌≡◌, ℕ, zero, suc, refl, List, [], ◌∷◌, map}
use Rattle.std.specs.Prelude.{Some, None, slice_index_or}
use Rattle.std.specs.declared.sync.Arc.{Arc}
use Rattle.std.specs.Arc.{arc_value}
use Rattle.value_core.specs.declared.datum.Datum.{Datum}
use Rattle.value_core.specs.Contents.{Contents}
use Rattle.decl_core.specs.declared.object.Object.{Object}
use Rattle.decl_core.specs.declared.object.Operation.{Operation}
use Rattle.decl_core.specs.ObjectMap.{object_of, operations_of}
use Rattle.decl_core.specs.Typed.{Types, StatementsTyped}
use Rattle.apply_core.specs.declared.reply.Reply.{Reply}
use Rattle.apply_core.specs.declared.reply.Reply.TheVariants.{Done, Refused, Failed}
use Rattle.apply_core.specs.History.{IsReplyOn}
use Rattle.word_core.specs.Events.{Called, form_body, no_body, body_at}
use Rattle.word_core.specs.TraceLaws.{IsReply}
use Rattle.history_law.proofs.Refusing.{refused_told}
use Rattle.live_core.specs.declared.call.Ran.{Ran}
use Rattle.live_core.specs.Hall.{Every, Told}
use Rattle.live_core.specs.Settles.{Settles, rests, runs, contents_of}
use Rattle.live_core.specs.Calls.{RepliesDatum}

-- the body at a place is well typed, and replies what its types say
pub typed_at : {Z : Type 0} (ops : List (Arc Operation Z)) (place : ℕ) →
    (types : Types) × StatementsTyped types (slice_index_or (map form_body (operations_of ops)) place no_body).statements
    × (types.result ≡ (slice_index_or (map form_body (operations_of ops)) place no_body).result)
typed_at [] place = (record { kinds = []; params = []; result = None }, tt, refl)
typed_at (x ∷ ops) zero =
    let o : Operation = arc_value x in
    (record { kinds = o.kinds.items; params = map (λ p. p.kind) o.params.items; result = o.result }, o.typed, refl)
typed_at (x ∷ ops) (suc place) = typed_at ops place

-- what the body at a place replies can be written
reply_written : (object : Object) (op : ℕ) (args : List Datum) (parts : List Contents) (reply : Reply) → IsReplyOn reply (body_at (object_of object) op) args parts →
    RepliesDatum reply → IsReply reply
reply_written object op args parts (Done None) is datum = tt
reply_written object op args parts (Done (Some d)) is datum = datum
reply_written object op args parts (Refused word) is datum =
    let typed = typed_at object.operations.items op in
    refused_told typed.0 word (body_at (object_of object) op) args parts typed.1 is
reply_written object op args parts (Failed failure) is datum = tt

-- so can what all replied that ran
pub replies_written : (object : Object) (t : Told) (waiting left : List Called) (all : List Ran) → Settles (object_of object) t waiting all left →
    Every (λ (r : Ran). RepliesDatum r.reply) all → Every (λ (r : Ran). IsReply r.reply) all
replies_written object t waiting left all (rests none) values = tt
replies_written object t waiting left all (runs front behind r more first reply fails settles) values = (
  reply_written object r.call.operation r.call.arguments (contents_of (object_of object) t) r.reply reply values.0,
  replies_written object _ _ left more settles values.1,
)
