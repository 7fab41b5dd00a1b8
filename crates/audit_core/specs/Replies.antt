-- Replies that were tried on the sequential object.
use Rattle.std.specs.Prelude.{◌≡◌, ◌<◌, Bool, true, false, List, length, map}
use Rattle.value_core.specs.declared.datum.Datum.{Datum}
use Rattle.value_core.specs.Contents.{Contents, kind_of}
use Rattle.value_core.specs.Datum.{elem_of}
use Rattle.decl_core.specs.declared.object.Operation.{Operation}
use Rattle.decl_core.specs.Bodies.{body_of}
use Rattle.decl_core.specs.Meaning.{apply_body}
use Rattle.decl_core.specs.ObjectForm.{ObjectForm}
use Rattle.apply_core.specs.Fits.{ArgumentsFit, HoldsReads}
use Rattle.apply_core.specs.Replies.{ReplyTells}
use Rattle.apply_core.specs.declared.reply.Reply.{Reply}
use Rattle.apply_core.specs.declared.reply.Reply.TheVariants.{Done, Refused, Failed}
use Rattle.apply_core.specs.History.{IsReplyOn, left_by}
use Rattle.word_core.specs.Events.{body_at}
use Rattle.audit_core.specs.declared.calls.ActiveCall.{ActiveCall}

-- a reply that is no failure
abbrev pub IsAnswer : Reply → Type 0
IsAnswer (Done reply) = Unit {0}
IsAnswer (Refused word) = Unit {0}
IsAnswer (Failed failure) = ⊥

-- the reply of a call that failed
abbrev pub IsFailure : Reply → Type 0
IsFailure (Done reply) = ⊥
IsFailure (Refused word) = ⊥
IsFailure (Failed failure) = Unit {0}

-- the body was done on all parts, in place
pub record Did (operation : Operation) (arguments : List Datum) (before after : List Contents)
    (reply : Reply) : Type 0 where
  pub tells : ReplyTells reply (apply_body (body_of operation) arguments before).0
  pub leaves : after ≡ (apply_body (body_of operation) arguments before).1
  pub kinds : map kind_of after ≡ map kind_of before

-- whether the body was done and this was replied: else another one was, or the arguments or the parts do not fit it
abbrev pub IsDoneSo : Operation → List Datum → Reply → List Contents → List Contents → Bool → Type 0
IsDoneSo operation arguments reply before after true = Did operation arguments before after reply
IsDoneSo operation arguments reply before after false = ArgumentsFit operation arguments → HoldsReads operation before
    → (given : Reply) × Did operation arguments before after given × (reply ≡ given → ⊥)

-- a call that the object can do on these contents
pub record CanDo (o : ObjectForm) (r : ActiveCall) (parts : List Contents) : Type 0 where
  pub there : r.operation < length o.operations
  pub fit : map elem_of r.arguments.items ≡ (body_at o r.operation).params
  pub kinds : map kind_of parts ≡ map (λ p. p.1) o.parts

-- what was found of a reply, and the contents after it
abbrev pub Tries : ObjectForm → ActiveCall → Reply → List Contents → List Contents → Bool → Type 0
Tries o r reply before after true = CanDo o r before → IsReplyOn reply (body_at o r.operation) r.arguments.items before
    × (after ≡ left_by reply (body_at o r.operation) r.arguments.items before)
    × (map kind_of after ≡ map kind_of before)
Tries o r reply before after false =
    CanDo o r before → IsReplyOn reply (body_at o r.operation) r.arguments.items before → ⊥
