-- Histories: the ends of the calls of an object in their order, and what the sequential object gives at each.
use Rattle.std.specs.Prelude.{◌≡◌, List, [], ◌∷◌}
use Rattle.value_core.specs.declared.datum.Datum.{Datum}
use Rattle.value_core.specs.Contents.{Contents}
use Rattle.decl_core.specs.Form.{Body}
use Rattle.decl_core.specs.Meaning.{apply_body, done, refused}
use Rattle.apply_core.specs.declared.reply.Reply.{Reply}
use Rattle.apply_core.specs.declared.reply.Reply.TheVariants.{Done, Refused, Failed}

-- an end of a call: what its operation does, what it was given, and what it replied
pub record End : Type 0 where
  pub body : Body
  pub arguments : List Datum
  pub reply : Reply

-- the reply is what the body gives on these contents; a failure tells nothing of them
abbrev pub IsReplyOn : Reply → Body → List Datum → List Contents → Type 0
IsReplyOn (Done reply) body arguments parts = (apply_body body arguments parts).0 ≡ done reply
IsReplyOn (Refused word) body arguments parts = (apply_body body arguments parts).0 ≡ refused word
IsReplyOn (Failed failure) body arguments parts = Unit {0}

-- the contents after a call: those that its body leaves; a call that failed leaves all as it was
abbrev pub left_by : Reply → Body → List Datum → List Contents → List Contents
left_by (Done reply) body arguments parts = (apply_body body arguments parts).1
left_by (Refused word) body arguments parts = (apply_body body arguments parts).1
left_by (Failed failure) body arguments parts = parts

-- the contents after a history that begins with these
abbrev pub leads_to : List End → List Contents → List Contents
leads_to [] parts = parts
leads_to (end ∷ later) parts = leads_to later (left_by end.reply end.body end.arguments parts)

-- A history is legal from these contents: at its place, each reply is that of the sequential object.
abbrev pub IsLegal : List End → List Contents → Type 0
IsLegal [] parts = Unit {0}
IsLegal (end ∷ later) parts =
    IsReplyOn end.reply end.body end.arguments parts × IsLegal later (left_by end.reply end.body end.arguments parts)
