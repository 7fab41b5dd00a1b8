-- What a reply tells of a body.
use Rattle.std.specs.Prelude.{◌≡◌}
use Rattle.decl_core.specs.Meaning.{done, refused}
use Rattle.decl_core.specs.Meaning.{Reply as Meant}
use Rattle.apply_core.specs.declared.reply.Reply.{Reply}
use Rattle.apply_core.specs.declared.reply.Reply.TheVariants.{Done, Refused, Failed}

-- a reply tells what the body gives; a failure tells nothing of the kind
abbrev pub ReplyTells : Reply → Meant → Type 0
ReplyTells (Done reply) meant = meant ≡ done reply
ReplyTells (Refused word) meant = meant ≡ refused word
ReplyTells (Failed failure) meant = ⊥
