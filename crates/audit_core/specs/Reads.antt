-- What is read of the words of a reply.
use Rattle.std.specs.Prelude.{List, [], ◌∷◌, Option, Some, None}
use Rattle.word_core.specs.Words.{Word, bare, quoted}
use Rattle.word_core.specs.Data.{◌>>=◌}
use Rattle.word_core.specs.Ending.{done_of}
use Rattle.apply_core.specs.declared.reply.Reply.{Reply}
use Rattle.apply_core.specs.declared.reply.Reply.TheVariants.{Done}
use Rattle.value_core.specs.declared.datum.Datum.TheVariants.{Text}
use Rattle.audit_core.specs.Said.{reply_by}

-- the reply of a call that was done, from what stands behind `done`
abbrev pub done_reply : List Word → Option Reply
done_reply words = done_of words >>= reply_by

-- the reply that the one word is, where it is a text
abbrev pub text_reply : List Word → Option Reply
text_reply [] = None
text_reply (bare bytes ∷ more) = None
text_reply (quoted text ∷ []) = Some (Done (Some (Text text)))
text_reply (quoted text ∷ other ∷ more) = None
