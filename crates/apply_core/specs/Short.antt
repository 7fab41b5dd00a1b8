-- What stands for replies.
use Rattle.std.specs.Prelude.{Some, None}
use Rattle.value_core.specs.declared.datum.Datum.TheVariants.{Integer, Text}
use Rattle.apply_core.specs.declared.reply.Reply.{Reply}
use Rattle.apply_core.specs.declared.reply.Reply.TheVariants as replies
use Rattle.apply_core.specs.declared.short.Form.{Form}
use Rattle.apply_core.specs.declared.short.Form.TheVariants as forms

abbrev pub reply_of : Form → Reply
reply_of forms.Nothing = replies.Done None
reply_of (forms.Integer number) = replies.Done (Some (Integer number))
reply_of (forms.Text row) = replies.Done (Some (Text row))
reply_of (forms.Refused row) = replies.Refused row
reply_of (forms.Failed failure) = replies.Failed failure

-- the call was done
abbrev pub IsDone : Reply → Type 0
IsDone (replies.Done result) = Unit {0}
IsDone (replies.Refused word) = ⊥
IsDone (replies.Failed failure) = ⊥
