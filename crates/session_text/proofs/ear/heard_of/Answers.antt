use Rattle.std.proofs.Common.{◌∙◌, ap, Some}
use Rattle.session_text.proofs.Ears.{heard_line, heard_rest}
use Rattle.session_text.proofs.ear.heard_of.Goals as goal

pub returns-in-Some-Line : goal.returns-in-Some-Line
returns-in-Some-Line c =
    heard_line c.args.session.now.is_open c.in-Some-Line.line c.as_bytes.result.now c.args.next c.feed.result c.done.result (c.in-Some-Line.is ∙ ap Some c.in-Some-Line.field-0-is) c.as_bytes.ensures.value
    c.feed.ensures c.done.ensures.done c.done.ensures.refused

pub returns-in-Some-Rest : goal.returns-in-Some-Rest
returns-in-Some-Rest c =
    heard_rest c.args.session.now.is_open c.in-Some-Rest.line c.as_bytes-in-Some-Rest.result.now c.args.next c.feed_last.result c.done-in-Some-Rest.result (c.in-Some-Rest.is ∙ ap Some c.in-Some-Rest.field-0-is)
    c.as_bytes-in-Some-Rest.ensures.value c.feed_last.ensures c.done-in-Some-Rest.ensures.done c.done-in-Some-Rest.ensures.refused
