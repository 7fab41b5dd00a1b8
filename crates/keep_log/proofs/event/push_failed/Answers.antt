use Rattle.std.specs.Prelude.{codes, [], ◌∷◌}
use Rattle.keep_log.specs.declared.line.Level.TheVariants.{Error}
use Rattle.keep_log.specs.Lines.{field_text, fields_text, head, line_end}
use Rattle.keep_log.specs.Lines.Field.{word}
use Rattle.keep_log.specs.Events.{cause_field, work_word}
use Rattle.keep_log.proofs.Adding.{three_parts}
use Rattle.keep_log.proofs.event.push_failed.Goals as goal

pub returns : goal.returns
returns c = three_parts c.args.out.now.items c.push_head.new.out.items c.push_word.new.out.items c.push_work.new.out.items
    (head c.args.form c.args.moment Error (codes "journal-failed")) (field_text c.args.form (word (codes "object") c.args.object.now))
    (fields_text c.args.form (word (codes "work") (work_word c.args.work) ∷ cause_field c.args.cause ∷ [])) (line_end c.args.form)
    c.in_ok-push_head.ensures c.in_ok-push_word.ensures c.in_ok-push_work.ensures
