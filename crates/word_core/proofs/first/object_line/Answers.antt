use Rattle.std.proofs.Common.{sym, ◌∙◌}
use Rattle.std.proofs.lemmas.Bool.Decides.{not_from_Decides}
use Rattle.word_core.proofs.Firsts.{no_verb, other_verb, no_name, wrong_name}
use Rattle.word_core.proofs.first.object_line.Goals as goal

pub returns-in_err-verb : goal.returns-in_err-verb
returns-in_err-verb c = rw c.from_residual.ensures (no_verb c.args.line.now c.in_err-verb.ensures)

pub returns-then-not-is_same_word : goal.returns-then-not-is_same_word
returns-then-not-is_same_word c =
    other_verb c.args.line.now c.in_ok-verb.verb.now c.in_ok-verb.rest.now c.in_ok-verb.ensures (sym c.is_same_word.ensures ∙ c.if-not-is_same_word.true)

pub returns-in_err-name : goal.returns-in_err-name
returns-in_err-name c = rw c.from_residual-in_err-name.ensures (no_name c.args.line.now c.in_ok-verb.verb.now c.in_ok-verb.rest.now c.in_ok-verb.ensures c.in_err-name.ensures)

pub returns-then-not-is_identifier : goal.returns-then-not-is_identifier
returns-then-not-is_identifier c =
    wrong_name c.args.line.now c.in_ok-verb.verb.now c.in_ok-verb.rest.now c.in_ok-name.name.now c.in_ok-verb.ensures c.in_ok-name.ensures (not_from_Decides c.is_identifier.result c.is_identifier.ensures c.if-not-is_identifier.true)
