use Rattle.std.proofs.Common.{take, sym, ◌∙◌}
use Rattle.taken_core.proofs.Places.{place_told, told_not_bare, bare_not_told, none_not_told}
use Rattle.taken_core.proofs.taken.line_in_file.Goals as goal

pub returns-then-begins_with-clause-bare : goal.returns-then-begins_with-clause-bare
returns-then-begins_with-clause-bare c bare =
    absurd (told_not_bare c.args.file.now (take c.recovered_len.result c.args.file.now) c.in-Some.rest.now c.recovered_len.ensures.lines c.in-Some.ensures.0 (sym c.begins_with.ensures ∙ c.if-begins_with.true) bare)

pub returns-then-begins_with-clause-told : goal.returns-then-begins_with-clause-told
returns-then-begins_with-clause-told c rest names begins =
    place_told c.args.file.now (take c.recovered_len.result c.args.file.now) c.args.line c.line_among.result c.recovered_len.ensures.lines c.line_among.ensures

pub returns-else-begins_with-clause-told : goal.returns-else-begins_with-clause-told
returns-else-begins_with-clause-told c rest names begins =
    absurd (bare_not_told c.args.file.now (take c.recovered_len.result c.args.file.now) c.in-Some.rest.now rest c.recovered_len.ensures.lines c.in-Some.ensures.0 (sym c.begins_with.ensures ∙ c.if-begins_with.false) names begins)

pub returns-in-None-clause-told : goal.returns-in-None-clause-told
returns-in-None-clause-told c rest names begins = absurd (none_not_told c.args.file.now (take c.recovered_len.result c.args.file.now) rest c.recovered_len.ensures.lines c.in-None.ensures names)
