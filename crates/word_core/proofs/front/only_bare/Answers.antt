use Rattle.std.proofs.Common.{sym, ◌∙◌}
use Rattle.std.proofs.lemmas.Bool.{false≢true}
use Rattle.word_core.proofs.Reading.{not_only, is_only}
use Rattle.word_core.proofs.front.only_bare.Goals as goal

pub returns-then-not-is_blank : goal.returns-then-not-is_blank
returns-then-not-is_blank c = not_only c.args.line.now c.in-Some.word.now c.in-Some.rest.now c.in-Some.ensures (λ none. false≢true (sym c.if-not-is_blank.true ∙ c.is_blank.ensures.1 none))

pub returns-else-not-is_blank : goal.returns-else-not-is_blank
returns-else-not-is_blank c = is_only c.args.line.now c.in-Some.rest.now c.in-Some.word c.in-Some.ensures (c.is_blank.ensures.0 c.if-not-is_blank.false)
