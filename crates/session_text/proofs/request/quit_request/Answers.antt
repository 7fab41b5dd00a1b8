use Rattle.std.proofs.Common.{sym, ◌∙◌}
use Rattle.std.proofs.lemmas.Bool.{false≢true}
use Rattle.session_text.proofs.SessionReading.{quit_read, no_quit}
use Rattle.session_text.proofs.request.quit_request.Goals as goal

pub returns-then-is_blank : goal.returns-then-is_blank
returns-then-is_blank c = quit_read c.args.line.now (c.is_blank.ensures.0 c.if-is_blank.true)

pub returns : goal.returns
returns c = no_quit c.args.line.now (λ none. false≢true (sym c.if-is_blank.false ∙ c.is_blank.ensures.1 none))
