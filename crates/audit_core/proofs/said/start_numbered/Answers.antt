use Rattle.std.proofs.Common.{sym, ap, ◌∙◌}
use Rattle.word_core.specs.Words.{bare}
use Rattle.word_core.specs.Data.{◌>>=◌}
use Rattle.audit_core.specs.Said.{start_behind, start_by}
use Rattle.audit_core.specs.View.{said_view}
use Rattle.word_core.proofs.Reading.{behind_ok}
use Rattle.audit_core.proofs.said.start_numbered.Goals as goal

pub returns-in-Some-next_bare : goal.returns-in-Some-next_bare
returns-in-Some-next_bare c =
    let session = c.in-Some-next_bare.session.now in
    behind_ok (start_behind c.args.number.now) (start_by c.in-Some.number session) said_view c.args.line.now (bare session) c.in-Some-next_bare.rest.now c.start_by.result
    (λ words. ap (λ o. o >>= λ number. start_by number session words) (sym c.integer_of.ensures ∙ c.in-Some.is)) c.in-Some-next_bare.ensures c.start_by.ensures
