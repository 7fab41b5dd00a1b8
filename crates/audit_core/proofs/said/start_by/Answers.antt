use Rattle.std.proofs.Common.{sym, ap, ◌∙◌}
use Rattle.word_core.specs.Words.{bare}
use Rattle.word_core.specs.Data.{◌>>=◌}
use Rattle.audit_core.specs.Said.{start_by, start_of}
use Rattle.audit_core.specs.View.{said_view}
use Rattle.word_core.proofs.Reading.{behind_ok}
use Rattle.audit_core.proofs.said.start_by.Goals as goal

pub returns-in-Some-next_bare : goal.returns-in-Some-next_bare
returns-in-Some-next_bare c =
    let name = c.in-Some-next_bare.name.now in
    behind_ok (start_by c.args.number c.args.session.now) (start_of c.args.number c.in-Some.session name) said_view c.args.line.now (bare name) c.in-Some-next_bare.rest.now c.start_of.result
    (λ words. ap (λ o. o >>= λ session. start_of c.args.number session name words) (sym c.session_of.ensures ∙ c.in-Some.is)) c.in-Some-next_bare.ensures c.start_of.ensures
