use Rattle.std.proofs.Common.{refl}
use Rattle.word_core.specs.Words.{bare}
use Rattle.word_core.proofs.Reading.{behind_ok}
use Rattle.session_text.specs.Requests.{request_of, request_by}
use Rattle.session_text.specs.View.{request_view}
use Rattle.session_text.proofs.SessionReading.{read_of}
use Rattle.session_text.proofs.request.read_line.Goals as goal

pub returns-in-Some : goal.returns-in-Some
returns-in-Some c =
    read_of c.args.line.now c.request_by.result
    (behind_ok request_of (request_by c.in-Some.verb.now) request_view c.args.line.now (bare c.in-Some.verb.now) c.in-Some.rest.now c.request_by.result (λ words. refl) c.in-Some.ensures c.request_by.ensures)
