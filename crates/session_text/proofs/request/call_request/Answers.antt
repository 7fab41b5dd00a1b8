use Rattle.std.proofs.Common.{refl}
use Rattle.word_core.specs.Words.{bare}
use Rattle.word_core.proofs.Reading.{behind_ok}
use Rattle.session_text.specs.Requests.{call_request, call_by}
use Rattle.session_text.specs.View.{request_view}
use Rattle.session_text.proofs.request.call_request.Goals as goal

pub returns-in-Some : goal.returns-in-Some
returns-in-Some c = behind_ok call_request (call_by c.in-Some.word.now) request_view c.args.line.now (bare c.in-Some.word.now) c.in-Some.rest.now c.call_by.result (λ words. refl) c.in-Some.ensures c.call_by.ensures
