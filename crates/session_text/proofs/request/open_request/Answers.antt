use Rattle.std.proofs.Common.{refl}
use Rattle.word_core.specs.Words.{bare}
use Rattle.word_core.proofs.Reading.{behind_ok}
use Rattle.session_text.specs.Requests.{open_request, open_named}
use Rattle.session_text.specs.View.{request_view}
use Rattle.session_text.proofs.request.open_request.Goals as goal

pub returns-in-Some : goal.returns-in-Some
returns-in-Some c = behind_ok open_request (open_named c.in-Some.word.now) request_view c.args.line.now (bare c.in-Some.word.now) c.in-Some.rest.now c.open_named.result (λ words. refl) c.in-Some.ensures c.open_named.ensures
