use Rattle.std.proofs.Common.{refl, Some}
use Rattle.word_core.specs.Words.{bare}
use Rattle.word_core.proofs.Reading.{behind_ok}
use Rattle.session_text.specs.Requests.{keyed_behind, call_behind}
use Rattle.session_text.specs.View.{request_view}
use Rattle.session_text.proofs.request.call_keyed.Goals as goal

pub returns-in-Some : goal.returns-in-Some
returns-in-Some c = behind_ok (keyed_behind c.args.key) (call_behind (Some c.args.key) c.in-Some.word.now) request_view c.args.line.now (bare c.in-Some.word.now) c.in-Some.rest.now c.call_named.result (λ words. refl) c.in-Some.ensures c.call_named.ensures
