use Rattle.std.proofs.Common.{refl}
use Rattle.word_core.specs.Words.{bare}
use Rattle.word_core.proofs.Reading.{behind_ok}
use Rattle.session_text.specs.Requests.{open_behind, as_behind}
use Rattle.session_text.specs.View.{request_view}
use Rattle.session_text.proofs.request.open_behind.Goals as goal

pub returns-in-Some : goal.returns-in-Some
returns-in-Some c = behind_ok (open_behind c.args.name) (as_behind c.args.name c.in-Some.word.now) request_view c.args.line.now (bare c.in-Some.word.now) c.in-Some.rest.now c.open_as.result (λ words. refl) c.in-Some.ensures c.open_as.ensures
