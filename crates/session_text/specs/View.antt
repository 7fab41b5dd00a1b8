-- What was read from a line, as what it asks for.
use Rattle.std.specs.Prelude.{ℕ, List, Option, MatchOption}
use Rattle.word_core.specs.Says.{Says}
use Rattle.session_text.specs.declared.request.SessionRequest.{SessionRequest}
use Rattle.session_text.specs.declared.request.SessionRequest.TheVariants as request
use Rattle.session_text.specs.Requests as lines

abbrev pub request_view : SessionRequest → lines.Request
request_view (request.Open name client) = lines.opens name client
request_view (request.Call key name arguments) = lines.calls key name arguments.items
request_view (request.Cancel number) = lines.cancels number
request_view request.Quit = lines.quits

-- a line asks for this
abbrev pub IsRequest : List ℕ → lines.Request → Type 0
IsRequest line q = Says lines.request_of line q

-- what a line asks for, or none where it asks for nothing
abbrev pub IsReadOf : List ℕ → Option SessionRequest → Type 0
IsReadOf line found =
    MatchOption found ((q : lines.Request) → IsRequest line q → ⊥) (λ r. IsRequest line (request_view r))
