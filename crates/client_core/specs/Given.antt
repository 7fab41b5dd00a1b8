-- What a turn of a table gives.
use Rattle.std.specs.Prelude.{◌≡◌, ℕ, true, false, []}
use Rattle.keep_loop.specs.Turns.{Asked}
use Rattle.keep_loop.specs.Turns.Asked.{Heard, Noted, Changes}
use Rattle.client_core.specs.State.{State}
use Rattle.client_core.specs.Deeds.{Texts, Nothing, Then}
use Rattle.client_core.specs.Moves.{BeginsHeld}
use Rattle.client_core.specs.Turns.{HearsAt, IfHere, Notes}
use Rattle.client_core.specs.Gone.{Settles}

-- What a turn gives: what is done for what is asked, for the held lines of those that it lets go on, and for those that are
-- gone. A journal that begins anew, by a text that stands for its object, tells nobody, and nothing is added for it.
abbrev pub Gives : State → Asked → Texts → Texts → State → Type 0
Gives old (Heard who line end) said added new = IfHere who (λ (place : ℕ). Then (HearsAt place line end) Settles) old said added new
Gives old (Noted note) said added new = Then (Notes note) Settles old said added new
Gives old (Changes journal front true) said added new = (said ≡ []) × (added ≡ []) × BeginsHeld old journal front new
Gives old (Changes journal front false) said added new = Nothing old said added new
