-- What is done in a turn, one thing after the other.
use Rattle.std.specs.Prelude.{◌≡◌, ℕ, List, [], ◌++◌}
use Rattle.client_core.specs.State.{State, told_to}

-- texts, each with the number of the connection, or of the journal, that it is for
abbrev pub Texts : Type 0
Texts = List (ℕ × List ℕ)

-- from a state these texts are told, these lines are added, and it leaves a state
abbrev pub Deed : Type 1
Deed = State → Texts → Texts → State → Type 0

-- nothing is done
pub record Nothing (old : State) (said added : Texts) (new : State) : Type 0 where
  pub told : said ≡ []
  pub lines : added ≡ []
  pub left : new ≡ old

-- the one at a place is told this, and nothing else is done
pub record OnlyTold (place : ℕ) (text : List ℕ) (old : State) (said added : Texts) (new : State) : Type 0 where
  pub told : said ≡ told_to old.peers place text
  pub lines : added ≡ []
  pub left : new ≡ old

-- one thing is done, and then another
pub record Then (first second : Deed) (old : State) (said added : Texts) (new : State) : Type 0 where
  pub mid : State
  pub said_first : Texts
  pub said_then : Texts
  pub added_first : Texts
  pub added_then : Texts
  pub one : first old said_first added_first mid
  pub two : second mid said_then added_then new
  pub told : said ≡ said_first ++ said_then
  pub lines : added ≡ added_first ++ added_then
