-- What is known of a session's reading side.
use Rattle.std.specs.Prelude.{ℕ, Bool, Option}
use Rattle.session_text.specs.declared.fault.HearFault.{HearFault}
use Rattle.session_text.specs.HearLines.{Unread}

-- The lines, whether an object is opened and where (its place, and the session there), whether `quit` was heard, and
-- what ended the hearing, once something did.
pub record Hearing : Type 0 where
  pub lines : Unread
  pub is_open : Bool
  pub opened : Option (ℕ × ℕ)
  pub quits : Bool
  pub end : Option (Option HearFault)
