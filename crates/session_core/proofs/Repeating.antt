-- What is told of a call that was made before.
use Rattle.std.proofs.Common.{◌≡◌, ℕ, subst}
use Rattle.std.specs.Prelude.{Some, Ok}
use Rattle.apply_core.specs.declared.reply.Reply.{Reply}
use Rattle.board_core.specs.Board.{Board}
use Rattle.board_core.specs.Sound.{IsSound}
use Rattle.board_core.specs.declared.answer.CallState.{CallState}
use Rattle.board_core.specs.declared.answer.CallState.TheVariants.{Ended}
use Rattle.board_core.specs.declared.answer.EarlierCall.{EarlierCall}
use Rattle.board_core.specs.Answers.{Asked}
use Rattle.board_core.specs.Keyed.{IsStateOf, Finds}
use Rattle.session_core.specs.Repeats.{WasNoted}

-- the reply of a call that has ended is that of its entry
pub noted_by : (n : ℕ) (state : CallState) (reply : Reply) → state ≡ Ended reply → (b : Board) × IsSound b × IsStateOf b n state → WasNoted n reply
noted_by n state reply ended is = (is.0, is.1, (subst (IsStateOf is.0 n) ended is.2).2)

-- what is found under a key is what became of a call
pub found_state : (b : Board) (a : Asked) (key : ℕ) (kept : EarlierCall) → Finds b a key (Ok (Some kept)) → IsStateOf b kept.number kept.state
found_state b a key kept is = is.1.state
