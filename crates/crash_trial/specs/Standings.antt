-- What stands in a journal behind calls.
use Rattle.std.specs.Prelude.{◌≡◌, ◌≤◌, ℕ, ◌+◌, ◌-◌, ◌^◌, ◌==◌, min, IsTrue, List, [], ◌∷◌, ◌++◌, length}
use Rattle.std.specs.List.{starts_with}
use Rattle.keep_loop.specs.Journal.{whole}
use Rattle.keep_loop.specs.Taken.{cut, plain, taken}
use Rattle.crash_trial.specs.declared.device.Happened.{Happened}
use Rattle.crash_trial.specs.declared.device.Happened.TheVariants.{Wrote, Stored, Replaced, Refused}
use Rattle.crash_trial.specs.declared.judge.Standing.{Standing}
use Rattle.crash_trial.specs.declared.judge.CrashOutcome.{CrashOutcome}
use Rattle.crash_trial.specs.declared.judge.CrashOutcome.TheVariants.{Right, Wrong}
use Rattle.crash_trial.specs.Kept.{Leaves}

-- the lines behind these calls, the oldest first, where these stood before
abbrev pub lines_behind : List ℕ → List Happened → List ℕ
lines_behind text [] = text
lines_behind text (Wrote at bytes ∷ happened) = lines_behind (text ++ plain (cut (whole bytes.items))) happened
lines_behind text (Stored ∷ happened) = lines_behind text happened
lines_behind text (Replaced bytes ∷ happened) = lines_behind (taken bytes.items) happened
lines_behind text (Refused ∷ happened) = lines_behind text happened

-- so many bytes of them are on the disk for certain, where so many of these were before
abbrev pub stored_behind : ℕ → List ℕ → List Happened → ℕ
stored_behind stored text [] = stored
stored_behind stored text (Wrote at bytes ∷ happened) = stored_behind stored (text ++ plain (cut (whole bytes.items))) happened
stored_behind stored text (Stored ∷ happened) = stored_behind (length text) text happened
stored_behind stored text (Replaced bytes ∷ happened) = stored_behind (length (taken bytes.items)) (taken bytes.items) happened
stored_behind stored text (Refused ∷ happened) = stored_behind stored text happened

-- so many times the file was begun anew
abbrev pub begun_behind : ℕ → List Happened → ℕ
begun_behind begun [] = begun
begun_behind begun (Wrote at bytes ∷ happened) = begun_behind begun happened
begun_behind begun (Stored ∷ happened) = begun_behind begun happened
begun_behind begun (Replaced bytes ∷ happened) = begun_behind (min (begun + 1) (2 ^ 64 - 1)) happened
begun_behind begun (Refused ∷ happened) = begun_behind begun happened

-- these calls come behind what stands there
pub record Follows (happened : List Happened) (old new : Standing) : Type 0 where
  pub text : new.text.items ≡ lines_behind old.text.items happened
  pub stored : new.stored ≡ stored_behind old.stored old.text.items happened
  pub epochs : new.epochs ≡ begun_behind old.epochs happened

-- this stands behind these calls of a new file
pub record StandsBehind (happened : List Happened) (standing : Standing) : Type 0 where
  pub text : standing.text.items ≡ lines_behind [] happened
  pub stored : standing.stored ≡ stored_behind 0 [] happened
  pub epochs : standing.epochs ≡ begun_behind 0 happened

-- these lines were recovered: what stands there begins with them, and they have all that is stored for certain
abbrev pub IsFrontOf : Standing → List ℕ → CrashOutcome → Type 0
IsFrontOf standing lines (Right found) = IsTrue (starts_with ◌==◌ standing.text.items lines) × (standing.stored ≤ found.length)
IsFrontOf standing lines (Wrong why) = Unit {0}

-- such lines are recovered of what a file tells
abbrev pub IsFileOf : Standing → List ℕ → CrashOutcome → Type 0
IsFileOf standing file (Right found) = IsFrontOf standing (taken file) (Right found)
IsFileOf standing file (Wrong why) = Unit {0}

-- What came of a crash is right: what a crash may leave of the file behind these calls tells such lines.
abbrev pub IsJudged : List ℕ → List Happened → CrashOutcome → Type 0
IsJudged file happened (Right found) =
    (left : List ℕ) × (standing : Standing) × Leaves file file happened left × StandsBehind happened standing
    × IsFileOf standing left (Right found)
IsJudged file happened (Wrong why) = Unit {0}
