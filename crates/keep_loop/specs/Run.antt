-- Whole runs of a journal.
use Rattle.std.specs.Prelude.{ℕ, List, [], ◌∷◌, ◌++◌, Option}
use Rattle.keep_loop.specs.Journal.{Begins}
use Rattle.keep_loop.specs.Taken.{ArePlain}
use Rattle.keep_loop.specs.Order.{Holds}
use Rattle.keep_loop.specs.declared.journal.Journal.{Journal}
use Rattle.keep_loop.specs.declared.uncalled.JournalStep.{JournalStep}
use Rattle.keep_loop.specs.declared.uncalled.JournalStep.TheVariants.{Lines, Sync}

-- what a step adds
abbrev pub added_by : JournalStep → List ℕ
added_by (Lines lines) = lines.items
added_by Sync = []

-- what these steps add
abbrev pub added : List JournalStep → List ℕ
added [] = []
added (step ∷ steps) = added_by step ++ added steps

-- each step adds lines
abbrev pub AreSteps : List JournalStep → Type 0
AreSteps [] = Unit {0}
AreSteps (step ∷ steps) = ArePlain (added_by step) × AreSteps steps

-- the journal holds these lines, and at least these first ones are stored
pub record HoldsAtLeast {D : Type 0} (seen : D → Option (List ℕ)) (journal : Journal D)
    (stored lines : List ℕ) : Type 0 where
  pub now_stored : List ℕ
  pub front : Begins stored now_stored
  pub holds : Holds seen journal now_stored lines
