-- Journals that begin anew.
use Rattle.std.specs.Prelude.{◌≡◌, ◌≢◌, ◌⊎◌, ℕ, true, false, Option, Some, None, List, [], ◌∷◌, ◌++◌, if◌then◌else◌, ◌==◌}
use Rattle.keep_loop.specs.Turns.{Asked, Turn, Gives, added_by}
use Rattle.keep_loop.specs.Turns.Asked.{Heard, Noted, Changes}
use Rattle.keep_loop.specs.Seen.{Happened, added_in}
use Rattle.keep_loop.specs.Seen.Happened.{Came, Ended, Broke, Wrote, Noticed, Added, Stored, Changed}

-- what an object gives, and which fronts stand for what the lines of a journal tell
pub record Rules (S : Type 0) : Type 1 where
  pub gives : Gives S
  pub fronts : S → ℕ → List ℕ → Type 0

abbrev pub rules_of : {S : Type 0} → Gives S → (S → ℕ → List ℕ → Type 0) → Rules S
rules_of gives fronts = record { gives = gives; fronts = fronts }

-- the front by which a journal last began anew, if it did
abbrev pub front_in : ℕ → List Happened → Option (List ℕ)
front_in j [] = None
front_in j (Came who bytes ∷ seen) = front_in j seen
front_in j (Ended who ∷ seen) = front_in j seen
front_in j (Broke who ∷ seen) = front_in j seen
front_in j (Wrote who bytes ∷ seen) = front_in j seen
front_in j (Noticed note ∷ seen) = front_in j seen
front_in j (Added journal lines ∷ seen) = front_in j seen
front_in j (Stored journal ∷ seen) = front_in j seen
front_in j (Changed journal front ∷ seen) = if journal == j then Some front else front_in j seen

-- the lines that it was handed before that
abbrev pub before_in : ℕ → List Happened → List ℕ
before_in j [] = []
before_in j (Came who bytes ∷ seen) = before_in j seen
before_in j (Ended who ∷ seen) = before_in j seen
before_in j (Broke who ∷ seen) = before_in j seen
before_in j (Wrote who bytes ∷ seen) = before_in j seen
before_in j (Noticed note ∷ seen) = before_in j seen
before_in j (Added journal lines ∷ seen) = before_in j seen
before_in j (Stored journal ∷ seen) = before_in j seen
before_in j (Changed journal front ∷ seen) = if journal == j then added_in j seen else before_in j seen

-- and those since
abbrev pub since_in : ℕ → List Happened → List ℕ
since_in j [] = []
since_in j (Came who bytes ∷ seen) = since_in j seen
since_in j (Ended who ∷ seen) = since_in j seen
since_in j (Broke who ∷ seen) = since_in j seen
since_in j (Wrote who bytes ∷ seen) = since_in j seen
since_in j (Noticed note ∷ seen) = since_in j seen
since_in j (Added journal lines ∷ seen) = since_in j seen ++ (if journal == j then lines else [])
since_in j (Stored journal ∷ seen) = since_in j seen
since_in j (Changed journal front ∷ seen) = if journal == j then [] else since_in j seen

-- those of them that are on the disk for certain
abbrev pub stored_since : ℕ → List Happened → List ℕ
stored_since j [] = []
stored_since j (Came who bytes ∷ seen) = stored_since j seen
stored_since j (Ended who ∷ seen) = stored_since j seen
stored_since j (Broke who ∷ seen) = stored_since j seen
stored_since j (Wrote who bytes ∷ seen) = stored_since j seen
stored_since j (Noticed note ∷ seen) = stored_since j seen
stored_since j (Added journal lines ∷ seen) = stored_since j seen
stored_since j (Stored journal ∷ seen) = if journal == j then since_in j seen else stored_since j seen
stored_since j (Changed journal front ∷ seen) = if journal == j then [] else stored_since j seen

-- a journal does not begin anew by what was asked
abbrev pub BeginsNot : ℕ → Asked → Type 0
BeginsNot j (Heard who line end) = Unit {0}
BeginsNot j (Noted note) = Unit {0}
BeginsNot j (Changes journal front true) = journal ≢ j
BeginsNot j (Changes journal front false) = Unit {0}

-- so in none of these turns
abbrev pub BeginsNone : ℕ → List Turn → Type 0
BeginsNone j [] = Unit {0}
BeginsNone j (t ∷ turns) = BeginsNot j t.asked × BeginsNone j turns

-- the turn in which a journal begins anew
abbrev pub change_to : ℕ → List ℕ → Turn
change_to j front = record { asked = Changes j front true; said = []; added = [] }

-- in these turns it last began anew by this front, and these lines had been added before
pub record LastBegan (j : ℕ) (front before : List ℕ) (turns : List Turn) : Type 0 where
  pub earlier : List Turn
  pub since : List Turn
  pub cut : turns ≡ earlier ++ change_to j front ∷ since
  pub none : BeginsNone j since
  pub lines : before ≡ added_by j earlier

abbrev pub Agrees : ℕ → Option (List ℕ) → List ℕ → List Turn → Type 0
Agrees j None before turns = BeginsNone j turns × (before ≡ [])
Agrees j (Some front) before turns = LastBegan j front before turns

-- it last began anew in the turn that was seen
abbrev pub AgreesIn : ℕ → List Happened → List Turn → Type 0
AgreesIn j seen turns = Agrees j (front_in j seen) (before_in j seen) turns

-- it has just begun anew, of which the object, as turns left it, has not been told: by a front that stands for it
pub record IsAhead {S : Type 0} (rules : Rules S) (last : S) (j : ℕ) (seen : List Happened) (turns : List Turn) : Type 0 where
  pub front : List ℕ
  pub before : List Happened
  pub just : seen ≡ Changed j front ∷ before
  pub agrees : AgreesIn j before turns
  pub stands : rules.fronts last j front

abbrev pub HasBegun : {S : Type 0} → Rules S → S → ℕ → List Happened → List Turn → Type 0
HasBegun rules last j seen turns = AgreesIn j seen turns ⊎ IsAhead rules last j seen turns
