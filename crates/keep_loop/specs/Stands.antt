-- What a server owes, and what a loop keeps.
use Rattle.std.specs.Prelude.{◌≡◌, ◌<◌, ◌≤◌, ◌%◌, ℕ, true, false, List, [], ◌++◌, Option, IfSome, length}
use Rattle.keep_loop.specs.Cuts.{IsCut, IsFed}
use Rattle.keep_loop.specs.Epochs.{Rules, before_in, AgreesIn, HasBegun}
use Rattle.keep_loop.specs.Posts.{is_here, hears, owed_to}
use Rattle.keep_loop.specs.Seen.{Happened, came_from, ended_in, written_to, notes_in, added_in, stored_in, kept_in, comings, Always}
use Rattle.keep_loop.specs.Texts.{Begins, text_at}
use Rattle.keep_loop.specs.Turns.{Turn, Gives, Runs, said_to, heard_of, added_by, notes_by, has_joined}
use Rattle.keep_loop.specs.declared.keep.Keep.{Keep}
use Rattle.keep_loop.specs.declared.keep.LoopLimits.{LoopLimits}
use Rattle.keep_loop.specs.declared.post.Post.{Post}
use Rattle.keep_loop.specs.declared.post.OwedText.{OwedText}
use Rattle.keep_loop.specs.declared.served.Note.{Note}

-- There is one sequential history, such that what each connection said begins with its lines in it, and what each was
-- written is a front of what the history tells it, no further than the lines of all turns up to there are kept. Numbers of
-- connections never come twice. Each journal last began anew in a turn of the history, or has just done so
pub record IsHonest {S : Type 0} (rules : Rules S) (first : S) (limits : LoopLimits) (seen : List Happened) : Type 0 where
  pub kept_turns : List Turn
  pub later : List Turn
  pub last : S
  pub runs : Runs rules.gives first (kept_turns ++ later) last
  pub heard : (c : ℕ) → IsCut (ended_in c seen) (came_from c seen) (heard_of c (kept_turns ++ later))
  pub noted : (rest : List Note) × (notes_in seen ≡ notes_by (kept_turns ++ later) ++ rest)
  pub once : (c : ℕ) → comings c (notes_in seen) ≤ 1
  pub kept : (j : ℕ) → j < limits.journals → Begins (added_by j kept_turns) (kept_in limits.waits j seen)
  pub added : (j : ℕ) → j < limits.journals → Begins (added_in j seen) (added_by j (kept_turns ++ later))
  pub written : (c : ℕ) → Begins (written_to c seen) (said_to c kept_turns)
  pub begun : (j : ℕ) → j < limits.journals → HasBegun rules last j seen (kept_turns ++ later)

-- what is found of a journal after a crash: all that was stored, and of what it was handed since a front
pub record IsBetween (stored text found : List ℕ) : Type 0 where
  pub all_stored : Begins stored found
  pub nothing_else : Begins found text

-- of one history, whose lines are those that are found in each journal, cut off somewhere: each connection was written a front
-- of what a beginning of the history told it, and the lines of that beginning are all there
pub record Survives {S : Type 0} (gives : Gives S) (first : S) (limits : LoopLimits) (seen : List Happened) (found : ℕ → List ℕ) : Type 0 where
  pub answered : List Turn
  pub later : List Turn
  pub last : S
  pub runs : Runs gives first (answered ++ later) last
  pub heard : (c : ℕ) → IsCut (ended_in c seen) (came_from c seen) (heard_of c (answered ++ later))
  pub written : (c : ℕ) → Begins (written_to c seen) (said_to c answered)
  pub all : (j : ℕ) → j < limits.journals → Begins (added_by j answered) (found j)
  pub only : (j : ℕ) → j < limits.journals → Begins (found j) (added_by j (answered ++ later))

-- The same, where of each journal the front is found by which it last began anew, and these lines behind it; and in this
-- history it last began anew by that front
pub record SurvivesSince {S : Type 0} (rules : Rules S) (first : S) (limits : LoopLimits) (seen : List Happened) (found : ℕ → List ℕ) : Type 0 where
  pub survives : Survives rules.gives first limits seen (λ j. before_in j seen ++ found j)
  pub begun : (j : ℕ) → j < limits.journals → HasBegun rules survives.last j seen (survives.answered ++ survives.later)

-- The server has ended, and this is what it leaves of what it served: one history leads there, which has each note. What each
-- connection said begins with its lines in it, and what each was written is a front of what it tells it. Each journal was
-- handed the lines of the history and no others, and all of them are stored
pub record HasEnded {S : Type 0} (gives : Gives S) (first : S) (limits : LoopLimits) (seen : List Happened) (last : S) : Type 0 where
  pub turns : List Turn
  pub runs : Runs gives first turns last
  pub heard : (c : ℕ) → IsCut (ended_in c seen) (came_from c seen) (heard_of c turns)
  pub noted : notes_in seen ≡ notes_by turns
  pub written : (c : ℕ) → Begins (written_to c seen) (said_to c turns)
  pub added : (j : ℕ) → j < limits.journals → added_in j seen ≡ added_by j turns
  pub stored : (j : ℕ) → j < limits.journals → stored_in j seen ≡ added_by j turns

-- what is owed is what was said and not written, and what was added and not handed on
pub record Owes (limits : LoopLimits) (written kept added : ℕ → List ℕ) (post : Post) (base : ℕ) (kept_turns later : List Turn) : Type 0 where
  pub journals : length post.lines.items ≡ limits.journals
  pub begun_kept : (j : ℕ) → j < limits.journals → Begins (added_by j kept_turns) (kept j)
  pub even : (j : ℕ) → j < limits.journals → kept j ≡ added j
  pub lines : (j : ℕ) → j < limits.journals → added j ++ text_at post.lines.items j ≡ added_by j (kept_turns ++ later)
  pub here : (c : ℕ) → is_here post.places.items c ≡ true → has_joined c (kept_turns ++ later) ≡ true
  pub begun : (c : ℕ) → Begins (written c) (said_to c kept_turns)
  pub owed : (c : ℕ) → is_here post.places.items c ≡ true → written c ++ owed_to post.places.items c ≡ said_to c (kept_turns ++ later)
  -- nothing is known of a number that was not given yet
  pub fresh : (c : ℕ) → base ≤ c → has_joined c (kept_turns ++ later) ≡ false
  pub unwritten : (c : ℕ) → base ≤ c → written c ≡ []

-- the beginning of a line that has come of a connection
abbrev pub held_of : List OwedText → ℕ → List ℕ
held_of held c = text_at held (c % length held)

-- what has come are the lines that are heard, and what is held
pub record Heeds (came : ℕ → List ℕ) (ended : ℕ → ℕ) (notes : List Note) (post : Post) (held : List OwedText) (base : ℕ) (all : List Turn) : Type 0 where
  pub places : length held ≡ length post.places.items
  pub heard : (c : ℕ) → IsCut (ended c) (came c) (heard_of c all)
  pub fed : (c : ℕ) → hears post.places.items c ≡ true → IsFed (came c) (heard_of c all) (held_of held c)
  pub unended : (c : ℕ) → hears post.places.items c ≡ true → ended c ≡ 0
  pub noted : notes ≡ notes_by all
  pub once : (c : ℕ) → comings c notes ≤ 1
  pub below : (c : ℕ) → is_here post.places.items c ≡ true → c < base
  pub fresh : (c : ℕ) → base ≤ c → comings c notes ≡ 0
  pub unheard : (c : ℕ) → base ≤ c → (came c ≡ []) × (heard_of c all ≡ []) × (ended c ≡ 0)

-- the loop's state says what was seen
pub record Stands {S : Type 0} (gives : Gives S) (first : S) (limits : LoopLimits) (seen : List Happened) (keep : Keep S) : Type 0 where
  pub kept_turns : List Turn
  pub later : List Turn
  pub limited : keep.limits ≡ limits
  pub runs : Runs gives first (kept_turns ++ later) keep.object
  pub owes : Owes limits (λ c. written_to c seen) (λ j. kept_in limits.waits j seen) (λ j. added_in j seen) keep.post keep.base kept_turns later
  pub heeds : Heeds (λ c. came_from c seen) (λ c. ended_in c seen) (notes_in seen) keep.post keep.held.items keep.base (kept_turns ++ later)
  pub begun : (j : ℕ) → j < limits.journals → AgreesIn j seen (kept_turns ++ later)

-- and the lines of all turns are kept
pub record Rests {S : Type 0} (gives : Gives S) (first : S) (limits : LoopLimits) (seen : List Happened) (keep : Keep S) : Type 0 where
  pub stands : Stands gives first limits seen keep
  pub none : stands.later ≡ []

-- where it is known what was seen, it was honest at each moment, and
abbrev pub Honest : {S : Type 0} → Rules S → S → LoopLimits → Option (List Happened) → Type 0
Honest rules first limits seen = IfSome seen (λ s. Always (IsHonest rules first limits) s)

abbrev pub Good : {S : Type 0} → Rules S → S → LoopLimits → Option (List Happened) → Keep S → Type 0
Good rules first limits seen keep = IfSome seen (λ s. Stands rules.gives first limits s keep × Always (IsHonest rules first limits) s)

abbrev pub Rested : {S : Type 0} → Rules S → S → LoopLimits → Option (List Happened) → Keep S → Type 0
Rested rules first limits seen keep = IfSome seen (λ s. Rests rules.gives first limits s keep × Always (IsHonest rules first limits) s)

-- what a step keeps: from a state that says what was seen to one, to one all of whose lines are kept, from one of these to
-- another, and to one that says what was seen
abbrev pub Keeps : {S : Type 0} → Rules S → Option (List Happened) → Keep S → Option (List Happened) → Keep S → Type 0
Keeps {S} rules before old after new = (first : S) (limits : LoopLimits) → Good rules first limits before old → Good rules first limits after new

abbrev pub Settles : {S : Type 0} → Rules S → Option (List Happened) → Keep S → Option (List Happened) → Keep S → Type 0
Settles {S} rules before old after new = (first : S) (limits : LoopLimits) → Good rules first limits before old → Rested rules first limits after new

abbrev pub Sends : {S : Type 0} → Rules S → Option (List Happened) → Keep S → Option (List Happened) → Keep S → Type 0
Sends {S} rules before old after new = (first : S) (limits : LoopLimits) → Rested rules first limits before old → Rested rules first limits after new

abbrev pub Renews : {S : Type 0} → Rules S → Option (List Happened) → Keep S → Option (List Happened) → Keep S → Type 0
Renews {S} rules before old after new = (first : S) (limits : LoopLimits) → Rested rules first limits before old → Good rules first limits after new

abbrev pub Fails : {S : Type 0} → Rules S → Option (List Happened) → Keep S → Option (List Happened) → Type 0
Fails {S} rules before old after = (first : S) (limits : LoopLimits) → Good rules first limits before old → Honest rules first limits after

abbrev pub FailsRested : {S : Type 0} → Rules S → Option (List Happened) → Keep S → Option (List Happened) → Type 0
FailsRested {S} rules before old after = (first : S) (limits : LoopLimits) → Rested rules first limits before old → Honest rules first limits after

-- to an end: all lines are stored
abbrev pub Ended : {S : Type 0} → Rules S → S → LoopLimits → Option (List Happened) → S → Type 0
Ended rules first limits seen last = IfSome seen (λ s. HasEnded rules.gives first limits s last × Always (IsHonest rules first limits) s)

abbrev pub Ends : {S : Type 0} → Rules S → Option (List Happened) → Keep S → Option (List Happened) → S → Type 0
Ends {S} rules before old after last = (first : S) (limits : LoopLimits) → Good rules first limits before old → Ended rules first limits after last

abbrev pub EndsRested : {S : Type 0} → Rules S → Option (List Happened) → Keep S → Option (List Happened) → S → Type 0
EndsRested {S} rules before old after last = (first : S) (limits : LoopLimits) → Rested rules first limits before old → Ended rules first limits after last
