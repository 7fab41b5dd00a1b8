-- The lines of an object of which is told what can be lost, waited for and stuck.
use Rattle.std.specs.Prelude.{ℕ, zero, suc, ◌+◌, ◌==◌, Bool, true, false, if◌then◌else◌, List, [], ◌∷◌, ◌++◌, length, slice_get, codes, decimal}
use Rattle.path_tree.specs.Path.{Path}
use Rattle.decl_core.specs.ObjectForm.{ObjectForm}
use Rattle.check_core.specs.Report.{operation_name}
use Rattle.stuck_core.specs.declared.found.Why.{Why}
use Rattle.stuck_core.specs.declared.found.Why.TheVariants as whys
use Rattle.stuck_core.specs.declared.found.Finding.{Finding}
use Rattle.stuck_core.specs.declared.found.Finding.TheVariants as finding
use Rattle.stuck_core.specs.declared.found.StuckVerdict.{StuckVerdict}
use Rattle.stuck_core.specs.declared.found.StuckVerdict.TheVariants as ending
use Rattle.stuck_core.specs.declared.found.Findings.{Findings}
use Rattle.stuck_core.specs.Waits.{Place, waits}

-- the name of the operation of this number
abbrev pub name_at : ObjectForm → ℕ → List ℕ
name_at o op = operation_name (slice_get o.operations op)

-- a space and a name for each
abbrev pub names_text : ObjectForm → List ℕ → List ℕ
names_text o [] = []
names_text o (op ∷ ops) = (codes " " ++ name_at o op) ++ names_text o ops

-- so many calls of an operation
pub record Run : Type 0 where
  pub count : ℕ
  pub op : ℕ

-- one call more, in front
abbrev pub with_call : ℕ → List Run → List Run
with_call op [] = record { count = 1; op = op } ∷ []
with_call op (r ∷ rs) = if op == r.op then record { count = suc r.count; op = r.op } ∷ rs
    else record { count = 1; op = op } ∷ r ∷ rs

-- calls of one operation that stand together, counted
abbrev pub runs : List ℕ → List Run
runs [] = []
runs (op ∷ ops) = with_call op (runs ops)

-- K OP K OP .., each behind a space
abbrev pub runs_text : ObjectForm → List Run → List ℕ
runs_text o [] = []
runs_text o (r ∷ rs) = (codes " " ++ decimal r.count ++ codes " " ++ name_at o r.op) ++ runs_text o rs

abbrev pub calls_text : ObjectForm → List ℕ → List ℕ
calls_text o calls = runs_text o (runs calls)

-- never, or after which calls
abbrev pub lost_words : ObjectForm → List ℕ → List ℕ
lost_words o [] = codes " never\n"
lost_words o (op ∷ ops) = codes " lost after" ++ calls_text o (op ∷ ops) ++ codes "\n"

-- what is said of an operation
abbrev pub start_words : ObjectForm → Finding → List ℕ
start_words o finding.Always = codes " always\n"
start_words o (finding.Lost calls) = lost_words o calls.items
start_words o (finding.Unknown whys.States) = codes " unknown states\n"
start_words o (finding.Unknown whys.Overlaps) = codes " unknown overlaps\n"

-- start OP ..
abbrev pub start_line : ObjectForm → ℕ → Finding → List ℕ
start_line o op found = (codes "start " ++ name_at o op) ++ start_words o found

-- of operations from this number on
abbrev pub start_lines : ObjectForm → ℕ → List Finding → List ℕ
start_lines o op [] = []
start_lines o op (found ∷ more) = start_line o op found ++ start_lines o (op + 1) more

-- wait OP for OP .. path P node K
abbrev pub wait_line : ObjectForm → ℕ → ℕ → Place → List ℕ
wait_line o op path place =
    (codes "wait " ++ name_at o op) ++ codes " for" ++ names_text o place.needs ++ (codes " path " ++ decimal path)
    ++ (codes " node " ++ decimal place.node) ++ codes "\n"

abbrev pub wait_lines_of : ObjectForm → ℕ → ℕ → List Place → List ℕ
wait_lines_of o op path [] = []
wait_lines_of o op path (place ∷ places) = wait_line o op path place ++ wait_lines_of o op path places

-- of an operation in paths from this number on
abbrev pub wait_lines_in : ObjectForm → ℕ → ℕ → List Path → List ℕ
wait_lines_in o op path [] = []
wait_lines_in o op path (p ∷ paths) = wait_lines_of o op path (waits p op) ++ wait_lines_in o op (path + 1) paths

-- of so many operations from this number on
abbrev pub wait_lines : ObjectForm → ℕ → ℕ → List ℕ
wait_lines o op zero = []
wait_lines o op (suc n) = wait_lines_in o op 1 o.paths ++ wait_lines o (op + 1) n

-- at once, or after which calls
abbrev pub stuck_words : ObjectForm → List ℕ → List ℕ
stuck_words o [] = codes "stuck at once\n"
stuck_words o (op ∷ ops) = codes "stuck after" ++ calls_text o (op ∷ ops) ++ codes "\n"

-- stuck ..
abbrev pub ending_line : ObjectForm → StuckVerdict → List ℕ
ending_line o ending.Never = codes "stuck never\n"
ending_line o (ending.After calls) = stuck_words o calls.items
ending_line o ending.Unknown = codes "stuck unknown\n"

-- what is told of an object
abbrev pub told_lines : ObjectForm → Findings → List ℕ
told_lines o found =
    start_lines o 0 found.each.items ++ wait_lines o 0 (length o.operations) ++ ending_line o found.ending

-- one of these is lost
abbrev pub some_lost : List Finding → Bool
some_lost [] = false
some_lost (finding.Always ∷ more) = some_lost more
some_lost (finding.Lost calls ∷ more) = true
some_lost (finding.Unknown why ∷ more) = some_lost more
