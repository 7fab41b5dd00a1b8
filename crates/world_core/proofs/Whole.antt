-- Runs of the machine are scripts.
use Rattle.std.proofs.Common.{◌≡◌, ℕ, ◌+◌, Bool, true, false, Option, Some, None, List, [], ◌∷◌, ◌++◌, refl, ap, ◌∙◌}
use Rattle.std.specs.Prelude.{unwrap_or, map}
use Rattle.std.specs.Io.KnownBytes.{IsAtEnd}
use Rattle.std.specs.Str.Lines.{lines}
use Rattle.std.proofs.lemmas.List.{append-nil}
use Rattle.value_core.specs.Meaning.{opening_of}
use Rattle.decl_core.specs.declared.object.Object.{Object}
use Rattle.value_core.specs.Runs.{Runs, Stops}
use Rattle.value_core.specs.Ends.{Ends, Begins, Answered, AllAnswered}
use Rattle.value_core.specs.declared.machine.LinesEnd.{LinesEnd}
use Rattle.value_core.specs.declared.machine.LinesEnd.TheVariants as ends
use Rattle.board_core.specs.Board.{opened}
use Rattle.board_core.specs.Sound.{kinds_of}
use Rattle.world_core.specs.declared.script.machine.Script.{Script}
use Rattle.world_core.specs.Writes.{Told, IsBegun, Writes, ScriptGives, told_of}
use Rattle.world_core.specs.Run.{IsScript, IsFront, IsScriptSoFar, end_of}

-- lines that go on
told_runs : (old : Script) (number : ℕ) (ls : List (List ℕ)) (text : List ℕ) (new : Script) → Runs ScriptGives old number ls text new → Runs Writes (told_of old) number ls text (told_of new)
told_runs old number [] text new (none, same) = (none, ap told_of same)
told_runs old number (line ∷ more) text new (first, rest, mid, cut, gives, runs) = (first, rest, told_of mid, cut, gives, told_runs mid (number + 1) more rest new runs)

-- lines that go on, and one that stops
told_stops : (old : Script) (number : ℕ) (before : List (List ℕ)) (line text : List ℕ) (new : Script) → Stops ScriptGives old number before line text new
    → Stops Writes (told_of old) number before line text (told_of new)
told_stops old number before line text new (first, last, mid, runs, gives, cut) = (first, last, told_of mid, told_runs old number before first mid runs, gives, cut)

-- nothing is known to be left
at_end : (text : List ℕ) (left : Option (List ℕ)) → IsAtEnd left → text ++ unwrap_or left [] ≡ text
at_end text None end = append-nil text
at_end text (Some xs) end = ap (λ bs. text ++ bs) end ∙ append-nil text

pub told_ends : (o : Object) (old : Script) (text : List ℕ) (left : Option (List ℕ)) (end : LinesEnd) (written : List ℕ) (new : Script) → IsBegun o (told_of old)
    → Ends ScriptGives old text left end written new → IsScript o (text ++ unwrap_or left []) (end_of end) written
told_ends o old text left ends.Whole written new begun (none, runs) =
    (told_of old, begun, told_of new, rw (at_end text left none) (told_runs old 1 (lines text) written new runs))
told_ends o old text left (ends.Stopped k) written new begun (before, line, after, place, cut, stops) =
    (told_of old, begun, before, line, after, told_of new, place, cut, told_stops old 1 before line written new stops)

told_answered : (old : Script) (whole : List (List ℕ)) (goes : Bool) (answers : List ℕ) (new : Script) → Answered ScriptGives old whole goes answers new
    → Answered Writes (told_of old) whole goes answers (told_of new)
told_answered old whole true answers new runs = told_runs old 1 whole answers new runs
told_answered old whole false answers new (before, line, cut, stops) = (before, line, cut, told_stops old 1 before line answers new stops)

pub told_begins : (o : Object) (old : Script) (text : List ℕ) (left : Option (List ℕ)) (written : List ℕ) → IsBegun o (told_of old)
    → Begins ScriptGives old text left written → IsFront o (text ++ unwrap_or left []) written
told_begins o old text left written begun (whole, after, cut, goes, answers, new, answered, count, front) =
    (told_of old, begun, whole, after, cut, goes, answers, told_of new, told_answered old whole goes answers new answered, count, front)

-- the answers to all lines that have come whole
pub told_so_far : (o : Object) (old : Script) (text written : List ℕ) → IsBegun o (told_of old) → AllAnswered ScriptGives old text written → IsScriptSoFar o text written
told_so_far o old text written begun (whole, held, cuts, clear, new, runs) =
    (told_of old, begun, whole, held, cuts, clear, told_of new, told_runs old 1 whole written new runs)

-- some state before the first line
abbrev start_of : Object → Told
start_of o = record { named = false; world = record { board = opened o []; opening = map opening_of (kinds_of o); files = []; runs = [] } }

-- nothing is a front of the answers to any text
pub no_front : (o : Object) (text : List ℕ) → IsFront o text []
no_front o text =
    (start_of o, record { named = refl; world = record { pins = []; board = refl; opening = refl; runs = refl } }, [], lines text, refl, true, [], start_of o, (refl, refl), 0, refl)
