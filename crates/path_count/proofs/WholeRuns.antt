-- Runs of the machine are runs of `paths`.
use Rattle.std.proofs.Common.{◌≡◌, ℕ, ◌+◌, Bool, true, false, Option, Some, None, List, [], ◌∷◌, ◌++◌, refl, sym, ap, ◌∙◌, subst}
use Rattle.std.specs.Prelude.{unwrap_or, IfSome, Result, Ok, Err, OnErr, IsErrAnd}
use Rattle.std.specs.Io.KnownBytes.{Appends, Consumes, IsAtEnd}
use Rattle.std.specs.Str.Lines.{lines}
use Rattle.std.proofs.lemmas.List.{append-nil}
use Rattle.value_core.specs.Runs.{Runs, Stops}
use Rattle.value_core.specs.Ends.{Ends, Begins, Answered, AllAnswered}
use Rattle.value_core.specs.declared.machine.LinesEnd.{LinesEnd}
use Rattle.value_core.specs.declared.machine.LinesEnd.TheVariants as ends
use Rattle.path_count.specs.declared.paths.machine.Paths.{Paths}
use Rattle.path_count.specs.Told.{Told, nothing_told}
use Rattle.path_count.specs.Answers.{Answers}
use Rattle.path_count.specs.Telling.{Stands, PathsGives}
use Rattle.path_count.specs.Run.{IsRun, IsFront, IsRunSoFar}

-- lines that go on
told_runs : (old : Paths) (told : Told) (number : ℕ) (ls : List (List ℕ)) (text : List ℕ) (new : Paths) → Stands old told → Runs PathsGives old number ls text new
    → (after : Told) × Stands new after × Runs Answers told number ls text after
told_runs old told number [] text new stands (none, same) = (told, subst (λ s. Stands s told) (sym same) stands, (none, refl))
told_runs old told number (line ∷ more) text new stands (first, rest, mid, cut, gives, runs) =
    let one = gives told stands in
    let others = told_runs mid one.0 (number + 1) more rest new one.1 runs in
    (others.0, others.1, (first, rest, one.0, cut, one.2, others.2))

-- lines that go on, and one that stops
told_stops : (old : Paths) (told : Told) (number : ℕ) (before : List (List ℕ)) (line text : List ℕ) (new : Paths) → Stands old told → Stops PathsGives old number before line text new
    → (after : Told) × Stops Answers told number before line text after
told_stops old told number before line text new stands (first, last, mid, runs, gives, cut) =
    let some = told_runs old told number before first mid stands runs in
    let one = gives some.0 some.1 in
    (one.0, (first, last, some.0, some.2, one.2, cut))

-- nothing is known to be left
at_end : (text : List ℕ) (left : Option (List ℕ)) → IsAtEnd left → text ++ unwrap_or left [] ≡ text
at_end text None end = append-nil text
at_end text (Some xs) end = ap (λ bs. text ++ bs) end ∙ append-nil text

pub told_ends : (old : Paths) (text : List ℕ) (left : Option (List ℕ)) (end : LinesEnd) (written : List ℕ) (new : Paths) → Stands old nothing_told
    → Ends PathsGives old text left end written new → IsRun (text ++ unwrap_or left []) end written
told_ends old text left ends.Whole written new stands (none, runs) =
    let all = told_runs old nothing_told 1 (lines text) written new stands runs in
    (all.0, rw (at_end text left none) all.2)
told_ends old text left (ends.Stopped k) written new stands (before, line, after, place, cut, stops) =
    let all = told_stops old nothing_told 1 before line written new stands stops in
    (before, line, after, all.0, place, cut, all.1)

told_answered : (old : Paths) (whole : List (List ℕ)) (goes : Bool) (answers : List ℕ) (new : Paths) → Stands old nothing_told
    → Answered PathsGives old whole goes answers new → (told : Told) × Answered Answers nothing_told whole goes answers told
told_answered old whole true answers new stands runs =
    let all = told_runs old nothing_told 1 whole answers new stands runs in
    (all.0, all.2)
told_answered old whole false answers new stands (before, line, cut, stops) =
    let all = told_stops old nothing_told 1 before line answers new stands stops in
    (all.0, (before, line, cut, all.1))

pub told_begins : (old : Paths) (text : List ℕ) (left : Option (List ℕ)) (written : List ℕ) → Stands old nothing_told
    → Begins PathsGives old text left written → IsFront (text ++ unwrap_or left []) written
told_begins old text left written stands (whole, after, cut, goes, answers, new, answered, count, front) =
    let all = told_answered old whole goes answers new stands answered in
    (whole, after, cut, goes, answers, all.0, all.1, count, front)

-- the answers to all lines that have come whole
pub told_so_far : (old : Paths) (text : List ℕ) (written : List ℕ) → Stands old nothing_told → AllAnswered PathsGives old text written → IsRunSoFar text written
told_so_far old text written stands (whole, held, cuts, clear, new, runs) =
    let all = told_runs old nothing_told 1 whole written new stands runs in
    (whole, held, cuts, clear, all.0, all.2)

-- what holds of the text read and what is left of it, holds of the known text
pub IfSome-known : (old new : Option (List ℕ)) (text : List ℕ) (P : List ℕ → Type 0) → Consumes old new text → P (text ++ unwrap_or new []) → IfSome old P
IfSome-known None new text P eaten holds = tt
IfSome-known (Some xs) None text P eaten holds = absurd eaten
IfSome-known (Some xs) (Some ys) text P eaten holds = subst P (sym eaten) holds

-- what holds of every text holds of the known one
pub IfSome-any : (known : Option (List ℕ)) (P : List ℕ → Type 0) → ((text : List ℕ) → P text) → IfSome known P
IfSome-any None P holds = tt
IfSome-any (Some text) P holds = holds text

-- what holds anyway holds of an error
pub on_err : {T E P : Type 0} (r : Result T E) → P → OnErr r P
on_err (Ok x) p = tt
on_err (Err e) p = p

-- a result that has one error has no other
pub one_error : {T E : Type 0} (r : Result T E) (e f : E) → IsErrAnd r (λ x. x ≡ e) → r ≡ Err f → e ≡ f
one_error (Ok x) e f is same = absurd is
one_error (Err x) e f is same = cc

pub Appends-none : (known : Option (List ℕ)) → Appends known known []
Appends-none None = tt
Appends-none (Some xs) = sym (append-nil xs)

-- nothing is a front of the answers to any text
pub no_front : (text : List ℕ) → IsFront text []
no_front text = ([], lines text, refl, true, [], nothing_told, (refl, refl), 0, refl)
