-- Runs of the machine are lines at a prompt.
use Rattle.std.proofs.Common.{◌≡◌, ℕ, ◌+◌, Bool, true, false, Option, Some, None, List, [], ◌∷◌, ◌++◌, length, refl, ap, ◌∙◌, subst}
use Rattle.std.specs.Prelude.{unwrap_or, map}
use Rattle.std.specs.Io.KnownBytes.{IsAtEnd}
use Rattle.std.specs.Str.Lines.{lines}
use Rattle.std.proofs.lemmas.List.{append-nil}
use Rattle.value_core.specs.Meaning.{opening_of}
use Rattle.decl_core.specs.declared.object.Object.{Object}
use Rattle.value_core.specs.Runs.{Runs, Stops}
use Rattle.value_core.specs.Ends.{Ends, Begins, Answered, AllAnswered}
use Rattle.value_core.specs.declared.machine.LinesEnd.{LinesEnd}
use Rattle.value_core.specs.declared.machine.LinesEnd.TheVariants as ends
use Rattle.board_core.specs.Board.{opened}
use Rattle.board_core.specs.Sound.{kinds_of}
use Rattle.world_core.specs.Scene.{Scene, IsNew}
use Rattle.world_core.specs.declared.prompt.Texts.{Texts as GivenTexts}
use Rattle.world_core.specs.declared.prompt.machine.Prompt.{Prompt}
use Rattle.world_core.specs.Tries.{Texts, Tries, PromptGives, texts_in, skipped, done, helped, listed, asked, bad}
use Rattle.world_core.specs.PromptRun.{IsTried, IsTriedFront, IsTriedSoFar}

-- no line ends the lines
goes_on : (texts : Texts) (w new : Scene) (number : ℕ) (line text : List ℕ) (goes : Bool) → Tries texts w number line text goes new → goes ≡ true
goes_on texts w new number line text goes (skipped is) = refl
goes_on texts w new number line text goes (done said not says does kept) = refl
goes_on texts w new number line text goes (helped other is) = refl
goes_on texts w new number line text goes (listed other says) = refl
goes_on texts w new number line text goes (asked question other says no_list tells) = refl
goes_on texts w new number line text goes (bad other no_help none) = refl

never : false ≡ true → ⊥
never is = cc

-- lines that go on
told_runs : (texts : GivenTexts) (old : Prompt) (number : ℕ) (ls : List (List ℕ)) (text : List ℕ) (new : Prompt) → old.texts ≡ texts → Runs PromptGives old number ls text new
    → Runs (Tries (texts_in texts)) old.world number ls text new.world
told_runs texts old number [] text new has (none, same) = (none, ap (λ (p : Prompt). p.world) same)
told_runs texts old number (line ∷ more) text new has (first, rest, mid, cut, gives, runs) =
    (first, rest, mid.world, cut, subst (λ ts. Tries (texts_in ts) old.world number line first true mid.world) has gives.0, told_runs texts mid (number + 1) more rest new (gives.1 ∙ has) runs)

no_stop : (old new : Prompt) (number : ℕ) (before : List (List ℕ)) (line text : List ℕ) → Stops PromptGives old number before line text new → ⊥
no_stop old new number before line text (first, last, mid, runs, gives, cut) = never (goes_on (texts_in mid.texts) mid.world new.world (number + length before) line last false gives.0)

-- nothing is known to be left
at_end : (text : List ℕ) (left : Option (List ℕ)) → IsAtEnd left → text ++ unwrap_or left [] ≡ text
at_end text None end = append-nil text
at_end text (Some xs) end = ap (λ bs. text ++ bs) end ∙ append-nil text

pub told_ends : (o : Object) (texts : GivenTexts) (old : Prompt) (text : List ℕ) (left : Option (List ℕ)) (end : LinesEnd) (written : List ℕ) (new : Prompt) → IsNew o old.world → old.texts ≡ texts
    → Ends PromptGives old text left end written new → IsTried o (texts_in texts) (text ++ unwrap_or left []) written
told_ends o texts old text left ends.Whole written new begun has (none, runs) =
    (old.world, begun, new.world, rw (at_end text left none) (told_runs texts old 1 (lines text) written new has runs))
told_ends o texts old text left (ends.Stopped k) written new begun has (before, line, after, place, cut, stops) = absurd (no_stop old new 1 before line written stops)

told_answered : (texts : GivenTexts) (old : Prompt) (whole : List (List ℕ)) (goes : Bool) (answers : List ℕ) (new : Prompt) → old.texts ≡ texts → Answered PromptGives old whole goes answers new
    → Runs (Tries (texts_in texts)) old.world 1 whole answers new.world
told_answered texts old whole true answers new has runs = told_runs texts old 1 whole answers new has runs
told_answered texts old whole false answers new has (before, line, cut, stops) = absurd (no_stop old new 1 before line answers stops)

pub told_begins : (o : Object) (texts : GivenTexts) (old : Prompt) (text : List ℕ) (left : Option (List ℕ)) (written : List ℕ) → IsNew o old.world → old.texts ≡ texts
    → Begins PromptGives old text left written → IsTriedFront o (texts_in texts) (text ++ unwrap_or left []) written
told_begins o texts old text left written begun has (whole, after, cut, goes, answers, new, answered, count, front) =
    (old.world, begun, whole, after, cut, answers, new.world, told_answered texts old whole goes answers new has answered, count, front)

-- the answers to all lines that have come whole
pub told_so_far : (o : Object) (texts : GivenTexts) (old : Prompt) (text written : List ℕ) → IsNew o old.world → old.texts ≡ texts → AllAnswered PromptGives old text written → IsTriedSoFar o (texts_in texts) text written
told_so_far o texts old text written begun has (whole, held, cuts, clear, new, runs) =
    (old.world, begun, whole, held, cuts, clear, new.world, told_runs texts old 1 whole written new has runs)

-- some world before the first line
abbrev start_of : Object → Scene
start_of o = record { board = opened o []; opening = map opening_of (kinds_of o); files = []; runs = [] }

-- nothing is a front of the answers to any text
pub no_front : (o : Object) (texts : Texts) (text : List ℕ) → IsTriedFront o texts text []
no_front o texts text = (start_of o, record { pins = []; board = refl; opening = refl; runs = refl }, [], lines text, refl, [], start_of o, (refl, refl), 0, refl)
