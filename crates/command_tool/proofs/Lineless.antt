-- A text without a line names no object.
use Rattle.std.proofs.Common.{◌≡◌, ◌∙◌, ℕ, List, refl, sym, subst}
use Rattle.word_core.specs.Answers.{bad_line}
use Rattle.check_core.specs.Named.{NamesObject}
use Rattle.check_core.specs.Opening.{IsTold, unnamed, faulty, lacking, refused}
use Rattle.command_tool.specs.ScriptRun.{IsScriptRun, told, ran}
use Rattle.command_tool.specs.Laws.{HasNoLine, NoLineIsBad}

-- it names none
pub names_none : (text name : List ℕ) → HasNoLine text → NamesObject text name → ⊥
names_none text name none is = let e = sym none ∙ is.1.1.2 in absurd cc

-- a line that says why there is nothing to run on says that the first one is bad
pub told_bad : (source text line : List ℕ) → HasNoLine text → IsTold source text line → line ≡ bad_line 1
told_bad source text line none (unnamed un) = refl
told_bad source text line none (faulty named why) = absurd (names_none text _ none named)
told_bad source text line none (lacking named without) = absurd (names_none text _ none named)
told_bad source text line none (refused named found why) = absurd (names_none text _ none named)

of_script : (source text : List ℕ) (status : ℕ) (written : List ℕ) → HasNoLine text → IsScriptRun source text status written → (status ≡ 1) × (written ≡ bad_line 1)
of_script source text status written none (told is) = (refl, told_bad source text written none is)
of_script source text status written none (ran o end ready script) = absurd (names_none text ready.name none ready.named)

to_script : (source text : List ℕ) (status : ℕ) (written : List ℕ) → HasNoLine text → (status ≡ 1) × (written ≡ bad_line 1) → IsScriptRun source text status written
to_script source text status written none is =
    subst (λ s. IsScriptRun source text s written) (sym is.0)
    (subst (λ w. IsScriptRun source text 1 w) (sym is.1) (told (unnamed (λ name named. names_none text name none named))))

pub no_line_is_bad : NoLineIsBad
no_line_is_bad source text status written none = (of_script source text status written none, to_script source text status written none)
