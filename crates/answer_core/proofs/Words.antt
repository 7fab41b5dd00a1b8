-- What words end with that ask for no command.
use Rattle.std.proofs.Common.{◌≡◌, ◌∙◌, ◌⊎◌, inl, inr, ℕ, Result, Ok, Err, refl, sym}
use Rattle.clap.specs.Values.{kind_of}
use Rattle.clap.specs.declared.error.Error.{Error}
use Rattle.clap.specs.declared.error.kind.ErrorKind.{ErrorKind}
use Rattle.clap.specs.declared.error.kind.ErrorKind.TheVariants as kinds
use Rattle.answer_core.specs.declared.failure.ToolFailure.{ToolFailure}
use Rattle.answer_core.specs.declared.failure.ToolFailure.TheVariants as failures
use Rattle.answer_core.specs.Status.{IsShown, IsWordsEnd}

help_not_memory : kinds.DisplayHelp ≡ kinds.OutOfMemory → ⊥
help_not_memory e = cc

version_not_memory : kinds.DisplayVersion ≡ kinds.OutOfMemory → ⊥
version_not_memory e = cc

not_memory : (e : Error) → IsShown e → kind_of e ≡ kinds.OutOfMemory → ⊥
not_memory e (inl is) memory = help_not_memory (sym is ∙ memory)
not_memory e (inr is) memory = version_not_memory (sym is ∙ memory)

-- help, or the version
pub shown_end : (e : Error) (r : Result ℕ ToolFailure) → IsShown e → (r ≡ Ok 0) ⊎ (r ≡ Err failures.WriteFault) → IsWordsEnd e r
shown_end e r is ended = record {
  shown = λ _. ended;
  memory = λ m. absurd (not_memory e is m);
  mistake = λ none _. absurd (none is);
}

pub no_memory : (e : Error) → kind_of e ≡ kinds.OutOfMemory → IsWordsEnd e (Err failures.Memory)
no_memory e is = record {
  shown = λ shown. absurd (not_memory e shown is);
  memory = λ _. refl;
  mistake = λ _ none. absurd (none is);
}

pub is_usage : (e : Error) → (IsShown e → ⊥) → (kind_of e ≡ kinds.OutOfMemory → ⊥) → IsWordsEnd e (Err (failures.Usage e))
is_usage e not_shown none = record {
  shown = λ shown. absurd (not_shown shown);
  memory = λ memory. absurd (none memory);
  mistake = λ _ _. refl;
}
