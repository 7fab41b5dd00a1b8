-- How the program ends that was to keep objects, where it could not begin.
use Rattle.std.specs.Prelude.{◌≡◌, ⊤}
use Rattle.clap.specs.Values.{kind_of}
use Rattle.clap.specs.declared.error.kind.ErrorKind.TheVariants as kinds
use Rattle.answer_core.specs.declared.failure.ToolFailure.{ToolFailure}
use Rattle.answer_core.specs.declared.failure.ToolFailure.TheVariants as failures
use Rattle.command_line.specs.Watching.{IsWatched, Sorted}
use Rattle.command_line.specs.declared.watching.Watching.{Watching}

-- a want of memory, with status 4, or a mistake in a value of `--past`, with status 2
abbrev pub IsUntold : ToolFailure → Type 0
IsUntold (failures.Usage error) = kind_of error ≡ kinds.ValueValidation
IsUntold failures.ReadFault = ⊥
IsUntold failures.WriteFault = ⊥
IsUntold failures.Memory = ⊤

-- a want of memory, or a mistake in a value of an option, with status 2
abbrev pub IsUndue : ToolFailure → Type 0
IsUndue (failures.Usage error) = kind_of error ≡ kinds.ValueValidation
IsUndue failures.ReadFault = ⊥
IsUndue failures.WriteFault = ⊥
IsUndue failures.Memory = ⊤

-- a want of memory, or a mistake in an option that these words have
abbrev pub IsUnwatched : Sorted → ToolFailure → Type 0
IsUnwatched words (failures.Usage error) =
    (kind_of error ≡ kinds.ValueValidation) × ((watching : Watching) → IsWatched words watching → ⊥)
IsUnwatched words failures.ReadFault = ⊥
IsUnwatched words failures.WriteFault = ⊥
IsUnwatched words failures.Memory = ⊤
