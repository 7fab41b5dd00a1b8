-- What one write did.
use Rattle.std.specs.Prelude.{◌≡◌, ℕ, ◌<◌, Option, Some, None, Result, Ok, Err}
use Rattle.std.specs.declared.io.Error.{Error}
use Rattle.std.specs.declared.io.ErrorKind.{ErrorKind}
use Rattle.std.specs.IoError.{error_kind}

-- a signal broke it, and it took nothing
abbrev pub IsBroken : Result ℕ Error → Type 0
IsBroken (Ok count) = ⊥
IsBroken (Err e) = error_kind e ≡ ErrorKind.Interrupted

-- it took so many bytes, at least one, or a signal broke it
abbrev pub IsSent : Result ℕ Error → Option ℕ → Type 0
IsSent answer None = IsBroken answer
IsSent answer (Some count) = (answer ≡ Ok count) × (0 < count)

-- it took no byte, or it failed and no signal broke it
abbrev pub IsNotSent : Result ℕ Error → Type 0
IsNotSent (Ok count) = count ≡ 0
IsNotSent (Err e) = error_kind e ≡ ErrorKind.Interrupted → ⊥
