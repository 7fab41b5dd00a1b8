-- What a line of a session's input is, and what comes next in the bytes that were read.
use Rattle.std.specs.Prelude.{◌≡◌, ◌≢◌, ◌⊎◌, ℕ, ◌+◌, ◌<◌, ◌≤◌, List, [], ◌∷◌, ◌++◌, length, take, All, Bool, true}
use Rattle.std.specs.Prelude.{false, Option, Some, None, IsTrue, ◌↔◌, IsUtf8, string_bytes, Result, Ok, Err}
use Rattle.std.specs.Io.KnownBytes.{Consumes, IsAtEnd}
use Rattle.tokio_util.specs.Codec.Lines.{without_carriage_return}
use Rattle.session_text.specs.declared.fault.HearFault.{HearFault}
use Rattle.session_text.specs.declared.fault.HearFault.TheVariants as faults
use Rattle.session_text.specs.declared.reader.NextLine.{NextLine}
use Rattle.session_text.specs.declared.reader.NextLine.TheVariants as nexts

-- the byte that ends a line
abbrev pub line_feed : ℕ
line_feed = 10

-- the most bytes of a line before that
abbrev pub most_line_bytes : ℕ
most_line_bytes = 4096

-- no line ends among these bytes
abbrev pub IsUnbroken : List ℕ → Type 0
IsUnbroken bytes = All (λ b. b ≢ line_feed) bytes

-- the first of these bytes are a line, and the others stand behind its end
abbrev pub IsLine : List ℕ → List ℕ → List ℕ → Type 0
IsLine bytes raw rest = (bytes ≡ raw ++ line_feed ∷ rest) × IsUnbroken raw × (length raw ≤ most_line_bytes)

-- no line ends among these bytes, and they may still become one
abbrev pub IsRest : List ℕ → Type 0
IsRest bytes = IsUnbroken bytes × (length bytes ≤ most_line_bytes)

-- the first line among these bytes has more than a line may have
abbrev pub IsTooLong : List ℕ → Type 0
IsTooLong bytes = (most_line_bytes < length bytes) × IsUnbroken (take (most_line_bytes + 1) bytes)

-- What comes next in these bytes, and the bytes that are left behind it, by whether the input ended with them. A CR
-- that ends a line is no part of its text.
-- Where a line is too long or memory is refused, nothing is said of what is left.
abbrev pub Finds : Bool → List ℕ → Option NextLine → List ℕ → Type 0
Finds ended bytes None left = (ended ≡ false) × IsRest bytes × (left ≡ bytes)
Finds ended bytes (Some (nexts.Line text)) left =
    (raw : List ℕ) × IsLine bytes raw left × (string_bytes text ≡ without_carriage_return raw)
Finds ended bytes (Some (nexts.Rest text)) left =
    (ended ≡ true) × IsRest bytes × (0 < length (string_bytes text))
    × (string_bytes text ≡ without_carriage_return bytes) × (left ≡ [])
Finds ended bytes (Some nexts.NoText) left =
    ((raw : List ℕ) × IsLine bytes raw left × (IsUtf8 (without_carriage_return raw) → ⊥))
    ⊎ ((ended ≡ true) × IsRest bytes × (IsUtf8 (without_carriage_return bytes) → ⊥) × (left ≡ []))
Finds ended bytes (Some nexts.End) left =
    (ended ≡ true) × IsRest bytes × (without_carriage_return bytes ≡ []) × (left ≡ bytes)
Finds ended bytes (Some nexts.LineTooLong) left = IsTooLong bytes
Finds ended bytes (Some nexts.Memory) left = Unit {0}

-- behind this nothing more comes
abbrev pub IsLast : Option NextLine → Type 0
IsLast None = ⊥
IsLast (Some (nexts.Line text)) = ⊥
IsLast (Some (nexts.Rest text)) = ⊥
IsLast (Some nexts.NoText) = ⊥
IsLast (Some nexts.End) = ⊥
IsLast (Some nexts.LineTooLong) = Unit {0}
IsLast (Some nexts.Memory) = Unit {0}

-- What was read and not told yet, whether a read found the end of the input, whether nothing more comes since a line
-- was too long or memory was refused, and the bytes that the reader will still give, where they are known.
pub record Unread : Type 0 where
  pub bytes : List ℕ
  pub ended : Bool
  pub over : Bool
  pub remaining : Option (List ℕ)

-- what is told next, and what is unread behind it
abbrev pub Tells : Unread → Option NextLine → Unread → Type 0
Tells s next t =
    ((s.over ≡ true) × (next ≡ Some nexts.End) × (t ≡ s))
    ⊎ ((s.over ≡ false) × Finds s.ended s.bytes next t.bytes × (t.ended ≡ s.ended) × (t.remaining ≡ s.remaining)
    × (IsTrue t.over ↔ IsLast next))

-- what one read adds to the bytes that were read, whether it found the end, and a fault by which no more were added
abbrev pub ComesOnce : Option (List ℕ) → Option (List ℕ) → List ℕ → List ℕ → Result Bool HearFault → Type 0
ComesOnce old new bytes grown (Ok true) = (grown ≡ bytes) × Consumes old new [] × IsAtEnd new
ComesOnce old new bytes grown (Ok false) = (more : List ℕ) × (grown ≡ bytes ++ more) × Consumes old new more
ComesOnce old new bytes grown (Err fault) = (fault ≢ faults.LineTooLong) × (grown ≡ bytes)

-- What a read brings: bytes behind those that were read, or the end, or a fault, by which nothing is known to be lost
-- but where memory is refused. It never tells that a line is too long.
abbrev pub Brings : Unread → Option HearFault → Unread → Type 0
Brings s None t =
    (more : List ℕ) × (t.bytes ≡ s.bytes ++ more) × Consumes s.remaining t.remaining more × (t.over ≡ s.over)
    × ((t.ended ≡ s.ended) ⊎ ((t.ended ≡ true) × (more ≡ []) × IsAtEnd t.remaining))
Brings s (Some fault) t = (fault ≢ faults.LineTooLong) × (t.bytes ≡ s.bytes) × (t.over ≡ s.over) × (t.ended ≡ s.ended)
