-- What is told of what the codec gives.
use Rattle.std.specs.Prelude.{◌≡◌, ◌⊎◌, ◌≢◌, Bool, true, false, String}
use Rattle.std.specs.declared.alloc.Global.{Global}
use Rattle.std.specs.IoError.{error_kind}
use Rattle.std.specs.declared.io.ErrorKind.TheVariants.{OutOfMemory}
use Rattle.tokio_util.specs.declared.codec.lines_codec.LinesCodecError.{LinesCodecError}
use Rattle.tokio_util.specs.declared.codec.lines_codec.LinesCodecError.TheVariants.{MaxLineLengthExceeded, Io}
use Rattle.session_text.specs.declared.reader.NextLine.{NextLine}
use Rattle.session_text.specs.declared.reader.NextLine.TheVariants as nexts

-- a line that is too long, a want of memory, or else a line that is no text
abbrev pub IsToldAs : LinesCodecError → NextLine → Type 0
IsToldAs MaxLineLengthExceeded next = next ≡ nexts.LineTooLong
IsToldAs (Io e) next =
    ((error_kind e ≡ OutOfMemory) × (next ≡ nexts.Memory)) ⊎ ((error_kind e ≢ OutOfMemory) × (next ≡ nexts.NoText))

-- a line, or what stands behind the last line end, by whether no line ends there
abbrev pub told_last : Bool → String Global → NextLine
told_last true text = nexts.Rest text
told_last false text = nexts.Line text
