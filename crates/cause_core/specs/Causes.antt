-- Why a call of the system failed, and its words.
use Rattle.std.specs.Prelude.{ℕ, ℤ, pos, int_lt, unsigned_abs, List, [], ◌∷◌, ◌++◌, ◌==◌, if◌then◌else◌, Option, Some, None, codes}
use Rattle.std.specs.declared.io.ErrorKind.{ErrorKind}
use Rattle.std.specs.declared.io.ErrorKind.TheVariants as kinds
use Rattle.cause_core.specs.declared.cause.Cause.{Cause}
use Rattle.cause_core.specs.declared.cause.Cause.TheVariants as causes

abbrev pub cause_of_kind : ErrorKind → Cause
cause_of_kind kinds.NotFound = causes.NotThere
cause_of_kind kinds.PermissionDenied = causes.NoPermission
cause_of_kind kinds.IsADirectory = causes.IsFolder
cause_of_kind kinds.NotADirectory = causes.NoFolder
cause_of_kind kinds.NotSeekable = causes.NoFile
cause_of_kind kinds.AlreadyExists = causes.InPlace
cause_of_kind kinds.AddrInUse = causes.Taken
cause_of_kind kinds.FilesystemLoop = causes.LinkCircle
cause_of_kind kinds.InvalidFilename = causes.LongName
cause_of_kind kinds.ReadOnlyFilesystem = causes.ReadOnly
cause_of_kind kinds.StorageFull = causes.DiskFull
cause_of_kind kinds.QuotaExceeded = causes.QuotaFull
cause_of_kind kinds.FileTooLarge = causes.TooLarge
cause_of_kind kinds.OutOfMemory = causes.NoMemory
cause_of_kind kind = causes.Unknown

-- the errors of Linux that are told and have no kind, by their numbers: EIO, ENFILE, EMFILE
abbrev pub numbered : List (ℕ × Cause)
numbered = (5, causes.DiskFailed) ∷ (23, causes.ManyFiles) ∷ (24, causes.ManyFiles) ∷ []

-- the cause that a number has among these, else the other one
abbrev pub cause_in : List (ℕ × Cause) → ℕ → Cause → Cause
cause_in [] number other = other
cause_in (row ∷ rows) number other = if number == row.0 then row.1 else cause_in rows number other

-- why a call failed whose error has this number, where it has one, and this kind
abbrev pub the_cause : Option ℤ → ErrorKind → Cause
the_cause None kind = cause_of_kind kind
the_cause (Some number) kind =
    if int_lt number (pos 0) then cause_of_kind kind else cause_in numbered (unsigned_abs number) (cause_of_kind kind)

abbrev pub cause_words : Cause → List ℕ
cause_words causes.NotThere = codes "it is not there"
cause_words causes.NoPermission = codes "there is no permission"
cause_words causes.IsFolder = codes "it is a folder"
cause_words causes.NoFolder = codes "it is no folder"
cause_words causes.NoFile = codes "it is no file"
cause_words causes.NoSocket = codes "it is no socket"
cause_words causes.InPlace = codes "something else is in its place"
cause_words causes.Taken = codes "it is taken"
cause_words causes.LinkCircle = codes "its links go in a circle"
cause_words causes.LongName = codes "its name is too long"
cause_words causes.ReadOnly = codes "the disk takes no changes"
cause_words causes.DiskFull = codes "the disk is full"
cause_words causes.QuotaFull = codes "the quota is used up"
cause_words causes.TooLarge = codes "no file may be so large"
cause_words causes.DiskFailed = codes "the disk failed"
cause_words causes.ManyFiles = codes "there are too many open files"
cause_words causes.UserLimit = codes "a limit of its user is reached"
cause_words causes.NoMemory = codes "there is no memory"
cause_words causes.Unknown = codes "unknown"

-- what is said of a cause behind a sign: nothing, where the system said nothing that has words
abbrev pub cause_text : List ℕ → Cause → List ℕ
cause_text sign causes.Unknown = []
cause_text sign cause = sign ++ cause_words cause
