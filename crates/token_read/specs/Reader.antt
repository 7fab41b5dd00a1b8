-- Reading from left to right, for the functions that read.
use Rattle.std.specs.Prelude.{◌≡◌, List, Option, Some, None, Result, Ok, Err}
use Rattle.path_tree.specs.Lexeme.{Lexeme}
use Rattle.token_read.specs.declared.text_fault.TextFault.{TextFault}
use Rattle.token_read.specs.declared.text_fault.TextFault.TheVariants as faults

-- a fault says that nothing can be read; where memory ran out, nothing is said.
abbrev pub Fails : {Y : Type 0} → TextFault → Option Y → Type 0
Fails faults.Memory read = Unit {0}
Fails (faults.Path f) read = read ≡ None
Fails (faults.Syntax at) read = read ≡ None
Fails (faults.DuplicateName at) read = read ≡ None
Fails (faults.WrongType at) read = read ≡ None
Fails (faults.UnknownName at) read = read ≡ None
Fails (faults.TooMany at) read = read ≡ None

-- what a function returned, seen by view, is what reading gives, unless memory ran out.
abbrev pub Gives : {X Y : Type 0} → (X → Y) → Result X TextFault → Option Y → Type 0
Gives view (Ok x) read = read ≡ Some (view x)
Gives view (Err e) read = Fails e read

infixl 10 ◌>>=◌
abbrev pub ◌>>=◌ : {A B : Type 0} → Option A → (A → Option B) → Option B
(Some x) >>= f = f x
None >>= f = None

-- a reader is given lexemes, and answers what it read and the lexemes after it
abbrev pub Reader : Type 0 → Type 0
Reader A = List Lexeme → Option (A × List Lexeme)
