-- What was read from a line that begins with `path`.
use Rattle.std.specs.Prelude.{◌≡◌, ◌≢◌, ℕ, ◌<◌, ◌≤◌, ◌⊎◌, List, [], ◌∷◌, ◌++◌, length, drop, codes}
use Rattle.path_tree.specs.Path.{Path}
use Rattle.path_tree.specs.Names.{NamesBelow}
use Rattle.path_tree.specs.Lexeme.{Lexeme, end_mark}
use Rattle.path_tree.specs.Tokens.{Placed, AreTokens, IsFirstFault}
use Rattle.path_tree.specs.Known.{known_with}
use Rattle.path_tree.specs.Grammar.{IsPathAt}
use Rattle.path_tree.specs.LexFaults as lexical
use Rattle.path_tree.specs.PathFaults as syntactic
use Rattle.path_tree.specs.declared.lex.fault.LexFault.TheVariants.{TooLong}
use Rattle.path_tree.specs.declared.path_fault.PathFault.{PathFault}
use Rattle.path_tree.specs.declared.path_fault.PathFault.TheVariants.{Expected, Memory}
use Rattle.path_count.specs.declared.paths.path_line.LineFault.{LineFault}
use Rattle.path_count.specs.declared.paths.path_line.LineFault.TheVariants as faults
use Rattle.path_count.specs.declared.paths.path_line.PathLine.{PathLine}
use Rattle.path_count.specs.declared.paths.path_line.PathLine.TheVariants as lines
use Rattle.value_core.specs.Reply.{fault_text}
use Rattle.path_count.specs.PathLine.{IsPathLine, IsPathEnd, StandsBehind, lexemes_of}

-- what a line is told that is no path
abbrev pub line_fault_text : LineFault → List ℕ
line_fault_text (faults.Lexical f) =
    codes "lex " ++ fault_text (lexical.fault_number f) (lexical.fault_name f) (lexical.fault_place f)
line_fault_text (faults.Syntax f) =
    codes "path " ++ fault_text (syntactic.fault_number f) (syntactic.fault_name f) (syntactic.fault_place f)

-- where a path stands, the fault is that of what follows it, and it is told there
abbrev pub IsToldBehind : List (List ℕ) → List Placed → PathFault → Type 0
IsToldBehind names all fault =
    (tree : Path) (to : ℕ) → IsPathAt (known_with [] names) (lexemes_of all) 0 tree to
    → (at : ℕ) × StandsBehind (drop to all) at × (fault ≡ Expected at)

-- A line has this fault: its first lexical one, or, where it has tokens, one of these, never a want of memory; what
-- follows a path is told with its place.
abbrev pub IsLineFault : List (List ℕ) → List ℕ → LineFault → Type 0
IsLineFault names line (faults.Lexical f) =
    ((65536 < length line) × (f ≡ TooLong)) ⊎ ((length line ≤ 65536) × IsFirstFault line f)
IsLineFault names line (faults.Syntax f) =
    (length line ≤ 65536) × ((all : List Placed) × AreTokens line all × IsToldBehind names all f) × (f ≢ Memory)

-- what a line is: a path of operations below their number, or no path, with its fault
abbrev pub IsReadLine : List (List ℕ) → List ℕ → PathLine → Type 0
IsReadLine names line (lines.Path tree) = IsPathLine names line tree × NamesBelow tree (length names)
IsReadLine names line (lines.Refused fault) =
    ((tree : Path) → IsPathLine names line tree → ⊥) × IsLineFault names line fault

-- a path stands at the front of these lexemes, and nothing stands behind it but one semicolon
abbrev pub IsWholePath : List (List ℕ) → List Lexeme → Path → Type 0
IsWholePath names ws tree = (to : ℕ) × IsPathAt (known_with [] names) ws 0 tree to × IsPathEnd (drop to ws)

-- what was read from tokens
abbrev pub IsReadTokens : List (List ℕ) → List Placed → PathLine → Type 0
IsReadTokens names all (lines.Path tree) = IsWholePath names (lexemes_of all) tree × NamesBelow tree (length names)
IsReadTokens names all (lines.Refused (faults.Lexical f)) = ⊥
IsReadTokens names all (lines.Refused (faults.Syntax f)) =
    ((tree : Path) → IsWholePath names (lexemes_of all) tree → ⊥) × IsToldBehind names all f × (f ≢ Memory)

-- an end mark is the last of these lexemes
abbrev pub EndsInMark : List Lexeme → Type 0
EndsInMark [] = ⊥
EndsInMark (w ∷ []) = w ≡ end_mark
EndsInMark (w ∷ v ∷ more) = EndsInMark (v ∷ more)
