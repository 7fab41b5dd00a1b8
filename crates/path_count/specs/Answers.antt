-- The answers of `paths` to its lines.
use Rattle.std.specs.Prelude.{◌≡◌, ◌≢◌, ℕ, ◌<◌, Bool, true, false, List, [], ◌∷◌, ◌++◌, length, map, codes, decimal}
use Rattle.std.specs.Str.{str_to_ascii_lowercase}
use Rattle.path_tree.specs.Path.{Path}
use Rattle.path_tree.specs.Trace.{Event}
use Rattle.path_tree.specs.Canonical.{canonical_bytes}
use Rattle.value_core.specs.Reply.{reply}
use Rattle.path_count.specs.declared.paths.path_line.LineFault.{LineFault}
use Rattle.path_count.specs.PathLine.{IsPathLine}
use Rattle.path_count.specs.ReadLine.{IsLineFault, line_fault_text}
use Rattle.path_count.specs.Calls.{StartAnswer, FinishAnswer}
use Rattle.path_count.specs.Asked.{operations, path, start, finish, asked_of}
use Rattle.path_count.specs.Told.{Told, AreOperations, IsBadLine}
use Rattle.path_count.specs.Named.{IsNamed}

-- the answer to the line of this number: its text, whether the run goes on, and what was told then
pub data Answers (told : Told) (number : ℕ) (line : List ℕ) : List ℕ → Bool → Told → Type 0 where
  operations_told : {ws : List (List ℕ)} → told.names ≡ [] → asked_of line ≡ operations ws → AreOperations ws
      → Answers told number line (reply (codes "ops ") (decimal (length ws))) true
      (record told { names = map str_to_ascii_lowercase ws })
  path_told : {tree : Path} → told.names ≢ [] → told.begun ≡ false → length told.paths < 16 → asked_of line ≡ path →
      IsPathLine told.names line tree
      → Answers told number line (reply (canonical_bytes told.names tree) []) true
      (record told { paths = told.paths ++ tree ∷ [] })
  path_refused : (fault : LineFault) → told.names ≢ [] → told.begun ≡ false → length told.paths < 16 →
      asked_of line ≡ path
      → ((tree : Path) → IsPathLine told.names line tree → ⊥) → IsLineFault told.names line fault
      → Answers told number line (codes "line " ++ decimal number ++ codes ": " ++ line_fault_text fault) false told
  start_told : {word : List ℕ} {op : ℕ} {text : List ℕ} {after : List Event} → asked_of line ≡ start word →
      IsNamed told.names op word
      → StartAnswer told.paths told.trace op (str_to_ascii_lowercase word) text after
      → Answers told number line text true (record told { trace = after; begun = true })
  finish_told : {word : List ℕ} {op : ℕ} {text : List ℕ} {after : List Event} → asked_of line ≡ finish word →
      IsNamed told.names op word
      → FinishAnswer told.trace op (str_to_ascii_lowercase word) text after
      → Answers told number line text true (record told { trace = after; begun = true })
  bad_line : IsBadLine told (asked_of line) →
      Answers told number line (reply (codes "bad line ") (decimal number)) false told
