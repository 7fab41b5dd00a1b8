-- What a check of a source writes.
use Rattle.std.specs.Prelude.{◌≡◌, ℕ, ◌+◌, ◌<◌, ◌≤◌, ◌⊎◌, Option, Some, None, List, [], ◌∷◌, ◌++◌, length, slice_get}
use Rattle.std.specs.Prelude.{codes, decimal}
use Rattle.value_core.specs.declared.kind.Kind.{Kind}
use Rattle.path_tree.specs.declared.lex.fault.LexFault.{LexFault}
use Rattle.path_tree.specs.declared.lex.fault.LexFault.TheVariants as lex_faults
use Rattle.path_tree.specs.declared.path_fault.PathFault.TheVariants as path_faults
use Rattle.path_tree.specs.Tokens.{IsFirstFault}
use Rattle.value_core.specs.Reply.{fault_text}
use Rattle.decl_read.specs.declared.fault.DeclFault.{DeclFault}
use Rattle.decl_read.specs.declared.fault.DeclFault.TheVariants as faults
use Rattle.decl_read.specs.DeclFaults.{fault_number, fault_name, fault_place}
use Rattle.decl_core.specs.ObjectForm.{OperationForm, ObjectForm}
use Rattle.decl_read.specs.Sources.{AreObjectsOf, lex_fault_told}
use Rattle.decl_core.specs.declared.certificate.SeparatedPair.{SeparatedPair}
use Rattle.check_core.specs.declared.report.CheckEnd.{CheckEnd}
use Rattle.check_core.specs.declared.report.CheckEnd.TheVariants as ends
use Rattle.decl_core.specs.Exclusive.{IsExclusive, IsFirstUnseparated}
use Rattle.decl_core.specs.Certificate.{IsFirstCertificate}

-- the name of the operation of this number
abbrev pub operation_name : Option OperationForm → List ℕ
operation_name None = []
operation_name (Some o) = o.name

-- the name of the part of this number
abbrev pub part_name : Option (List ℕ × Kind) → List ℕ
part_name None = []
part_name (Some p) = p.0

-- the names of two operations, a space between
abbrev pub pair_text : ObjectForm → ℕ → ℕ → List ℕ
pair_text o i j = operation_name (slice_get o.operations i) ++ codes " " ++ operation_name (slice_get o.operations j)

-- pair A B path P node K
abbrev pub pair_line : ObjectForm → SeparatedPair → List ℕ
pair_line o e =
    codes "pair " ++ pair_text o e.first e.second ++ codes " path " ++ decimal e.path ++ codes " node "
    ++ decimal e.node ++ codes "\n"

abbrev pub pair_lines : ObjectForm → List SeparatedPair → List ℕ
pair_lines o [] = []
pair_lines o (e ∷ es) = pair_line o e ++ pair_lines o es

-- object NAME accepted, and a line for each entry of the certificate
abbrev pub accepted_lines : ObjectForm → List SeparatedPair → List ℕ
accepted_lines o entries = codes "object " ++ o.name ++ codes " accepted\n" ++ pair_lines o entries

-- object NAME refused 1 Unseparated A B PART
abbrev pub refused_line : ObjectForm → ℕ → ℕ → ℕ → List ℕ
refused_line o i j p =
    codes "object " ++ o.name ++ codes " refused 1 Unseparated " ++ pair_text o i j ++ codes " "
    ++ part_name (slice_get o.parts p) ++ codes "\n"

-- N objects, M refused
abbrev pub count_line : ℕ → ℕ → List ℕ
count_line objects refused = decimal objects ++ codes " objects, " ++ decimal refused ++ codes " refused\n"

-- lex, path or decl, and the number, the name and the place of the fault
abbrev pub fault_word : DeclFault → List ℕ
fault_word (faults.Lex fault) = codes "lex "
fault_word (faults.Path fault) = codes "path "
fault_word (faults.Syntax at) = codes "decl "
fault_word (faults.DuplicateName at) = codes "decl "
fault_word (faults.WrongType at) = codes "decl "
fault_word (faults.UnknownName at) = codes "decl "
fault_word (faults.TooMany at) = codes "decl "
fault_word faults.Memory = codes "decl "

abbrev pub fault_line : DeclFault → List ℕ
fault_line fault = fault_word fault ++ fault_text (fault_number fault) (fault_name fault) (fault_place fault)

-- what an object is told, and how many of it are refused: none or it
pub data IsReported (o : ObjectForm) : ℕ → List ℕ → Type 0 where
  accepted : {entries : List SeparatedPair} → IsExclusive o → IsFirstCertificate o entries →
      IsReported o 0 (accepted_lines o entries)
  refused : {i j p : ℕ} → IsFirstUnseparated o i j p → IsReported o 1 (refused_line o i j p)

-- what objects are told one after the other, and how many of them are refused
pub data AreReported : List ObjectForm → ℕ → List ℕ → Type 0 where
  no_object : AreReported [] 0 []
  and_object : {before : List ObjectForm} {o : ObjectForm} {n m : ℕ} {text more : List ℕ} →
      AreReported before n text → IsReported o m more → AreReported (before ++ o ∷ []) (n + m) (text ++ more)

-- a want of memory: of the reader of objects, of the lexer, or of the reader of a path
abbrev pub IsWantOfMemory : DeclFault → Type 0
IsWantOfMemory fault =
    (fault ≡ faults.Memory) ⊎ ((fault ≡ faults.Lex lex_faults.Memory) ⊎ (fault ≡ faults.Path path_faults.Memory))

-- A source that is no file of objects is told why: its first fault as far as its tokens go, and never a want of memory.
pub record IsToldFault (source : List ℕ) (fault : DeclFault) : Type 0 where
  pub not_memory : IsWantOfMemory fault → ⊥
  pub no_objects : (objects : List ObjectForm) → AreObjectsOf source objects → ⊥
  pub too_long : 65536 < length source → fault ≡ faults.Lex lex_faults.TooLong
  pub lexical : (first : LexFault) → IsFirstFault source first → length source ≤ 65536 → fault ≡ lex_fault_told first

-- What a check writes of a source, and how it ends: the objects one after the other and their counts, or the
-- line of the fault alone.
pub data IsCheck (source : List ℕ) : CheckEnd → List ℕ → Type 0 where
  counted : {objects : List ObjectForm} {refused : ℕ} {text : List ℕ} → AreObjectsOf source objects →
      AreReported objects refused text →
      IsCheck source (ends.Counted (length objects) refused) (text ++ count_line (length objects) refused)
  faulty : {fault : DeclFault} → IsToldFault source fault → IsCheck source ends.Faulty (fault_line fault)
