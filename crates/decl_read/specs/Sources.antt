-- The objects of a source.
use Rattle.std.specs.Prelude.{ℕ, ◌≤◌, List, length, map}
use Rattle.std.specs.Borrow.{Bor}
use Rattle.path_tree.specs.Lexeme.{lexemes, Lexeme}
use Rattle.path_tree.specs.Tokens.{Placed, AreTokens}
use Rattle.path_tree.specs.declared.token.Token.{Token}
use Rattle.path_tree.specs.declared.lex.fault.LexFault.{LexFault}
use Rattle.path_tree.specs.declared.lex.fault.LexFault.TheVariants as lex_faults
use Rattle.decl_core.specs.declared.object.Object.{Object}
use Rattle.decl_core.specs.ObjectForm.{ObjectForm}
use Rattle.decl_core.specs.ObjectMap.{object_of, objects_of}
use Rattle.decl_read.specs.declared.fault.DeclFault.{DeclFault}
use Rattle.decl_read.specs.declared.fault.DeclFault.TheVariants as faults
use Rattle.token_read.specs.declared.text_fault.TextFault.{TextFault}
use Rattle.token_read.specs.declared.text_fault.TextFault.TheVariants as text_faults
use Rattle.decl_read.specs.Declarations.{IsFile}

-- what was read, and what stands behind
abbrev pub object_read : Object × Bor (List Token) → ObjectForm × List Lexeme
object_read x = (object_of x.0, lexemes x.1.now)

abbrev pub objects_read : List Object × Bor (List Token) → List ObjectForm × List Lexeme
objects_read x = (objects_of x.0, lexemes x.1.now)

-- what is told where a source has no tokens
abbrev pub lex_fault_told : LexFault → DeclFault
lex_fault_told lex_faults.Memory = faults.Memory
lex_fault_told lex_faults.TooLong = faults.Lex lex_faults.TooLong
lex_fault_told (lex_faults.BadByte at) = faults.Lex (lex_faults.BadByte at)
lex_fault_told (lex_faults.OpenComment at) = faults.Lex (lex_faults.OpenComment at)
lex_fault_told (lex_faults.OpenString at) = faults.Lex (lex_faults.OpenString at)
lex_fault_told (lex_faults.BadNumber at) = faults.Lex (lex_faults.BadNumber at)

-- what is told where the tokens are no objects
abbrev pub text_fault_told : TextFault → DeclFault
text_fault_told (text_faults.Path fault) = faults.Path fault
text_fault_told (text_faults.Syntax at) = faults.Syntax at
text_fault_told (text_faults.DuplicateName at) = faults.DuplicateName at
text_fault_told (text_faults.WrongType at) = faults.WrongType at
text_fault_told (text_faults.UnknownName at) = faults.UnknownName at
text_fault_told (text_faults.TooMany at) = faults.TooMany at
text_fault_told text_faults.Memory = faults.Memory

-- These are the objects of a source: it has at most 65,536 bytes and tokens, and these are a file of the grammar.
pub record AreObjectsOf (source : List ℕ) (objects : List ObjectForm) : Type 0 where
  pub tokens : List Placed
  pub short : length source ≤ 65536
  pub lexed : AreTokens source tokens
  pub is : IsFile (map (λ t. t.lexeme) tokens) objects
