-- From the tokens of a source to its objects.
use Rattle.std.proofs.Common.{◌≡◌, ℕ, ◌<◌, ◌≤◌, ◌⊎◌, List, [], ◌∷◌, length, map, Option, Some, refl, sym, ap, subst, ◌∙◌, inl, inr, arith}
use Rattle.std.proofs.lemmas.Bool.{cases_lt}
use Rattle.std.proofs.lemmas.List.{length-map}
use Rattle.path_tree.specs.declared.token.Token.{Token}
use Rattle.path_tree.specs.declared.lex.fault.LexFault.{LexFault}
use Rattle.path_tree.specs.declared.lex.fault.LexFault.TheVariants as lex_faults
use Rattle.path_tree.specs.Lexeme.{lexemes, lexeme_of}
use Rattle.path_tree.specs.Tokens.{Placed, placed_tokens, AreTokens}
use Rattle.decl_read.specs.declared.fault.DeclFault.{DeclFault}
use Rattle.decl_read.specs.declared.fault.DeclFault.TheVariants as faults
use Rattle.token_read.specs.declared.text_fault.TextFault.{TextFault}
use Rattle.token_read.specs.declared.text_fault.TextFault.TheVariants as text_faults
use Rattle.std.specs.Prelude.{Result, Ok, Err}
use Rattle.token_read.specs.Reader.{Fails}
use Rattle.decl_core.specs.ObjectForm.{ObjectForm}
use Rattle.decl_read.specs.Sources.{AreObjectsOf, lex_fault_told, text_fault_told}
use Rattle.decl_read.specs.Declarations.{IsFile}
use Rattle.decl_read.specs.DeclarationReading.{file_in}
use Rattle.decl_read.proofs.Files.{file_found, file_read}

-- the lexemes of tokens with their places
pub lexemes_placed : (tokens : List Token) → map (λ (t : Placed). t.lexeme) (placed_tokens tokens) ≡ lexemes tokens
lexemes_placed [] = refl
lexemes_placed (t ∷ tokens) = ap (λ ws. lexeme_of t.kind ∷ ws) (lexemes_placed tokens)

pub source_found : (source : List ℕ) (tokens : List Token) (objects : List ObjectForm) → length source ≤ 65536 → AreTokens source (placed_tokens tokens) → file_in 131072 (lexemes tokens) ≡ Some objects → AreObjectsOf source objects
source_found source tokens objects short lexed h =
    record { tokens = placed_tokens tokens; short = short; lexed = lexed; is = subst (λ ws. IsFile ws objects) (sym (lexemes_placed tokens)) (file_found 131072 (lexemes tokens) objects h) }

-- the tokens of a source of objects are those that were read
pub source_read : (source : List ℕ) (tokens : List Token) (objects : List ObjectForm) → length tokens ≤ 65537 → (p : AreObjectsOf source objects) → placed_tokens tokens ≡ p.tokens → file_in 131072 (lexemes tokens) ≡ Some objects
source_read source tokens objects short p same =
    let ws : lexemes tokens ≡ map (λ (t : Placed). t.lexeme) p.tokens = sym (lexemes_placed tokens) ∙ ap (map (λ (t : Placed). t.lexeme)) same in
    let long = length-map tokens (λ (t : Token). lexeme_of t.kind) in
    file_read 131072 (lexemes tokens) objects (omega arith) (subst (λ ws. IsFile ws objects) (sym ws) p.is)

-- where objects stand, nothing is told but that memory ran out
pub only_memory : (fault : TextFault) (objects : List ObjectForm) (read : Option (List ObjectForm)) → read ≡ Some objects → Fails fault read → text_fault_told fault ≡ faults.Memory
only_memory text_faults.Memory objects read is fails = refl
only_memory (text_faults.Path f) objects read is fails = absurd cc
only_memory (text_faults.Syntax at) objects read is fails = absurd cc
only_memory (text_faults.DuplicateName at) objects read is fails = absurd cc
only_memory (text_faults.WrongType at) objects read is fails = absurd cc
only_memory (text_faults.UnknownName at) objects read is fails = absurd cc
only_memory (text_faults.TooMany at) objects read is fails = absurd cc

pub told_memory : (fault : LexFault) → fault ≡ lex_faults.Memory → lex_fault_told fault ≡ faults.Memory
told_memory fault is = ap lex_fault_told is

pub told_one : (fault first : LexFault) (told : DeclFault) → told ≡ lex_fault_told fault → (fault ≡ first) ⊎ (fault ≡ lex_faults.Memory) → (told ≡ lex_fault_told first) ⊎ (told ≡ faults.Memory)
told_one fault first told is (inl same) = inl (is ∙ ap lex_fault_told same)
told_one fault first told is (inr memory) = inr (is ∙ ap lex_fault_told memory)

pub one_of_some : {A : Type 0} {x y : A} → Some x ≡ Some y → x ≡ y
one_of_some h = cc

pub at_most_when : (a b : ℕ) → (a < b → ⊥) → b ≤ a
at_most_when a b never = elim (cases_lt a b) [ inl h ↦ absurd (never h) | inr h ↦ h ]

pub never_too_long : {A : Type 0} (x : A) → ◌≡◌ {A = Result A LexFault} (Ok x) (Err lex_faults.TooLong) → ⊥
never_too_long x h = absurd cc
