-- Lines that are paths, from their tokens.
use Rattle.std.proofs.Common.{◌≡◌, ◌≢◌, ℕ, ◌<◌, ◌≤◌, ◌⊎◌, inl, inr, List, [], ◌∷◌, ◌++◌, length, drop, slice_index_or, refl, sym, ap, ◌∙◌, subst, arith}
use Rattle.std.specs.Prelude.{Result, Ok, Err}
use Rattle.path_tree.specs.Path.{Path}
use Rattle.path_tree.specs.declared.token.Token.{Token}
use Rattle.path_tree.specs.declared.lex.fault.LexFault.{LexFault}
use Rattle.path_tree.specs.declared.lex.fault.LexFault.TheVariants.{TooLong, Memory}
use Rattle.path_tree.specs.declared.token.Symbol.TheVariants.{Semicolon, End, Path as PathWord}
use Rattle.path_tree.specs.declared.path_fault.PathFault.{PathFault}
use Rattle.path_tree.specs.declared.path_fault.PathFault.TheVariants as syntax
use Rattle.path_tree.specs.Lexeme.{Lexeme, lexemes, lexeme_of, symbol}
use Rattle.path_tree.specs.Tokens.{Placed, placed_tokens, AreTokens, IsFirstFault, end_at}
use Rattle.path_tree.specs.Known.{Known, known_with}
use Rattle.path_tree.specs.Grammar.{IsPathAt, list_lexemes}
use Rattle.path_count.specs.declared.paths.path_line.PathLine.{PathLine}
use Rattle.path_count.specs.declared.paths.path_line.PathLine.TheVariants as lines
use Rattle.path_count.specs.declared.paths.path_line.LineFault.{LineFault}
use Rattle.path_count.specs.declared.paths.path_line.LineFault.TheVariants as faults
use Rattle.std.proofs.lemmas.Bool.{cases_lt}
use Rattle.path_count.specs.PathLine.{IsPathLine, IsPathEnd, StandsBehind, next, behind_semicolon, lexemes_of}
use Rattle.path_count.specs.ReadLine.{EndsInMark, IsReadLine, IsReadTokens, IsWholePath, IsLineFault}

-- the lexemes of tokens, with and without their spans
pub placed_lexemes : (tokens : List Token) → lexemes_of (placed_tokens tokens) ≡ lexemes tokens
placed_lexemes [] = refl
placed_lexemes (t ∷ tokens) = ap (λ ws. lexeme_of t.kind ∷ ws) (placed_lexemes tokens)

-- a path line is a whole path of the line's tokens
whole : (names : List (List ℕ)) (line : List ℕ) (ws : List Lexeme) → ((all : List Placed) → AreTokens line all → lexemes_of all ≡ ws)
    → (tree : Path) → IsPathLine names line tree → IsWholePath names ws tree
whole names line ws same tree is = subst (λ w. IsWholePath names w tree) (same is.all is.tokens) (is.to, is.stands, is.rest)

-- what was read from the tokens of a line was read from the line
pub read_line : (names : List (List ℕ)) (line : List ℕ) (tokens : List Token) → length line ≤ 65536 → AreTokens line (placed_tokens tokens)
    → ((all : List Placed) → AreTokens line all → placed_tokens tokens ≡ all)
    → (read : PathLine) → IsReadTokens names (placed_tokens tokens) read → IsReadLine names line read
read_line names line tokens short are only (lines.Path tree) (stands, below) =
    (record { short = short; all = placed_tokens tokens; tokens = are; to = stands.0; stands = stands.1; rest = stands.2 }, below)
read_line names line tokens short are only (lines.Refused (faults.Lexical f)) wrong = absurd wrong
read_line names line tokens short are only (lines.Refused (faults.Syntax f)) (none, behind, other) =
    ((λ tree is. none tree (whole names line (lexemes_of (placed_tokens tokens)) (λ all others. ap lexemes_of (sym (only all others))) tree is)), (short, (placed_tokens tokens, are, behind), other))

-- the first of some tokens is no semicolon
pub first_stands : (rest : List Token) (t : Token) → 0 < length rest → t ≡ slice_index_or rest 0 t → (lexeme_of t.kind ≡ symbol Semicolon → ⊥)
    → StandsBehind (placed_tokens rest) t.start
first_stands [] t some is other = absurd (omega (arith, some))
first_stands (s ∷ more) t some is other = subst (λ (x : Token). StandsBehind (placed_tokens (x ∷ more)) t.start) is (next other)

-- the first of some tokens is a semicolon, and one stands behind it
pub second_stands : (rest : List Token) (s t : Token) → 1 < length rest → s ≡ slice_index_or rest 0 s → t ≡ slice_index_or rest 1 t → lexeme_of s.kind ≡ symbol Semicolon
    → StandsBehind (placed_tokens rest) t.start
second_stands [] s t some first second is = absurd (omega (arith, some))
second_stands (a ∷ []) s t some first second is = absurd (omega (arith, some))
second_stands (a ∷ b ∷ more) s t some first second is =
    let there : StandsBehind (placed_tokens (s ∷ t ∷ more)) t.start = behind_semicolon is in
    subst (λ (x : Token). StandsBehind (placed_tokens (x ∷ b ∷ more)) t.start) first (subst (λ (y : Token). StandsBehind (placed_tokens (s ∷ y ∷ more)) t.start) second there)

-- a single token that ends in a mark is the mark
pub mark_alone : (rest : List Token) → length rest < 2 → EndsInMark (lexemes rest) → IsPathEnd (lexemes rest)
mark_alone [] few marked = absurd marked
mark_alone (t ∷ []) few marked = inl (ap (λ w. w ∷ []) marked)
mark_alone (s ∷ t ∷ more) few marked = absurd (omega (arith, few))

-- the tokens of a line end in a mark
mark_last : (all : List Placed) (at : ℕ) → EndsInMark (lexemes_of (all ++ end_at at ∷ []))
mark_last [] at = refl
mark_last (t ∷ []) at = refl
mark_last (t ∷ s ∷ all) at = mark_last (s ∷ all) at

pub tokens_marked : (line : List ℕ) (tokens : List Token) → AreTokens line (placed_tokens tokens) → EndsInMark (lexemes tokens)
tokens_marked line tokens are =
    subst EndsInMark (ap lexemes_of (sym are.ends) ∙ placed_lexemes tokens) (mark_last are.tokens (length line))

-- behind an `end` there is more where a mark comes last
marked_behind : (front rest : List Lexeme) → EndsInMark (front ++ symbol End ∷ rest) → EndsInMark rest
marked_behind [] [] marked = absurd cc
marked_behind [] (w ∷ more) marked = marked
marked_behind (v ∷ []) rest marked = marked_behind [] rest marked
marked_behind (v ∷ w ∷ front) rest marked = marked_behind (w ∷ front) rest marked

pub path_marked : (known : Known) (ws : List Lexeme) (tree : Path) (to : ℕ) → IsPathAt known ws 0 tree to → EndsInMark ws → EndsInMark (drop to ws)
path_marked known ws tree to is marked = marked_behind (symbol PathWord ∷ list_lexemes is.text) (drop to ws) (subst EndsInMark is.stands marked)

-- a path that was read, with nothing behind it but one semicolon
pub path_read : (names : List (List ℕ)) (tokens rest : List Token) (tree : Path) (to : ℕ) → IsPathAt (known_with [] names) (lexemes tokens) 0 tree to
    → lexemes rest ≡ drop to (lexemes tokens) → IsPathEnd (lexemes rest) → IsWholePath names (lexemes_of (placed_tokens tokens)) tree
path_read names tokens rest tree to stands behind end =
    subst (λ ws. IsWholePath names ws tree) (sym (placed_lexemes tokens)) (to, stands, subst IsPathEnd behind end)

-- a path that was read, with something else behind it
pub path_followed : (names : List (List ℕ)) (tokens rest : List Token) (tree : Path) (to at : ℕ)
    → ((e : Path) (end : ℕ) → IsPathAt (known_with [] names) (lexemes tokens) 0 e end → (tree ≡ e) × (to ≡ end))
    → lexemes rest ≡ drop to (lexemes tokens) → placed_tokens rest ≡ drop to (placed_tokens tokens)
    → (IsPathEnd (lexemes rest) → ⊥) → StandsBehind (placed_tokens rest) at
    → IsReadTokens names (placed_tokens tokens) (lines.Refused (faults.Syntax (syntax.Expected at)))
path_followed names tokens rest tree to at only behind places none there =
    let same = placed_lexemes tokens in (
      λ e is.
          let one = subst (λ ws. IsWholePath names ws e) same is in
          none (subst IsPathEnd (ap (λ n. drop n (lexemes tokens)) (sym (only e one.0 one.1).1) ∙ sym behind) one.2),
      λ e end is.
          let one = only e end (subst (λ ws. IsPathAt (known_with [] names) ws 0 e end) same is) in
          (at, subst (λ all. StandsBehind all at) (places ∙ ap (λ n. drop n (placed_tokens tokens)) one.1) there, refl),
      λ same_fault. cc,
    )

-- no path
pub no_path : (names : List (List ℕ)) (tokens : List Token) (fault : PathFault) → fault ≢ syntax.Memory
    → ((e : Path) (end : ℕ) → IsPathAt (known_with [] names) (lexemes tokens) 0 e end → fault ≡ syntax.Memory)
    → IsReadTokens names (placed_tokens tokens) (lines.Refused (faults.Syntax fault))
no_path names tokens fault other only =
    let same = placed_lexemes tokens in (
      λ e is. let one = subst (λ ws. IsWholePath names ws e) same is in other (only e one.0 one.1),
      λ e end is. absurd (other (only e end (subst (λ ws. IsPathAt (known_with [] names) ws 0 e end) same is))),
      other,
    )

-- a line with a lexical fault is no path
pub no_line : (names : List (List ℕ)) (line : List ℕ) (fault : LexFault) → fault ≢ Memory
    → ((all : List Placed) → AreTokens line all → length line ≤ 65536 → fault ≡ Memory)
    → (tree : Path) → IsPathLine names line tree → ⊥
no_line names line fault other complete tree is = other (complete is.all is.tokens is.short)

short_or : {P : Type 0} (line : List ℕ) → (65536 < length line → P) → (length line ≤ 65536 → P) → P
short_or line long short = elim (cases_lt 65536 (length line)) [ inl h ↦ long h | inr h ↦ short h ]

-- a lexical fault is the line's
pub lexical_line : (names : List (List ℕ)) (line : List ℕ) (fault : LexFault) (told : LineFault) → told ≡ faults.Lexical fault → fault ≢ Memory
    → (65536 < length line → fault ≡ TooLong) → (fault ≡ TooLong → 65536 < length line)
    → (fault ≡ TooLong) ⊎ ((fault ≡ Memory) ⊎ IsFirstFault line fault)
    → ((all : List Placed) → AreTokens line all → length line ≤ 65536 → fault ≡ Memory)
    → ((tree : Path) → IsPathLine names line tree → ⊥) × IsLineFault names line told
lexical_line names line fault told same other long only (inl too_long) complete =
    (no_line names line fault other complete, rw same (inl (only too_long, too_long)))
lexical_line names line fault told same other long only (inr (inl memory)) complete = absurd (other memory)
lexical_line names line fault told same other long only (inr (inr first)) complete =
    (no_line names line fault other complete, rw same (short_or line (λ h. inl (h, long h)) (λ h. inr (h, first))))

pub ok_is_no_err : {T E P : Type 0} (x : T) (e : E) (r : Result T E) → r ≡ Ok x → r ≡ Err e → P
ok_is_no_err x e r ok err = cc

pub same_err : {T E : Type 0} (e f : E) → (let r : Result T E = Err e in r ≡ Err f) → e ≡ f
same_err e f same = cc
