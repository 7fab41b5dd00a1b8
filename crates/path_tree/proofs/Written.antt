-- The canonical bytes of a text are spelled as its lexemes.
use Rattle.std.proofs.Common.{◌≡◌, ◌≢◌, ℕ, zero, suc, ◌+◌, ◌-◌, ◌<◌, ◌≤◌, Bool, true, false, cond, Option, Some, None, List, [], ◌∷◌, ◌++◌, map, length, slice_index, inl, inr, refl, sym, ap, subst, ◌∙◌, append_assoc, arith}
use Rattle.std.specs.Prelude.{◌⊎◌, All, decimal, codes, bytes_eq}
use Rattle.std.proofs.lemmas.Fmt.{decimal_is_IsNumeral}
use Rattle.std.proofs.lemmas.Str.Parse.{digit_at}
use Rattle.std.proofs.lemmas.List.{length-append, append-nil}
use Rattle.std.proofs.lemmas.Slice.Eq.{bytes_eq-Decides}
use Rattle.path_tree.specs.declared.token.Symbol.{Symbol}
use Rattle.path_tree.specs.declared.token.Symbol.TheVariants as symbols
use Rattle.path_tree.specs.Identifier.{IsWordByte, IsDigit, IsIdentifier}
use Rattle.path_tree.specs.Path.{Path}
use Rattle.path_tree.specs.Lexeme.{Lexeme, symbol, number, end_mark, symbol_text}
use Rattle.path_tree.specs.Known.{Known, place_of, next}
use Rattle.path_tree.specs.Grammar.{a_number, a_constant, ListText, last_seq, seq_and, SeqText, last_item, item_and, ItemText, operation, limited, in_burst, in_group, list_lexemes, seq_lexemes, item_lexemes, ListFits, SeqFits, ItemFits}
use Rattle.path_tree.specs.Canonical.{list_text, list_bytes, seq_bytes, item_bytes, canonical_bytes, canonical_lexemes}
use Rattle.path_tree.specs.Gap.{none}
use Rattle.path_tree.specs.Tokens.{Placed, AreTokens, end_at}
use Rattle.path_tree.specs.Written.{IsFreeName, AreFreeNames}
use Rattle.path_tree.proofs.Spelled.{Spells, EndsWord, join, before, spaced, map_append, moved, name_spelled, reserved_spelled, number_spelled}
use Rattle.path_tree.proofs.SpelledSigns.{AfterSign, sign_spelled}

-- no constants are known, so each limit is a number
abbrev pub without_constants : List (List ℕ) → Known
without_constants names = record { operations = names; constants = [] }

later_names : (x : List ℕ) (xs : List (List ℕ)) → AreFreeNames (x ∷ xs) → AreFreeNames xs
later_names x xs h k within = h (suc k) (omega arith)

next_some : (o : Option ℕ) (op : ℕ) → next o ≡ Some op → (k : ℕ) × (o ≡ Some k)
next_some (Some k) op h = (k, refl)
next_some None op h = absurd cc

placed_name : (b : Bool) (x bytes : List ℕ) (xs : List (List ℕ)) (op : ℕ) → (b ≡ true → x ≡ bytes) → IsFreeName x → ((k : ℕ) → place_of xs bytes ≡ Some k → IsFreeName bytes) → cond b (Some 0) (next (place_of xs bytes)) ≡ Some op → IsFreeName bytes
placed_name true x bytes xs op same free later h = subst IsFreeName (same refl) free
placed_name false x bytes xs op same free later h = let n = next_some (place_of xs bytes) op h in later n.0 n.1

-- a name that is found is one of the names
pub found_free : (names : List (List ℕ)) (bytes : List ℕ) (op : ℕ) → AreFreeNames names → place_of names bytes ≡ Some op → IsFreeName bytes
found_free [] bytes op free h = absurd cc
found_free (x ∷ xs) bytes op free h = placed_name (bytes_eq x bytes) x bytes xs op (bytes_eq-Decides x bytes).0 (free 0 (omega arith)) (λ k p. found_free xs bytes k (later_names x xs free) p) h

-- a text has lexemes
mutual
  list_some : (l : ListText) → 0 < length (list_lexemes l)
  list_some (last_seq s) = seq_some s
  list_some (seq_and s l) = let n = length-append (seq_lexemes s) (symbol symbols.Comma ∷ list_lexemes l) in omega arith

  seq_some : (s : SeqText) → 0 < length (seq_lexemes s)
  seq_some (last_item i) = item_some i
  seq_some (item_and i s) = let n = length-append (item_lexemes i) (symbol symbols.Semicolon ∷ seq_lexemes s) in omega arith

  item_some : (i : ItemText) → 0 < length (item_lexemes i)
  item_some (operation bytes) = omega arith
  item_some (limited n l) = omega arith
  item_some (in_burst l) = omega arith
  item_some (in_group l) = omega arith

-- no text begins with a star
abbrev Starts : List ℕ → Type 0
Starts bytes = (b : ℕ) × (rest : List ℕ) × (bytes ≡ b ∷ rest) × (b ≢ 42)

starts_more : (x y : List ℕ) → Starts x → Starts (x ++ y)
starts_more x y h = (h.0, h.1 ++ y, ap (λ z. z ++ y) h.2, h.3)

first_is : (bytes rest : List ℕ) → Starts bytes → slice_index (bytes ++ rest) 0 ≢ 42
first_is bytes rest h e = h.3 (sym (ap (λ z. slice_index (z ++ rest) 0) h.2) ∙ e)

name_starts : (bytes : List ℕ) → IsIdentifier bytes → Starts bytes
name_starts [] h = absurd h
name_starts (b ∷ bytes) h = (b, bytes, refl, λ e. elim h.0 [ inl x ↦ omega arith | inr x ↦ omega arith ])

digits_start : (ds : List ℕ) → 0 < length ds → IsDigit (slice_index ds 0) → Starts ds
digits_start [] some h = absurd (omega arith)
digits_start (d ∷ ds) some h = (d, ds, refl, λ e. omega (arith, h))

number_starts : (n : ℕ) → n ≤ 65535 → Starts (decimal n)
number_starts n small = let d = decimal_is_IsNumeral n (omega arith) in digits_start (decimal n) d.0.0 (digit_at (decimal n) 0 d.0.1 d.0.0)

mutual
  list_starts : (names : List (List ℕ)) (l : ListText) (depth : ℕ) → AreFreeNames names → ListFits (without_constants names) l depth → Starts (list_bytes l)
  list_starts names (last_seq s) depth free fits = seq_starts names s depth free fits
  list_starts names (seq_and s l) depth free fits = starts_more (seq_bytes s ++ codes ", ") (list_bytes l) (starts_more (seq_bytes s) (codes ", ") (seq_starts names s depth free fits.0))

  seq_starts : (names : List (List ℕ)) (s : SeqText) (depth : ℕ) → AreFreeNames names → SeqFits (without_constants names) s depth → Starts (seq_bytes s)
  seq_starts names (last_item i) depth free fits = item_starts names i depth free fits
  seq_starts names (item_and i s) depth free fits = starts_more (item_bytes i ++ codes "; ") (seq_bytes s) (starts_more (item_bytes i) (codes "; ") (item_starts names i depth free fits.0))

  item_starts : (names : List (List ℕ)) (i : ItemText) (depth : ℕ) → AreFreeNames names → ItemFits (without_constants names) i depth → Starts (item_bytes i)
  item_starts names (operation bytes) depth free fits = name_starts bytes (found_free names bytes fits.0 free fits.1).0.0
  item_starts names (limited (a_number n) l) depth free fits =
      let same : n ≡ fits.0.0 = let e = fits.0.1 in cc in
      let high = fits.0.3 in
      starts_more ((decimal n ++ codes ":(") ++ list_bytes l) (codes ")") (starts_more (decimal n ++ codes ":(") (list_bytes l) (starts_more (decimal n) (codes ":(") (number_starts n (omega arith))))
  item_starts names (limited (a_constant bytes) l) depth free fits = absurd (let e = fits.0.1 in cc)
  item_starts names (in_burst l) depth free fits = (91, list_bytes l ++ codes "]", refl, λ e. omega arith)
  item_starts names (in_group l) depth free fits = (40, list_bytes l ++ codes ")", refl, λ e. omega arith)

-- the signs
ends_at : (b : ℕ) → (b < 48) ⊎ ((b ≡ 58) ⊎ ((b ≡ 59) ⊎ (b ≡ 93))) → EndsWord b
ends_at b h word = grind (arith, h, word)

comma_spelled : Spells (44 ∷ []) (symbol symbols.Comma ∷ []) (AfterSign 44)
comma_spelled = sign_spelled symbols.Comma 44 (omega arith) refl (inl (omega arith))

semicolon_spelled : Spells (59 ∷ []) (symbol symbols.Semicolon ∷ []) (AfterSign 59)
semicolon_spelled = sign_spelled symbols.Semicolon 59 (omega arith) refl (inl (omega arith))

colon_spelled : Spells (58 ∷ []) (symbol symbols.Colon ∷ []) (AfterSign 58)
colon_spelled = sign_spelled symbols.Colon 58 (omega arith) refl (inl (omega arith))

open_spelled : Spells (40 ∷ []) (symbol symbols.OpenParen ∷ []) (AfterSign 40)
open_spelled = sign_spelled symbols.OpenParen 40 (omega arith) refl (inl (omega arith))

close_spelled : Spells (41 ∷ []) (symbol symbols.CloseParen ∷ []) (AfterSign 41)
close_spelled = sign_spelled symbols.CloseParen 41 (omega arith) refl (inl (omega arith))

bracket_spelled : Spells (91 ∷ []) (symbol symbols.OpenBracket ∷ []) (AfterSign 91)
bracket_spelled = sign_spelled symbols.OpenBracket 91 (omega arith) refl (inr (inl (omega arith, omega arith)))

unbracket_spelled : Spells (93 ∷ []) (symbol symbols.CloseBracket ∷ []) (AfterSign 93)
unbracket_spelled = sign_spelled symbols.CloseBracket 93 (omega arith) refl (inr (inl (omega arith, omega arith)))

-- what stands behind a separator with its space
separated : (c : ℕ) (s : Symbol) (x y : List ℕ) (a b : List Lexeme) → (c ≡ 58 → ⊥) → (c ≡ 40 → ⊥) → EndsWord c → Spells (c ∷ []) (symbol s ∷ []) (AfterSign c) → Spells x a EndsWord → 0 < length b → Spells y b EndsWord →
    Spells ((x ++ (c ∷ 32 ∷ [])) ++ y) (a ++ symbol s ∷ b) EndsWord
separated c s x y a b not_colon not_open ends sign first some second =
    let behind = join (c ∷ []) (32 ∷ y) (symbol s ∷ []) b (AfterSign c) EndsWord sign (spaced y b EndsWord some second) (λ rest q. (λ e. absurd (not_colon e), λ e. absurd (not_open e))) in
    subst (λ z. Spells z (a ++ symbol s ∷ b) EndsWord) (sym (append_assoc x (c ∷ 32 ∷ []) y)) (join x (c ∷ (32 ∷ y)) a (symbol s ∷ b) EndsWord EndsWord first behind (λ rest q. ends))

-- a list, and the sign that closes it
closed : (c : ℕ) (s : Symbol) (y : List ℕ) (b : List Lexeme) → (c ≡ 58 → ⊥) → (c ≡ 40 → ⊥) → EndsWord c → Spells (c ∷ []) (symbol s ∷ []) (AfterSign c) → Spells y b EndsWord → Spells (y ++ (c ∷ [])) (b ++ symbol s ∷ []) EndsWord
closed c s y b not_colon not_open ends sign list =
    join y (c ∷ []) b (symbol s ∷ []) EndsWord EndsWord list (before (c ∷ []) (symbol s ∷ []) (AfterSign c) EndsWord (λ n q. (λ e. absurd (not_colon e), λ e. absurd (not_open e))) sign) (λ rest q. ends)

-- a list in parentheses
in_parens : (y : List ℕ) (b : List Lexeme) → Starts y → Spells y b EndsWord → Spells (40 ∷ (y ++ (41 ∷ []))) (symbol symbols.OpenParen ∷ (b ++ symbol symbols.CloseParen ∷ [])) EndsWord
in_parens y b starts list =
    join (40 ∷ []) (y ++ (41 ∷ [])) (symbol symbols.OpenParen ∷ []) (b ++ symbol symbols.CloseParen ∷ []) (AfterSign 40) EndsWord open_spelled
    (closed 41 symbols.CloseParen y b (λ e. omega arith) (λ e. omega arith) (ends_at 41 (inl (omega arith))) close_spelled list)
    (λ rest q. (λ e. absurd (omega arith), λ e. first_is (y ++ (41 ∷ [])) rest (starts_more y (41 ∷ []) starts)))

in_brackets : (y : List ℕ) (b : List Lexeme) → Spells y b EndsWord → Spells (91 ∷ (y ++ (93 ∷ []))) (symbol symbols.OpenBracket ∷ (b ++ symbol symbols.CloseBracket ∷ [])) EndsWord
in_brackets y b list =
    join (91 ∷ []) (y ++ (93 ∷ [])) (symbol symbols.OpenBracket ∷ []) (b ++ symbol symbols.CloseBracket ∷ []) (AfterSign 91) EndsWord bracket_spelled
    (closed 93 symbols.CloseBracket y b (λ e. omega arith) (λ e. omega arith) (ends_at 93 (inr (inr (inr refl)))) unbracket_spelled list)
    (λ rest q. (λ e. absurd (omega arith), λ e. absurd (omega arith)))

-- a number, a colon and a list in parentheses
bounded : (n : ℕ) (y : List ℕ) (b : List Lexeme) → n ≤ 65535 → Starts y → Spells y b EndsWord → Spells (((decimal n ++ codes ":(") ++ y) ++ codes ")") (number n ∷ symbol symbols.Colon ∷ symbol symbols.OpenParen ∷ (b ++ symbol symbols.CloseParen ∷ [])) EndsWord
bounded n y b small starts list =
    let group : List ℕ = 40 ∷ (y ++ (41 ∷ [])) in
    let group_lexemes : List Lexeme = symbol symbols.OpenParen ∷ (b ++ symbol symbols.CloseParen ∷ []) in
    let behind = join (58 ∷ []) group (symbol symbols.Colon ∷ []) group_lexemes (AfterSign 58) EndsWord colon_spelled (in_parens y b starts list) (λ rest q. (λ e d. absurd (omega arith), λ e. absurd (omega arith))) in
    let whole = join (decimal n) (58 ∷ group) (number n ∷ []) (symbol symbols.Colon ∷ group_lexemes) (λ b. IsDigit b → ⊥) EndsWord (number_spelled n small) behind (λ rest q d. omega (arith, d)) in
    let same : ((decimal n ++ codes ":(") ++ y) ++ codes ")" ≡ decimal n ++ (58 ∷ group) = append_assoc (decimal n ++ codes ":(") y (codes ")") ∙ append_assoc (decimal n) (codes ":(") (y ++ codes ")") in
    subst (λ z. Spells z (number n ∷ symbol symbols.Colon ∷ group_lexemes) EndsWord) (sym same) whole

mutual
  pub list_spelled : (names : List (List ℕ)) (l : ListText) (depth : ℕ) → AreFreeNames names → ListFits (without_constants names) l depth → Spells (list_bytes l) (list_lexemes l) EndsWord
  list_spelled names (last_seq s) depth free fits = seq_spelled names s depth free fits
  list_spelled names (seq_and s l) depth free fits =
      separated 44 symbols.Comma (seq_bytes s) (list_bytes l) (seq_lexemes s) (list_lexemes l) (λ e. omega arith) (λ e. omega arith) (ends_at 44 (inl (omega arith))) comma_spelled
      (seq_spelled names s depth free fits.0) (list_some l) (list_spelled names l depth free fits.1)

  pub seq_spelled : (names : List (List ℕ)) (s : SeqText) (depth : ℕ) → AreFreeNames names → SeqFits (without_constants names) s depth → Spells (seq_bytes s) (seq_lexemes s) EndsWord
  seq_spelled names (last_item i) depth free fits = item_spelled names i depth free fits
  seq_spelled names (item_and i s) depth free fits =
      separated 59 symbols.Semicolon (item_bytes i) (seq_bytes s) (item_lexemes i) (seq_lexemes s) (λ e. omega arith) (λ e. omega arith) (ends_at 59 (inr (inr (inl refl)))) semicolon_spelled
      (item_spelled names i depth free fits.0) (seq_some s) (seq_spelled names s depth free fits.1)

  pub item_spelled : (names : List (List ℕ)) (i : ItemText) (depth : ℕ) → AreFreeNames names → ItemFits (without_constants names) i depth → Spells (item_bytes i) (item_lexemes i) EndsWord
  item_spelled names (operation bytes) depth free fits = let name = found_free names bytes fits.0 free fits.1 in name_spelled bytes name.0 name.1
  item_spelled names (limited (a_number n) l) depth free fits =
      let same : n ≡ fits.0.0 = let e = fits.0.1 in cc in
      let high = fits.0.3 in
      bounded n (list_bytes l) (list_lexemes l) (omega arith) (list_starts names l (depth - 1) free fits.2) (list_spelled names l (depth - 1) free fits.2)
  item_spelled names (limited (a_constant bytes) l) depth free fits = absurd (let e = fits.0.1 in cc)
  item_spelled names (in_burst l) depth free fits = in_brackets (list_bytes l) (list_lexemes l) (list_spelled names l (depth - 1) free fits.1)
  item_spelled names (in_group l) depth free fits = in_parens (list_bytes l) (list_lexemes l) (list_starts names l (depth - 1) free fits.1) (list_spelled names l (depth - 1) free fits.1)

-- the words around a path
no_letters : All IsWordByte []
no_letters k d within = absurd (omega arith)

letters_more : (b : ℕ) (bytes : List ℕ) → 97 ≤ b → b ≤ 122 → All IsWordByte bytes → All IsWordByte (b ∷ bytes)
letters_more b bytes low high h zero d within = inl (inl (low, high))
letters_more b bytes low high h (suc k) d within = h k d (omega arith)

path_word : IsIdentifier (symbol_text symbols.Path)
path_word = (inl (omega arith, omega arith), letters_more 97 (codes "th") (omega arith) (omega arith) (letters_more 116 (codes "h") (omega arith) (omega arith) (letters_more 104 [] (omega arith) (omega arith) no_letters)), omega arith)

end_word : IsIdentifier (symbol_text symbols.End)
end_word = (inl (omega arith, omega arith), letters_more 110 (codes "d") (omega arith) (omega arith) (letters_more 100 [] (omega arith) (omega arith) no_letters), omega arith)

-- the whole of a path
pub path_spelled : (y : List ℕ) (b : List Lexeme) → 0 < length b → Spells y b EndsWord → Spells ((codes "path " ++ y) ++ codes " end") (symbol symbols.Path ∷ (b ++ symbol symbols.End ∷ [])) EndsWord
path_spelled y b some list =
    let last = spaced (codes "end") (symbol symbols.End ∷ []) EndsWord (omega arith) (reserved_spelled symbols.End (omega arith) end_word refl) in
    let middle = join y (32 ∷ codes "end") b (symbol symbols.End ∷ []) EndsWord EndsWord list last (λ rest q. ends_at 32 (inl (omega arith))) in
    let n = length-append b (symbol symbols.End ∷ []) in
    join (codes "path") (32 ∷ (y ++ 32 ∷ codes "end")) (symbol symbols.Path ∷ []) (b ++ symbol symbols.End ∷ []) EndsWord EndsWord (reserved_spelled symbols.Path (omega arith) path_word refl)
    (spaced (y ++ 32 ∷ codes "end") (b ++ symbol symbols.End ∷ []) EndsWord (omega arith) middle) (λ rest q. ends_at 32 (inl (omega arith)))

-- tokens of the whole of some bytes
pub record Lexed (bytes : List ℕ) (ls : List Lexeme) : Type 0 where
  pub all : List Placed
  pub tokens : AreTokens bytes all
  pub are : map (λ (t : Placed). t.lexeme) all ≡ ls ++ end_mark ∷ []

pub lexed : (bytes : List ℕ) (ls : List Lexeme) → Spells bytes ls EndsWord → Lexed bytes ls
lexed bytes ls spelled =
    let s = moved ([] ++ (bytes ++ [])) bytes 0 0 ls (0 + length bytes) (length bytes) (append-nil bytes) refl (omega arith) (spelled [] [] (ends_at 0 (inl (omega arith)))) in
    record {
      all = s.tokens ++ end_at (length bytes) ∷ [];
      tokens = record { tokens = s.tokens; last = length bytes; in_order = s.in_order; gap = none; ends = refl };
      are = map_append s.tokens (end_at (length bytes) ∷ []) ∙ ap (λ x. x ++ end_mark ∷ []) s.are;
    }

pub canonical_lexed : (names : List (List ℕ)) (e : Path) (depth : ℕ) → AreFreeNames names → ListFits (without_constants names) (list_text names e) depth → Lexed (canonical_bytes names e) (canonical_lexemes names e)
canonical_lexed names e depth free fits =
    lexed (canonical_bytes names e) (canonical_lexemes names e) (path_spelled (list_bytes (list_text names e)) (list_lexemes (list_text names e)) (list_some (list_text names e)) (list_spelled names (list_text names e) depth free fits))
