-- Bytes that are spelled so wherever they stand.
use Rattle.std.proofs.Common.{◌≡◌, ◌≢◌, ℕ, zero, suc, ◌+◌, ◌-◌, ◌<◌, ◌≤◌, List, [], ◌∷◌, ◌++◌, map, length, take, drop, get_or, slice_index, inl, inr, refl, sym, ap, subst, ◌∙◌, append_assoc, arith}
use Rattle.std.specs.Prelude.{slice_range, decimal}
use Rattle.std.specs.Str.{str_to_ascii_lowercase}
use Rattle.std.specs.Str.Parse.{digits_value}
use Rattle.std.proofs.lemmas.Fmt.{decimal_is_IsNumeral}
use Rattle.std.proofs.lemmas.Str.Parse.{digit_at}
use Rattle.std.proofs.lemmas.List.{length-append, get_or-append-add, get_or_append_left, get_or-append_right, drop_at}
use Rattle.std.proofs.Math.Seq.{take-append_seam, get_or-append_seam}
use Rattle.path_tree.specs.declared.token.Symbol.{Symbol}
use Rattle.path_tree.specs.Identifier.{IsLetter, IsWordByte, IsDigit, IsIdentifier, IsName}
use Rattle.path_tree.specs.Lexeme.{Lexeme, symbol, number, identifier, symbol_text}
use Rattle.path_tree.specs.Gap.{IsBlank, none, blank}
use Rattle.path_tree.specs.Tokens.{Placed, IsReserved, IsRun, IsWord, IsToken, Tokens}
use Rattle.path_tree.proofs.Spelling.{name_lower}

-- tokens of these lexemes stand from one place to the other
pub record Stand (source : List ℕ) (from : ℕ) (ls : List Lexeme) (to : ℕ) : Type 0 where
  pub tokens : List Placed
  pub are : map (λ (t : Placed). t.lexeme) tokens ≡ ls
  pub in_order : Tokens source from tokens to

-- wherever these bytes stand before a byte that may follow, or at the end, these lexemes stand
abbrev pub Spells : List ℕ → List Lexeme → (ℕ → Type 0) → Type 0
Spells bytes ls Next = (front rest : List ℕ) → Next (slice_index rest 0) → Stand (front ++ (bytes ++ rest)) (length front) ls (length front + length bytes)

-- what may follow a word
abbrev pub EndsWord : ℕ → Type 0
EndsWord b = IsWordByte b → ⊥

tokens_then : (source : List ℕ) (from middle to : ℕ) (ts us : List Placed) → Tokens source from ts middle → Tokens source middle us to → Tokens source from (ts ++ us) to
tokens_then source from middle to [] us h k = subst (λ m. Tokens source m us to) (sym h) k
tokens_then source from middle to (t ∷ ts) us h k = (h.0, h.1, tokens_then source t.end middle to ts us h.2 k)

pub moved : (source other : List ℕ) (from start : ℕ) (ls : List Lexeme) (to end : ℕ) → source ≡ other → from ≡ start → to ≡ end → Stand source from ls to → Stand other start ls end
moved source other from start ls to end a b c s =
    record {
      tokens = s.tokens;
      are = s.are;
      in_order = subst (λ z. Tokens other start s.tokens z) c (subst (λ y. Tokens other y s.tokens to) b (subst (λ x. Tokens x from s.tokens to) a s.in_order));
    }

pub map_append : (ts us : List Placed) → map (λ (t : Placed). t.lexeme) (ts ++ us) ≡ map (λ (t : Placed). t.lexeme) ts ++ map (λ (t : Placed). t.lexeme) us
map_append [] us = refl
map_append (t ∷ ts) us = ap (λ r. t.lexeme ∷ r) (map_append ts us)

pub stand_then : (source : List ℕ) (from middle to : ℕ) (a b : List Lexeme) → Stand source from a middle → Stand source middle b to → Stand source from (a ++ b) to
stand_then source from middle to a b s t =
    record {
      tokens = s.tokens ++ t.tokens;
      are = map_append s.tokens t.tokens ∙ ap (λ x. x ++ map (λ (t : Placed). t.lexeme) t.tokens) s.are ∙ ap (λ y. a ++ y) t.are;
      in_order = tokens_then source from middle to s.tokens t.tokens s.in_order t.in_order;
    }

-- one spelling after another
pub join : (x y : List ℕ) (a b : List Lexeme) (P Q : ℕ → Type 0) → Spells x a P → Spells y b Q → ((rest : List ℕ) → Q (slice_index rest 0) → P (slice_index (y ++ rest) 0)) → Spells (x ++ y) (a ++ b) Q
join x y a b P Q first second next front rest h =
    let source : List ℕ = front ++ ((x ++ y) ++ rest) in
    let e : front ++ (x ++ (y ++ rest)) ≡ source = ap (λ z. front ++ z) (sym (append_assoc x y rest)) in
    let n = length-append front x in
    let m = length-append x y in
    let s = moved (front ++ (x ++ (y ++ rest))) source (length front) (length front) a (length front + length x) (length (front ++ x)) e refl (sym n) (first front (y ++ rest) (next rest h)) in
    let t = moved ((front ++ x) ++ (y ++ rest)) source (length (front ++ x)) (length (front ++ x)) b (length (front ++ x) + length y) (length front + length (x ++ y)) (append_assoc front x (y ++ rest) ∙ e) refl (omega arith) (second (front ++ x) rest h) in
    stand_then source (length front) (length (front ++ x)) (length front + length (x ++ y)) a b s t

pub before : (x : List ℕ) (a : List Lexeme) (P Q : ℕ → Type 0) → ((b : ℕ) → Q b → P b) → Spells x a P → Spells x a Q
before x a P Q weaker h front rest q = h front rest (weaker (slice_index rest 0) q)

gap_before : (source : List ℕ) (from to : ℕ) (ts : List Placed) (ls : List Lexeme) → map (λ (t : Placed). t.lexeme) ts ≡ ls → 0 < length ls → IsBlank (slice_index source from) → Tokens source (from + 1) ts to → Tokens source from ts to
gap_before source from to [] ls are some b h = absurd (let n = ap length are in omega arith)
gap_before source from to (t ∷ ts) ls are some b h = (blank b h.0, h.1, h.2)

-- a space before a spelling
pub spaced : (y : List ℕ) (ls : List Lexeme) (Q : ℕ → Type 0) → 0 < length ls → Spells y ls Q → Spells (32 ∷ y) ls Q
spaced y ls Q some h front rest q =
    let source : List ℕ = front ++ (32 ∷ (y ++ rest)) in
    let n = length-append front (32 ∷ []) in
    let s = moved ((front ++ 32 ∷ []) ++ (y ++ rest)) source (length (front ++ 32 ∷ [])) (length front + 1) ls (length (front ++ 32 ∷ []) + length y) (length front + length (32 ∷ y)) (append_assoc front (32 ∷ []) (y ++ rest)) (omega arith) (omega arith) (h (front ++ 32 ∷ []) rest q) in
    record {
      tokens = s.tokens;
      are = s.are;
      in_order = gap_before source (length front) (length front + length (32 ∷ y)) s.tokens ls s.are some (inl (get_or-append_seam front 32 (y ++ rest) 0)) s.in_order;
    }

-- the bytes of a piece, and the one behind it
byte_in : (front piece rest : List ℕ) (k : ℕ) → length front ≤ k → k < length front + length piece → slice_index (front ++ (piece ++ rest)) k ≡ slice_index piece (k - length front)
byte_in front piece rest k low high = get_or-append_right front (piece ++ rest) (length front) k 0 refl low ∙ get_or_append_left piece rest 0 (k - length front) (omega arith)

byte_behind : (front piece rest : List ℕ) → slice_index (front ++ (piece ++ rest)) (length front + length piece) ≡ slice_index rest 0
byte_behind front piece rest =
    let n : length piece + 0 ≡ length piece = omega arith in
    get_or-append-add front (piece ++ rest) (length piece) 0 ∙ ap (λ k. get_or (piece ++ rest) k 0) (sym n) ∙ get_or-append-add piece rest 0 0

piece_range : (front piece rest : List ℕ) → slice_range (front ++ (piece ++ rest)) (length front) (length front + length piece) ≡ piece
piece_range front piece rest =
    let n : (length front + length piece) - length front ≡ length piece = omega arith in
    ap (λ k. take k (drop (length front) (front ++ (piece ++ rest)))) n ∙ ap (take (length piece)) (drop_at front (piece ++ rest) (length front) refl) ∙ take-append_seam piece rest

run_here : (P : ℕ → Type 0) (front piece rest : List ℕ) → 0 < length piece → ((k : ℕ) → k < length piece → P (slice_index piece k)) → (P (slice_index rest 0) → ⊥) →
    IsRun P (front ++ (piece ++ rest)) (length front) (length front + length piece)
run_here P front piece rest some each ends =
    let n = length-append front (piece ++ rest) in
    let m = length-append piece rest in (
      omega arith,
      omega arith,
      λ k low high. subst P (sym (byte_in front piece rest k low high)) (each (k - length front) (omega arith)),
      λ within h. ends (subst P (byte_behind front piece rest) h),
    )

identifier_bytes : (bytes : List ℕ) → IsIdentifier bytes → (k : ℕ) → k < length bytes → IsWordByte (slice_index bytes k)
identifier_bytes [] h k within = absurd (omega arith)
identifier_bytes (b ∷ bytes) h zero within = inl h.0
identifier_bytes (b ∷ bytes) h (suc k) within = h.1 k 0 (omega arith)

identifier_some : (bytes : List ℕ) → IsIdentifier bytes → 0 < length bytes
identifier_some [] h = absurd h
identifier_some (b ∷ bytes) h = omega arith

identifier_short : (bytes : List ℕ) → IsIdentifier bytes → length bytes ≤ 64
identifier_short [] h = absurd h
identifier_short (b ∷ bytes) h = let n = h.2 in omega arith

identifier_first : (bytes : List ℕ) → IsIdentifier bytes → IsLetter (slice_index bytes 0)
identifier_first [] h = absurd h
identifier_first (b ∷ bytes) h = h.0

word_here : (front bytes rest : List ℕ) → IsIdentifier bytes → EndsWord (slice_index rest 0) → IsWord (front ++ (bytes ++ rest)) (length front) (length front + length bytes)
word_here front bytes rest h ends =
    let some = identifier_some bytes h in
    let short = identifier_short bytes h in
    let same : length front - length front ≡ 0 = omega arith in
    let at_first : slice_index (front ++ (bytes ++ rest)) (length front) ≡ slice_index bytes 0 = byte_in front bytes rest (length front) (omega arith) (omega arith) ∙ ap (slice_index bytes) same in
    (subst IsLetter (sym at_first) (identifier_first bytes h), run_here IsWordByte front bytes rest some (identifier_bytes bytes h) ends, omega arith)

pub single : (source : List ℕ) (from : ℕ) (l : Lexeme) (to : ℕ) → IsToken source l from to → Stand source from (l ∷ []) to
single source from l to h = record { tokens = record { lexeme = l; start = from; end = to } ∷ []; are = refl; in_order = (none, h, refl) }

pub name_spelled : (bytes : List ℕ) → IsName bytes → ((s : Symbol) → IsReserved s → bytes ≢ symbol_text s) → Spells bytes (identifier bytes ∷ []) EndsWord
name_spelled bytes name free front rest ends =
    let lower : bytes ≡ str_to_ascii_lowercase (slice_range (front ++ (bytes ++ rest)) (length front) (length front + length bytes)) = sym (name_lower bytes name.1) ∙ ap str_to_ascii_lowercase (sym (piece_range front bytes rest)) in
    single (front ++ (bytes ++ rest)) (length front) (identifier bytes) (length front + length bytes) (word_here front bytes rest name.0 ends, lower, free)

pub reserved_spelled : (s : Symbol) → IsReserved s → IsIdentifier (symbol_text s) → str_to_ascii_lowercase (symbol_text s) ≡ symbol_text s → Spells (symbol_text s) (symbol s ∷ []) EndsWord
reserved_spelled s reserved word low front rest ends =
    let bytes : List ℕ = symbol_text s in
    single (front ++ (bytes ++ rest)) (length front) (symbol s) (length front + length bytes) (inr (reserved, word_here front bytes rest word ends, ap str_to_ascii_lowercase (piece_range front bytes rest) ∙ low))

pub number_spelled : (n : ℕ) → n ≤ 65535 → Spells (decimal n) (number n ∷ []) (λ b. IsDigit b → ⊥)
number_spelled n small front rest ends =
    let d = decimal_is_IsNumeral n (omega arith) in
    let digit : (k : ℕ) → k < length (decimal n) → IsDigit (slice_index (decimal n) k) = λ k within. digit_at (decimal n) k d.0.1 within in
    let value : n ≡ digits_value 10 (slice_range (front ++ (decimal n ++ rest)) (length front) (length front + length (decimal n))) = sym d.1 ∙ ap (digits_value 10) (sym (piece_range front (decimal n) rest)) in
    single (front ++ (decimal n ++ rest)) (length front) (number n) (length front + length (decimal n)) (run_here IsDigit front (decimal n) rest d.0.0 digit ends, value, omega arith)
