-- What is spelled so is read.
use Rattle.std.proofs.Common.{◌≡◌, ℕ, ◌-◌, ◌<◌, ◌≤◌, false, List, [], ◌∷◌, ◌++◌, length, Some, None, refl, ◌∙◌, append_assoc, arith}
use Rattle.std.specs.Prelude.{unwrap_or}
use Rattle.std.proofs.lemmas.Bool.{le-leb}
use Rattle.std.proofs.lemmas.List.{length-append}
use Rattle.path_tree.specs.declared.token.Symbol.{Symbol}
use Rattle.path_tree.specs.declared.token.Symbol.TheVariants.{Comma, Semicolon, Colon, OpenParen, CloseParen, OpenBracket, CloseBracket}
use Rattle.path_tree.specs.Path.{Path, name, bound, burst}
use Rattle.path_tree.specs.Parts.{SomePaths, one, several, put, as_list, as_sequence}
use Rattle.path_tree.specs.Lexeme.{Lexeme, symbol, identifier}
use Rattle.path_tree.specs.Reading.{symbol_at, Reader, was_seen, name_at, limit_of, group_in, burst_in, bounded_in, opened_in, named_in, item_in, with_others, parts_at, sequence_in, list_in, nested_at}
use Rattle.path_tree.specs.Known.{Known, place_of}
use Rattle.path_tree.specs.Grammar.{Limit, a_number, a_constant, ListText, last_seq, seq_and, SeqText, last_item, item_and, ItemText, operation, limited, in_burst, in_group, limit_lexeme, list_lexemes, seq_lexemes, item_lexemes, limit_value, list_parts, seq_parts, item_tree, list_tree, ListFits, SeqFits, ItemFits}
use Rattle.path_tree.proofs.Steps.{parts_step, nested_step}
use Rattle.path_tree.proofs.Seen.{seen_after, IsNew, seen_after_parts, PartsNew, put_new, put_seen, list_new, list_seen, sequence_new, sequence_seen}

-- what may stand behind an item, a sequence, a list
pub record EndsItem (rest : List Lexeme) : Type 0 where
  pub no_colon : symbol_at Colon rest ≡ None

pub record EndsSeq (rest : List Lexeme) : Type 0 where
  pub no_colon : symbol_at Colon rest ≡ None
  pub no_semicolon : symbol_at Semicolon rest ≡ None

pub record EndsList (rest : List Lexeme) : Type 0 where
  pub no_colon : symbol_at Colon rest ≡ None
  pub no_semicolon : symbol_at Semicolon rest ≡ None
  pub no_comma : symbol_at Comma rest ≡ None

-- one member, and no separator behind it
parts_end : (separator : Symbol) (member : Reader Path) (left : ℕ) (seen : List ℕ) (ws : List Lexeme) (e : Path) (after : List ℕ) (rest : List Lexeme) → 0 < left → member seen ws ≡ Some (e, after, rest) → symbol_at separator rest ≡ None →
    parts_at separator member left seen ws ≡ Some (one e, after, rest)
unfolding with_others
parts_end separator member left seen ws e after rest lt h k = rw (parts_step separator member left seen ws lt, h, k) refl

-- one member, a separator and others
parts_more : (separator : Symbol) (member : Reader Path) (left : ℕ) (seen : List ℕ) (ws : List Lexeme) (e : Path) (after : List ℕ) (behind others : List Lexeme) (p : SomePaths) (last : List ℕ) (rest : List Lexeme) →
    0 < left → member seen ws ≡ Some (e, after, behind) → symbol_at separator behind ≡ Some others → parts_at separator member (left - 1) after others ≡ Some (p, last, rest) →
    parts_at separator member left seen ws ≡ Some (several (put e p), last, rest)
unfolding with_others
parts_more separator member left seen ws e after behind others p last rest lt h k m = rw (parts_step separator member left seen ws lt, h, k, m) refl

in_sequence : (item : Reader Path) (most : ℕ) (seen : List ℕ) (ws : List Lexeme) (p : SomePaths) (after : List ℕ) (rest : List Lexeme) → parts_at Semicolon item most seen ws ≡ Some (p, after, rest) → sequence_in item most seen ws ≡ Some (as_sequence p, after, rest)
unfolding sequence_in
in_sequence item most seen ws p after rest h = rw h refl

pub in_list : (item : Reader Path) (most : ℕ) (seen : List ℕ) (ws : List Lexeme) (p : SomePaths) (after : List ℕ) (rest : List Lexeme) → parts_at Comma (sequence_in item most) most seen ws ≡ Some (p, after, rest) → list_in item most seen ws ≡ Some (as_list p, after, rest)
unfolding list_in
in_list item most seen ws p after rest h = rw h refl

name_again : (known : Known) (nested : Reader Path) (seen : List ℕ) (op : ℕ) (bytes : List ℕ) (rest : List Lexeme) → place_of known.operations bytes ≡ Some op → was_seen seen op ≡ false → symbol_at Colon rest ≡ None →
    item_in known nested seen (identifier bytes ∷ rest) ≡ Some (name op, seen ++ op ∷ [], rest)
unfolding item_in named_in name_at
name_again known nested seen op bytes rest known_name new ends = rw (ends, known_name, new) refl

group_again : (nested : Reader Path) (seen : List ℕ) (ws : List Lexeme) (e : Path) (after : List ℕ) (rest : List Lexeme) → nested seen ws ≡ Some (e, after, symbol CloseParen ∷ rest) → group_in nested seen ws ≡ Some (e, after, rest)
unfolding group_in
group_again nested seen ws e after rest h = rw h refl

burst_again : (nested : Reader Path) (seen : List ℕ) (ws : List Lexeme) (e : Path) (after : List ℕ) (rest : List Lexeme) → nested seen ws ≡ Some (e, after, symbol CloseBracket ∷ rest) → burst_in nested seen ws ≡ Some (burst e, after, rest)
unfolding burst_in
burst_again nested seen ws e after rest h = rw h refl

limit_again : (n : ℕ) → 1 ≤ n → n ≤ 65535 → limit_of n ≡ Some n
unfolding limit_of
limit_again n low high = rw (le-leb 1 n low, le-leb n 65535 high) refl

limited_again : (known : Known) (nested : Reader Path) (n : Limit) (value : ℕ) (seen : List ℕ) (ws : List Lexeme) (e : Path) (after : List ℕ) (rest : List Lexeme) → limit_value known n ≡ Some value → 1 ≤ value → value ≤ 65535 →
    nested seen ws ≡ Some (e, after, symbol CloseParen ∷ rest) → item_in known nested seen (limit_lexeme n ∷ symbol Colon ∷ symbol OpenParen ∷ ws) ≡ Some (bound value e, after, rest)
unfolding item_in named_in bounded_in
limited_again known nested (a_number n) value seen ws e after rest is low high h =
    let same : n ≡ value = cc in
    rw (same, limit_again value low high, group_again nested seen ws e after rest h) refl
limited_again known nested (a_constant bytes) value seen ws e after rest is low high h =
    rw (is, limit_again value low high, group_again nested seen ws e after rest h) refl

burst_step : (known : Known) (nested : Reader Path) (seen : List ℕ) (ws : List Lexeme) → item_in known nested seen (symbol OpenBracket ∷ ws) ≡ burst_in nested seen ws
unfolding item_in opened_in
burst_step known nested seen ws = refl

group_step : (known : Known) (nested : Reader Path) (seen : List ℕ) (ws : List Lexeme) → item_in known nested seen (symbol OpenParen ∷ ws) ≡ group_in nested seen ws
unfolding item_in opened_in
group_step known nested seen ws = refl

regrouped : (a : List Lexeme) (s : Lexeme) (b rest : List Lexeme) → (a ++ s ∷ b) ++ rest ≡ a ++ (s ∷ (b ++ rest))
regrouped a s b rest = append_assoc a (s ∷ b) rest

nested_from : (known : Known) (most depth : ℕ) (seen : List ℕ) (l : ListText) (rest : List Lexeme) → 0 < depth →
    parts_at Comma (sequence_in (item_in known (nested_at known most (depth - 1))) most) most seen (list_lexemes l ++ rest) ≡ Some (list_parts known l, seen_after_parts (list_parts known l) seen, rest) →
    nested_at known most depth seen (list_lexemes l ++ rest) ≡ Some (list_tree known l, seen_after (list_tree known l) seen, rest)
nested_from known most depth seen l rest deep r =
    let p : SomePaths = list_parts known l in
    let item : Reader Path = item_in known (nested_at known most (depth - 1)) in
    rw (nested_step known most depth seen (list_lexemes l ++ rest) deep, list_seen p seen) (in_list item most seen (list_lexemes l ++ rest) p (seen_after_parts p seen) rest r)

mutual
  pub list_again : (known : Known) (most depth left : ℕ) (seen : List ℕ) (l : ListText) (rest : List Lexeme) → ListFits known l depth → PartsNew (list_parts known l) seen → length (list_lexemes l) < left → left ≤ most → EndsList rest →
      parts_at Comma (sequence_in (item_in known (nested_at known most depth)) most) left seen (list_lexemes l ++ rest) ≡ Some (list_parts known l, seen_after_parts (list_parts known l) seen, rest)
  list_again known most depth left seen (last_seq s) rest fits new short within ends =
      let item : Reader Path = item_in known (nested_at known most depth) in
      let p : SomePaths = seq_parts known s in
      let r = seq_again known most depth most seen s rest fits (sequence_new p seen new) (omega arith) (omega arith) (record { no_colon = ends.no_colon; no_semicolon = ends.no_semicolon }) in
      let r' = in_sequence item most seen (seq_lexemes s ++ rest) p (seen_after_parts p seen) rest r in
      rw (sequence_seen p seen) (parts_end Comma (sequence_in item most) left seen (seq_lexemes s ++ rest) (as_sequence p) (seen_after_parts p seen) rest (omega arith) r' ends.no_comma)
  list_again known most depth left seen (seq_and s l) rest fits new short within ends =
      let item : Reader Path = item_in known (nested_at known most depth) in
      let p : SomePaths = seq_parts known s in
      let q : SomePaths = list_parts known l in
      let e : Path = as_sequence p in
      let behind : List Lexeme = symbol Comma ∷ (list_lexemes l ++ rest) in
      let both = put_new e q seen new in
      let lengths = length-append (seq_lexemes s) (symbol Comma ∷ list_lexemes l) in
      let r = seq_again known most depth most seen s behind fits.0 (sequence_new p seen both.0) (omega arith) (omega arith) (record { no_colon = refl; no_semicolon = refl }) in
      let r' : sequence_in item most seen (seq_lexemes s ++ behind) ≡ Some (e, seen_after e seen, behind) = rw (sequence_seen p seen) (in_sequence item most seen (seq_lexemes s ++ behind) p (seen_after_parts p seen) behind r) in
      let others = list_again known most depth (left - 1) (seen_after e seen) l rest fits.1 both.1 (omega arith) (omega arith) ends in
      rw (regrouped (seq_lexemes s) (symbol Comma) (list_lexemes l) rest, put_seen e q seen)
      (parts_more Comma (sequence_in item most) left seen (seq_lexemes s ++ behind) e (seen_after e seen) behind (list_lexemes l ++ rest) q (seen_after_parts q (seen_after e seen)) rest (omega arith) r' refl others)

  pub seq_again : (known : Known) (most depth left : ℕ) (seen : List ℕ) (s : SeqText) (rest : List Lexeme) → SeqFits known s depth → PartsNew (seq_parts known s) seen → length (seq_lexemes s) < left → left ≤ most → EndsSeq rest →
      parts_at Semicolon (item_in known (nested_at known most depth)) left seen (seq_lexemes s ++ rest) ≡ Some (seq_parts known s, seen_after_parts (seq_parts known s) seen, rest)
  seq_again known most depth left seen (last_item i) rest fits new short within ends =
      let item : Reader Path = item_in known (nested_at known most depth) in
      let e : Path = item_tree known i in
      let r = item_again known most depth seen i rest fits new (omega arith) (record { no_colon = ends.no_colon }) in
      parts_end Semicolon item left seen (item_lexemes i ++ rest) e (seen_after e seen) rest (omega arith) r ends.no_semicolon
  seq_again known most depth left seen (item_and i s) rest fits new short within ends =
      let item : Reader Path = item_in known (nested_at known most depth) in
      let e : Path = item_tree known i in
      let q : SomePaths = seq_parts known s in
      let behind : List Lexeme = symbol Semicolon ∷ (seq_lexemes s ++ rest) in
      let both = put_new e q seen new in
      let lengths = length-append (item_lexemes i) (symbol Semicolon ∷ seq_lexemes s) in
      let r = item_again known most depth seen i behind fits.0 both.0 (omega arith) (record { no_colon = refl }) in
      let others = seq_again known most depth (left - 1) (seen_after e seen) s rest fits.1 both.1 (omega arith) (omega arith) ends in
      rw (regrouped (item_lexemes i) (symbol Semicolon) (seq_lexemes s) rest, put_seen e q seen)
      (parts_more Semicolon item left seen (item_lexemes i ++ behind) e (seen_after e seen) behind (seq_lexemes s ++ rest) q (seen_after_parts q (seen_after e seen)) rest (omega arith) r refl others)

  pub item_again : (known : Known) (most depth : ℕ) (seen : List ℕ) (i : ItemText) (rest : List Lexeme) → ItemFits known i depth → IsNew (item_tree known i) seen → length (item_lexemes i) < most → EndsItem rest →
      item_in known (nested_at known most depth) seen (item_lexemes i ++ rest) ≡ Some (item_tree known i, seen_after (item_tree known i) seen, rest)
  item_again known most depth seen (operation bytes) rest fits new short ends =
      let op : ℕ = fits.0 in
      let is : unwrap_or (place_of known.operations bytes) 0 ≡ op = rw fits.1 refl in
      let unseen : was_seen seen op ≡ false = rw is at new in
      rw is (name_again known (nested_at known most depth) seen op bytes rest fits.1 unseen ends.no_colon)
  item_again known most depth seen (limited n l) rest fits new short ends =
      let value : ℕ = fits.0.0 in
      let p : SomePaths = list_parts known l in
      let is : unwrap_or (limit_value known n) 0 ≡ value = rw fits.0.1 refl in
      let lengths = length-append (list_lexemes l) (symbol CloseParen ∷ []) in
      let r = nested_from known most depth seen l (symbol CloseParen ∷ rest) fits.1 (list_again known most (depth - 1) most seen l (symbol CloseParen ∷ rest) fits.2 (list_new p seen new) (omega arith) (omega arith) (record { no_colon = refl; no_semicolon = refl; no_comma = refl })) in
      rw (is, regrouped (list_lexemes l) (symbol CloseParen) [] rest)
      (limited_again known (nested_at known most depth) n value seen (list_lexemes l ++ symbol CloseParen ∷ rest) (as_list p) (seen_after (as_list p) seen) rest fits.0.1 fits.0.2 fits.0.3 r)
  item_again known most depth seen (in_burst l) rest fits new short ends =
      let p : SomePaths = list_parts known l in
      let lengths = length-append (list_lexemes l) (symbol CloseBracket ∷ []) in
      let r = nested_from known most depth seen l (symbol CloseBracket ∷ rest) fits.0 (list_again known most (depth - 1) most seen l (symbol CloseBracket ∷ rest) fits.1 (list_new p seen new) (omega arith) (omega arith) (record { no_colon = refl; no_semicolon = refl; no_comma = refl })) in
      rw (regrouped (list_lexemes l) (symbol CloseBracket) [] rest) (burst_step known (nested_at known most depth) seen (list_lexemes l ++ symbol CloseBracket ∷ rest) ∙ burst_again (nested_at known most depth) seen (list_lexemes l ++ symbol CloseBracket ∷ rest) (as_list p) (seen_after (as_list p) seen) rest r)
  item_again known most depth seen (in_group l) rest fits new short ends =
      let p : SomePaths = list_parts known l in
      let lengths = length-append (list_lexemes l) (symbol CloseParen ∷ []) in
      let r = nested_from known most depth seen l (symbol CloseParen ∷ rest) fits.0 (list_again known most (depth - 1) most seen l (symbol CloseParen ∷ rest) fits.1 (list_new p seen new) (omega arith) (omega arith) (record { no_colon = refl; no_semicolon = refl; no_comma = refl })) in
      rw (regrouped (list_lexemes l) (symbol CloseParen) [] rest) (group_step known (nested_at known most depth) seen (list_lexemes l ++ symbol CloseParen ∷ rest) ∙ group_again (nested_at known most depth) seen (list_lexemes l ++ symbol CloseParen ∷ rest) (as_list p) (seen_after (as_list p) seen) rest r)
