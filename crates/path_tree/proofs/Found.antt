-- What is read is spelled so.
use Rattle.std.proofs.Common.{◌≡◌, ℕ, zero, suc, ◌-◌, ◌<◌, ◌≤◌, Bool, true, false, cond, List, [], ◌∷◌, ◌++◌, Option, Some, None, refl, sym, ap, subst, ◌∙◌, append_assoc, arith, inl, inr, ◌⊎◌}
use Rattle.std.specs.Prelude.{unwrap_or, nat_le, ◌&&◌}
use Rattle.std.proofs.lemmas.Bool.{leb-true}
use Rattle.path_tree.specs.Lexeme.{same_symbol, Lexeme, symbol, number, identifier, string, end_mark}
use Rattle.path_tree.specs.declared.token.Symbol.{Symbol}
use Rattle.path_tree.specs.declared.token.Symbol.TheVariants.{Comma, Semicolon, Colon, OpenParen, CloseParen, OpenBracket, CloseBracket}
use Rattle.path_tree.specs.Path.{Path, name, bound, burst}
use Rattle.path_tree.specs.Parts.{SomePaths, one, several, put, as_list, as_sequence}
use Rattle.path_tree.specs.Reading.{symbol_at, Reader, ◌>>=◌, was_seen, name_at, limit_of, group_in, burst_in, bounded_in, opened_in, named_in, item_in, with_others, parts_at, sequence_in, list_in, nested_at}
use Rattle.path_tree.specs.Known.{Known, place_of, value_of}
use Rattle.path_tree.specs.Grammar.{Limit, a_number, a_constant, ListText, last_seq, seq_and, SeqText, last_item, item_and, ItemText, operation, limited, in_burst, in_group, limit_lexeme, list_lexemes, seq_lexemes, item_lexemes, limit_value, list_parts, seq_parts, item_tree, list_tree, ListFits, SeqFits, ItemFits}
use Rattle.path_tree.proofs.SymbolNumbers.{symbols_same}
use Rattle.path_tree.proofs.Seen.{seen_after, IsNew, seen_after_parts, PartsNew, new_put, put_seen, new_list, list_seen, new_sequence, sequence_seen}

pub bind_some : {A B : Type 0} (o : Option A) (f : A → Option B) (y : B) → (o >>= f) ≡ Some y → (x : A) × (o ≡ Some x) × (f x ≡ Some y)
bind_some (Some x) f y e = (x, refl, e)
bind_some None f y e = absurd cc

-- the parts of what was read
pub record Same3 {A : Type 0} (x : A × List ℕ × List Lexeme) (e : A) (after : List ℕ) (rest : List Lexeme) : Type 0 where
  pub first : x.0 ≡ e
  pub second : x.1 ≡ after
  pub third : x.2 ≡ rest

pub same3 : {A : Type 0} (x : A × List ℕ × List Lexeme) (e : A) (after : List ℕ) (rest : List Lexeme) → Some x ≡ Some (e, after, rest) → Same3 x e after rest
same3 x e after rest h = let k : x ≡ (e, after, rest) = cc in record { first = ap (λ y. y.0) k; second = ap (λ y. y.1) k; third = ap (λ y. y.2) k }

some3 : {A : Type 0} (x : A × List ℕ × List Lexeme) (e : A) (after : List ℕ) (rest : List Lexeme) → x.0 ≡ e → x.1 ≡ after → x.2 ≡ rest → Some x ≡ Some (e, after, rest)
some3 (a, b, c) e after rest p q r = cc

chosen : (b : Bool) (x y : Symbol) (ws rest : List Lexeme) → (b ≡ true → x ≡ y) → cond b (Some ws) None ≡ Some rest → (x ≡ y) × (ws ≡ rest)
chosen true x y ws rest h e = (h refl, cc)
chosen false x y ws rest h e = absurd cc

pub symbol_found : (s : Symbol) (ws rest : List Lexeme) → symbol_at s ws ≡ Some rest → ws ≡ symbol s ∷ rest
symbol_found s [] rest h = absurd cc
symbol_found s (symbol x ∷ ws) rest h = let k = chosen (same_symbol x s) x s ws rest (symbols_same x s) h in rw (k.0, k.1) refl
symbol_found s (number n ∷ ws) rest h = absurd cc
symbol_found s (identifier bytes ∷ ws) rest h = absurd cc
symbol_found s (string bytes ∷ ws) rest h = absurd cc
symbol_found s (end_mark ∷ ws) rest h = absurd cc

pub record NestedRead (known : Known) (depth : ℕ) (seen : List ℕ) (ws : List Lexeme) (e : Path) (after : List ℕ) (rest : List Lexeme) : Type 0 where
  pub spelt : ListText
  pub stands : ws ≡ list_lexemes spelt ++ rest
  pub deep : 0 < depth
  pub fits : ListFits known spelt (depth - 1)
  pub is : e ≡ list_tree known spelt
  pub new : IsNew e seen
  pub counted : after ≡ seen_after e seen

pub record ItemRead (known : Known) (depth : ℕ) (seen : List ℕ) (ws : List Lexeme) (e : Path) (after : List ℕ) (rest : List Lexeme) : Type 0 where
  pub spelt : ItemText
  pub stands : ws ≡ item_lexemes spelt ++ rest
  pub fits : ItemFits known spelt depth
  pub is : e ≡ item_tree known spelt
  pub new : IsNew e seen
  pub counted : after ≡ seen_after e seen

pub record SeqRead (known : Known) (depth : ℕ) (seen : List ℕ) (ws : List Lexeme) (p : SomePaths) (after : List ℕ) (rest : List Lexeme) : Type 0 where
  pub spelt : SeqText
  pub stands : ws ≡ seq_lexemes spelt ++ rest
  pub fits : SeqFits known spelt depth
  pub is : p ≡ seq_parts known spelt
  pub new : PartsNew p seen
  pub counted : after ≡ seen_after_parts p seen

pub record ListRead (known : Known) (depth : ℕ) (seen : List ℕ) (ws : List Lexeme) (p : SomePaths) (after : List ℕ) (rest : List Lexeme) : Type 0 where
  pub spelt : ListText
  pub stands : ws ≡ list_lexemes spelt ++ rest
  pub fits : ListFits known spelt depth
  pub is : p ≡ list_parts known spelt
  pub new : PartsNew p seen
  pub counted : after ≡ seen_after_parts p seen

abbrev pub NestedFinds : Known → ℕ → Reader Path → Type 0
NestedFinds known depth nested = (seen : List ℕ) (ws : List Lexeme) (e : Path) (after : List ℕ) (rest : List Lexeme) → nested seen ws ≡ Some (e, after, rest) → NestedRead known depth seen ws e after rest

abbrev pub ItemFinds : Known → ℕ → Reader Path → Type 0
ItemFinds known depth item = (seen : List ℕ) (ws : List Lexeme) (e : Path) (after : List ℕ) (rest : List Lexeme) → item seen ws ≡ Some (e, after, rest) → ItemRead known depth seen ws e after rest

closed : (a : List Lexeme) (s : Lexeme) (rest : List Lexeme) → a ++ (s ∷ rest) ≡ (a ++ s ∷ []) ++ rest
closed a s rest = sym (append_assoc a (s ∷ []) rest)

group_found : (known : Known) (depth : ℕ) (nested : Reader Path) → NestedFinds known depth nested → (seen : List ℕ) (ws : List Lexeme) (e : Path) (after : List ℕ) (rest : List Lexeme) → group_in nested seen ws ≡ Some (e, after, rest) →
    NestedRead known depth seen ws e after (symbol CloseParen ∷ rest)
unfolding group_in
group_found known depth nested finds seen ws e after rest h =
    let a = bind_some (nested seen ws) (λ x. symbol_at CloseParen x.2 >>= λ r. Some (x.0, x.1, r)) (e, after, rest) h in
    let b = bind_some (symbol_at CloseParen a.0.2) (λ r. Some (a.0.0, a.0.1, r)) (e, after, rest) a.2 in
    let k = same3 (a.0.0, a.0.1, b.0) e after rest b.2 in
    let behind : a.0.2 ≡ symbol CloseParen ∷ rest = symbol_found CloseParen a.0.2 b.0 b.1 ∙ ap (λ r. symbol CloseParen ∷ r) k.third in
    finds seen ws e after (symbol CloseParen ∷ rest) (a.1 ∙ some3 a.0 e after (symbol CloseParen ∷ rest) k.first k.second behind)

item_burst : (known : Known) (depth : ℕ) (nested : Reader Path) → NestedFinds known depth nested → (seen : List ℕ) (ws : List Lexeme) (e : Path) (after : List ℕ) (rest : List Lexeme) → burst_in nested seen ws ≡ Some (e, after, rest) →
    ItemRead known depth seen (symbol OpenBracket ∷ ws) e after rest
unfolding burst_in
item_burst known depth nested finds seen ws e after rest h =
    let a = bind_some (nested seen ws) (λ x. symbol_at CloseBracket x.2 >>= λ r. Some (burst x.0, x.1, r)) (e, after, rest) h in
    let b = bind_some (symbol_at CloseBracket a.0.2) (λ r. Some (burst a.0.0, a.0.1, r)) (e, after, rest) a.2 in
    let k = same3 (burst a.0.0, a.0.1, b.0) e after rest b.2 in
    let behind : a.0.2 ≡ symbol CloseBracket ∷ rest = symbol_found CloseBracket a.0.2 b.0 b.1 ∙ ap (λ r. symbol CloseBracket ∷ r) k.third in
    let f = finds seen ws a.0.0 a.0.1 a.0.2 a.1 in
    record {
      spelt = in_burst f.spelt;
      stands = ap (λ w. symbol OpenBracket ∷ w) (f.stands ∙ ap (λ r. list_lexemes f.spelt ++ r) behind ∙ closed (list_lexemes f.spelt) (symbol CloseBracket) rest);
      fits = (f.deep, f.fits);
      is = sym k.first ∙ ap burst f.is;
      new = subst (λ e. IsNew e seen) k.first f.new;
      counted = sym k.second ∙ f.counted ∙ ap (λ e. seen_after e seen) k.first;
    }

item_group : (known : Known) (depth : ℕ) (nested : Reader Path) → NestedFinds known depth nested → (seen : List ℕ) (ws : List Lexeme) (e : Path) (after : List ℕ) (rest : List Lexeme) → group_in nested seen ws ≡ Some (e, after, rest) →
    ItemRead known depth seen (symbol OpenParen ∷ ws) e after rest
item_group known depth nested finds seen ws e after rest h =
    let f = group_found known depth nested finds seen ws e after rest h in
    record {
      spelt = in_group f.spelt;
      stands = ap (λ w. symbol OpenParen ∷ w) (f.stands ∙ closed (list_lexemes f.spelt) (symbol CloseParen) rest);
      fits = (f.deep, f.fits);
      is = f.is;
      new = f.new;
      counted = f.counted;
    }

limit_chosen : (a b : Bool) (n value : ℕ) → cond (a && b) (Some n) None ≡ Some value → (a ≡ true) × (b ≡ true) × (n ≡ value)
limit_chosen true true n value h = (refl, refl, cc)
limit_chosen true false n value h = absurd cc
limit_chosen false b n value h = absurd cc

limit_found : (n value : ℕ) → limit_of n ≡ Some value → (n ≡ value) × (1 ≤ n) × (n ≤ 65535)
unfolding limit_of
limit_found n value h = let k = limit_chosen (nat_le 1 n) (nat_le n 65535) n value h in (k.2, leb-true 1 n k.0, leb-true n 65535 k.1)

item_limited : (known : Known) (depth : ℕ) (nested : Reader Path) → NestedFinds known depth nested → (n : Limit) (value : ℕ) (seen : List ℕ) (ws : List Lexeme) (e : Path) (after : List ℕ) (rest : List Lexeme) → limit_value known n ≡ Some value →
    bounded_in nested value seen ws ≡ Some (e, after, rest) → ItemRead known depth seen (limit_lexeme n ∷ ws) e after rest
unfolding bounded_in
item_limited known depth nested finds n value seen ws e after rest is h =
    let a = bind_some (limit_of value) (λ m. symbol_at Colon ws >>= λ p. symbol_at OpenParen p >>= λ o. group_in nested seen o >>= λ x. Some (bound m x.0, x.1, x.2)) (e, after, rest) h in
    let d = bind_some (symbol_at Colon ws) (λ p. symbol_at OpenParen p >>= λ o. group_in nested seen o >>= λ x. Some (bound a.0 x.0, x.1, x.2)) (e, after, rest) a.2 in
    let b = bind_some (symbol_at OpenParen d.0) (λ o. group_in nested seen o >>= λ x. Some (bound a.0 x.0, x.1, x.2)) (e, after, rest) d.2 in
    let c = bind_some (group_in nested seen b.0) (λ x. Some (bound a.0 x.0, x.1, x.2)) (e, after, rest) b.2 in
    let k = same3 (bound a.0 c.0.0, c.0.1, c.0.2) e after rest c.2 in
    let m = limit_found value a.0 a.1 in
    let f = group_found known depth nested finds seen b.0 c.0.0 c.0.1 c.0.2 c.1 in
    let value_is : unwrap_or (limit_value known n) 0 ≡ a.0 = ap (λ o. unwrap_or o 0) is ∙ m.0 in
    let inside : b.0 ≡ (list_lexemes f.spelt ++ symbol CloseParen ∷ []) ++ rest = f.stands ∙ ap (λ r. list_lexemes f.spelt ++ symbol CloseParen ∷ r) k.third ∙ closed (list_lexemes f.spelt) (symbol CloseParen) rest in
    let paren : d.0 ≡ symbol OpenParen ∷ ((list_lexemes f.spelt ++ symbol CloseParen ∷ []) ++ rest) = symbol_found OpenParen d.0 b.0 b.1 ∙ ap (λ w. symbol OpenParen ∷ w) inside in
    record {
      spelt = limited n f.spelt;
      stands = ap (λ w. limit_lexeme n ∷ w) (symbol_found Colon ws d.0 d.1 ∙ ap (λ w. symbol Colon ∷ w) paren);
      fits = ((value, is, m.1, m.2), f.deep, f.fits);
      is = sym k.first ∙ ap (bound a.0) f.is ∙ ap (λ v. bound v (list_tree known f.spelt)) (sym value_is);
      new = subst (λ e. IsNew e seen) k.first f.new;
      counted = sym k.second ∙ f.counted ∙ ap (λ e. seen_after e seen) k.first;
    }

new_chosen : (b : Bool) (x y : Path × List ℕ × List Lexeme) → cond b None (Some x) ≡ Some y → (b ≡ false) × (x ≡ y)
new_chosen true x y h = absurd cc
new_chosen false x y h = (refl, cc)

item_named : (known : Known) (depth : ℕ) (seen : List ℕ) (bytes : List ℕ) (ws : List Lexeme) (e : Path) (after : List ℕ) (rest : List Lexeme) → name_at known bytes seen ws ≡ Some (e, after, rest) → ItemRead known depth seen (identifier bytes ∷ ws) e after rest
unfolding name_at
item_named known depth seen bytes ws e after rest h =
    let a = bind_some (place_of known.operations bytes) (λ op. cond (was_seen seen op) None (Some (name op, seen ++ op ∷ [], ws))) (e, after, rest) h in
    let g = new_chosen (was_seen seen a.0) (name a.0, seen ++ a.0 ∷ [], ws) (e, after, rest) a.2 in
    let op_is : unwrap_or (place_of known.operations bytes) 0 ≡ a.0 = ap (λ o. unwrap_or o 0) a.1 in
    let first : name a.0 ≡ e = ap (λ y. y.0) g.1 in
    let second : seen ++ a.0 ∷ [] ≡ after = ap (λ y. y.1) g.1 in
    let third : ws ≡ rest = ap (λ y. y.2) g.1 in
    record {
      spelt = operation bytes;
      stands = ap (λ w. identifier bytes ∷ w) third;
      fits = (a.0, a.1);
      is = sym first ∙ ap name (sym op_is);
      new = subst (λ e. IsNew e seen) first g.0;
      counted = sym second ∙ ap (λ e. seen_after e seen) first;
    }

named_found : (known : Known) (depth : ℕ) (nested : Reader Path) → NestedFinds known depth nested → (o : Option (List Lexeme)) (seen : List ℕ) (bytes : List ℕ) (ws : List Lexeme) (e : Path) (after : List ℕ) (rest : List Lexeme) →
    symbol_at Colon ws ≡ o → named_in known nested bytes ws o seen ≡ Some (e, after, rest) → ItemRead known depth seen (identifier bytes ∷ ws) e after rest
unfolding named_in
named_found known depth nested finds None seen bytes ws e after rest next h = item_named known depth seen bytes ws e after rest h
named_found known depth nested finds (Some behind) seen bytes ws e after rest next h =
    let a = bind_some (value_of known.constants bytes) (λ n. bounded_in nested n seen ws) (e, after, rest) h in
    item_limited known depth nested finds (a_constant bytes) a.0 seen ws e after rest a.1 a.2

opened_found : (known : Known) (depth : ℕ) (nested : Reader Path) → NestedFinds known depth nested → (s : Symbol) (paren bracket : Bool) (seen : List ℕ) (ws : List Lexeme) (e : Path) (after : List ℕ) (rest : List Lexeme) →
    (paren ≡ true → s ≡ OpenParen) → (bracket ≡ true → s ≡ OpenBracket) → cond paren (group_in nested seen ws) (cond bracket (burst_in nested seen ws) None) ≡ Some (e, after, rest) → ItemRead known depth seen (symbol s ∷ ws) e after rest
opened_found known depth nested finds s true bracket seen ws e after rest p b h = rw (p refl) (item_group known depth nested finds seen ws e after rest h)
opened_found known depth nested finds s false true seen ws e after rest p b h = rw (b refl) (item_burst known depth nested finds seen ws e after rest h)
opened_found known depth nested finds s false false seen ws e after rest p b h = absurd cc

pub item_found : (known : Known) (depth : ℕ) (nested : Reader Path) → NestedFinds known depth nested → ItemFinds known depth (item_in known nested)
unfolding item_in opened_in
item_found known depth nested finds seen [] e after rest h = absurd cc
item_found known depth nested finds seen (number n ∷ ws) e after rest h = item_limited known depth nested finds (a_number n) n seen ws e after rest refl h
item_found known depth nested finds seen (identifier bytes ∷ ws) e after rest h = named_found known depth nested finds (symbol_at Colon ws) seen bytes ws e after rest refl h
item_found known depth nested finds seen (symbol s ∷ ws) e after rest h =
    opened_found known depth nested finds s (same_symbol s OpenParen) (same_symbol s OpenBracket) seen ws e after rest (symbols_same s OpenParen) (symbols_same s OpenBracket) h
item_found known depth nested finds seen (string bytes ∷ ws) e after rest h = absurd cc
item_found known depth nested finds seen (end_mark ∷ ws) e after rest h = absurd cc

-- a member alone, or with others
record Member (x : Path × List ℕ × List Lexeme) (p : SomePaths) (after : List ℕ) (rest : List Lexeme) : Type 0 where
  alone : p ≡ one x.0
  counted : after ≡ x.1
  ends : x.2 ≡ rest

record Members (separator : Symbol) (others : Reader SomePaths) (x : Path × List ℕ × List Lexeme) (p : SomePaths) (after : List ℕ) (rest : List Lexeme) : Type 0 where
  behind : List Lexeme
  next : SomePaths
  separated : x.2 ≡ symbol separator ∷ behind
  reads : others x.1 behind ≡ Some (next, after, rest)
  joined : p ≡ several (put x.0 next)

parts_split : (separator : Symbol) (others : Reader SomePaths) (x : Path × List ℕ × List Lexeme) (o : Option (List Lexeme)) (p : SomePaths) (after : List ℕ) (rest : List Lexeme) → symbol_at separator x.2 ≡ o → with_others others x o ≡ Some (p, after, rest) →
    Member x p after rest ⊎ Members separator others x p after rest
unfolding with_others
parts_split separator others x None p after rest next h =
    let k = same3 (one x.0, x.1, x.2) p after rest h in
    inl (record { alone = sym k.first; counted = sym k.second; ends = k.third })
parts_split separator others x (Some behind) p after rest next h =
    let a = bind_some (others x.1 behind) (λ y. Some (several (put x.0 y.0), y.1, y.2)) (p, after, rest) h in
    let k = same3 (several (put x.0 a.0.0), a.0.1, a.0.2) p after rest a.2 in
    inr (record { behind = behind; next = a.0.0; separated = symbol_found separator x.2 behind next; reads = a.1 ∙ some3 a.0 a.0.0 after rest refl k.second k.third; joined = sym k.first })

seq_found : (known : Known) (depth : ℕ) (item : Reader Path) → ItemFinds known depth item → (left : ℕ) (seen : List ℕ) (ws : List Lexeme) (p : SomePaths) (after : List ℕ) (rest : List Lexeme) → parts_at Semicolon item left seen ws ≡ Some (p, after, rest) → SeqRead known depth seen ws p after rest
unfolding parts_at
seq_found known depth item finds zero seen ws p after rest h = absurd cc
seq_found known depth item finds (suc left) seen ws p after rest h =
    let a = bind_some (item seen ws) (λ x. with_others (parts_at Semicolon item left) x (symbol_at Semicolon x.2)) (p, after, rest) h in
    let f = finds seen ws a.0.0 a.0.1 a.0.2 a.1 in
    elim (parts_split Semicolon (parts_at Semicolon item left) a.0 (symbol_at Semicolon a.0.2) p after rest refl a.2) [
      | inl m ↦ record {
        spelt = last_item f.spelt;
        stands = f.stands ∙ ap (λ r. item_lexemes f.spelt ++ r) m.ends;
        fits = f.fits;
        is = m.alone ∙ ap one f.is;
        new = subst (λ p. PartsNew p seen) (sym m.alone) f.new;
        counted = m.counted ∙ f.counted ∙ ap (λ p. seen_after_parts p seen) (sym m.alone);
      }
      | inr m ↦
          let others = seq_found known depth item finds left a.0.1 m.behind m.next after rest m.reads in
          record {
            spelt = item_and f.spelt others.spelt;
            stands = f.stands ∙ ap (λ r. item_lexemes f.spelt ++ r) (m.separated ∙ ap (λ w. symbol Semicolon ∷ w) others.stands) ∙ sym (append_assoc (item_lexemes f.spelt) (symbol Semicolon ∷ seq_lexemes others.spelt) rest);
            fits = (f.fits, others.fits);
            is = m.joined ∙ ap (λ e. several (put e m.next)) f.is ∙ ap (λ p. several (put (item_tree known f.spelt) p)) others.is;
            new = subst (λ p. PartsNew p seen) (sym m.joined) (new_put a.0.0 m.next seen f.new (subst (λ n. PartsNew m.next n) f.counted others.new));
            counted = others.counted ∙ ap (λ n. seen_after_parts m.next n) f.counted ∙ sym (put_seen a.0.0 m.next seen) ∙ ap (λ p. seen_after_parts p seen) (sym m.joined);
          }
    ]

pub list_found : (known : Known) (depth most : ℕ) (item : Reader Path) → ItemFinds known depth item → (left : ℕ) (seen : List ℕ) (ws : List Lexeme) (p : SomePaths) (after : List ℕ) (rest : List Lexeme) → parts_at Comma (sequence_in item most) left seen ws ≡ Some (p, after, rest) → ListRead known depth seen ws p after rest
unfolding parts_at sequence_in
list_found known depth most item finds zero seen ws p after rest h = absurd cc
list_found known depth most item finds (suc left) seen ws p after rest h =
    let a = bind_some (sequence_in item most seen ws) (λ x. with_others (parts_at Comma (sequence_in item most) left) x (symbol_at Comma x.2)) (p, after, rest) h in
    let b = bind_some (parts_at Semicolon item most seen ws) (λ x. Some (as_sequence x.0, x.1, x.2)) a.0 a.1 in
    let k = same3 (as_sequence b.0.0, b.0.1, b.0.2) a.0.0 a.0.1 a.0.2 b.2 in
    let f = seq_found known depth item finds most seen ws b.0.0 b.0.1 b.0.2 b.1 in
    let member_is : a.0.0 ≡ as_sequence (seq_parts known f.spelt) = sym k.first ∙ ap as_sequence f.is in
    let member_new : IsNew a.0.0 seen = subst (λ e. IsNew e seen) k.first (new_sequence b.0.0 seen f.new) in
    let member_counted : a.0.1 ≡ seen_after a.0.0 seen = sym k.second ∙ f.counted ∙ sym (sequence_seen b.0.0 seen) ∙ ap (λ e. seen_after e seen) k.first in
    let member_stands : ws ≡ seq_lexemes f.spelt ++ a.0.2 = f.stands ∙ ap (λ r. seq_lexemes f.spelt ++ r) k.third in
    elim (parts_split Comma (parts_at Comma (sequence_in item most) left) a.0 (symbol_at Comma a.0.2) p after rest refl a.2) [
      | inl m ↦ record {
        spelt = last_seq f.spelt;
        stands = member_stands ∙ ap (λ r. seq_lexemes f.spelt ++ r) m.ends;
        fits = f.fits;
        is = m.alone ∙ ap one member_is;
        new = subst (λ p. PartsNew p seen) (sym m.alone) member_new;
        counted = m.counted ∙ member_counted ∙ ap (λ p. seen_after_parts p seen) (sym m.alone);
      }
      | inr m ↦
          let others = list_found known depth most item finds left a.0.1 m.behind m.next after rest m.reads in
          record {
            spelt = seq_and f.spelt others.spelt;
            stands = member_stands ∙ ap (λ r. seq_lexemes f.spelt ++ r) (m.separated ∙ ap (λ w. symbol Comma ∷ w) others.stands) ∙ sym (append_assoc (seq_lexemes f.spelt) (symbol Comma ∷ list_lexemes others.spelt) rest);
            fits = (f.fits, others.fits);
            is = m.joined ∙ ap (λ e. several (put e m.next)) member_is ∙ ap (λ p. several (put (as_sequence (seq_parts known f.spelt)) p)) others.is;
            new = subst (λ p. PartsNew p seen) (sym m.joined) (new_put a.0.0 m.next seen member_new (subst (λ n. PartsNew m.next n) member_counted others.new));
            counted = others.counted ∙ ap (λ n. seen_after_parts m.next n) member_counted ∙ sym (put_seen a.0.0 m.next seen) ∙ ap (λ p. seen_after_parts p seen) (sym m.joined);
          }
    ]

pub nested_found : (known : Known) (most depth : ℕ) → NestedFinds known depth (nested_at known most depth)
unfolding nested_at list_in
nested_found known most zero seen ws e after rest h = absurd cc
nested_found known most (suc depth) seen ws e after rest h =
    let item : Reader Path = item_in known (nested_at known most depth) in
    let a = bind_some (parts_at Comma (sequence_in item most) most seen ws) (λ x. Some (as_list x.0, x.1, x.2)) (e, after, rest) h in
    let k = same3 (as_list a.0.0, a.0.1, a.0.2) e after rest a.2 in
    let f = list_found known depth most item (item_found known depth (nested_at known most depth) (nested_found known most depth)) most seen ws a.0.0 a.0.1 a.0.2 a.1 in
    let same : suc depth - 1 ≡ depth = omega arith in
    record {
      spelt = f.spelt;
      stands = f.stands ∙ ap (λ r. list_lexemes f.spelt ++ r) k.third;
      deep = omega arith;
      fits = subst (λ d. ListFits known f.spelt d) (sym same) f.fits;
      is = sym k.first ∙ ap as_list f.is;
      new = subst (λ e. IsNew e seen) k.first (new_list a.0.0 seen f.new);
      counted = sym k.second ∙ f.counted ∙ sym (list_seen a.0.0 seen) ∙ ap (λ e. seen_after e seen) k.first;
    }
