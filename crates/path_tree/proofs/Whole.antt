-- A whole path.
use Rattle.std.proofs.Common.{◌≡◌, ℕ, ◌+◌, ◌-◌, ◌<◌, ◌≤◌, Bool, true, false, cond, List, [], ◌∷◌, ◌++◌, length, take, drop, Some, None, refl, sym, ap, subst, ◌∙◌, append_assoc, arith}
use Rattle.std.specs.Prelude.{nat_le}
use Rattle.std.proofs.lemmas.Bool.{leb-true, le-leb}
use Rattle.std.proofs.lemmas.List.{length-append, length-drop, drop_at, take-append-drop}
use Rattle.path_tree.specs.declared.token.Symbol.TheVariants.{Comma, Path as PathWord, End}
use Rattle.path_tree.specs.Path.{Path}
use Rattle.path_tree.specs.Parts.{SomePaths, as_list}
use Rattle.path_tree.specs.Limits.{node_count}
use Rattle.path_tree.specs.Lexeme.{Lexeme, symbol}
use Rattle.path_tree.specs.Reading.{symbol_at, Reader, ◌>>=◌, parts_at, sequence_in, item_in, list_in, nested_at, path_at}
use Rattle.path_tree.specs.Known.{Known}
use Rattle.path_tree.specs.Grammar.{ListText, list_lexemes, list_parts, list_tree, ListFits, IsPathAt}
use Rattle.path_tree.specs.Names.{NamesOnce}
use Rattle.path_tree.proofs.Seen.{seen_after_parts, IsNew, list_new, new_list}
use Rattle.path_tree.proofs.Once.{new_once, once_new, none_seen}
use Rattle.path_tree.proofs.Again.{list_again, in_list}
use Rattle.path_tree.proofs.Found.{bind_some, symbol_found, list_found, item_found, nested_found, same3}

pub record PathRead (known : Known) (ws : List Lexeme) (e : Path) (rest : List Lexeme) : Type 0 where
  pub spelt : ListText
  pub stands : ws ≡ symbol PathWord ∷ (list_lexemes spelt ++ symbol End ∷ rest)
  pub fits : ListFits known spelt 32
  pub is : e ≡ list_tree known spelt
  pub once : NamesOnce e
  pub few : node_count e ≤ 256

few_chosen : (b : Bool) (x y : Path × List Lexeme) → cond b (Some x) None ≡ Some y → (b ≡ true) × (x ≡ y)
few_chosen true x y h = (refl, cc)
few_chosen false x y h = absurd cc

pub path_found : (known : Known) (most : ℕ) (ws : List Lexeme) (e : Path) (rest : List Lexeme) → path_at known most ws ≡ Some (e, rest) → PathRead known ws e rest
unfolding path_at list_in
path_found known most ws e rest h =
    let item : Reader Path = item_in known (nested_at known most 32) in
    let o = bind_some (symbol_at PathWord ws) (λ opened. list_in item most [] opened >>= λ x. symbol_at End x.2 >>= λ r. cond (nat_le (node_count x.0) 256) (Some (x.0, r)) None) (e, rest) h in
    let a = bind_some (list_in item most [] o.0) (λ x. symbol_at End x.2 >>= λ r. cond (nat_le (node_count x.0) 256) (Some (x.0, r)) None) (e, rest) o.2 in
    let b = bind_some (symbol_at End a.0.2) (λ r. cond (nat_le (node_count a.0.0) 256) (Some (a.0.0, r)) None) (e, rest) a.2 in
    let g = few_chosen (nat_le (node_count a.0.0) 256) (a.0.0, b.0) (e, rest) b.2 in
    let l = bind_some (parts_at Comma (sequence_in item most) most [] o.0) (λ x. Some (as_list x.0, x.1, x.2)) a.0 a.1 in
    let k = same3 (as_list l.0.0, l.0.1, l.0.2) a.0.0 a.0.1 a.0.2 l.2 in
    let f = list_found known 32 most item (item_found known 32 (nested_at known most 32) (nested_found known most 32)) most [] o.0 l.0.0 l.0.1 l.0.2 l.1 in
    let first : a.0.0 ≡ e = ap (λ y. y.0) g.1 in
    let last : b.0 ≡ rest = ap (λ y. y.1) g.1 in
    let behind : l.0.2 ≡ symbol End ∷ rest = k.third ∙ symbol_found End a.0.2 b.0 b.1 ∙ ap (λ r. symbol End ∷ r) last in
    let new : IsNew e [] = subst (λ e. IsNew e []) (k.first ∙ first) (new_list l.0.0 [] f.new) in
    record {
      spelt = f.spelt;
      stands = symbol_found PathWord ws o.0 o.1 ∙ ap (λ w. symbol PathWord ∷ w) (f.stands ∙ ap (λ r. list_lexemes f.spelt ++ r) behind);
      fits = f.fits;
      is = sym first ∙ sym k.first ∙ ap as_list f.is;
      once = (new_once e [] new).0;
      few = subst (λ e. node_count e ≤ 256) first (leb-true (node_count a.0.0) 256 g.0);
    }

path_parts : (known : Known) (most : ℕ) (opened : List Lexeme) (e : Path) (after : List ℕ) (rest : List Lexeme) → list_in (item_in known (nested_at known most 32)) most [] opened ≡ Some (e, after, symbol End ∷ rest) → node_count e ≤ 256 →
    path_at known most (symbol PathWord ∷ opened) ≡ Some (e, rest)
unfolding path_at
path_parts known most opened e after rest h few = rw (h, le-leb (node_count e) 256 few) refl

pub path_again : (known : Known) (most : ℕ) (l : ListText) (rest : List Lexeme) → ListFits known l 32 → NamesOnce (list_tree known l) → node_count (list_tree known l) ≤ 256 → length (list_lexemes l) < most →
    path_at known most (symbol PathWord ∷ (list_lexemes l ++ symbol End ∷ rest)) ≡ Some (list_tree known l, rest)
path_again known most l rest fits once few short =
    let item : Reader Path = item_in known (nested_at known most 32) in
    let p : SomePaths = list_parts known l in
    let new : IsNew (as_list p) [] = once_new (as_list p) [] once (λ k h. none_seen k) in
    let r = list_again known most 32 most [] l (symbol End ∷ rest) fits (list_new p [] new) short (omega arith) (record { no_colon = refl; no_semicolon = refl; no_comma = refl }) in
    path_parts known most (list_lexemes l ++ symbol End ∷ rest) (as_list p) (seen_after_parts p []) rest (in_list item most [] (list_lexemes l ++ symbol End ∷ rest) p (seen_after_parts p []) (symbol End ∷ rest) r) few

-- what stands behind a front, by its length
behind_front : (front rest ws : List Lexeme) (to : ℕ) → ws ≡ front ++ rest → to ≡ length ws - length rest → rest ≡ drop to ws
behind_front front rest ws to is at =
    let long : length ws ≡ length front + length rest = ap length is ∙ length-append front rest in
    sym (ap (drop to) is ∙ drop_at front rest to (omega arith))

pub stands_at : (known : Known) (most : ℕ) (ws : List Lexeme) (from to : ℕ) (e : Path) (rest : List Lexeme) → path_at known most (drop from ws) ≡ Some (e, rest) → to ≡ length ws - length rest → IsPathAt known ws from e to
stands_at known most ws from to e rest h at =
    let f = path_found known most (drop from ws) e rest h in
    let middle : List Lexeme = symbol PathWord ∷ (list_lexemes f.spelt ++ symbol End ∷ []) in
    let tail : drop from ws ≡ middle ++ rest = f.stands ∙ ap (λ w. symbol PathWord ∷ w) (sym (append_assoc (list_lexemes f.spelt) (symbol End ∷ []) rest)) in
    let whole : ws ≡ (take from ws ++ middle) ++ rest = sym (take-append-drop from ws) ∙ ap (λ w. take from ws ++ w) tail ∙ sym (append_assoc (take from ws) middle rest) in
    let behind = behind_front (take from ws ++ middle) rest ws to whole at in
    record {
      text = f.spelt;
      stands = f.stands ∙ ap (λ r. symbol PathWord ∷ (list_lexemes f.spelt ++ symbol End ∷ r)) behind;
      within = omega arith;
      fits = f.fits;
      is = f.is;
      once = f.once;
      few = f.few;
    }

pub is_read : (known : Known) (most : ℕ) (ws : List Lexeme) (from to : ℕ) (e : Path) → IsPathAt known ws from e to → length ws < most → path_at known most (drop from ws) ≡ Some (e, drop to ws)
is_read known most ws from to e p long =
    let lexemes = list_lexemes p.text in
    let lengths = length-append (list_lexemes p.text) (symbol End ∷ drop to ws) in
    let total = ap length p.stands in
    let all = length-drop from ws in
    ap (path_at known most) p.stands
    ∙ path_again known most p.text (drop to ws) p.fits (subst NamesOnce p.is p.once) (subst (λ e. node_count e ≤ 256) p.is p.few) (omega arith)
    ∙ ap (λ e. Some (e, drop to ws)) (sym p.is)
