-- The operations of a text that fits are those of the names that are known.
use Rattle.std.proofs.Common.{◌≡◌, ℕ, suc, ◌+◌, ◌-◌, ◌<◌, Bool, true, false, cond, Option, Some, None, List, [], ◌∷◌, length, refl, ap, subst, sym, arith}
use Rattle.std.specs.Prelude.{unwrap_or, bytes_eq}
use Rattle.path_tree.specs.Path.{Path}
use Rattle.path_tree.specs.Names.{NamesBelow, AllBelow}
use Rattle.path_tree.specs.Parts.{SomePaths, one, several, put, as_list, as_sequence}
use Rattle.path_tree.specs.Known.{Known, place_of, next}
use Rattle.path_tree.specs.Grammar.{ListText, last_seq, seq_and, SeqText, last_item, item_and, ItemText, operation, limited, in_burst, in_group, list_parts, seq_parts, item_tree, list_tree, ListFits, SeqFits, ItemFits}

next_below : (o : Option ℕ) (n op : ℕ) → ((k : ℕ) → o ≡ Some k → k < n) → next o ≡ Some op → op < 1 + n
next_below (Some k) n op within h = let a = within k refl in let e : suc k ≡ op = cc in omega arith
next_below None n op within h = absurd cc

chosen_below : (b : Bool) (o : Option ℕ) (n op : ℕ) → ((k : ℕ) → o ≡ Some k → k < n) → cond b (Some 0) (next o) ≡ Some op → op < 1 + n
chosen_below true o n op within h = let e : 0 ≡ op = cc in omega arith
chosen_below false o n op within h = next_below o n op within h

place_below : (xs : List (List ℕ)) (bytes : List ℕ) (op : ℕ) → place_of xs bytes ≡ Some op → op < length xs
place_below [] bytes op h = absurd cc
place_below (x ∷ xs) bytes op h = let a = chosen_below (bytes_eq x bytes) (place_of xs bytes) (length xs) op (place_below xs bytes) h in omega arith

abbrev PartsBelow : SomePaths → ℕ → Type 0
PartsBelow (one e) n = NamesBelow e n
PartsBelow (several ms) n = AllBelow ms n

list_below : (p : SomePaths) (n : ℕ) → PartsBelow p n → NamesBelow (as_list p) n
list_below (one e) n h = h
list_below (several ms) n h = h

sequence_below : (p : SomePaths) (n : ℕ) → PartsBelow p n → NamesBelow (as_sequence p) n
sequence_below (one e) n h = h
sequence_below (several ms) n h = h

put_below : (a : Path) (p : SomePaths) (n : ℕ) → NamesBelow a n → PartsBelow p n → AllBelow (put a p) n
put_below a (one b) n h k = (h, k)
put_below a (several ms) n h k = (h, k)

mutual
  list_parts_below : (known : Known) (l : ListText) (depth : ℕ) → ListFits known l depth → PartsBelow (list_parts known l) (length known.operations)
  list_parts_below known (last_seq s) depth fits = sequence_below (seq_parts known s) (length known.operations) (seq_parts_below known s depth fits)
  list_parts_below known (seq_and s l) depth fits =
      put_below (as_sequence (seq_parts known s)) (list_parts known l) (length known.operations) (sequence_below (seq_parts known s) (length known.operations) (seq_parts_below known s depth fits.0)) (list_parts_below known l depth fits.1)

  seq_parts_below : (known : Known) (s : SeqText) (depth : ℕ) → SeqFits known s depth → PartsBelow (seq_parts known s) (length known.operations)
  seq_parts_below known (last_item i) depth fits = item_below known i depth fits
  seq_parts_below known (item_and i s) depth fits = put_below (item_tree known i) (seq_parts known s) (length known.operations) (item_below known i depth fits.0) (seq_parts_below known s depth fits.1)

  item_below : (known : Known) (i : ItemText) (depth : ℕ) → ItemFits known i depth → NamesBelow (item_tree known i) (length known.operations)
  item_below known (operation bytes) depth fits =
      let is : unwrap_or (place_of known.operations bytes) 0 ≡ fits.0 = ap (λ o. unwrap_or o 0) fits.1 in
      subst (λ op. op < length known.operations) (sym is) (place_below known.operations bytes fits.0 fits.1)
  item_below known (limited n l) depth fits = list_below (list_parts known l) (length known.operations) (list_parts_below known l (depth - 1) fits.2)
  item_below known (in_burst l) depth fits = list_below (list_parts known l) (length known.operations) (list_parts_below known l (depth - 1) fits.1)
  item_below known (in_group l) depth fits = list_below (list_parts known l) (length known.operations) (list_parts_below known l (depth - 1) fits.1)

pub tree_below : (known : Known) (l : ListText) (depth : ℕ) → ListFits known l depth → NamesBelow (list_tree known l) (length known.operations)
tree_below known l depth fits = list_below (list_parts known l) (length known.operations) (list_parts_below known l depth fits)
