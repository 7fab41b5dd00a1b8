-- A text that fits in so many levels has a tree whose canonical text does.
use Rattle.std.proofs.Common.{◌≡◌, ℕ, ◌+◌, ◌-◌, ◌≤◌, ap, arith}
use Rattle.std.specs.Prelude.{unwrap_or}
use Rattle.std.proofs.Math.Nat.{max-le}
use Rattle.path_tree.specs.Path.{Path, name, list, sequence, bound, burst}
use Rattle.path_tree.specs.Limits.{BoundsFit, AllBoundsFit, levels, levels_in_list, levels_in_sequence, list_levels, sequence_levels}
use Rattle.path_tree.specs.Parts.{SomePaths, one, several, put, as_list, as_sequence}
use Rattle.path_tree.specs.Known.{Known}
use Rattle.path_tree.specs.Grammar.{ListText, last_seq, seq_and, SeqText, last_item, item_and, ItemText, operation, limited, in_burst, in_group, limit_value, list_parts, seq_parts, item_tree, list_tree, ListFits, SeqFits, ItemFits}

-- the levels of members of a list, and of a sequence
abbrev pub listed_levels : SomePaths → ℕ
listed_levels (one e) = levels_in_list e
listed_levels (several ms) = list_levels ms

abbrev pub sequenced_levels : SomePaths → ℕ
sequenced_levels (one e) = levels_in_sequence e
sequenced_levels (several ms) = sequence_levels ms

abbrev pub PartsBoundsFit : SomePaths → Type 0
PartsBoundsFit (one e) = BoundsFit e
PartsBoundsFit (several ms) = AllBoundsFit ms

-- a group is one level more at most
alone_listed : (e : Path) → levels e ≤ levels_in_list e
alone_listed (name op) = omega arith
alone_listed (list ms) = omega arith
alone_listed (sequence ms) = omega arith
alone_listed (bound n e) = omega arith
alone_listed (burst e) = omega arith

listed_sequenced : (e : Path) → levels_in_list e ≤ levels_in_sequence e
listed_sequenced (name op) = omega arith
listed_sequenced (list ms) = omega arith
listed_sequenced (sequence ms) = omega arith
listed_sequenced (bound n e) = omega arith
listed_sequenced (burst e) = omega arith

one_more : (e : Path) → levels_in_sequence e ≤ 1 + levels_in_list e
one_more (name op) = omega arith
one_more (list ms) = omega arith
one_more (sequence ms) = omega arith
one_more (bound n e) = omega arith
one_more (burst e) = omega arith

list_alone : (p : SomePaths) → levels (as_list p) ≤ listed_levels p
list_alone (one e) = alone_listed e
list_alone (several ms) = omega arith

list_grouped : (p : SomePaths) → levels_in_sequence (as_list p) ≤ 1 + listed_levels p
list_grouped (one e) = one_more e
list_grouped (several ms) = omega arith

sequence_listed : (p : SomePaths) → levels_in_list (as_sequence p) ≤ sequenced_levels p
sequence_listed (one e) = listed_sequenced e
sequence_listed (several ms) = omega arith

put_listed : (a : Path) (p : SomePaths) (d : ℕ) → levels_in_list a ≤ d → listed_levels p ≤ d → list_levels (put a p) ≤ d
put_listed a (one b) d h k = max-le h k
put_listed a (several ms) d h k = max-le h k

put_sequenced : (a : Path) (p : SomePaths) (d : ℕ) → levels_in_sequence a ≤ d → sequenced_levels p ≤ d → sequence_levels (put a p) ≤ d
put_sequenced a (one b) d h k = max-le h k
put_sequenced a (several ms) d h k = max-le h k

mutual
  pub list_shallow : (known : Known) (l : ListText) (depth : ℕ) → ListFits known l depth → listed_levels (list_parts known l) ≤ depth
  list_shallow known (last_seq s) depth fits = let a = sequence_listed (seq_parts known s) in let b = seq_shallow known s depth fits in omega arith
  list_shallow known (seq_and s l) depth fits =
      let a = sequence_listed (seq_parts known s) in
      let b = seq_shallow known s depth fits.0 in
      put_listed (as_sequence (seq_parts known s)) (list_parts known l) depth (omega arith) (list_shallow known l depth fits.1)

  pub seq_shallow : (known : Known) (s : SeqText) (depth : ℕ) → SeqFits known s depth → sequenced_levels (seq_parts known s) ≤ depth
  seq_shallow known (last_item i) depth fits = item_shallow known i depth fits
  seq_shallow known (item_and i s) depth fits = put_sequenced (item_tree known i) (seq_parts known s) depth (item_shallow known i depth fits.0) (seq_shallow known s depth fits.1)

  pub item_shallow : (known : Known) (i : ItemText) (depth : ℕ) → ItemFits known i depth → levels_in_sequence (item_tree known i) ≤ depth
  item_shallow known (operation bytes) depth fits = omega arith
  item_shallow known (limited n l) depth fits = let a = list_shallow known l (depth - 1) fits.2 in let b = list_alone (list_parts known l) in let deep = fits.1 in omega arith
  item_shallow known (in_burst l) depth fits = let a = list_shallow known l (depth - 1) fits.1 in let b = list_alone (list_parts known l) in let deep = fits.0 in omega arith
  item_shallow known (in_group l) depth fits = let a = list_shallow known l (depth - 1) fits.1 in let b = list_grouped (list_parts known l) in let deep = fits.0 in omega arith

pub tree_shallow : (known : Known) (l : ListText) (depth : ℕ) → ListFits known l depth → levels (list_tree known l) ≤ depth
tree_shallow known l depth fits = let a = list_shallow known l depth fits in let b = list_alone (list_parts known l) in omega arith

-- the bounds of a text that fits
list_bounds : (p : SomePaths) → PartsBoundsFit p → BoundsFit (as_list p)
list_bounds (one e) h = h
list_bounds (several ms) h = h

sequence_bounds : (p : SomePaths) → PartsBoundsFit p → BoundsFit (as_sequence p)
sequence_bounds (one e) h = h
sequence_bounds (several ms) h = h

put_bounds : (a : Path) (p : SomePaths) → BoundsFit a → PartsBoundsFit p → AllBoundsFit (put a p)
put_bounds a (one b) h k = (h, k)
put_bounds a (several ms) h k = (h, k)

mutual
  pub list_bounded : (known : Known) (l : ListText) (depth : ℕ) → ListFits known l depth → PartsBoundsFit (list_parts known l)
  list_bounded known (last_seq s) depth fits = sequence_bounds (seq_parts known s) (seq_bounded known s depth fits)
  list_bounded known (seq_and s l) depth fits = put_bounds (as_sequence (seq_parts known s)) (list_parts known l) (sequence_bounds (seq_parts known s) (seq_bounded known s depth fits.0)) (list_bounded known l depth fits.1)

  pub seq_bounded : (known : Known) (s : SeqText) (depth : ℕ) → SeqFits known s depth → PartsBoundsFit (seq_parts known s)
  seq_bounded known (last_item i) depth fits = item_bounded known i depth fits
  seq_bounded known (item_and i s) depth fits = put_bounds (item_tree known i) (seq_parts known s) (item_bounded known i depth fits.0) (seq_bounded known s depth fits.1)

  pub item_bounded : (known : Known) (i : ItemText) (depth : ℕ) → ItemFits known i depth → BoundsFit (item_tree known i)
  item_bounded known (operation bytes) depth fits = tt
  item_bounded known (limited n l) depth fits =
      let is : unwrap_or (limit_value known n) 0 ≡ fits.0.0 = ap (λ o. unwrap_or o 0) fits.0.1 in
      let low = fits.0.2 in
      let high = fits.0.3 in
      (omega arith, omega arith, list_bounds (list_parts known l) (list_bounded known l (depth - 1) fits.2))
  item_bounded known (in_burst l) depth fits = list_bounds (list_parts known l) (list_bounded known l (depth - 1) fits.1)
  item_bounded known (in_group l) depth fits = list_bounds (list_parts known l) (list_bounded known l (depth - 1) fits.1)

pub tree_bounded : (known : Known) (l : ListText) (depth : ℕ) → ListFits known l depth → BoundsFit (list_tree known l)
tree_bounded known l depth fits = list_bounds (list_parts known l) (list_bounded known l depth fits)
