-- The tree of the canonical text of a path is that path, and the text fits in the levels of the path.
use Rattle.std.proofs.Common.{◌≡◌, ℕ, ◌-◌, ◌≤◌, Bool, true, eq-eqb, Some, refl, ap, ◌∙◌, arith}
use Rattle.std.specs.Prelude.{unwrap_or, ◌||◌}
use Rattle.std.proofs.Math.Nat.{le-max_left, le-max_right}
use Rattle.path_tree.specs.Path.{Path, Paths, name, list, sequence, bound, burst, two, more}
use Rattle.path_tree.specs.Limits.{BoundsFit, AllBoundsFit, levels, levels_in_list, levels_in_sequence, list_levels, sequence_levels}
use Rattle.path_tree.specs.Parts.{several, put, as_list, as_sequence}
use Rattle.path_tree.specs.Known.{Known, place_of}
use Rattle.path_tree.specs.Grammar.{list_parts, seq_parts, item_tree, list_tree, ListFits, SeqFits, ItemFits}
use Rattle.path_tree.specs.Names.{names, some_names}
use Rattle.path_tree.specs.Canonical.{name_of, list_text, seq_text, item_text, list_texts, seq_texts}
use Rattle.path_tree.proofs.Once.{or_left, or_right}

-- each operation of these is found under its name
abbrev pub AreFound : Known → (ℕ → Bool) → Type 0
AreFound known named = (op : ℕ) → named op ≡ true → place_of known.operations (name_of known.operations op) ≡ Some op

left_found : (known : Known) (a b : ℕ → Bool) → AreFound known (λ k. a k || b k) → AreFound known a
left_found known a b h k named = h k (or_left (a k) (b k) named)

right_found : (known : Known) (a b : ℕ → Bool) → AreFound known (λ k. a k || b k) → AreFound known b
right_found known a b h k named = h k (or_right (a k) (b k) named)

named_is : (known : Known) (op : ℕ) → AreFound known (names (name op)) → name (unwrap_or (place_of known.operations (name_of known.operations op)) 0) ≡ name op
named_is known op h = ap (λ o. name (unwrap_or o 0)) (h op (eq-eqb op op refl))

mutual
  pub list_again : (known : Known) (e : Path) → AreFound known (names e) → list_tree known (list_text known.operations e) ≡ e
  list_again known (name op) h = named_is known op h
  list_again known (list ms) h = ap as_list (lists_again known ms h)
  list_again known (sequence ms) h = ap as_sequence (seqs_again known ms h)
  list_again known (bound n e) h = ap (bound n) (list_again known e h)
  list_again known (burst e) h = ap burst (list_again known e h)

  pub seq_again : (known : Known) (e : Path) → AreFound known (names e) → as_sequence (seq_parts known (seq_text known.operations e)) ≡ e
  seq_again known (name op) h = named_is known op h
  seq_again known (list ms) h = ap as_list (lists_again known ms h)
  seq_again known (sequence ms) h = ap as_sequence (seqs_again known ms h)
  seq_again known (bound n e) h = ap (bound n) (list_again known e h)
  seq_again known (burst e) h = ap burst (list_again known e h)

  pub item_again : (known : Known) (e : Path) → AreFound known (names e) → item_tree known (item_text known.operations e) ≡ e
  item_again known (name op) h = named_is known op h
  item_again known (list ms) h = ap as_list (lists_again known ms h)
  item_again known (sequence ms) h = ap as_sequence (seqs_again known ms h)
  item_again known (bound n e) h = ap (bound n) (list_again known e h)
  item_again known (burst e) h = ap burst (list_again known e h)

  pub lists_again : (known : Known) (ms : Paths) → AreFound known (some_names ms) → list_parts known (list_texts known.operations ms) ≡ several ms
  lists_again known (two a b) h =
      ap (λ x. several (two x (as_sequence (seq_parts known (seq_text known.operations b))))) (seq_again known a (left_found known (names a) (names b) h))
      ∙ ap (λ y. several (two a y)) (seq_again known b (right_found known (names a) (names b) h))
  lists_again known (more a rest) h =
      ap (λ x. several (put x (list_parts known (list_texts known.operations rest)))) (seq_again known a (left_found known (names a) (some_names rest) h))
      ∙ ap (λ p. several (put a p)) (lists_again known rest (right_found known (names a) (some_names rest) h))

  pub seqs_again : (known : Known) (ms : Paths) → AreFound known (some_names ms) → seq_parts known (seq_texts known.operations ms) ≡ several ms
  seqs_again known (two a b) h =
      ap (λ x. several (two x (item_tree known (item_text known.operations b)))) (item_again known a (left_found known (names a) (names b) h))
      ∙ ap (λ y. several (two a y)) (item_again known b (right_found known (names a) (names b) h))
  seqs_again known (more a rest) h =
      ap (λ x. several (put x (seq_parts known (seq_texts known.operations rest)))) (item_again known a (left_found known (names a) (some_names rest) h))
      ∙ ap (λ p. several (put a p)) (seqs_again known rest (right_found known (names a) (some_names rest) h))

-- what is read from the canonical text of a path fits where the path's bounds and levels do
mutual
  pub list_fits : (known : Known) (e : Path) (depth : ℕ) → AreFound known (names e) → BoundsFit e → levels e ≤ depth → ListFits known (list_text known.operations e) depth
  list_fits known (name op) depth h b d = (op, h op (eq-eqb op op refl))
  list_fits known (list ms) depth h b d = lists_fit known ms depth h b d
  list_fits known (sequence ms) depth h b d = seqs_fit known ms depth h b d
  list_fits known (bound n e) depth h b d = ((n, refl, b.0, b.1), omega arith, list_fits known e (depth - 1) h b.2 (omega arith))
  list_fits known (burst e) depth h b d = (omega arith, list_fits known e (depth - 1) h b (omega arith))

  pub seq_fits : (known : Known) (e : Path) (depth : ℕ) → AreFound known (names e) → BoundsFit e → levels_in_list e ≤ depth → SeqFits known (seq_text known.operations e) depth
  seq_fits known (name op) depth h b d = (op, h op (eq-eqb op op refl))
  seq_fits known (list ms) depth h b d = (omega arith, lists_fit known ms (depth - 1) h b (omega arith))
  seq_fits known (sequence ms) depth h b d = seqs_fit known ms depth h b d
  seq_fits known (bound n e) depth h b d = ((n, refl, b.0, b.1), omega arith, list_fits known e (depth - 1) h b.2 (omega arith))
  seq_fits known (burst e) depth h b d = (omega arith, list_fits known e (depth - 1) h b (omega arith))

  pub item_fits : (known : Known) (e : Path) (depth : ℕ) → AreFound known (names e) → BoundsFit e → levels_in_sequence e ≤ depth → ItemFits known (item_text known.operations e) depth
  item_fits known (name op) depth h b d = (op, h op (eq-eqb op op refl))
  item_fits known (list ms) depth h b d = (omega arith, lists_fit known ms (depth - 1) h b (omega arith))
  item_fits known (sequence ms) depth h b d = (omega arith, seqs_fit known ms (depth - 1) h b (omega arith))
  item_fits known (bound n e) depth h b d = ((n, refl, b.0, b.1), omega arith, list_fits known e (depth - 1) h b.2 (omega arith))
  item_fits known (burst e) depth h b d = (omega arith, list_fits known e (depth - 1) h b (omega arith))

  pub lists_fit : (known : Known) (ms : Paths) (depth : ℕ) → AreFound known (some_names ms) → AllBoundsFit ms → list_levels ms ≤ depth → ListFits known (list_texts known.operations ms) depth
  lists_fit known (two a b) depth h f d =
      let p = le-max_left (levels_in_list a) (levels_in_list b) in
      let q = le-max_right (levels_in_list a) (levels_in_list b) in
      (seq_fits known a depth (left_found known (names a) (names b) h) f.0 (omega arith), seq_fits known b depth (right_found known (names a) (names b) h) f.1 (omega arith))
  lists_fit known (more a rest) depth h f d =
      let p = le-max_left (levels_in_list a) (list_levels rest) in
      let q = le-max_right (levels_in_list a) (list_levels rest) in
      (seq_fits known a depth (left_found known (names a) (some_names rest) h) f.0 (omega arith), lists_fit known rest depth (right_found known (names a) (some_names rest) h) f.1 (omega arith))

  pub seqs_fit : (known : Known) (ms : Paths) (depth : ℕ) → AreFound known (some_names ms) → AllBoundsFit ms → sequence_levels ms ≤ depth → SeqFits known (seq_texts known.operations ms) depth
  seqs_fit known (two a b) depth h f d =
      let p = le-max_left (levels_in_sequence a) (levels_in_sequence b) in
      let q = le-max_right (levels_in_sequence a) (levels_in_sequence b) in
      (item_fits known a depth (left_found known (names a) (names b) h) f.0 (omega arith), item_fits known b depth (right_found known (names a) (names b) h) f.1 (omega arith))
  seqs_fit known (more a rest) depth h f d =
      let p = le-max_left (levels_in_sequence a) (sequence_levels rest) in
      let q = le-max_right (levels_in_sequence a) (sequence_levels rest) in
      (item_fits known a depth (left_found known (names a) (some_names rest) h) f.0 (omega arith), seqs_fit known rest depth (right_found known (names a) (some_names rest) h) f.1 (omega arith))
