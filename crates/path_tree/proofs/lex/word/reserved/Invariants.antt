use Rattle.std.proofs.Common.{◌≡◌, ℕ, ◌<◌}
use Rattle.std.specs.Prelude.{slice_index_or}
use Rattle.std.specs.Str.{str_to_ascii_lowercase}
use Rattle.path_tree.specs.Lexeme.{symbol_text}
use Rattle.path_tree.specs.declared.token.Symbol.{Symbol}
use Rattle.path_tree.proofs.lex.word.reserved.Given as goal

abbrev pub invariant-loop-symbol : goal.invariant-loop-symbol
invariant-loop-symbol l =
    (k : ℕ) (d : Symbol) → k < l.symbol-index → str_to_ascii_lowercase l.word ≡ symbol_text (slice_index_or l.symbol-items k d) → ⊥
