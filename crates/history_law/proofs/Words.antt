-- Lines of words.
use Rattle.std.proofs.Common.{◌≡◌, ◌≢◌, inl, inr, ℕ, ◌≤◌, true, false, List, [], ◌∷◌, ◌++◌, refl, sym, ap, ◌∙◌, subst, arith, ◌==◌}
use Rattle.std.specs.Prelude.{Bool, cond, ◌||◌}
use Rattle.std.specs.List.{AllByRecursion}
use Rattle.std.proofs.lemmas.List.Elements.{recursion_from_All}
use Rattle.std.proofs.lemmas.Bool.{cases_eq}
use Rattle.std.proofs.lemmas.Bool.Decides.{nat_tests}
use Rattle.value_core.specs.Plain.{IsPlain, IsText}
use Rattle.word_core.specs.Words.{Word, bare, quoted, doubled, word_text, behind_word, words_text, line_of}
use Rattle.keep_loop.specs.Journal.{has_end, whole, IsSolid, AreLines}
use Rattle.history_law.specs.CrashLaws.{EachSolid}

solid_append : (a b : List ℕ) → IsSolid a → IsSolid b → IsSolid (a ++ b)
solid_append [] b one two = two
solid_append (byte ∷ a) b one two = (one.0, solid_append a b one.1 two)

or_true : (b : Bool) → b || true ≡ true
or_true true = refl
or_true false = refl

line_ends : (text : List ℕ) → has_end (text ++ 10 ∷ []) ≡ true
line_ends [] = refl
line_ends (byte ∷ text) = ap (λ b. byte == 10 || b) (line_ends text) ∙ or_true (byte == 10)

ended : (text : List ℕ) → whole (text ++ 10 ∷ []) ≡ text ++ 10 ∷ []
ended [] = refl
ended (byte ∷ text) = ap (λ b. cond b (byte ∷ whole (text ++ 10 ∷ [])) []) (line_ends (byte ∷ text)) ∙ ap (λ (l : List ℕ). byte ∷ l) (ended text)

doubled_solid : (text : List ℕ) → IsSolid text → IsSolid (doubled text)
doubled_solid [] solid = tt
doubled_solid (b ∷ text) solid = elim (cases_eq b 39) [
  | inl is ↦
      let two : doubled (b ∷ text) ≡ 39 ∷ 39 ∷ doubled text = grind (arith, nat_tests) in
      subst IsSolid (sym two) (omega arith, (omega arith, doubled_solid text solid.1))
  | inr other ↦
      let one : doubled (b ∷ text) ≡ b ∷ doubled text = grind (arith, nat_tests) in
      subst IsSolid (sym one) (solid.0, doubled_solid text solid.1)
]

plain_solid : (text : List ℕ) → AllByRecursion IsPlain text → IsSolid text
plain_solid [] plain = tt
plain_solid (b ∷ text) plain = let low = plain.0.0 in (omega (arith, low), plain_solid text plain.1)

word_solid : (word : Word) (more : List Word) → EachSolid (word ∷ more) → IsSolid (word_text word)
word_solid (bare bytes) more each = each.0
word_solid (quoted text) more each =
    (omega arith, solid_append (doubled text) (39 ∷ []) (doubled_solid text (plain_solid text (recursion_from_All IsPlain text each.0.plain))) (omega arith, tt))

later_solid : (word : Word) (more : List Word) → EachSolid (word ∷ more) → EachSolid more
later_solid (bare bytes) more each = each.1
later_solid (quoted text) more each = each.1

behind_solid : (words : List Word) → EachSolid words → IsSolid (behind_word words)
behind_solid [] each = tt
behind_solid (word ∷ more) each = (omega arith, solid_append (word_text word) (behind_word more) (word_solid word more each) (behind_solid more (later_solid word more each)))

words_solid : (words : List Word) → EachSolid words → IsSolid (words_text words)
words_solid [] each = tt
words_solid (word ∷ more) each = solid_append (word_text word) (behind_word more) (word_solid word more each) (behind_solid more (later_solid word more each))

pub are_lines : (words : List Word) → EachSolid words → AreLines (line_of words)
are_lines words each = record {
  solid = solid_append (words_text words) (10 ∷ []) (words_solid words each) (omega arith, tt);
  ended = ended (words_text words);
}
