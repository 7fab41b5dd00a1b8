-- A text of whole lines, of which a front and the lines behind it were read.
use Rattle.std.proofs.Common.{◌≡◌, ◌⊎◌, inl, inr, ℕ, ◌+◌, ◌≤◌, true, false, List, [], ◌∷◌, ◌++◌, length, take, drop, refl, sym, ap, subst, ◌∙◌, append_assoc, ◌==◌}
use Rattle.std.specs.Prelude.{Bool, cond, ◌||◌, Result, Ok, Err, IfOk, MatchResult}
use Rattle.std.proofs.lemmas.List.{take-append-drop, length-take-le}
use Rattle.std.proofs.lemmas.List.Elements.{recursion_from_All, All-from_recursion}
use Rattle.std.proofs.lemmas.Bool.{false≢true}
use Rattle.keep_loop.specs.Journal.{has_end, whole}
use Rattle.decl_core.specs.ObjectForm.{ObjectForm}
use Rattle.live_core.specs.Front.{Opening, HasRows}
use Rattle.live_core.specs.Text.{front_text}
use Rattle.recover_core.specs.declared.recover.House.{House}
use Rattle.recover_core.specs.declared.recover.Recovered.{Recovered}
use Rattle.recover_core.specs.declared.recover.RecoverFault.{RecoverFault}
use Rattle.recover_core.specs.Lines.{IsLine, joined, line_ends}
use Rattle.recover_core.specs.Recovered.{IsBehind, RefusesBehind}
use Rattle.recover_core.specs.Text.{IsRead, IsRecovered, Refuses}

chosen : {A : Type 0} (b : Bool) (x y z : A) → cond b x y ≡ z → ((b ≡ true) × (x ≡ z)) ⊎ ((b ≡ false) × (y ≡ z))
chosen true x y z is = inl (refl, is)
chosen false x y z is = inr (refl, is)

no_end : (line : List ℕ) → IsLine line → has_end line ≡ false
no_end [] is = refl
no_end (b ∷ line) is =
    let r = recursion_from_All (λ b. (b == 10) ≡ false) (b ∷ line) is in
    ap (λ x. x || has_end line) r.0 ∙ no_end line (All-from_recursion (λ b. (b == 10) ≡ false) line r.1)

-- behind whole lines nothing stands that is no line
whole_rest : (lines rest : List ℕ) → has_end rest ≡ false → whole (lines ++ rest) ≡ lines ++ rest → rest ≡ []
whole_rest [] [] none is = refl
whole_rest [] (b ∷ rest) none is = elim (chosen (has_end (b ∷ rest)) (b ∷ whole rest) [] (b ∷ rest) is) [
  | inl h ↦ absurd (false≢true (sym none ∙ h.0))
  | inr h ↦ absurd (cc h.1)
]
whole_rest (b ∷ lines) rest none is = elim (chosen (has_end (b ∷ (lines ++ rest))) (b ∷ whole (lines ++ rest)) [] (b ∷ (lines ++ rest)) is) [
  | inl h ↦ whole_rest lines rest none (cc h.1)
  | inr h ↦ absurd (cc h.1)
]

if_ok : {A E : Type 0} {P Q : A → Type 0} (r : Result A E) → ((a : A) → P a → Q a) → IfOk r P → IfOk r Q
if_ok (Ok a) on is = on a is
if_ok (Err e) on is = tt

module _ (o : ObjectForm) (h : House) (f : Opening) (text before behind : List ℕ) (bytes lines : ℕ) (rows : HasRows o f) (within : bytes ≤ length text) (told : take bytes text ≡ front_text o f) (front : before ≡ take bytes text)
    (back : behind ≡ drop bytes text) (counted : lines ≡ line_ends before) (ended : whole text ≡ text) where
  cut : text ≡ front_text o f ++ behind
  cut = sym (take-append-drop bytes text) ∙ ap (λ t. t ++ drop bytes text) told ∙ ap (λ t. front_text o f ++ t) (sym back)

  length_is : bytes ≡ length (front_text o f)
  length_is = sym (length-take-le bytes text within) ∙ ap length told

  lines_is : lines ≡ line_ends (front_text o f)
  lines_is = counted ∙ ap line_ends (front ∙ told)

  recovered_so : (r : Recovered) → IsBehind o h f bytes behind r → IsRead o h text f r
  recovered_so r is =
      let b : IsBehind o h f (length (front_text o f)) behind r = record {
        lines = is.lines;
        rest = is.rest;
        each = is.each;
        open_end = is.open_end;
        cut = is.cut;
        steps = is.steps;
        played = is.played;
        comes = is.comes;
        clients = is.clients;
        length_is = is.length_is ∙ ap (λ n. n + length (joined is.played.kept)) length_is;
        epoch_is = is.epoch_is;
        source_is = is.source_is;
        base_is = is.base_is;
      } in
      let all : text ≡ (front_text o f ++ joined is.lines) ++ is.rest = cut ∙ ap (λ t. front_text o f ++ t) is.cut ∙ sym (append_assoc (front_text o f) (joined is.lines) is.rest) in
      record {
        rows = rows;
        behind = behind;
        text_is = cut;
        is = b;
        whole = whole_rest (front_text o f ++ joined is.lines) is.rest (no_end is.rest is.open_end) (ap whole (sym all) ∙ ended ∙ all);
      }

  refused_so : (fault : RecoverFault) → RefusesBehind o h f lines behind fault → Refuses o h text fault
  refused_so fault is = inr (f, behind, rows, cut, subst (λ n. RefusesBehind o h f n behind fault) lines_is is)

  found_so : (found : Result Recovered RecoverFault) → MatchResult found (IsBehind o h f bytes behind) (RefusesBehind o h f lines behind) → MatchResult found (IsRead o h text f) (Refuses o h text)
  found_so (Ok r) is = recovered_so r is
  found_so (Err fault) is = refused_so fault is

  -- what was found behind the front is what was found in the text
  pub found_in : {E : Type 0} (result : Result (Result Recovered RecoverFault) E) → IfOk result (λ found. MatchResult found (IsBehind o h f bytes behind) (RefusesBehind o h f lines behind)) →
      IfOk result (λ found. MatchResult found (IsRead o h text f) (Refuses o h text))
  found_in result = if_ok result found_so

-- what was read with a front is recovered
pub recovered_by : {E : Type 0} (o : ObjectForm) (h : House) (text : List ℕ) (f : Opening) (result : Result (Result Recovered RecoverFault) E) → IfOk result (λ found. MatchResult found (IsRead o h text f) (Refuses o h text)) →
    IfOk result (λ found. MatchResult found (IsRecovered o h text) (Refuses o h text))
recovered_by o h text f (Ok (Ok r)) is = (f, is)
recovered_by o h text f (Ok (Err fault)) is = is
recovered_by o h text f (Err e) is = tt
