-- Runs of a journal, step by step.
use Rattle.std.proofs.Common.{◌≡◌, inl, inr, ⊎_elim, ℕ, ◌+◌, ◌<◌, List, ◌∷◌, ◌++◌, length, get_or, drop, refl, sym, ◌∙◌, ap, arith, append_assoc, take-append-drop}
use Rattle.std.specs.Prelude.{Option, Result, Ok, Err, OnOk}
use Rattle.std.proofs.lemmas.List.{drop_more}
use Rattle.keep_loop.specs.Device.{LeavesOnly}
use Rattle.keep_loop.specs.Journal.{Begins}
use Rattle.keep_loop.specs.Taken.{taken, TellsBetween}
use Rattle.keep_loop.specs.Order.{Holds}
use Rattle.keep_loop.specs.Run.{HoldsAtLeast}
use Rattle.keep_loop.specs.declared.journal.Journal.{Journal}
use Rattle.keep_loop.specs.declared.uncalled.JournalStep.{JournalStep}
use Rattle.keep_loop.proofs.Lines.{begins_on, begins_self}

-- one run behind another
pub then : {D : Type 0} (moment : D → ℕ) (left_since : D → ℕ → List ℕ → Type 0) (old mid new : D) (P : List ℕ → Type 0) →
    LeavesOnly moment left_since old mid P → LeavesOnly moment left_since mid new P → LeavesOnly moment left_since old new P
then moment left_since old mid new P one two = record {
  later = omega (arith, one.later, two.later);
  each = λ c left. ⊎_elim (λ before. one.each c before) (λ here. here) (two.before (moment old) c one.later left);
  before = λ t c le left. ⊎_elim (λ before. one.before t c le before) (λ here. inr here) (two.before t c (omega (arith, le, one.later)) left);
}

pub weaker : {D : Type 0} (moment : D → ℕ) (left_since : D → ℕ → List ℕ → Type 0) (old new : D) (P Q : List ℕ → Type 0) →
    ((c : List ℕ) → P c → Q c) → LeavesOnly moment left_since old new P → LeavesOnly moment left_since old new Q
weaker moment left_since old new P Q leads one = record {
  later = one.later;
  each = λ c left. leads c (one.each c left);
  before = λ t c le left. ⊎_elim (λ before. inl before) (λ here. inr (leads c here)) (one.before t c le left);
}

pub wider : (stored more text all found : List ℕ) → Begins stored more → Begins text all → TellsBetween more text found → TellsBetween stored all found
wider stored more text all found front back is = record {
  is_taken = is.is_taken;
  between = record {
    all_stored = begins_on stored more (taken found) front is.between.all_stored;
    nothing_else = begins_on (taken found) text all is.between.nothing_else back;
  };
}

-- the next step
pub next_is : (steps : List JournalStep) (i : ℕ) (step : JournalStep) → i < length steps → step ≡ get_or steps i step → drop i steps ≡ step ∷ drop (i + 1) steps
next_is steps i step inside is = drop_more steps i step inside ∙ ap (λ (s : JournalStep). s ∷ drop (i + 1) steps) (sym is)

module _ {D : Type 0} (seen : D → Option (List ℕ)) (moment : D → ℕ) (left_since : D → ℕ → List ℕ → Type 0) where
  -- the journal so far, since it held these lines; more are to come
  pub record SoFar (old new : Journal D) (stored all rest : List ℕ) : Type 0 where
    pub text : List ℕ
    pub holds : HoldsAtLeast seen new stored text
    pub lines_are : text ++ rest ≡ all
    pub leaves : LeavesOnly moment left_since old.device new.device (λ c. TellsBetween stored all c)

  pub so_far_first : (journal : Journal D) (stored text more : List ℕ) → Holds seen journal stored text →
      LeavesOnly moment left_since journal.device journal.device (λ c. TellsBetween stored (text ++ more) c) → SoFar journal journal stored (text ++ more) more
  so_far_first journal stored text more holds leaves = record {
    text = text;
    holds = record { now_stored = stored; front = begins_self stored; holds = holds };
    lines_are = refl;
    leaves = leaves;
  }

  -- what a step more leaves
  pub step_leaves : (old mid new : Journal D) (stored all lines rest : List ℕ) → SoFar old mid stored all (lines ++ rest) →
      ((front text : List ℕ) → Holds seen mid front text → LeavesOnly moment left_since mid.device new.device (λ c. TellsBetween front (text ++ lines) c)) →
      LeavesOnly moment left_since old.device new.device (λ c. TellsBetween stored all c)
  step_leaves old mid new stored all lines rest so leaves =
      let h = so.holds in
      let back : Begins (so.text ++ lines) all = (rest, sym so.lines_are ∙ sym (append_assoc so.text lines rest)) in
      then moment left_since old.device mid.device new.device (λ c. TellsBetween stored all c) so.leaves
      (weaker moment left_since mid.device new.device (λ c. TellsBetween h.now_stored (so.text ++ lines) c) (λ c. TellsBetween stored all c)
      (λ c is. wider stored h.now_stored (so.text ++ lines) all c h.front back is) (leaves h.now_stored so.text h.holds))

  pub so_far_next : (old mid new : Journal D) (stored all lines rest : List ℕ) → SoFar old mid stored all (lines ++ rest) →
      ((front text : List ℕ) → Holds seen mid front text → LeavesOnly moment left_since mid.device new.device (λ c. TellsBetween front (text ++ lines) c)) →
      ((front text : List ℕ) → Holds seen mid front text → HoldsAtLeast seen new front (text ++ lines)) → SoFar old new stored all rest
  so_far_next old mid new stored all lines rest so leaves holds =
      let h = so.holds in
      let now = holds h.now_stored so.text h.holds in
      record {
        text = so.text ++ lines;
        holds = record { now_stored = now.now_stored; front = begins_on stored h.now_stored now.now_stored h.front now.front; holds = now.holds };
        lines_are = append_assoc so.text lines rest ∙ so.lines_are;
        leaves = step_leaves old mid new stored all lines rest so leaves;
      }

pub on_ok_leads : {A E P Q : Type 0} (result : Result A E) → (P → Q) → OnOk result P → OnOk result Q
on_ok_leads (Ok x) leads p = leads p
on_ok_leads (Err e) leads p = tt
