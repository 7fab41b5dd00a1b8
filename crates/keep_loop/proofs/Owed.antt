-- What is owed, step by step.
use Rattle.std.proofs.Common.{◌≡◌, ◌⊎◌, inl, inr, ℕ, ◌<◌, ◌≤◌, List, [], ◌∷◌, ◌++◌, refl, sym, ◌∙◌, ap, subst, append_assoc, length, take, drop, take-append-drop, eqb-true, true≢false, arith}
use Rattle.std.specs.Prelude.{Bool, true, false, ◌||◌, if◌then◌else◌, ◌==◌}
use Rattle.std.proofs.lemmas.List.{append-nil}
use Rattle.keep_loop.specs.Texts.{Begins, text_at, to}
use Rattle.keep_loop.specs.Turns.{Turn, joins, said_to, added_by, has_joined}
use Rattle.keep_loop.specs.Posts.{is_here, is_here_in, owed_to, Writes}
use Rattle.keep_loop.specs.Stands.{Owes}
use Rattle.keep_loop.specs.declared.keep.LoopLimits.{LoopLimits}
use Rattle.keep_loop.specs.declared.post.Post.{Post}
use Rattle.keep_loop.proofs.Turns.{joined_last, said_last, said_first, said_more, added_last, begins_more, begins_twice}

-- one that is there was there before, and is owed what is said to it; or it comes now
abbrev pub GoesOn : Post → Post → ℕ → Turn → ℕ → Type 0
GoesOn old new base t c =
    ((is_here old.places.items c ≡ true) × (owed_to new.places.items c ≡ owed_to old.places.items c ++ to c t.said))
    ⊎ ((base ≤ c) × (joins c t.asked ≡ true) × (owed_to new.places.items c ≡ to c t.said))

module _ (limits : LoopLimits) (written kept added : ℕ → List ℕ) where
  -- a turn
  pub owes_turn : (old new : Post) (base next : ℕ) (kept_turns later : List Turn) (t : Turn) → base ≤ next →
      length new.lines.items ≡ length old.lines.items →
      ((j : ℕ) → j < length old.lines.items → text_at new.lines.items j ≡ text_at old.lines.items j ++ to j t.added) →
      ((c : ℕ) → is_here new.places.items c ≡ true → GoesOn old new base t c) → ((c : ℕ) → next ≤ c → joins c t.asked ≡ false) →
      Owes limits written kept added old base kept_turns later → Owes limits written kept added new next kept_turns (later ++ t ∷ [])
  owes_turn old new base next kept_turns later t le count lines goes_on none o =
      let all : List Turn = kept_turns ++ later in
      let on : all ++ t ∷ [] ≡ kept_turns ++ (later ++ t ∷ []) = append_assoc kept_turns later (t ∷ []) in
      record {
        journals = count ∙ o.journals;
        begun_kept = o.begun_kept;
        even = o.even;
        lines = λ j is.
            ap (λ (l : List ℕ). added j ++ l) (lines j (subst (λ n. j < n) (sym o.journals) is)) ∙ sym (append_assoc (added j) (text_at old.lines.items j) (to j t.added))
            ∙ ap (λ (l : List ℕ). l ++ to j t.added) (o.lines j is) ∙ sym (added_last j all t) ∙ ap (added_by j) on;
        here = λ c is. sym (ap (has_joined c) on) ∙ joined_last c all t ∙ joined c (goes_on c is);
        begun = o.begun;
        owed = λ c is. told c (goes_on c is) ∙ ap (said_to c) on;
        fresh = λ c is. (let far : base ≤ c = omega (arith, le, is) in
            sym (ap (has_joined c) on) ∙ joined_last c all t ∙ ap (λ b. b || joins c t.asked) (o.fresh c far) ∙ none c is);
        unwritten = λ c is. o.unwritten c (omega (arith, le, is));
      }
    where
      joined : (c : ℕ) → GoesOn old new base t c → (has_joined c (kept_turns ++ later) || joins c t.asked) ≡ true
      joined c (inl was) = ap (λ b. b || joins c t.asked) (o.here c was.0)
      joined c (inr comes) = ap (λ b. b || joins c t.asked) (o.fresh c comes.0) ∙ comes.1

      told : (c : ℕ) → GoesOn old new base t c → written c ++ owed_to new.places.items c ≡ said_to c ((kept_turns ++ later) ++ t ∷ [])
      told c (inl was) =
          ap (λ (l : List ℕ). written c ++ l) was.1 ∙ sym (append_assoc (written c) (owed_to old.places.items c) (to c t.said))
          ∙ ap (λ (l : List ℕ). l ++ to c t.said) (o.owed c was.0) ∙ sym (said_last c (kept_turns ++ later) t (o.here c was.0))
      told c (inr comes) =
          ap (λ (l : List ℕ). l ++ owed_to new.places.items c) (o.unwritten c comes.0) ∙ comes.2
          ∙ sym (said_first c (kept_turns ++ later) t (o.fresh c comes.0) comes.1)

  -- no turn
  pub owes_same : (old new : Post) (base : ℕ) (kept_turns later : List Turn) → length new.lines.items ≡ length old.lines.items →
      ((j : ℕ) → j < length old.lines.items → text_at new.lines.items j ≡ text_at old.lines.items j) →
      ((c : ℕ) → is_here new.places.items c ≡ true → (is_here old.places.items c ≡ true) × (owed_to new.places.items c ≡ owed_to old.places.items c)) →
      Owes limits written kept added old base kept_turns later → Owes limits written kept added new base kept_turns later
  owes_same old new base kept_turns later count lines same o = record {
    journals = count ∙ o.journals;
    begun_kept = o.begun_kept;
    even = o.even;
    lines = λ j is. ap (λ (l : List ℕ). added j ++ l) (lines j (subst (λ n. j < n) (sym o.journals) is)) ∙ o.lines j is;
    here = λ c is. o.here c (same c is).0;
    begun = o.begun;
    owed = λ c is. ap (λ (l : List ℕ). written c ++ l) (same c is).1 ∙ o.owed c (same c is).0;
    fresh = o.fresh;
    unwritten = o.unwritten;
  }

  -- a journal was handed its lines, which are kept
  pub owes_handed : (kept_now added_now : ℕ → List ℕ) (old new : Post) (base journal : ℕ) (kept_turns later : List Turn) →
      new.places ≡ old.places → length new.lines.items ≡ length old.lines.items →
      ((j : ℕ) → text_at new.lines.items j ≡ (if journal == j then [] else text_at old.lines.items j)) →
      ((j : ℕ) → added_now j ≡ added j ++ (if journal == j then text_at old.lines.items journal else [])) →
      ((j : ℕ) → j < limits.journals → kept_now j ≡ added_now j) →
      Owes limits written kept added old base kept_turns later → Owes limits written kept_now added_now new base kept_turns later
  owes_handed kept_now added_now old new base journal kept_turns later places count lines adds evens o = record {
    journals = count ∙ o.journals;
    begun_kept = λ j is.
        subst (λ (l : List ℕ). Begins (added_by j kept_turns) l) (sym (evens j is ∙ adds j))
        (begins_more (added_by j kept_turns) (added j) (if journal == j then text_at old.lines.items journal else [])
        (subst (λ (l : List ℕ). Begins (added_by j kept_turns) l) (o.even j is) (o.begun_kept j is)));
    even = evens;
    lines = λ j is.
        ap (λ (l : List ℕ). l ++ text_at new.lines.items j) (adds j)
        ∙ ap (λ (l : List ℕ). (added j ++ (if journal == j then text_at old.lines.items journal else [])) ++ l) (lines j)
        ∙ moved j (journal == j) refl ∙ o.lines j is;
    here = λ c is. o.here c (ap (λ p. is_here p.items c) (sym places) ∙ is);
    begun = o.begun;
    owed = λ c is. ap (λ p. written c ++ owed_to p.items c) places ∙ o.owed c (ap (λ p. is_here p.items c) (sym places) ∙ is);
    fresh = o.fresh;
    unwritten = o.unwritten;
  }
    where
      moved : (j : ℕ) (b : Bool) → (journal == j) ≡ b →
          (added j ++ (if b then text_at old.lines.items journal else [])) ++ (if b then [] else text_at old.lines.items j) ≡ added j ++ text_at old.lines.items j
      moved j true is = append-nil (added j ++ text_at old.lines.items journal) ∙ ap (λ i. added j ++ text_at old.lines.items i) (eqb-true journal j is)
      moved j false is = ap (λ (l : List ℕ). l ++ text_at old.lines.items j) (append-nil (added j))

  -- the same are kept
  pub owes_stored : (kept_now : ℕ → List ℕ) (post : Post) (base : ℕ) (kept_turns later : List Turn) → ((j : ℕ) → kept_now j ≡ kept j) →
      Owes limits written kept added post base kept_turns later → Owes limits written kept_now added post base kept_turns later
  owes_stored kept_now post base kept_turns later same o = record {
    journals = o.journals;
    begun_kept = λ j is. subst (λ (l : List ℕ). Begins (added_by j kept_turns) l) (sym (same j)) (o.begun_kept j is);
    even = λ j is. same j ∙ o.even j is;
    lines = o.lines;
    here = o.here;
    begun = o.begun;
    owed = o.owed;
    fresh = o.fresh;
    unwritten = o.unwritten;
  }

  -- all lines are kept
  pub owes_kept : (post : Post) (base : ℕ) (kept_turns later : List Turn) → ((j : ℕ) → j < limits.journals → text_at post.lines.items j ≡ []) →
      Owes limits written kept added post base kept_turns later → Owes limits written kept added post base (kept_turns ++ later) []
  owes_kept post base kept_turns later none o =
      let all : List Turn = kept_turns ++ later in
      let same : all ++ [] ≡ all = append-nil all in
      record {
        journals = o.journals;
        begun_kept = λ j is. ([], o.even j is ∙ sym (append-nil (added j)) ∙ ap (λ (l : List ℕ). added j ++ l) (sym (none j is)) ∙ o.lines j is ∙ sym (append-nil (added_by j all)));
        even = o.even;
        lines = λ j is. o.lines j is ∙ ap (added_by j) (sym same);
        here = λ c is. ap (has_joined c) same ∙ o.here c is;
        begun = λ c. begins_twice (written c) (said_to c kept_turns) (said_to c all) (o.begun c) (said_more c kept_turns later);
        owed = λ c is. o.owed c is ∙ ap (said_to c) (sym same);
        fresh = λ c is. ap (has_joined c) same ∙ o.fresh c is;
        unwritten = o.unwritten;
      }

  wrote : (b : Bool) (n : ℕ) (was mine owed said : List ℕ) → (b ≡ true → mine ≡ owed) → was ++ owed ≡ said →
      (was ++ (if b then take n mine else [])) ++ (if b then drop n owed else owed) ≡ said
  wrote true n was mine owed said same is =
      append_assoc was (take n mine) (drop n owed) ∙ ap (λ (l : List ℕ). was ++ (take n l ++ drop n owed)) (same refl)
      ∙ ap (λ (l : List ℕ). was ++ l) (take-append-drop n owed) ∙ is
  wrote false n was mine owed said same is = ap (λ (l : List ℕ). l ++ owed) (append-nil was) ∙ is

  -- a connection was written a front of what it is owed, where all lines are kept
  pub owes_wrote : (old new : Post) (base who n : ℕ) (kept_turns later : List Turn) → later ≡ [] → is_here old.places.items who ≡ true → Writes old new who n →
      Owes limits written kept added old base kept_turns later →
      Owes limits (λ c. written c ++ (if who == c then take n (owed_to old.places.items who) else [])) kept added new base kept_turns later
  owes_wrote old new base who n kept_turns later none is_there w o =
      record {
        journals = ap (λ l. length l.items) w.lines ∙ o.journals;
        begun_kept = o.begun_kept;
        even = o.even;
        lines = λ j is. ap (λ l. added j ++ text_at l.items j) w.lines ∙ o.lines j is;
        here = λ c is. o.here c (was c is);
        begun = λ c. begun_now c (who == c) refl;
        owed = now;
        fresh = o.fresh;
        unwritten = λ c is. unwritten_now c (who == c) refl is;
      }
    where
      was : (c : ℕ) → is_here new.places.items c ≡ true → is_here old.places.items c ≡ true
      was c is = sym (ap is_here_in (w.stages c)) ∙ is

      now : (c : ℕ) → is_here new.places.items c ≡ true →
          (written c ++ (if who == c then take n (owed_to old.places.items who) else [])) ++ owed_to new.places.items c ≡ said_to c (kept_turns ++ later)
      now c is =
          ap (λ (l : List ℕ). (written c ++ (if who == c then take n (owed_to old.places.items who) else [])) ++ l) (w.owed c (was c is))
          ∙ wrote (who == c) n (written c) (owed_to old.places.items who) (owed_to old.places.items c) (said_to c (kept_turns ++ later))
          (λ is. ap (λ k. owed_to old.places.items k) (eqb-true who c is)) (o.owed c (was c is))

      only : kept_turns ++ later ≡ kept_turns
      only = ap (λ ts. kept_turns ++ ts) none ∙ append-nil kept_turns

      begun_now : (c : ℕ) (b : Bool) → (who == c) ≡ b → Begins (written c ++ (if who == c then take n (owed_to old.places.items who) else [])) (said_to c kept_turns)
      begun_now c true is =
          let there : is_here new.places.items c ≡ true = ap is_here_in (w.stages c) ∙ ap (λ k. is_here old.places.items k) (sym (eqb-true who c is)) ∙ is_there in
          (owed_to new.places.items c, ap (said_to c) (sym only) ∙ sym (now c there))
      begun_now c false is =
          subst (λ b. Begins (written c ++ (if b then take n (owed_to old.places.items who) else [])) (said_to c kept_turns)) (sym is)
          (subst (λ (l : List ℕ). Begins l (said_to c kept_turns)) (sym (append-nil (written c))) (o.begun c))

      unwritten_now : (c : ℕ) (b : Bool) → (who == c) ≡ b → base ≤ c → written c ++ (if who == c then take n (owed_to old.places.items who) else []) ≡ []
      unwritten_now c true is far =
          absurd (true≢false (sym (o.here c (ap (λ k. is_here old.places.items k) (sym (eqb-true who c is)) ∙ is_there)) ∙ o.fresh c far))
      unwritten_now c false is far =
          ap (λ b. written c ++ (if b then take n (owed_to old.places.items who) else [])) is ∙ append-nil (written c) ∙ o.unwritten c far
