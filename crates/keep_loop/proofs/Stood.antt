-- What the state of the loop says, step by step.
use Rattle.std.proofs.Common.{◌≡◌, ◌⊎◌, inl, inr, ℕ, ◌<◌, ◌≤◌, ◌+◌, ◌%◌, List, [], ◌∷◌, ◌++◌, refl, sym, ◌∙◌, ap, subst, append_assoc, length, take, eqb-true, true≢false, arith}
use Rattle.std.specs.Prelude.{Bool, true, false, if◌then◌else◌, ◌==◌}
use Rattle.std.proofs.lemmas.List.{append-nil}
use Rattle.keep_loop.specs.Texts.{NoLineFeed, text_at, to}
use Rattle.keep_loop.specs.Turns.{Turn, Gives, Runs, Asked, heard_of, added_by, notes_by, is_joining, joins}
use Rattle.keep_loop.specs.Turns.Asked.{Heard, Noted, Changes}
use Rattle.keep_loop.specs.Seen.{Happened, came_from, ended_in, written_to, notes_in, added_in, stored_in, kept_in}
use Rattle.keep_loop.specs.Seen.Happened.{Came, Ended, Broke, Wrote, Noticed, Added, Stored, Changed}
use Rattle.keep_loop.specs.Cuts.{IsCut, IsFed, most_line}
use Rattle.keep_loop.specs.Epochs.{AgreesIn, change_to}
use Rattle.keep_loop.specs.declared.post.Stage.TheVariants.{Gone}
use Rattle.keep_loop.specs.Posts.{is_here_in, hears_in, stage_of, is_here, hears, owed_to, Tells, Opens, Closes, Writes, Does}
use Rattle.keep_loop.specs.Stands.{Owes, Heeds, Stands, Rests, held_of}
use Rattle.keep_loop.specs.declared.keep.Keep.{Keep}
use Rattle.keep_loop.specs.declared.keep.LoopLimits.{LoopLimits}
use Rattle.keep_loop.specs.declared.post.Post.{Post}
use Rattle.keep_loop.specs.declared.post.OwedText.{OwedText}
use Rattle.keep_loop.specs.declared.served.LineEnd.{LineEnd}
use Rattle.keep_loop.specs.declared.served.LineEnd.TheVariants.{Feed, Input, TooLong}
use Rattle.keep_loop.specs.declared.served.Note.{Note}
use Rattle.keep_loop.specs.declared.served.Note.TheVariants.{Joins}
use Rattle.keep_loop.proofs.Turns.{runs_last, heard_last, notes_last}
use Rattle.keep_loop.proofs.Epochs.{nothing_more, agrees_on, agrees_changed}
use Rattle.keep_loop.proofs.Cuts.{cut_of_fed, fed_more, fed_line, cut_long, cut_last, cut_more, cut_later}
use Rattle.keep_loop.proofs.Places.{same_place, here_of_hears, is_same}
use Rattle.keep_loop.proofs.Owed.{owes_turn, owes_same, owes_handed, owes_kept, owes_stored, owes_wrote}
use Rattle.keep_loop.proofs.Heeded.{heeds_note, heeds_one, heeds_same, heeds_came, heeds_turn}

came_next : (b : Bool) (came done more : List ℕ) → b ≡ true → came ++ (if b then done ++ more else []) ≡ (came ++ (if b then done else [])) ++ more
came_next true came done more is = sym (append_assoc came done more)
came_next false came done more is = absurd (true≢false (sym is))

came_same : (b : Bool) (came one two : List ℕ) → b ≡ false → came ++ (if b then one else []) ≡ came ++ (if b then two else [])
came_same true came one two is = absurd (true≢false is)
came_same false came one two is = refl

pub came_none : (b : Bool) (came : List ℕ) → came ++ (if b then [] else []) ≡ came
came_none true came = append-nil came
came_none false came = append-nil came

heard_one : (b : Bool) (line : List ℕ) (end : LineEnd) (lines : List (List ℕ × LineEnd)) → b ≡ true → lines ++ (if b then (line, end) ∷ [] else []) ≡ lines ++ (line, end) ∷ []
heard_one true line end lines is = refl
heard_one false line end lines is = absurd (true≢false (sym is))

heard_other : (b : Bool) (line : List ℕ) (end : LineEnd) (lines : List (List ℕ × LineEnd)) → b ≡ false → lines ++ (if b then (line, end) ∷ [] else []) ≡ lines
heard_other true line end lines is = absurd (true≢false is)
heard_other false line end lines is = append-nil lines

more_ended : (b : Bool) (n : ℕ) → n ≤ (if b then 1 else 0) + n
more_ended true n = omega arith
more_ended false n = omega arith

ended_other : (b : Bool) (n : ℕ) → b ≡ false → (if b then 1 else 0) + n ≡ n
ended_other true n is = absurd (true≢false is)
ended_other false n is = omega arith

ended_one : (b : Bool) (n : ℕ) → b ≡ true → 0 < (if b then 1 else 0) + n
ended_one true n is = omega arith
ended_one false n is = absurd (true≢false (sym is))

-- what is held of others stays
pub held_apart : (places : List _) (held now : List OwedText) (who c : ℕ) → length held ≡ length places → is_here places who ≡ true → is_here places c ≡ true → (who == c) ≡ false →
    (x : List ℕ) → text_at now (c % length now) ≡ (if (who % length held) == (c % length held) then x else held_of held c) → held_of now c ≡ held_of held c
held_apart places held now who c count one two not x is =
    is ∙ ap (λ n. if (who % n) == (c % n) then x else held_of held c) count ∙ ap (λ b. if b then x else held_of held c) (same_place places who c one two ∙ not)

pub held_apart_more : (places : List _) (held now : List OwedText) (who c : ℕ) → length held ≡ length places → is_here places who ≡ true → is_here places c ≡ true → (who == c) ≡ false →
    (x : List ℕ) → text_at now (c % length now) ≡ held_of held c ++ (if (who % length held) == (c % length held) then x else []) → held_of now c ≡ held_of held c
held_apart_more places held now who c count one two not x is =
    is ∙ ap (λ n. held_of held c ++ (if (who % n) == (c % n) then x else [])) count ∙ ap (λ b. held_of held c ++ (if b then x else [])) (same_place places who c one two ∙ not)
    ∙ append-nil (held_of held c)

module _ {S : Type 0} (gives : Gives S) (first : S) (limits : LoopLimits) where
  -- nothing is done
  pub stands_same : (seen : List Happened) (keep new : Keep S) → new.object ≡ keep.object → new.held ≡ keep.held → new.base ≡ keep.base → new.limits ≡ keep.limits →
      Tells keep.post new.post [] [] → Stands gives first limits seen keep → Stands gives first limits seen new
  stands_same seen keep new object held base limited tells s = record {
    kept_turns = s.kept_turns;
    later = s.later;
    limited = limited ∙ s.limited;
    runs = subst (λ o. Runs gives first (s.kept_turns ++ s.later) o) (sym object) s.runs;
    owes = subst (λ b. Owes limits (λ c. written_to c seen) (λ j. kept_in limits.waits j seen) (λ j. added_in j seen) new.post b s.kept_turns s.later) (sym base)
        (owes_same limits (λ c. written_to c seen) (λ j. kept_in limits.waits j seen) (λ j. added_in j seen) keep.post new.post keep.base s.kept_turns s.later tells.journals
        (λ j is. tells.lines j is ∙ append-nil (text_at keep.post.lines.items j))
        (λ c is. (let was : is_here keep.post.places.items c ≡ true = sym (tells.here c) ∙ is in (was, tells.owed c was ∙ append-nil (owed_to keep.post.places.items c)))) s.owes);
    heeds = subst (λ b. Heeds (λ c. came_from c seen) (λ c. ended_in c seen) (notes_in seen) new.post new.held.items b (s.kept_turns ++ s.later)) (sym base)
        (subst (λ h. Heeds (λ c. came_from c seen) (λ c. ended_in c seen) (notes_in seen) new.post h.items keep.base (s.kept_turns ++ s.later)) (sym held)
        (heeds_same (λ c. came_from c seen) (λ c. ended_in c seen) (notes_in seen) keep.post new.post keep.held.items keep.base (s.kept_turns ++ s.later) tells.places
        (λ c is. sym (tells.here c) ∙ is) tells.hears s.heeds));
    begun = s.begun;
  }

  -- a note, other than that a connection comes
  pub stands_note : (seen : List Happened) (keep new : Keep S) (note : Note) → ((c : ℕ) → is_joining c note ≡ false) →
      new.held ≡ keep.held → new.base ≡ keep.base → new.limits ≡ keep.limits → Does gives keep.object (Noted note) new.object keep.post new.post →
      Stands gives first limits seen keep → Stands gives first limits (Noticed note ∷ seen) new
  stands_note seen keep new note not held base limited does s =
      let t : Turn = record { asked = Noted note; said = does.said; added = does.added } in
      let all : List Turn = s.kept_turns ++ s.later in
      let on : all ++ t ∷ [] ≡ s.kept_turns ++ (s.later ++ t ∷ []) = append_assoc s.kept_turns s.later (t ∷ []) in
      record {
        kept_turns = s.kept_turns;
        later = s.later ++ t ∷ [];
        limited = limited ∙ s.limited;
        runs = subst (λ ts. Runs gives first ts new.object) on (runs_last gives first all keep.object t new.object s.runs does.step);
        owes = subst (λ b. Owes limits (λ c. written_to c seen) (λ j. kept_in limits.waits j seen) (λ j. added_in j seen) new.post b s.kept_turns (s.later ++ t ∷ [])) (sym base)
            (owes_turn limits (λ c. written_to c seen) (λ j. kept_in limits.waits j seen) (λ j. added_in j seen) keep.post new.post keep.base keep.base s.kept_turns s.later t (omega arith)
            does.tells.journals does.tells.lines
            (λ c is. inl (let was : is_here keep.post.places.items c ≡ true = sym (does.tells.here c) ∙ is in (was, does.tells.owed c was)))
            (λ c far. not c) s.owes);
        heeds = subst (λ ts. Heeds (λ c. came_from c seen) (λ c. ended_in c seen) (notes_in seen ++ note ∷ []) new.post new.held.items new.base ts) on
            (subst (λ b. Heeds (λ c. came_from c seen) (λ c. ended_in c seen) (notes_in seen ++ note ∷ []) new.post new.held.items b (all ++ t ∷ [])) (sym base)
            (subst (λ h. Heeds (λ c. came_from c seen) (λ c. ended_in c seen) (notes_in seen ++ note ∷ []) new.post h.items keep.base (all ++ t ∷ [])) (sym held)
            (heeds_note (λ c. came_from c seen) (λ c. ended_in c seen) (notes_in seen) keep.post new.post keep.held.items keep.held.items keep.base keep.base all note does.said does.added (omega arith)
            (s.heeds.places ∙ sym does.tells.places)
            (λ c is. inl (does.tells.hears c is, refl))
            (λ c is. inl (sym (does.tells.here c) ∙ is))
            (λ c is. absurd (true≢false (sym is ∙ not c))) (λ c far. not c) s.heeds)));
        begun = λ j is. agrees_on j seen s.kept_turns s.later t tt (s.begun j is);
      }

  -- a connection comes
  pub stands_join : (seen : List Happened) (keep new : Keep S) (mid : Post) (who next : ℕ) → keep.base ≤ who → who < next →
      length new.held.items ≡ length keep.held.items →
      ((c : ℕ) → held_of new.held.items c ≡ (if (who % length keep.held.items) == (c % length keep.held.items) then [] else held_of keep.held.items c)) →
      new.base ≡ next → new.limits ≡ keep.limits → Opens keep.post mid who → Does gives keep.object (Noted (Joins who)) new.object mid new.post →
      Stands gives first limits seen keep → Stands gives first limits (Noticed (Joins who) ∷ seen) new
  stands_join seen keep new mid who next from below held_count held base limited opens does s =
      let t : Turn = record { asked = Noted (Joins who); said = does.said; added = does.added } in
      let all : List Turn = s.kept_turns ++ s.later in
      let on : all ++ t ∷ [] ≡ s.kept_turns ++ (s.later ++ t ∷ []) = append_assoc s.kept_turns s.later (t ∷ []) in
      record {
        kept_turns = s.kept_turns;
        later = s.later ++ t ∷ [];
        limited = limited ∙ s.limited;
        runs = subst (λ ts. Runs gives first ts new.object) on (runs_last gives first all keep.object t new.object s.runs does.step);
        owes = subst (λ b. Owes limits (λ c. written_to c seen) (λ j. kept_in limits.waits j seen) (λ j. added_in j seen) new.post b s.kept_turns (s.later ++ t ∷ [])) (sym base)
            (owes_turn limits (λ c. written_to c seen) (λ j. kept_in limits.waits j seen) (λ j. added_in j seen) keep.post new.post keep.base next s.kept_turns s.later t (omega (arith, from, below))
            (does.tells.journals ∙ ap (λ l. length l.items) opens.lines)
            (λ j is. does.tells.lines j (subst (λ l. j < length l.items) (sym opens.lines) is) ∙ ap (λ l. text_at l.items j ++ to j does.added) opens.lines)
            (λ c is. (let was : is_here mid.places.items c ≡ true = sym (does.tells.here c) ∙ is in
            goes c was (does.tells.owed c was) (opens.here c was) (opens.others c was)))
            (λ c far. later_not c far (who == c) refl) s.owes);
        heeds = subst (λ ts. Heeds (λ c. came_from c seen) (λ c. ended_in c seen) (notes_in seen ++ Joins who ∷ []) new.post new.held.items new.base ts) on
            (subst (λ b. Heeds (λ c. came_from c seen) (λ c. ended_in c seen) (notes_in seen ++ Joins who ∷ []) new.post new.held.items b (all ++ t ∷ [])) (sym base)
            (heeds_note (λ c. came_from c seen) (λ c. ended_in c seen) (notes_in seen) keep.post new.post keep.held.items new.held.items keep.base next all (Joins who) does.said does.added
            (omega (arith, from, below))
            (held_count ∙ s.heeds.places ∙ sym opens.places ∙ sym does.tells.places)
            (λ c is. hearing c (opens.hears c (does.tells.hears c is)))
            (λ c is. there c (opens.here c (sym (does.tells.here c) ∙ is)))
            (λ c is. subst (λ k. keep.base ≤ k) (eqb-true who c is) from)
            (λ c far. later_not c far (who == c) refl) s.heeds));
        begun = λ j is. agrees_on j seen s.kept_turns s.later t tt (s.begun j is);
      }
    where
      later_not : (c : ℕ) → next ≤ c → (b : Bool) → (who == c) ≡ b → b ≡ false
      later_not c far true is = absurd (let e = eqb-true who c is in omega (arith, e, below, far))
      later_not c far false is = refl

      goes : (c : ℕ) → is_here mid.places.items c ≡ true → owed_to new.post.places.items c ≡ owed_to mid.places.items c ++ to c does.said →
          (who ≡ c) ⊎ (is_here keep.post.places.items c ≡ true) → (who ≡ c) ⊎ (owed_to mid.places.items c ≡ owed_to keep.post.places.items c) →
          ((is_here keep.post.places.items c ≡ true) × (owed_to new.post.places.items c ≡ owed_to keep.post.places.items c ++ to c does.said))
          ⊎ ((keep.base ≤ c) × ((who == c) ≡ true) × (owed_to new.post.places.items c ≡ to c does.said))
      goes c was owed (inl is) others = inr (
        subst (λ k. keep.base ≤ k) is from,
        subst (λ k. (who == k) ≡ true) is (is_same who),
        owed ∙ ap (λ (l : List ℕ). l ++ to c does.said) (subst (λ k. owed_to mid.places.items k ≡ []) is opens.owed),
      )
      goes c was owed (inr here) (inl is) = inr (
        subst (λ k. keep.base ≤ k) is from,
        subst (λ k. (who == k) ≡ true) is (is_same who),
        owed ∙ ap (λ (l : List ℕ). l ++ to c does.said) (subst (λ k. owed_to mid.places.items k ≡ []) is opens.owed),
      )
      goes c was owed (inr here) (inr same) = inl (here, owed ∙ ap (λ (l : List ℕ). l ++ to c does.said) same)

      held_none : held_of new.held.items who ≡ []
      held_none = held who ∙ ap (λ b. if b then [] else held_of keep.held.items who) (is_same (who % length keep.held.items))

      hearing : (c : ℕ) → (who ≡ c) ⊎ ((hears keep.post.places.items c ≡ true) × (((who % length keep.post.places.items) == (c % length keep.post.places.items)) ≡ false)) →
          ((hears keep.post.places.items c ≡ true) × (held_of new.held.items c ≡ held_of keep.held.items c)) ⊎ ((keep.base ≤ c) × (held_of new.held.items c ≡ []))
      hearing c (inl is) = inr (subst (λ k. keep.base ≤ k) is from, subst (λ k. held_of new.held.items k ≡ []) is held_none)
      hearing c (inr was) = inl (
        was.0,
        held c ∙ ap (λ n. if (who % n) == (c % n) then [] else held_of keep.held.items c) s.heeds.places ∙ ap (λ b. if b then [] else held_of keep.held.items c) was.1,
      )

      there : (c : ℕ) → (who ≡ c) ⊎ (is_here keep.post.places.items c ≡ true) → (is_here keep.post.places.items c ≡ true) ⊎ (c < next)
      there c (inl is) = inr (subst (λ k. k < next) is below)
      there c (inr was) = inl was

  -- the goes_on of what is told by those who are there
  went_on : (old new : Post) (said added : List (ℕ × List ℕ)) (base : ℕ) (asked : Asked) → Tells old new said added → (c : ℕ) → is_here new.places.items c ≡ true →
      ((is_here old.places.items c ≡ true) × (owed_to new.places.items c ≡ owed_to old.places.items c ++ to c said))
      ⊎ ((base ≤ c) × (joins c asked ≡ true) × (owed_to new.places.items c ≡ to c said))
  went_on old new said added base asked tells c is = inl (let was : is_here old.places.items c ≡ true = sym (tells.here c) ∙ is in (was, tells.owed c was))

  -- a line of a connection is heard, behind what came of it already
  pub stands_said : (seen : List Happened) (keep new : Keep S) (who : ℕ) (done more line : List ℕ) (end : LineEnd) → hears keep.post.places.items who ≡ true →
      ended_in who seen ≡ 0 → new.base ≡ keep.base → new.limits ≡ keep.limits → length new.held.items ≡ length keep.held.items →
      ((c : ℕ) → held_of new.held.items c ≡ (if (who % length keep.held.items) == (c % length keep.held.items) then [] else held_of keep.held.items c)) →
      Does gives keep.object (Heard who line end) new.object keep.post new.post →
      ((ended : ℕ) (came : List ℕ) (lines : List (List ℕ × LineEnd)) → IsFed came lines (held_of keep.held.items who) → IsCut ended (came ++ more) (lines ++ (line, end) ∷ [])) →
      (hears new.post.places.items who ≡ true → (came : List ℕ) (lines : List (List ℕ × LineEnd)) → IsFed came lines (held_of keep.held.items who) →
      IsFed (came ++ more) (lines ++ (line, end) ∷ []) []) →
      Stands gives first limits (Came who done ∷ seen) keep → Stands gives first limits (Came who (done ++ more) ∷ seen) new
  stands_said seen keep new who done more line end hearing unended base limited held_count held does cut fed s =
      let t : Turn = record { asked = Heard who line end; said = does.said; added = does.added } in
      let all : List Turn = s.kept_turns ++ s.later in
      let on : all ++ t ∷ [] ≡ s.kept_turns ++ (s.later ++ t ∷ []) = append_assoc s.kept_turns s.later (t ∷ []) in
      let was : List ℕ = came_from who seen ++ (if who == who then done else []) in
      let now : came_from who seen ++ (if who == who then done ++ more else []) ≡ was ++ more = came_next (who == who) (came_from who seen) done more (is_same who) in
      let lines : heard_of who (all ++ t ∷ []) ≡ heard_of who all ++ (line, end) ∷ [] = heard_last who all t ∙ heard_one (who == who) line end (heard_of who all) (is_same who) in
      let before : IsFed was (heard_of who all) (held_of keep.held.items who) = s.heeds.fed who hearing in
      record {
        kept_turns = s.kept_turns;
        later = s.later ++ t ∷ [];
        limited = limited ∙ s.limited;
        runs = subst (λ ts. Runs gives first ts new.object) on (runs_last gives first all keep.object t new.object s.runs does.step);
        owes = subst (λ b. Owes limits (λ c. written_to c seen) (λ j. kept_in limits.waits j seen) (λ j. added_in j seen) new.post b s.kept_turns (s.later ++ t ∷ [])) (sym base)
            (owes_turn limits (λ c. written_to c seen) (λ j. kept_in limits.waits j seen) (λ j. added_in j seen) keep.post new.post keep.base keep.base s.kept_turns s.later t (omega arith)
            does.tells.journals does.tells.lines (went_on keep.post new.post does.said does.added keep.base (Heard who line end) does.tells) (λ c far. refl) s.owes);
        heeds = subst (λ ts. Heeds (λ c. came_from c seen ++ (if who == c then done ++ more else [])) (λ c. ended_in c seen) (notes_in seen) new.post new.held.items new.base ts) on
            (subst (λ b. Heeds (λ c. came_from c seen ++ (if who == c then done ++ more else [])) (λ c. ended_in c seen) (notes_in seen) new.post new.held.items b (all ++ t ∷ [])) (sym base)
            (heeds_one (λ c. came_from c seen ++ (if who == c then done else [])) (λ c. ended_in c seen) (notes_in seen)
            (λ c. came_from c seen ++ (if who == c then done ++ more else [])) (λ c. ended_in c seen) keep.post new.post keep.held.items new.held.items keep.base who all (all ++ t ∷ [])
            held_count does.tells.places (s.heeds.below who (here_of_hears keep.post.places.items who hearing)) (notes_last all t ∙ append-nil (notes_by all))
            (λ c is. sym (does.tells.here c) ∙ is) does.tells.hears
            (λ c not. (came_same (who == c) (came_from c seen) (done ++ more) done not, refl, heard_last c all t ∙ heard_other (who == c) line end (heard_of c all) not))
            (λ c not is. held_apart keep.post.places.items keep.held.items new.held.items who c s.heeds.places (here_of_hears keep.post.places.items who hearing)
            (here_of_hears keep.post.places.items c (does.tells.hears c is)) not [] (held c))
            (subst (λ l. IsCut (ended_in who seen) (came_from who seen ++ (if who == who then done ++ more else [])) l) (sym lines)
            (subst (λ l. IsCut (ended_in who seen) l (heard_of who all ++ (line, end) ∷ [])) (sym now) (cut (ended_in who seen) was (heard_of who all) before)))
            (λ is. subst (λ l. IsFed (came_from who seen ++ (if who == who then done ++ more else [])) l (held_of new.held.items who)) (sym lines)
            (subst (λ l. IsFed l (heard_of who all ++ (line, end) ∷ []) (held_of new.held.items who)) (sym now)
            (subst (λ l. IsFed (was ++ more) (heard_of who all ++ (line, end) ∷ []) l) (sym held_none) (fed is was (heard_of who all) before))))
            (λ is. unended) s.heeds));
        begun = λ j is. agrees_on j seen s.kept_turns s.later t tt (s.begun j is);
      }
    where
      held_none : held_of new.held.items who ≡ []
      held_none = held who ∙ ap (λ b. if b then [] else held_of keep.held.items who) (is_same (who % length keep.held.items))

  -- a line that an LF ends
  pub stands_line : (seen : List Happened) (keep new : Keep S) (who : ℕ) (done front : List ℕ) → hears keep.post.places.items who ≡ true →
      ended_in who seen ≡ 0 → NoLineFeed front → length (held_of keep.held.items who ++ front) ≤ most_line →
      new.base ≡ keep.base → new.limits ≡ keep.limits → length new.held.items ≡ length keep.held.items →
      ((c : ℕ) → held_of new.held.items c ≡ (if (who % length keep.held.items) == (c % length keep.held.items) then [] else held_of keep.held.items c)) →
      Does gives keep.object (Heard who (held_of keep.held.items who ++ front) Feed) new.object keep.post new.post →
      Stands gives first limits (Came who done ∷ seen) keep → Stands gives first limits (Came who (done ++ (front ++ 10 ∷ [])) ∷ seen) new
  stands_line seen keep new who done front hearing unended clear small base limited held_count held does =
      let mine : List ℕ = held_of keep.held.items who in
      stands_said seen keep new who done (front ++ 10 ∷ []) (mine ++ front) Feed hearing unended base limited held_count held does
      (λ ended came lines f. cut_of_fed ended (came ++ (front ++ 10 ∷ [])) (lines ++ (mine ++ front, Feed) ∷ []) [] (fed_line came lines mine front f clear small))
      (λ is came lines f. fed_line came lines mine front f clear small)

  -- a line that has too many bytes
  pub stands_long : (seen : List Happened) (keep new : Keep S) (who : ℕ) (done front rest : List ℕ) → hears keep.post.places.items who ≡ true →
      ended_in who seen ≡ 0 → NoLineFeed front → most_line < length (held_of keep.held.items who ++ front) →
      new.base ≡ keep.base → new.limits ≡ keep.limits → length new.held.items ≡ length keep.held.items →
      ((c : ℕ) → held_of new.held.items c ≡ (if (who % length keep.held.items) == (c % length keep.held.items) then [] else held_of keep.held.items c)) →
      Does gives keep.object (Heard who (held_of keep.held.items who ++ front) TooLong) new.object keep.post new.post → hears new.post.places.items who ≡ false →
      Stands gives first limits (Came who done ∷ seen) keep → Stands gives first limits (Came who (done ++ (front ++ rest)) ∷ seen) new
  stands_long seen keep new who done front rest hearing unended clear long base limited held_count held does deaf =
      let mine : List ℕ = held_of keep.held.items who in
      stands_said seen keep new who done (front ++ rest) (mine ++ front) TooLong hearing unended base limited held_count held does
      (λ ended came lines f. cut_long ended came lines mine front rest f clear long)
      (λ is. absurd (true≢false (sym is ∙ deaf)))

  -- what comes of a connection and is no line: it is held, or the connection is heard no more
  pub stands_more : (seen : List Happened) (keep new : Keep S) (who : ℕ) (done more : List ℕ) → who < keep.base → ended_in who seen ≡ 0 →
      new.object ≡ keep.object → new.post ≡ keep.post → new.base ≡ keep.base → new.limits ≡ keep.limits → length new.held.items ≡ length keep.held.items →
      (length keep.held.items ≡ length keep.post.places.items → (c : ℕ) → (who == c) ≡ false → hears keep.post.places.items c ≡ true → held_of new.held.items c ≡ held_of keep.held.items c) →
      (hears keep.post.places.items who ≡ true → (came : List ℕ) (lines : List (List ℕ × LineEnd)) → IsFed came lines (held_of keep.held.items who) →
      IsFed (came ++ more) lines (held_of new.held.items who)) →
      Stands gives first limits (Came who done ∷ seen) keep → Stands gives first limits (Came who (done ++ more) ∷ seen) new
  stands_more seen keep new who done more below unended object post base limited held_count held fed s =
      let all : List Turn = s.kept_turns ++ s.later in
      let was : List ℕ = came_from who seen ++ (if who == who then done else []) in
      let now : came_from who seen ++ (if who == who then done ++ more else []) ≡ was ++ more = came_next (who == who) (came_from who seen) done more (is_same who) in
      record {
        kept_turns = s.kept_turns;
        later = s.later;
        limited = limited ∙ s.limited;
        runs = subst (λ o. Runs gives first all o) (sym object) s.runs;
        owes = subst (λ b. Owes limits (λ c. written_to c seen) (λ j. kept_in limits.waits j seen) (λ j. added_in j seen) new.post b s.kept_turns s.later) (sym base)
            (subst (λ p. Owes limits (λ c. written_to c seen) (λ j. kept_in limits.waits j seen) (λ j. added_in j seen) p keep.base s.kept_turns s.later) (sym post) s.owes);
        heeds = subst (λ b. Heeds (λ c. came_from c seen ++ (if who == c then done ++ more else [])) (λ c. ended_in c seen) (notes_in seen) new.post new.held.items b all) (sym base)
            (subst (λ p. Heeds (λ c. came_from c seen ++ (if who == c then done ++ more else [])) (λ c. ended_in c seen) (notes_in seen) p new.held.items keep.base all) (sym post)
            (heeds_one (λ c. came_from c seen ++ (if who == c then done else [])) (λ c. ended_in c seen) (notes_in seen)
            (λ c. came_from c seen ++ (if who == c then done ++ more else [])) (λ c. ended_in c seen) keep.post keep.post keep.held.items new.held.items keep.base who all all
            held_count refl below refl (λ c is. is) (λ c is. is)
            (λ c not. (came_same (who == c) (came_from c seen) (done ++ more) done not, refl, refl))
            (held s.heeds.places)
            (subst (λ l. IsCut (ended_in who seen) l (heard_of who all)) (sym now)
            (subst (λ n. IsCut n (was ++ more) (heard_of who all)) (sym unended) (cut_more was more (heard_of who all) (subst (λ n. IsCut n was (heard_of who all)) unended (s.heeds.heard who)))))
            (λ is. subst (λ l. IsFed l (heard_of who all) (held_of new.held.items who)) (sym now) (fed is was (heard_of who all) (s.heeds.fed who is)))
            (λ is. unended) s.heeds));
        begun = s.begun;
      }

  -- it is held
  pub stands_hold : (seen : List Happened) (keep new : Keep S) (who : ℕ) (done rest : List ℕ) → hears keep.post.places.items who ≡ true → ended_in who seen ≡ 0 →
      NoLineFeed rest → length (held_of keep.held.items who ++ rest) ≤ most_line →
      new.object ≡ keep.object → new.post ≡ keep.post → new.base ≡ keep.base → new.limits ≡ keep.limits → length new.held.items ≡ length keep.held.items →
      ((c : ℕ) → held_of new.held.items c ≡ held_of keep.held.items c ++ (if (who % length keep.held.items) == (c % length keep.held.items) then rest else [])) →
      Stands gives first limits (Came who done ∷ seen) keep → Stands gives first limits (Came who (done ++ rest) ∷ seen) new
  stands_hold seen keep new who done rest hearing unended clear small object post base limited held_count held s =
      let mine : List ℕ = held_of keep.held.items who in
      let now : held_of new.held.items who ≡ mine ++ rest =
      held who ∙ ap (λ b. mine ++ (if b then rest else [])) (is_same (who % length keep.held.items)) in
      stands_more seen keep new who done rest (s.heeds.below who (here_of_hears keep.post.places.items who hearing)) unended object post base limited held_count
      (λ count c not is. held_apart_more keep.post.places.items keep.held.items new.held.items who c count (here_of_hears keep.post.places.items who hearing)
      (here_of_hears keep.post.places.items c is) not rest (held c))
      (λ is came lines f. subst (λ l. IsFed (came ++ rest) lines l) (sym now) (fed_more came lines mine rest f clear small)) s

  -- the connection is heard no more
  pub stands_deaf : (seen : List Happened) (keep : Keep S) (who : ℕ) (done more : List ℕ) → who < keep.base → ended_in who seen ≡ 0 → hears keep.post.places.items who ≡ false →
      Stands gives first limits (Came who done ∷ seen) keep → Stands gives first limits (Came who (done ++ more) ∷ seen) keep
  stands_deaf seen keep who done more below unended deaf =
      stands_more seen keep keep who done more below unended refl refl refl refl refl (λ count c not is. refl) (λ is. absurd (true≢false (sym is ∙ deaf)))

  -- nothing of a piece yet
  pub stands_first : (seen : List Happened) (keep : Keep S) (who : ℕ) → Stands gives first limits seen keep → Stands gives first limits (Came who [] ∷ seen) keep
  stands_first seen keep who s = record {
    kept_turns = s.kept_turns;
    later = s.later;
    limited = s.limited;
    runs = s.runs;
    owes = s.owes;
    heeds = heeds_came (λ c. came_from c seen) (λ c. ended_in c seen) (notes_in seen) (λ c. came_from c seen ++ (if who == c then [] else [])) keep.post keep.held.items keep.base
        (s.kept_turns ++ s.later) (λ c. came_none (who == c) (came_from c seen)) s.heeds;
    begun = s.begun;
  }

  -- a connection broke
  pub stands_broke : (seen : List Happened) (keep : Keep S) (who : ℕ) → Stands gives first limits seen keep → Stands gives first limits (Broke who ∷ seen) keep
  stands_broke seen keep who s = record { kept_turns = s.kept_turns; later = s.later; limited = s.limited; runs = s.runs; owes = s.owes; heeds = s.heeds; begun = s.begun }

  -- the input of a connection has ended, of which nothing is held
  pub stands_ended : (seen : List Happened) (keep new : Keep S) (who : ℕ) → hears keep.post.places.items who ≡ true → hears new.post.places.items who ≡ false →
      new.object ≡ keep.object → new.held ≡ keep.held → new.base ≡ keep.base → new.limits ≡ keep.limits → Tells keep.post new.post [] [] →
      Stands gives first limits seen keep → Stands gives first limits (Ended who ∷ seen) new
  unfolding stands_same
  stands_ended seen keep new who hearing deaf object held base limited tells s =
      let all : List Turn = s.kept_turns ++ s.later in
      let still : Stands gives first limits seen new = stands_same seen keep new object held base limited tells s in
      record {
        kept_turns = s.kept_turns;
        later = s.later;
        limited = still.limited;
        runs = still.runs;
        owes = still.owes;
        heeds = subst (λ b. Heeds (λ c. came_from c seen) (λ c. (if who == c then 1 else 0) + ended_in c seen) (notes_in seen) new.post new.held.items b all) (sym base)
            (subst (λ h. Heeds (λ c. came_from c seen) (λ c. (if who == c then 1 else 0) + ended_in c seen) (notes_in seen) new.post h.items keep.base all) (sym held)
            (heeds_one (λ c. came_from c seen) (λ c. ended_in c seen) (notes_in seen) (λ c. came_from c seen) (λ c. (if who == c then 1 else 0) + ended_in c seen)
            keep.post new.post keep.held.items keep.held.items keep.base who all all refl tells.places (s.heeds.below who (here_of_hears keep.post.places.items who hearing)) refl
            (λ c is. sym (tells.here c) ∙ is) tells.hears
            (λ c not. (refl, ended_other (who == c) (ended_in c seen) not, refl)) (λ c not is. refl)
            (cut_later (ended_in who seen) ((if who == who then 1 else 0) + ended_in who seen) (more_ended (who == who) (ended_in who seen)) (came_from who seen) (heard_of who all) (s.heeds.heard who))
            (λ is. absurd (true≢false (sym is ∙ deaf))) (λ is. absurd (true≢false (sym is ∙ deaf))) s.heeds));
        begun = s.begun;
      }

  -- or of which there is a last line
  pub stands_last : (seen : List Happened) (keep new : Keep S) (who : ℕ) (line : List ℕ) → line ≡ held_of keep.held.items who → hears keep.post.places.items who ≡ true →
      hears new.post.places.items who ≡ false → new.base ≡ keep.base → new.limits ≡ keep.limits → length new.held.items ≡ length keep.held.items →
      ((c : ℕ) → held_of new.held.items c ≡ (if (who % length keep.held.items) == (c % length keep.held.items) then [] else held_of keep.held.items c)) →
      Does gives keep.object (Heard who line Input) new.object keep.post new.post →
      Stands gives first limits seen keep → Stands gives first limits (Ended who ∷ seen) new
  stands_last seen keep new who line is_line hearing deaf base limited held_count held does s =
      let t : Turn = record { asked = Heard who line Input; said = does.said; added = does.added } in
      let all : List Turn = s.kept_turns ++ s.later in
      let on : all ++ t ∷ [] ≡ s.kept_turns ++ (s.later ++ t ∷ []) = append_assoc s.kept_turns s.later (t ∷ []) in
      let lines : heard_of who (all ++ t ∷ []) ≡ heard_of who all ++ (line, Input) ∷ [] = heard_last who all t ∙ heard_one (who == who) line Input (heard_of who all) (is_same who) in
      let ended : ℕ = (if who == who then 1 else 0) + ended_in who seen in
      record {
        kept_turns = s.kept_turns;
        later = s.later ++ t ∷ [];
        limited = limited ∙ s.limited;
        runs = subst (λ ts. Runs gives first ts new.object) on (runs_last gives first all keep.object t new.object s.runs does.step);
        owes = subst (λ b. Owes limits (λ c. written_to c seen) (λ j. kept_in limits.waits j seen) (λ j. added_in j seen) new.post b s.kept_turns (s.later ++ t ∷ [])) (sym base)
            (owes_turn limits (λ c. written_to c seen) (λ j. kept_in limits.waits j seen) (λ j. added_in j seen) keep.post new.post keep.base keep.base s.kept_turns s.later t (omega arith)
            does.tells.journals does.tells.lines (went_on keep.post new.post does.said does.added keep.base (Heard who line Input) does.tells) (λ c far. refl) s.owes);
        heeds = subst (λ ts. Heeds (λ c. came_from c seen) (λ c. (if who == c then 1 else 0) + ended_in c seen) (notes_in seen) new.post new.held.items new.base ts) on
            (subst (λ b. Heeds (λ c. came_from c seen) (λ c. (if who == c then 1 else 0) + ended_in c seen) (notes_in seen) new.post new.held.items b (all ++ t ∷ [])) (sym base)
            (heeds_one (λ c. came_from c seen) (λ c. ended_in c seen) (notes_in seen) (λ c. came_from c seen) (λ c. (if who == c then 1 else 0) + ended_in c seen)
            keep.post new.post keep.held.items new.held.items keep.base who all (all ++ t ∷ []) held_count does.tells.places
            (s.heeds.below who (here_of_hears keep.post.places.items who hearing)) (notes_last all t ∙ append-nil (notes_by all))
            (λ c is. sym (does.tells.here c) ∙ is) does.tells.hears
            (λ c not. (refl, ended_other (who == c) (ended_in c seen) not, heard_last c all t ∙ heard_other (who == c) line Input (heard_of c all) not))
            (λ c not is. held_apart keep.post.places.items keep.held.items new.held.items who c s.heeds.places (here_of_hears keep.post.places.items who hearing)
            (here_of_hears keep.post.places.items c (does.tells.hears c is)) not [] (held c))
            (subst (λ l. IsCut ended (came_from who seen) l) (sym lines)
            (subst (λ l. IsCut ended (came_from who seen) (heard_of who all ++ (l, Input) ∷ [])) (sym is_line)
            (cut_last ended (came_from who seen) (heard_of who all) (held_of keep.held.items who) (s.heeds.fed who hearing) (ended_one (who == who) (ended_in who seen) (is_same who)))))
            (λ is. absurd (true≢false (sym is ∙ deaf))) (λ is. absurd (true≢false (sym is ∙ deaf))) s.heeds));
        begun = λ j is. agrees_on j seen s.kept_turns s.later t tt (s.begun j is);
      }

  -- some connections are closed
  pub stands_closes : (seen : List Happened) (keep new : Keep S) → new.object ≡ keep.object → new.held ≡ keep.held → new.base ≡ keep.base → new.limits ≡ keep.limits →
      Closes keep.post new.post → Stands gives first limits seen keep → Stands gives first limits seen new
  stands_closes seen keep new object held base limited closes s = record {
    kept_turns = s.kept_turns;
    later = s.later;
    limited = limited ∙ s.limited;
    runs = subst (λ o. Runs gives first (s.kept_turns ++ s.later) o) (sym object) s.runs;
    owes = subst (λ b. Owes limits (λ c. written_to c seen) (λ j. kept_in limits.waits j seen) (λ j. added_in j seen) new.post b s.kept_turns s.later) (sym base)
        (owes_same limits (λ c. written_to c seen) (λ j. kept_in limits.waits j seen) (λ j. added_in j seen) keep.post new.post keep.base s.kept_turns s.later
        (ap (λ l. length l.items) closes.lines) (λ j is. ap (λ l. text_at l.items j) closes.lines) (λ c is. (closes.here c is, closes.owed c)) s.owes);
    heeds = subst (λ b. Heeds (λ c. came_from c seen) (λ c. ended_in c seen) (notes_in seen) new.post new.held.items b (s.kept_turns ++ s.later)) (sym base)
        (subst (λ h. Heeds (λ c. came_from c seen) (λ c. ended_in c seen) (notes_in seen) new.post h.items keep.base (s.kept_turns ++ s.later)) (sym held)
        (heeds_same (λ c. came_from c seen) (λ c. ended_in c seen) (notes_in seen) keep.post new.post keep.held.items keep.base (s.kept_turns ++ s.later) closes.places
        closes.here closes.hears s.heeds));
    begun = s.begun;
  }

  -- a connection was written a front of what it is owed
  pub rests_wrote : (seen : List Happened) (keep new : Keep S) (who n : ℕ) → new.object ≡ keep.object → new.held ≡ keep.held → new.base ≡ keep.base → new.limits ≡ keep.limits →
      is_here keep.post.places.items who ≡ true → Writes keep.post new.post who n →
      Rests gives first limits seen keep → Rests gives first limits (Wrote who (take n (owed_to keep.post.places.items who)) ∷ seen) new
  rests_wrote seen keep new who n object held base limited here writes r =
      let s = r.stands in
      record {
        stands = record {
          kept_turns = s.kept_turns;
          later = s.later;
          limited = limited ∙ s.limited;
          runs = subst (λ o. Runs gives first (s.kept_turns ++ s.later) o) (sym object) s.runs;
          owes = subst (λ b. Owes limits (λ c. written_to c seen ++ (if who == c then take n (owed_to keep.post.places.items who) else [])) (λ j. kept_in limits.waits j seen)
              (λ j. added_in j seen) new.post b s.kept_turns s.later) (sym base)
              (owes_wrote limits (λ c. written_to c seen) (λ j. kept_in limits.waits j seen) (λ j. added_in j seen) keep.post new.post keep.base who n s.kept_turns s.later r.none here writes s.owes);
          heeds = subst (λ b. Heeds (λ c. came_from c seen) (λ c. ended_in c seen) (notes_in seen) new.post new.held.items b (s.kept_turns ++ s.later)) (sym base)
              (subst (λ h. Heeds (λ c. came_from c seen) (λ c. ended_in c seen) (notes_in seen) new.post h.items keep.base (s.kept_turns ++ s.later)) (sym held)
              (heeds_same (λ c. came_from c seen) (λ c. ended_in c seen) (notes_in seen) keep.post new.post keep.held.items keep.base (s.kept_turns ++ s.later) writes.places
              (λ c is. sym (ap is_here_in (writes.stages c)) ∙ is) (λ c is. sym (ap hears_in (writes.stages c)) ∙ is) s.heeds));
          begun = s.begun;
        };
        none = r.none;
      }

  -- all lines were handed on
  pub rests_kept : (seen : List Happened) (keep : Keep S) → ((j : ℕ) → j < limits.journals → text_at keep.post.lines.items j ≡ []) →
      Stands gives first limits seen keep → Rests gives first limits seen keep
  rests_kept seen keep none s =
      let same : (s.kept_turns ++ s.later) ++ [] ≡ s.kept_turns ++ s.later = append-nil (s.kept_turns ++ s.later) in
      record {
        stands = record {
          kept_turns = s.kept_turns ++ s.later;
          later = [];
          limited = s.limited;
          runs = subst (λ ts. Runs gives first ts keep.object) (sym same) s.runs;
          owes = owes_kept limits (λ c. written_to c seen) (λ j. kept_in limits.waits j seen) (λ j. added_in j seen) keep.post keep.base s.kept_turns s.later none s.owes;
          heeds = subst (λ ts. Heeds (λ c. came_from c seen) (λ c. ended_in c seen) (notes_in seen) keep.post keep.held.items keep.base ts) (sym same) s.heeds;
          begun = λ j is. subst (λ ts. AgreesIn j seen ts) (sym same) (s.begun j is);
        };
        none = refl;
      }

  both_same : (waits : Bool) (l : List ℕ) → (if waits then l else l) ≡ l
  both_same true l = refl
  both_same false l = refl

  -- nobody has come
  pub stands_none : (keep : Keep S) → keep.object ≡ first → keep.limits ≡ limits → length keep.held.items ≡ length keep.post.places.items →
      length keep.post.lines.items ≡ limits.journals → ((c : ℕ) → stage_of keep.post.places.items c ≡ Gone) → ((j : ℕ) → text_at keep.post.lines.items j ≡ []) →
      Stands gives first limits [] keep
  stands_none keep object limited count journals nobody empty = record {
    kept_turns = [];
    later = [];
    limited = limited;
    runs = object;
    owes = record {
      journals = journals;
      begun_kept = λ j is. ([], both_same limits.waits []);
      even = λ j is. both_same limits.waits [];
      lines = λ j is. empty j;
      here = λ c is. absurd (true≢false (sym is ∙ ap is_here_in (nobody c)));
      begun = λ c. ([], refl);
      owed = λ c is. absurd (true≢false (sym is ∙ ap is_here_in (nobody c)));
      fresh = λ c is. refl;
      unwritten = λ c is. refl;
    };
    heeds = record {
      places = count;
      heard = λ c. tt;
      fed = λ c is. absurd (true≢false (sym is ∙ ap hears_in (nobody c)));
      unended = λ c is. absurd (true≢false (sym is ∙ ap hears_in (nobody c)));
      noted = refl;
      once = λ c. omega arith;
      below = λ c is. absurd (true≢false (sym is ∙ ap is_here_in (nobody c)));
      fresh = λ c is. refl;
      unheard = λ c is. (refl, refl, refl);
    };
    begun = λ j is. (tt, refl);
  }

  pub rests_same : (seen : List Happened) (keep new : Keep S) → new.object ≡ keep.object → new.held ≡ keep.held → new.base ≡ keep.base → new.limits ≡ keep.limits →
      Tells keep.post new.post [] [] → Rests gives first limits seen keep → Rests gives first limits seen new
  unfolding stands_same
  rests_same seen keep new object held base limited tells r = record { stands = stands_same seen keep new object held base limited tells r.stands; none = r.none }

  pub rests_closes : (seen : List Happened) (keep new : Keep S) → new.object ≡ keep.object → new.held ≡ keep.held → new.base ≡ keep.base → new.limits ≡ keep.limits →
      Closes keep.post new.post → Rests gives first limits seen keep → Rests gives first limits seen new
  unfolding stands_closes
  rests_closes seen keep new object held base limited closes r = record { stands = stands_closes seen keep new object held base limited closes r.stands; none = r.none }

  handed_lines : (seen : List Happened) (journal j : ℕ) (lines mine : List ℕ) → lines ≡ mine →
      added_in j seen ++ (if journal == j then lines else []) ≡ added_in j seen ++ (if journal == j then mine else [])
  handed_lines seen journal j lines mine are = ap (λ l. added_in j seen ++ (if journal == j then l else [])) are

  -- a journal was handed its lines, and no answer waits for the disk
  pub stands_added : (seen : List Happened) (keep new : Keep S) (journal : ℕ) (lines : List ℕ) → limits.waits ≡ false → lines ≡ text_at keep.post.lines.items journal →
      new.object ≡ keep.object → new.held ≡ keep.held → new.base ≡ keep.base → new.limits ≡ keep.limits → new.post.places ≡ keep.post.places →
      length new.post.lines.items ≡ length keep.post.lines.items →
      ((j : ℕ) → text_at new.post.lines.items j ≡ (if journal == j then [] else text_at keep.post.lines.items j)) →
      Stands gives first limits seen keep → Stands gives first limits (Added journal lines ∷ seen) new
  stands_added seen keep new journal lines waits are object held base limited places count texts s = record {
    kept_turns = s.kept_turns;
    later = s.later;
    limited = limited ∙ s.limited;
    runs = subst (λ o. Runs gives first (s.kept_turns ++ s.later) o) (sym object) s.runs;
    owes = subst (λ b. Owes limits (λ c. written_to c seen) (λ j. kept_in limits.waits j (Added journal lines ∷ seen)) (λ j. added_in j (Added journal lines ∷ seen)) new.post b s.kept_turns s.later) (sym base)
        (owes_handed limits (λ c. written_to c seen) (λ j. kept_in limits.waits j seen) (λ j. added_in j seen)
        (λ j. kept_in limits.waits j (Added journal lines ∷ seen)) (λ j. added_in j (Added journal lines ∷ seen)) keep.post new.post keep.base journal s.kept_turns s.later places count texts
        (λ j. handed_lines seen journal j lines (text_at keep.post.lines.items journal) are)
        (λ j is. ap (λ w. if w then stored_in j seen else added_in j (Added journal lines ∷ seen)) waits) s.owes);
    heeds = subst (λ b. Heeds (λ c. came_from c seen) (λ c. ended_in c seen) (notes_in seen) new.post new.held.items b (s.kept_turns ++ s.later)) (sym base)
        (subst (λ h. Heeds (λ c. came_from c seen) (λ c. ended_in c seen) (notes_in seen) new.post h.items keep.base (s.kept_turns ++ s.later)) (sym held)
        (heeds_same (λ c. came_from c seen) (λ c. ended_in c seen) (notes_in seen) keep.post new.post keep.held.items keep.base (s.kept_turns ++ s.later) (ap (λ p. length p.items) places)
        (λ c is. ap (λ p. is_here p.items c) (sym places) ∙ is) (λ c is. ap (λ p. hears p.items c) (sym places) ∙ is) s.heeds));
    begun = s.begun;
  }

  even_stored : (seen : List Happened) (journal j : ℕ) (lines : List ℕ) → stored_in j seen ≡ added_in j seen → (b : Bool) → (journal == j) ≡ b →
      (if b then added_in j seen ++ (if journal == j then lines else []) else stored_in j seen) ≡ added_in j seen ++ (if journal == j then lines else [])
  even_stored seen journal j lines even true is = refl
  even_stored seen journal j lines even false is = even ∙ sym (append-nil (added_in j seen)) ∙ ap (λ b. added_in j seen ++ (if b then lines else [])) (sym is)

  -- and it was stored
  pub stands_stored : (seen : List Happened) (keep new : Keep S) (journal : ℕ) (lines : List ℕ) → limits.waits ≡ true → lines ≡ text_at keep.post.lines.items journal →
      new.object ≡ keep.object → new.held ≡ keep.held → new.base ≡ keep.base → new.limits ≡ keep.limits → new.post.places ≡ keep.post.places →
      length new.post.lines.items ≡ length keep.post.lines.items →
      ((j : ℕ) → text_at new.post.lines.items j ≡ (if journal == j then [] else text_at keep.post.lines.items j)) →
      Stands gives first limits seen keep → Stands gives first limits (Stored journal ∷ Added journal lines ∷ seen) new
  stands_stored seen keep new journal lines waits are object held base limited places count texts s = record {
    kept_turns = s.kept_turns;
    later = s.later;
    limited = limited ∙ s.limited;
    runs = subst (λ o. Runs gives first (s.kept_turns ++ s.later) o) (sym object) s.runs;
    owes = subst (λ b. Owes limits (λ c. written_to c seen) (λ j. kept_in limits.waits j (Stored journal ∷ Added journal lines ∷ seen)) (λ j. added_in j (Added journal lines ∷ seen)) new.post b s.kept_turns s.later) (sym base)
        (owes_handed limits (λ c. written_to c seen) (λ j. kept_in limits.waits j seen) (λ j. added_in j seen)
        (λ j. kept_in limits.waits j (Stored journal ∷ Added journal lines ∷ seen)) (λ j. added_in j (Added journal lines ∷ seen)) keep.post new.post keep.base journal s.kept_turns s.later places count texts
        (λ j. handed_lines seen journal j lines (text_at keep.post.lines.items journal) are)
        (λ j is. ap (λ w. if w then (if journal == j then added_in j (Added journal lines ∷ seen) else stored_in j seen) else added_in j (Added journal lines ∷ seen)) waits
        ∙ even_stored seen journal j lines (sym (ap (λ w. if w then stored_in j seen else added_in j seen) waits) ∙ s.owes.even j is) (journal == j) refl) s.owes);
    heeds = subst (λ b. Heeds (λ c. came_from c seen) (λ c. ended_in c seen) (notes_in seen) new.post new.held.items b (s.kept_turns ++ s.later)) (sym base)
        (subst (λ h. Heeds (λ c. came_from c seen) (λ c. ended_in c seen) (notes_in seen) new.post h.items keep.base (s.kept_turns ++ s.later)) (sym held)
        (heeds_same (λ c. came_from c seen) (λ c. ended_in c seen) (notes_in seen) keep.post new.post keep.held.items keep.base (s.kept_turns ++ s.later) (ap (λ p. length p.items) places)
        (λ c is. ap (λ p. is_here p.items c) (sym places) ∙ is) (λ c is. ap (λ p. hears p.items c) (sym places) ∙ is) s.heeds));
    begun = s.begun;
  }

  -- all lines were handed on
  all_handed : (seen : List Happened) (keep : Keep S) (r : Rests gives first limits seen keep) (j : ℕ) → j < limits.journals →
      added_in j seen ≡ added_by j (r.stands.kept_turns ++ r.stands.later)
  all_handed seen keep r j is =
      let s = r.stands in
      let begun = s.owes.begun_kept j is in
      let only : s.kept_turns ++ s.later ≡ s.kept_turns = ap (λ ts. s.kept_turns ++ ts) r.none ∙ append-nil s.kept_turns in
      let kept_is : added_in j seen ≡ added_by j s.kept_turns ++ begun.0 = sym (s.owes.even j is) ∙ begun.1 in
      kept_is ∙ nothing_more (added_by j s.kept_turns) begun.0 (text_at keep.post.lines.items j)
      (ap (λ (l : List ℕ). l ++ text_at keep.post.lines.items j) (sym kept_is) ∙ s.owes.lines j is ∙ ap (added_by j) only) ∙ sym (ap (added_by j) only)

  -- the turn in which a journal has begun anew, or could not
  turned : (seen : List Happened) (keep new : Keep S) (journal : ℕ) (front : List ℕ) (went : Bool) → new.post ≡ keep.post → new.held ≡ keep.held → new.base ≡ keep.base →
      gives keep.object (Changes journal front went) [] [] new.object → (s : Stands gives first limits seen keep) →
      Runs gives first (s.kept_turns ++ (s.later ++ record { asked = Changes journal front went; said = []; added = [] } ∷ [])) new.object
      × Owes limits (λ c. written_to c seen) (λ j. kept_in limits.waits j seen) (λ j. added_in j seen) new.post new.base s.kept_turns
      (s.later ++ record { asked = Changes journal front went; said = []; added = [] } ∷ [])
      × Heeds (λ c. came_from c seen) (λ c. ended_in c seen) (notes_in seen) new.post new.held.items new.base
      (s.kept_turns ++ (s.later ++ record { asked = Changes journal front went; said = []; added = [] } ∷ []))
  turned seen keep new journal front went post held base step s =
      let t : Turn = record { asked = Changes journal front went; said = []; added = [] } in
      let all : List Turn = s.kept_turns ++ s.later in
      let on : all ++ t ∷ [] ≡ s.kept_turns ++ (s.later ++ t ∷ []) = append_assoc s.kept_turns s.later (t ∷ []) in (
        subst (λ ts. Runs gives first ts new.object) on (runs_last gives first all keep.object t new.object s.runs step),
        subst (λ b. Owes limits (λ c. written_to c seen) (λ j. kept_in limits.waits j seen) (λ j. added_in j seen) new.post b s.kept_turns (s.later ++ t ∷ [])) (sym base)
            (subst (λ p. Owes limits (λ c. written_to c seen) (λ j. kept_in limits.waits j seen) (λ j. added_in j seen) p keep.base s.kept_turns (s.later ++ t ∷ [])) (sym post)
            (owes_turn limits (λ c. written_to c seen) (λ j. kept_in limits.waits j seen) (λ j. added_in j seen) keep.post keep.post keep.base keep.base s.kept_turns s.later t (omega arith)
            refl (λ j is. sym (append-nil (text_at keep.post.lines.items j)))
            (λ c is. inl (is, sym (append-nil (owed_to keep.post.places.items c)))) (λ c far. refl) s.owes)),
        subst (λ ts. Heeds (λ c. came_from c seen) (λ c. ended_in c seen) (notes_in seen) new.post new.held.items new.base ts) on
            (subst (λ b. Heeds (λ c. came_from c seen) (λ c. ended_in c seen) (notes_in seen) new.post new.held.items b (all ++ t ∷ [])) (sym base)
            (subst (λ p. Heeds (λ c. came_from c seen) (λ c. ended_in c seen) (notes_in seen) p new.held.items keep.base (all ++ t ∷ [])) (sym post)
            (subst (λ h. Heeds (λ c. came_from c seen) (λ c. ended_in c seen) (notes_in seen) keep.post h.items keep.base (all ++ t ∷ [])) (sym held)
            (heeds_turn (λ c. came_from c seen) (λ c. ended_in c seen) (notes_in seen) keep.post keep.held.items keep.base all (all ++ t ∷ [])
            (λ c. heard_last c all t ∙ append-nil (heard_of c all)) (notes_last all t ∙ append-nil (notes_by all)) s.heeds)))),
      )

  -- a journal could not begin anew
  pub stands_stays : (seen : List Happened) (keep new : Keep S) (journal : ℕ) (front : List ℕ) → new.post ≡ keep.post → new.held ≡ keep.held → new.base ≡ keep.base →
      new.limits ≡ keep.limits → gives keep.object (Changes journal front false) [] [] new.object → Stands gives first limits seen keep → Stands gives first limits seen new
  stands_stays seen keep new journal front post held base limited step s =
      let t : Turn = record { asked = Changes journal front false; said = []; added = [] } in
      let now = turned seen keep new journal front false post held base step s in
      record {
        kept_turns = s.kept_turns;
        later = s.later ++ t ∷ [];
        limited = limited ∙ s.limited;
        runs = now.0;
        owes = now.1;
        heeds = now.2;
        begun = λ j is. agrees_on j seen s.kept_turns s.later t tt (s.begun j is);
      }

  -- it has, where all lines are kept
  pub stands_renewed : (seen : List Happened) (keep new : Keep S) (journal : ℕ) (front : List ℕ) → new.post ≡ keep.post → new.held ≡ keep.held → new.base ≡ keep.base →
      new.limits ≡ keep.limits → gives keep.object (Changes journal front true) [] [] new.object → Rests gives first limits seen keep →
      Stands gives first limits (Changed journal front ∷ seen) new
  stands_renewed seen keep new journal front post held base limited step r =
      let s = r.stands in
      let now = turned seen keep new journal front true post held base step s in
      record {
        kept_turns = s.kept_turns;
        later = s.later ++ change_to journal front ∷ [];
        limited = limited ∙ s.limited;
        runs = now.0;
        owes = now.1;
        heeds = now.2;
        begun = λ j is. agrees_changed journal front seen s.kept_turns s.later j (all_handed seen keep r j is) (s.begun j is);
      }

  -- a journal was stored for which no answer waits
  pub stands_synced : (seen : List Happened) (keep : Keep S) (journal : ℕ) → limits.waits ≡ false → Stands gives first limits seen keep → Stands gives first limits (Stored journal ∷ seen) keep
  stands_synced seen keep journal waits s = record {
    kept_turns = s.kept_turns;
    later = s.later;
    limited = s.limited;
    runs = s.runs;
    owes = owes_stored limits (λ c. written_to c seen) (λ j. kept_in limits.waits j seen) (λ j. added_in j seen) (λ j. kept_in limits.waits j (Stored journal ∷ seen)) keep.post keep.base
        s.kept_turns s.later
        (λ j. ap (λ w. if w then (if journal == j then added_in j seen else stored_in j seen) else added_in j seen) waits ∙ sym (ap (λ w. if w then stored_in j seen else added_in j seen) waits))
        s.owes;
    heeds = s.heeds;
    begun = s.begun;
  }

  pub rests_synced : (seen : List Happened) (keep : Keep S) (journal : ℕ) → limits.waits ≡ false → Rests gives first limits seen keep → Rests gives first limits (Stored journal ∷ seen) keep
  unfolding stands_synced
  rests_synced seen keep journal waits r = record {
    stands = stands_synced seen keep journal waits r.stands;
    none = r.none;
  }
