-- What is seen is honest, event by event.
use Rattle.std.proofs.Common.{◌≡◌, inl, ℕ, ◌<◌, ◌≤◌, ◌+◌, List, [], ◌∷◌, ◌++◌, refl, sym, ◌∙◌, ap, subst, append_assoc, take, drop, take-append-drop, eqb-true, arith}
use Rattle.std.specs.Prelude.{Bool, true, false, if◌then◌else◌, ◌==◌}
use Rattle.std.proofs.lemmas.List.{append-nil}
use Rattle.keep_loop.specs.Texts.{Begins, text_at}
use Rattle.keep_loop.specs.Turns.{Turn, Runs, heard_of, notes_by, is_joining, added_by, said_to}
use Rattle.keep_loop.specs.Seen.{Happened, came_from, ended_in, written_to, notes_in, added_in, stored_in, kept_in, comings, read_of}
use Rattle.keep_loop.specs.Seen.Happened.{Came, Ended, Broke, Wrote, Noticed, Added, Changed}
use Rattle.keep_loop.specs.Cuts.{IsCut}
use Rattle.keep_loop.specs.Epochs.{Rules, HasBegun}
use Rattle.keep_loop.specs.Posts.{is_here, hears, owed_to}
use Rattle.keep_loop.specs.Stands.{Owes, Stands, Rests, IsHonest}
use Rattle.keep_loop.specs.declared.keep.Keep.{Keep}
use Rattle.keep_loop.specs.declared.keep.LoopLimits.{LoopLimits}
use Rattle.keep_loop.specs.declared.outside.ReadEnd.{ReadEnd}
use Rattle.keep_loop.specs.declared.outside.ReadEnd.TheVariants as reads
use Rattle.keep_loop.specs.declared.post.Post.{Post}
use Rattle.keep_loop.specs.declared.served.Note.{Note}
use Rattle.keep_loop.proofs.Turns.{comings_last, begins_more}
use Rattle.keep_loop.proofs.Cuts.{cut_more, cut_later}
use Rattle.keep_loop.proofs.Epochs.{ahead}
use Rattle.keep_loop.proofs.Places.{by_who, is_same}

more_ended : (b : Bool) (n : ℕ) → n ≤ (if b then 1 else 0) + n
more_ended true n = omega arith
more_ended false n = omega arith

kept_more : (waits : Bool) (front stored added more : List ℕ) → Begins front (if waits then stored else added) → Begins front (if waits then stored else added ++ more)
kept_more true front stored added more is = is
kept_more false front stored added more is = begins_more front added more is

one_more : (b : Bool) (n m : ℕ) → m ≡ n + (if b then 1 else 0) → n ≤ 1 → (b ≡ true → n ≡ 0) → m ≤ 1
one_more true n m is le none = (let zero_is = none refl in omega (arith, is, zero_is))
one_more false n m is le none = omega (arith, is, le)

both_same : (waits : Bool) (l : List ℕ) → (if waits then l else l) ≡ l
both_same true l = refl
both_same false l = refl

module _ {S : Type 0} (rules : Rules S) (first : S) (limits : LoopLimits) where
  -- from the parts
  pub honest_by : (seen : List Happened) (base : ℕ) (post : Post) (kept_turns later : List Turn) (last : S) → Runs rules.gives first (kept_turns ++ later) last →
      ((c : ℕ) → IsCut (ended_in c seen) (came_from c seen) (heard_of c (kept_turns ++ later))) →
      ((rest : List Note) × (notes_in seen ≡ notes_by (kept_turns ++ later) ++ rest)) → ((c : ℕ) → comings c (notes_in seen) ≤ 1) →
      Owes limits (λ c. written_to c seen) (λ j. kept_in limits.waits j seen) (λ j. added_in j seen) post base kept_turns later →
      ((j : ℕ) → j < limits.journals → HasBegun rules last j seen (kept_turns ++ later)) → IsHonest rules first limits seen
  honest_by seen base post kept_turns later last runs heard noted once o begun = record {
    kept_turns = kept_turns;
    later = later;
    last = last;
    runs = runs;
    heard = heard;
    noted = noted;
    once = once;
    kept = o.begun_kept;
    added = λ j is. (text_at post.lines.items j, sym (o.lines j is));
    written = o.begun;
    begun = begun;
  }

  pub honest : (seen : List Happened) (keep : Keep S) → Stands rules.gives first limits seen keep → IsHonest rules first limits seen
  honest seen keep s =
      honest_by seen keep.base keep.post s.kept_turns s.later keep.object s.runs s.heeds.heard ([], s.heeds.noted ∙ sym (append-nil (notes_by (s.kept_turns ++ s.later)))) s.heeds.once s.owes
      (λ j is. inl (s.begun j is))

  pub honest_came : (seen : List Happened) (keep : Keep S) (who : ℕ) (bytes : List ℕ) → hears keep.post.places.items who ≡ true →
      Stands rules.gives first limits seen keep → IsHonest rules first limits (Came who bytes ∷ seen)
  honest_came seen keep who bytes hearing s =
      let all : List Turn = s.kept_turns ++ s.later in
      honest_by (Came who bytes ∷ seen) keep.base keep.post s.kept_turns s.later keep.object s.runs
      (λ c. by_who who c (λ k. IsCut (ended_in k seen) (came_from k seen ++ (if who == k then bytes else [])) (heard_of k all))
      (subst (λ n. IsCut n (came_from who seen ++ (if who == who then bytes else [])) (heard_of who all)) (sym (s.heeds.unended who hearing))
      (cut_more (came_from who seen) (if who == who then bytes else []) (heard_of who all)
      (subst (λ n. IsCut n (came_from who seen) (heard_of who all)) (s.heeds.unended who hearing) (s.heeds.heard who))))
      (λ not. subst (λ b. IsCut (ended_in c seen) (came_from c seen ++ (if b then bytes else [])) (heard_of c all)) (sym not)
      (subst (λ l. IsCut (ended_in c seen) l (heard_of c all)) (sym (append-nil (came_from c seen))) (s.heeds.heard c))))
      ([], s.heeds.noted ∙ sym (append-nil (notes_by all))) s.heeds.once s.owes (λ j is. inl (s.begun j is))

  pub honest_ended : (seen : List Happened) (keep : Keep S) (who : ℕ) → Stands rules.gives first limits seen keep → IsHonest rules first limits (Ended who ∷ seen)
  honest_ended seen keep who s =
      let all : List Turn = s.kept_turns ++ s.later in
      honest_by (Ended who ∷ seen) keep.base keep.post s.kept_turns s.later keep.object s.runs
      (λ c. cut_later (ended_in c seen) ((if who == c then 1 else 0) + ended_in c seen) (more_ended (who == c) (ended_in c seen)) (came_from c seen) (heard_of c all) (s.heeds.heard c))
      ([], s.heeds.noted ∙ sym (append-nil (notes_by all))) s.heeds.once s.owes (λ j is. inl (s.begun j is))

  pub honest_broke : (seen : List Happened) (keep : Keep S) (who : ℕ) → Stands rules.gives first limits seen keep → IsHonest rules first limits (Broke who ∷ seen)
  honest_broke seen keep who s =
      honest_by (Broke who ∷ seen) keep.base keep.post s.kept_turns s.later keep.object s.runs s.heeds.heard ([], s.heeds.noted ∙ sym (append-nil (notes_by (s.kept_turns ++ s.later)))) s.heeds.once s.owes
      (λ j is. inl (s.begun j is))

  -- a journal has begun anew, of which the object was not told, by a front that stands for it
  pub honest_changed : (seen : List Happened) (keep : Keep S) (journal : ℕ) (front : List ℕ) → rules.fronts keep.object journal front →
      Stands rules.gives first limits seen keep → IsHonest rules first limits (Changed journal front ∷ seen)
  honest_changed seen keep journal front stands s =
      honest_by (Changed journal front ∷ seen) keep.base keep.post s.kept_turns s.later keep.object s.runs s.heeds.heard
      ([], s.heeds.noted ∙ sym (append-nil (notes_by (s.kept_turns ++ s.later)))) s.heeds.once s.owes
      (λ j is. ahead rules keep.object journal front stands seen s.kept_turns s.later j (s.begun j is))

  -- a piece was read, or an end
  pub honest_read : (seen : List Happened) (keep : Keep S) (who : ℕ) (bytes : List ℕ) (read : ReadEnd) → hears keep.post.places.items who ≡ true →
      Stands rules.gives first limits seen keep → IsHonest rules first limits (read_of who bytes read ∷ seen)
  honest_read seen keep who bytes reads.More hearing s = honest_came seen keep who bytes hearing s
  honest_read seen keep who bytes reads.NoMore hearing s = honest_came seen keep who bytes hearing s
  honest_read seen keep who bytes reads.Ended hearing s = honest_ended seen keep who s
  honest_read seen keep who bytes reads.Broken hearing s = honest_broke seen keep who s

  -- a note
  pub honest_noticed : (seen : List Happened) (keep : Keep S) (note : Note) → ((c : ℕ) → is_joining c note ≡ true → keep.base ≤ c) →
      Stands rules.gives first limits seen keep → IsHonest rules first limits (Noticed note ∷ seen)
  honest_noticed seen keep note joining s =
      honest_by (Noticed note ∷ seen) keep.base keep.post s.kept_turns s.later keep.object s.runs s.heeds.heard (note ∷ [], ap (λ l. l ++ note ∷ []) s.heeds.noted)
      (λ c. one_more (is_joining c note) (comings c (notes_in seen)) (comings c (notes_in seen ++ note ∷ [])) (comings_last c (notes_in seen) note) (s.heeds.once c) (λ is. s.heeds.fresh c (joining c is)))
      s.owes (λ j is. inl (s.begun j is))

  -- lines were handed to a journal
  pub honest_added : (seen : List Happened) (keep : Keep S) (journal : ℕ) (lines : List ℕ) → lines ≡ text_at keep.post.lines.items journal →
      Stands rules.gives first limits seen keep → IsHonest rules first limits (Added journal lines ∷ seen)
  honest_added seen keep journal lines are s =
      let all : List Turn = s.kept_turns ++ s.later in
      record {
        kept_turns = s.kept_turns;
        later = s.later;
        last = keep.object;
        runs = s.runs;
        heard = s.heeds.heard;
        noted = ([], s.heeds.noted ∙ sym (append-nil (notes_by all)));
        once = s.heeds.once;
        kept = λ j is. kept_more limits.waits (added_by j s.kept_turns) (stored_in j seen) (added_in j seen) (if journal == j then lines else []) (s.owes.begun_kept j is);
        added = λ j is. handed j is (journal == j) refl;
        written = s.owes.begun;
        begun = λ j is. inl (s.begun j is);
      }
    where
      handed : (j : ℕ) → j < limits.journals → (b : Bool) → (journal == j) ≡ b → Begins (added_in j seen ++ (if b then lines else [])) (added_by j (s.kept_turns ++ s.later))
      handed j is true it = (
        [],
        sym (s.owes.lines j is) ∙ ap (λ k. added_in j seen ++ text_at keep.post.lines.items k) (sym (eqb-true journal j it)) ∙ ap (λ (l : List ℕ). added_in j seen ++ l) (sym are)
            ∙ sym (append-nil (added_in j seen ++ lines)),
      )
      handed j is false it = (text_at keep.post.lines.items j, sym (s.owes.lines j is) ∙ ap (λ (l : List ℕ). l ++ text_at keep.post.lines.items j) (sym (append-nil (added_in j seen))))

  -- a connection was written a front of what it is owed, where all lines are kept
  pub honest_wrote : (seen : List Happened) (keep : Keep S) (who n : ℕ) → is_here keep.post.places.items who ≡ true →
      Rests rules.gives first limits seen keep → IsHonest rules first limits (Wrote who (take n (owed_to keep.post.places.items who)) ∷ seen)
  honest_wrote seen keep who n here r =
      let s = r.stands in
      let all : List Turn = s.kept_turns ++ s.later in
      let owed : List ℕ = owed_to keep.post.places.items who in
      let only : all ≡ s.kept_turns = ap (λ ts. s.kept_turns ++ ts) r.none ∙ append-nil s.kept_turns in
      record {
        kept_turns = s.kept_turns;
        later = s.later;
        last = keep.object;
        runs = s.runs;
        heard = s.heeds.heard;
        noted = ([], s.heeds.noted ∙ sym (append-nil (notes_by all)));
        once = s.heeds.once;
        kept = s.owes.begun_kept;
        added = λ j is. (text_at keep.post.lines.items j, sym (s.owes.lines j is));
        written = λ c. by_who who c (λ k. Begins (written_to k seen ++ (if who == k then take n owed else [])) (said_to k s.kept_turns))
            (subst (λ b. Begins (written_to who seen ++ (if b then take n owed else [])) (said_to who s.kept_turns)) (sym (is_same who)) (
              drop n owed,
              ap (said_to who) (sym only) ∙ sym (s.owes.owed who here) ∙ ap (λ (l : List ℕ). written_to who seen ++ l) (sym (take-append-drop n owed))
                  ∙ sym (append_assoc (written_to who seen) (take n owed) (drop n owed)),
            ))
            (λ not. subst (λ b. Begins (written_to c seen ++ (if b then take n owed else [])) (said_to c s.kept_turns)) (sym not)
            (subst (λ (l : List ℕ). Begins l (said_to c s.kept_turns)) (sym (append-nil (written_to c seen))) (s.owes.begun c)));
        begun = λ j is. inl (s.begun j is);
      }

  pub honest_none : IsHonest rules first limits []
  honest_none = record {
    kept_turns = [];
    later = [];
    last = first;
    runs = refl;
    heard = λ c. tt;
    noted = ([], refl);
    once = λ c. omega arith;
    kept = λ j is. ([], both_same limits.waits []);
    added = λ j is. ([], refl);
    written = λ c. ([], refl);
    begun = λ j is. inl (tt, refl);
  }
