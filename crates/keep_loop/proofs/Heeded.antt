-- What is heard, step by step.
use Rattle.std.proofs.Common.{◌≡◌, ◌⊎◌, inl, inr, ℕ, ◌<◌, ◌≤◌, ◌+◌, List, [], ◌∷◌, ◌++◌, refl, sym, ◌∙◌, ap, subst, length, true≢false, arith}
use Rattle.std.specs.Prelude.{Bool, true, false, if◌then◌else◌, ◌==◌}
use Rattle.std.proofs.lemmas.List.{append-nil}
use Rattle.keep_loop.specs.Turns.{Turn, heard_of, notes_by, is_joining}
use Rattle.keep_loop.specs.Turns.Asked.{Noted}
use Rattle.keep_loop.specs.Seen.{comings}
use Rattle.keep_loop.specs.Cuts.{IsCut, IsFed}
use Rattle.keep_loop.specs.Posts.{is_here, hears}
use Rattle.keep_loop.specs.Stands.{Heeds, held_of}
use Rattle.keep_loop.specs.declared.post.Post.{Post}
use Rattle.keep_loop.specs.declared.post.OwedText.{OwedText}
use Rattle.keep_loop.specs.declared.served.Note.{Note}
use Rattle.keep_loop.proofs.Turns.{heard_last, notes_last, comings_last}
use Rattle.keep_loop.proofs.Cuts.{fed_nothing}
use Rattle.keep_loop.proofs.Places.{by_who}

counted : (b : Bool) (n m : ℕ) → m ≡ n + (if b then 1 else 0) → n ≤ 1 → (b ≡ true → n ≡ 0) → m ≤ 1
counted true n m is le none = (let zero_is = none refl in omega (arith, is, zero_is))
counted false n m is le none = omega (arith, is, le)

uncounted : (b : Bool) (n m : ℕ) → m ≡ n + (if b then 1 else 0) → n ≡ 0 → b ≡ false → m ≡ 0
uncounted true n m is none not = absurd (true≢false not)
uncounted false n m is none not = omega (arith, is, none)

module _ (came : ℕ → List ℕ) (ended : ℕ → ℕ) (notes : List Note) where
  -- a note. Who is heard was heard before, or comes now
  pub heeds_note : (old new : Post) (held held_now : List OwedText) (base next : ℕ) (all : List Turn) (note : Note) (said added : List (ℕ × List ℕ)) → base ≤ next →
      length held_now ≡ length new.places.items →
      ((c : ℕ) → hears new.places.items c ≡ true → ((hears old.places.items c ≡ true) × (held_of held_now c ≡ held_of held c)) ⊎ ((base ≤ c) × (held_of held_now c ≡ []))) →
      ((c : ℕ) → is_here new.places.items c ≡ true → (is_here old.places.items c ≡ true) ⊎ (c < next)) →
      ((c : ℕ) → is_joining c note ≡ true → base ≤ c) → ((c : ℕ) → next ≤ c → is_joining c note ≡ false) →
      Heeds came ended notes old held base all →
      Heeds came ended (notes ++ note ∷ []) new held_now next (all ++ record { asked = Noted note; said = said; added = added } ∷ [])
  heeds_note old new held held_now base next all note said added le count hearing there joining none h =
      let t : Turn = record { asked = Noted note; said = said; added = added } in
      record {
        places = count;
        heard = λ c. subst (λ l. IsCut (ended c) (came c) l) (sym (same c)) (h.heard c);
        fed = λ c is. fed_now c (hearing c is);
        unended = λ c is. unended_now c (hearing c is);
        noted = ap (λ l. l ++ note ∷ []) h.noted ∙ sym (notes_last all t);
        once = λ c. counted (is_joining c note) (comings c notes) (comings c (notes ++ note ∷ [])) (comings_last c notes note) (h.once c) (λ is. h.fresh c (joining c is));
        below = λ c is. below_now c (there c is);
        fresh = λ c is. uncounted (is_joining c note) (comings c notes) (comings c (notes ++ note ∷ [])) (comings_last c notes note) (h.fresh c (omega (arith, le, is))) (none c is);
        unheard = λ c is. (let u = h.unheard c (omega (arith, le, is)) in (u.0, same c ∙ u.1, u.2));
      }
    where
      same : (c : ℕ) → heard_of c (all ++ record { asked = Noted note; said = said; added = added } ∷ []) ≡ heard_of c all
      same c = heard_last c all (record { asked = Noted note; said = said; added = added }) ∙ append-nil (heard_of c all)

      fed_now : (c : ℕ) → ((hears old.places.items c ≡ true) × (held_of held_now c ≡ held_of held c)) ⊎ ((base ≤ c) × (held_of held_now c ≡ [])) →
          IsFed (came c) (heard_of c (all ++ record { asked = Noted note; said = said; added = added } ∷ [])) (held_of held_now c)
      fed_now c (inl was) =
          subst (λ l. IsFed (came c) l (held_of held_now c)) (sym (same c)) (subst (λ l. IsFed (came c) (heard_of c all) l) (sym was.1) (h.fed c was.0))
      fed_now c (inr new_one) =
          let u = h.unheard c new_one.0 in
          subst (λ l. IsFed (came c) l (held_of held_now c)) (sym (same c ∙ u.1)) (subst (λ l. IsFed (came c) [] l) (sym new_one.1) (subst (λ l. IsFed l [] []) (sym u.0) fed_nothing))

      unended_now : (c : ℕ) → ((hears old.places.items c ≡ true) × (held_of held_now c ≡ held_of held c)) ⊎ ((base ≤ c) × (held_of held_now c ≡ [])) → ended c ≡ 0
      unended_now c (inl was) = h.unended c was.0
      unended_now c (inr new_one) = (h.unheard c new_one.0).2

      below_now : (c : ℕ) → (is_here old.places.items c ≡ true) ⊎ (c < next) → c < next
      below_now c (inl was) = (let lt = h.below c was in omega (arith, le, lt))
      below_now c (inr is) = is

  -- something of one connection, and no note
  pub heeds_one : (came_now : ℕ → List ℕ) (ended_now : ℕ → ℕ) (old new : Post) (held held_now : List OwedText) (base who : ℕ) (all all_now : List Turn) →
      length held_now ≡ length held → length new.places.items ≡ length old.places.items →
      who < base → notes_by all_now ≡ notes_by all →
      ((c : ℕ) → is_here new.places.items c ≡ true → is_here old.places.items c ≡ true) →
      ((c : ℕ) → hears new.places.items c ≡ true → hears old.places.items c ≡ true) →
      ((c : ℕ) → (who == c) ≡ false → (came_now c ≡ came c) × (ended_now c ≡ ended c) × (heard_of c all_now ≡ heard_of c all)) →
      ((c : ℕ) → (who == c) ≡ false → hears new.places.items c ≡ true → held_of held_now c ≡ held_of held c) →
      IsCut (ended_now who) (came_now who) (heard_of who all_now) →
      (hears new.places.items who ≡ true → IsFed (came_now who) (heard_of who all_now) (held_of held_now who)) →
      (hears new.places.items who ≡ true → ended_now who ≡ 0) →
      Heeds came ended notes old held base all → Heeds came_now ended_now notes new held_now base all_now
  heeds_one came_now ended_now old new held held_now base who all all_now held_count count below no_note here hear others held_same cut fed unended h = record {
    places = held_count ∙ h.places ∙ sym count;
    heard = λ c. by_who who c (λ k. IsCut (ended_now k) (came_now k) (heard_of k all_now)) cut
        (λ not. (let o = others c not in
        subst (λ l. IsCut (ended_now c) (came_now c) l) (sym o.2) (subst (λ l. IsCut (ended_now c) l (heard_of c all)) (sym o.0) (subst (λ n. IsCut n (came c) (heard_of c all)) (sym o.1) (h.heard c)))));
    fed = λ c. by_who who c (λ k. hears new.places.items k ≡ true → IsFed (came_now k) (heard_of k all_now) (held_of held_now k)) fed
        (λ not is. (let o = others c not in
        subst (λ l. IsFed (came_now c) l (held_of held_now c)) (sym o.2) (subst (λ l. IsFed l (heard_of c all) (held_of held_now c)) (sym o.0)
        (subst (λ l. IsFed (came c) (heard_of c all) l) (sym (held_same c not is)) (h.fed c (hear c is))))));
    unended = λ c. by_who who c (λ k. hears new.places.items k ≡ true → ended_now k ≡ 0) unended (λ not is. (others c not).1 ∙ h.unended c (hear c is));
    noted = h.noted ∙ sym no_note;
    once = h.once;
    below = λ c is. h.below c (here c is);
    fresh = h.fresh;
    unheard = λ c. by_who who c (λ k. base ≤ k → (came_now k ≡ []) × (heard_of k all_now ≡ []) × (ended_now k ≡ 0))
        (λ far. absurd (omega (arith, below, far)))
        (λ not far. (let o = others c not in let u = h.unheard c far in (o.0 ∙ u.0, o.2 ∙ u.1, o.1 ∙ u.2)));
  }

  -- nothing of anybody
  pub heeds_same : (old new : Post) (held : List OwedText) (base : ℕ) (all : List Turn) → length new.places.items ≡ length old.places.items →
      ((c : ℕ) → is_here new.places.items c ≡ true → is_here old.places.items c ≡ true) →
      ((c : ℕ) → hears new.places.items c ≡ true → hears old.places.items c ≡ true) →
      Heeds came ended notes old held base all → Heeds came ended notes new held base all
  heeds_same old new held base all count here hear h = record {
    places = h.places ∙ sym count;
    heard = h.heard;
    fed = λ c is. h.fed c (hear c is);
    unended = λ c is. h.unended c (hear c is);
    noted = h.noted;
    once = h.once;
    below = λ c is. h.below c (here c is);
    fresh = h.fresh;
    unheard = h.unheard;
  }

  -- the same came
  pub heeds_came : (came_now : ℕ → List ℕ) (post : Post) (held : List OwedText) (base : ℕ) (all : List Turn) → ((c : ℕ) → came_now c ≡ came c) →
      Heeds came ended notes post held base all → Heeds came_now ended notes post held base all
  heeds_came came_now post held base all same h = record {
    places = h.places;
    heard = λ c. subst (λ l. IsCut (ended c) l (heard_of c all)) (sym (same c)) (h.heard c);
    fed = λ c is. subst (λ l. IsFed l (heard_of c all) (held_of held c)) (sym (same c)) (h.fed c is);
    unended = h.unended;
    noted = h.noted;
    once = h.once;
    below = h.below;
    fresh = h.fresh;
    unheard = λ c is. (let u = h.unheard c is in (same c ∙ u.0, u.1, u.2));
  }

  -- a turn of which nobody is heard
  pub heeds_turn : (post : Post) (held : List OwedText) (base : ℕ) (all all_now : List Turn) → ((c : ℕ) → heard_of c all_now ≡ heard_of c all) → notes_by all_now ≡ notes_by all →
      Heeds came ended notes post held base all → Heeds came ended notes post held base all_now
  heeds_turn post held base all all_now same no_note h = record {
    places = h.places;
    heard = λ c. subst (λ l. IsCut (ended c) (came c) l) (sym (same c)) (h.heard c);
    fed = λ c is. subst (λ l. IsFed (came c) l (held_of held c)) (sym (same c)) (h.fed c is);
    unended = h.unended;
    noted = h.noted ∙ sym no_note;
    once = h.once;
    below = h.below;
    fresh = h.fresh;
    unheard = λ c is. (let u = h.unheard c is in (u.0, same c ∙ u.1, u.2));
  }
