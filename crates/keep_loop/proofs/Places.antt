-- Places, as one connection after the other has them.
use Rattle.std.proofs.Common.{◌≡◌, ◌⊎◌, inl, inr, ℕ, ◌<◌, ◌%◌, List, [], ◌∷◌, ◌++◌, refl, sym, ◌∙◌, ap, subst, append_assoc, length, eqb-true, eq-eqb, true≢false, drop}
use Rattle.std.specs.Prelude.{Bool, true, false, Option, Some, None, slice_get, if◌then◌else◌, ◌==◌}
use Rattle.std.proofs.lemmas.List.{append-nil}
use Rattle.keep_loop.specs.Texts.{text_at, to}
use Rattle.keep_loop.specs.Posts.{is_here_in, hears_in, stage_in, owed_in, staged, stage_of, owed_to, is_here, hears, Tells, Opens, Closes, Writes, Does}
use Rattle.keep_loop.specs.Turns.{Asked, Gives}
use Rattle.keep_loop.specs.declared.post.ConnectionPlace.{ConnectionPlace}
use Rattle.keep_loop.specs.declared.post.Post.{Post}
use Rattle.keep_loop.specs.declared.post.Stage.{Stage}
use Rattle.keep_loop.specs.declared.post.Stage.TheVariants.{Gone, Hears, Quits, Left}

pub to_more : (c : ℕ) (a b : List (ℕ × List ℕ)) → to c (a ++ b) ≡ to c a ++ to c b
to_more c [] b = refl
to_more c (s ∷ a) b =
    let one : List ℕ = if s.0 == c then s.1 else [] in
    ap (λ (l : List ℕ). one ++ l) (to_more c a b) ∙ sym (append_assoc one (to c a) (to c b))

by_who_if : (who c : ℕ) (P : ℕ → Type 0) (b : Bool) → (who == c) ≡ b → P who → ((who == c) ≡ false → P c) → P c
by_who_if who c P true is holds fails = subst P (eqb-true who c is) holds
by_who_if who c P false is holds fails = fails is

-- this number, or another
pub by_who : (who c : ℕ) (P : ℕ → Type 0) → P who → ((who == c) ≡ false → P c) → P c
by_who who c P holds fails = by_who_if who c P (who == c) refl holds fails

pub is_same : (a : ℕ) → (a == a) ≡ true
is_same a = eq-eqb a a refl

here_by : (b : Bool) (s : Stage) → is_here_in (if b then s else Gone) ≡ true → b ≡ true
here_by true s is = refl
here_by false s is = absurd (true≢false (sym is))

-- a place has one connection
one_only : (o : Option ConnectionPlace) (a c : ℕ) → is_here_in (stage_in a o) ≡ true → is_here_in (stage_in c o) ≡ true → a ≡ c
one_only None a c one two = absurd (true≢false (sym one))
one_only (Some p) a c one two = sym (eqb-true p.who a (here_by (p.who == a) p.stage one)) ∙ eqb-true p.who c (here_by (p.who == c) p.stage two)

same_place_by : (places : List ConnectionPlace) (a c : ℕ) (b d : Bool) → ((a % length places) == (c % length places)) ≡ b → (a == c) ≡ d →
    is_here places a ≡ true → is_here places c ≡ true → b ≡ d
same_place_by places a c true true at is one two = refl
same_place_by places a c false false at is one two = refl
same_place_by places a c true false at is one two =
    let same : a % length places ≡ c % length places = eqb-true (a % length places) (c % length places) at in
    let equal : a ≡ c = one_only (slice_get places (c % length places)) a c (subst (λ k. is_here_in (stage_in a (slice_get places k)) ≡ true) same one) two in
    sym (eq-eqb a c equal) ∙ is
same_place_by places a c false true at is one two =
    sym (sym (eq-eqb (a % length places) (c % length places) (ap (λ n. n % length places) (eqb-true a c is))) ∙ at)

-- two that are there have the same place exactly where they are the same
pub same_place : (places : List ConnectionPlace) (a c : ℕ) → is_here places a ≡ true → is_here places c ≡ true →
    ((a % length places) == (c % length places)) ≡ (a == c)
same_place places a c one two = same_place_by places a c ((a % length places) == (c % length places)) (a == c) refl refl one two

here_of_hears_by : (s : Stage) → hears_in s ≡ true → is_here_in s ≡ true
here_of_hears_by Gone is = is
here_of_hears_by Hears is = refl
here_of_hears_by Quits is = refl
here_of_hears_by Left is = refl

pub here_of_hears : (places : List ConnectionPlace) (c : ℕ) → hears places c ≡ true → is_here places c ≡ true
here_of_hears places c is = here_of_hears_by (stage_of places c) is

-- nothing is told
pub tells_none : (post : Post) → Tells post post [] []
tells_none post = record {
  places = refl;
  journals = refl;
  here = λ c. refl;
  hears = λ c is. is;
  owed = λ c is. sym (append-nil (owed_to post.places.items c));
  lines = λ j is. sym (append-nil (text_at post.lines.items j));
}

-- one thing is told, and then another
pub tells_then : (a b c : Post) (said more : List (ℕ × List ℕ)) (added further : List (ℕ × List ℕ)) → Tells a b said added → Tells b c more further →
    Tells a c (said ++ more) (added ++ further)
tells_then a b c said more added further one two = record {
  places = two.places ∙ one.places;
  journals = two.journals ∙ one.journals;
  here = λ k. two.here k ∙ one.here k;
  hears = λ k is. one.hears k (two.hears k is);
  owed = λ k is.
      two.owed k (one.here k ∙ is) ∙ ap (λ (l : List ℕ). l ++ to k more) (one.owed k is) ∙ append_assoc (owed_to a.places.items k) (to k said) (to k more)
      ∙ ap (λ (l : List ℕ). owed_to a.places.items k ++ l) (sym (to_more k said more));
  lines = λ j is.
      two.lines j (subst (λ n. j < n) (sym one.journals) is) ∙ ap (λ (l : List ℕ). l ++ to j further) (one.lines j is)
      ∙ append_assoc (text_at a.lines.items j) (to j added) (to j further) ∙ ap (λ (l : List ℕ). text_at a.lines.items j ++ l) (sym (to_more j added further));
}

-- and then nothing
pub tells_still : (a b c : Post) (said added : List (ℕ × List ℕ)) → Tells a b said added → Tells b c [] [] → Tells a c said added
tells_still a b c said added one two =
    subst (λ s. Tells a c s added) (append-nil said) (subst (λ l. Tells a c (said ++ []) l) (append-nil added) (tells_then a b c said [] added [] one two))

pub does_still : {S : Type 0} (gives : Gives S) (old : S) (asked : Asked) (new : S) (a b c : Post) → Does gives old asked new a b → Tells b c [] [] → Does gives old asked new a c
does_still gives old asked new a b c d t = record { said = d.said; added = d.added; step = d.step; tells = tells_still a b c d.said d.added d.tells t }

pub stage_same : (old new : List ConnectionPlace) → length new ≡ length old → ((c k : ℕ) → stage_in c (slice_get new k) ≡ stage_in c (slice_get old k)) →
    (c : ℕ) → stage_of new c ≡ stage_of old c
stage_same old new count stage c = ap (λ n. stage_in c (slice_get new (c % n))) count ∙ stage c (c % length old)

pub owed_same : (old new : List ConnectionPlace) → length new ≡ length old → ((k : ℕ) → owed_in (slice_get new k) ≡ owed_in (slice_get old k)) →
    (c : ℕ) → owed_to new c ≡ owed_to old c
owed_same old new count owed c = ap (λ n. owed_in (slice_get new (c % n))) count ∙ owed (c % length old)

-- marks are set, and nothing else
pub tells_marks : (old new : Post) → length new.places.items ≡ length old.places.items → new.lines ≡ old.lines →
    ((k : ℕ) → owed_in (slice_get new.places.items k) ≡ owed_in (slice_get old.places.items k)) →
    ((c k : ℕ) → stage_in c (slice_get new.places.items k) ≡ stage_in c (slice_get old.places.items k)) → Tells old new [] []
tells_marks old new count lines owed stage = record {
  places = count;
  journals = ap (λ l. length l.items) lines;
  here = λ c. ap is_here_in (stage_same old.places.items new.places.items count stage c);
  hears = λ c is. sym (ap hears_in (stage_same old.places.items new.places.items count stage c)) ∙ is;
  owed = λ c is. owed_same old.places.items new.places.items count owed c ∙ sym (append-nil (owed_to old.places.items c));
  lines = λ j is. ap (λ l. text_at l.items j) lines ∙ sym (append-nil (text_at old.lines.items j));
}

-- a connection is owed more
pub tells_owed : (old new : Post) (who at : ℕ) (bytes : List ℕ) → is_here old.places.items who ≡ true → at ≡ who % length old.places.items →
    length new.places.items ≡ length old.places.items → new.lines ≡ old.lines →
    ((k : ℕ) → owed_in (slice_get new.places.items k) ≡ owed_in (slice_get old.places.items k) ++ (if at == k then bytes else [])) →
    ((c k : ℕ) → stage_in c (slice_get new.places.items k) ≡ stage_in c (slice_get old.places.items k)) → Tells old new ((who, bytes) ∷ []) []
tells_owed old new who at bytes here is_at count lines owed stage = record {
  places = count;
  journals = ap (λ l. length l.items) lines;
  here = λ c. ap is_here_in (stage_same old.places.items new.places.items count stage c);
  hears = λ c is. sym (ap hears_in (stage_same old.places.items new.places.items count stage c)) ∙ is;
  owed = λ c is.
      ap (λ n. owed_in (slice_get new.places.items (c % n))) count ∙ owed (c % length old.places.items)
      ∙ ap (λ k. owed_to old.places.items c ++ (if k == (c % length old.places.items) then bytes else [])) is_at
      ∙ ap (λ b. owed_to old.places.items c ++ (if b then bytes else [])) (same_place old.places.items who c here is)
      ∙ ap (λ (l : List ℕ). owed_to old.places.items c ++ l) (sym (append-nil (if who == c then bytes else [])));
  lines = λ j is. ap (λ l. text_at l.items j) lines ∙ sym (append-nil (text_at old.lines.items j));
}

-- lines are added to a journal
pub tells_added : (old new : Post) (journal : ℕ) (bytes : List ℕ) → new.places ≡ old.places → length new.lines.items ≡ length old.lines.items →
    ((k : ℕ) → text_at new.lines.items k ≡ text_at old.lines.items k ++ (if journal == k then bytes else [])) → Tells old new [] ((journal, bytes) ∷ [])
tells_added old new journal bytes places count lines = record {
  places = ap (λ p. length p.items) places;
  journals = count;
  here = λ c. ap (λ p. is_here p.items c) places;
  hears = λ c is. ap (λ p. hears p.items c) (sym places) ∙ is;
  owed = λ c is. ap (λ p. owed_to p.items c) places ∙ sym (append-nil (owed_to old.places.items c));
  lines = λ j is. lines j ∙ ap (λ (l : List ℕ). text_at old.lines.items j ++ l) (sym (append-nil (if journal == j then bytes else [])));
}

other_by : (journal j : ℕ) (b : Bool) (bytes : List ℕ) → (journal == j) ≡ b → b ≡ false → [] ≡ (if journal == j then bytes else []) ++ []
other_by journal j true bytes is fails = absurd (true≢false fails)
other_by journal j false bytes is fails = ap (λ b. (if b then bytes else []) ++ []) (sym is)

less_not : (j journal n : ℕ) (b : Bool) → (journal == j) ≡ b → j < n → (journal < n → ⊥) → b ≡ false
less_not j journal n true is lt not = absurd (not (subst (λ k. k < n) (sym (eqb-true journal j is)) lt))
less_not j journal n false is lt not = refl

-- or there is no such journal
pub tells_no_journal : (post : Post) (journal : ℕ) (bytes : List ℕ) → (journal < length post.lines.items → ⊥) → Tells post post [] ((journal, bytes) ∷ [])
tells_no_journal post journal bytes not = record {
  places = refl;
  journals = refl;
  here = λ c. refl;
  hears = λ c is. is;
  owed = λ c is. sym (append-nil (owed_to post.places.items c));
  lines = λ j is.
      sym (append-nil (text_at post.lines.items j))
      ∙ ap (λ (l : List ℕ). text_at post.lines.items j ++ l) (other_by journal j (journal == j) bytes refl (less_not j journal (length post.lines.items) (journal == j) refl is not));
}

-- or no such connection
pub tells_nobody : (post : Post) (who : ℕ) (bytes : List ℕ) → is_here post.places.items who ≡ false → Tells post post ((who, bytes) ∷ []) []
tells_nobody post who bytes not = record {
  places = refl;
  journals = refl;
  here = λ c. refl;
  hears = λ c is. is;
  owed = λ c is.
      sym (append-nil (owed_to post.places.items c))
      ∙ ap (λ (l : List ℕ). owed_to post.places.items c ++ l) (other_by who c (who == c) bytes refl (not_it who c (who == c) refl not is));
  lines = λ j is. sym (append-nil (text_at post.lines.items j));
}
  where
    not_it : (who c : ℕ) (b : Bool) → (who == c) ≡ b → is_here post.places.items who ≡ false → is_here post.places.items c ≡ true → b ≡ false
    not_it who c true is fails holds = sym holds ∙ ap (λ k. is_here post.places.items k) (sym (eqb-true who c is)) ∙ fails
    not_it who c false is fails holds = refl

restaged_here : (o : Option ConnectionPlace) (who c : ℕ) (s : Stage) → is_here_in (stage_in who o) ≡ true → is_here_in s ≡ true →
    is_here_in (staged c s o) ≡ is_here_in (stage_in c o)
restaged_here None who c s was is = refl
restaged_here (Some p) who c s was is = by_c (p.who == c)
  where
    by_p : (b : Bool) → is_here_in (if b then p.stage else Gone) ≡ true → is_here_in p.stage ≡ true
    by_p true h = h
    by_p false h = absurd (true≢false (sym h))

    by_c : (b : Bool) → is_here_in (if b then s else Gone) ≡ is_here_in (if b then p.stage else Gone)
    by_c true = is ∙ sym (by_p (p.who == who) was)
    by_c false = refl

restaged_deaf : (o : Option ConnectionPlace) (c : ℕ) (s : Stage) → hears_in s ≡ false → hears_in (staged c s o) ≡ false
restaged_deaf None c s is = refl
restaged_deaf (Some p) c s is = by_c (p.who == c)
  where
    by_c : (b : Bool) → hears_in (if b then s else Gone) ≡ false
    by_c true = is
    by_c false = refl

-- a connection is heard no more
pub tells_deaf : (old new : Post) (who at : ℕ) (s : Stage) → is_here old.places.items who ≡ true → is_here_in s ≡ true → hears_in s ≡ false →
    at ≡ who % length old.places.items → length new.places.items ≡ length old.places.items → new.lines ≡ old.lines →
    ((k : ℕ) → owed_in (slice_get new.places.items k) ≡ owed_in (slice_get old.places.items k)) →
    ((c k : ℕ) → stage_in c (slice_get new.places.items k) ≡ (if at == k then staged c s (slice_get old.places.items k) else stage_in c (slice_get old.places.items k))) →
    Tells old new [] []
tells_deaf old new who at s here is_here_s deaf is_at count lines owed stage = record {
  places = count;
  journals = ap (λ l. length l.items) lines;
  here = λ c. ap (λ n. is_here_in (stage_in c (slice_get new.places.items (c % n)))) count ∙ ap is_here_in (stage c (c % length old.places.items))
      ∙ by_h c (at == (c % length old.places.items)) refl;
  hears = λ c is. by_d c (at == (c % length old.places.items))
      (sym (ap hears_in (stage c (c % length old.places.items))) ∙ sym (ap (λ n. hears_in (stage_in c (slice_get new.places.items (c % n)))) count) ∙ is);
  owed = λ c is. owed_same old.places.items new.places.items count owed c ∙ sym (append-nil (owed_to old.places.items c));
  lines = λ j is. ap (λ l. text_at l.items j) lines ∙ sym (append-nil (text_at old.lines.items j));
}
  where
    by_h : (c : ℕ) (b : Bool) → (at == (c % length old.places.items)) ≡ b →
        is_here_in (if b then staged c s (slice_get old.places.items (c % length old.places.items)) else stage_in c (slice_get old.places.items (c % length old.places.items)))
        ≡ is_here_in (stage_in c (slice_get old.places.items (c % length old.places.items)))
    by_h c true is = restaged_here (slice_get old.places.items (c % length old.places.items)) who c s
        (subst (λ k. is_here_in (stage_in who (slice_get old.places.items k)) ≡ true) (sym is_at ∙ eqb-true at (c % length old.places.items) is) here) is_here_s
    by_h c false is = refl

    by_d : (c : ℕ) (b : Bool) →
        hears_in (if b then staged c s (slice_get old.places.items (c % length old.places.items)) else stage_in c (slice_get old.places.items (c % length old.places.items))) ≡ true →
        hears_in (stage_in c (slice_get old.places.items (c % length old.places.items))) ≡ true
    by_d c true is = absurd (true≢false (sym is ∙ restaged_deaf (slice_get old.places.items (c % length old.places.items)) c s deaf))
    by_d c false is = is

gone_not : (o : Option ConnectionPlace) (c : ℕ) → is_here_in (staged c Gone o) ≡ false
gone_not None c = refl
gone_not (Some p) c = by_c (p.who == c)
  where
    by_c : (b : Bool) → is_here_in (if b then Gone else Gone) ≡ false
    by_c true = refl
    by_c false = refl

-- a place is given up
pub closes_place : (old new : Post) (at : ℕ) → length new.places.items ≡ length old.places.items → new.lines ≡ old.lines →
    ((k : ℕ) → owed_in (slice_get new.places.items k) ≡ owed_in (slice_get old.places.items k)) →
    ((c k : ℕ) → stage_in c (slice_get new.places.items k) ≡ (if at == k then staged c Gone (slice_get old.places.items k) else stage_in c (slice_get old.places.items k))) →
    Closes old new
closes_place old new at count lines owed stage = record {
  places = count;
  lines = lines;
  here = λ c is. by_h c (at == (c % length old.places.items)) (sym (ap is_here_in (now c)) ∙ is);
  hears = λ c is. by_d c (at == (c % length old.places.items)) (sym (ap hears_in (now c)) ∙ is);
  owed = λ c. owed_same old.places.items new.places.items count owed c;
}
  where
    before : ℕ → Option ConnectionPlace
    before c = slice_get old.places.items (c % length old.places.items)

    now : (c : ℕ) → stage_of new.places.items c ≡ (if at == (c % length old.places.items) then staged c Gone (before c) else stage_in c (before c))
    now c = ap (λ n. stage_in c (slice_get new.places.items (c % n))) count ∙ stage c (c % length old.places.items)

    by_h : (c : ℕ) (b : Bool) → is_here_in (if b then staged c Gone (before c) else stage_in c (before c)) ≡ true → is_here_in (stage_in c (before c)) ≡ true
    by_h c true is = absurd (true≢false (sym is ∙ gone_not (before c) c))
    by_h c false is = is

    by_d : (c : ℕ) (b : Bool) → hears_in (if b then staged c Gone (before c) else stage_in c (before c)) ≡ true → hears_in (stage_in c (before c)) ≡ true
    by_d c true is = absurd (true≢false (sym is ∙ restaged_deaf (before c) c Gone refl))
    by_d c false is = is

pub closes_none : (post : Post) → Closes post post
closes_none post = record { places = refl; lines = refl; here = λ c is. is; hears = λ c is. is; owed = λ c. refl }

-- a place is given to a connection
pub opens_place : (old new : Post) (who at : ℕ) → at ≡ who % length old.places.items → length new.places.items ≡ length old.places.items → new.lines ≡ old.lines →
    ((k : ℕ) → owed_in (slice_get new.places.items k) ≡ (if at == k then [] else owed_in (slice_get old.places.items k))) →
    ((c k : ℕ) → stage_in c (slice_get new.places.items k) ≡ (if at == k then (if who == c then Hears else Gone) else stage_in c (slice_get old.places.items k))) →
    Opens old new who
opens_place old new who at is_at count lines owed stage = record {
  places = count;
  lines = lines;
  here = λ c is. by_h c (at == spot c) (who == c) refl (sym (ap is_here_in (now c)) ∙ is);
  hears = λ c is. by_d c (at == spot c) (who == c) refl refl (sym (ap hears_in (now c)) ∙ is);
  owed = ap (λ n. owed_in (slice_get new.places.items (who % n))) count ∙ owed (spot who)
      ∙ ap (λ k. if k == spot who then [] else owed_in (slice_get old.places.items (spot who))) is_at
      ∙ ap (λ b. if b then [] else owed_in (slice_get old.places.items (spot who))) (is_same (spot who));
  others = λ c is. by_o c (at == spot c) (who == c) refl (sym (ap is_here_in (now c)) ∙ is)
      (ap (λ n. owed_in (slice_get new.places.items (c % n))) count ∙ owed (spot c));
}
  where
    spot : ℕ → ℕ
    spot c = c % length old.places.items

    before : ℕ → Option ConnectionPlace
    before c = slice_get old.places.items (spot c)

    now : (c : ℕ) → stage_of new.places.items c ≡ (if at == spot c then (if who == c then Hears else Gone) else stage_in c (before c))
    now c = ap (λ n. stage_in c (slice_get new.places.items (c % n))) count ∙ stage c (spot c)

    by_h : (c : ℕ) (b d : Bool) → (who == c) ≡ d → is_here_in (if b then (if d then Hears else Gone) else stage_in c (before c)) ≡ true →
        (who ≡ c) ⊎ (is_here_in (stage_in c (before c)) ≡ true)
    by_h c true true it is = inl (eqb-true who c it)
    by_h c true false it is = absurd (true≢false (sym is))
    by_h c false d it is = inr is

    by_d : (c : ℕ) (b d : Bool) → (at == spot c) ≡ b → (who == c) ≡ d → hears_in (if b then (if d then Hears else Gone) else stage_in c (before c)) ≡ true →
        (who ≡ c) ⊎ ((hears_in (stage_in c (before c)) ≡ true) × ((spot who == spot c) ≡ false))
    by_d c true true spots it is = inl (eqb-true who c it)
    by_d c true false spots it is = absurd (true≢false (sym is))
    by_d c false d spots it is = inr (is, subst (λ k. (k == spot c) ≡ false) is_at spots)

    by_o : (c : ℕ) (b d : Bool) → (who == c) ≡ d → is_here_in (if b then (if d then Hears else Gone) else stage_in c (before c)) ≡ true →
        owed_to new.places.items c ≡ (if b then [] else owed_in (before c)) → (who ≡ c) ⊎ (owed_to new.places.items c ≡ owed_in (before c))
    by_o c true true it is e = inl (eqb-true who c it)
    by_o c true false it is e = absurd (true≢false (sym is))
    by_o c false d it is e = inr e

-- a connection was written to
pub writes_place : (old new : Post) (who at n : ℕ) → is_here old.places.items who ≡ true → at ≡ who % length old.places.items →
    length new.places.items ≡ length old.places.items → new.lines ≡ old.lines →
    ((k : ℕ) → owed_in (slice_get new.places.items k) ≡ (if at == k then drop n (owed_in (slice_get old.places.items k)) else owed_in (slice_get old.places.items k))) →
    ((c k : ℕ) → stage_in c (slice_get new.places.items k) ≡ stage_in c (slice_get old.places.items k)) → Writes old new who n
writes_place old new who at n here is_at count lines owed stage = record {
  places = count;
  lines = lines;
  stages = stage_same old.places.items new.places.items count stage;
  owed = λ c is.
      ap (λ m. owed_in (slice_get new.places.items (c % m))) count ∙ owed (c % length old.places.items)
      ∙ ap (λ k. if k == (c % length old.places.items) then drop n (owed_to old.places.items c) else owed_to old.places.items c) is_at
      ∙ ap (λ b. if b then drop n (owed_to old.places.items c) else owed_to old.places.items c) (same_place old.places.items who c here is);
}
