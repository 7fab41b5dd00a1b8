-- What is found of a text behind a crash, and what follows it.
use Rattle.std.proofs.Common.{◌≡◌, ℕ, suc, inl, inr, false, List, [], ◌∷◌, ◌++◌, ◌==◌, length, map, refl, sym, ap, ◌∙◌, append_assoc, subst, arith}
use Rattle.std.specs.Prelude.{Option, Some, None}
use Rattle.std.proofs.lemmas.List.{append-nil, append_cancel_left}
use Rattle.path_tree.specs.Trace.{running_calls}
use Rattle.path_count.specs.Stands.{StandsFor}
use Rattle.path_count.specs.Past.{events_of}
use Rattle.decl_core.specs.ObjectForm.{ObjectForm}
use Rattle.decl_core.specs.ObjectMap.{object_of}
use Rattle.live_core.specs.Text.{front_text}
use Rattle.audit_core.specs.Steps.{Step, Begun, Heard, nothing_heard, happened_of, told_by}
use Rattle.audit_core.specs.EpochTells.{Tells, Tell, start_told, end_told, cancel_told, name_told}
use Rattle.audit_core.specs.Sound.{IsCut}
use Rattle.audit_core.proofs.EpochExact.{tells_once}
use Rattle.recover_core.specs.Lines.{IsLine, AreLines, joined}
use Rattle.recover_core.specs.Playing.{begun_by}
use Rattle.history_law.specs.Year.{Epoch}
use Rattle.history_law.specs.Lives.{GoesOn, FoundGoesOn, LifeFollows}

length_map : {X Y : Type 0} (f : X → Y) (xs : List X) → length (map f xs) ≡ length xs
length_map f [] = refl
length_map f (x ∷ xs) = ap suc (length_map f xs)

-- texts of lines

no_end : (b : ℕ) → (b == 10) ≡ false → b ≡ 10 → ⊥
no_end b other is = let so : (10 == 10) ≡ false = subst (λ n. (n == 10) ≡ false) is other in cc

empty_no : (x : ℕ) (xs ys : List ℕ) → xs ++ x ∷ ys ≡ [] → ⊥
empty_no x [] ys is = cc
empty_no x (y ∷ xs) ys is = cc

head_same : (x y : ℕ) (xs ys : List ℕ) → x ∷ xs ≡ y ∷ ys → (x ≡ y) × (xs ≡ ys)
head_same x y xs ys is = (cc, cc)

line_head : (b : ℕ) (line : List ℕ) → IsLine (b ∷ line) → (b == 10) ≡ false
line_head b line is = is 0 b (omega arith)

line_tail : (b : ℕ) (line : List ℕ) → IsLine (b ∷ line) → IsLine line
line_tail b line is = λ k d inside. is (suc k) d (omega (arith, inside))

-- the first line of a text is one
first_once : (a b x y : List ℕ) → IsLine a → IsLine b → a ++ 10 ∷ x ≡ b ++ 10 ∷ y → (a ≡ b) × (x ≡ y)
first_once [] [] x y la lb is = (refl, (head_same 10 10 x y is).1)
first_once [] (c ∷ b) x y la lb is = absurd (no_end c (line_head c b lb) (sym (head_same 10 c x (b ++ 10 ∷ y) is).0))
first_once (c ∷ a) [] x y la lb is = absurd (no_end c (line_head c a la) (head_same c 10 (a ++ 10 ∷ x) y is).0)
first_once (c ∷ a) (d ∷ b) x y la lb is =
    let h = head_same c d (a ++ 10 ∷ x) (b ++ 10 ∷ y) is in
    let on = first_once a b x y (line_tail c a la) (line_tail d b lb) h.1 in
    (ap (λ n. n ∷ a) h.0 ∙ ap (λ l. d ∷ l) on.0, on.1)

-- lines behind others, in a text that goes on with more bytes
lines_begin : (first all : List (List ℕ)) (more : List ℕ) → AreLines first → AreLines all → joined all ≡ joined first ++ more → (rest : List (List ℕ)) × (all ≡ first ++ rest)
lines_begin [] all more lf la is = (all, refl)
lines_begin (l ∷ first) [] more lf la is =
    absurd (empty_no 10 l (joined first ++ more) (sym (is ∙ append_assoc (l ++ 10 ∷ []) (joined first) more ∙ append_assoc l (10 ∷ []) (joined first ++ more))))
lines_begin (l ∷ first) (m ∷ all) more lf la is =
    let one : m ++ 10 ∷ joined all ≡ l ++ 10 ∷ (joined first ++ more) =
    sym (append_assoc m (10 ∷ []) (joined all)) ∙ is ∙ append_assoc (l ++ 10 ∷ []) (joined first) more ∙ append_assoc l (10 ∷ []) (joined first ++ more) in
    let two = first_once m l (joined all) (joined first ++ more) la.0 lf.0 one in
    let on = lines_begin first all more lf.1 la.1 two.1 in
    (on.0, ap (λ x. x ∷ all) two.0 ∙ ap (λ xs. l ∷ xs) on.1)

-- lines that were told, one behind another

abbrev Line : Type 0
Line = List ℕ

tell_split : (o : ObjectForm) (e : Begun) (heard : Heard) (xs ys : List Line) (after : Heard) → Tell o e heard (xs ++ ys) after → (mid : Heard) × Tell o e heard xs mid × Tell o e mid ys after
tell_split o e heard [] ys after told = (heard, refl, told)
tell_split o e heard (x ∷ xs) ys after (mid, one, told) = let on = tell_split o e mid xs ys after told in (on.0, (mid, one, on.1), on.2)

tell_once : (o : ObjectForm) (e : Begun) (heard : Heard) (xs : List Line) (a b : Heard) → Tell o e heard xs a → Tell o e heard xs b → a ≡ b
tell_once o e heard [] a b first second = first ∙ sym second
tell_once o e heard (x ∷ xs) a b (mid, one, first) (other, two, second) =
    tell_once o e other xs a b (subst (λ h. Tell o e h xs a) (tells_once o e heard x mid other one two) first) second

some_none : {X : Type 0} {x : X} → ◌≡◌ {A = Option X} (Some x) None → ⊥
some_none is = cc

-- a line adds to what happened
grows : (o : ObjectForm) (e : Begun) (heard : Heard) (line : Line) (after : Heard) → Tells o e heard line after → GoesOn heard.steps after.steps
grows o e heard line after (start_told says is few) = ([], refl)
grows o e heard line after (end_told {reply = r} {call = c} says runs is) = (_ ∷ _ ∷ [], refl)
grows o e heard line after (cancel_told says is) = ([], refl)
grows o e heard line after (name_told says rests is spelled) = ([], refl)

then : (a b c : List Step) → GoesOn a b → GoesOn b c → GoesOn a c
then a b c (m, one) (n, two) = (n ++ m, two ∙ ap (λ l. n ++ l) one ∙ sym (append_assoc n m (happened_of a)))

grow : (o : ObjectForm) (e : Begun) (heard : Heard) (lines : List Line) (after : Heard) → Tell o e heard lines after → GoesOn heard.steps after.steps
grow o e heard [] after same = ([], ap (λ (h : Heard). happened_of h.steps) same)
grow o e heard (line ∷ lines) after (mid, one, told) = then heard.steps mid.steps after.steps (grows o e heard line mid one) (grow o e mid lines after told)

-- a line between two moments at which no call runs ends none
rests_add : (o : ObjectForm) (e : Begun) (heard : Heard) (line : Line) (after : Heard) → Tells o e heard line after → heard.running ≡ None → after.running ≡ None → happened_of after.steps ≡ happened_of heard.steps
rests_add o e heard line after (start_told says is few) none rests = absurd (some_none rests)
rests_add o e heard line after (end_told says runs is) none rests = absurd (some_none (sym runs ∙ none))
rests_add o e heard line after (cancel_told says is) none rests = refl
rests_add o e heard line after (name_told says rest is spelled) none rests = refl

-- what stands before the last of lines that go on behind others
nil_no : (x : Line) (xs ys : List Line) → xs ++ x ∷ ys ≡ [] → ⊥
nil_no x [] ys is = cc
nil_no x (y ∷ xs) ys is = cc

same_head : (x y : Line) (xs ys : List Line) → x ∷ xs ≡ y ∷ ys → (x ≡ y) × (xs ≡ ys)
same_head x y xs ys is = (cc, cc)

before_last : (first kept : List Line) (x last : Line) (more : List Line) → first ++ x ∷ more ≡ kept ++ last ∷ [] → (rest : List Line) × (kept ≡ first ++ rest)
before_last [] kept x last more is = (kept, refl)
before_last (f ∷ first) [] x last more is = absurd (nil_no x first more (same_head f last (first ++ x ∷ more) [] is).1)
before_last (f ∷ first) (k ∷ kept) x last more is =
    let h = same_head f k (first ++ x ∷ more) (kept ++ last ∷ []) is in
    let on = before_last first kept x last more h.1 in
    (on.0, ap (λ y. y ∷ kept) (sym h.0) ∙ ap (λ ys. f ∷ ys) on.1)

module _ (o : ObjectForm) (e : Begun) (first all : List Line) (a b : List Step) where
  abbrev HeardOf : List Step → Heard
  HeardOf steps = record { steps = steps; running = None }

  -- more was played
  further : (ks kf rest : List Line) → kf ≡ ks ++ rest → Tell o e nothing_heard ks (HeardOf a) → Tell o e nothing_heard kf (HeardOf b) → GoesOn a b
  further ks kf rest is was now =
      let cut = tell_split o e nothing_heard ks rest (HeardOf b) (subst (λ k. Tell o e nothing_heard k (HeardOf b)) is now) in
      let same = tell_once o e nothing_heard ks cut.0 (HeardOf a) cut.1 was in
      grow o e (HeardOf a) rest (HeardOf b) (subst (λ h. Tell o e h rest (HeardOf b)) same cut.2)

  -- one line less was played, which ended no call
  shorter : (ks kf : List Line) (last : Line) → ks ≡ kf ++ last ∷ [] → Tell o e nothing_heard ks (HeardOf a) → Tell o e nothing_heard kf (HeardOf b) → GoesOn a b
  shorter ks kf last is was now =
      let cut = tell_split o e nothing_heard kf (last ∷ []) (HeardOf a) (subst (λ k. Tell o e nothing_heard k (HeardOf a)) is was) in
      let same = tell_once o e nothing_heard kf cut.0 (HeardOf b) cut.1 now in
      let one = subst (λ h. Tell o e h (last ∷ []) (HeardOf a)) same cut.2 in
      let end : Tells o e (HeardOf b) last (HeardOf a) = subst (Tells o e (HeardOf b) last) (sym one.2) one.1 in
      ([], sym (rests_add o e (HeardOf b) last (HeardOf a) end refl refl))

  by_cut : (ks kf w : List Line) → all ≡ ks ++ w → IsCut all kf → Tell o e nothing_heard ks (HeardOf a) → Tell o e nothing_heard kf (HeardOf b) → GoesOn a b
  by_cut ks kf w is (inl whole) was now = further ks kf w (sym whole ∙ is) was now
  by_cut ks kf [] is (inr (last, asked, says, cut)) was now = shorter ks kf last (sym (append-nil ks) ∙ sym is ∙ cut) was now
  by_cut ks kf (x ∷ w) is (inr (last, asked, says, cut)) was now =
      let on = before_last ks kf x last w (sym is ∙ cut) in further ks kf on.0 on.1 was now

  -- the cut of the first lines
  by_both : (ks kf rest : List Line) → all ≡ first ++ rest → IsCut first ks → IsCut all kf → Tell o e nothing_heard ks (HeardOf a) → Tell o e nothing_heard kf (HeardOf b) → GoesOn a b
  by_both ks kf rest is (inl whole) cut was now = by_cut ks kf rest (is ∙ ap (λ l. l ++ rest) whole) cut was now
  by_both ks kf rest is (inr (last, asked, says, short)) cut was now =
      by_cut ks kf (last ∷ rest) (is ∙ ap (λ l. l ++ rest) short ∙ append_assoc ks (last ∷ []) rest) cut was now

pub found_goes_on : FoundGoesOn
found_goes_on o h f stored text found was came s r between =
    let front = front_text o f in
    let more = between.all_stored.0 in
    let stored_lines : s.behind ≡ joined s.is.lines = s.is.cut ∙ ap (λ x. joined s.is.lines ++ x) s.whole ∙ append-nil (joined s.is.lines) in
    let found_lines : r.behind ≡ joined r.is.lines = r.is.cut ∙ ap (λ x. joined r.is.lines ++ x) r.whole ∙ append-nil (joined r.is.lines) in
    let texts : front ++ r.behind ≡ front ++ (s.behind ++ more) =
    sym r.text_is ∙ between.all_stored.1 ∙ ap (λ x. x ++ more) s.text_is ∙ append_assoc front s.behind more in
    let behind : r.behind ≡ s.behind ++ more = append_cancel_left front r.behind (s.behind ++ more) texts in
    let lines = lines_begin s.is.lines r.is.lines more s.is.each r.is.each (sym found_lines ∙ behind ∙ ap (λ x. x ++ more) stored_lines) in
    by_both o (begun_by f) s.is.lines r.is.lines s.is.steps r.is.steps s.is.played.kept r.is.played.kept lines.0 lines.1 s.is.played.cut r.is.played.cut s.is.played.told r.is.played.told

pub life_follows : LifeFollows
life_follows object h lines limits s next b =
    let o = object_of object in
    let came = b.begins.came in
    let again = b.begins.again in
    let before : Epoch =
    record { counters = came.played.counters; contents = came.played.contents.items; told = told_by (begun_by b.begins.front) b.begins.read.is.steps; base = 0 } in
    record {
      before = before;
      read = record { house = h; front = b.begins.front; read = b.begins.read; told = refl; counters = refl; contents = refl };
      follows = record {
        contents = b.opening ∙ again.held.kept.contents;
        counters = again.counted.counters;
        stands = subst (λ t. StandsFor again.counted.counters (length o.operations) o.paths t) (sym b.past)
            (subst (λ n. StandsFor again.counted.counters n o.paths (events_of again.past)) (sym (length_map _ object.operations.items)) again.counted.stands);
        quiet = ap running_calls b.past ∙ again.counted.quiet;
        same = again.counted.same;
      };
    }
