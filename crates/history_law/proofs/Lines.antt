-- Lines that are held.
use Rattle.std.proofs.Common.{◌≡◌, ◌∙◌, ap, sym, subst, refl, ℕ, List, [], ◌∷◌, ◌++◌, append_assoc}
use Rattle.std.specs.Prelude.{Bool, true, false, ◌==◌, Option, Some, None}
use Rattle.std.proofs.lemmas.List.Elements.{All-head, All-tail}
use Rattle.value_core.specs.Runs.{NoLineFeed}
use Rattle.client_core.specs.Held.{is_not, is_whole_before}
use Rattle.client_core.specs.State.{cut_of}
use Rattle.history_law.specs.Awaits.{Lines, SaidBy, AreHeard}
use Rattle.history_law.specs.Awaits.AreHeard.{none, more}

head_same : (a b : ℕ) (x y : List ℕ) → a ∷ x ≡ b ∷ y → a ≡ b
head_same a b x y is = cc

tail_same : (a b : ℕ) (x y : List ℕ) → a ∷ x ≡ b ∷ y → x ≡ y
tail_same a b x y is = cc

not_feed : (b : ℕ) → (b == 10) ≡ false → 10 ≡ b → ⊥
not_feed b never is = wrong (subst (λ n. (n == 10) ≡ false) (sym is) never)
  where
    wrong : true ≡ false → ⊥
    wrong is = cc

abbrev IsNoFeed : ℕ → Type 0
IsNoFeed b = (b == 10) ≡ false

-- a text is cut at its first LF in one way
pub cut_same : (a b x y : List ℕ) → NoLineFeed a → NoLineFeed b → a ++ 10 ∷ x ≡ b ++ 10 ∷ y → (a ≡ b) × (x ≡ y)
cut_same [] [] x y p q is = (refl, tail_same 10 10 x y is)
cut_same [] (c ∷ b) x y p q is = absurd (not_feed c (All-head IsNoFeed c b q) (head_same 10 c x (b ++ 10 ∷ y) is))
cut_same (c ∷ a) [] x y p q is = absurd (not_feed c (All-head IsNoFeed c a p) (sym (head_same c 10 (a ++ 10 ∷ x) y is)))
cut_same (c ∷ a) (d ∷ b) x y p q is =
    let same : c ≡ d = head_same c d (a ++ 10 ∷ x) (b ++ 10 ∷ y) is in
    let on = cut_same a b x y (All-tail IsNoFeed c a p) (All-tail IsNoFeed d b q) (tail_same c d (a ++ 10 ∷ x) (b ++ 10 ∷ y) is) in
    (ap (λ (z : ℕ). z ∷ a) same ∙ ap (λ (z : List ℕ). d ∷ z) on.0, on.1)

abbrev Said : Type 1
Said = List ℕ → Bool → Type 0

-- what is said in one way is said in another
pub heard_map : (said other : Said) (is_cut : Bool) (held : List ℕ) → ((line : List ℕ) (b : Bool) → said line b → other line b) → AreHeard said is_cut held → AreHeard other is_cut held
heard_map said other is_cut held f none = none
heard_map said other is_cut held f (more line behind feed is cut rest) = more line behind feed (f line (is_whole_before is_cut behind) is) cut (heard_map said other is_cut behind f rest)

-- each held line has its LF
pub heard_whole : (said other : Said) (is_cut : Bool) (held : List ℕ) → ((line : List ℕ) (b : Bool) → said line b → other line true) → AreHeard said is_cut held → AreHeard other false held
heard_whole said other is_cut held f none = none
heard_whole said other is_cut held f (more line behind feed is cut rest) = more line behind feed (f line (is_whole_before is_cut behind) is) cut (heard_whole said other is_cut behind f rest)

whole_before : (is_cut : Bool) (xs line : List ℕ) → is_whole_before is_cut (xs ++ (line ++ 10 ∷ [])) ≡ true
whole_before false xs line = refl
whole_before true [] [] = refl
whole_before true [] (c ∷ line) = refl
whole_before true (c ∷ xs) line = refl

last_before : (is_whole : Bool) → is_whole_before (is_not is_whole) [] ≡ is_whole
last_before true = refl
last_before false = refl

-- a line more is held
pub heard_more : (said : Said) (held line : List ℕ) (is_whole : Bool) → AreHeard said false held → NoLineFeed line → said line is_whole → AreHeard said (is_not is_whole) (held ++ (line ++ 10 ∷ []))
heard_more said held line is_whole none feed is = more line [] feed (subst (λ (b : Bool). said line b) (sym (last_before is_whole)) is) refl none
heard_more said held line is_whole (more first behind free was cut rest) feed is =
    more first (behind ++ (line ++ 10 ∷ [])) free (subst (λ (b : Bool). said first b) (sym (whole_before (is_not is_whole) behind line)) was)
    (ap (λ (l : List ℕ). l ++ (line ++ 10 ∷ [])) cut ∙ append_assoc first (10 ∷ behind) (line ++ 10 ∷ []))
    (heard_more said behind line is_whole rest feed is)

cut_left : (said : Said) (is_cut : Bool) (held : List ℕ) → AreHeard said is_cut held → AreHeard said (cut_of held is_cut) held
cut_left said is_cut [] are = none
cut_left said is_cut (c ∷ held) are = are

no_line : (line behind : List ℕ) → [] ≡ line ++ 10 ∷ behind → ⊥
no_line [] behind is = cc
no_line (c ∷ line) behind is = cc

-- the first held line was said, and so were those behind it
pub heard_first : (said : Said) (is_cut : Bool) (held line behind : List ℕ) → AreHeard said is_cut held → NoLineFeed line → held ≡ line ++ 10 ∷ behind →
    said line (is_whole_before is_cut behind) × AreHeard said (cut_of behind is_cut) behind
heard_first said is_cut held line behind none feed is = absurd (no_line line behind is)
heard_first said is_cut held line behind (more first rest free was cut later) feed is =
    let same = cut_same first line rest behind free feed (sym cut ∙ is) in (
      subst (λ (l : List ℕ). said l (is_whole_before is_cut behind)) same.0 (subst (λ (r : List ℕ). said first (is_whole_before is_cut r)) same.1 was),
      cut_left said is_cut behind (subst (λ (r : List ℕ). AreHeard said is_cut r) same.1 later),
    )

-- who is nobody said nothing
pub said_map : (heard other : Lines) → ((who : ℕ) (line : List ℕ) (b : Bool) → heard who line b → other who line b) → (who : Option ℕ) (line : List ℕ) (b : Bool) →
    SaidBy heard who line b → SaidBy other who line b
said_map heard other f None line b is = absurd is
said_map heard other f (Some who) line b is = f who line b is
