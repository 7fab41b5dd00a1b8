-- A run in the middle of a text.
use Rattle.std.proofs.Common.{◌≡◌, ℕ, ◌+◌, ◌<◌, Bool, true, false, List, [], ◌∷◌, ◌++◌, length, refl, sym, ap, ◌∙◌, subst, append_assoc, arith, length-append}
use Rattle.std.proofs.lemmas.List.{append-nil}
use Rattle.std.specs.Str.Lines.{lines, strip_carriage_return}
use Rattle.std.proofs.lemmas.Grind.{common_steps}
use Rattle.value_core.specs.Runs.{Runs, Cuts, NoLineFeed, Fed, Finished}
use Rattle.value_core.proofs.Cutting.{Cuts-none, Cuts-held, Cuts-more, last_line}

-- a run goes on by one line
pub Runs-push : {S : Type 0} (gives : S → ℕ → List ℕ → List ℕ → Bool → S → Type 0) (old : S) (number : ℕ) (whole : List (List ℕ)) (text : List ℕ) (mid : S) (line answer : List ℕ) (new : S)
    → Runs gives old number whole text mid → gives mid (number + length whole) line answer true new → Runs gives old number (whole ++ line ∷ []) (text ++ answer) new
Runs-push gives old number [] text mid line answer new runs step =
    let at : (number + 0) ≡ number = omega arith in
    (answer, [], new, (let e : text ≡ [] = runs.0 in rw e (sym (grind (arith, common_steps)))), (let s : gives old (number + 0) line answer true new = subst (λ m. gives m (number + 0) line answer true new) runs.1 step in rw at at s), (refl, refl))
Runs-push {S} gives old number (first_line ∷ whole) text mid line answer new (first, rest, next, same, step_first, more) step =
    let at : number + length (first_line ∷ whole) ≡ (number + 1) + length whole = omega arith in
    let moved : gives mid ((number + 1) + length whole) line answer true new = rw at at step in
    (first, rest ++ answer, next, (rw same (append_assoc first rest answer)), step_first, Runs-push gives next (number + 1) whole rest mid line answer new more moved)

-- what stands between two pieces
pub record Reading {S : Type 0} (gives : S → ℕ → List ℕ → List ℕ → Bool → S → Type 0) (old : S) (number : ℕ) (held out : List ℕ) (piece : List ℕ) (rest : List ℕ) (new : S) (next : ℕ) (holds adds : List ℕ) : Type 0 where
  pub seen : List ℕ
  pub answers : List ℕ
  pub whole : List (List ℕ)
  pub split : piece ≡ seen ++ rest
  pub told : adds ≡ out ++ answers
  pub cuts : Cuts (held ++ seen) whole holds
  pub runs : Runs gives old number whole answers new
  pub counted : next ≡ number + length whole

-- before the first piece
pub Reading-none : {S : Type 0} (gives : S → ℕ → List ℕ → List ℕ → Bool → S → Type 0) (old : S) (number : ℕ) (held out piece : List ℕ)
    → Reading gives old number held out piece piece old number held out
Reading-none gives old number held out piece = record {
  seen = [];
  answers = [];
  whole = [];
  split = refl;
  told = grind (arith, common_steps);
  cuts = simp append-nil (Cuts-none held);
  runs = (refl, refl);
  counted = omega arith;
}

-- one more line that goes on
pub Reading-more : {S : Type 0} (gives : S → ℕ → List ℕ → List ℕ → Bool → S → Type 0) (old : S) (number : ℕ) (held out piece rest : List ℕ) (mid : S) (next : ℕ) (holds adds front back answer adds' : List ℕ) (new : S)
    → Reading gives old number held out piece rest mid next holds adds → NoLineFeed holds → NoLineFeed front → rest ≡ front ++ 10 ∷ back
    → gives mid next (strip_carriage_return (holds ++ front)) answer true new → adds' ≡ adds ++ answer
    → Reading gives old number held out piece back new (next + 1) [] adds'
Reading-more gives old number held out piece rest mid next holds adds front back answer adds' new r clear front_clear parts step added =
    let line = strip_carriage_return (holds ++ front) in
    let step' : gives mid (number + length r.whole) line answer true new = rw (sym r.counted) step in
    record {
      seen = r.seen ++ (front ++ 10 ∷ []);
      answers = r.answers ++ answer;
      whole = r.whole ++ line ∷ [];
      split = r.split ∙ ap (λ bs. r.seen ++ bs) parts ∙ simp append_assoc;
      told = added ∙ ap (λ bs. bs ++ answer) r.told ∙ append_assoc out r.answers answer;
      cuts = (let h = Cuts-more (held ++ r.seen) r.whole holds front r.cuts clear front_clear in rw (sym (append_assoc held r.seen (front ++ 10 ∷ []))) h);
      runs = Runs-push gives old number r.whole r.answers mid line answer new r.runs step';
      counted = omega (arith, length-append r.whole (line ∷ []), r.counted);
    }

-- a line that stops
pub Reading-stops : {S : Type 0} (gives : S → ℕ → List ℕ → List ℕ → Bool → S → Type 0) (old : S) (number : ℕ) (held out piece rest : List ℕ) (mid : S) (next : ℕ) (holds adds front back answer adds' : List ℕ) (new : S) (holds' : List ℕ)
    → Reading gives old number held out piece rest mid next holds adds → NoLineFeed holds → NoLineFeed front → rest ≡ front ++ 10 ∷ back
    → gives mid next (strip_carriage_return (holds ++ front)) answer false new → adds' ≡ adds ++ answer
    → (answers : List ℕ) × (adds' ≡ out ++ answers) × Fed gives old number (held ++ piece) false answers new next holds'
Reading-stops gives old number held out piece rest mid next holds adds front back answer adds' new holds' r clear front_clear parts step added =
    let line = strip_carriage_return (holds ++ front) in
    let step' : gives mid (number + length r.whole) line answer false new = rw (sym r.counted) step in
    let cut = Cuts-more (held ++ r.seen) r.whole holds front r.cuts clear front_clear in
    let pieces : (more : List ℕ) → (held ++ piece) ++ more ≡ ((held ++ r.seen) ++ (front ++ 10 ∷ [])) ++ (back ++ more)
    = λ more. ap (λ bs. (held ++ bs) ++ more) (r.split ∙ ap (λ bs. r.seen ++ bs) parts) ∙ simp append_assoc in (
      r.answers ++ answer,
      added ∙ ap (λ bs. bs ++ answer) r.told ∙ append_assoc out r.answers answer,
      (
        r.whole,
        line,
        (λ more. (lines (back ++ more), ap lines (pieces more) ∙ cut (back ++ more) ∙ append_assoc r.whole (line ∷ []) (lines (back ++ more)))),
        (r.answers, answer, mid, r.runs, step', refl),
        r.counted,
      ),
    )

-- the rest of the piece has no LF
pub Reading-end : {S : Type 0} (gives : S → ℕ → List ℕ → List ℕ → Bool → S → Type 0) (old : S) (number : ℕ) (held out piece rest : List ℕ) (new : S) (next : ℕ) (holds adds holds' : List ℕ)
    → Reading gives old number held out piece rest new next holds adds → holds' ≡ holds ++ rest
    → (answers : List ℕ) × (adds ≡ out ++ answers) × Fed gives old number (held ++ piece) true answers new next holds'
Reading-end gives old number held out piece rest new next holds adds holds' r held_more =
    let cut = Cuts-held (held ++ r.seen) r.whole holds rest r.cuts in
    let all : (held ++ r.seen) ++ rest ≡ held ++ piece = append_assoc held r.seen rest ∙ ap (λ bs. held ++ bs) (sym r.split) in (
      r.answers,
      r.told,
      (
        r.whole,
        (let moved = rw all at cut in rw held_more moved),
        r.runs,
        r.counted,
      ),
    )

-- what is held at the end is the last line
pub Finished-last : {S : Type 0} (gives : S → ℕ → List ℕ → List ℕ → Bool → S → Type 0) (old : S) (number : ℕ) (held : List ℕ) (goes : Bool) (answers : List ℕ) (new : S)
    → NoLineFeed held → 0 < length held → gives old number held answers goes new → Finished gives old number held goes answers new
Finished-last gives old number held true answers new clear some step =
    let one : lines held ≡ held ∷ [] = last_line held clear some in
    rw one (answers, [], new, sym (append-nil answers), step, (refl, refl))
Finished-last gives old number held false answers new clear some step = (held, last_line held clear some, step)
