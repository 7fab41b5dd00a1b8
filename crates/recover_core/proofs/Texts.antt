-- The lines of what is held, in a text.
use Rattle.std.proofs.Common.{◌≡◌, ℕ, zero, suc, ◌-◌, true, false, List, [], ◌∷◌, ◌++◌, length, take, drop, refl, sym, ap, ◌∙◌, subst, append_assoc, arith, ◌⊎◌, inr, length-append}
use Rattle.std.specs.Prelude.{codes, ◌==◌, Result, Ok, Err, IfErr, IfOk, MatchResult}
use Rattle.std.proofs.lemmas.Bool.{false≢true}
use Rattle.std.proofs.lemmas.Bool.Decides.{nat_tests}
use Rattle.std.proofs.lemmas.List.Elements.{All-head, All-tail}
use Rattle.decl_core.specs.ObjectForm.{ObjectForm}
use Rattle.value_core.specs.Runs.{NoLineFeed}
use Rattle.word_core.specs.Words.{words_text, line_of}
use Rattle.word_core.specs.TraceLaws.{HasNames}
use Rattle.live_core.specs.declared.front.Front.{Front}
use Rattle.live_core.specs.Front.{Every, HasRows, Opening, opening_of}
use Rattle.live_core.specs.Text.{front_text, rows}
use Rattle.front_read.specs.Fault.{IsFirstFault}
use Rattle.front_read.specs.Rows.{AreRows, IsRow, NoRow, has_verb, row_words}
use Rattle.decl_core.specs.HoldForm.{HoldForm}
use Rattle.guest_core.specs.Held.{HeldCall}
use Rattle.recover_core.specs.declared.text.HeldFront.{HeldFront}
use Rattle.front_read.specs.HeldLines.{held_text, held_words, IsHeldLine}
use Rattle.recover_core.specs.HeldSo.{TakesHeld}
use Rattle.recover_core.specs.HeldText.{HasHeld, IsBehind, IsHeldFault}
use Rattle.recover_core.proofs.Reading.{held_clear, held_once, words_in}
use Rattle.recover_core.proofs.Safe.{no_feed}

pub one_cut : (a b r s : List ℕ) → NoLineFeed a → NoLineFeed b → a ++ 10 ∷ r ≡ b ++ 10 ∷ s → (a ≡ b) × (r ≡ s)
one_cut [] [] r s p q same = (refl, let tails : r ≡ s = cc in tails)
one_cut [] (y ∷ b) r s p q same =
    let is : y ≡ 10 = cc in let isnt = All-head (λ z. (z == 10) ≡ false) y b q in absurd (grind (arith, nat_tests))
one_cut (x ∷ a) [] r s p q same =
    let is : x ≡ 10 = cc in let isnt = All-head (λ z. (z == 10) ≡ false) x a p in absurd (grind (arith, nat_tests))
one_cut (x ∷ a) (y ∷ b) r s p q same =
    let heads : x ≡ y = cc in
    let tails : a ++ 10 ∷ r ≡ b ++ 10 ∷ s = cc in
    let more = one_cut a b r s (All-tail (λ z. (z == 10) ≡ false) x a p) (All-tail (λ z. (z == 10) ≡ false) y b q) tails in
    ((λ i. heads i ∷ more.0 i), more.1)

pub no_cut : (line rest : List ℕ) → NoLineFeed (line ++ 10 ∷ rest) → ⊥
no_cut [] rest p = let isnt = All-head (λ z. (z == 10) ≡ false) 10 rest p in absurd (grind (arith, nat_tests))
no_cut (x ∷ line) rest p = no_cut line rest (All-tail (λ z. (z == 10) ≡ false) x (line ++ 10 ∷ rest) p)

-- no text without an end of a line begins with a held line
pub no_line : (o : ObjectForm) (holds : List HoldForm) (text : List ℕ) → NoLineFeed text → NoRow (IsHeldLine o holds) (row_words (codes "held") (held_words o holds)) text
no_line o holds text none x rest row =
    no_cut (words_text (words_in o holds x)) rest (subst NoLineFeed (row.stands ∙ append_assoc (words_text (words_in o holds x)) (10 ∷ []) rest) none)

-- the first line was taken, or it is none
pub line_taken : (o : ObjectForm) (holds : List HoldForm) (text line more : List ℕ) (old new : List HeldCall) → text ≡ line ++ 10 ∷ more → TakesHeld o holds line old true new
    → (x : HeldCall) × IsRow (IsHeldLine o holds) (row_words (codes "held") (held_words o holds)) text x more × (new ≡ old ++ x ∷ [])
line_taken o holds text line more old new is takes =
    let h = takes.0 in (
      h,
      record { is = takes.1.is; stands = is ∙ ap (λ l. l ++ 10 ∷ more) takes.1.told ∙ sym (append_assoc (words_text (words_in o holds h)) (10 ∷ []) more) },
      takes.2,
    )

pub line_none : (o : ObjectForm) (holds : List HoldForm) (text line more : List ℕ) (old new : List HeldCall) → HasNames o → NoLineFeed line → text ≡ line ++ 10 ∷ more → TakesHeld o holds line old false new
    → NoRow (IsHeldLine o holds) (row_words (codes "held") (held_words o holds)) text
line_none o holds text line more old new named none is takes x rest row =
    let ws = words_in o holds x in
    let cut = one_cut line (words_text ws) more rest none (no_feed ws (held_clear o holds x named row.is)) (sym is ∙ row.stands ∙ append_assoc (words_text ws) (10 ∷ []) rest) in
    takes.0 x (record { is = row.is; told = cut.0 })

-- lines of what is held stand in one way
held_rows : (o : ObjectForm) (holds : List HoldForm) (x : HeldCall) (xs : List HeldCall) (r : List ℕ) → held_text o holds (x ∷ xs) ++ r ≡ words_text (words_in o holds x) ++ 10 ∷ (held_text o holds xs ++ r)
held_rows o holds x xs r =
    let ws = words_in o holds x in
    append_assoc (line_of ws) (held_text o holds xs) r ∙ append_assoc (words_text ws) (10 ∷ []) (held_text o holds xs ++ r)

first_cut : (o : ObjectForm) (holds : List HoldForm) (x y : HeldCall) (xs ys : List HeldCall) (r s : List ℕ) → HasNames o → IsHeldLine o holds x → IsHeldLine o holds y → held_text o holds (x ∷ xs) ++ r ≡ held_text o holds (y ∷ ys) ++ s
    → (x ≡ y) × (held_text o holds xs ++ r ≡ held_text o holds ys ++ s)
first_cut o holds x y xs ys r s named p q same =
    let a = words_in o holds x in
    let b = words_in o holds y in
    let cut = one_cut (words_text a) (words_text b) (held_text o holds xs ++ r) (held_text o holds ys ++ s) (no_feed a (held_clear o holds x named p)) (no_feed b (held_clear o holds y named q)) (sym (held_rows o holds x xs r) ∙ same ∙ held_rows o holds y ys s) in
    (held_once o holds x y named p q cut.0, cut.1)

has_held : (o : ObjectForm) (holds : List HoldForm) (x : HeldCall) (xs : List HeldCall) (r : List ℕ) → has_verb (codes "held") (held_text o holds (x ∷ xs) ++ r) ≡ true
has_held o holds x xs r = refl

pub rows_once : (o : ObjectForm) (holds : List HoldForm) (xs ys : List HeldCall) (r s : List ℕ) → HasNames o → Every (IsHeldLine o holds) xs → Every (IsHeldLine o holds) ys → has_verb (codes "held") r ≡ false → has_verb (codes "held") s ≡ false
    → held_text o holds xs ++ r ≡ held_text o holds ys ++ s → (xs ≡ ys) × (r ≡ s)
rows_once o holds [] [] r s named p q e f same = (refl, same)
rows_once o holds [] (y ∷ ys) r s named p q e f same = absurd (false≢true (sym e ∙ ap (has_verb (codes "held")) same ∙ has_held o holds y ys s))
rows_once o holds (x ∷ xs) [] r s named p q e f same = absurd (false≢true (sym f ∙ ap (has_verb (codes "held")) (sym same) ∙ has_held o holds x xs r))
rows_once o holds (x ∷ xs) (y ∷ ys) r s named p q e f same =
    let cut = first_cut o holds x y xs ys r s named p.0 q.0 same in
    let rest = rows_once o holds xs ys r s named p.1 q.1 e f cut.1 in
    ((λ i. cut.0 i ∷ rest.0 i), rest.1)

pub breaks_once : (o : ObjectForm) (holds : List HoldForm) (xs ys : List HeldCall) (r s : List ℕ) → HasNames o → Every (IsHeldLine o holds) xs → Every (IsHeldLine o holds) ys → has_verb (codes "held") r ≡ true
    → NoRow (IsHeldLine o holds) (row_words (codes "held") (held_words o holds)) r → has_verb (codes "held") s ≡ false → held_text o holds xs ++ r ≡ held_text o holds ys ++ s → ⊥
breaks_once o holds [] [] r s named p q e none f same = false≢true (sym f ∙ ap (has_verb (codes "held")) (sym same) ∙ e)
breaks_once o holds [] (y ∷ ys) r s named p q e none f same = none y (held_text o holds ys ++ s) (record { is = q.0; stands = same ∙ append_assoc (line_of (words_in o holds y)) (held_text o holds ys) s })
breaks_once o holds (x ∷ xs) [] r s named p q e none f same = false≢true (sym f ∙ ap (has_verb (codes "held")) (sym same) ∙ has_held o holds x xs r)
breaks_once o holds (x ∷ xs) (y ∷ ys) r s named p q e none f same =
    let cut = first_cut o holds x y xs ys r s named p.0 q.0 same in
    breaks_once o holds xs ys r s named p.1 q.1 e none f cut.1

-- one more was taken
every_push : {X : Type 0} (P : X → Type 0) (xs : List X) (x : X) → Every P xs → P x → Every P (xs ++ x ∷ [])
every_push P [] x each one = (one, tt)
every_push P (y ∷ xs) x each one = (each.0, every_push P xs x each.1 one)

text_push : (o : ObjectForm) (holds : List HoldForm) (xs : List HeldCall) (x : HeldCall) (r : List ℕ) → held_text o holds (xs ++ x ∷ []) ++ r ≡ held_text o holds xs ++ (line_of (words_in o holds x) ++ r)
text_push o holds [] x r = append_assoc (line_of (words_in o holds x)) [] r
text_push o holds (y ∷ xs) x r =
    append_assoc (line_of (words_in o holds y)) (held_text o holds (xs ++ x ∷ [])) r ∙ ap (λ t. line_of (words_in o holds y) ++ t) (text_push o holds xs x r)
    ∙ sym (append_assoc (line_of (words_in o holds y)) (held_text o holds xs) (line_of (words_in o holds x) ++ r))

pub one_more : (o : ObjectForm) (holds : List HoldForm) (text rest behind : List ℕ) (old new : List HeldCall) → AreRows (IsHeldLine o holds) (codes "held") (held_words o holds) text old rest
    → ((x : HeldCall) × IsRow (IsHeldLine o holds) (row_words (codes "held") (held_words o holds)) rest x behind × (new ≡ old ++ x ∷ [])) → AreRows (IsHeldLine o holds) (codes "held") (held_words o holds) text new behind
one_more o holds text rest behind old new are more =
    subst (λ xs. AreRows (IsHeldLine o holds) (codes "held") (held_words o holds) text xs behind) (sym more.2) (record {
      each = every_push (IsHeldLine o holds) old more.0 are.each more.1.is;
      stand = are.stand ∙ ap (λ r. held_text o holds old ++ r) more.1.stands ∙ sym (text_push o holds old more.0 behind);
    })

-- parts of a text by their lengths
pub front_is : (front rest : List ℕ) → take (length front) (front ++ rest) ≡ front
front_is [] rest = refl
front_is (b ∷ front) rest = ap (λ t. b ∷ t) (front_is front rest)

pub rest_is : (front rest : List ℕ) → drop (length front) (front ++ rest) ≡ rest
rest_is [] rest = refl
rest_is (b ∷ front) rest = rest_is front rest

pub whole_is : (n : ℕ) (text : List ℕ) → text ≡ take n text ++ drop n text
whole_is zero text = refl
whole_is (suc n) [] = refl
whole_is (suc n) (b ∷ text) = ap (λ t. b ∷ t) (whole_is n text)

less_rest : (front rest : List ℕ) → length (front ++ rest) - length rest ≡ length front
less_rest front rest = let e = length-append front rest in omega (arith, e)

pub front_by : (text front rest : List ℕ) → text ≡ front ++ rest → take (length text - length rest) text ≡ front
front_by text front rest is = subst (λ t. take (length t - length rest) t ≡ front) (sym is) (ap (λ n. take n (front ++ rest)) (less_rest front rest) ∙ front_is front rest)

pub rest_by : (text front rest : List ℕ) → text ≡ front ++ rest → drop (length text - length rest) text ≡ rest
rest_by text front rest is = subst (λ t. drop (length t - length rest) t ≡ rest) (sym is) (ap (λ n. drop n (front ++ rest)) (less_rest front rest) ∙ rest_is front rest)

-- where the rest of a text begins
pub behind_is : (o : ObjectForm) (holds : List HoldForm) (front n : ℕ) (text rest : List ℕ) (held : List HeldCall) → AreRows (IsHeldLine o holds) (codes "held") (held_words o holds) (drop front text) held rest → n ≡ length text - length rest → drop n text ≡ rest
behind_is o holds front n text rest held are is =
    ap (λ k. drop k text) is ∙ rest_by text (take front text ++ held_text o holds held) rest (whole_is front text ∙ ap (λ t. take front text ++ t) are.stand ∙ sym (append_assoc (take front text) (held_text o holds held) rest))

-- what was read of a front with what is held
pub told_by : (o : ObjectForm) (holds : List HoldForm) (opening : Front) (front : ℕ) (text : List ℕ) (found : Result HeldFront ℕ) → take front text ≡ front_text o (opening_of opening) → HasRows o (opening_of opening) → IsBehind o holds opening front text found
    → IfOk found (λ c. HasHeld o holds text (opening_of c.opening) c.held (drop c.behind text) × (take c.front text ≡ front_text o (opening_of c.opening)))
told_by o holds opening front text (Ok c) is rows behind = (
  record {
    rows = subst (λ f. HasRows o (opening_of f)) (sym behind.0) rows;
    each = behind.3.each;
    told = whole_is front text ∙ ap (λ t. t ++ drop front text) (is ∙ ap (λ f. front_text o (opening_of f)) (sym behind.0)) ∙ ap (λ t. front_text o (opening_of c.opening) ++ t) behind.3.stand;
    ends = behind.2;
  },
  ap (λ n. take n text) behind.1 ∙ is ∙ ap (λ f. front_text o (opening_of f)) (sym behind.0),
)
told_by o holds opening front text (Err number) is rows behind = tt

pub found_by : (o : ObjectForm) (holds : List HoldForm) (opening : Front) (front : ℕ) (text : List ℕ) (found : Result HeldFront ℕ) (f : Opening) (held : List HeldCall) (behind : List ℕ) → HasNames o → HasHeld o holds text f held behind
    → ((opening_of opening ≡ f) × (front ≡ length (front_text o f))) → IsBehind o holds opening front text found
    → MatchResult found (λ c. (opening_of c.opening ≡ f) × (c.held ≡ held) × (take c.front text ≡ front_text o f) × (drop c.behind text ≡ behind)) (λ _. ⊥)
found_by o holds opening front text (Ok c) f held behind named has same is =
    let ft = front_text o f in
    let rest : drop front text ≡ held_text o holds held ++ behind = ap (λ n. drop n text) same.1 ∙ ap (drop (length ft)) has.told ∙ rest_is ft (held_text o holds held ++ behind) in
    let once = rows_once o holds c.held held (drop c.behind text) behind named is.3.each has.each is.2 has.ends (sym is.3.stand ∙ rest) in
    (ap opening_of is.0 ∙ same.0, once.0, ap (λ n. take n text) (is.1 ∙ same.1) ∙ ap (take (length ft)) has.told ∙ front_is ft (held_text o holds held ++ behind), once.1)
found_by o holds opening front text (Err number) f held behind named has same is =
    let ft = front_text o f in
    let rest : drop front text ≡ held_text o holds held ++ behind = ap (λ n. drop n text) same.1 ∙ ap (drop (length ft)) has.told ∙ rest_is ft (held_text o holds held ++ behind) in
    breaks_once o holds is.1.before held is.0 behind named is.1.rows_are.each has.each is.1.goes is.1.none has.ends (sym is.1.rows_are.stand ∙ rest)

pub fault_by : (o : ObjectForm) (holds : List HoldForm) (opening : Front) (front : ℕ) (text : List ℕ) (found : Result HeldFront ℕ) → take front text ≡ front_text o (opening_of opening) → HasRows o (opening_of opening) → IsBehind o holds opening front text found
    → IfErr found (λ line. IsFirstFault o text line ⊎ IsHeldFault o holds text line)
fault_by o holds opening front text (Ok c) is rows behind = tt
fault_by o holds opening front text (Err number) is rows behind =
    let f = opening_of opening in
    let b = behind.1 in
    let ft = front_text o f in
    let lines = held_text o holds b.before in
    let whole : text ≡ ft ++ (lines ++ behind.0) = whole_is front text ∙ ap (λ t. t ++ drop front text) is ∙ ap (λ t. ft ++ t) b.rows_are.stand in
    inr (record { opening = f; rows = rows; held = b.before; each = b.rows_are.each; rest = behind.0; told = whole; counted = behind.2 (ft ++ lines) (whole ∙ sym (append_assoc ft lines behind.0)); goes = b.goes; none = b.none })
