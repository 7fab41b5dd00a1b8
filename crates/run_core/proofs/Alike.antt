-- What was read of an array of integers and its whole bytes, page by page.
use Rattle.std.proofs.Common.{◌≡◌, ℕ, ◌+◌, ◌*◌, ◌<◌, ◌≤◌, ◌⊎◌, inl, inr, Bool, true, false, List, [], ◌∷◌, ◌++◌, length, map, take, drop, refl, sym, ap, ◌∙◌, subst, arith, length-append, length-take, length-drop}
use Rattle.std.specs.List.{concat}
use Rattle.std.proofs.lemmas.List.{append-nil, take-append-drop, take_all, take_at, drop_at, drop_all, drop-drop, length-map}
use Rattle.apply_core.specs.Pages.{page_at}
use Rattle.known_core.specs.Filled.{IsFilled}
use Rattle.page_core.specs.Cut.{lengths, together, IsLength, AreFull}
use Rattle.page_core.specs.Bytes.{split_by, AreCutBy}
use Rattle.page_core.specs.Laws.{AreAlike}
use Rattle.page_core.proofs.Planning.{cut_none}
use Rattle.page_core.proofs.Transfer.{transfers}
use Rattle.run_core.specs.Wholes.{AreNewPages}
use Rattle.run_core.specs.Planned.{PlansOfWholes}

-- the first page of a cut, and the others
cut_first : (bytes page : List ℕ) (pages : List (List ℕ)) → AreCutBy 1024 bytes (page ∷ pages) → (page ≡ take 1024 bytes) × AreCutBy 1024 (drop 1024 bytes) pages
cut_first bytes page [] cut =
    let is : page ≡ bytes = sym (append-nil page) ∙ cut.whole in
    let few : length bytes ≤ 1024 = omega (arith, ap length is, cut.full.0.1) in
    (is ∙ sym (take_all 1024 bytes few), record { whole = sym (drop_all 1024 bytes few); full = tt })
cut_first bytes page (next ∷ more) cut = (
  sym (take_at page (concat (next ∷ more)) 1024 cut.full.0) ∙ ap (take 1024) cut.whole,
  record { whole = sym (drop_at page (concat (next ∷ more)) 1024 cut.full.0) ∙ ap (drop 1024) cut.whole; full = cut.full.1 },
)

some_long : (page : List ℕ) (pages : List (List ℕ)) → AreFull 1024 (map length (page ∷ pages)) → 0 < length page
some_long page [] full = full.0.0
some_long page (next ∷ more) full = omega (arith, full.0)

-- a cut that has a page is a cut of some bytes
cut_some : (bytes page : List ℕ) (pages : List (List ℕ)) → AreCutBy 1024 bytes (page ∷ pages) → 0 < length bytes
cut_some bytes page pages cut = omega (arith, some_long page pages cut.full, ap length cut.whole, length-append page (concat pages))

len_some : (len : ℕ) (more : List ℕ) → IsLength 1024 len more → 0 < len
len_some len [] is = is.0
len_some len (next ∷ more) is = omega (arith, is)

-- the first of some full lengths, and the others
lens_first : (len : ℕ) (more : List ℕ) (bytes : List ℕ) → IsLength 1024 len more → together (len ∷ more) ≡ length bytes
    → (take len bytes ≡ take 1024 bytes) × (split_by more (drop len bytes) ≡ split_by more (drop 1024 bytes)) × (together more ≡ length (drop 1024 bytes))
lens_first len [] bytes is long =
    (take_all len bytes (omega (arith, long)) ∙ sym (take_all 1024 bytes (omega (arith, long, is.1))), refl, omega (arith, long, is.1, length-drop 1024 bytes))
lens_first len (next ∷ more) bytes is long =
    (ap (λ n. take n bytes) is, ap (λ n. split_by (next ∷ more) (drop n bytes)) is, omega (arith, long, is, length-drop 1024 bytes))

next_page : (k : ℕ) (bytes whole : List ℕ) → bytes ≡ drop (1024 * k) whole → drop 1024 bytes ≡ drop (1024 * (k + 1)) whole
next_page k bytes whole is = ap (drop 1024) is ∙ drop-drop 1024 (1024 * k) whole ∙ ap (λ n. drop n whole) (omega arith)

module _ (pages : ℕ → Bool) (filled bytes before after : List ℕ) (h : IsFilled pages filled before) (new : AreNewPages pages filled bytes before after) where
  -- a page that is known is what it is of the whole, before and after; any other one is the same before and after
  place_alike : (k : ℕ) (b : Bool) → pages k ≡ b → ((page_at k filled ≡ page_at k before) × (page_at k bytes ≡ page_at k after)) ⊎ ((page_at k filled ≡ page_at k bytes) × (page_at k before ≡ page_at k after))
  place_alike k true knows = inl (sym (h.same k knows), sym (new.known k knows))
  place_alike k false not = inr (sym (new.stays k not), sym (new.stays_whole k not))

  long_at : (k : ℕ) (one other x y : List ℕ) → length one ≡ length other → x ≡ drop (1024 * k) one → y ≡ drop (1024 * k) other → length x ≡ length y
  long_at k one other x y long x_is y_is = omega (arith, long, ap length x_is, ap length y_is, length-drop (1024 * k) one, length-drop (1024 * k) other)

  alike : (k : ℕ) (lens : List ℕ) (f b w a : List ℕ) (here there : List (List ℕ)) → f ≡ drop (1024 * k) filled → b ≡ drop (1024 * k) bytes → w ≡ drop (1024 * k) before → a ≡ drop (1024 * k) after
      → AreFull 1024 lens → together lens ≡ length w → AreCutBy 1024 b here → AreCutBy 1024 a there → AreAlike (split_by lens f) here (split_by lens w) there
  alike k [] f b w a [] [] f_is b_is w_is a_is full long cut cut_there = tt
  alike k [] f b w a (p ∷ ps) there f_is b_is w_is a_is full long cut cut_there =
      absurd (omega (arith, cut_some b p ps cut, long, long_at k bytes filled b f new.long b_is f_is, long_at k before filled w f h.long w_is f_is))
  alike k [] f b w a [] (q ∷ qs) f_is b_is w_is a_is full long cut cut_there = absurd (omega (arith, cut_some a q qs cut_there, long, long_at k after before a w new.long_whole a_is w_is))
  alike k (len ∷ more) f b w a [] there f_is b_is w_is a_is full long cut cut_there =
      absurd (omega (arith, ap length cut.whole, len_some len more full.0, long, long_at k bytes filled b f new.long b_is f_is, long_at k before filled w f h.long w_is f_is))
  alike k (len ∷ more) f b w a (p ∷ ps) [] f_is b_is w_is a_is full long cut cut_there =
      absurd (omega (arith, ap length cut_there.whole, len_some len more full.0, long, long_at k after before a w new.long_whole a_is w_is))
  alike k (len ∷ more) f b w a (p ∷ ps) (q ∷ qs) f_is b_is w_is a_is full long cut cut_there =
      let of_f = lens_first len more f full.0 (omega (arith, long, long_at k before filled w f h.long w_is f_is)) in
      let of_w = lens_first len more w full.0 long in
      let of_p = cut_first b p ps cut in
      let of_q = cut_first a q qs cut_there in
      let rest : AreAlike (split_by more (drop 1024 f)) ps (split_by more (drop 1024 w)) qs =
      alike (k + 1) more (drop 1024 f) (drop 1024 b) (drop 1024 w) (drop 1024 a) ps qs (next_page k f filled f_is) (next_page k b bytes b_is) (next_page k w before w_is) (next_page k a after a_is) full.1 of_w.2 of_p.1 of_q.1 in (
        here_alike (of_f.0 ∙ ap (take 1024) f_is) (of_w.0 ∙ ap (take 1024) w_is) (of_p.0 ∙ ap (take 1024) b_is) (of_q.0 ∙ ap (take 1024) a_is) (place_alike k (pages k) refl),
        subst (λ (x : List (List ℕ)). AreAlike x ps (split_by more (drop len w)) qs) (sym of_f.1) (subst (λ (y : List (List ℕ)). AreAlike (split_by more (drop 1024 f)) ps y qs) (sym of_w.1) rest),
      ) where
        here_alike : {x y u v x1 y1 u1 v1 : List ℕ} → x ≡ x1 → y ≡ y1 → u ≡ u1 → v ≡ v1 → ((x1 ≡ y1) × (u1 ≡ v1)) ⊎ ((x1 ≡ u1) × (y1 ≡ v1)) → ((x ≡ y) × (u ≡ v)) ⊎ ((x ≡ u) × (y ≡ v))
        here_alike x_is y_is u_is v_is (inl both) = inl (x_is ∙ both.0 ∙ sym y_is, u_is ∙ both.1 ∙ sym v_is)
        here_alike x_is y_is u_is v_is (inr both) = inr (x_is ∙ both.0 ∙ sym u_is, y_is ∙ both.1 ∙ sym v_is)

-- as many bytes are cut at the same places
cut_like : (bytes after : List ℕ) (here : List (List ℕ)) → length after ≡ length bytes → AreCutBy 1024 bytes here → AreCutBy 1024 after (split_by (map length here) after)
cut_like bytes after [] long cut = cut_none 1024 after (omega (arith, long, ap length cut.whole))
cut_like bytes after (p ∷ []) long cut =
    let all : length after ≡ length p = omega (arith, long, ap length cut.whole, length-append p []) in
    let whole : take (length p) after ≡ after = take_all (length p) after (omega (arith, all)) in
    record {
      whole = append-nil (take (length p) after) ∙ whole;
      full = ((omega (arith, ap length whole, all, cut.full.0.0), omega (arith, ap length whole, all, cut.full.0.1)), tt);
    }
cut_like bytes after (p ∷ q ∷ qs) long cut =
    let total : length p + length (concat (q ∷ qs)) ≡ length after = omega (arith, long, ap length cut.whole, length-append p (concat (q ∷ qs))) in
    let rest : AreCutBy 1024 (drop (length p) after) (split_by (map length (q ∷ qs)) (drop (length p) after)) =
    cut_like (concat (q ∷ qs)) (drop (length p) after) (q ∷ qs) (omega (arith, total, length-drop (length p) after)) (record { whole = refl; full = cut.full.1 }) in
    record {
      whole = ap (λ (r : List ℕ). take (length p) after ++ r) rest.whole ∙ take-append-drop (length p) after;
      full = (omega (arith, length-take (length p) after, total, cut.full.0), rest.full);
    }

split_many : (lens : List ℕ) (bytes : List ℕ) → length (split_by lens bytes) ≡ length lens
split_many [] bytes = refl
split_many (len ∷ lens) bytes = omega (arith, split_many lens (drop len bytes))

pub plans_of_wholes : PlansOfWholes
plans_of_wholes pages filled bytes before after place olds here stamps writes gone h new full long cut plan =
    let there : List (List ℕ) = split_by (map length here) after in
    let cut_there : AreCutBy 1024 after there = cut_like bytes after here (omega (arith, new.long_whole, h.long, new.long)) cut in (
      there,
      cut_there,
      split_many (map length here) after ∙ length-map here length,
      transfers place olds (split_by (lengths olds) filled) here (split_by (lengths olds) before) there stamps writes gone plan (alike pages filled bytes before after h new 0 (lengths olds) filled bytes before after here there refl refl refl refl full long cut cut_there),
    )
