-- New pins that are put in the places of their parts, one after the other.
use Rattle.std.proofs.Common.{◌≡◌, ℕ, ◌+◌, ◌<◌, ◌≤◌, ◌==◌, inl, inr, Bool, true, false, if◌then◌else◌, List, [], ◌∷◌, length, Option, Some, None, refl, sym, ◌∙◌, ap, subst, arith}
use Rattle.std.specs.Prelude.{slice_get, slice_set, unwrap_or, IfSome, IfNone}
use Rattle.std.specs.Borrow.{Bor}
use Rattle.std.proofs.Math.ListN.{length-set}
use Rattle.std.proofs.lemmas.Bool.{cases_lt}
use Rattle.std.proofs.lemmas.List.{same_lists}
use Rattle.std.proofs.lemmas.Option.{unwrap_or-slice_get, slice_get_past}
use Rattle.device_core.specs.declared.hand.Stamp.{Stamp}
use Rattle.page_core.specs.PartPins.{PartPin, pin_at, count_pages}
use Rattle.page_core.proofs.Renewing.{set_same, set_other}
use Rattle.board_core.specs.Board.{published}
use Rattle.board_core.proofs.Published.{length-published, published_there, published_elsewhere}
use Rattle.desk_core.specs.Publishing.{ArePageLists, with_pin}

-- lists of the same items are the same
same_items : {X : Type 0} (xs ys : List X) → length xs ≡ length ys → ((k : ℕ) → slice_get xs k ≡ slice_get ys k) → xs ≡ ys
same_items xs ys many each = same_lists xs ys many (λ k d less. sym (unwrap_or-slice_get xs k d) ∙ ap (λ o. unwrap_or o d) (each k) ∙ unwrap_or-slice_get ys k d)

-- the pages of a pin are counted
count_by : (b : Bool) (new : PartPin) (news : List PartPin) (p : ℕ) (pages : List Stamp) → (if b then Some new.pages else pin_at news p) ≡ Some pages → (pin_at news p ≡ Some pages → length pages ≤ count_pages news)
    → length pages ≤ length new.pages + count_pages news
count_by true new news p pages is later = omega (arith, ap (λ o. length (unwrap_or o pages)) is)
count_by false new news p pages is later = omega (arith, later is)

count_pin : (news : List PartPin) (p : ℕ) (pages : List Stamp) → pin_at news p ≡ Some pages → length pages ≤ count_pages news
count_pin [] p pages is = absurd cc
count_pin (new ∷ news) p pages is = count_by (new.part == p) new news p pages is (count_pin news p pages)

module _ (pins : List (List Stamp)) (news : List PartPin) where
  -- without pages nothing is published
  pub none_published : ArePageLists (length pins) news → count_pages news ≡ 0 → published pins news ≡ pins
  none_published sized none = same_items (published pins news) pins (length-published pins news) (λ p. published_elsewhere pins news p (no_pin p (pin_at news p) refl))
    where
      no_pin : (p : ℕ) (o : Option (List Stamp)) → pin_at news p ≡ o → pin_at news p ≡ None
      no_pin p None is = is
      no_pin p (Some pages) is = absurd (omega (arith, count_pin news p pages is, none, (sized p pages is).1))

  -- the new pins of so many parts stand in their places
  pub record ArePut (n : ℕ) (now : List (List Stamp)) : Type 0 where
    pub each : length now ≡ length pins
    pub put : (p : ℕ) → p < n → slice_get now p ≡ slice_get (published pins news) p
    pub kept : (p : ℕ) → n ≤ p → slice_get now p ≡ slice_get pins p

  pub none_put : ArePut 0 pins
  none_put = record { each = refl; put = λ p less. absurd (omega (arith, less)); kept = λ p more. refl }

  put_by : (n : ℕ) (now : List (List Stamp)) (o : Option (List Stamp)) → pin_at news n ≡ o → n < length pins → ArePut n now → ArePut (n + 1) (with_pin now n o)
  put_by n now None is within are = record {
    each = are.each;
    put = λ p less. elim (cases_lt p n) [
      | inl before ↦ are.put p before
      | inr last ↦ are.kept p last ∙ sym (published_elsewhere pins news p (subst (λ q. pin_at news q ≡ None) (here p less last) is))
    ];
    kept = λ p more. are.kept p (omega (arith, more));
  }
    where
      here : (p : ℕ) → p < n + 1 → n ≤ p → n ≡ p
      here p less last = omega (arith, less, last)
  put_by n now (Some pages) is within are = record {
    each = length-set now n pages ∙ are.each;
    put = λ p less. elim (cases_lt p n) [
      | inl before ↦ set_other now n p pages (λ same. absurd (omega (arith, same, before))) ∙ are.put p before
      | inr last ↦ subst (λ q. slice_get (slice_set now n pages) q ≡ slice_get (published pins news) q) (here p less last)
          (set_same now n pages (omega (arith, within, are.each)) ∙ sym (published_there pins news n pages is within))
    ];
    kept = λ p more. set_other now n p pages (λ same. absurd (omega (arith, same, more))) ∙ are.kept p (omega (arith, more));
  }
    where
      here : (p : ℕ) → p < n + 1 → n ≤ p → n ≡ p
      here p less last = omega (arith, less, last)

  -- that of one part more
  pub one_put : (n : ℕ) (now : List (List Stamp)) → n < length pins → ArePut n now → ArePut (n + 1) (with_pin now n (pin_at news n))
  one_put n now within are = put_by n now (pin_at news n) refl within are

  -- those of all parts
  pub all_put : (n : ℕ) (now : List (List Stamp)) → length pins ≤ n → ArePut n now → now ≡ published pins news
  all_put n now all are = same_items now (published pins news) (are.each ∙ sym (length-published pins news)) (λ p. elim (cases_lt p n) [
    | inl before ↦ are.put p before
    | inr behind ↦ past p behind
  ])
    where
      past : (p : ℕ) → n ≤ p → slice_get now p ≡ slice_get (published pins news) p
      past p behind = slice_get_past now p (omega (arith, behind, all, are.each)) ∙ sym (slice_get_past (published pins news) p (omega (arith, behind, all, length-published pins news)))

-- where new pins are these, or there are none
pub published_if : (pins now : List (List Stamp)) (all : List PartPin) (news : Option (Bor (List PartPin))) → IfSome news (λ n. n.now ≡ all) → IfNone news (all ≡ [])
    → IfSome news (λ n. now ≡ published pins n.now) → IfNone news (now ≡ pins) → now ≡ published pins all
published_if pins now all None are none put same = same ∙ ap (published pins) (sym none)
published_if pins now all (Some n) are none put same = put ∙ ap (published pins) are

-- what holds of all new pins holds of those that are handed in
pub sized_if : (parts : ℕ) (all : List PartPin) (news : Option (Bor (List PartPin))) → IfSome news (λ n. n.now ≡ all) → ArePageLists parts all → IfSome news (λ n. ArePageLists parts n.now)
sized_if parts all None are sized = tt
sized_if parts all (Some n) are sized = subst (ArePageLists parts) (sym are) sized
