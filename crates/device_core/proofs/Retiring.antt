-- Files that are retired one after another: what holds while some are.
use Rattle.std.proofs.Common.{◌≡◌, ◌≢◌, ℕ, ◌<◌, ◌≤◌, ◌+◌, ◌^◌, List, [], ◌∷◌, ◌++◌, length, Ok, Err, Result, refl, sym, ap, ◌∙◌, subst, arith, inl, inr}
use Rattle.std.specs.Prelude.{All, ◌⊎◌, ◌↔◌, map, take, drop, set, get_or}
use Rattle.std.proofs.lemmas.Bool.{cases_lt}
use Rattle.std.proofs.lemmas.List.{map-append, take_more, drop_more}
use Rattle.std.proofs.lemmas.List.Elements.{All-append, All-cons, All-nil, All-head, All-tail}
use Rattle.device_core.specs.declared.hand.HandFault.{HandFault}
use Rattle.device_core.specs.declared.hand.HandFault.TheVariants.{Device, Memory}
use Rattle.device_core.specs.declared.hand.Stamp.{Stamp}
use Rattle.device_core.specs.Device.{Assignment, Failed, FaultCause, Always}
use Rattle.device_core.specs.Made.{Made, retires}
use Rattle.device_core.specs.Retired.{Left, RetiresAll, none, went, failed, AreSome, nothing, without, with, files_left}

-- what failed later failed since the beginning
failed_since : (first was now : ℕ) → first ≤ was → was ≤ now → Failed was now → Failed first now
failed_since first was now up later (inl rose) = inl (omega (arith, up, rose))
failed_since first was now up later (inr stood) = elim (cases_lt first was) [ inl less ↦ inl (omega (arith, less, later)) | inr same ↦ inr (omega (arith, up, stood, same)) ]

-- what failed so far failed up to now
failed_yet : (first was now : ℕ) → was ≤ now → Failed first was → Failed first now
failed_yet first was now later (inl rose) = inl (omega (arith, rose, later))
failed_yet first was now later (inr stood) = inr stood

cause_since : (first was now : ℕ) (e : HandFault) → first ≤ was → was ≤ now → FaultCause was now e → FaultCause first now e
cause_since first was now Device up later cause = failed_since first was now up later cause
cause_since first was now Memory up later cause = tt

cause_yet : (first was now : ℕ) (e : HandFault) → was ≤ now → FaultCause first was e → FaultCause first now e
cause_yet first was now Device later cause = failed_yet first was now later cause
cause_yet first was now Memory later cause = tt

-- the next file of what is left, and what is behind it
pub next_left : (xs items : List Stamp) (at : ℕ) (x : Stamp) → at < length items → length items ≡ length xs → drop at items ≡ drop at xs → x ≡ get_or items at x → (take (at + 1) xs ≡ take at xs ++ x ∷ []) × (drop (at + 1) items ≡ drop (at + 1) xs)
next_left xs items at x within many rest is =
    let cons : get_or items at x ∷ drop (at + 1) items ≡ get_or xs at x ∷ drop (at + 1) xs = sym (drop_more items at x within) ∙ rest ∙ drop_more xs at x (omega (arith, within, many)) in
    let here : get_or items at x ≡ get_or xs at x = cc in
    let behind : drop (at + 1) items ≡ drop (at + 1) xs = cc in
    (take_more xs at x (omega (arith, within, many)) ∙ ap (λ y. take at xs ++ y ∷ []) (sym (is ∙ here)), behind)

front_of_all : {X : Type 0} (P : X → Type 0) (xs : List X) (x : X) → All P (xs ++ x ∷ []) → All P xs
front_of_all P [] x each = All-nil P
front_of_all P (y ∷ xs) x each = All-cons P y xs (All-head P y (xs ++ x ∷ []) each) (front_of_all P xs x (All-tail P y (xs ++ x ∷ []) each))

last_of_all : {X : Type 0} (P : X → Type 0) (xs : List X) (x : X) → All P (xs ++ x ∷ []) → P x
last_of_all P [] x each = All-head P x [] each
last_of_all P (y ∷ xs) x each = last_of_all P xs x (All-tail P y (xs ++ x ∷ []) each)

module _ {H : Type 0} (makes : H → Made → H → Type 0) (count : H → ℕ) (agree : H → Assignment → Type 0) (pend : H → ℕ → List ℕ → Type 0) (serve : H → Stamp → Type 0) (work : H → ℕ → Type 0) where
  -- the first of these files were retired, so many, and those that are left stand at the front
  pub record Retiring (old : H) (xs : List Stamp) (at : ℕ) (items : List Stamp) (kept : ℕ) (now : H) : Type 0 where
    pub fits : kept ≤ at
    pub many : length items ≡ length xs
    pub left : List Left
    pub made : RetiresAll makes old (take at xs) left now
    pub cause : All (λ x. FaultCause (count old) (count now) x.1) left
    pub given : take kept items ≡ files_left left
    pub some : AreSome (take kept items) (take at xs)
    pub rest : drop at items ≡ drop at xs
    pub agrees : (a : Assignment) → agree now a ↔ agree old a
    pub others : (n : ℕ) (b : List ℕ) → pend old n b → pend now n b
    pub earlier : (n : ℕ) (b : List ℕ) → pend now n b → pend old n b
    pub serves : (s : Stamp) → All (λ x. s.number ≢ x.number) (take at xs) → serve old s → serve now s
    pub works : Always (work old) → Always (work now)
    pub counted : count old ≤ count now

  -- what a retire says of the hand
  pub record Retires (was : H) (stamp : Stamp) (now : H) : Type 0 where
    pub agrees : (a : Assignment) → agree now a ↔ agree was a
    pub others : (n : ℕ) (b : List ℕ) → pend was n b → pend now n b
    pub earlier : (n : ℕ) (b : List ℕ) → pend now n b → pend was n b
    pub serves : (s : Stamp) → s.number ≢ stamp.number → serve was s → serve now s
    pub works : (n : ℕ) → work was (n + 1) → work now n
    pub counted : count was ≤ count now

  pub start : (hand : H) (xs : List Stamp) → Retiring hand xs 0 xs 0 hand
  start hand xs = record {
    fits = omega arith;
    many = refl;
    left = [];
    made = none;
    cause = All-nil _;
    given = refl;
    some = nothing;
    rest = refl;
    agrees = λ a. (λ h. h, λ h. h);
    others = λ n b h. h;
    earlier = λ n b h. h;
    serves = λ s other h. h;
    works = λ h. h;
    counted = omega arith;
  }

  -- one file more is retired
  pub go_on : (old was now : H) (xs items : List Stamp) (at kept : ℕ) (stamp : Stamp) → Retiring old xs at items kept was → Retires was stamp now → take (at + 1) xs ≡ take at xs ++ stamp ∷ [] → drop (at + 1) items ≡ drop (at + 1) xs
      → makes was (retires stamp (Ok tt)) now → Retiring old xs (at + 1) items kept now
  go_on old was now xs items at kept stamp so step taken behind made = record {
    fits = omega (arith, so.fits);
    many = so.many;
    left = so.left;
    made = subst (λ t. RetiresAll makes old t so.left now) (sym taken) (went (take at xs) so.left was now stamp so.made made);
    cause = λ k d inside. cause_yet (count old) (count was) (count now) _ step.counted (so.cause k d inside);
    given = so.given;
    some = subst (λ t. AreSome (take kept items) t) (sym taken) (without (take kept items) (take at xs) stamp so.some);
    rest = behind;
    agrees = λ a. (λ h. (so.agrees a).0 ((step.agrees a).0 h), λ h. (step.agrees a).1 ((so.agrees a).1 h));
    others = λ n b h. step.others n b (so.others n b h);
    earlier = λ n b h. so.earlier n b (step.earlier n b h);
    serves = λ s other h.
        let all : All (λ x. s.number ≢ x.number) (take at xs ++ stamp ∷ []) = subst (All (λ x. s.number ≢ x.number)) taken other in
        step.serves s (last_of_all (λ (x : Stamp). s.number ≢ x.number) (take at xs) stamp all) (so.serves s (front_of_all (λ (x : Stamp). s.number ≢ x.number) (take at xs) stamp all) h);
    works = λ always n. step.works n (so.works always (n + 1));
    counted = omega (arith, so.counted, step.counted);
  }

  -- one file more is left
  pub leave : (old was now : H) (xs items more : List Stamp) (at kept : ℕ) (stamp : Stamp) (fault : HandFault) → Retiring old xs at items kept was → Retires was stamp now → take (at + 1) xs ≡ take at xs ++ stamp ∷ []
      → take (kept + 1) more ≡ take kept items ++ stamp ∷ [] → length more ≡ length items → drop (at + 1) more ≡ drop (at + 1) xs
      → makes was (retires stamp (Err fault)) now → FaultCause (count was) (count now) fault → Retiring old xs (at + 1) more (kept + 1) now
  leave old was now xs items more at kept stamp fault so step taken put many behind made cause = record {
    fits = omega (arith, so.fits);
    many = many ∙ so.many;
    left = so.left ++ (stamp, fault) ∷ [];
    made = subst (λ t. RetiresAll makes old t (so.left ++ (stamp, fault) ∷ []) now) (sym taken) (failed (take at xs) so.left was now stamp fault so.made made);
    cause = All-append (λ (x : Left). FaultCause (count old) (count now) x.1) so.left ((stamp, fault) ∷ []) (λ k d inside. cause_yet (count old) (count was) (count now) _ step.counted (so.cause k d inside))
        (All-cons (λ (x : Left). FaultCause (count old) (count now) x.1) (stamp, fault) [] (cause_since (count old) (count was) (count now) fault so.counted step.counted cause) (All-nil (λ (x : Left). FaultCause (count old) (count now) x.1)));
    given = put ∙ ap (λ t. t ++ stamp ∷ []) so.given ∙ sym (map-append (λ (x : Left). x.0) so.left ((stamp, fault) ∷ []));
    some = subst (λ t. AreSome t (take (at + 1) xs)) (sym put) (subst (λ t. AreSome (take kept items ++ stamp ∷ []) t) (sym taken) (with (take kept items) (take at xs) stamp so.some));
    rest = behind;
    agrees = λ a. (λ h. (so.agrees a).0 ((step.agrees a).0 h), λ h. (step.agrees a).1 ((so.agrees a).1 h));
    others = λ n b h. step.others n b (so.others n b h);
    earlier = λ n b h. so.earlier n b (step.earlier n b h);
    serves = λ s other h.
        let all : All (λ x. s.number ≢ x.number) (take at xs ++ stamp ∷ []) = subst (All (λ x. s.number ≢ x.number)) taken other in
        step.serves s (last_of_all (λ (x : Stamp). s.number ≢ x.number) (take at xs) stamp all) (so.serves s (front_of_all (λ (x : Stamp). s.number ≢ x.number) (take at xs) stamp all) h);
    works = λ always n. step.works n (so.works always (n + 1));
    counted = omega (arith, so.counted, step.counted);
  }
