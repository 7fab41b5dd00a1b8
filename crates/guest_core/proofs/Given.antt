-- What was given back and what is held are together what was taken.
use Rattle.std.proofs.Common.{◌≡◌, ◌⊎◌, inl, inr, ℕ, zero, suc, ◌+◌, ◌<◌, ◌≤◌, Bool, true, false, List, [], ◌∷◌, ◌++◌, length, Option, Some, None, refl, sym, ap, subst, ◌∙◌, arith}
use Rattle.std.specs.Prelude.{◌==◌, slice_get, take, drop, get_or}
use Rattle.std.proofs.lemmas.Option.{slice_get_within, get_or_from_slice_get}
use Rattle.std.proofs.lemmas.Bool.Decides.{eqb_tells}
use Rattle.value_core.specs.declared.datum.Datum.{Datum}
use Rattle.apply_core.specs.declared.reply.Reply.{Reply}
use Rattle.apply_core.specs.declared.reply.Reply.TheVariants.{Done, Refused, Failed}
use Rattle.decl_core.specs.HoldForm.{HoldForm}
use Rattle.word_core.specs.Events.{Called, Happened, began, ended}
use Rattle.guest_core.specs.declared.hold_ends.HoldEnds.{HoldEnds}
use Rattle.guest_core.specs.declared.hold_ends.HoldEnds.TheVariants.{ByDone, ByAny}
use Rattle.guest_core.specs.Held.{HeldCall, hold_of_op, hold_ended, ended_so, begun_by, begun, Fits, NoneFits, IsEnded, GivesOne, GivesBy, is_loose, at_first, at_begin, at_end, HoldsOwn, MayUndoBy, KeepsHolds}
use Rattle.guest_core.specs.Laws.{one_by, one_done, taken, given, held_by, EachGivenOnce, NeverMoreGiven, IsNotDone, OnlyDoneEnds}

held_both : (r : ℕ) (xs ys : List HeldCall) → held_by r (xs ++ ys) ≡ held_by r xs + held_by r ys
held_both r [] ys = omega arith
held_both r (x ∷ xs) ys = omega (arith, held_both r xs ys)

-- one less
one_less : (r : ℕ) (held : List HeldCall) (k n : ℕ) (h : HeldCall) → n ≡ k + 1 → slice_get held k ≡ Some h → held_by r (take k held ++ drop n held) + one_by r (Some h.rule) ≡ held_by r held
one_less r [] k n h same e = absurd cc
one_less r (x ∷ held) zero n h same e =
    let one : n ≡ 1 = omega arith in
    let is : x ≡ h = cc in
    let at : one_by r (Some h.rule) ≡ one_by r (Some x.rule) = ap (λ (y : HeldCall). one_by r (Some y.rule)) (sym is) in
    subst (λ m. held_by r (drop m (x ∷ held)) + one_by r (Some h.rule) ≡ one_by r (Some x.rule) + held_by r held) (sym one) (omega (arith, at))
one_less r (x ∷ held) (suc k) n h same e =
    let less : n ≡ suc (k + 1) = omega arith in
    let rest = one_less r held k (k + 1) h refl e in
    rw less (omega (arith, rest))

-- what a call that ends this hold leaves is one less, where its session held what fits
fits_one : (r session : ℕ) (arguments : List Datum) (held left : List HeldCall) → HoldsOwn r session arguments held → GivesOne (Fits r arguments) session held left → held_by r left + 1 ≡ held_by r held
fits_one r session arguments held left own (inl x) =
    let k : ℕ = x.0 in
    let is : IsEnded (Fits r arguments) session held k = x.1 in
    let less = one_less r held k (k + 1) is.hold refl is.there in
    let one : one_by r (Some is.hold.rule) ≡ 1 = ap (λ n. one_by r (Some n)) is.fit.rule ∙ same_one r in
    omega (arith, ap (held_by r) x.2, less, one)
  where
    same_one : (r : ℕ) → one_by r (Some r) ≡ 1
    same_one r = elim (eqb_tells r r) [ inl p ↦ rw p.0 refl | inr p ↦ absurd (p.1 refl) ]
fits_one r session arguments held left own (inr x) =
    absurd (x.0 own.place own.hold (slice_get_within held own.place own.hold own.there) (subst (Fits r arguments) (sym (get_or_from_slice_get held own.place own.hold own.hold own.there)) own.fit))

-- a call that ends another hold leaves as many of this one
other_one : (r s session : ℕ) (arguments : List Datum) (held left : List HeldCall) → one_by r (Some s) ≡ 0 → GivesOne (Fits s arguments) session held left → held_by r left ≡ held_by r held
other_one r s session arguments held left none (inl x) =
    let is : IsEnded (Fits s arguments) session held x.0 = x.1 in
    let less = one_less r held x.0 (x.0 + 1) is.hold refl is.there in
    let zero_one : one_by r (Some is.hold.rule) ≡ 0 = ap (λ n. one_by r (Some n)) is.fit.rule ∙ none in
    omega (arith, ap (held_by r) x.2, less, zero_one)
other_one r s session arguments held left none (inr x) = ap (held_by r) x.1

-- what a call that ends leaves, and what it ended, are what there was
given_one : (holds : List HoldForm) (r : ℕ) (o : Option ℕ) (c : Called) (held left : List HeldCall) → is_loose holds r ≡ false → MayUndoBy holds o c.session c.arguments held → GivesBy o c held left → held_by r left + one_by r o ≡ held_by r held
given_one holds r None c held left strict may gives = omega (arith, ap (held_by r) gives)
given_one holds r (Some s) c held left strict may gives = elim (eqb_tells s r) [
  | inl p ↦ (let one : one_by r (Some s) ≡ 1 = rw p.0 refl in
      let own : HoldsOwn r c.session c.arguments held = subst (λ n. HoldsOwn n c.session c.arguments held) p.1 (may (ap (is_loose holds) p.1 ∙ strict)) in
      let less = fits_one r c.session c.arguments held left own (subst (λ n. GivesOne (Fits n c.arguments) c.session held left) p.1 gives) in
      omega (arith, one, less))
  | inr p ↦ (let none : one_by r (Some s) ≡ 0 = rw p.0 refl in omega (arith, none, other_one r s c.session c.arguments held left none gives))
]

-- who may end what a call of its operation ends may end what it ends so
pub may_so : (ends : HoldEnds) (holds : List HoldForm) (reply : Reply) (found : Option ℕ) (session : ℕ) (arguments : List Datum) (held : List HeldCall) → MayUndoBy holds found session arguments held → MayUndoBy holds (ended_so ends reply found) session arguments held
may_so ByAny holds reply found session arguments held may = may
may_so ByDone holds (Done d) found session arguments held may = may
may_so ByDone holds (Refused word) found session arguments held may = tt
may_so ByDone holds (Failed failure) found session arguments held may = tt

-- what a call holds from its end on
begun_one : (r : ℕ) (o : Option ℕ) (c : Called) (reply : Reply) → held_by r (begun_by o c reply) ≡ one_done r o reply
begun_one r None c (Done d) = refl
begun_one r None c (Refused word) = refl
begun_one r None c (Failed failure) = refl
begun_one r (Some s) c (Done d) = omega arith
begun_one r (Some s) c (Refused word) = refl
begun_one r (Some s) c (Failed failure) = refl

pub each_given_once : EachGivenOnce
each_given_once ends holds past held r strict at_first keeps = refl
each_given_once ends holds past held r strict (at_begin {past = before} is) keeps = each_given_once ends holds before held r strict is keeps
each_given_once ends holds past held r strict (at_end {c = c} {reply = reply} {past = before} was left is gives) keeps =
    let so_far = each_given_once ends holds before was r strict is keeps.0 in
    let may = may_so ends holds reply (hold_ended holds c.operation) c.session c.arguments was (keeps.1 was is) in
    let one = given_one holds r (ended_so ends reply (hold_ended holds c.operation)) c was left strict may gives in
    let more = begun_one r (hold_of_op holds c.operation) c reply in
    omega (arith, so_far, one, more, held_both r left (begun holds c reply))

pub never_more_given : NeverMoreGiven
never_more_given ends holds past held r strict is keeps = omega (arith, each_given_once ends holds past held r strict is keeps)

pub only_done_ends : OnlyDoneEnds
only_done_ends holds c (Done d) held left not_done gives = absurd not_done
only_done_ends holds c (Refused word) held left not_done gives = gives
only_done_ends holds c (Failed failure) held left not_done gives = gives
