-- The newest that a session holds, behind the ends of calls of others.
use Rattle.std.proofs.Common.{◌≡◌, ◌≢◌, ◌⊎◌, inl, inr, ◌∙◌, ap, sym, subst, refl, arith, ℕ, zero, suc, ◌+◌, List, [], ◌∷◌, ◌++◌}
use Rattle.std.specs.Prelude.{false, Option, Some, None, All, slice_get, take, drop}
use Rattle.std.proofs.lemmas.List.Elements.{All-append, All-take, All-drop, All-nil, All-cons}
use Rattle.std.proofs.lemmas.Option.{same_Some}
use Rattle.apply_core.specs.declared.reply.Reply.{Reply}
use Rattle.apply_core.specs.declared.reply.Reply.TheVariants.{Done, Refused, Failed}
use Rattle.word_core.specs.Events.{Called}
use Rattle.decl_core.specs.HoldForm.{HoldForm}
use Rattle.guest_core.specs.Held.{HeldCall, Fits, NoneOwn, NoneFits, GivesOne, GivesBy, MayUndo, MayUndoBy, begun_by, begun, ended_so, hold_ended, hold_of_op, is_loose}
use Rattle.guest_core.specs.declared.hold_ends.HoldEnds.TheVariants.{ByDone}
use Rattle.guest_core.proofs.Given.{may_so}
use Rattle.guest_core.proofs.Newest.{undo_gives_newest}
use Rattle.history_law.specs.Newest.{DueStays, DueGivesNewest}
use Rattle.history_law.proofs.TurnKeeping.{at_place, every_here}

-- held calls of others
abbrev Others : ℕ → List HeldCall → Type 0
Others session held = All (λ (h : HeldCall). h.session ≢ session) held

-- what is taken out is another one
newest_without : (session : ℕ) (held : List HeldCall) (place k n : ℕ) (h : HeldCall) → n ≡ k + 1 → (place ≡ k → ⊥) → slice_get held place ≡ Some h → Others session (drop (place + 1) held) →
    (p : ℕ) × (slice_get (take k held ++ drop n held) p ≡ Some h) × Others session (drop (p + 1) (take k held ++ drop n held))
newest_without session [] place k n h same ne there rest = absurd (grind (arith, there))
newest_without session (x ∷ held) zero zero n h same ne there rest = absurd (ne refl)
newest_without session (x ∷ held) zero (suc k) n h same ne there rest =
    let more : n ≡ suc (k + 1) = omega (arith, same) in
    let tail : Others session (take k held ++ drop n (x ∷ held)) =
    subst (λ m. Others session (take k held ++ drop m (x ∷ held))) (sym more)
    (All-append (λ (y : HeldCall). y.session ≢ session) (take k held) (drop (k + 1) held) (All-take (λ (y : HeldCall). y.session ≢ session) k held rest)
    (All-drop (λ (y : HeldCall). y.session ≢ session) (k + 1) held rest)) in
    (zero, there, tail)
newest_without session (x ∷ held) (suc place) zero n h same ne there rest =
    let one : n ≡ 1 = omega (arith, same) in
    let more : suc place + 1 ≡ suc (place + 1) = omega arith in
    let tail : Others session (drop (place + 1) held) = subst (λ m. Others session (drop m (x ∷ held))) more rest in (
      place,
      subst (λ m. slice_get (drop m (x ∷ held)) place ≡ Some h) (sym one) there,
      subst (λ m. Others session (drop (place + 1) (drop m (x ∷ held)))) (sym one) tail,
    )
newest_without session (x ∷ held) (suc place) (suc k) n h same ne there rest =
    let more : suc place + 1 ≡ suc (place + 1) = omega arith in
    let last : n ≡ suc (k + 1) = omega (arith, same) in
    let tail : Others session (drop (place + 1) held) = subst (λ m. Others session (drop m (x ∷ held))) more rest in
    let on = newest_without session held place k (k + 1) h refl (λ e. ne (ap suc e)) there tail in
    let next : suc on.0 + 1 ≡ suc (on.0 + 1) = omega arith in
    let so : Others session (drop (suc on.0 + 1) (x ∷ (take k held ++ drop (k + 1) held))) =
    subst (λ m. Others session (drop m (x ∷ (take k held ++ drop (k + 1) held)))) (sym next) on.2 in (
      suc on.0,
      subst (λ m. slice_get (x ∷ (take k held ++ drop m (x ∷ held))) (suc on.0) ≡ Some h) (sym last) on.1,
      subst (λ m. Others session (drop (suc on.0 + 1) (x ∷ (take k held ++ drop m (x ∷ held))))) (sym last) so,
    )

-- others come behind
newest_front : (session : ℕ) (held more : List HeldCall) (place : ℕ) (h : HeldCall) → slice_get held place ≡ Some h → Others session (drop (place + 1) held) → Others session more →
    (slice_get (held ++ more) place ≡ Some h) × Others session (drop (place + 1) (held ++ more))
newest_front session [] more place h there rest other = absurd (grind (arith, there))
newest_front session (x ∷ held) more zero h there rest other = (there, All-append (λ (y : HeldCall). y.session ≢ session) held more rest other)
newest_front session (x ∷ held) more (suc place) h there rest other =
    let next : suc place + 1 ≡ suc (place + 1) = omega arith in
    let on = newest_front session held more place h there (subst (λ m. Others session (drop m (x ∷ held))) next rest) other in
    (on.0, subst (λ m. Others session (drop m (x ∷ (held ++ more)))) (sym next) on.1)

begun_others : (e : Option ℕ) (d : Called) (reply : Reply) (session : ℕ) → session ≢ d.session → Others session (begun_by e d reply)
begun_others None d reply session other = All-nil (λ (y : HeldCall). y.session ≢ session)
begun_others (Some r) d (Done x) session other = All-cons (λ (y : HeldCall). y.session ≢ session) _ [] (λ same. other (sym same)) (All-nil (λ (y : HeldCall). y.session ≢ session))
begun_others (Some r) d (Refused word) session other = All-nil (λ (y : HeldCall). y.session ≢ session)
begun_others (Some r) d (Failed failure) session other = All-nil (λ (y : HeldCall). y.session ≢ session)

-- the newest of another session that not everybody may give back stays
left_newest : (holds : List HoldForm) (e : Option ℕ) (d : Called) (held left : List HeldCall) (session place : ℕ) (h : HeldCall) → MayUndoBy holds e d.session d.arguments held → GivesBy e d held left →
    session ≢ d.session → is_loose holds h.rule ≡ false → h.session ≡ session → slice_get held place ≡ Some h → Others session (drop (place + 1) held) →
    (p : ℕ) × (slice_get left p ≡ Some h) × Others session (drop (p + 1) left)
left_newest holds None d held left session place h may same other strict own there rest = (
  place,
  ap (λ (l : List HeldCall). slice_get l place) same ∙ there,
  subst (λ (l : List HeldCall). Others session (drop (place + 1) l)) (sym same) rest,
)
left_newest holds (Some q) d held left session place h may (inr same) other strict own there rest = (
  place,
  ap (λ (l : List HeldCall). slice_get l place) same.1 ∙ there,
  subst (λ (l : List HeldCall). Others session (drop (place + 1) l)) (sym same.1) rest,
)
left_newest holds (Some q) d held left session place h may (inl x) other strict own there rest =
    let at = newest_without session held place x.0 (x.0 + 1) h refl not_ended there rest in (
      at.0,
      ap (λ (l : List HeldCall). slice_get l at.0) x.2 ∙ at.1,
      subst (λ (l : List HeldCall). Others session (drop (at.0 + 1) l)) (sym x.2) at.2,
    )
  where
    not_ended : place ≡ x.0 → ⊥
    not_ended same = by x.1.first
      where
        hold_is : h ≡ x.1.hold
        hold_is = same_Some h x.1.hold (sym there ∙ ap (slice_get held) same ∙ x.1.there)

        rule_is : q ≡ h.rule
        rule_is = sym x.1.fit.rule ∙ ap (λ (y : HeldCall). y.rule) (sym hold_is)

        by : ((x.1.hold.session ≡ d.session) × NoneOwn (Fits q d.arguments) d.session (drop (x.0 + 1) held))
            ⊎ (NoneOwn (Fits q d.arguments) d.session held × NoneFits (Fits q d.arguments) (take x.0 held)) → ⊥
        by (inl mine) = other (sym own ∙ ap (λ (y : HeldCall). y.session) hold_is ∙ mine.0)
        by (inr none) =
            let has = may (ap (is_loose holds) rule_is ∙ strict) in
            at_place (λ y. Fits q d.arguments y → y.session ≢ d.session) held has.place has.hold has.there none.0 has.fit has.own

pub due_stays : DueStays
due_stays o rules front behind c d hold past held left told reply k other due gives =
    let may : MayUndo rules.holds d.session d.operation d.arguments held =
    every_here (λ (x : Called). MayUndo rules.holds x.session x.operation x.arguments held) front behind d k.may in
    let may_end = may_so ByDone rules.holds reply (hold_ended rules.holds d.operation) d.session d.arguments held may in
    let one = left_newest rules.holds (ended_so ByDone reply (hold_ended rules.holds d.operation)) d held left c.session due.place hold may_end gives other due.strict due.newest.own due.newest.there due.newest.newest in
    let more : List HeldCall = begun rules.holds (record d { number = told }) reply in
    let all = newest_front c.session left more one.0 hold one.1 one.2 (begun_others (hold_of_op rules.holds d.operation) (record d { number = told }) reply c.session other) in
    record { place = one.0; newest = record { there = all.0; own = due.newest.own; newest = all.1 }; undo = due.undo; strict = due.strict }

pub due_gives_newest : DueGivesNewest
due_gives_newest o rules c (Done d) hold held left apart due gives =
    let ends : hold_ended rules.holds c.operation ≡ Some hold.rule = apart.own hold.rule due.undo.ends.rule 0 c.operation due.undo.ends.held due.undo.ends.first in
    let mine : GivesOne (Fits hold.rule c.arguments) c.session held left = subst (λ (e : Option ℕ). GivesBy e c held left) ends gives in
    undo_gives_newest o rules.holds held left c.session due.place c.operation hold c.arguments due.newest due.undo mine
due_gives_newest o rules c (Refused word) hold held left apart due gives = gives
due_gives_newest o rules c (Failed failure) hold held left apart due gives = gives
