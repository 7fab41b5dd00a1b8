-- What stands at an end.
use Rattle.std.proofs.Common.{◌≡◌, ℕ, ◌<◌, ◌≤◌, ◌+◌, List, [], ◌∷◌, ◌++◌, refl, sym, ◌∙◌, ap, subst, length, arith}
use Rattle.std.proofs.lemmas.Bool.{eqb-false}
use Rattle.std.specs.Prelude.{Bool, true, false, Option, if◌then◌else◌, ◌==◌, IfSome}
use Rattle.std.proofs.lemmas.List.{append-nil}
use Rattle.keep_loop.specs.Texts.{text_at}
use Rattle.keep_loop.specs.Turns.{Turn, Runs, heard_of, notes_by, added_by}
use Rattle.keep_loop.specs.Seen.{Happened, Grows, Always, ended_in, came_from, added_in, stored_in, kept_in}
use Rattle.keep_loop.specs.Seen.Happened.{Stored}
use Rattle.keep_loop.specs.Cuts.{IsCut}
use Rattle.keep_loop.specs.Epochs.{Rules}
use Rattle.keep_loop.specs.Stands.{Stands, Rests, IsHonest, HasEnded, Honest, Good, Rested, Ended, Ends, EndsRested, Settles, Fails, FailsRested}
use Rattle.keep_loop.specs.declared.keep.Keep.{Keep}
use Rattle.keep_loop.specs.declared.keep.LoopLimits.{LoopLimits}
use Rattle.keep_loop.proofs.Epochs.{nothing_more}
use Rattle.keep_loop.proofs.Grown.{grown, same}
use Rattle.keep_loop.proofs.Honest.{honest, honest_none}
use Rattle.keep_loop.proofs.Stood.{rests_synced}

-- these journals, the first ones, are stored to their ends
abbrev pub AreStored : ℕ → List Happened → Type 0
AreStored n seen = (j : ℕ) → j < n → stored_in j seen ≡ added_in j seen

-- where all lines are kept, it is so, and the first journals are stored
abbrev pub StoresFirst : {S : Type 0} → Rules S → ℕ → Option (List Happened) → Option (List Happened) → Keep S → Type 0
StoresFirst {S} rules n before after keep = (first : S) (limits : LoopLimits) → Rested rules first limits before keep
    → IfSome after (λ s. Rests rules.gives first limits s keep × Always (IsHonest rules first limits) s × AreStored n s)

stored_one : (b : Bool) (journal j n : ℕ) (seen : List Happened) → (journal == j) ≡ b → j < n + 1 → journal ≡ n → AreStored n seen →
    (if b then added_in j seen else stored_in j seen) ≡ added_in j seen
stored_one true journal j n seen it is at are = refl
stored_one false journal j n seen it is at are = are j (let apart = eqb-false journal j it in omega (arith, is, at, apart))

module _ {S : Type 0} (rules : Rules S) where
  pub stores_none : (before : Option (List Happened)) (keep : Keep S) → StoresFirst rules 0 before before keep
  stores_none before keep first limits =
      same before before refl (λ s. Rests rules.gives first limits s keep × Always (IsHonest rules first limits) s)
      (λ s. Rests rules.gives first limits s keep × Always (IsHonest rules first limits) s × AreStored 0 s)
      (λ seen p. (p.0, p.1, λ j is. absurd (omega (arith, is))))

  pub stores_one : (n : ℕ) (before mid after : Option (List Happened)) (keep : Keep S) → keep.limits.waits ≡ false → Grows (Stored n) mid after →
      StoresFirst rules n before mid keep → StoresFirst rules (n + 1) before after keep
  stores_one n before mid after keep waits is stores first limits rested =
      grown (Stored n) mid after is
      (λ s. Rests rules.gives first limits s keep × Always (IsHonest rules first limits) s × AreStored n s)
      (λ s. Rests rules.gives first limits s keep × Always (IsHonest rules first limits) s × AreStored (n + 1) s)
      (λ seen p. (let now = rests_synced rules.gives first limits seen keep n (sym (ap (λ l. l.waits) p.0.stands.limited) ∙ waits) p.0 in (
        now,
        (honest rules first limits (Stored n ∷ seen) keep now.stands, p.1),
        λ j below. stored_one (n == j) n j n seen refl below refl p.2,
      )))
      (stores first limits rested)

  pub fails_stores : (n : ℕ) (before mid after : Option (List Happened)) (keep : Keep S) → StoresFirst rules n before mid keep →
      FailsRested rules mid keep after → FailsRested rules before keep after
  fails_stores n before mid after keep stores fails first limits rested =
      fails first limits (same mid mid refl (λ s. Rests rules.gives first limits s keep × Always (IsHonest rules first limits) s × AreStored n s)
      (λ s. Rests rules.gives first limits s keep × Always (IsHonest rules first limits) s) (λ seen p. (p.0, p.1)) (stores first limits rested))

  module _ (first : S) (limits : LoopLimits) where
    ended : (seen : List Happened) (keep : Keep S) → AreStored limits.journals seen → Rests rules.gives first limits seen keep → HasEnded rules.gives first limits seen keep.object
    ended seen keep are r =
        let s = r.stands in
        let all : List Turn = s.kept_turns ++ s.later in
        let only : all ≡ s.kept_turns = ap (λ ts. s.kept_turns ++ ts) r.none ∙ append-nil s.kept_turns in
        record {
          turns = s.kept_turns;
          runs = subst (λ ts. Runs rules.gives first ts keep.object) only s.runs;
          heard = λ c. subst (λ ts. IsCut (ended_in c seen) (came_from c seen) (heard_of c ts)) only (s.heeds.heard c);
          noted = s.heeds.noted ∙ ap notes_by only;
          written = s.owes.begun;
          added = λ j is. handed j is only;
          stored = λ j is. are j is ∙ handed j is only;
        }
      where
        handed : (j : ℕ) → j < limits.journals → r.stands.kept_turns ++ r.stands.later ≡ r.stands.kept_turns → added_in j seen ≡ added_by j r.stands.kept_turns
        handed j is only =
            let s = r.stands in
            let begun = s.owes.begun_kept j is in
            let kept_is : added_in j seen ≡ added_by j s.kept_turns ++ begun.0 = sym (s.owes.even j is) ∙ begun.1 in
            kept_is ∙ nothing_more (added_by j s.kept_turns) begun.0 (text_at keep.post.lines.items j)
            (ap (λ (l : List ℕ). l ++ text_at keep.post.lines.items j) (sym kept_is) ∙ s.owes.lines j is ∙ ap (added_by j) only)

    -- where answers wait for it, what is kept is stored
    stored_waiting : (seen : List Happened) (keep : Keep S) → limits.waits ≡ true → Rests rules.gives first limits seen keep → AreStored limits.journals seen
    stored_waiting seen keep waits r j is = sym (ap (λ w. kept_in w j seen) waits) ∙ r.stands.owes.even j is

  -- all are stored
  pub ends_stored : (n : ℕ) (before after : Option (List Happened)) (keep : Keep S) → length keep.post.lines.items ≤ n → StoresFirst rules n before after keep →
      EndsRested rules before keep after keep.object
  ends_stored n before after keep all stores first limits rested =
      same after after refl
      (λ s. Rests rules.gives first limits s keep × Always (IsHonest rules first limits) s × AreStored n s)
      (λ s. HasEnded rules.gives first limits s keep.object × Always (IsHonest rules first limits) s)
      (λ seen p. (
        ended first limits seen keep (λ j is. p.2 j (let below = subst (λ m. j < m) (sym p.0.stands.owes.journals) is in omega (arith, below, all))) p.0,
        p.1,
      ))
      (stores first limits rested)

  -- none is to be stored
  pub ends_waiting : (before after : Option (List Happened)) (keep : Keep S) → keep.limits.waits ≡ true → after ≡ before → EndsRested rules before keep after keep.object
  ends_waiting before after keep waits is first limits =
      same before after is (λ s. Rests rules.gives first limits s keep × Always (IsHonest rules first limits) s)
      (λ s. HasEnded rules.gives first limits s keep.object × Always (IsHonest rules first limits) s)
      (λ seen p. (ended first limits seen keep (stored_waiting first limits seen keep (sym (ap (λ l. l.waits) p.0.stands.limited) ∙ waits) p.0) p.0, p.1))

  pub ends_then : (a b c : Option (List Happened)) (one two : Keep S) (last : S) → Settles rules a one b two → EndsRested rules b two c last → Ends rules a one c last
  ends_then a b c one two last settles ends first limits good = ends first limits (settles first limits good)

  pub fails_settled : (a b c : Option (List Happened)) (one two : Keep S) → Settles rules a one b two → FailsRested rules b two c → Fails rules a one c
  fails_settled a b c one two settles fails first limits good = fails first limits (settles first limits good)

  module _ (first : S) (limits : LoopLimits) where
    -- nothing was seen yet
    pub honest_first : (seen : Option (List Happened)) → IfSome seen (λ s. s ≡ []) → Honest rules first limits seen
    honest_first seen none =
        same seen seen refl (λ s. s ≡ []) (λ s. Always (IsHonest rules first limits) s)
        (λ s is. subst (λ t. Always (IsHonest rules first limits) t) (sym is) (honest_none rules first limits)) none

    pub good_first : (seen : Option (List Happened)) (keep : Keep S) → IfSome seen (λ s. s ≡ []) → Stands rules.gives first limits [] keep → Good rules first limits seen keep
    good_first seen keep none stands =
        same seen seen refl (λ s. s ≡ []) (λ s. Stands rules.gives first limits s keep × Always (IsHonest rules first limits) s)
        (λ s is. (
          subst (λ t. Stands rules.gives first limits t keep) (sym is) stands,
          subst (λ t. Always (IsHonest rules first limits) t) (sym is) (honest_none rules first limits),
        )) none

    pub honest_of_ended : (seen : Option (List Happened)) (last : S) → Ended rules first limits seen last → Honest rules first limits seen
    honest_of_ended seen last =
        same seen seen refl (λ s. HasEnded rules.gives first limits s last × Always (IsHonest rules first limits) s) (λ s. Always (IsHonest rules first limits) s) (λ s p. p.1)

    pub ended_of : (seen : Option (List Happened)) (last result : S) → result ≡ last → Ended rules first limits seen last →
        IfSome seen (λ s. HasEnded rules.gives first limits s result)
    ended_of seen last result is =
        same seen seen refl (λ s. HasEnded rules.gives first limits s last × Always (IsHonest rules first limits) s) (λ s. HasEnded rules.gives first limits s result)
        (λ s p. subst (λ o. HasEnded rules.gives first limits s o) (sym is) p.0)
