-- What a kept server leaves.
use Rattle.std.proofs.Common.{◌≡◌, Bool, true, false, List, ℕ, ◌∷◌, subst, sym, refl}
use Rattle.std.proofs.lemmas.Option.{same_Some}
use Rattle.std.specs.Prelude.{Option, Some, None, IfSome, ⊤}
use Rattle.device_core.specs.Papers.{Papers}
use Rattle.live_core.specs.Scene.{Scene}
use Rattle.keep_loop.specs.Epochs.{Rules}
use Rattle.keep_loop.specs.Seen.{Happened, Grows, GrowsIf, Always}
use Rattle.keep_loop.specs.Seen.Happened.{Changed}
use Rattle.keep_loop.specs.Stands.{HasEnded, IsHonest}
use Rattle.keep_loop.specs.declared.keep.LoopLimits.{LoopLimits}
use Rattle.keep_core.specs.Ending.{ObjectsAreSaved}
use Rattle.keep_loop.specs.Turns.{Gives}
use Rattle.pathserve.specs.Kept.{IsKeptAs, IsKept, WasHonest, Renewed, none, more, AreRenewed}

-- ---- journals that begin anew

-- none has
pub not_renewed : (fronts : ℕ → List ℕ → Type 0) (old : Option (List Happened)) → AreRenewed fronts old old
not_renewed fronts None = tt
not_renewed fronts (Some seen) = (seen, refl, none)

-- one has
pub grown : (fronts : ℕ → List ℕ → Type 0) (journal : ℕ) (front : List ℕ) (old new : Option (List Happened)) → fronts journal front → Grows (Changed journal front) old new → AreRenewed fronts old new
grown fronts journal front old None stands grows = tt
grown fronts journal front old (Some seen) stands grows = (grows.0, grows.1, subst (Renewed fronts grows.0) (sym grows.2) (more stands none))

pub grown_if : (fronts : ℕ → List ℕ → Type 0) (went : Bool) (journal : ℕ) (front : List ℕ) (old new : Option (List Happened)) → fronts journal front → GrowsIf went (Changed journal front) old new → AreRenewed fronts old new
grown_if fronts true journal front old new stands grows = grown fronts journal front old new stands grows
grown_if fronts false journal front old new stands same = subst (AreRenewed fronts old) (sym same) (not_renewed fronts old)

-- some have, and then some more
both : {fronts : ℕ → List ℕ → Type 0} {before seen after : List Happened} → Renewed fronts before seen → Renewed fronts seen after → Renewed fronts before after
both first none = first
both first (more stands rest) = more stands (both first rest)

pub renewed_on : (fronts : ℕ → List ℕ → Type 0) (old mid new : Option (List Happened)) → AreRenewed fronts old mid → AreRenewed fronts mid new → AreRenewed fronts old new
renewed_on fronts old mid None first second = tt
renewed_on fronts old mid (Some after) first second = go mid first second.1
  where
    go : (m : Option (List Happened)) → AreRenewed fronts old m → m ≡ Some second.0 → AreRenewed fronts old (Some after)
    go None f e = absurd (nothing (sym e))
      where
        nothing : Some second.0 ≡ None → ⊥
        nothing e = cc
    go (Some seen) f e = (f.0, f.1, both f.2 (subst (λ s. Renewed fronts s after) (sym (same_Some seen second.0 e)) second.2))

-- what was served, and behind it the journals that began anew
pub kept_to_end : {T : Type 0} (rules : Rules T) (objects_of : T → List Scene) (first last : T) (limits : LoopLimits) (served seen : Option (List Happened)) (before after : Papers → Type 0) →
    IsKeptAs rules.gives objects_of first last limits served before after → AreRenewed (rules.fronts last) served seen → IsKept rules objects_of first limits seen before after
kept_to_end rules objects_of first last limits served seen before after kept renewed = record { last = last; served = served; kept = kept; renewed = renewed }

pub honest_to_end : {T : Type 0} (rules : Rules T) (first last : T) (limits : LoopLimits) (served seen : Option (List Happened)) →
    IfSome served (λ s. Always (IsHonest rules first limits) s) → AreRenewed (rules.fronts last) served seen → WasHonest rules first limits seen
honest_to_end rules first last limits served seen honest renewed = record { last = last; served = served; honest = honest; renewed = renewed }

-- where none began anew
pub honest_at_once : {T : Type 0} (rules : Rules T) (first : T) (limits : LoopLimits) (seen : Option (List Happened)) →
    IfSome seen (λ s. Always (IsHonest rules first limits) s) → WasHonest rules first limits seen
honest_at_once rules first limits seen honest = honest_to_end rules first first limits seen seen honest (not_renewed (rules.fronts first) seen)

-- what the loop handed back, with its objects saved
pub kept_by : {T : Type 0} (gives : Gives T) (objects_of : T → List Scene) (first last : T) (limits : LoopLimits) (seen : Option (List Happened)) (before after : Papers → Type 0) (objects : List Scene) →
    objects ≡ objects_of last → IfSome seen (λ s. HasEnded gives first limits s last) →
    ((papers : Papers) → after papers → (was : Papers) × before was × ObjectsAreSaved objects was papers) → IsKeptAs gives objects_of first last limits seen before after
kept_by gives objects_of first last limits seen before after objects same ended saved = record {
  ended = ended;
  saved = λ papers holds. subst (λ (l : List Scene). (was : Papers) × before was × ObjectsAreSaved l was papers) same (saved papers holds);
}
