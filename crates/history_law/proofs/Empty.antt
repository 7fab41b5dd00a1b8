-- A journal that has just begun anew, behind whose front nothing stands.
use Rattle.std.proofs.Common.{◌≡◌, inl, inr, ◌∙◌, ap, sym, subst, refl, ℕ, List, [], ◌∷◌, ◌++◌}
use Rattle.std.specs.Prelude.{Bool, if◌then◌else◌, Some}
use Rattle.std.proofs.lemmas.Bool.{eq-eqb}
use Rattle.decl_core.specs.ObjectForm.{ObjectForm}
use Rattle.audit_core.specs.Sound.{IsCut, IsPlayed}
use Rattle.audit_core.specs.Steps.{Begun, Heard, nothing_heard}
use Rattle.audit_core.specs.EpochTells.{Tell}
use Rattle.recover_core.specs.Lines.{joined}
use Rattle.keep_loop.specs.Epochs.{front_in, since_in}
use Rattle.keep_loop.specs.Seen.{Happened}
use Rattle.keep_loop.specs.Seen.Happened.{Changed}

-- what stands among others
pub not_within : {X : Type 0} (before : List X) (x : X) (after : List X) → before ++ x ∷ after ≡ [] → ⊥
not_within [] x after is = cc
not_within (y ∷ before) x after is = cc

pub no_bytes : (a b : List ℕ) → [] ≡ a ++ b → a ≡ []
no_bytes [] b is = refl
no_bytes (x ∷ a) b is = absurd cc

pub no_lines : (lines : List (List ℕ)) (rest : List ℕ) → [] ≡ joined lines ++ rest → lines ≡ []
no_lines [] rest is = refl
no_lines (l ∷ lines) rest is =
    let whole = no_bytes (joined (l ∷ lines)) rest is in
    absurd (not_within l 10 [] (no_bytes (l ++ 10 ∷ []) (joined lines) (sym whole)))

-- of no lines nothing is played
pub nothing_played : (o : ObjectForm) (e : Begun) (lines : List (List ℕ)) (heard : Heard) → lines ≡ [] → IsPlayed o e lines heard → heard.steps ≡ []
nothing_played o e lines heard none p = ap (λ (h : Heard). h.steps) (by p.cut)
  where
    by : IsCut lines p.kept → heard ≡ nothing_heard
    by (inl same) = subst (λ ls. Tell o e nothing_heard ls heard) (sym same ∙ none) p.told
    by (inr (line, asked, says, is)) = absurd (not_within p.kept line [] (sym is ∙ none))

-- the front of the journal that has begun anew, and what it was handed since
pub front_change : (j : ℕ) (front : List ℕ) (before : List Happened) → front_in j (Changed j front ∷ before) ≡ Some front
front_change j front before = ap (λ (b : Bool). if b then Some front else front_in j before) (eq-eqb j j refl)

pub since_change : (j : ℕ) (front : List ℕ) (before : List Happened) → since_in j (Changed j front ∷ before) ≡ []
since_change j front before = ap (λ (b : Bool). if b then [] else since_in j before) (eq-eqb j j refl)
