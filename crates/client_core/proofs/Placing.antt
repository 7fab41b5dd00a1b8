-- What is held of the object at a place.
use Rattle.std.proofs.Common.{◌≡◌, ◌∙◌, ap, sym, subst, refl, ℕ, zero, suc, ◌<◌, List, [], ◌∷◌, ◌++◌, length, map}
use Rattle.decl_core.specs.ObjectForm.{ObjectForm}
use Rattle.std.specs.declared.alloc.AllocError.{AllocError}
use Rattle.std.specs.Prelude.{Bool, false, Option, Some, None, Result, Ok, Err, IfOk, IfSome, MatchOption, slice_get, slice_set, slice_index_or}
use Rattle.std.proofs.lemmas.Option.{same_Some, slice_get-get_or}
use Rattle.live_core.specs.Scene.{Scene}
use Rattle.live_core.specs.declared.call.Ran.{Ran}
use Rattle.decl_core.specs.HoldForm.{HoldForm, RulesForm}
use Rattle.front_read.specs.HeldLines.{held_text}
use Rattle.guest_core.specs.Held.{HeldCall}
use Rattle.client_core.specs.declared.holding.OwedCall.{OwedCall}
use Rattle.client_core.specs.Holding.{Holding, IsDueOf, NothingIsDueOf}
use Rattle.client_core.specs.Custody.{Custody, Custodies, FollowsIn, HeldBehindAll, HasSome, HasNone, IsFreeOf, IsOwed, held_lines}
use Rattle.client_core.specs.Custody.IsOwed.{gives_back}
use Rattle.client_core.specs.Views.{custody_of}

-- the one at a place
pub at_place : (rows : List Holding) (at : ℕ) (h : Holding) → at < length rows → h ≡ slice_index_or rows at h → slice_get rows at ≡ Some h
at_place rows at h within is = slice_get-get_or rows at h within ∙ ap Some (sym is)

pub some_at : (rows : List Holding) (at : ℕ) (h : Holding) → slice_get rows at ≡ Some h → slice_get (map custody_of rows) at ≡ Some (custody_of h)
some_at [] at h is = absurd cc
some_at (r ∷ rows) zero h is = ap (λ (x : Holding). Some (custody_of x)) (same_Some r h is)
some_at (r ∷ rows) (suc at) h is = some_at rows at h is

pub none_at : (rows : List Holding) (at : ℕ) → slice_get rows at ≡ None → slice_get (map custody_of rows) at ≡ None
none_at [] at is = refl
none_at (r ∷ rows) zero is = absurd cc
none_at (r ∷ rows) (suc at) is = none_at rows at is

pub set_at : (rows : List Holding) (at : ℕ) (new : Holding) → map custody_of (slice_set rows at new) ≡ slice_set (map custody_of rows) at (custody_of new)
set_at [] at new = refl
set_at (r ∷ rows) zero new = refl
set_at (r ∷ rows) (suc at) new = ap (λ (l : Custodies). custody_of r ∷ l) (set_at rows at new)

-- what is held stays
pub same_at : (rows : List Holding) (at : ℕ) (old new : Holding) → slice_get rows at ≡ Some old → custody_of new ≡ custody_of old →
    map custody_of (slice_set rows at new) ≡ map custody_of rows
same_at [] at old new there same = refl
same_at (r ∷ rows) zero old new there same =
    ap (λ (c : Custody). c ∷ map custody_of rows) (same ∙ ap custody_of (sym (same_Some r old there)))
same_at (r ∷ rows) (suc at) old new there same = ap (λ (l : Custodies). custody_of r ∷ l) (same_at rows at old new there same)

abbrev made : RulesForm → List HeldCall → Custody
made rules held = record { rules = rules; held = held }

-- what is held follows
pub followed : (rows : List Holding) (at : ℕ) (old new : Holding) (object : Scene) (ran : List Ran) → slice_get rows at ≡ Some old →
    new.rules ≡ old.rules → HeldBehindAll old.rules.holds object ran old.held new.held →
    FollowsIn (slice_get (map custody_of rows) at) at object ran (map custody_of rows) (map custody_of (slice_set rows at new))
followed rows at old new object ran there rules behind =
    subst (λ (f : Option Custody). FollowsIn f at object ran (map custody_of rows) (map custody_of (slice_set rows at new)))
    (sym (some_at rows at old there))
    (new.held, behind, set_at rows at new ∙ ap (λ (r : RulesForm). slice_set (map custody_of rows) at (made r new.held)) rules)

pub not_followed : (rows : List Holding) (at : ℕ) (object : Scene) (ran : List Ran) → slice_get rows at ≡ None →
    FollowsIn (slice_get (map custody_of rows) at) at object ran (map custody_of rows) (map custody_of rows)
not_followed rows at object ran none =
    subst (λ (f : Option Custody). FollowsIn f at object ran (map custody_of rows) (map custody_of rows)) (sym (none_at rows at none)) refl

-- one more
pub push_more : (rows : List Holding) (h : Holding) → map custody_of (rows ++ h ∷ []) ≡ map custody_of rows ++ custody_of h ∷ []
push_more [] h = refl
push_more (r ∷ rows) h = ap (λ (l : Custodies). custody_of r ∷ l) (push_more rows h)

-- a session stays, or holds nothing
pub stays_at : (rows : List Holding) (at : ℕ) (h : Holding) (session : ℕ) (is_named : Bool) → slice_get rows at ≡ Some h →
    (is_named ≡ false) × HasSome session h.held →
    (is_named ≡ false) × ((c : Custody) × (slice_get (map custody_of rows) at ≡ Some c) × HasSome session c.held)
stays_at rows at h session is_named there (bare, some) = (bare, (custody_of h, some_at rows at h there, some))

pub free_at : (rows : List Holding) (at : ℕ) (h : Holding) (session : ℕ) (is_named : Bool) → slice_get rows at ≡ Some h →
    (is_named ≡ false → HasNone session h.held) → IsFreeOf (slice_get (map custody_of rows) at) is_named session
free_at rows at h session is_named there free =
    subst (λ (f : Option Custody). IsFreeOf f is_named session) (sym (some_at rows at h there)) free

-- what is to be called for a session
pub undone : (r : Result (Option OwedCall) AllocError) (custody : Custodies) (at : ℕ) (h : Holding) (o : ObjectForm) (session : ℕ) →
    slice_get custody at ≡ Some (custody_of h) →
    IfOk r (λ found. MatchOption found (NothingIsDueOf o h session) (λ u. IsDueOf o h session u.operation u.arguments.items)) →
    IfOk r (λ found. IfSome found (λ u. (c : Custody) × (slice_get custody at ≡ Some c) × IsOwed o c session u.operation u.arguments.items))
undone (Ok None) custody at h o session there is = tt
undone (Ok (Some u)) custody at h o session there is = (custody_of h, there, gives_back is.place is.call is.newest is.undo)
undone (Err e) custody at h o session there is = tt

-- the lines of what is held
pub lines_are : (o form : ObjectForm) (kept : List HoldForm) (held : List HeldCall) (h : Holding) (custody : Custodies) (at : ℕ) → form ≡ o → kept ≡ h.rules.holds →
    held ≡ h.held → slice_get custody at ≡ Some (custody_of h) → held_text form kept held ≡ held_lines o (slice_get custody at)
lines_are o form kept held h custody at one two three there =
    ap (λ (f : ObjectForm). held_text f kept held) one ∙ ap (λ (l : List HoldForm). held_text o l held) two
    ∙ ap (λ (l : List HeldCall). held_text o h.rules.holds l) three ∙ sym (ap (λ (c : Option Custody). held_lines o c) there)
