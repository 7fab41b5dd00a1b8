-- Calls of a hand that come one after the other.
use Rattle.std.proofs.Common.{◌≡◌, ◌⊎◌, inl, inr, ℕ, zero, suc, List, [], ◌∷◌, ◌++◌, Option, true≢false, refl, sym, ap, ◌∙◌, subst, append_assoc}
use Rattle.std.specs.Prelude.{Result, Ok, Err, slice_get}
use Rattle.std.specs.Result.{IsErrOf}
use Rattle.device_core.specs.declared.hand.HandFault.{HandFault}
use Rattle.device_core.specs.declared.hand.HandFault.TheVariants as faults
use Rattle.device_core.specs.declared.hand.Stamp.{Stamp}
use Rattle.device_core.specs.Device.{AreServed}
use Rattle.device_core.specs.Made.{Made, reads}
use Rattle.page_core.specs.declared.plan.PageWrite.{PageWrite}
use Rattle.page_core.specs.Calls.{AreMade, ReadInOrder, WritesFile, WritesPages, next}
use Rattle.page_core.proofs.ListBytes.{some_same}

-- calls, and others behind them
pub made_both : {H : Type 0} (makes : H → Made → H → Type 0) (old mid new : H) (first rest : List Made) → AreMade makes old first mid → AreMade makes mid rest new → AreMade makes old (first ++ rest) new
made_both makes old mid new [] rest one two = subst (λ h. AreMade makes h rest new) one two
made_both makes old mid new (call ∷ first) rest one two = (one.0, one.1, made_both makes one.0 mid new first rest one.2 two)

not_err : (u : Unit {0}) → IsErrOf {T = Unit {0}} (Ok u) faults.Memory → ⊥
not_err u is = let e : ◌≡◌ {A = Result (Unit {0}) HandFault} (Ok u) (Err faults.Memory) = is in absurd cc

-- a page that is read, or for whose bytes memory is refused, and then no more
pub read_one : {H X : Type 0} (makes : H → Made → H → Type 0) (pages rest : List Stamp) (page : Stamp) (answer : Result (Unit {0}) HandFault) (old new : H) → pages ≡ page ∷ rest
    → (X × (new ≡ old)) ⊎ ((bytes : List ℕ) × makes old (reads page 0 bytes answer) new)
    → (calls : List Made) × AreMade makes old calls new × ReadInOrder pages calls
read_one makes pages rest page answer old new is (inl none) = ([], none.1, tt)
read_one makes pages rest page answer old new is (inr one) = (reads page 0 one.0 answer ∷ [], (new, one.1, refl), subst (λ (l : List Stamp). ReadInOrder l (reads page 0 one.0 answer ∷ [])) (sym is) ((one.0, answer, refl, λ bad. refl), tt))

-- a page that is read, and then those behind it
pub read_and_more : {H : Type 0} (makes : H → Made → H → Type 0) (pages rest : List Stamp) (page : Stamp) (u : Unit {0}) (old mid new : H) → pages ≡ page ∷ rest
    → (IsErrOf {T = Unit {0}} (Ok u) faults.Memory × (mid ≡ old)) ⊎ ((bytes : List ℕ) × makes old (reads page 0 bytes (Ok u)) mid)
    → ((calls : List Made) × AreMade makes mid calls new × ReadInOrder rest calls) → (calls : List Made) × AreMade makes old calls new × ReadInOrder pages calls
read_and_more makes pages rest page u old mid new is (inl none) more = absurd (not_err u none.0)
read_and_more makes pages rest page u old mid new is (inr one) more =
    (reads page 0 one.0 (Ok u) ∷ more.0, (mid, one.1, more.1), subst (λ (l : List Stamp). ReadInOrder l (reads page 0 one.0 (Ok u) ∷ more.0)) (sym is) ((one.0, Ok u, refl, λ bad. absurd (true≢false (sym bad))), more.2))

-- a page that is written, and then those behind it
pub write_and_more : {H : Type 0} (makes : H → Made → H → Type 0) (writes rest : List PageWrite) (write : PageWrite) (stamp : Stamp) (before with after : List Stamp) (fault : Option HandFault) (old mid new : H)
    → writes ≡ write ∷ rest → with ≡ before ++ stamp ∷ [] → ((calls : List Made) × AreMade makes old calls mid × WritesFile write.bytes calls (Ok stamp))
    → ((calls : List Made) × (more : List Stamp) × (after ≡ with ++ more) × AreMade makes mid calls new × WritesPages rest calls more fault)
    → (calls : List Made) × (more : List Stamp) × (after ≡ before ++ more) × AreMade makes old calls new × WritesPages writes calls more fault
write_and_more makes writes rest write stamp before with after fault old mid new is one first more = (
  first.0 ++ more.0,
  stamp ∷ more.1,
  more.2 ∙ ap (λ (l : List Stamp). l ++ more.1) one ∙ append_assoc before (stamp ∷ []) more.1,
  made_both makes old mid new first.0 more.0 first.1 more.3,
  subst (λ (l : List PageWrite). WritesPages l (first.0 ++ more.0) (stamp ∷ more.1) fault) (sym is) (next write rest first.0 more.0 stamp more.1 fault first.2 more.4),
)

served_behind : (serves : Stamp → Type 0) (files : List Stamp) (new : Stamp) → AreServed serves files → serves new → AreServed serves (files ++ new ∷ [])
served_behind serves [] new served last zero pin is = subst serves (some_same is) last
served_behind serves [] new served last (suc p) pin is = absurd cc
served_behind serves (first ∷ files) new served last zero pin is = served 0 pin is
served_behind serves (first ∷ files) new served last (suc p) pin is = served_behind serves files new (λ q s at. served (suc q) s at) last p pin is

-- files that can be read, and one more
pub served_and_one : (before after : Stamp → Type 0) (files with : List Stamp) (new : Stamp) → with ≡ files ++ new ∷ [] → ((s : Stamp) → before s → after s) → after new → AreServed before files → AreServed after with
served_and_one before after files with new same still last served = subst (AreServed after) (sym same) (served_behind after files new (λ p s at. still s (served p s at)) last)
