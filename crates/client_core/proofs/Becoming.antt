-- What becomes of the object at a place, and what is due of all objects.
use Rattle.std.proofs.Common.{◌≡◌, ◌≢◌, ◌∙◌, ap, sym, subst, refl, ℕ, zero, suc, ◌<◌, ◌≤◌, ◌⊎◌, inl, inr, List, [], ◌∷◌, length, take, get_or, arith, ◌+◌}
use Rattle.std.specs.Prelude.{All, Bool, eqb, leb, not, true, false, Option, Some, None, Result, Ok, Err, IfOk, IfSome, MatchOption, is_some, slice_get, slice_set}
use Rattle.std.proofs.lemmas.Bool.Decides.{eqb_tells, leb_tells}
use Rattle.std.proofs.lemmas.Option.{slice_get-get_or, slice_get_past, slice_get_read, slice_get_within}
use Rattle.live_core.specs.Scene.{Scene}
use Rattle.client_core.specs.Holding.{Holding, HoldsSome, IsDueOf, NothingIsDueOf}
use Rattle.std.specs.declared.alloc.AllocError.{AllocError}
use Rattle.decl_core.specs.ObjectForm.{ObjectForm}
use Rattle.decl_core.specs.HoldForm.{EveryForm}
use Rattle.client_core.specs.declared.holding.OwedCall.{OwedCall}
use Rattle.client_core.specs.declared.ticking.Ticking.{Ticking}
use Rattle.client_core.specs.Custody.{Custody, HasNone}
use Rattle.client_core.specs.Views.{custody_of, custodies_of}
use Rattle.client_core.specs.declared.all.DueCall.{DueCall}
use Rattle.client_core.proofs.Placing.{some_at}
use Rattle.client_core.specs.Due.{Becomes, BecomesBy, IsDueThere, IsFirst, IsUndone, Looks, LooksAll, LooksBy, NothingIsDue, object_due}

pub becomes : (R : Holding → Holding → Type 0) (rows : List Holding) (at : ℕ) (h next : Holding) → slice_get rows at ≡ Some h → R h next →
    Becomes R at rows (slice_set rows at next)
becomes R rows at h next there is = subst (λ (f : Option Holding). BecomesBy R f at rows (slice_set rows at next)) (sym there) (next, is, refl)

pub becomes_none : (R : Holding → Holding → Type 0) (rows : List Holding) (at : ℕ) → slice_get rows at ≡ None → Becomes R at rows rows
becomes_none R rows at none = subst (λ (f : Option Holding). BecomesBy R f at rows rows) (sym none) refl

-- items of lists
pub all_places : {X : Type 0} (P : X → Type 0) (xs : List X) → ((k : ℕ) (x : X) → slice_get xs k ≡ Some x → P x) → All P xs
all_places P xs each k d within = each k (get_or xs k d) (slice_get-get_or xs k d within)

front_of : {X : Type 0} (xs : List X) (n k : ℕ) (x : X) → slice_get (take n xs) k ≡ Some x → (k < n) × (slice_get xs k ≡ Some x)
front_of xs zero k x is = absurd cc
front_of [] (suc n) k x is = absurd cc
front_of (y ∷ xs) (suc n) zero x is = (omega arith, is)
front_of (y ∷ xs) (suc n) (suc k) x is = let rest = front_of xs n k x is in (omega (arith, rest.0), rest.1)

pub all_before : {X : Type 0} (P : X → Type 0) (xs : List X) (n : ℕ) → ((k : ℕ) (x : X) → k < n → slice_get xs k ≡ Some x → P x) → All P (take n xs)
all_before P xs n each = all_places P (take n xs) (λ k x is. let h = front_of xs n k x is in each k x h.0 h.1)

here_is : {X : Type 0} (xs : List X) (k : ℕ) (x y : X) → slice_get xs k ≡ Some x → slice_get (slice_set xs k y) k ≡ Some y
here_is [] k x y is = absurd cc
here_is (z ∷ xs) zero x y is = refl
here_is (z ∷ xs) (suc k) x y is = here_is xs k x y is

others_are : {X : Type 0} (xs : List X) (j : ℕ) (y : X) (k : ℕ) → k ≢ j → slice_get (slice_set xs j y) k ≡ slice_get xs k
others_are [] j y k other = refl
others_are (z ∷ xs) zero y zero other = absurd (other refl)
others_are (z ∷ xs) zero y (suc k) other = refl
others_are (z ∷ xs) (suc j) y zero other = refl
others_are (z ∷ xs) (suc j) y (suc k) other = others_are xs j y k (λ same. other (omega (arith, same)))

-- nothing is due of those before a place
abbrev pub NoneBefore : ℕ → List Holding → ℕ → Type 0
NoneBefore second all n = (k : ℕ) (h : Holding) → k < n → slice_get all k ≡ Some h → NothingIsDue second h

pub none_more : (second : ℕ) (all : List Holding) (n : ℕ) (h : Holding) → NoneBefore second all n → slice_get all n ≡ Some h → NothingIsDue second h →
    NoneBefore second all (n + 1)
none_more second all n h before there none k g less is = by (eqb_tells k n)
  where
    by : ((eqb k n ≡ true) × (k ≡ n)) ⊎ ((eqb k n ≡ false) × (k ≢ n)) → NothingIsDue second g
    by (inl same) =
        let one : slice_get all n ≡ Some g = subst (λ m. slice_get all m ≡ Some g) same.1 is in
        let both : Some h ≡ Some g = sym there ∙ one in
        subst (λ (x : Holding). NothingIsDue second x) (let b = both in cc) none
    by (inr other) = let ne = other.1 in before k g (omega (arith, less, ne)) is

pub none_of_all : (second : ℕ) (all : List Holding) (n : ℕ) → length all ≤ n → NoneBefore second all n → All (NothingIsDue second) all
none_of_all second all n past before = all_places (NothingIsDue second) all (λ k h is. let w = slice_get_within all k h is in before k h (omega (arith, past, w)) is)

pub first_is : (second : ℕ) (all : List Holding) (n : ℕ) (h : Holding) (due : DueCall) → NoneBefore second all n → slice_get all n ≡ Some h →
    object_due due ≡ n → IsDueThere second h due → IsFirst second all due
first_is second all n h due before there at is = record {
  holding = h;
  there = subst (λ m. slice_get all m ≡ Some h) (sym at) there;
  is = is;
  first = all_before (NothingIsDue second) all (object_due due) (λ k g less. before k g (let a = at in omega (arith, less, a)));
}

-- it is this second, for those before a place
pub record LooksUpTo (objects : List Scene) (second n : ℕ) (old new : List Holding) : Type 0 where
  pub none : (at : ℕ) → slice_get old at ≡ None → slice_get new at ≡ None
  pub before : (at : ℕ) (h : Holding) → at < n → slice_get old at ≡ Some h →
      (next : Holding) × (slice_get new at ≡ Some next) × LooksBy (slice_get objects at) second h next
  pub behind : (at : ℕ) → n ≤ at → slice_get new at ≡ slice_get old at

pub looks_begin : (objects : List Scene) (second : ℕ) (rows : List Holding) → LooksUpTo objects second 0 rows rows
looks_begin objects second rows = record {
  none = λ at is. is;
  before = λ at h less is. absurd (omega (arith, less));
  behind = λ at more. refl;
}

pub looks_more : (objects : List Scene) (second n : ℕ) (o : Scene) (old mid new : List Holding) → slice_get objects n ≡ Some o →
    LooksUpTo objects second n old mid → Becomes (Looks o second) n mid new → LooksUpTo objects second (n + 1) old new
looks_more objects second n o old mid new there up becomes = by (slice_get mid n) refl becomes
  where
    by : (f : Option Holding) → slice_get mid n ≡ f → BecomesBy (Looks o second) f n mid new → LooksUpTo objects second (n + 1) old new
    by None is same = record {
      none = λ at gone. ap (λ (l : List Holding). slice_get l at) same ∙ up.none at gone;
      before = λ at h less was. none_case at h less was (eqb_tells at n);
      behind = λ at more. ap (λ (l : List Holding). slice_get l at) same ∙ up.behind at (omega (arith, more));
    }
      where
        none_case : (at : ℕ) (h : Holding) → at < n + 1 → slice_get old at ≡ Some h →
            ((eqb at n ≡ true) × (at ≡ n)) ⊎ ((eqb at n ≡ false) × (at ≢ n)) →
            (next : Holding) × (slice_get new at ≡ Some next) × LooksBy (slice_get objects at) second h next
        none_case at h less was (inl is_n) =
            let one : slice_get old n ≡ Some h = subst (λ m. slice_get old m ≡ Some h) is_n.1 was in
            let no : None ≡ Some h = sym is ∙ (up.behind n (omega arith) ∙ one) in absurd (let a = no in cc)
        none_case at h less was (inr other) =
            let ne = other.1 in
            let one = up.before at h (omega (arith, less, ne)) was in
            (one.0, ap (λ (l : List Holding). slice_get l at) same ∙ one.1, one.2)
    by (Some m) is (next, looks, set) = record {
      none = λ at gone. some_none at gone (eqb_tells at n);
      before = λ at h less was. some_case at h less was (eqb_tells at n);
      behind = λ at more. ap (λ (l : List Holding). slice_get l at) set
          ∙ (others_are mid n next at (λ same. absurd (omega (arith, more, same))) ∙ up.behind at (omega (arith, more)));
    }
      where
        some_none : (at : ℕ) → slice_get old at ≡ None → ((eqb at n ≡ true) × (at ≡ n)) ⊎ ((eqb at n ≡ false) × (at ≢ n)) → slice_get new at ≡ None
        some_none at gone (inl is_n) =
            let one : slice_get mid n ≡ None = subst (λ m. slice_get mid m ≡ None) is_n.1 (up.none at gone) in
            let no : Some m ≡ None = sym is ∙ one in absurd (let a = no in cc)
        some_none at gone (inr other) = ap (λ (l : List Holding). slice_get l at) set ∙ (others_are mid n next at other.1 ∙ up.none at gone)

        some_case : (at : ℕ) (h : Holding) → at < n + 1 → slice_get old at ≡ Some h →
            ((eqb at n ≡ true) × (at ≡ n)) ⊎ ((eqb at n ≡ false) × (at ≢ n)) →
            (after : Holding) × (slice_get new at ≡ Some after) × LooksBy (slice_get objects at) second h after
        some_case at h less was (inl is_n) =
            let one : slice_get old n ≡ Some h = subst (λ m. slice_get old m ≡ Some h) is_n.1 was in
            let both : Some m ≡ Some h = sym is ∙ (up.behind n (omega arith) ∙ one) in
            let same : m ≡ h = (let b = both in cc) in
            let got : slice_get new n ≡ Some next = ap (λ (l : List Holding). slice_get l n) set ∙ here_is mid n m next is in
            let by_one : LooksBy (slice_get objects n) second h next =
            subst (λ (f : Option Scene). LooksBy f second h next) (sym there) (subst (λ (x : Holding). Looks o second x next) same looks) in
            (next, subst (λ k. slice_get new k ≡ Some next) (sym is_n.1) got, subst (λ k. LooksBy (slice_get objects k) second h next) (sym is_n.1) by_one)
        some_case at h less was (inr other) =
            let ne = other.1 in
            let one = up.before at h (omega (arith, less, ne)) was in
            (one.0, ap (λ (l : List Holding). slice_get l at) set ∙ (others_are mid n next at other.1 ∙ one.1), one.2)

pub looks_end : (objects : List Scene) (second n : ℕ) (old new : List Holding) → length objects ≤ n → LooksUpTo objects second n old new → LooksAll objects second old new
looks_end objects second n old new past up = record {
  none = up.none;
  each = λ at h is. by at h is (leb_tells n at);
}
  where
    by : (at : ℕ) (h : Holding) → slice_get old at ≡ Some h → ((leb n at ≡ true) × (n ≤ at)) ⊎ ((leb n at ≡ false) × (at < n)) →
        (next : Holding) × (slice_get new at ≡ Some next) × LooksBy (slice_get objects at) second h next
    by at h is (inl more) =
        let least = more.1 in
        (h, up.behind at least ∙ is, subst (λ (f : Option Scene). LooksBy f second h h) (sym (slice_get_past objects at (omega (arith, past, least)))) refl)
    by at h is (inr less) = up.before at h less.1 is

-- one that is at a place is among all
pub held_there : (rows : List Holding) (at : ℕ) (h : Holding) → slice_get rows at ≡ Some h → slice_get (custodies_of rows) at ≡ Some (custody_of h)
held_there rows at h is = some_at rows at h is

pub same_there : (rows : List Holding) (at : ℕ) (h g : Holding) → slice_get rows at ≡ Some h → slice_get rows at ≡ Some g → h ≡ g
same_there rows at h g one two = let both : Some h ≡ Some g = sym one ∙ two in cc

-- where a session of the one at a place holds nothing, and where it holds something
pub none_there : (rows : List Holding) (at session : ℕ) (h : Holding) → slice_get rows at ≡ Some h → HasNone session h.held →
    (c : Custody) × (slice_get (custodies_of rows) at ≡ Some c) × HasNone session c.held
none_there rows at session h is none = (custody_of h, some_at rows at h is, none)

pub none_if : (r : Bool) (rows : List Holding) (at session : ℕ) (h : Holding) → slice_get rows at ≡ Some h → (r ≡ false → HasNone session h.held) → not r ≡ true →
    (c : Custody) × (slice_get (custodies_of rows) at ≡ Some c) × HasNone session c.held
none_if true rows at session h is none so = absurd cc
none_if false rows at session h is none so = none_there rows at session h is (none refl)

pub some_there : (rows : List Holding) (at session : ℕ) (h g : Holding) → slice_get rows at ≡ Some h → HoldsSome h.held session → slice_get rows at ≡ Some g → HoldsSome g.held session
some_there rows at session h g is some found = subst (λ (x : Holding). HoldsSome x.held session) (same_there rows at h g is found) some

-- what is to be called for a session
pub undone_is : (r : Result (Option OwedCall) AllocError) (rows : List Holding) (at : ℕ) (h : Holding) (o : ObjectForm) (session : ℕ) →
    slice_get rows at ≡ Some h →
    IfOk r (λ found. MatchOption found (NothingIsDueOf o h session) (λ u. IsDueOf o h session u.operation u.arguments.items)) →
    IfOk r (IsUndone o (slice_get rows at) session)
undone_is (Ok None) rows at h o session there is = subst (λ (f : Option Holding). IsUndone o f session None) (sym there) is
undone_is (Ok (Some u)) rows at h o session there is = subst (λ (f : Option Holding). IsUndone o f session (Some u)) (sym there) is
undone_is (Err e) rows at h o session there is = tt

-- the call at a place that is made again and again
pub tick_there : (t : Option Ticking) (rows : List Holding) (at place : ℕ) (h : Holding) → slice_get rows at ≡ Some h →
    IfSome t (λ t. (e : EveryForm) × (slice_get h.rules.everies place ≡ Some e) × (t.op ≡ e.op)) →
    IfSome t (λ t. (c : Custody) × (slice_get (custodies_of rows) at ≡ Some c) × ((e : EveryForm) × (slice_get c.rules.everies place ≡ Some e) × (t.op ≡ e.op)))
tick_there None rows at place h there is = tt
tick_there (Some t) rows at place h there is = (custody_of h, some_at rows at h there, is)

-- the first that is due, or none
there_in : (rows all : List Holding) (at len : ℕ) (h : Holding) → rows ≡ all → len ≡ length rows → at < len → h ≡ get_or rows at h → slice_get all at ≡ Some h
there_in rows all at len h same is less read = subst (λ (l : List Holding). slice_get l at ≡ Some h) same (slice_get_read rows len at h is less read)

pub goes_on : (r : Option DueCall) (second : ℕ) (rows all : List Holding) (at len : ℕ) (h : Holding) → rows ≡ all → len ≡ length rows → at < len →
    h ≡ get_or rows at h → is_some r ≡ false →
    MatchOption r (NothingIsDue second h) (λ due. (object_due due ≡ at) × IsDueThere second h due) → NoneBefore second all at → NoneBefore second all (at + 1)
goes_on None second rows all at len h same is less read isnt due before = none_more second all at h before (there_in rows all at len h same is less read) due
goes_on (Some d) second rows all at len h same is less read isnt due before = absurd cc

pub found_first : (r : Option DueCall) (second : ℕ) (rows all : List Holding) (at len : ℕ) (h : Holding) → rows ≡ all → len ≡ length rows → at < len →
    h ≡ get_or rows at h → is_some r ≡ true →
    MatchOption r (NothingIsDue second h) (λ due. (object_due due ≡ at) × IsDueThere second h due) → NoneBefore second all at →
    MatchOption r (All (NothingIsDue second) all) (IsFirst second all)
found_first None second rows all at len h same is less read does due before = absurd cc
found_first (Some d) second rows all at len h same is less read does due before =
    first_is second all at h d before (there_in rows all at len h same is less read) due.0 due.1

pub none_found : (second : ℕ) (rows all : List Holding) (at len : ℕ) → rows ≡ all → len ≡ length rows → len ≤ at → NoneBefore second all at → All (NothingIsDue second) all
none_found second rows all at len same is past before =
    let long : length rows ≡ length all = ap (λ (l : List Holding). length l) same in
    none_of_all second all at (omega (arith, is, past, long)) before
