-- What is gathered, one after the other.
use Rattle.std.proofs.Common.{◌≡◌, ◌∙◌, ap, sym, subst, refl, arith, inl, inr, ℕ, zero, suc, ◌+◌, ◌<◌, slice_index_or, slice_set, List, [], ◌∷◌, ◌++◌, length, Bool, true, false, cond, Option, Some, None, Result, Ok, Err}
use Rattle.std.specs.Prelude.{OnOk, OnErr}
use Rattle.std.specs.declared.alloc.AllocError.{AllocError}
use Rattle.std.proofs.lemmas.List.{map-append, length-map}
use Rattle.value_core.specs.declared.machine.LinesFault.{LinesFault}
use Rattle.value_core.specs.declared.machine.LinesFault.TheVariants.{Memory}
use Rattle.office_core.specs.Slips.{Told}
use Rattle.keep_core.specs.declared.trouble.Trouble.{Trouble}
use Rattle.keep_core.specs.Troubles.{first_of, memory_in}
use Rattle.keep_core.proofs.Telling.{first_first}
use Rattle.serve_core.specs.declared.listen.SessionLeavings.{SessionLeavings}
use Rattle.serve_core.specs.declared.listen.SessionResult.{SessionResult}
use Rattle.serve_core.specs.declared.listen.SessionResult.TheVariants.{Session, Fault}
use Rattle.serve_core.specs.declared.gather.Gathered.{Gathered}
use Rattle.serve_core.specs.Gathers.{slips_in, none_of, put_in, put_to, noted_by, mixed_by, with_those_of, Gathers, GathersAll, IsGathered}

-- no receipts of one object more
pub none_more : (n : ℕ) → none_of n ++ [] ∷ [] ≡ none_of (n + 1)
none_more n = let next : suc n ≡ n + 1 = omega arith in ends n ∙ ap none_of next where
  ends : (k : ℕ) → none_of k ++ [] ∷ [] ≡ none_of (suc k)
  ends zero = refl
  ends (suc k) = ap (λ (xs : List (List Told)). [] ∷ xs) (ends k)

pub none_grown : {H : Type 0} (gathered more : List (Gathered H)) (one : Gathered H) (n m : ℕ) → slips_in gathered ≡ none_of n → one.backed ≡ [] → more ≡ gathered ++ one ∷ [] → m ≡ n + 1 → slips_in more ≡ none_of m
none_grown {H = H} gathered more one n m so none is next =
    ap slips_in is ∙ map-append (λ (g : Gathered H). g.backed) gathered (one ∷ []) ∙ ap (λ (s : List Told). slips_in gathered ++ s ∷ []) none
    ∙ ap (λ (xs : List (List Told)). xs ++ [] ∷ []) so ∙ none_more n ∙ ap none_of (sym next)

-- Of all that is gathered what stands before the rest is: whatever the rest comes to, the whole comes to that.
pub record GatheredSoFar {H : Type 0} (all rest : List (SessionResult H)) (left : ℕ) (before now : Trouble) (were are : List (List Told)) : Type 0 where
  pub counted : left ≡ length rest
  pub goes : (after : Trouble) (last : List (List Told)) → GathersAll rest now after are last → GathersAll all before after were last

pub gathered_none : {H : Type 0} (all rest : List (SessionResult H)) (left : ℕ) (t : Trouble) (were : List (List Told)) → rest ≡ all → left ≡ length rest → GatheredSoFar all rest left t t were were
gathered_none {H = H} all rest left t were same counted = record { counted = counted; goes = λ after last done. subst (λ (cs : List (SessionResult H)). GathersAll cs t after were last) same done }

pub gathered_more : {H : Type 0} {all rest : List (SessionResult H)} {left : ℕ} {before now then : Trouble} {were are next : List (List Told)} (came : SessionResult H) (later : List (SessionResult H)) (fewer : ℕ) →
    GatheredSoFar all rest left before now were are → rest ≡ came ∷ later → fewer + 1 ≡ left → Gathers came now then are next → GatheredSoFar all later fewer before then were next
gathered_more {H = H} {now = now} {then = then} {are = are} {next = next} came later fewer so is fewer_is one = record {
  counted = omega (arith, fewer_is, so.counted, ap length is);
  goes = λ after last done. so.goes after last (subst (λ (cs : List (SessionResult H)). GathersAll cs now after are last) (sym is) (then, next, one, done));
}

pub gathered_all : {H : Type 0} {all : List (SessionResult H)} {before now : Trouble} {were are : List (List Told)} (rest : List (SessionResult H)) (left : ℕ) → GatheredSoFar all rest left before now were are → left ≡ 0 → GathersAll all before now were are
gathered_all {H = H} {now = now} {are = are} [] left so none = so.goes now are (refl, refl)
gathered_all (came ∷ rest) left so none = absurd (omega (arith, so.counted, none))

-- what a session left of an object was put, or memory was refused for it
pub gathers_session : {H : Type 0} (left : SessionLeavings H) (at : ℕ) (before mid after : Trouble) (were are : List (List Told)) (result : Result (Unit {0}) AllocError) → left.object ≡ Some at → mid.fault ≡ first_of before.fault (noted_by left.fault) → mid.refused ≡ mixed_by before.refused left.fault →
    after.fault ≡ first_of mid.fault (memory_in result) → after.refused ≡ mid.refused → OnOk result (are ≡ put_in at left.backed were) → OnErr result (are ≡ were) → Gathers (Session left) before after were are
gathers_session left at before mid after were are (Ok done) there fault refused more same ok err = record {
  wanted = false;
  fault = more ∙ ap (λ (f : Option LinesFault). first_of f None) fault ∙ first_first before.fault (noted_by left.fault) None;
  refused = same ∙ refused;
  put = ok ∙ ap (λ (o : Option ℕ). put_to o left.backed were) (sym there);
}
gathers_session left at before mid after were are (Err why) there fault refused more same ok err = record {
  wanted = true;
  fault = more ∙ ap (λ (f : Option LinesFault). first_of f (Some Memory)) fault ∙ first_first before.fault (noted_by left.fault) (Some Memory);
  refused = same ∙ refused;
  put = err;
}

-- there is no object at a place beyond them
pub put_past : {H : Type 0} (place : ℕ) (more : List Told) (items : List (Gathered H)) (n : ℕ) → (place < n → ⊥) → n ≡ length items → put_in place more (slips_in items) ≡ slips_in items
put_past place more [] n none same = refl
put_past zero more (x ∷ items) n none same = absurd (none (omega (arith, same)))
put_past (suc place) more (x ∷ items) n none same = ap (λ (xs : List (List Told)). x.backed ∷ xs) (put_past place more items (length items) (λ less. none (omega (arith, less, same))) refl)

-- an object has more receipts, or the same
pub put_set : {H : Type 0} (items : List (Gathered H)) (place : ℕ) (g new : Gathered H) (more : List Told) → g ≡ slice_index_or items place g → new.backed ≡ g.backed ++ more → slips_in (slice_set items place new) ≡ put_in place more (slips_in items)
put_set [] place g new more is grown = refl
put_set {H = H} (x ∷ items) zero g new more is grown = ap (λ (s : List Told). s ∷ slips_in items) (grown ∙ ap (λ (h : Gathered H). h.backed ++ more) is)
put_set (x ∷ items) (suc place) g new more is grown = ap (λ (xs : List (List Told)). x.backed ∷ xs) (put_set items place g new more is grown)

pub keep_set : {H : Type 0} (items : List (Gathered H)) (place : ℕ) (g new : Gathered H) → g ≡ slice_index_or items place g → new.backed ≡ g.backed → slips_in (slice_set items place new) ≡ slips_in items
keep_set [] place g new is same = refl
keep_set {H = H} (x ∷ items) zero g new is same = ap (λ (s : List Told). s ∷ slips_in items) (same ∙ ap (λ (h : Gathered H). h.backed) is)
keep_set (x ∷ items) (suc place) g new is same = ap (λ (xs : List (List Told)). x.backed ∷ xs) (keep_set items place g new is same)

-- what threads left, or nothing where memory was refused before
pub gathered_ok : {H : Type 0} (before after : Trouble) (were are last : List (List Told)) (cames : List (SessionResult H)) → last ≡ are → GathersAll cames before after were are → IsGathered H were before after last
gathered_ok {H = H} before after were are last cames same all = inl (cames, subst (GathersAll cames before after were) (sym same) all)

pub gathered_err : (H : Type 0) (before after : Trouble) (were last : List (List Told)) → last ≡ were → after.fault ≡ first_of before.fault (Some Memory) → after.refused ≡ before.refused → IsGathered H were before after last
gathered_err H before after were last same fault refused = inr (fault, refused, same)

-- putting keeps the number of objects
put_many : (place : ℕ) (more : List Told) (all : List (List Told)) → length (put_in place more all) ≡ length all
put_many place more [] = refl
put_many zero more (slips ∷ others) = refl
put_many (suc place) more (slips ∷ others) = ap suc (put_many place more others)

with_many : {H : Type 0} (came : SessionResult H) (all : List (List Told)) → length (with_those_of came all) ≡ length all
with_many (Fault fault) all = refl
with_many (Session left) all = to left.object where
  to : (object : Option ℕ) → length (put_to object left.backed all) ≡ length all
  to None = refl
  to (Some place) = put_many place left.backed all

one_many : {H : Type 0} (came : SessionResult H) (were are : List (List Told)) (wanted : Bool) → are ≡ cond wanted were (with_those_of came were) → length are ≡ length were
one_many came were are true put = ap length put
one_many came were are false put = ap length put ∙ with_many came were

all_many : {H : Type 0} (cames : List (SessionResult H)) (before after : Trouble) (were are : List (List Told)) → GathersAll cames before after were are → length are ≡ length were
all_many [] before after were are (same, is) = ap length is
all_many (came ∷ cames) before after were are (mid, between, one, more) = all_many cames mid after between are more ∙ one_many came were between one.wanted one.put

gathered_length : {H : Type 0} (before after : Trouble) (were are : List (List Told)) → IsGathered H were before after are → length are ≡ length were
gathered_length before after were are (inl (cames, all)) = all_many cames before after were are all
gathered_length before after were are (inr (fault, refused, is)) = ap length is

none_length : (n : ℕ) → length (none_of n) ≡ n
none_length zero = refl
none_length (suc n) = ap suc (none_length n)

-- as many as there are objects
pub gathered_many : {H : Type 0} {before after : Trouble} {were : List (List Told)} (n : ℕ) (gathered : List (Gathered H)) → were ≡ none_of n → IsGathered H were before after (slips_in gathered) → length gathered ≡ n
gathered_many {H = H} {before = before} {after = after} {were = were} n gathered none all =
    let same : length (slips_in gathered) ≡ length were = gathered_length before after were (slips_in gathered) all in
    omega (arith, same, ap length none, none_length n, length-map gathered (λ (g : Gathered H). g.backed))

-- what was gathered of objects of which none had anything
pub gathered_as : {H : Type 0} {before after : Trouble} {were are : List (List Told)} (n m : ℕ) → were ≡ none_of n → n ≡ m → IsGathered H were before after are → IsGathered H (none_of m) before after are
gathered_as {H = H} {before = before} {after = after} {are = are} n m none same all = subst (λ (w : List (List Told)). IsGathered H w before after are) (none ∙ ap none_of same) all
