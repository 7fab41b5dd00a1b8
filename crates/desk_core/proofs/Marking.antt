-- What marks tell.
use Rattle.std.proofs.Common.{◌≡◌, ℕ, zero, suc, ◌+◌, ◌<◌, List, [], ◌∷◌, ◌++◌, length, Some, refl, sym, ◌∙◌, ap, subst, arith, length-append}
use Rattle.std.specs.Prelude.{slice_get}
use Rattle.std.proofs.lemmas.List.{map-append}
use Rattle.board_core.specs.declared.event.TraceEvent.TheVariants.{Start, End}
use Rattle.page_core.specs.Lists.{Every}
use Rattle.page_core.specs.ObjectCalls.{Noted}
use Rattle.page_core.proofs.Lists.{Every-map, Every-snoc}
use Rattle.desk_core.specs.declared.marks.Mark.{Mark}
use Rattle.desk_core.specs.declared.marks.Mark.TheVariants as marks
use Rattle.desk_core.specs.Kept.{end_of, event_of, events_of, IsMarkIn}

get_front : {X : Type 0} (xs ys : List X) (k : ℕ) → k < length xs → slice_get (xs ++ ys) k ≡ slice_get xs k
get_front [] ys k less = absurd (omega (arith, less))
get_front (x ∷ xs) ys zero less = refl
get_front (x ∷ xs) ys (suc k) less = get_front xs ys k (omega (arith, less))

get_last : {X : Type 0} (xs : List X) (x : X) → slice_get (xs ++ x ∷ []) (length xs) ≡ Some x
get_last [] x = refl
get_last (y ∷ xs) x = get_last xs x

-- a start is told by its mark
pub events_start : (history : List Noted) (all : List Mark) (n : ℕ) → events_of history (all ++ marks.Start n ∷ []) ≡ events_of history all ++ Start n ∷ []
events_start history all n = map-append (event_of history) all (marks.Start n ∷ [])

event_more : (history : List Noted) (e : Noted) (mark : Mark) → IsMarkIn (length history) mark → event_of (history ++ e ∷ []) mark ≡ event_of history mark
event_more history e (marks.Start n) within = refl
event_more history e (marks.End place) within = ap end_of (get_front history (e ∷ []) place within)

-- marks tell the same where the history has one entry more
events_more : (history : List Noted) (e : Noted) (all : List Mark) → Every (IsMarkIn (length history)) all → events_of (history ++ e ∷ []) all ≡ events_of history all
events_more history e [] within = refl
events_more history e (mark ∷ all) within = ap (λ x. x ∷ events_of (history ++ e ∷ []) all) (event_more history e mark within.0) ∙ ap (λ xs. event_of history mark ∷ xs) (events_more history e all within.1)

-- an end is told by the place of its entry
pub events_end : (history : List Noted) (e : Noted) (all : List Mark) → Every (IsMarkIn (length history)) all
    → events_of (history ++ e ∷ []) (all ++ marks.End (length history) ∷ []) ≡ events_of history all ++ End e.number e.reply ∷ []
events_end history e all within =
    map-append (event_of (history ++ e ∷ [])) all (marks.End (length history) ∷ [])
    ∙ ap (λ xs. xs ++ event_of (history ++ e ∷ []) (marks.End (length history)) ∷ []) (events_more history e all within)
    ∙ ap (λ x. events_of history all ++ x ∷ []) (ap end_of (get_last history e))

mark_more : (count : ℕ) (mark : Mark) → IsMarkIn count mark → IsMarkIn (count + 1) mark
mark_more count (marks.Start n) within = tt
mark_more count (marks.End place) within = omega (arith, within)

-- the marks after an end are of entries that there are
pub marks_end : (history : List Noted) (e : Noted) (all : List Mark) → Every (IsMarkIn (length history)) all → Every (IsMarkIn (length (history ++ e ∷ []))) (all ++ marks.End (length history) ∷ [])
marks_end history e all within =
    let more = length-append history (e ∷ []) in
    subst (λ count. Every (IsMarkIn count) (all ++ marks.End (length history) ∷ [])) (sym more)
    (Every-snoc (IsMarkIn (length history + 1)) all (marks.End (length history)) (Every-map (IsMarkIn (length history)) (IsMarkIn (length history + 1)) (mark_more (length history)) all within) (omega arith))

-- without marks nothing happened
pub events_are : {history : List Noted} {all : List Mark} → history ≡ [] → all ≡ [] → events_of history all ≡ []
events_are {history} {all} none empty = ap (events_of history) empty

-- the same marks over the same history tell the same
pub events_same : {history before : List Noted} {all earlier : List Mark} → history ≡ before → all ≡ earlier → events_of history all ≡ events_of before earlier
events_same same these = λ i. events_of (same i) (these i)

pub no_marks : (count : ℕ) (all : List Mark) → all ≡ [] → Every (IsMarkIn count) all
no_marks count all empty = subst (Every (IsMarkIn count)) (sym empty) tt
