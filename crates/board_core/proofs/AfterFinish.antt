-- What a finish publishes, and what it frees.
use Rattle.std.proofs.Common.{ℕ, ◌⊎◌, inl, inr, List, [], ◌∷◌, ◌++◌, ◌∙◌, ap, arith, refl}
use Rattle.std.specs.Prelude.{slice_get}
use Rattle.device_core.specs.declared.hand.Stamp.{Stamp}
use Rattle.page_core.specs.Lists.{Every, Among}
use Rattle.board_core.specs.Chain.{news_of}
use Rattle.board_core.specs.Free.{HasFile, IsNeeded, Picks, no_more, needed, again, one_more}
use Rattle.board_core.specs.Laws.{PinsAreNewOrOld, LeftOutAreNeeded}
use Rattle.board_core.proofs.Published.{published_there, published_elsewhere}
use Rattle.board_core.proofs.Admission.{among_more, ended_history}

pub pins_are_new_or_old : PinsAreNewOrOld
pins_are_new_or_old b after sound e admits p within =
    let same = (ended_history b after e admits).1 in (
      λ pages is. ap (λ (pins : List (List Stamp)). slice_get pins p) same ∙ published_there b.pins (news_of e) p pages is (omega (arith, sound.pinned.each, within)),
      λ none. ap (λ (pins : List (List Stamp)). slice_get pins p) same ∙ published_elsewhere b.pins (news_of e) p none,
    )

among_last : (xs : List Stamp) (s : Stamp) → Among s (xs ++ s ∷ [])
among_last [] s = inl refl
among_last (x ∷ xs) s = inr (among_last xs s)

-- what was picked before is picked at the end
picked_stay : (Needed : ℕ → Type 0) (picked stamps all : List Stamp) (number : ℕ) → Picks Needed picked stamps all → HasFile number picked → HasFile number all
picked_stay Needed picked [] all number no_more is = is
picked_stay Needed picked (s ∷ rest) all number (needed _ must more) is = picked_stay Needed picked rest all number more is
picked_stay Needed picked (s ∷ rest) all number (again _ there more) is = picked_stay Needed picked rest all number more is
picked_stay Needed picked (s ∷ rest) all number (one_more _ none new more) is =
    picked_stay Needed (picked ++ s ∷ []) rest all number more (is.0, among_more picked s is.0 is.1, is.2)

picked_or_needed : (Needed : ℕ → Type 0) (picked stamps all : List Stamp) → Picks Needed picked stamps all → Every (λ s. HasFile s.number all ⊎ Needed s.number) stamps
picked_or_needed Needed picked [] all no_more = tt
picked_or_needed Needed picked (s ∷ rest) all (needed _ must more) = (inr must, picked_or_needed Needed picked rest all more)
picked_or_needed Needed picked (s ∷ rest) all (again _ there more) = (inl (picked_stay Needed picked rest all s.number more there), picked_or_needed Needed picked rest all more)
picked_or_needed Needed picked (s ∷ rest) all (one_more _ none new more) =
    (inl (picked_stay Needed (picked ++ s ∷ []) rest all s.number more (s, among_last picked s, refl)), picked_or_needed Needed (picked ++ s ∷ []) rest all more)

pub left_out_are_needed : LeftOutAreNeeded
left_out_are_needed pins stamps all running picks = picked_or_needed (IsNeeded pins running) [] stamps all picks
