-- What a finish leaves.
use Rattle.std.proofs.Common.{◌≡◌, ◌≢◌, ℕ, zero, suc, ◌+◌, ◌≤◌, ◌⊎◌, inl, inr, Bool, true, false, cond, ◌==◌, List, [], ◌∷◌, ◌++◌, length, Option, Some, None, refl, sym, ◌∙◌, ap, subst, arith, take, drop, map, length-append}
use Rattle.std.specs.Prelude.{slice_get, not}
use Rattle.std.specs.List.{filter}
use Rattle.std.proofs.lemmas.Bool.{ne_eqb}
use Rattle.value_core.specs.Contents.{Contents}
use Rattle.device_core.specs.declared.file.File.{File}
use Rattle.device_core.specs.declared.hand.Stamp.{Stamp}
use Rattle.device_core.specs.Device.{Assignment, AreServed}
use Rattle.device_core.specs.Files.{HasFiles, Serves, files_of}
use Rattle.device_core.proofs.Agreeing.{some_map}
use Rattle.decl_core.specs.Bodies.{body_of}
use Rattle.decl_core.specs.Touched.{Writes}
use Rattle.page_core.specs.Cut.{most_pages}
use Rattle.page_core.specs.PartPins.{PartPin, pin_at}
use Rattle.page_core.specs.Renewed.{IsIn}
use Rattle.page_core.specs.Pages.{ArePinsServed}
use Rattle.run_core.proofs.Origins.{new_pins_are_old_or_sealed}
use Rattle.page_core.specs.declared.outcome.Outcome.{Outcome}
use Rattle.apply_core.specs.declared.reply.Reply.{Reply}
use Rattle.apply_core.specs.declared.reply.Reply.TheVariants.{Done, Refused, Failed}
use Rattle.page_core.specs.CallPins.{Call}
use Rattle.run_core.specs.Runs.{run_call, run_place, run_sealed, SoFar, AreApart, sealed_by_place}
use Rattle.run_core.specs.Phases.{IsRenewedBy}
use Rattle.run_core.specs.Steps.{sealed_at, AreServed as AreAllServed}
use Rattle.page_core.specs.Outcomes.{outcome_call, outcome_reply, outcome_sealed, outcome_news, outcome_gone, outcome_pins, if_done, IsFresh}
use Rattle.page_core.specs.Truths.{IsTrueOf, PinsAreWhole}
use Rattle.board_core.specs.declared.event.TraceEvent.{TraceEvent}
use Rattle.board_core.specs.declared.event.TraceEvent.TheVariants.{End}
use Rattle.board_core.specs.declared.receipt.Receipt.{Receipt}
use Rattle.board_core.specs.Answers.{Finishes, IsStranger}
use Rattle.page_core.specs.Lists.{Every, EachPair, Among}
use Rattle.page_core.specs.ObjectCalls.{RunningCall, WaitingCall, Noted}
use Rattle.board_core.specs.Board.{Board, ended, entry_of, published}
use Rattle.board_core.specs.Chain.{ShowContents, IsTrueEntry}
use Rattle.board_core.specs.Laws.{TruthIsNoted}
use Rattle.board_core.specs.Outcomes.{IsOf}
use Rattle.board_core.specs.Started.{HasStarted, Settles}
use Rattle.board_core.specs.Sound.{IsSound, kinds_of}
use Rattle.board_core.proofs.BoardLaws.{pins_stay}
use Rattle.board_core.proofs.Published.{length-published, published_there, published_elsewhere, done_twice}
use Rattle.page_core.proofs.Lists.{Every-at, Every-snoc, Every-filter, EachPair-filter, filter_one, eqb_same}
use Rattle.world_core.specs.declared.slot.Slot.{Slot}
use Rattle.world_core.specs.declared.stage.WorldTables.{WorldTables}
use Rattle.world_core.specs.Answers.{Leaves}
use Rattle.world_core.specs.Scene.{Standing, call_running}
use Rattle.world_core.specs.Kept.{IsKept, ArePinsShort, IsReady, IsStaged, HasNew, standing_of, scene_of}
use Rattle.world_core.proofs.Places.{some_is, one_place, within, all_taken}
use Rattle.world_core.proofs.Settling.{kept_settled, has_new}
use Rattle.world_core.proofs.Stepping.{run_whole}
use Rattle.world_core.proofs.Wholes.{call_whole}

-- not of this number
abbrev pub is_other : ℕ → Call → Bool
is_other n call = not (call.number == n)

abbrev call_of_slot : Slot → Call
call_of_slot slot = run_call slot.run

filter_map-cond : {X Y : Type 0} (f : X → Y) (b : Bool) (x : X) (xs : List X) → map f (cond b (x ∷ xs) xs) ≡ cond b (f x ∷ map f xs) (map f xs)
filter_map-cond f true x xs = refl
filter_map-cond f false x xs = refl

-- what is left of images is the image of what is left
pub filter_map : {X Y : Type 0} (f : X → Y) (p : Y → Bool) (xs : List X) → map f (filter (λ x. p (f x)) xs) ≡ filter p (map f xs)
filter_map f p [] = refl
filter_map f p (x ∷ xs) = filter_map-cond f (p (f x)) x (filter (λ y. p (f y)) xs) ∙ ap (λ ys. cond (p (f x)) (f x ∷ ys) ys) (filter_map f p xs)

every_map : {X Y : Type 0} (f : X → Y) (P : Y → Type 0) (xs : List X) → Every (λ x. P (f x)) xs → Every P (map f xs)
every_map f P [] all = tt
every_map f P (x ∷ xs) all = (all.0, every_map f P xs all.1)

every_unmap : {X Y : Type 0} (f : X → Y) (P : Y → Type 0) (xs : List X) → Every P (map f xs) → Every (λ x. P (f x)) xs
every_unmap f P [] all = tt
every_unmap f P (x ∷ xs) all = (all.0, every_unmap f P xs all.1)

pub pairs_map : {X Y : Type 0} (f : X → Y) (R : Y → Y → Type 0) (xs : List X) → EachPair (λ x y. R (f x) (f y)) xs → EachPair R (map f xs)
pairs_map f R [] pairs = tt
pairs_map f R (x ∷ xs) pairs = (every_map f (R (f x)) xs pairs.0, pairs_map f R xs pairs.1)

pub pairs_unmap : {X Y : Type 0} (f : X → Y) (R : Y → Y → Type 0) (xs : List X) → EachPair R (map f xs) → EachPair (λ x y. R (f x) (f y)) xs
pairs_unmap f R [] pairs = tt
pairs_unmap f R (x ∷ xs) pairs = (every_unmap f (R (f x)) xs pairs.0, pairs_unmap f R xs pairs.1)

pub at_map : {X Y : Type 0} (f : X → Y) (xs : List X) (k : ℕ) (x : X) → slice_get xs k ≡ Some x → slice_get (map f xs) k ≡ Some (f x)
at_map f [] k x at = absurd cc
at_map f (y ∷ xs) zero x at = ap (λ z. Some (f z)) (some_is at)
at_map f (y ∷ xs) (suc k) x at = at_map f xs k x at

pub at_unmap : {X Y : Type 0} (f : X → Y) (xs : List X) (k : ℕ) (y : Y) → slice_get (map f xs) k ≡ Some y → (x : X) × (slice_get xs k ≡ Some x) × (f x ≡ y)
at_unmap f [] k y at = absurd cc
at_unmap f (x ∷ xs) zero y at = (x, refl, some_is at)
at_unmap f (x ∷ xs) (suc k) y at = at_unmap f xs k y at

among_place : {X : Type 0} (xs : List X) (x : X) → Among x xs → (k : ℕ) × (slice_get xs k ≡ Some x)
among_place [] x here = absurd here
among_place (y ∷ xs) x here = elim here [ inl same ↦ (zero, ap (λ z. Some z) same) | inr later ↦ (let rest = among_place xs x later in (suc rest.0, rest.1)) ]

other_true : (m n : ℕ) → m ≢ n → not (m == n) ≡ true
other_true m n apart = ap not (ne_eqb m n apart)

-- The calls of the runs are those of the running calls, each of another number.
pub record IsPaired (running : List RunningCall) (runs : List Slot) : Type 0 where
  pub calls : map call_of_slot runs ≡ map call_running running
  pub apart : EachPair (λ (x y : RunningCall). x.number ≢ y.number) running

slots_apart : (running : List RunningCall) (runs : List Slot) → IsPaired running runs → EachPair (λ (x y : Slot). (call_of_slot x).number ≢ (call_of_slot y).number) runs
slots_apart running runs paired =
    pairs_unmap call_of_slot (λ (c d : Call). c.number ≢ d.number) runs
    (subst (EachPair (λ (c d : Call). c.number ≢ d.number)) (sym paired.calls) (pairs_map call_running (λ (c d : Call). c.number ≢ d.number) running paired.apart))

-- the running call of the run at a place
pub call_there : (running : List RunningCall) (runs : List Slot) (k : ℕ) (slot : Slot) → IsPaired running runs → slice_get runs k ≡ Some slot → (r : RunningCall) × (slice_get running k ≡ Some r) × (call_running r ≡ run_call slot.run)
call_there running runs k slot paired at = at_unmap call_running running k (run_call slot.run) (subst (λ cs. slice_get cs k ≡ Some (run_call slot.run)) paired.calls (at_map call_of_slot runs k slot at))

-- it is the one of its number
pub call_is : (running : List RunningCall) (runs : List Slot) (k : ℕ) (slot : Slot) (r : RunningCall) → IsPaired running runs → slice_get runs k ≡ Some slot → Among r running → r.number ≡ (run_call slot.run).number → run_call slot.run ≡ call_running r
call_is running runs k slot r paired at here number =
    let there = call_there running runs k slot paired at in
    let place = among_place running r here in
    let same : k ≡ place.0 = one_place (λ (x : RunningCall). x.number) running k place.0 there.0 r paired.apart there.1 place.1 (ap (λ (c : Call). c.number) there.2 ∙ sym number) in
    sym there.2 ∙ ap call_running (some_is (sym there.1 ∙ subst (λ j. slice_get running j ≡ Some r) (sym same) place.1))

-- without the run at a place, those of other numbers are left
pub others_left : (running : List RunningCall) (runs : List Slot) (k n : ℕ) (slot : Slot) → IsPaired running runs → slice_get runs k ≡ Some slot → (run_call slot.run).number ≡ n
    → take k runs ++ drop (suc k) runs ≡ filter (λ (s : Slot). is_other n (call_of_slot s)) runs
others_left running runs k n slot paired at number =
    filter_one (λ (s : Slot). is_other n (call_of_slot s)) runs k slot at (ap (λ m. not (m == n)) number ∙ ap not (eqb_same n))
    (apart_from runs (slots_apart running runs paired))
  where
    from_one : (x : Slot) (xs : List Slot) → Every (λ (y : Slot). (call_of_slot x).number ≢ (call_of_slot y).number) xs
        → Every (λ (z : Slot). (x ≡ slot → is_other n (call_of_slot z) ≡ true) × (z ≡ slot → is_other n (call_of_slot x) ≡ true)) xs
    from_one x [] all = tt
    from_one x (y ∷ xs) all =
        let num : Slot → ℕ = λ s. (call_of_slot s).number in (
          (λ is. other_true (num y) n (λ same. all.0 (ap num is ∙ number ∙ sym same)), λ is. other_true (num x) n (λ same. all.0 (same ∙ sym number ∙ sym (ap num is)))),
          from_one x xs all.1,
        )

    apart_from : (xs : List Slot) → EachPair (λ (x y : Slot). (call_of_slot x).number ≢ (call_of_slot y).number) xs
        → EachPair (λ (x z : Slot). (x ≡ slot → is_other n (call_of_slot z) ≡ true) × (z ≡ slot → is_other n (call_of_slot x) ≡ true)) xs
    apart_from [] pairs = tt
    apart_from (x ∷ xs) pairs = (from_one x xs pairs.0, apart_from xs pairs.1)

-- and they are the runs of the calls that still run
pub calls_left : (running : List RunningCall) (runs : List Slot) (n : ℕ) → map call_of_slot runs ≡ map call_running running
    → map call_of_slot (filter (λ (s : Slot). is_other n (call_of_slot s)) runs) ≡ map call_running (filter (λ (r : RunningCall). not (r.number == n)) running)
calls_left running runs n calls = filter_map call_of_slot (is_other n) runs ∙ ap (filter (is_other n)) calls ∙ sym (filter_map call_running (is_other n) running)

pub standing_left : (runs : List Slot) (n : ℕ) → map standing_of (filter (λ (s : Slot). is_other n (call_of_slot s)) runs) ≡ filter (λ (s : Standing). not (s.call.number == n)) (map standing_of runs)
standing_left runs n = filter_map standing_of (λ (s : Standing). not (s.call.number == n)) runs

length_map : {X Y : Type 0} (f : X → Y) (xs : List X) → length (map f xs) ≡ length xs
length_map f [] = refl
length_map f (x ∷ xs) = ap suc (length_map f xs)

-- the pin of a part, after new ones were published: a new one, or the one that was there
published_by : (pins : List (List Stamp)) (news : List PartPin) (p : ℕ) (pages : List Stamp) (found : Option (List Stamp)) → pin_at news p ≡ found → slice_get (published pins news) p ≡ Some pages
    → (pin_at news p ≡ Some pages) ⊎ (slice_get pins p ≡ Some pages)
published_by pins news p pages None none at = inr (sym (published_elsewhere pins news p none) ∙ at)
published_by pins news p pages (Some new) there at =
    inl (there ∙ sym (published_there pins news p new there (omega (arith, length-published pins news, within (published pins news) p pages at))) ∙ at)

-- what holds of each pin, and of each new one, holds of each after those were published
pub published_each : (P : List Stamp → Type 0) (pins : List (List Stamp)) (news : List PartPin) → ((p : ℕ) (pages : List Stamp) → slice_get pins p ≡ Some pages → P pages) → ((p : ℕ) (pages : List Stamp) → pin_at news p ≡ Some pages → P pages)
    → (p : ℕ) (pages : List Stamp) → slice_get (published pins news) p ≡ Some pages → P pages
published_each P pins news all new p pages at = elim (published_by pins news p pages (pin_at news p) refl at) [ inl here ↦ new p pages here | inr there ↦ all p pages there ]

served_in : (serves : Stamp → Type 0) (stamps : List Stamp) (stamp : Stamp) → AreAllServed serves stamps → IsIn stamp stamps → serves stamp
served_in serves [] stamp all here = absurd here
served_in serves (first ∷ more) stamp all (inl same) = subst serves same all.0
served_in serves (first ∷ more) stamp all (inr later) = served_in serves more stamp all.1 later

-- Each page of a new pin can be read: it was sealed, or it is a page of the pin that was published.
news_served : (serves : Stamp → Type 0) (pins : List (List Stamp)) (a : Assignment) (call : Call) (reply : Reply) (sealed : List Stamp) (news : List PartPin) (gone : List Stamp) → ArePinsServed serves pins → AreAllServed serves sealed
    → ((p : ℕ) → pin_at (if_done reply news) p ≢ None → slice_get pins p ≡ pin_at call.pins p) → IsRenewedBy a call reply sealed news gone
    → (p : ℕ) (pages : List Stamp) → pin_at (if_done reply news) p ≡ Some pages → AreServed serves pages
news_served serves pins a call (Done value) sealed news gone served written stay renewed p pages here = λ k stamp at.
    elim (new_pins_are_old_or_sealed call.pins renewed.read renewed.changes sealed news gone renewed.pins p k pages stamp here at) [
      | inl old ↦ served p old.0 (stay p (λ none. (let is = sym here ∙ none in cc)) ∙ old.1) k stamp old.2
      | inr new ↦ served_in serves sealed stamp written new
    ]
news_served serves pins a call (Refused word) sealed news gone served written stay renewed p pages here = absurd cc
news_served serves pins a call (Failed failure) sealed news gone served written stay renewed p pages here = absurd cc

-- what an outcome of a running call publishes
pub record IsPublished (files : List File) (o : Outcome) : Type 0 where
  pub served : (p : ℕ) (pages : List Stamp) → pin_at (outcome_pins o) p ≡ Some pages → AreServed (λ s. Serves files s) pages
  pub short : (p : ℕ) (pages : List Stamp) → pin_at (outcome_pins o) p ≡ Some pages → length pages ≤ most_pages

-- what an outcome tells of its run
pub record TellsOf (slot : Slot) (o : Outcome) : Type 0 where
  pub call : outcome_call o ≡ run_call slot.run
  pub sealed : outcome_sealed o ≡ run_sealed slot.run
  pub told : (a : Assignment) → SoFar a slot.run → IsTrueOf a (outcome_call o) (outcome_reply o) (outcome_pins o)
  pub renewed : (a : Assignment) → SoFar a slot.run → PinsAreWhole a (outcome_call o) → IsRenewedBy a (outcome_call o) (outcome_reply o) (outcome_sealed o) (outcome_news o) (outcome_gone o)
  pub writes : (p : ℕ) → pin_at (outcome_pins o) p ≢ None → Writes (body_of (outcome_call o).operation).statements p
  pub short : (p : ℕ) (pages : List Stamp) → pin_at (outcome_pins o) p ≡ Some pages → length pages ≤ most_pages

is_published : (b : Board) (files : List File) (runs : List Slot) (values : List Contents) (slot : Slot) (r : RunningCall) (o : Outcome) → IsKept b files runs values → IsReady files slot → Among r b.running → run_call slot.run ≡ call_running r → TellsOf slot o
    → IsPublished files o
is_published b files runs values slot r o kept ready among call tells = record {
  served = news_served (λ s. Serves files s) b.pins some.0 (outcome_call o) (outcome_reply o) (outcome_sealed o) (outcome_news o) (outcome_gone o) kept.served
      (subst (λ (stamps : List Stamp). AreAllServed (λ s. Serves files s) stamps) (sym tells.sealed) ready.written)
      (λ p new. subst (λ (c : Call). slice_get b.pins p ≡ pin_at c.pins p) (sym same)
      ((pins_stay b kept.sound r among p).1 (subst (λ (c : Call). Writes (body_of c.operation).statements p) same (tells.writes p new))))
      (tells.renewed some.0 (ready.found some.0 some.1) (subst (PinsAreWhole some.0) (sym same) (call_whole b files runs values r some.0 kept among some.1)));
  short = tells.short;
} where
  some : (a : Assignment) × HasFiles files a
  some = some_map files

  same : outcome_call o ≡ call_running r
  same = tells.call ∙ call

-- what an end changes of a board
pub record IsEnded (b between : Board) (e : Noted) : Type 0 where
  pub object : between.object ≡ b.object
  pub running : between.running ≡ filter (λ (r : RunningCall). not (r.number == e.number)) b.running
  pub trace : between.trace ≡ b.trace ++ End e.number e.reply ∷ []
  pub history : between.history ≡ b.history ++ e ∷ []
  pub opening : between.opening ≡ b.opening
  pub pins : between.pins ≡ published b.pins (if_done e.reply e.news)

pub ended_is : (b : Board) (e : Noted) → IsEnded b (ended b e) e
unfolding ended
ended_is b e = record { object = refl; running = refl; trace = refl; history = refl; opening = refl; pins = refl }

-- an entry of what was staged is that of what was staged if it was done
entry_same : (r : RunningCall) (reply : Reply) (news : List PartPin) → entry_of r reply (if_done reply news) ≡ entry_of r reply news
entry_same r (Done value) news = refl
entry_same r (Refused word) news = refl
entry_same r (Failed failure) news = refl

-- after a finish the runs that are left are kept
pub finished_kept : (old between settled : Board) (ones : List WaitingCall) (files : List File) (runs left : List Slot) (values : List Contents) (k : ℕ) (slot : Slot) (r : RunningCall) (o : Outcome) → TruthIsNoted
    → IsKept old files runs values → length runs ≡ length old.running → slice_get runs k ≡ Some slot → left ≡ filter (λ (s : Slot). is_other r.number (call_of_slot s)) runs
    → IsPublished files o → ((a : Assignment) → HasFiles files a → IsTrueOf a (outcome_call o) (outcome_reply o) (outcome_pins o)) → IsOf (outcome_call o) r
    → IsEnded old between (entry_of r (outcome_reply o) (outcome_news o)) → HasStarted between ones settled → IsSound settled
    → (length left ≡ length between.running) × IsKept settled files left values
finished_kept old between settled ones files runs left values k slot r o law kept all at is published_so truth same end started sound =
    let whole : take (length runs) old.running ≡ old.running = ap (λ j. take j old.running) all ∙ all_taken old.running in
    let calls : map call_of_slot left ≡ map call_running between.running =
    ap (map call_of_slot) is ∙ calls_left old.running runs r.number (kept.calls ∙ ap (map call_running) whole) ∙ ap (map call_running) (sym end.running) in
    let count : length left ≡ length between.running = sym (length_map call_of_slot left) ∙ ap (λ (cs : List Call). length cs) calls ∙ length_map call_running between.running in
    let pins : between.pins ≡ published old.pins (outcome_pins o) = end.pins ∙ ap (published old.pins) (done_twice (outcome_reply o) (outcome_news o)) in
    let entry : (a : Assignment) → HasFiles files a → IsTrueEntry a (entry_of r (outcome_reply o) (outcome_news o)) =
    λ a agrees. subst (IsTrueEntry a) (entry_same r (outcome_reply o) (outcome_news o)) (law a (outcome_call o) r (outcome_reply o) (outcome_pins o) same (truth a agrees)) in (
      count,
      kept_settled between settled ones files left values started sound
          (subst (Every (λ (x : RunningCall). x.taken ≡ true)) (sym end.running) (Every-filter (λ (x : RunningCall). x.taken ≡ true) (λ (x : RunningCall). not (x.number == r.number)) old.running (subst (Every (λ (x : RunningCall). x.taken ≡ true)) whole kept.taken)))
          calls count
          (subst (Every (IsReady files)) (sym is) (Every-filter (IsReady files) (λ (s : Slot). is_other r.number (call_of_slot s)) runs kept.ready))
          (subst (EachPair (λ (x y : Slot). AreApart x.run y.run)) (sym is) (EachPair-filter (λ (x y : Slot). AreApart x.run y.run) (λ (s : Slot). is_other r.number (call_of_slot s)) runs kept.apart))
          (subst (ArePinsServed (λ s. Serves files s)) (sym pins) (published_each (AreServed (λ s. Serves files s)) old.pins (outcome_pins o) kept.served published_so.served))
          (subst ArePinsShort (sym pins) (published_each (λ (pages : List Stamp). length pages ≤ most_pages) old.pins (outcome_pins o) kept.short published_so.short))
          (λ a agrees. subst (λ ob. ShowContents a (kinds_of ob) between.opening values) (sym end.object) (subst (λ pins. ShowContents a (kinds_of old.object) pins values) (sym end.opening) (kept.opening a agrees)))
          (λ a agrees. subst (Every (IsTrueEntry a)) (sym end.history) (Every-snoc (IsTrueEntry a) old.history (entry_of r (outcome_reply o) (outcome_news o)) (kept.entries a agrees) (entry a agrees))),
    )

-- a finish of the run at a place, all that it leaves
pub record IsFinish (old : WorldTables) (slot : Slot) (o : Outcome) (left : List Slot) (from : ℕ) (settled : Board) : Type 0 where
  pub r : RunningCall
  pub runs : Among r old.desk.running
  pub call : run_call slot.run ≡ call_running r
  pub settles : Settles (ended old.desk (entry_of r (outcome_reply o) (outcome_news o))) settled
  pub standing : map standing_of left ≡ filter (λ (s : Standing). not (s.call.number == slot.number)) (map standing_of old.runs.items)
  pub kept : IsKept settled (files_of old.hand) left old.opening.items
  pub has : HasNew settled (length left) from settles.ones
  pub longer : from ≤ length settled.trace

pub finish_is : (law : TruthIsNoted) (old : WorldTables) (k from : ℕ) (slot : Slot) (o : Outcome) (left : List Slot) (receipt : Receipt) (settled : Board) → IsStaged old → slice_get old.runs.items k ≡ Some slot
    → left ≡ take k old.runs.items ++ drop (k + 1) old.runs.items → from ≡ length old.desk.trace + 1
    → TellsOf slot o → Finishes old.desk o receipt settled → IsSound settled → IsFinish old slot o left from settled
finish_is law old k from slot o left receipt settled staged at cut before tells finishes sound =
    let kept = staged.kept in
    let whole : take (length old.runs.items) old.desk.running ≡ old.desk.running = ap (λ j. take j old.desk.running) staged.all ∙ all_taken old.desk.running in
    let paired : IsPaired old.desk.running old.runs.items = record { calls = kept.calls ∙ ap (map call_running) whole; apart = kept.sound.counted.apart } in
    let ready : IsReady (files_of old.hand) slot = Every-at (IsReady (files_of old.hand)) old.runs.items k slot kept.ready at in
    let r : RunningCall = finishes.call in
    let number : r.number ≡ (run_call slot.run).number = finishes.is.number ∙ ap (λ (c : Call). c.number) tells.call in
    let same : slot.number ≡ r.number = ready.number ∙ sym number in
    let next : k + 1 ≡ suc k = omega arith in
    let is : left ≡ filter (λ (s : Slot). is_other r.number (call_of_slot s)) old.runs.items =
    cut ∙ ap (λ j. take k old.runs.items ++ drop j old.runs.items) next ∙ others_left old.desk.running old.runs.items k r.number slot paired at (sym number) in
    let entry : Noted = entry_of r (outcome_reply o) (outcome_news o) in
    let end : IsEnded old.desk (ended old.desk entry) entry = ended_is old.desk entry in
    let own : run_call slot.run ≡ call_running r = call_is old.desk.running old.runs.items k slot r paired at finishes.runs number in
    let published_so : IsPublished (files_of old.hand) o = is_published old.desk (files_of old.hand) old.runs.items old.opening.items slot r o kept ready finishes.runs own tells in
    let all = finished_kept old.desk (ended old.desk entry) settled finishes.settles.ones (files_of old.hand) old.runs.items left old.opening.items k slot r o law kept staged.all at is
    published_so (λ a agrees. tells.told a (ready.found a agrees)) finishes.is end finishes.settles.started sound in
    let has : HasNew settled (length left) from finishes.settles.ones =
    has_new (ended old.desk entry) settled (length left) from finishes.settles.ones finishes.settles.started all.0
    (before ∙ sym (ap (λ (es : List TraceEvent). length es) end.trace ∙ length-append old.desk.trace (End entry.number entry.reply ∷ []))) in
    record {
      r = r;
      runs = finishes.runs;
      call = own;
      settles = finishes.settles;
      standing = ap (map standing_of) is ∙ standing_left old.runs.items r.number ∙ ap (λ n. filter (λ (s : Standing). not (s.call.number == n)) (map standing_of old.runs.items)) (sym same);
      kept = all.1;
      has = has;
      longer = has.within;
    }

-- what the run of a finished call leaves
pub finish_leaves : (old : WorldTables) (k : ℕ) (slot : Slot) (o : Outcome) → IsStaged old → slice_get old.runs.items k ≡ Some slot → TellsOf slot o → Leaves (scene_of old) (standing_of slot) (outcome_reply o) (outcome_news o)
finish_leaves old k slot o staged at tells =
    let ready : IsReady (files_of old.hand) slot = Every-at (IsReady (files_of old.hand)) old.runs.items k slot staged.kept.ready at in
    let sealed : outcome_sealed o ≡ sealed_at (run_place slot.run) = tells.sealed ∙ sealed_by_place slot.run in
    record {
      gone = outcome_gone o;
      renewed = λ a agrees. subst (λ (stamps : List Stamp). IsRenewedBy a (run_call slot.run) (outcome_reply o) stamps (outcome_news o) (outcome_gone o)) sealed
          (subst (λ (c : Call). IsRenewedBy a c (outcome_reply o) (outcome_sealed o) (outcome_news o) (outcome_gone o)) tells.call (tells.renewed a (ready.found a agrees) (subst (PinsAreWhole a) (sym tells.call) (run_whole old.desk (files_of old.hand) old.runs.items old.opening.items k slot a staged.kept at agrees))));
    }

-- an outcome of a run is that of its call, and was not handed in
pub no_stranger : (old : WorldTables) (k : ℕ) (slot : Slot) (o : Outcome) → IsStaged old → slice_get old.runs.items k ≡ Some slot → outcome_call o ≡ run_call slot.run → IsFresh o → IsStranger old.desk o → ⊥
no_stranger old k slot o staged at call fresh (inl used) = used fresh
no_stranger old k slot o staged at call fresh (inr none) =
    let kept = staged.kept in
    let whole : take (length old.runs.items) old.desk.running ≡ old.desk.running = ap (λ j. take j old.desk.running) staged.all ∙ all_taken old.desk.running in
    let paired : IsPaired old.desk.running old.runs.items = record { calls = kept.calls ∙ ap (map call_running) whole; apart = kept.sound.counted.apart } in
    let there = call_there old.desk.running old.runs.items k slot paired at in
    let r : RunningCall = there.0 in
    let same : call_running r ≡ outcome_call o = there.2 ∙ sym call in
    Every-at (λ (x : RunningCall). IsOf (outcome_call o) x → ⊥) old.desk.running k r none there.1 (subst (λ d. IsOf d r) same (record { number = refl; operation = refl; arguments = refl; pins = refl }))
