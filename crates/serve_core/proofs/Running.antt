-- What a server writes, and how it ends.
use Rattle.std.proofs.Common.{◌≡◌, ◌∙◌, ap, sym, subst, refl, arith, inl, inr, ℕ, List, [], ◌∷◌, ◌++◌, length, Bool, true, false, cond, Option, Some, None, Result, Ok, Err}
use Rattle.std.specs.Prelude.{IfOk}
use Rattle.std.specs.FinMap.{empty}
use Rattle.std.specs.List.{concat}
use Rattle.std.specs.Io.KnownBytes.{Appends, Keeps}
use Rattle.std.proofs.lemmas.Bool.{true≢false}
use Rattle.std.proofs.lemmas.List.{length-map}
use Rattle.keep_core.specs.declared.close.Closing.{Closing}
use Rattle.keep_core.specs.declared.open.NotOpened.{NotOpened}
use Rattle.keep_core.specs.declared.open.NotOpened.TheVariants.{Damaged, Fault}
use Rattle.keep_core.specs.declared.opening.ObjectOpening.{ObjectOpening}
use Rattle.value_core.specs.declared.machine.LinesFault.{LinesFault}
use Rattle.value_core.specs.declared.machine.LinesFault.TheVariants.{Memory}
use Rattle.device_core.specs.Device.{Assignment}
use Rattle.device_core.specs.Papers.{Papers}
use Rattle.decl_core.specs.declared.object.Object.{Object}
use Rattle.decl_core.specs.ObjectMap.{object_names}
use Rattle.page_core.specs.Lists.{Every}
use Rattle.value_core.proofs.Known.{Appends-none}
use Rattle.keep_core.specs.Lines.{AreSaid, damaged_lines, entries_line, entries_lines, refused_line}
use Rattle.keep_core.specs.Kept.{refused_by}
use Rattle.keep_core.specs.Ends.{Ended, IsAtEnd, kept_in, lines_of}
use Rattle.keep_core.proofs.Law.{kept_is_history, opening_is_legal}
use Rattle.keep_core.proofs.Telling.{nothing_said, said_then, said_as, second_none, met_not}
use Rattle.serve_core.specs.declared.serve.ServeEnd.{ServeEnd}
use Rattle.serve_core.specs.declared.serve.ServeEnd.TheVariants.{Whole, Refused, Unopened}
use Rattle.serve_core.specs.Ends.{IsEndOf}
use Rattle.serve_core.specs.Backed.{AreBacked}
use Rattle.serve_core.specs.Gathers.{none_of, IsGathered}
use Rattle.keep_core.specs.Moments.{Moment}
use Rattle.serve_core.specs.Opened.{AreLoadedAll, ArePinnedAll}
use Rattle.serve_core.specs.Closes.{openings_of, slips_of, AreBackedAll, IsFromOpening, IsLegalBy, lines_all, entries_all, refused_all, IsWhole}
use Rattle.serve_core.specs.Runs.{listening_line, fault_of_end, GathersAndCloses, AreServed, AreNotServed, IsDamagedLine, IsFirstDamagedLine, IsNotOpenedOf, IsLineOf, IsUnservedBy, IsRunOf, IsRunIn, IsRefusedBy, IsEndBehind}
use Rattle.serve_core.proofs.Openings.{pinned_as}

-- the lines of an object that was closed, saved and traced, and has no damaged part
whole_lines : (e : Ended) → IsWhole e → lines_of e ≡ entries_line e.name (length e.board.history) ∷ []
whole_lines e ((closed, saved, traced), none) =
    let kept : kept_in e.became ≡ true =
    ap (λ (v : Bool). cond v (cond e.became.saved e.became.traced false) false) closed ∙ ap (λ (v : Bool). cond v e.became.traced false) saved ∙ traced in
    ap (λ (v : Bool). cond v [] (refused_line e.name ∷ []) ++ (damaged_lines e.board.object e.damaged ++ entries_lines (kept_in e.became) e.name (length e.board.history))) closed
    ∙ ap (λ (ds : List ℕ). damaged_lines e.board.object ds ++ entries_lines (kept_in e.became) e.name (length e.board.history)) none
    ∙ ap (λ (v : Bool). entries_lines v e.name (length e.board.history)) kept

whole_all : (ends : List Ended) → Every IsWhole ends → lines_all ends ≡ entries_all ends
whole_all [] all = refl
whole_all (e ∷ ends) (one, all) = ap (λ (ls : List (List ℕ)). ls ++ lines_all ends) (whole_lines e one) ∙ ap (λ (ls : List (List ℕ)). entries_line e.name (length e.board.history) ∷ ls) (whole_all ends all)

-- the end of what was noted
abbrev is_refused : Result ServeEnd LinesFault → Bool
is_refused (Ok Whole) = false
is_refused (Ok Refused) = true
is_refused (Ok Unopened) = false
is_refused (Err fault) = false

data_whole : (fault : Option LinesFault) (refused : Bool) (end : Result ServeEnd LinesFault) → IsEndOf fault refused end → end ≡ Ok Whole → (fault ≡ None) × (refused ≡ false)
data_whole (Some f) refused end is whole = met_not (ap fault_of_end (sym is ∙ whole))
data_whole None true end is whole = absurd (true≢false (ap is_refused (sym is ∙ whole)))
data_whole None false end is whole = (refl, refl)

-- no fault is in the end only where none was noted
end_quiet : (fault : Option LinesFault) (refused : Bool) (end : Result ServeEnd LinesFault) → IsEndOf fault refused end → fault_of_end end ≡ None → fault ≡ None
end_quiet (Some f) refused end is none = met_not (sym (ap fault_of_end is) ∙ none)
end_quiet None refused end is none = refl

apart_all : (refused : Bool) (ends : List Ended) → refused_all refused ends ≡ false → refused_all false ends ≡ false
apart_all false ends is = is
apart_all true ends is = absurd (true≢false (sym (stays ends) ∙ is)) where
  stays : (ends : List Ended) → refused_all true ends ≡ true
  stays [] = refl
  stays (e ∷ ends) = ap (λ (r : Bool). refused_all r ends) (still e.became.closed e.damaged) ∙ stays ends where
    still : (closed : Bool) (damaged : List ℕ) → cond closed (refused_by true damaged) true ≡ true
    still true [] = refl
    still true (place ∷ damaged) = refl
    still false damaged = refl

-- by the hands of its sessions the history of an object is legal
legal_one : {H : Type 0} (backs : H → Assignment → Type 0) (e : Ended) → IsAtEnd e → AreBacked backs e.slips → IsLegalBy backs e
legal_one backs e ended (hands, backed) = record {
  hands = hands;
  backed = backed;
  legal = λ closed a all contents shows. (kept_is_history a e empty empty contents ended closed (backed a all) shows).0;
}

legal_all : {H : Type 0} (backs : H → Assignment → Type 0) (ends : List Ended) → Every IsAtEnd ends → AreBackedAll backs ends → Every (IsLegalBy backs) ends
legal_all backs [] each backed = tt
legal_all backs (e ∷ ends) (one, each) (back, backed) = (legal_one backs e one back, legal_all backs ends each backed)

-- so it is from the values with which its parts opened
from_opening : (agrees : Assignment → Type 0) (a : Assignment) (objects : List Object) (ends : List Ended) → agrees a → Every IsAtEnd ends → ArePinnedAll agrees objects (openings_of ends) → Every (IsFromOpening a) ends
from_opening agrees a [] [] is each pinned = tt
from_opening agrees a (o ∷ objects) (e ∷ ends) is (one, each) (here, pinned) =
    (λ closed hold. (opening_is_legal a e o.parts.items one closed hold (here a is)).1, from_opening agrees a objects ends is each pinned)
from_opening agrees a [] (e ∷ ends) is each pinned = absurd pinned
from_opening agrees a (o ∷ objects) [] is each pinned = absurd pinned

-- what closes objects is still as it was
pub still_pinned : {S T K : Type 0} {old new : Closing S T K} (agrees : K → Assignment → Type 0) (objects : List Object) (openings : List ObjectOpening) → new ≡ old → ArePinnedAll (agrees old.hand) objects openings → ArePinnedAll (agrees new.hand) objects openings
still_pinned {S = S} {T = T} {K = K} agrees objects openings same pinned = subst (λ (c : Closing S T K). ArePinnedAll (agrees c.hand) objects openings) (sym same) pinned

pub still_parts : {S T K : Type 0} {old new : Closing S T K} (holds : S → Papers → Type 0) (papers : Papers) → new ≡ old → holds new.parts papers → holds old.parts papers
still_parts {S = S} {T = T} {K = K} holds papers same at = subst (λ (c : Closing S T K). holds c.parts papers) same at

pub still_traces : {S T K : Type 0} {old new : Closing S T K} (holds : T → Papers → Type 0) (papers : Papers) → new ≡ old → holds new.traces papers → holds old.traces papers
still_traces {S = S} {T = T} {K = K} holds papers same at = subst (λ (c : Closing S T K). holds c.traces papers) same at

-- objects that were served and closed
pub run_served : {H : Type 0} {backs : H → Assignment → Type 0} {before mid after : Moment} {openings : List ObjectOpening} {were are : List H} (objects : List Object) (names : List (List ℕ)) (end : Result ServeEnd LinesFault) → (place : List ℕ) → AreSaid (listening_line place ∷ []) None before.written mid.written →
    GathersAndCloses backs mid after names openings → names ≡ object_names objects → ArePinnedAll mid.files objects openings → ((papers : Papers) → mid.parts papers → AreLoadedAll papers objects openings) → ((papers : Papers) → mid.parts papers → before.parts papers) →
    ((papers : Papers) → mid.traces papers → before.traces papers) → IsEndOf after.trouble.fault after.trouble.refused end → IsRunIn backs before after were are objects end
run_served {H = H} {backs = backs} {before = before} {mid = mid} {after = after} {openings = openings} objects names end place listens s same pinned loaded papers traces is =
    let ends : List Ended = s.closes.ends in
    let all = s.closes.endings in
    let met_none : fault_of_end end ≡ None → all.met ≡ None = λ none. second_none s.gathered.fault all.met (sym all.fault ∙ end_quiet after.trouble.fault after.trouble.refused end is none) in
    let said : AreSaid (listening_line place ∷ lines_all ends) (fault_of_end end) before.written after.written = said_then listens all.said (λ none. refl) met_none in
    let whole : end ≡ Ok Whole → Every IsWhole ends × Appends before.written after.written (concat (listening_line place ∷ entries_all ends)) = λ done.
    let quiet = data_whole after.trouble.fault after.trouble.refused end is done in
    let each : Every IsWhole ends = all.whole (second_none s.gathered.fault all.met (sym all.fault ∙ quiet.0)) (apart_all s.gathered.refused ends (sym all.refused ∙ quiet.1)) in
    let text : said.text ≡ concat (listening_line place ∷ entries_all ends) = said.whole (ap fault_of_end done) ∙ ap (λ (ls : List (List ℕ)). concat (listening_line place ∷ ls)) (whole_all ends each) in
    (each, subst (Appends before.written after.written) text said.written) in
    let many : length names ≡ length objects = omega (arith, ap length same, length-map objects (λ (o : Object). o.name)) in
    let gathers : IsGathered H (none_of (length objects)) mid.trouble s.gathered (slips_of ends) =
    subst (λ (n : ℕ). IsGathered H (none_of n) mid.trouble s.gathered (slips_of ends)) many (subst (IsGathered H (none_of (length names)) mid.trouble s.gathered) (sym s.closes.slipped) s.gathers) in
    let opened : openings ≡ openings_of ends = sym s.closes.opened in
    let sealed : ArePinnedAll after.files objects (openings_of ends) = subst (ArePinnedAll after.files objects) opened (pinned_as mid.files after.files objects openings s.closes.files pinned) in
    inl (
      record {
        place = place;
        ends = ends;
        named = s.closes.named ∙ same;
        each = all.each;
        said = said;
        begun = mid.trouble;
        gathered = s.gathered;
        gathers = gathers;
        legal = legal_all backs ends all.each s.closes.backed;
        met = all.met;
        by = inl (subst (λ (f : Option LinesFault). IsEndOf f (refused_all s.gathered.refused ends) end) all.fault (subst (λ (r : Bool). IsEndOf after.trouble.fault r end) all.refused is));
        whole = whole;
      },
      record {
        pinned = sealed;
        legal = λ a is. from_opening after.files a objects ends is all.each sealed;
        stored = λ ps at.
            let so = all.stored ps at in
            (so.0, papers so.0 so.1, subst (AreLoadedAll so.0 objects) opened (loaded so.0 so.1), so.2);
        traced = λ ps at.
            let so = all.traced ps at in
            (so.0, traces so.0 so.1, so.2);
      },
    )

-- a fault came before any was served
pub run_failed : {old new : Option (List ℕ)} (damaged : List ℕ → Type 0) (fault : LinesFault) → (place : List ℕ) × AreSaid (listening_line place ∷ []) (Some fault) old new → AreNotServed damaged (Err fault) old new
run_failed damaged fault (place, said) = record { lines = listening_line place ∷ []; by = inr (inl (place, refl)); said = said }

-- a line was not told, with a fault
pub none_said : (line : List ℕ) (fault : LinesFault) (known : Option (List ℕ)) → AreSaid (line ∷ []) (Some fault) known known
none_said line fault known = record { text = []; fronts = (0, [], refl, refl); whole = λ quiet. met_not quiet; written = Appends-none known }

-- what stays is kept
pub keeps_same : (known : Option (List ℕ)) → Keeps known known
keeps_same None = tt
keeps_same (Some bytes) = refl

-- a text that says why, of other bytes that are the same
pub refused_as : {text wanted : List ℕ} {end : Result ServeEnd LinesFault} {old new : Option (List ℕ)} → text ≡ wanted → IsRefusedBy text end old new → IsRefusedBy wanted end old new
refused_as {end = end} {old = old} {new = new} same by = subst (λ (t : List ℕ). IsRefusedBy t end old new) same by

-- nothing was written
pub run_none : {old : Option (List ℕ)} (damaged : List ℕ → Type 0) (fault : LinesFault) → AreNotServed damaged (Err fault) old old
run_none {old = old} damaged fault = record { lines = []; by = inl refl; said = nothing_said (Some fault) old }

pub run_unopened : {old : Option (List ℕ)} (damaged : List ℕ → Type 0) → AreNotServed damaged (Ok Unopened) old old
run_unopened {old = old} damaged = record { lines = []; by = refl; said = nothing_said None old }

-- a part is damaged
pub run_damaged : {old new : Option (List ℕ)} (damaged : List ℕ → Type 0) (line : List ℕ) (end : Result ServeEnd LinesFault) → damaged line → IsRefusedBy line end old new → AreNotServed damaged end old new
run_damaged damaged line (Ok Whole) is by = absurd by.ends
run_damaged damaged line (Ok Refused) is by = record { lines = line ∷ []; by = (line, is, refl); said = by.said }
run_damaged damaged line (Ok Unopened) is by = absurd by.ends
run_damaged damaged line (Err fault) is by = record { lines = line ∷ []; by = inr (inr (line, is, refl)); said = by.said }

unserved_as : (one other : List ℕ → Type 0) (lines : List (List ℕ)) (end : Result ServeEnd LinesFault) → ((line : List ℕ) → one line → other line) → IsUnservedBy one lines end → IsUnservedBy other lines end
unserved_as one other lines (Ok Whole) follows by = by
unserved_as one other lines (Ok Refused) follows by = (by.0, follows by.0 by.1, by.2)
unserved_as one other lines (Ok Unopened) follows by = by
unserved_as one other lines (Err fault) follows (inl none) = inl none
unserved_as one other lines (Err fault) follows (inr (inl place)) = inr (inl place)
unserved_as one other lines (Err fault) follows (inr (inr by)) = inr (inr (by.0, follows by.0 by.1, by.2))

not_served_as : {old new : Option (List ℕ)} (one other : List ℕ → Type 0) (end : Result ServeEnd LinesFault) → ((line : List ℕ) → one line → other line) → AreNotServed one end old new → AreNotServed other end old new
not_served_as one other end follows run = record { lines = run.lines; by = unserved_as one other run.lines end follows run.by; said = run.said }

line_is : (holds : Papers → Type 0) (objects : List Object) (why : NotOpened) → IsNotOpenedOf holds objects why → (line : List ℕ) → IsLineOf why line → IsFirstDamagedLine holds objects line
line_is holds objects (Damaged text) not line is = subst (IsFirstDamagedLine holds objects) (sym is) not
line_is holds objects (Fault fault) not line is = absurd is

-- objects that are not opened
pub not_opened : {old new : Option (List ℕ)} (holds : Papers → Type 0) (objects : List Object) (why : NotOpened) (end : Result ServeEnd LinesFault) → IsNotOpenedOf holds objects why → AreNotServed (IsLineOf why) end old new → AreNotServed (IsFirstDamagedLine holds objects) end old new
not_opened holds objects why end not run = not_served_as (IsLineOf why) (IsFirstDamagedLine holds objects) end (line_is holds objects why not) run

-- what a server comes to, without what is stored
pub run_of : {H : Type 0} {backs : H → Assignment → Type 0} {before after : Moment} {were are : List H} {objects : List Object} {end : Result ServeEnd LinesFault} → IsRunIn backs before after were are objects end → IsRunOf backs objects end before.written after.written
run_of (inl run) = inl run.0
run_of {after = after} {objects = objects} {end = end} (inr run) = inr (not_served_as (IsFirstDamagedLine after.parts objects) (IsDamagedLine objects) end (λ line is. (is.0, is.1, is.2, is.3)) run.0)

-- memory was refused behind the end
unserved_failed : (damaged : List ℕ → Type 0) (lines : List (List ℕ)) (end : Result ServeEnd LinesFault) → IsUnservedBy damaged lines end → IsUnservedBy damaged lines (Err Memory)
unserved_failed damaged lines (Ok Whole) by = absurd by
unserved_failed damaged lines (Ok Refused) by = inr (inr by)
unserved_failed damaged lines (Ok Unopened) by = inl by
unserved_failed damaged lines (Err fault) by = by

served_memory : {H : Type 0} {backs : H → Assignment → Type 0} {old new : Option (List ℕ)} (objects : List Object) (end : Result ServeEnd LinesFault) → AreServed backs objects end old new → AreServed backs objects (Err Memory) old new
served_memory objects end run = record {
  place = run.place;
  ends = run.ends;
  named = run.named;
  each = run.each;
  said = said_as run.said (λ none. met_not none);
  begun = run.begun;
  gathered = run.gathered;
  gathers = run.gathers;
  legal = run.legal;
  met = run.met;
  by = inr refl;
  whole = λ done. met_not (ap fault_of_end done);
}

run_memory : {H : Type 0} {backs : H → Assignment → Type 0} {before after : Moment} {were are : List H} (objects : List Object) (end : Result ServeEnd LinesFault) → IsRunIn backs before after were are objects end → IsRunIn backs before after were are objects (Err Memory)
unfolding served_memory
run_memory objects end (inl (run, kept)) = inl (served_memory objects end run, kept)
run_memory {after = after} objects end (inr (run, same)) = inr (record { lines = run.lines; by = unserved_failed (IsFirstDamagedLine after.parts objects) run.lines end run.by; said = said_as run.said (λ none. met_not none) }, same)

pub run_behind : {H : Type 0} {backs : H → Assignment → Type 0} {before after : Moment} {were are : List H} (objects : List Object) (first end : Result ServeEnd LinesFault) → IsRunIn backs before after were are objects first → IsEndBehind first end → IsRunIn backs before after were are objects end
run_behind {backs = backs} {before = before} {after = after} {were = were} {are = are} objects first end run (inl same) = subst (IsRunIn backs before after were are objects) (sym same) run
run_behind {backs = backs} {before = before} {after = after} {were = were} {are = are} objects first end run (inr none) = subst (IsRunIn backs before after were are objects) (sym none) (run_memory {backs = backs} {before = before} {after = after} {were = were} {are = are} objects first run)

-- what a good result says, and what follows from that
pub if_ok : {X E : Type 0} {P Q : X → Type 0} (result : Result X E) → ((x : X) → P x → Q x) → IfOk result P → IfOk result Q
if_ok (Ok x) follows is = follows x is
if_ok (Err why) follows is = tt

pub any_ok : {X E : Type 0} {Q : X → Type 0} (result : Result X E) → ((x : X) → Q x) → IfOk result Q
any_ok (Ok x) all = all x
any_ok (Err why) all = tt
