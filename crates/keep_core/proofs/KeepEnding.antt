-- How an object ends.
use Rattle.std.proofs.Common.{◌≡◌, ◌∙◌, ap, sym, subst, refl, inl, inr, ℕ, List, [], ◌∷◌, ◌++◌, length, ◌↔◌, Bool, true, false, cond, Option, None, Result}
use Rattle.std.specs.Prelude.{IsTrue}
use Rattle.std.proofs.lemmas.Bool.{true≢false}
use Rattle.value_core.specs.declared.machine.LinesFault.{LinesFault}
use Rattle.value_core.specs.Contents.{Contents, kind_of}
use Rattle.device_core.specs.Device.{Assignment}
use Rattle.device_core.specs.Papers.{Papers}
use Rattle.decl_core.specs.declared.object.Object.{Object}
use Rattle.page_core.specs.ObjectCalls.{Noted}
use Rattle.board_core.specs.Board.{Board}
use Rattle.board_core.specs.Sound.{IsSound}
use Rattle.office_core.specs.Slips.{Told, StandsIn}
use Rattle.office_core.specs.declared.client_seat.Seat.{Seat}
use Rattle.office_core.specs.declared.inside.CloseFault.{CloseFault}
use Rattle.office_core.specs.Insides.{InsideView}
use Rattle.office_core.specs.Receipts.{HaveSlips}
use Rattle.office_core.specs.Closing.{IsWhyBy, place_told}
use Rattle.keep_core.specs.declared.close.Became.{Became}
use Rattle.keep_core.specs.declared.opening.ObjectOpening.{ObjectOpening}
use Rattle.keep_core.specs.Opening.{BeganWith, values_of}
use Rattle.keep_core.specs.declared.trouble.Trouble.{Trouble}
use Rattle.keep_core.specs.Troubles.{first_of, fault_in}
use Rattle.keep_core.specs.Lines.{AreSaid, AreTold, damaged_lines, entries_lines, refused_line}
use Rattle.keep_core.specs.Kept.{refused_by}
use Rattle.keep_core.specs.Ends.{kept_in, KeepsDesk, AddsUp, HasAll, Ended, IsAtEnd, IsClosed, IsOf, IsEnding, EndsDesk, ended_of}
use Rattle.keep_core.proofs.Telling.{nothing_said, said_then, first_none, second_none, first_first, closing_first}

-- where no line says so, no part is damaged
pub not_refused : (places : List ℕ) → refused_by false places ≡ false → places ≡ []
not_refused [] is = refl
not_refused (place ∷ places) is = absurd (true≢false is)

stays_refused : (places : List ℕ) → refused_by true places ≡ true
stays_refused [] = refl
stays_refused (place ∷ places) = refl

-- an object that is closed
pub ends_closed : {agrees : Assignment → Type 0} {parts_were parts_are traces_were traces_are : Papers → Type 0} {became : Became} {before kept : Trouble} {kept_all keeps_all : Bool} {old known new : Option (List ℕ)} {count : ℕ}
    (name : List ℕ) (opening : ObjectOpening) (b : Board) (after : Trouble) (result : Result (Unit {0}) LinesFault) → count ≡ length b.history →
    KeepsDesk agrees parts_were parts_are traces_were traces_are b (values_of opening) true became before kept kept_all keeps_all old known →
    AreTold (entries_lines (kept_in became) name count) result known new → after.fault ≡ first_of kept.fault (fault_in result) → after.refused ≡ kept.refused →
    EndsDesk agrees parts_were parts_are traces_were traces_are name opening b true before after kept_all keeps_all old new
ends_closed {became = became} {before = before} {old = old} {known = known} {new = new} name opening b after result counts k wrote fault refused =
    let told : AreTold (entries_lines (kept_in became) name (length b.history)) result known new = subst (λ (n : ℕ). AreTold (entries_lines (kept_in became) name n) result known new) counts wrote in
    let one : Option LinesFault = k.saves.met in
    let two : Option LinesFault = k.traces.met in
    let last : Option LinesFault = fault_in result in
    let met : Option LinesFault = first_of (first_of one two) last in
    let damaged : List ℕ = k.saves.damaged in
    let of_one : met ≡ None → one ≡ None = λ none. first_none one two (first_none (first_of one two) last none) in
    let rest : List (List ℕ) = damaged_lines b.object damaged ++ entries_lines (kept_in became) name (length b.history) in
    let said : AreSaid rest met old new = said_then k.saves.said told.said of_one (second_none (first_of one two) last) in
    record {
      became = became;
      closed = k.closed;
      damaged = damaged;
      held = k.held;
      ends = λ seats slips ended. record {
        ended = ended;
        met = met;
        closing = closing_first (first_of one two) last (closing_first one two k.saves.closing k.traces.closing) told.closing;
        fault = fault ∙ ap (λ (f : Option LinesFault). first_of f last) (k.traces.fault ∙ ap (λ (f : Option LinesFault). first_of f two) k.saves.fault ∙ first_first before.fault one two) ∙ first_first before.fault (first_of one two) last;
        refused = refused ∙ k.traces.refused ∙ k.saves.refused ∙ sym (ap (λ (v : Bool). cond v (refused_by before.refused damaged) true) k.closed);
        said = subst (λ (v : Bool). AreSaid (cond v [] (refused_line name ∷ []) ++ rest) met old new) (sym k.closed) said;
        whole = λ none quiet. (
          k.closed,
          k.saves.loud (of_one none) (not_refused damaged (sym (ap (λ (v : Bool). cond v (refused_by false damaged) true) k.closed) ∙ quiet)),
          k.traces.loud (second_none one two (first_none (first_of one two) last none)),
        );
        stored = k.saves.stored;
        traced = k.traces.stored;
        keeps = k.keeps;
      };
    }

-- an object that is not closed
pub ends_refused : {agrees : Assignment → Type 0} {parts_were parts_are traces_were traces_are : Papers → Type 0} {became : Became} {told_all after : Trouble} {kept_all keeps_all : Bool} {old known new : Option (List ℕ)}
    (name : List ℕ) (opening : ObjectOpening) (b : Board) (before refused : Trouble) (result : Result (Unit {0}) LinesFault) →
    refused.fault ≡ before.fault → refused.refused ≡ true → told_all.fault ≡ first_of refused.fault (fault_in result) → told_all.refused ≡ refused.refused →
    AreTold (refused_line name ∷ []) result old known → KeepsDesk agrees parts_were parts_are traces_were traces_are b (values_of opening) false became told_all after kept_all keeps_all known new →
    EndsDesk agrees parts_were parts_are traces_were traces_are name opening b false before after kept_all keeps_all old new
ends_refused {became = became} {told_all = told_all} {old = old} {known = known} {new = new} name opening b before refused result same marked fault kept told k =
    let early : Option LinesFault = fault_in result in
    let one : Option LinesFault = k.saves.met in
    let two : Option LinesFault = k.traces.met in
    let met : Option LinesFault = first_of early (first_of one two) in
    let damaged : List ℕ = k.saves.damaged in
    let lines : List (List ℕ) = damaged_lines b.object damaged in
    let of_one : met ≡ None → one ≡ None = λ none. first_none one two (second_none early (first_of one two) none) in
    let none_kept : kept_in became ≡ false = ap (λ (v : Bool). cond v (cond became.saved became.traced false) false) k.closed in
    let rest : AreSaid (lines ++ []) met known new = said_then k.saves.said (nothing_said None new) of_one (λ none. refl) in
    let all : AreSaid ((refused_line name ∷ []) ++ (lines ++ [])) met old new = said_then told.said rest (first_none early (first_of one two)) (λ none. none) in
    let marked_still : told_all.refused ≡ true = kept ∙ marked in
    record {
      became = became;
      closed = k.closed;
      damaged = damaged;
      held = k.held;
      ends = λ seats slips ended. record {
        ended = ended;
        met = met;
        closing = closing_first early (first_of one two) told.closing (closing_first one two k.saves.closing k.traces.closing);
        fault = k.traces.fault ∙ ap (λ (f : Option LinesFault). first_of f two) k.saves.fault ∙ first_first told_all.fault one two
            ∙ ap (λ (f : Option LinesFault). first_of f (first_of one two)) (fault ∙ ap (λ (f : Option LinesFault). first_of f early) same) ∙ first_first before.fault early (first_of one two);
        refused = k.traces.refused ∙ k.saves.refused ∙ ap (λ (v : Bool). refused_by v damaged) marked_still ∙ stays_refused damaged ∙ sym (ap (λ (v : Bool). cond v (refused_by before.refused damaged) true) k.closed);
        said = subst (λ (v : Bool). AreSaid (cond v [] (refused_line name ∷ []) ++ (lines ++ entries_lines (kept_in became) name (length b.history))) met old new) (sym k.closed)
            (subst (λ (v : Bool). AreSaid ((refused_line name ∷ []) ++ (lines ++ entries_lines v name (length b.history))) met old new) (sym none_kept) all);
        whole = λ none quiet. absurd (true≢false (sym (ap (λ (v : Bool). cond v (refused_by false damaged) true) k.closed) ∙ quiet));
        stored = k.saves.stored;
        traced = k.traces.stored;
        keeps = k.keeps;
      };
    }

-- an object whose board is that of an office, which was closed or not
pub ending_by : {agrees : Assignment → Type 0} {parts_were parts_are traces_were traces_are : Papers → Type 0} {before after : Trouble} {kept_all keeps_all : Bool} {old new : Option (List ℕ)} {called : List ℕ}
    (name : List ℕ) (opening : ObjectOpening) (seats : List Seat) (slips : List Told) (b : Board) (closes : Bool) (r : InsideView) →
    called ≡ name → r.board ≡ b → IsSound b → IsClosed closes name opening r seats slips →
    EndsDesk agrees parts_were parts_are traces_were traces_are called opening b closes before after kept_all keeps_all old new →
    (e : Ended) × IsOf name opening seats slips e × IsEnding agrees parts_were parts_are traces_were traces_are e before after kept_all keeps_all old new
ending_by {called = called} name opening seats slips b closes r calls of sound closed k = (
  ended_of called opening seats slips b k.became k.damaged,
  record { named = calls; opened = refl; seated = refl; slipped = refl },
  k.ends seats slips (record {
    sound = sound;
    held = k.held;
    inside = r;
    of = of;
    closed = subst (λ (v : Bool). IsClosed v called opening r seats slips) (sym k.closed) (subst (λ (n : List ℕ). IsClosed closes n opening r seats slips) (sym calls) closed);
  }),
)

-- what was closed is of the object that was asked for, and each entry of its history has a slip
pub closed_has_all : (e : Ended) → IsAtEnd e → IsTrue e.became.closed → HasAll e.name e.opening e.board e.slips
closed_has_all e ended closed =
    let all = subst (λ (v : Bool). IsClosed v e.name e.opening ended.inside e.seats e.slips) closed ended.closed in
    subst (λ (b : Board). HasAll e.name e.opening b e.slips) ended.of all.1

-- what sessions left adds up, and nothing is missing
pub closed_by : {given shown : List Told} (name : List ℕ) (opening : ObjectOpening) (seats : List Seat) (slips : List Told) (b : Board) (r : InsideView) → given ≡ slips → shown ≡ slips → b ≡ r.board →
    AddsUp r seats given → HasAll name opening b shown → IsClosed true name opening r seats slips
closed_by {shown = shown} name opening seats slips b r gives shows of adds has = (
  subst (λ (ts : List Told). AddsUp r seats ts) gives adds,
  subst (λ (ts : List Told). HasAll name opening r.board ts) shows (subst (λ (c : Board). HasAll name opening c shown) of has),
)

-- that adds up, and something is missing
pub lacking_by : {given shown : List Told} (name : List ℕ) (opening : ObjectOpening) (seats : List Seat) (slips : List Told) (b : Board) (r : InsideView) → given ≡ slips → shown ≡ slips → b ≡ r.board →
    AddsUp r seats given → (HasAll name opening b shown → ⊥) → IsClosed false name opening r seats slips
lacking_by {shown = shown} name opening seats slips b r gives shows of adds lacks = inr (
  subst (λ (ts : List Told). AddsUp r seats ts) gives adds,
  λ has. lacks (subst (λ (c : Board). HasAll name opening c shown) (sym of) (subst (λ (ts : List Told). HasAll name opening r.board ts) (sym shows) has)),
)

-- that does not add up
pub refused_by_office : {given : List Told} (name : List ℕ) (opening : ObjectOpening) (seats : List Seat) (slips : List Told) (r : InsideView) (why : CloseFault) → given ≡ slips →
    IsWhyBy Told StandsIn place_told r seats given why → IsClosed false name opening r seats slips
refused_by_office name opening seats slips r why gives is = inl (why, subst (λ (ts : List Told). IsWhyBy Told StandsIn place_told r seats ts why) gives is)

-- how the test for the name, the opening and the slips is answered
pub has_all_by : {all : Bool} {history : List Noted} {o : Object} (name : List ℕ) (opening : ObjectOpening) (slips : List Told) (b : Board) → history ≡ b.history → o ≡ b.object → o.name ≡ name → BeganWith b opening → IsTrue all ↔ HaveSlips history slips →
    IsTrue all ↔ HasAll name opening b slips
has_all_by name opening slips b told is named began have = (
  λ all. (ap (λ (x : Object). x.name) (sym is) ∙ named, began, subst (λ (h : List Noted). HaveSlips h slips) told (have.0 all)),
  λ has. have.1 (subst (λ (h : List Noted). HaveSlips h slips) (sym told) has.2),
)
