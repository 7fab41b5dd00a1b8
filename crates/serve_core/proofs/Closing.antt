-- Objects that are closed one after the other.
use Rattle.std.proofs.Common.{◌≡◌, ◌∙◌, ap, sym, subst, refl, arith, ℕ, ◌+◌, ◌≤◌, List, [], ◌∷◌, ◌++◌, length, map, Bool, true, false, cond, Option, None}
use Rattle.std.specs.Prelude.{IsTrue}
use Rattle.std.proofs.lemmas.List.{append-nil, append_assoc, map-append}
use Rattle.std.proofs.lemmas.Bool.{true≢false}
use Rattle.value_core.specs.declared.machine.LinesFault.{LinesFault}
use Rattle.keep_core.specs.declared.opening.ObjectOpening.{ObjectOpening}
use Rattle.keep_core.specs.Opening.{values_of}
use Rattle.device_core.specs.Device.{Assignment}
use Rattle.device_core.specs.Papers.{Papers}
use Rattle.decl_core.specs.declared.object.Object.{Object}
use Rattle.device_core.specs.declared.hand.Stamp.{Stamp}
use Rattle.page_core.specs.Lists.{Every}
use Rattle.office_core.specs.Slips.{Told}
use Rattle.office_core.specs.declared.client_seat.Seat.{Seat}
use Rattle.keep_core.specs.Troubles.{first_of}
use Rattle.keep_core.specs.Lines.{AreSaid}
use Rattle.keep_core.specs.Kept.{AreStored, refused_by, stored_times, once}
use Rattle.keep_core.specs.Ends.{Ended, IsAtEnd, IsOf, IsEnding, lines_of, refused_after, trace_of}
use Rattle.keep_core.proofs.Telling.{nothing_said, said_then, first_none, second_none, first_first, closing_first}
use Rattle.keep_core.proofs.Keeping.{first_nothing}
use Rattle.keep_core.proofs.KeepEnding.{not_refused}
use Rattle.serve_core.specs.Backed.{AreBacked}
use Rattle.serve_core.specs.Closes.{names_of, openings_of, slips_of, AreBackedAll, lines_all, refused_all, AreStoredAll, AreTracedAll, IsWhole, AreEndings, Closes}
use Rattle.keep_core.specs.Moments.{Moment}

every_one : {X : Type 0} (P : X → Type 0) (xs : List X) (y : X) → Every P xs → P y → Every P (xs ++ y ∷ [])
every_one P [] y all one = (one, tt)
every_one P (x ∷ xs) y (here, all) one = (here, every_one P xs y all one)

lines_one : (ends : List Ended) (e : Ended) → lines_all ends ++ lines_of e ≡ lines_all (ends ++ e ∷ [])
lines_one [] e = sym (append-nil (lines_of e))
lines_one (first ∷ ends) e = append_assoc (lines_of first) (lines_all ends) (lines_of e) ∙ ap (λ (ls : List (List ℕ)). lines_of first ++ ls) (lines_one ends e)

refused_one : (refused : Bool) (ends : List Ended) (e : Ended) → refused_after (refused_all refused ends) e ≡ refused_all refused (ends ++ e ∷ [])
refused_one refused [] e = refl
refused_one refused (first ∷ ends) e = refused_one (refused_after refused first) ends e

-- where nothing is refused in the end, nothing was before
apart : (refused closed : Bool) (damaged : List ℕ) → cond closed (refused_by refused damaged) true ≡ false → (refused ≡ false) × (cond closed (refused_by false damaged) true ≡ false)
apart false true damaged is = (refl, is)
apart true true [] is = absurd (true≢false is)
apart true true (place ∷ damaged) is = absurd (true≢false is)
apart refused false damaged is = absurd (true≢false is)

no_damage : (closed : Bool) (damaged : List ℕ) → cond closed (refused_by false damaged) true ≡ false → damaged ≡ []
no_damage true damaged is = not_refused damaged is
no_damage false damaged is = absurd (true≢false is)

-- what is stored by one assignment is so by another one that agrees with less
stored_as : {then agrees : Assignment → Type 0} {object : Object} {pins : List (List Stamp)} {first end : ℕ} {all : Bool} {before papers : Papers} → ((a : Assignment) → agrees a → then a) → AreStored then object pins first end all before papers →
    AreStored agrees object pins first end all before papers
stored_as files s = record { stores = s.stores; parts = s.parts; pinned = λ a is. s.pinned a (files a is); after = s.after; whole = s.whole }

stored_one : {then agrees : Assignment → Type 0} (ends : List Ended) (e : Ended) (before mid papers : Papers) → ((a : Assignment) → agrees a → then a) → AreStoredAll then before ends mid →
    AreStored agrees e.board.object e.board.pins 0 (length e.board.object.parts.items) e.became.saved mid papers → AreStoredAll agrees before (ends ++ e ∷ []) papers
stored_one {agrees = agrees} [] e before mid papers files all one = (papers, subst (λ (p : Papers). AreStored agrees e.board.object e.board.pins 0 (length e.board.object.parts.items) e.became.saved p papers) all one, refl)
stored_one (first ∷ ends) e before mid papers files (next, here, all) one = (next, stored_as files here, stored_one ends e next mid papers files all one)

traced_one : (ends : List Ended) (e : Ended) (before mid papers : Papers) (times : ℕ) → AreTracedAll before ends mid → once e.became.traced ≤ times → papers ≡ stored_times times mid e.board.object.name (trace_of e.board (values_of e.opening)) →
    AreTracedAll before (ends ++ e ∷ []) papers
traced_one [] e before mid papers times all least is = (papers, (times, least, subst (λ (p : Papers). papers ≡ stored_times times p e.board.object.name (trace_of e.board (values_of e.opening))) all is), refl)
traced_one (first ∷ ends) e before mid papers times (next, here, all) least is = (next, here, traced_one ends e next mid papers times all least is)

-- what closing an object comes to, from one moment to another
abbrev pub Ends : Moment → Moment → Ended → Type 0
Ends before after e = IsEnding after.files before.parts after.parts before.traces after.traces e before.trouble after.trouble before.keeps_all after.keeps_all before.written after.written

-- no object is closed yet
pub endings_none : (m : Moment) → AreEndings m m []
endings_none m = record {
  each = tt;
  met = None;
  closing = tt;
  fault = first_nothing m.trouble.fault;
  refused = refl;
  said = nothing_said None m.written;
  whole = λ none quiet. tt;
  stored = λ papers is. (papers, is, refl);
  traced = λ papers is. (papers, is, refl);
  keeps = λ keeps. (keeps, tt);
}

-- one object more is closed
pub endings_more : {before mid after : Moment} (ends : List Ended) (e : Ended) → AreEndings before mid ends → Ends mid after e → ((a : Assignment) → after.files a → mid.files a) → AreEndings before after (ends ++ e ∷ [])
endings_more {before = before} {after = after} ends e so one files =
    let met : Option LinesFault = first_of so.met one.met in
    record {
      each = every_one IsAtEnd ends e so.each one.ended;
      met = met;
      closing = closing_first so.met one.met so.closing one.closing;
      fault = one.fault ∙ ap (λ (f : Option LinesFault). first_of f one.met) so.fault ∙ first_first before.trouble.fault so.met one.met;
      refused = one.refused ∙ ap (λ (r : Bool). refused_after r e) so.refused ∙ refused_one before.trouble.refused ends e;
      said = subst (λ (ls : List (List ℕ)). AreSaid ls met before.written after.written) (lines_one ends e) (said_then so.said one.said (first_none so.met one.met) (second_none so.met one.met));
      whole = λ none quiet.
          let split = apart (refused_all false ends) e.became.closed e.damaged (refused_one false ends e ∙ quiet) in
          every_one IsWhole ends e (so.whole (first_none so.met one.met none) split.0)
          (one.whole (second_none so.met one.met none) split.1, no_damage e.became.closed e.damaged split.1);
      stored = λ papers is.
          let last_one = one.stored papers is in
          let early = so.stored last_one.0 last_one.1 in
          (early.0, early.1, stored_one ends e early.0 last_one.0 papers files early.2 last_one.2);
      traced = λ papers is.
          let last_one = one.traced papers is in
          let early = so.traced last_one.0 last_one.1 in
          (early.0, early.1, traced_one ends e early.0 last_one.0 papers last_one.2 early.2 last_one.3 last_one.4);
      keeps = λ keeps.
          let last_one = one.keeps keeps in
          let early = so.keeps last_one.0 in
          (early.0, every_one (λ (x : Ended). IsTrue x.became.saved × IsTrue x.became.traced) ends e early.1 (last_one.1, last_one.2));
    }

-- objects that are to be closed: their names, what they opened with, and the receipts of their sessions
pub record Due : Type 0 where
  pub names : List (List ℕ)
  pub openings : List ObjectOpening
  pub slips : List (List Told)

abbrev pub due_of : List (List ℕ) → List ObjectOpening → List (List Told) → Due
due_of names openings slips = record { names = names; openings = openings; slips = slips }

-- Of all these objects those before the rest are closed.
pub record ClosedSoFar {H : Type 0} (backs : H → Assignment → Type 0) (before after : Moment) (all rest : Due) (left : ℕ) : Type 0 where
  pub ends : List Ended
  pub named : names_of ends ++ rest.names ≡ all.names
  pub counted : left ≡ length rest.names
  pub opened : openings_of ends ++ rest.openings ≡ all.openings
  pub slipped : slips_of ends ++ rest.slips ≡ all.slips
  pub backed : AreBackedAll backs ends
  pub endings : AreEndings before after ends
  pub files : (a : Assignment) → after.files a → before.files a

pub closed_none : {H : Type 0} (backs : H → Assignment → Type 0) (m : Moment) (all rest : Due) (left : ℕ) → rest.names ≡ all.names → left ≡ length rest.names → rest.openings ≡ all.openings → rest.slips ≡ all.slips → ClosedSoFar backs m m all rest left
closed_none backs m all rest left same counted opened slipped = record {
  ends = [];
  named = same;
  counted = counted;
  opened = opened;
  slipped = slipped;
  backed = tt;
  endings = endings_none m;
  files = λ a is. is;
}

-- what was gathered of one object more
one_more : {X : Type 0} (of : Ended → X) (ends : List Ended) (e : Ended) (later all rest : List X) (x : X) → map of ends ++ rest ≡ all → rest ≡ x ∷ later → of e ≡ x → map of (ends ++ e ∷ []) ++ later ≡ all
one_more {X = X} of ends e later all rest x so is same =
    ap (λ (xs : List X). xs ++ later) (map-append of ends (e ∷ [])) ∙ append_assoc (map of ends) (of e ∷ []) later
    ∙ ap (λ (y : X). map of ends ++ (y ∷ later)) same ∙ ap (λ (xs : List X). map of ends ++ xs) (sym is) ∙ so

pub closed_more : {H : Type 0} {backs : H → Assignment → Type 0} {before mid after : Moment} {all rest : Due} {left : ℕ} {seats : List Seat} (name : List ℕ) (opening : ObjectOpening) (told : List Told) (later : Due) (fewer : ℕ) (n : List ℕ) (o : ObjectOpening) (t : List Told) → ClosedSoFar backs before mid all rest left →
    rest.names ≡ name ∷ later.names → fewer + 1 ≡ left → rest.openings ≡ opening ∷ later.openings → rest.slips ≡ told ∷ later.slips → n ≡ name → o ≡ opening → t ≡ told → AreBacked backs t →
    (e : Ended) × IsOf n o seats t e × Ends mid after e → ((a : Assignment) → after.files a → mid.files a) → ClosedSoFar backs before after all later fewer
closed_more {backs = backs} name opening told later fewer n o t so is fewer_is values_are slips_are named opened slipped back (e, of, one) files = record {
  ends = so.ends ++ e ∷ [];
  named = one_more (λ (x : Ended). x.name) so.ends e later.names _ _ name so.named is (of.named ∙ named);
  counted = omega (arith, fewer_is, so.counted, ap length is);
  opened = one_more (λ (x : Ended). x.opening) so.ends e later.openings _ _ opening so.opened values_are (of.opened ∙ opened);
  slipped = one_more (λ (x : Ended). x.slips) so.ends e later.slips _ _ told so.slipped slips_are (of.slipped ∙ slipped);
  backed = every_one (λ (x : Ended). AreBacked backs x.slips) so.ends e so.backed (subst (AreBacked backs) (sym of.slipped) back);
  endings = endings_more so.ends e so.endings one files;
  files = λ a at. so.files a (files a at);
}

pub no_rest : {X : Type 0} (xs : List X) → length xs ≡ 0 → xs ≡ []
no_rest [] none = refl
no_rest (x ∷ xs) none = absurd (omega (arith, none))

-- none is left
none_left : {X : Type 0} (xs rest all : List X) → xs ++ rest ≡ all → rest ≡ [] → xs ≡ all
none_left {X = X} xs rest all so empty = sym (append-nil xs) ∙ ap (λ (r : List X). xs ++ r) (sym empty) ∙ so

pub closed_all : {H : Type 0} {backs : H → Assignment → Type 0} {before after : Moment} {all : Due} (rest : Due) (left : ℕ) → ClosedSoFar backs before after all rest left → left ≡ 0 → rest.openings ≡ [] → rest.slips ≡ [] → Closes backs before after all.names all.openings all.slips
closed_all rest left so none no_values no_others = record {
  ends = so.ends;
  named = none_left (names_of so.ends) rest.names _ so.named (no_rest rest.names (omega (arith, so.counted, none)));
  opened = none_left (openings_of so.ends) rest.openings _ so.opened no_values;
  slipped = none_left (slips_of so.ends) rest.slips _ so.slipped no_others;
  backed = so.backed;
  endings = so.endings;
  files = so.files;
}
