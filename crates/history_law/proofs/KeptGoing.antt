-- Objects that go on, turn by turn.
use Rattle.std.proofs.Common.{◌≡◌, ◌≢◌, ◌⊎◌, inl, inr, ◌∙◌, ap, sym, subst, refl, arith, ℕ, zero, suc, ◌<◌, List, [], ◌∷◌, ◌++◌, length, append_assoc, eqb-true}
use Rattle.std.specs.Prelude.{Bool, true, false, ◌==◌, Option, Some, None, slice_get, slice_set}
use Rattle.std.proofs.lemmas.Bool.{eqb-false}
use Rattle.std.proofs.lemmas.List.{append_cancel_left}
use Rattle.std.proofs.lemmas.Option.{same_Some, slice_get_within}
use Rattle.decl_core.specs.ObjectForm.{ObjectForm}
use Rattle.decl_core.specs.ObjectMap.{object_of}
use Rattle.live_core.specs.Front.{Opening}
use Rattle.live_core.specs.Epochs.{numbered_from}
use Rattle.recover_core.specs.Playing.{begun_by}
use Rattle.audit_core.specs.Steps.{nothing_heard}
use Rattle.live_core.specs.Fronts.{IsNextFront}
use Rattle.live_core.specs.Scene.{Scene, next_base, next_epoch}
use Rattle.live_core.specs.HostedSteps.{Steps, rests, goes_on}
use Rattle.history_law.specs.Happens.{all_happen}
use Rattle.history_law.specs.WrittenRead.{Adds, AddsTwice}
use Rattle.history_law.specs.Stands.{Stands}
use Rattle.history_law.specs.Told.{heard_of}
use Rattle.history_law.proofs.Beginning.{followed_begun, followed_stands}
use Rattle.history_law.proofs.WrittenReading.{stored_is_read, no_fault_is_found}
use Rattle.history_law.proofs.WrittenTelling.{steps_are_told}
use Rattle.keep_loop.specs.Texts.{Begins, to}
use Rattle.keep_loop.specs.Turns.{Asked, Turn, Runs, added_by}
use Rattle.keep_loop.specs.Turns.Asked.{Heard, Noted, Changes}
use Rattle.keep_loop.specs.Epochs.{rules_of, front_in, before_in, since_in, BeginsNot, BeginsNone, change_to, Agrees, LastBegan, HasBegun}
use Rattle.keep_loop.specs.Seen.{Happened}
use Rattle.keep_loop.specs.Stands.{SurvivesSince}
use Rattle.keep_loop.proofs.Crashed.{survives_since}
use Rattle.client_core.specs.Deeds.{Texts}
use Rattle.client_core.specs.Custody.{Custodies, held_lines, held_lines_in}
use Rattle.client_core.specs.Moves.{Moves, FrontsHeld}
use Rattle.client_core.specs.State.{State}
use Rattle.client_core.proofs.Turning.{turns_move}
use Rattle.table_core.specs.Moves.{Gives, Fronts}
use Rattle.table_core.specs.Seen.{seen}
use Rattle.table_core.specs.declared.table.Table.{Table}
use Rattle.history_law.specs.Kept.{RunsAreSteps, Stood, ObjectsStand, IsServed, LinesAreRead, GoesOnBehind, NextIsServed, AreReadBehind, ReadsInText, IsReadAhead, IsFoundOf, CrashLeavesAnswered}
use Rattle.history_law.proofs.Empty.{no_bytes, no_lines, not_within, nothing_played, front_change, since_change}

-- an object went by steps
abbrev pub Went : ℕ → Scene → List ℕ → List Scene → Type 0
Went j old lines objects = (new : Scene) × (slice_get objects j ≡ Some new) × Steps old lines new

pub get_at : (xs : List Scene) (j : ℕ) → j < length xs → (m : Scene) × (slice_get xs j ≡ Some m)
get_at [] j within = absurd (omega (arith, within))
get_at (x ∷ xs) zero within = (x, refl)
get_at (x ∷ xs) (suc j) within = get_at xs j (omega (arith, within))

pub set_other : (xs : List Scene) (i j : ℕ) (x : Scene) → i ≢ j → slice_get (slice_set xs i x) j ≡ slice_get xs j
set_other [] i j x ne = refl
set_other (y ∷ xs) zero zero x ne = absurd (ne refl)
set_other (y ∷ xs) zero (suc j) x ne = refl
set_other (y ∷ xs) (suc i) zero x ne = refl
set_other (y ∷ xs) (suc i) (suc j) x ne = set_other xs i j x (λ e. ne (ap suc e))

-- what now stands at a place
pub set_at : (xs : List Scene) (j : ℕ) (x y : Scene) → slice_get xs j ≡ Some y → slice_get (slice_set xs j x) j ≡ Some x
set_at [] j x y is = absurd (grind (arith, is))
set_at (z ∷ xs) zero x y is = refl
set_at (z ∷ xs) (suc j) x y is = set_at xs j x y is

moves_went : (old new : List Scene) (added : Texts) (j : ℕ) (h : Scene) → Moves old added new → slice_get old j ≡ Some h → Went j h (to j added) new
moves_went old new added j h moves there =
    let within : j < length new = omega (arith, slice_get_within old j h there, moves.count) in
    let m = get_at new j within in
    (m.0, m.1, moves.steps j h m.0 there m.1)

stays_went : (old new : List Scene) (added : Texts) (j : ℕ) (h : Scene) → slice_get new j ≡ slice_get old j → added ≡ [] → slice_get old j ≡ Some h →
    Went j h (to j added) new
stays_went old new added j h same none there = (h, same ∙ there, subst (λ (a : Texts). Steps h (to j a) h) (sym none) rests)

-- one turn
pub one_went : (old new : Table) (asked : Asked) (said added : Texts) (j : ℕ) (h : Scene) → Gives old asked said added new → BeginsNot j asked →
    slice_get old.objects.items j ≡ Some h → Went j h (to j added) new.objects.items
one_went old new (Heard who line end) said added j h gives never there =
    moves_went old.objects.items new.objects.items added j h (turns_move (seen old) (seen new) (Heard who line end) said added gives) there
one_went old new (Noted note) said added j h gives never there =
    moves_went old.objects.items new.objects.items added j h (turns_move (seen old) (seen new) (Noted note) said added gives) there
one_went old new (Changes journal front true) said added j h gives never there =
    stays_went old.objects.items new.objects.items added j h
    (ap (λ (l : List Scene). slice_get l j) gives.2.begins.left ∙ set_other old.objects.items journal j gives.2.begins.after never) gives.1 there
one_went old new (Changes journal front false) said added j h gives never there =
    stays_went old.objects.items new.objects.items added j h (ap (λ (s : State). slice_get s.objects j) gives.left) gives.lines there

pub runs_are_steps : RunsAreSteps
runs_are_steps first last [] j old runs never there = (old, ap (λ (t : Table). slice_get t.objects.items j) runs ∙ there, rests)
runs_are_steps first last (t ∷ turns) j old (mid, gives, runs) never there =
    let one = one_went first mid t.asked t.said t.added j old gives never.0 there in
    let more = runs_are_steps mid last turns j one.0 runs never.1 one.1 in
    (more.0, more.1, goes_on one.2 more.2)

-- an object that went by steps stands
stood_went : (old new : Table) (j : ℕ) (o : ObjectForm) (s : Stood old j o) (lines : List ℕ) → Went j s.scene lines new.objects.items → Stood new j o
stood_went old new j o s lines went =
    let told = steps_are_told o s.begun s.heard s.scene went.0 lines went.2 s.names s.stands in
    record {
      scene = went.0;
      there = went.1;
      names = s.names;
      begun = s.begun;
      heard = heard_of (all_happen went.2 s.heard.steps);
      stands = told.stands;
    }

-- so does one that begins its next epoch
stood_changes : (old new : Table) (journal : ℕ) (front : List ℕ) (said added : Texts) (j : ℕ) (o : ObjectForm) →
    Gives old (Changes journal front true) said added new → Stood old j o → Stood new j o
stood_changes old new journal front said added j o gives s = by (journal == j) refl
  where
    by : (b : Bool) → (journal == j) ≡ b → Stood new j o
    by false other = stood_went old new j o s (to j added)
        (one_went old new (Changes journal front true) said added j s.scene gives (λ e. absurd (let apart = eqb-false journal j other in omega (arith, apart, e))) s.there)
    by true same =
        let begins = gives.2.begins in
        let at : journal ≡ j = eqb-true journal j same in
        let there : slice_get old.objects.items j ≡ Some begins.before = subst (λ n. slice_get old.objects.items n ≡ Some begins.before) at begins.there in
        let is : s.scene ≡ begins.before = same_Some s.scene begins.before (sym s.there ∙ there) in
        let stands = followed_begun o s.begun s.heard begins.before begins.after begins.after.past (subst (λ (x : Scene). Stands o s.begun s.heard x) is s.stands) begins.begun.followed in
        record {
          scene = begins.after;
          there = ap (λ (l : List Scene). slice_get l j) begins.left ∙ ap (λ n. slice_get (slice_set old.objects.items n begins.after) j) at
              ∙ set_at old.objects.items j begins.after begins.before there;
          names = s.names;
          begun = record { past = begins.after.past; opening = begins.before.hall.contents; carried = numbered_from 0 begins.before.hall.waiting };
          heard = nothing_heard;
          stands = stands;
        }

stood_one : (old new : Table) (asked : Asked) (said added : Texts) (j : ℕ) (o : ObjectForm) → Gives old asked said added new → Stood old j o → Stood new j o
stood_one old new (Heard who line end) said added j o gives s = stood_went old new j o s (to j added) (one_went old new (Heard who line end) said added j s.scene gives tt s.there)
stood_one old new (Noted note) said added j o gives s = stood_went old new j o s (to j added) (one_went old new (Noted note) said added j s.scene gives tt s.there)
stood_one old new (Changes journal front true) said added j o gives s = stood_changes old new journal front said added j o gives s
stood_one old new (Changes journal front false) said added j o gives s =
    stood_went old new j o s (to j added) (one_went old new (Changes journal front false) said added j s.scene gives tt s.there)

pub objects_stand : ObjectsStand
objects_stand first last [] j o runs s = subst (λ (t : Table). Stood t j o) (sym runs) s
objects_stand first last (t ∷ turns) j o (mid, gives, runs) s = objects_stand mid last turns j o runs (stood_one first mid t.asked t.said t.added j o gives s)

added_more : (j : ℕ) (ts us : List Turn) → added_by j (ts ++ us) ≡ added_by j ts ++ added_by j us
added_more j [] us = refl
added_more j (t ∷ ts) us =
    ap (λ (l : List ℕ). to j t.added ++ l) (added_more j ts us) ∙ sym (append_assoc (to j t.added) (added_by j ts) (added_by j us))

begins_split : (j : ℕ) (ts us : List Turn) → BeginsNone j (ts ++ us) → BeginsNone j ts × BeginsNone j us
begins_split j [] us none = (tt, none)
begins_split j (t ∷ ts) us (not, none) = let on = begins_split j ts us none in ((not, on.0), on.1)

runs_split : (old new : Table) (ts us : List Turn) → Runs Gives old (ts ++ us) new → (mid : Table) × Runs Gives old ts mid × Runs Gives mid us new
runs_split old new [] us runs = (old, refl, runs)
runs_split old new (t ∷ ts) us (next, gave, runs) = let on = runs_split next new ts us runs in (on.0, (next, gave, on.1), on.2)

-- what happened in turns, and then in others
went_twice : (first last : Table) (j : ℕ) (o : ObjectForm) (f : Opening) (ts us : List Turn) → Runs Gives first (ts ++ us) last →
    IsServed first j o f (ts ++ us) → AddsTwice o f (added_by j ts) (added_by j us)
went_twice first last j o f ts us runs served =
    let parts = runs_split first last ts us runs in
    let none = begins_split j ts us served.goes_on in
    let one = runs_are_steps first parts.0 ts j served.scene parts.1 none.0 served.there in
    let two = runs_are_steps parts.0 last us j one.0 parts.2 none.1 one.1 in
    record {
      names = served.names;
      old = served.scene;
      mid = one.0;
      new = two.0;
      first = one.2;
      later = two.2;
      stands = served.stands;
    }

-- and in all of them
went_once : (first last : Table) (j : ℕ) (o : ObjectForm) (f : Opening) (ts us : List Turn) → Runs Gives first (ts ++ us) last →
    IsServed first j o f (ts ++ us) → Adds o f (added_by j ts ++ added_by j us)
went_once first last j o f ts us runs served =
    let two = went_twice first last j o f ts us runs served in
    record { names = two.names; old = two.old; new = two.new; all = goes_on two.first two.later; stands = two.stands }

pub lines_are_read : LinesAreRead
lines_are_read first last j ts us found runs all only = record {
  recovered = λ o h f bytes r served b.
      let adds = went_twice first last j o f ts us runs served in
      record {
        adds = adds;
        read = stored_is_read o h f bytes (added_by j ts) (added_by j us) found all.0 only.0 r adds all.1 (sym (added_more j ts us) ∙ only.1) b;
      };
  readable = λ o h f before line fault served refused.
      no_fault_is_found o h f (added_by j ts ++ added_by j us) found only.0 before line fault (went_once first last j o f ts us runs served)
      (sym (added_more j ts us) ∙ only.1) refused;
}

pub next_is_served : NextIsServed
next_is_served first last j o earlier since front runs stood none =
    let parts = runs_split first last earlier (change_to j front ∷ since) runs in
    let at : Table = parts.0 in
    let change = parts.2 in
    let mid : Table = change.0 in
    let gave = change.1 in
    let begins = gave.2.begins in
    let text = gave.2.fronts in
    let s = objects_stand first at earlier j o parts.1 stood in
    let same : begins.before ≡ s.scene = same_Some begins.before s.scene (sym begins.there ∙ s.there) in
    record {
      mid = mid;
      runs = change.2;
      before = begins.before;
      after = begins.after;
      front = text.front;
      told = text.told ∙ ap (λ (x : Option Scene). text.front ++ held_lines_in (seen at).custody j x) begins.there
          ∙ ap (λ (c : Custodies). text.front ++ held_lines (object_of begins.before.hall.object) (slice_get c j)) (sym gave.2.custody);
      begun = begins.begun;
      served = record {
        scene = begins.after;
        there = ap (λ (l : List Scene). slice_get l j) begins.left ∙ set_at at.objects.items j begins.after begins.before begins.there;
        names = s.names;
        stands = followed_stands o s.begun s.heard begins.before begins.after begins.after.past begins.begun.written.runs (next_epoch begins.before) (next_base begins.before)
            (subst (λ (x : Scene). Stands o s.begun s.heard x) (sym same) s.stands) begins.begun.followed begins.begun.written.events;
        goes_on = none;
      };
    }

-- two lists of turns that are one
abbrev head_or : Turn → List Turn → Turn
head_or d [] = d
head_or d (t ∷ ts) = t

abbrev tail_of : List Turn → List Turn
tail_of [] = []
tail_of (t ∷ ts) = ts

abbrev Parts : List Turn → List Turn → List Turn → List Turn → Turn → Type 0
Parts xs ls es ss c =
    ((ts : List Turn) × (xs ≡ es ++ c ∷ ts) × (ss ≡ ts ++ ls)) ⊎ ((rest : List Turn) × (es ≡ xs ++ rest) × (ls ≡ rest ++ c ∷ ss))

parts_more : (a e : Turn) (xs ls es ss : List Turn) (c : Turn) → a ≡ e → Parts xs ls es ss c → Parts (a ∷ xs) ls (e ∷ es) ss c
parts_more a e xs ls es ss c same (inl (ts, mine, more)) = inl (ts, ap (λ x. x ∷ xs) same ∙ ap (λ l. e ∷ l) mine, more)
parts_more a e xs ls es ss c same (inr (rest, mine, more)) = inr (rest, ap (λ x. x ∷ es) (sym same) ∙ ap (λ l. a ∷ l) mine, more)

in_parts : (xs ls es ss : List Turn) (c : Turn) → xs ++ ls ≡ es ++ c ∷ ss → Parts xs ls es ss c
in_parts [] ls es ss c is = inr (es, refl, is)
in_parts (a ∷ xs) ls [] ss c is = inl (xs, ap (λ x. x ∷ xs) (ap (head_or a) is), sym (ap tail_of is))
in_parts (a ∷ xs) ls (e ∷ es) ss c is = parts_more a e xs ls es ss c (ap (head_or a) is) (in_parts xs ls es ss c (ap tail_of is))

-- what begins behind the same
begins_cancel : (a b c : List ℕ) → Begins (a ++ b) (a ++ c) → Begins b c
begins_cancel a b c is = (is.0, append_cancel_left a c (b ++ is.0) (is.1 ∙ append_assoc a b is.0))

module _ (first last : Table) (j : ℕ) (o : ObjectForm) (stood : Stood first j o) (front : List ℕ) (before found : List ℕ) (answered later : List Turn)
    (runs : Runs Gives first (answered ++ later) last) (b : LastBegan j front before (answered ++ later))
    (all : Begins (added_by j answered) (before ++ found)) (only : Begins (before ++ found) (added_by j (answered ++ later))) where
  abbrev c : Turn
  c = change_to j front

  goes : GoesOnBehind j o front b.since last
  goes = next_is_served first last j o b.earlier b.since front (subst (λ ts. Runs Gives first ts last) b.cut runs) stood b.none

  -- the lines of all turns: those of before, and those since
  lines : added_by j (answered ++ later) ≡ before ++ added_by j b.since
  lines = ap (added_by j) b.cut ∙ added_more j b.earlier (c ∷ b.since) ∙ ap (λ (l : List ℕ). l ++ added_by j b.since) (sym b.lines)

  only_since : Begins found (added_by j b.since)
  only_since = begins_cancel before found (added_by j b.since) (subst (Begins (before ++ found)) lines only)

  by_parts : Parts answered later b.earlier b.since c → AreReadBehind j o front answered later last found
  by_parts (inl (ts, mine, more)) =
      let on : GoesOnBehind j o front (ts ++ later) last = subst (λ l. GoesOnBehind j o front l last) more goes in
      let here : added_by j answered ≡ before ++ added_by j ts =
      ap (added_by j) mine ∙ added_more j b.earlier (c ∷ ts) ∙ ap (λ (l : List ℕ). l ++ added_by j ts) (sym b.lines) in
      record {
        earlier = b.earlier;
        ts = ts;
        us = later;
        cut = b.cut ∙ ap (λ l. b.earlier ++ c ∷ l) more;
        all = inl mine;
        goes = on;
        read = lines_are_read on.mid last j ts later found on.runs
            (begins_cancel before (added_by j ts) found (subst (λ (l : List ℕ). Begins l (before ++ found)) here all))
            (subst (λ l. Begins found (added_by j l)) more only_since);
      }
  by_parts (inr (rest, mine, more)) = record {
    earlier = b.earlier;
    ts = [];
    us = b.since;
    cut = b.cut;
    all = inr (rest, mine, refl);
    goes = goes;
    read = lines_are_read goes.mid last j [] b.since found goes.runs (found, refl) only_since;
  }

  read_behind : AreReadBehind j o front answered later last found
  read_behind = by_parts (in_parts answered later b.earlier b.since c b.cut)

reads_in : (first last : Table) (j : ℕ) (o : ObjectForm) → Stood first j o → (front : Option (List ℕ)) (before found : List ℕ) (answered later : List Turn) →
    Runs Gives first (answered ++ later) last → Agrees j front before (answered ++ later) →
    Begins (added_by j answered) (before ++ found) → Begins (before ++ found) (added_by j (answered ++ later)) → ReadsInText first j o front answered later last found
reads_in first last j o stood None before found answered later runs (none, nothing) all only =
    lines_are_read first last j answered later found runs
    (subst (λ (l : List ℕ). Begins (added_by j answered) (l ++ found)) nothing all)
    (subst (λ (l : List ℕ). Begins (l ++ found) (added_by j (answered ++ later))) nothing only)
reads_in first last j o stood (Some front) before found answered later runs b all only =
    read_behind first last j o stood front before found answered later runs b all only

-- what is found of one that has just begun anew, of which the object was not told
read_ahead : (last : Table) (j : ℕ) (o : ObjectForm) (front found : List ℕ) → Stood last j o → FrontsHeld (seen last) j front → found ≡ [] → IsReadAhead j o front last found
read_ahead last j o front found s at none = record {
  stood = s;
  front = at.front;
  told = at.told ∙ ap (λ (x : Option Scene). at.front ++ held_lines_in (seen last).custody j x) s.there;
  written = subst (λ (x : Scene). IsNextFront x at.front) (same_Some at.stands.object s.scene (sym at.stands.there ∙ s.there)) at.stands.stands;
  nothing = none;
  recovered = λ h f bytes r b. nothing_played o (begun_by f) b.lines (record { steps = b.steps; running = None }) (no_lines b.lines b.rest (sym none ∙ b.cut)) b.played;
  readable = λ h f before line fault refused.
      let bad = refused.2 in
      not_within bad.first.before bad.first.line bad.first.after (sym bad.first.cut ∙ no_lines bad.lines bad.rest (sym none ∙ bad.cut));
}

reads : (first last : Table) (j : ℕ) (o : ObjectForm) (seen : List Happened) (found : List ℕ) (answered later : List Turn) → Stood first j o → Runs Gives first (answered ++ later) last →
    Begins (added_by j answered) (before_in j seen ++ found) → Begins (before_in j seen ++ found) (added_by j (answered ++ later)) → Begins found (since_in j seen) →
    HasBegun (rules_of Gives Fronts) last j seen (answered ++ later) → IsFoundOf first j o seen answered later last found
reads first last j o seen found answered later stood runs all only since (inl agrees) =
    inl (reads_in first last j o stood (front_in j seen) (before_in j seen) found answered later runs agrees all only)
reads first last j o seen found answered later stood runs all only since (inr ahead) =
    let none : found ≡ [] = no_bytes found since.0 (sym (ap (since_in j) ahead.just ∙ since_change j ahead.front ahead.before) ∙ since.1) in
    inr (
      ahead.front,
      ap (front_in j) ahead.just ∙ front_change j ahead.front ahead.before,
      read_ahead last j o ahead.front found (objects_stand first last (answered ++ later) j o runs stood) ahead.stands none,
    )

pub crash_leaves_answered : CrashLeavesAnswered
crash_leaves_answered first limits seen found waits honest between =
    let rules = rules_of Gives Fronts in
    let left : SurvivesSince rules first limits seen found = survives_since rules first limits seen found waits honest between in
    let l = left.survives in
    record {
      left = left;
      read = λ j o within stood.
          reads first l.last j o seen (found j) l.answered l.later stood l.runs (l.all j within) (l.only j within) (between j within).nothing_else (left.begun j within);
    }
