-- What a start reads of what was written.
use Rattle.std.proofs.Common.{◌≡◌, ◌⊎◌, inl, inr, ◌∙◌, ap, sym, subst, refl, ℕ, ◌<◌, List, [], ◌∷◌, ◌++◌, length, append_assoc}
use Rattle.std.specs.Prelude.{codes, Option, Some, None, slice_get}
use Rattle.std.proofs.lemmas.List.{append-nil, append_cancel_left}
use Rattle.std.proofs.lemmas.Option.{same_Some}
use Rattle.path_tree.specs.Trace.{Event, running_calls}
use Rattle.path_count.specs.Stands.{StandsFor}
use Rattle.value_core.specs.Contents.{Contents}
use Rattle.decl_core.specs.ObjectForm.{ObjectForm}
use Rattle.apply_core.specs.History.{End}
use Rattle.decl_core.specs.ObjectMap.{object_of}
use Rattle.word_core.specs.Events.{Happened as Ended}
use Rattle.path_count.specs.declared.past.PastEvent.{PastEvent}
use Rattle.path_count.specs.Past.{events_of}
use Rattle.live_core.specs.declared.past.PastRun.{PastRun}
use Rattle.live_core.specs.Past.{events_in}
use Rattle.live_core.specs.Front.{Every, HasRows, Opening}
use Rattle.live_core.specs.Text.{front_text}
use Rattle.front_read.specs.Rows.{has_verb}
use Rattle.front_read.specs.Text.{goes_on}
use Rattle.history_law.proofs.Holding.{written_has_held}
use Rattle.history_law.proofs.FrontReading.{front_is_written, written_is_read}
use Rattle.decl_core.specs.HoldForm.{RulesForm}
use Rattle.guest_core.specs.Held.{HeldCall}
use Rattle.front_read.specs.HeldLines.{held_text, IsHeldLine}
use Rattle.recover_core.specs.HeldText.{HasHeld}
use Rattle.recover_core.specs.Laws.{AreEndings, HeldAreLines}
use Rattle.history_law.specs.Ended.{HoldsBy}
use Rattle.history_law.proofs.HoldTurning.{turns_hold}
use Rattle.audit_core.specs.Steps.{Begun, nothing_heard, told_by}
use Rattle.recover_core.specs.declared.recover.House.{House}
use Rattle.recover_core.specs.declared.recover.Recovered.{Recovered}
use Rattle.recover_core.specs.Playing.{begun_by}
use Rattle.recover_core.specs.Text.{IsRead}
use Rattle.live_core.specs.Fronts.{IsNextFront, IsPastOf, front_of}
use Rattle.live_core.specs.Scene.{Scene, next_base, next_epoch}
use Rattle.live_core.specs.HostedSteps.{BeginsBy}
use Rattle.history_law.specs.WrittenRead.{Adds}
use Rattle.history_law.proofs.Beginning.{followed_stands}
use Rattle.history_law.specs.Read.{IsReadOf}
use Rattle.history_law.specs.Year.{Epoch, Follows, AreEpochs, all_ends, first_opening}
use Rattle.history_law.proofs.Reading.{epochs_up_to, read_is_epoch}
use Rattle.history_law.proofs.Sound.{epochs_are_sound}
use Rattle.keep_loop.specs.Texts.{Begins, to}
use Rattle.keep_loop.specs.Turns.{Turn, Runs, added_by}
use Rattle.keep_loop.specs.declared.keep.LoopLimits.{LoopLimits}
use Rattle.keep_loop.specs.Seen.{Happened}
use Rattle.keep_loop.specs.Epochs.{rules_of, front_in, before_in, since_in, stored_since, Agrees, HasBegun, LastBegan, change_to, BeginsNone}
use Rattle.keep_loop.specs.Stands.{IsBetween, Survives}
use Rattle.client_core.specs.Custody.{Custody, Custodies, held_lines, held_lines_in}
use Rattle.history_law.specs.Said.{Account}
use Rattle.table_core.specs.Moves.{Gives, Fronts}
use Rattle.table_core.specs.Seen.{seen}
use Rattle.table_core.specs.declared.table.Table.{Table}
use Rattle.history_law.specs.Lived.{HasLived, LeavesOneHistory, epoch_in}
use Rattle.history_law.specs.Replied.{AreTold, ends_in}
use Rattle.history_law.proofs.Empty.{front_change, no_bytes, no_lines, nothing_played, since_change}
use Rattle.history_law.proofs.KeptGoing.{runs_are_steps, set_at}
use Rattle.history_law.proofs.TurnLiving.{begun_epochs, crash_leaves_one_history, read_lives_on, turns_have_one_history}
use Rattle.history_law.specs.Ends.{CrashSaysHeld, IsHeldRead}
use Rattle.history_law.specs.LifeKeeps.{Keeps, KeepsAt}
use Rattle.history_law.specs.TurnLives.{CrashLeavesLives, IsReadOn, LivesOn, ReadsOn, StartsAt, WrittenLivesOn, epoch_at}
use Rattle.history_law.proofs.LifeEnding.{held_says_so, turns_end_so}
use Rattle.history_law.proofs.Rows.{next_front_has_rows}
use Rattle.history_law.proofs.LifeTurning.{objects_keep}

-- a front that is read is this one
read_on : (t : Table) (j : ℕ) (o : ObjectForm) (begun : Begun) (earlier : List Epoch) (written : Opening) (found : List ℕ) → HasLived t j o begun earlier → begun ≡ begun_by written →
    (h : House) (front : Opening) (came : Recovered) → IsRead o h (front_text o written ++ found) front came → front ≡ written → IsReadOn o written found earlier front came
read_on t j o begun earlier written found l began h front came read same =
    let lives = read_lives_on t j o begun earlier h front (front_text o written ++ found) came l (began ∙ ap begun_by (sym same)) read in
    record { same = same; epoch = lives.0; is = lives.1; epochs = lives.2; sound = lives.3 }

pub written_lives_on : WrittenLivesOn
written_lives_on t j o begun earlier written lines found lost l began rows adds cut h front came read =
    read_on t j o begun earlier written found l began h front came read
    (written_is_read o h written front (front_text o written ++ found) lines found lost came adds.names.names rows adds cut refl read)

-- an object that stands behind the front of a start
keeps_at : (t : Table) (j : ℕ) (o : ObjectForm) (written : Opening) (earlier : List Epoch) → StartsAt t j o written earlier → KeepsAt t j o
keeps_at t j o written earlier s = record {
  stood = record { scene = s.scene; there = s.there; names = s.names; begun = begun_by written; heard = nothing_heard; stands = s.stands };
  keeps = s.keeps;
}

abbrev lived_at : (t : Table) (j : ℕ) (o : ObjectForm) (written : Opening) (earlier : List Epoch) → StartsAt t j o written earlier → HasLived t j o (begun_by written) earlier
lived_at t j o written earlier s =
    record { scene = s.scene; there = s.there; names = s.names; heard = nothing_heard; stands = s.stands; base = s.base; epochs = s.epochs }

-- turns, in two parts
runs_split : (old new : Table) (ts us : List Turn) → Runs Gives old (ts ++ us) new → (mid : Table) × Runs Gives old ts mid × Runs Gives mid us new
runs_split old new [] us runs = (old, refl, runs)
runs_split old new (t ∷ ts) us (next, gave, runs) = let on = runs_split next new ts us runs in (on.0, (next, gave, on.1), on.2)

added_more : (j : ℕ) (ts us : List Turn) → added_by j (ts ++ us) ≡ added_by j ts ++ added_by j us
added_more j [] us = refl
added_more j (t ∷ ts) us =
    ap (λ (l : List ℕ). to j t.added ++ l) (added_more j ts us) ∙ sym (append_assoc (to j t.added) (added_by j ts) (added_by j us))

begins_cancel : (a b c : List ℕ) → Begins (a ++ b) (a ++ c) → Begins b c
begins_cancel a b c is = (is.0, append_cancel_left a c (b ++ is.0) (is.1 ∙ append_assoc a b is.0))

-- behind the same bytes
nothing_behind : (a found b behind : List ℕ) → found ≡ [] → b ≡ a → a ++ found ≡ b ++ behind → behind ≡ []
nothing_behind a found b behind none same is =
    sym (append_cancel_left a found behind (is ∙ ap (λ (x : List ℕ). x ++ behind) same)) ∙ none

-- The front of the next epoch was written, and nothing behind it: what is read of that is an epoch behind the one in which the
-- object has lived.
ahead_on : (t : Table) (j : ℕ) (o : ObjectForm) (begun : Begun) (earlier : List Epoch) (l : HasLived t j o begun earlier) (runs : List PastRun) (past : List PastEvent) → events_in runs ≡ past →
    IsPastOf l.scene past → (found : List ℕ) → found ≡ [] → HasRows o (front_of l.scene (next_epoch l.scene) runs (next_base l.scene)) →
    LivesOn o (front_of l.scene (next_epoch l.scene) runs (next_base l.scene)) found (epoch_in l ∷ earlier)
ahead_on t j o begun earlier l runs past events counted found none rows h front came read =
    let s = l.scene in
    let f = front_of s (next_epoch s) runs (next_base s) in
    let text = front_text o f ++ found in
    let same : front ≡ f = front_is_written o h f front text found came l.names.names rows (ap goes_on none) refl read in
    let b = read.is in
    let behind : read.behind ≡ [] = nothing_behind (front_text o f) found (front_text o front) read.behind none (ap (front_text o) same) read.text_is in
    let steps : b.steps ≡ [] =
    nothing_played o (begun_by front) b.lines (record { steps = b.steps; running = None }) (no_lines b.lines b.rest (sym behind ∙ b.cut)) b.played in
    let up = epochs_up_to o (epoch_in l) earlier begun.past refl l.epochs in
    let e : Epoch = record { counters = came.played.counters; contents = came.played.contents.items; told = told_by (begun_by front) b.steps; base = up.0 } in
    let is : IsReadOf o text came e = record { house = h; front = front; read = read; told = refl; counters = refl; contents = refl } in
    let began : e.told.past ≡ events_of past = ap (λ (x : Opening). events_of (events_in x.past)) same ∙ ap events_of events in
    let follows : Follows o (epoch_in l) e = record {
      contents = ap (λ (x : Opening). x.parts) same;
      counters = counted.counters;
      stands = subst (λ (x : List Event). StandsFor counted.counters (length o.operations) o.paths x) (sym began)
          (subst (λ (x : ObjectForm). StandsFor counted.counters (length x.operations) x.paths (events_of past)) l.stands.object counted.stands);
      quiet = ap running_calls began ∙ counted.quiet;
      same = counted.same;
    } in
    let epochs : AreEpochs o e (epoch_in l ∷ earlier) = (read_is_epoch o text came e is, follows, up.1, l.epochs) in
    record { same = same; epoch = e; is = is; epochs = epochs; sound = epochs_are_sound o e (epoch_in l ∷ earlier) epochs }

-- a front, and the lines of what is held of the object that it tells
text_shown : (o : ObjectForm) (s : Scene) (f : Opening) (custody : Custodies) (j : ℕ) (there : Option Scene) (text bare : List ℕ) → text ≡ bare ++ held_lines_in custody j there → there ≡ Some s →
    object_of s.hall.object ≡ o → bare ≡ front_text (object_of s.hall.object) f → text ≡ front_text o f ++ held_lines o (slice_get custody j)
text_shown o s f custody j there text bare told is object front =
    let held = slice_get custody j in
    let at : held_lines_in custody j there ≡ held_lines o held = ap (held_lines_in custody j) is ∙ ap (λ (x : ObjectForm). held_lines x held) object in
    let shown : bare ≡ front_text o f = front ∙ ap (λ (x : ObjectForm). front_text x f) object in
    told ∙ ap (λ (x : List ℕ). bare ++ x) at ∙ ap (λ (x : List ℕ). x ++ held_lines o held) shown

-- what a start wrote, where its journal has not begun anew
first_lives : (first last : Table) (j : ℕ) (o : ObjectForm) (written : Opening) (earlier : List Epoch) (turns : List Turn) (found : List ℕ) → StartsAt first j o written earlier → Runs Gives first turns last →
    BeginsNone j turns → Begins found (added_by j turns) → LivesOn o written found earlier
first_lives first last j o written earlier turns found s runs none within =
    let went = runs_are_steps first last turns j s.scene runs none s.there in
    written_lives_on first j o (begun_by written) earlier written (added_by j turns) found within.0 (lived_at first j o written earlier s) refl s.rows
    (record { names = s.names; old = s.scene; new = went.0; all = went.2; stands = s.stands }) within.1

-- a journal that has begun anew by a text, in a turn of these
record Anew (first : Table) (j : ℕ) (o : ObjectForm) (opening : List Contents) (ends : List End) (text found : List ℕ) (turns : List Turn) : Type 0 where
  before : List Turn
  rest : List Turn
  cut : turns ≡ before ++ rest
  at : Table
  runs : Runs Gives first before at
  accounts : List Account
  told : AreTold first before accounts at
  scene : Scene
  there : slice_get at.objects.items j ≡ Some scene
  past_runs : List PastRun
  rows : HasRows o (front_of scene (next_epoch scene) past_runs (next_base scene))
  text_is : text ≡ front_text o (front_of scene (next_epoch scene) past_runs (next_base scene)) ++ held_lines o (slice_get (seen at).custody j)
  newest : Epoch
  older : List Epoch
  opening_is : first_opening newest older ≡ opening
  ends_are : all_ends o newest older ≡ ends ++ ends_in o j accounts
  mid : Table
  lived : HasLived mid j o (begun_by (front_of scene (next_epoch scene) past_runs (next_base scene))) (newest ∷ older)
  lines : List ℕ
  lost : List ℕ
  adds : Adds o (front_of scene (next_epoch scene) past_runs (next_base scene)) lines
  found_is : lines ≡ found ++ lost

abbrev anew_front : {first : Table} {j : ℕ} {o : ObjectForm} {opening : List Contents} {ends : List End} {text found : List ℕ} {turns : List Turn} → Anew first j o opening ends text found turns → Opening
anew_front a = front_of a.scene (next_epoch a.scene) a.past_runs (next_base a.scene)

-- one that has just begun anew, of which its object was not told
record Ahead (first last : Table) (j : ℕ) (o : ObjectForm) (opening : List Contents) (ends : List End) (text found : List ℕ) (turns : List Turn) : Type 0 where
  accounts : List Account
  told : AreTold first turns accounts last
  scene : Scene
  there : slice_get last.objects.items j ≡ Some scene
  past_runs : List PastRun
  rows : HasRows o (front_of scene (next_epoch scene) past_runs (next_base scene))
  text_is : text ≡ front_text o (front_of scene (next_epoch scene) past_runs (next_base scene)) ++ held_lines o (slice_get (seen last).custody j)
  newest : Epoch
  older : List Epoch
  opening_is : first_opening newest older ≡ opening
  ends_are : all_ends o newest older ≡ ends ++ ends_in o j accounts
  lives : LivesOn o (front_of scene (next_epoch scene) past_runs (next_base scene)) found (newest ∷ older)
  nothing : found ≡ []

module _ (first last : Table) (j : ℕ) (o : ObjectForm) (written : Opening) (earlier : List Epoch) (s : StartsAt first j o written earlier) (text found : List ℕ) (turns : List Turn) (runs : Runs Gives first turns last) where
  abbrev l : HasLived first j o (begun_by written) earlier
  l = lived_at first j o written earlier s

  k : KeepsAt first j o
  k = keeps_at first j o written earlier s

  -- what it opened with, and the ends of its calls until it began so
  abbrev opening : List Contents
  opening = first_opening (epoch_at s) earlier

  abbrev ends_before : List End
  ends_before = all_ends o (epoch_at s) earlier

  -- a journal that has begun anew, and lines behind that
  begun_anew : (before : List ℕ) → LastBegan j text before turns → Begins (before ++ found) (added_by j turns) → Anew first j o opening ends_before text found turns
  begun_anew before b only =
      let parts = runs_split first last b.earlier (change_to j text ∷ b.since) (subst (λ ts. Runs Gives first ts last) b.cut runs) in
      let at : Table = parts.0 in
      let change = parts.2 in
      let mid : Table = change.0 in
      let held = change.1.2 in
      let begins = held.begins in
      let bare : List ℕ = held.fronts.front in
      let on : KeepsAt at j o = objects_keep first at b.earlier j o parts.1 k in
      let history = turns_have_one_history first at b.earlier parts.1 in
      let lives = history.lives j o (begun_by written) earlier l in
      let reached = lives.0 in
      let here = reached.lived in
      let was = here.scene in
      let now = begins.after in
      let keeps : Keeps o was = subst (λ (x : Scene). Keeps o x) (same_Some on.stood.scene was (sym on.stood.there ∙ here.there)) on.keeps in
      let same : begins.before ≡ was = same_Some begins.before was (sym begins.there ∙ here.there) in
      let by : BeginsBy was bare now = subst (λ (x : Scene). BeginsBy x bare now) same begins.begun in
      let w = by.written in
      let f = front_of was (next_epoch was) w.runs (next_base was) in
      let stands = followed_stands o reached.begun here.heard was now now.past w.runs (next_epoch was) (next_base was) here.stands by.followed w.events in
      let there : slice_get mid.objects.items j ≡ Some now = ap (λ (x : List Scene). slice_get x j) begins.left ∙ set_at at.objects.items j now begins.before begins.there in
      let epochs = begun_epochs at mid j o reached.begun reached.earlier here bare now by in
      let went = runs_are_steps mid last b.since j now change.2 b.none there in
      let lines : added_by j turns ≡ before ++ added_by j b.since =
      ap (added_by j) b.cut ∙ added_more j b.earlier (change_to j text ∷ b.since) ∙ ap (λ (x : List ℕ). x ++ added_by j b.since) (sym b.lines) in
      let within = begins_cancel before found (added_by j b.since) (subst (Begins (before ++ found)) lines only) in
      record {
        before = b.earlier;
        rest = change_to j text ∷ b.since;
        cut = b.cut;
        at = at;
        runs = parts.1;
        accounts = history.accounts;
        told = history.told;
        scene = was;
        there = here.there;
        past_runs = w.runs;
        rows = next_front_has_rows o reached.begun here.heard was now.past [] bare here.names here.stands keeps w;
        text_is = text_shown o was f (seen at).custody j (slice_get at.objects.items j) text bare held.fronts.told here.there here.stands.object w.added;
        newest = epoch_in here;
        older = reached.earlier;
        opening_is = reached.opening_is;
        ends_are = reached.ends_are ∙ ap (λ (x : List End). ends_before ++ x) lives.1;
        mid = mid;
        lived = record { scene = now; there = there; names = here.names; heard = nothing_heard; stands = stands; base = epochs.0; epochs = epochs.1 };
        lines = added_by j b.since;
        lost = within.0;
        adds = record { names = here.names; old = now; new = went.0; all = went.2; stands = stands };
        found_is = within.1;
      }

  behind_lives : Anew first j o opening ends_before text found turns → ReadsOn first j o opening ends_before turns text found
  behind_lives a = record {
    before = a.before;
    rest = a.rest;
    cut = a.cut;
    at = a.at;
    accounts = a.accounts;
    told = a.told;
    scene = a.scene;
    there = a.there;
    runs = a.past_runs;
    text_is = a.text_is;
    rows = a.rows;
    newest = a.newest;
    older = a.older;
    opening_is = a.opening_is;
    ends_are = a.ends_are;
    lives = written_lives_on a.mid j o (begun_by (anew_front a)) (a.newest ∷ a.older) (anew_front a) a.lines found a.lost a.lived refl a.rows a.adds a.found_is;
  }

  -- one that has just begun anew, of which the object was not told
  just_begun : Fronts last j text → found ≡ [] → Ahead first last j o opening ends_before text found turns
  just_begun at none =
      let on : KeepsAt last j o = objects_keep first last turns j o runs k in
      let history = turns_have_one_history first last turns runs in
      let lives = history.lives j o (begun_by written) earlier l in
      let reached = lives.0 in
      let here = reached.lived in
      let was = here.scene in
      let keeps : Keeps o was = subst (λ (x : Scene). Keeps o x) (same_Some on.stood.scene was (sym on.stood.there ∙ here.there)) on.keeps in
      let next : IsNextFront was at.front = subst (λ (x : Scene). IsNextFront x at.front) (same_Some at.stands.object was (sym at.stands.there ∙ here.there)) at.stands.stands in
      let w = next.tells in
      let f = front_of was (next_epoch was) w.runs (next_base was) in
      let rows : HasRows o f = next_front_has_rows o reached.begun here.heard was next.past [] at.front here.names here.stands keeps w in
      record {
        accounts = history.accounts;
        told = history.told;
        scene = was;
        there = here.there;
        past_runs = w.runs;
        rows = rows;
        text_is = text_shown o was f (seen last).custody j (slice_get last.objects.items j) text at.front at.told here.there here.stands.object w.added;
        newest = epoch_in here;
        older = reached.earlier;
        opening_is = reached.opening_is;
        ends_are = reached.ends_are ∙ ap (λ (x : List End). ends_before ++ x) lives.1;
        lives = ahead_on last j o reached.begun reached.earlier here w.runs next.past w.events next.counted found none rows;
        nothing = none;
      }

  ahead_lives : Ahead first last j o opening ends_before text found turns → ReadsOn first j o opening ends_before turns text found
  ahead_lives a = record {
    before = turns;
    rest = [];
    cut = sym (append-nil turns);
    at = last;
    accounts = a.accounts;
    told = a.told;
    scene = a.scene;
    there = a.there;
    runs = a.past_runs;
    text_is = a.text_is;
    rows = a.rows;
    newest = a.newest;
    older = a.older;
    opening_is = a.opening_is;
    ends_are = a.ends_are;
    lives = a.lives;
  }

  -- and the lines of what is held
  module _ (law : HeldAreLines) (rules : RulesForm) (past : List Ended) (h : HoldsBy first j rules past) (are : AreEndings o past) where
    -- what was held at a moment, and each line of that
    held_at : (before rest : List Turn) (at : Table) → turns ≡ before ++ rest → Runs Gives first before at → (f : Opening) → text ≡ front_text o f ++ held_lines o (slice_get (seen at).custody j) →
        ((held : List HeldCall) → Every (IsHeldLine o rules.holds) held → text ++ found ≡ front_text o f ++ (held_text o rules.holds held ++ found) → HasHeld o rules.holds (text ++ found) f held found) →
        IsHeldRead first j o rules past turns text found
    held_at before rest at cut runs f shown says =
        let history = turns_have_one_history first at before runs in
        let over = turns_hold first at before history.accounts j o rules past history.told k.stood h in
        let ends = turns_end_so first at before history.accounts j o past over.ends k over.over are in
        let c = over.holds.custody in
        let told : text ≡ front_text o f ++ held_text o rules.holds c.held =
        shown ∙ ap (λ (x : Option Custody). front_text o f ++ held_lines o x) over.holds.there ∙ ap (λ (x : RulesForm). front_text o f ++ held_text o x.holds c.held) over.holds.rules_are in
        record {
          before = before;
          rest = rest;
          cut = cut;
          at = at;
          accounts = history.accounts;
          ends = over.ends;
          over = over.over;
          holds = over.holds;
          front = f;
          says = says c.held (held_says_so law at j o rules over.ends ends over.holds)
              (ap (λ (x : List ℕ). x ++ found) told ∙ append_assoc (front_text o f) (held_text o rules.holds c.held) found);
        }

    behind_says : Anew first j o opening ends_before text found turns → IsHeldRead first j o rules past turns text found
    behind_says a = held_at a.before a.rest a.at a.cut a.runs (anew_front a) a.text_is
        (λ held each told. (written_has_held o rules.holds (anew_front a) held (text ++ found) a.lines found a.lost a.rows each a.adds a.found_is told).0)

    ahead_says : Ahead first last j o opening ends_before text found turns → IsHeldRead first j o rules past turns text found
    ahead_says a = held_at turns [] last (sym (append-nil turns)) runs (front_of a.scene (next_epoch a.scene) a.past_runs (next_base a.scene)) a.text_is
        (λ held each told. record { rows = a.rows; each = each; told = told; ends = ap (has_verb (codes "held")) a.nothing })

one_text : {a b : List ℕ} → ◌≡◌ {A = Option (List ℕ)} (Some a) (Some b) → a ≡ b
one_text is = cc

some_none : {a : List ℕ} → ◌≡◌ {A = Option (List ℕ)} (Some a) None → ⊥
some_none is = cc

-- which of both it is, where a journal has begun anew
abbrev BegunSo : (first last : Table) (j : ℕ) (o : ObjectForm) (written : Opening) (earlier : List Epoch) → StartsAt first j o written earlier → List ℕ → List ℕ → List Turn → Type 0
BegunSo first last j o written earlier s text found turns =
    Anew first j o (first_opening (epoch_at s) earlier) (all_ends o (epoch_at s) earlier) text found turns
    ⊎ Ahead first last j o (first_opening (epoch_at s) earlier) (all_ends o (epoch_at s) earlier) text found turns

begins_so : (first : Table) (limits : LoopLimits) (all : List Happened) (found : ℕ → List ℕ) (v : Survives Gives first limits all (λ j. before_in j all ++ found j)) (j : ℕ) (o : ObjectForm) (written : Opening)
    (earlier : List Epoch) (text : List ℕ) → j < limits.journals → IsBetween (stored_since j all) (since_in j all) (found j) → front_in j all ≡ Some text → (s : StartsAt first j o written earlier) →
    HasBegun (rules_of Gives Fronts) v.last j all (v.answered ++ v.later) → BegunSo first v.last j o written earlier s text (found j) (v.answered ++ v.later)
begins_so first limits all found v j o written earlier text within between is s (inl agrees) =
    inl (begun_anew first v.last j o written earlier s text (found j) (v.answered ++ v.later) v.runs (before_in j all)
    (subst (λ (x : Option (List ℕ)). Agrees j x (before_in j all) (v.answered ++ v.later)) is agrees) (v.only j within))
begins_so first limits all found v j o written earlier text within between is s (inr so) =
    let same : so.front ≡ text = one_text (sym (front_change j so.front so.before) ∙ ap (front_in j) (sym so.just) ∙ is) in
    let since = between.nothing_else in
    inr (just_begun first v.last j o written earlier s text (found j) (v.answered ++ v.later) v.runs (subst (λ (x : List ℕ). Fronts v.last j x) same so.stands)
    (no_bytes (found j) since.0 (sym (ap (since_in j) so.just ∙ since_change j so.front so.before) ∙ since.1)))

-- it has not begun anew, and what is found are the first bytes of what all turns have added
still_so : (first : Table) (limits : LoopLimits) (all : List Happened) (found : ℕ → List ℕ) (v : Survives Gives first limits all (λ j. before_in j all ++ found j)) (j : ℕ) → j < limits.journals → front_in j all ≡ None →
    HasBegun (rules_of Gives Fronts) v.last j all (v.answered ++ v.later) → BeginsNone j (v.answered ++ v.later) × Begins (found j) (added_by j (v.answered ++ v.later))
still_so first limits all found v j within none (inl agrees) =
    let so : BeginsNone j (v.answered ++ v.later) × (before_in j all ≡ []) = subst (λ (x : Option (List ℕ)). Agrees j x (before_in j all) (v.answered ++ v.later)) none agrees in
    (so.0, subst (λ (x : List ℕ). Begins (x ++ found j) (added_by j (v.answered ++ v.later))) so.1 (v.only j within))
still_so first limits all found v j within none (inr ahead) =
    absurd (some_none (sym (front_change j ahead.front ahead.before) ∙ ap (front_in j) (sym ahead.just) ∙ none))

pub crash_leaves_lives : CrashLeavesLives
crash_leaves_lives first limits all found waits honest between = record {
  history = history;
  anew = λ j o written earlier text within is s. by j o written earlier text s (begins_so first limits all found v j o written earlier text within (between j within) is s (history.answered.left.begun j within));
  at_first = λ j o written earlier within none s.
      let so = still_so first limits all found v j within none (history.answered.left.begun j within) in
      first_lives first v.last j o written earlier (v.answered ++ v.later) (found j) s v.runs so.0 so.1;
}
  where
    history : LeavesOneHistory first limits all found
    history = crash_leaves_one_history first limits all found waits honest between

    v : Survives Gives first limits all (λ j. before_in j all ++ found j)
    v = history.answered.left.survives

    by : (j : ℕ) (o : ObjectForm) (written : Opening) (earlier : List Epoch) (text : List ℕ) → (s : StartsAt first j o written earlier) →
        BegunSo first v.last j o written earlier s text (found j) (v.answered ++ v.later) →
        ReadsOn first j o (first_opening (epoch_at s) earlier) (all_ends o (epoch_at s) earlier) (v.answered ++ v.later) text (found j)
    by j o written earlier text s (inl a) = behind_lives first v.last j o written earlier s text (found j) (v.answered ++ v.later) v.runs a
    by j o written earlier text s (inr a) = ahead_lives first v.last j o written earlier s text (found j) (v.answered ++ v.later) v.runs a

pub crash_says_held : HeldAreLines → CrashSaysHeld
crash_says_held law first limits all found waits honest between = record {
  history = history;
  anew = λ j o written earlier rules past text within is s h are.
      by j o written earlier rules past text s h are (begins_so first limits all found v j o written earlier text within (between j within) is s (history.answered.left.begun j within));
  at_first = λ j o written earlier rules past within none s h are.
      let so = still_so first limits all found v j within none (history.answered.left.begun j within) in
      let went = runs_are_steps first v.last (v.answered ++ v.later) j s.scene v.runs so.0 s.there in
      let adds : Adds o written (added_by j (v.answered ++ v.later)) = record { names = s.names; old = s.scene; new = went.0; all = went.2; stands = s.stands } in
      (written_has_held o rules.holds written h.custody.held ((front_text o written ++ held_text o rules.holds h.custody.held) ++ found j) (added_by j (v.answered ++ v.later)) (found j) so.1.0 s.rows
      (held_says_so law first j o rules past are h) adds so.1.1 (append_assoc (front_text o written) (held_text o rules.holds h.custody.held) (found j))).0;
}
  where
    history : LeavesOneHistory first limits all found
    history = crash_leaves_one_history first limits all found waits honest between

    v : Survives Gives first limits all (λ j. before_in j all ++ found j)
    v = history.answered.left.survives

    by : (j : ℕ) (o : ObjectForm) (written : Opening) (earlier : List Epoch) (rules : RulesForm) (past : List Ended) (text : List ℕ) → (s : StartsAt first j o written earlier) → HoldsBy first j rules past → AreEndings o past →
        BegunSo first v.last j o written earlier s text (found j) (v.answered ++ v.later) → IsHeldRead first j o rules past (v.answered ++ v.later) text (found j)
    by j o written earlier rules past text s h are (inl a) = behind_says first v.last j o written earlier s text (found j) (v.answered ++ v.later) v.runs law rules past h are a
    by j o written earlier rules past text s h are (inr a) = ahead_says first v.last j o written earlier s text (found j) (v.answered ++ v.later) v.runs law rules past h are a
