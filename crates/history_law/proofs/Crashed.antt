-- What a crash leaves of what is held.
use Rattle.std.proofs.Common.{◌≡◌, ◌⊎◌, inl, inr, ◌∙◌, ap, sym, subst, refl, ℕ, ◌<◌, List, [], ◌∷◌, ◌++◌, append_assoc}
use Rattle.std.specs.Prelude.{Option, Some, None}
use Rattle.std.proofs.lemmas.List.{append_cancel_left}
use Rattle.decl_core.specs.ObjectForm.{ObjectForm}
use Rattle.decl_core.specs.ObjectMap.{object_of}
use Rattle.word_core.specs.Events.{Happened as Ended}
use Rattle.decl_core.specs.HoldForm.{RulesForm}
use Rattle.front_read.specs.HeldLines.{held_text}
use Rattle.live_core.specs.Scene.{Scene}
use Rattle.keep_loop.specs.Texts.{Begins, to}
use Rattle.keep_loop.specs.Turns.{Turn, Runs, added_by}
use Rattle.keep_loop.specs.Epochs.{rules_of, front_in, before_in, since_in, Agrees, HasBegun, LastBegan, change_to, BeginsNone}
use Rattle.keep_loop.specs.Stands.{Survives}
use Rattle.client_core.specs.Custody.{Custody, held_lines, held_lines_in}
use Rattle.table_core.specs.Moves.{Gives, Fronts}
use Rattle.table_core.specs.Seen.{seen}
use Rattle.table_core.specs.declared.table.Table.{Table}
use Rattle.history_law.specs.Kept.{Stood, LeavesAnswered}
use Rattle.history_law.proofs.Empty.{no_bytes, front_change, since_change}
use Rattle.history_law.proofs.KeptGoing.{objects_stand, crash_leaves_answered}
use Rattle.history_law.proofs.TurnLiving.{turns_have_one_history}
use Rattle.live_core.specs.declared.past.PastRun.{PastRun}
use Rattle.history_law.specs.Played.{LeavesHeld}
use Rattle.history_law.specs.Crashed.{IsHeldBehind, IsHeldAhead, CrashLeavesHeld, HasStartedAnew, start_text}
use Rattle.history_law.specs.Ended.{HoldsBy}
use Rattle.history_law.proofs.Playing.{next_leaves_held, start_leaves_held}
use Rattle.history_law.proofs.HoldTurning.{turns_hold}

runs_split : (old new : Table) (ts us : List Turn) → Runs Gives old (ts ++ us) new → (mid : Table) × Runs Gives old ts mid × Runs Gives mid us new
runs_split old new [] us runs = (old, refl, runs)
runs_split old new (t ∷ ts) us (next, gave, runs) = let on = runs_split next new ts us runs in (on.0, (next, gave, on.1), on.2)

added_more : (j : ℕ) (ts us : List Turn) → added_by j (ts ++ us) ≡ added_by j ts ++ added_by j us
added_more j [] us = refl
added_more j (t ∷ ts) us =
    ap (λ (l : List ℕ). to j t.added ++ l) (added_more j ts us) ∙ sym (append_assoc (to j t.added) (added_by j ts) (added_by j us))

begins_cancel : (a b c : List ℕ) → Begins (a ++ b) (a ++ c) → Begins b c
begins_cancel a b c is = (is.0, append_cancel_left a c (b ++ is.0) (is.1 ∙ append_assoc a b is.0))

module _ (first last : Table) (j : ℕ) (o : ObjectForm) (rules : RulesForm) (past : List Ended) (turns : List Turn) (runs : Runs Gives first turns last) (s : Stood first j o) (h : HoldsBy first j rules past)
    (text found : List ℕ) where
  behind : (before : List ℕ) → LastBegan j text before turns → Begins (before ++ found) (added_by j turns) → IsHeldBehind first last j o rules past turns text found
  behind before b only =
      let parts = runs_split first last b.earlier (change_to j text ∷ b.since) (subst (λ ts. Runs Gives first ts last) b.cut runs) in
      let change = parts.2 in
      let history = turns_have_one_history first parts.0 b.earlier parts.1 in
      let held = turns_hold first parts.0 b.earlier history.accounts j o rules past history.told s h in
      let lines : added_by j turns ≡ before ++ added_by j b.since =
      ap (added_by j) b.cut ∙ added_more j b.earlier (change_to j text ∷ b.since) ∙ ap (λ (l : List ℕ). l ++ added_by j b.since) (sym b.lines) in
      record {
        earlier = b.earlier;
        since = b.since;
        cut = b.cut;
        before = parts.0;
        after = change.0;
        runs = change.2;
        accounts = history.accounts;
        ends = held.ends;
        over = held.over;
        leaves = next_leaves_held parts.0 change.0 last j o rules held.ends text found b.since change.1 change.2 b.none (objects_stand first parts.0 b.earlier j o parts.1 s) held.holds
            (begins_cancel before found (added_by j b.since) (subst (Begins (before ++ found)) lines only));
      }

  ahead : Fronts last j text → found ≡ [] → IsHeldAhead first last j o rules past turns text found
  ahead at none =
      let history = turns_have_one_history first last turns runs in
      let held = turns_hold first last turns history.accounts j o rules past history.told s h in
      let stood = objects_stand first last turns j o runs s in
      record {
        accounts = history.accounts;
        ends = held.ends;
        over = held.over;
        holds = held.holds;
        front = at.front;
        text_is = at.told ∙ ap (λ (x : Option Scene). at.front ++ held_lines_in (seen last).custody j x) stood.there
            ∙ ap (λ (x : Option Custody). at.front ++ held_lines (object_of stood.scene.hall.object) x) held.holds.there
            ∙ ap (λ (x : ObjectForm). at.front ++ held_text x held.holds.custody.rules.holds held.holds.custody.held) stood.stands.object
            ∙ ap (λ (x : RulesForm). at.front ++ held_text o x.holds held.holds.custody.held) held.holds.rules_are;
        nothing = none;
      }

one_text : {a b : List ℕ} → ◌≡◌ {A = Option (List ℕ)} (Some a) (Some b) → a ≡ b
one_text is = cc

some_none : {a : List ℕ} → ◌≡◌ {A = Option (List ℕ)} (Some a) None → ⊥
some_none is = cc

pub crash_leaves_held : CrashLeavesHeld
crash_leaves_held first limits seen found waits honest between = record {
  answered = left;
  held = λ j o rules past text within is s h. by j o rules past text within is s h (left.left.begun j within);
  at_first = λ j o rules past events within none s h. from_start j o rules past events within none s h (left.left.begun j within);
}
  where
    left : LeavesAnswered first limits seen found
    left = crash_leaves_answered first limits seen found waits honest between

    l : Survives Gives first limits seen (λ j. before_in j seen ++ found j)
    l = left.left.survives

    by : (j : ℕ) (o : ObjectForm) (rules : RulesForm) (past : List Ended) (text : List ℕ) → j < limits.journals → front_in j seen ≡ Some text → Stood first j o → HoldsBy first j rules past →
        HasBegun (rules_of Gives Fronts) l.last j seen (l.answered ++ l.later) →
        IsHeldBehind first l.last j o rules past (l.answered ++ l.later) text (found j) ⊎ IsHeldAhead first l.last j o rules past (l.answered ++ l.later) text (found j)
    by j o rules past text within is s h (inl agrees) =
        inl (behind first l.last j o rules past (l.answered ++ l.later) l.runs s h text (found j) (before_in j seen)
        (subst (λ (x : Option (List ℕ)). Agrees j x (before_in j seen) (l.answered ++ l.later)) is agrees) (l.only j within))
    by j o rules past text within is s h (inr so) =
        let same : so.front ≡ text = one_text (sym (front_change j so.front so.before) ∙ ap (front_in j) (sym so.just) ∙ is) in
        let since = (between j within).nothing_else in
        inr (ahead first l.last j o rules past (l.answered ++ l.later) l.runs s h text (found j) (subst (λ (x : List ℕ). Fronts l.last j x) same so.stands)
        (no_bytes (found j) since.0 (sym (ap (since_in j) so.just ∙ since_change j so.front so.before) ∙ since.1)))

    from_start : (j : ℕ) (o : ObjectForm) (rules : RulesForm) (past : List Ended) (events : List PastRun) → j < limits.journals → front_in j seen ≡ None → (s : HasStartedAnew first j o events) →
        (h : HoldsBy first j rules past) → HasBegun (rules_of Gives Fronts) l.last j seen (l.answered ++ l.later) → LeavesHeld first j o rules past (start_text rules s h.custody) (found j)
    from_start j o rules past events within none s h (inl agrees) =
        let so : BeginsNone j (l.answered ++ l.later) × (before_in j seen ≡ []) = subst (λ (x : Option (List ℕ)). Agrees j x (before_in j seen) (l.answered ++ l.later)) none agrees in
        start_leaves_held first l.last j o rules past s.scene events (found j) (l.answered ++ l.later) s.there
        (record { scene = s.scene; there = s.there; names = s.names; stands = s.stands; goes_on = so.0 }) s.waiting s.carried l.runs h
        (subst (λ (x : List ℕ). Begins (x ++ found j) (added_by j (l.answered ++ l.later))) so.1 (l.only j within))
    from_start j o rules past events within none s h (inr ahead) =
        absurd (some_none (sym (front_change j ahead.front ahead.before) ∙ ap (front_in j) (sym ahead.just) ∙ none))
