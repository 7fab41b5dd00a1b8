-- What is held, turn by turn.
use Rattle.std.proofs.Common.{◌≡◌, ◌≢◌, ◌∙◌, ap, sym, subst, refl, arith, ℕ, List, [], ◌∷◌, ◌++◌, append_assoc, eqb-true}
use Rattle.std.specs.Prelude.{◌+◌, Bool, true, false, ◌==◌, Option, Some, slice_get, slice_set}
use Rattle.std.proofs.lemmas.Bool.{eqb-false}
use Rattle.std.proofs.lemmas.List.{append-nil}
use Rattle.std.proofs.lemmas.Option.{same_Some}
use Rattle.decl_core.specs.ObjectForm.{ObjectForm}
use Rattle.apply_core.specs.History.{End}
use Rattle.word_core.specs.Events.{Called, Happened, history_of}
use Rattle.live_core.specs.Epochs.{numbered_from}
use Rattle.live_core.specs.Hall.{Every}
use Rattle.decl_core.specs.HoldForm.{RulesForm}
use Rattle.guest_core.specs.Held.{HeldCall, MayUndo}
use Rattle.guest_core.specs.declared.hold_ends.HoldEnds.TheVariants.{ByDone}
use Rattle.guest_core.proofs.Given.{each_given_once, never_more_given}
use Rattle.audit_core.specs.Steps.{Step, told_by, happened_of}
use Rattle.live_core.specs.Scene.{Scene}
use Rattle.keep_loop.specs.Texts.{to}
use Rattle.keep_loop.specs.Turns.{Asked}
use Rattle.keep_loop.specs.Turns.Asked.{Heard, Noted, Changes}
use Rattle.client_core.specs.Custody.{Custody, Custodies}
use Rattle.client_core.specs.Deeds.{Texts}
use Rattle.client_core.specs.Moves.{Begins}
use Rattle.client_core.specs.State.{State}
use Rattle.history_law.specs.Said.{Account, AllWent, SaysIn}
use Rattle.table_core.specs.Moves.{Gives}
use Rattle.table_core.specs.Seen.{seen}
use Rattle.table_core.specs.declared.table.Table.{Table}
use Rattle.history_law.specs.Kept.{Stood}
use Rattle.history_law.specs.Replied.{ends_in}
use Rattle.history_law.proofs.KeptGoing.{set_other, set_at, objects_stand}
use Rattle.history_law.specs.Ended.{ends_of, HoldsBy, TurnsHold}
use Rattle.history_law.specs.Keeps.{AreApart, Keeps, KeepsAt, TurnsKeepHolds, TurnsGiveOnce}
use Rattle.history_law.proofs.Calling.{KeptNow, passes_keep}
use Rattle.history_law.proofs.TurnHolding.{happened_by, steps_of, HeldNow, passes_hold, history_ends}
use Rattle.history_law.proofs.Once.{one_account}
use Rattle.history_law.proofs.Passing.{Passes, PassesAt, heard_passes, noted_passes}

-- an object passes a turn in which it begins no epoch, and just these calls have ended
record Passed (old new : Table) (j : ℕ) (s : Scene) (steps : List Step) : Type 0 where
  scene : Scene
  there : slice_get new.objects.items j ≡ Some scene
  lines : List ℕ
  passes : Passes s (slice_get (seen old).custody j) lines scene (slice_get (seen new).custody j)
  same : steps ≡ happened_by passes

passed_says : (old new : Table) (added : Texts) (a : Account) (j : ℕ) (o : ObjectForm) (s : Stood old j o) → AllWent old.objects.items added a new.objects.items →
    PassesAt (seen old) j s.scene added (seen new) → Passed old new j s.scene (a j)
passed_says old new added a j o s went p =
    let all = went.each j s.scene p.scene s.there p.there in
    let by : Passes s.scene (slice_get (seen old).custody j) (to j added) p.scene (slice_get (seen new).custody j) =
    subst (λ (l : List ℕ). Passes s.scene (slice_get (seen old).custody j) l p.scene (slice_get (seen new).custody j)) (sym p.lines_are)
    (subst (λ (c : Option Custody). Passes s.scene (slice_get (seen old).custody j) p.lines p.scene c) (sym p.held_is) p.passes) in
    record {
      scene = p.scene;
      there = p.there;
      lines = to j added;
      passes = by;
      same = all.1 ∙ one_account o s.begun s.heard s.scene p.scene p.scene (to j added) all.0 (steps_of by) s.names s.stands;
    }

-- what is held behind a turn
held_by : (new : Table) (j : ℕ) (rules : RulesForm) (past : List Happened) → HeldNow rules (slice_get (seen new).custody j) past → HoldsBy new j rules past
held_by new j rules past h = record { custody = h.custody; there = h.there; rules_are = h.rules_are; are = h.are }

held_now : (old : Table) (j : ℕ) (rules : RulesForm) (past : List Happened) → HoldsBy old j rules past → HeldNow rules (slice_get (seen old).custody j) past
held_now old j rules past h = record { custody = h.custody; there = h.there; rules_are = h.rules_are; are = h.are }

passed_hold : (old new : Table) (j : ℕ) (rules : RulesForm) (s : Scene) (steps : List Step) (past : List Happened) → Passed old new j s steps → HoldsBy old j rules past → HoldsBy new j rules (ends_of s steps ++ past)
passed_hold old new j rules s steps past p h =
    held_by new j rules (ends_of s steps ++ past)
    (subst (λ (l : List Step). HeldNow rules (slice_get (seen new).custody j) (ends_of s l ++ past)) (sym p.same)
    (passes_hold rules s p.scene (slice_get (seen old).custody j) (slice_get (seen new).custody j) p.lines past p.passes (held_now old j rules past h)))

still_hold : (old new : Table) (j : ℕ) (rules : RulesForm) (s : Scene) (steps : List Step) (past : List Happened) → slice_get (seen new).custody j ≡ slice_get (seen old).custody j → steps ≡ [] → HoldsBy old j rules past →
    HoldsBy new j rules (ends_of s steps ++ past)
still_hold old new j rules s steps past same none h =
    subst (λ (l : List Step). HoldsBy new j rules (ends_of s l ++ past)) (sym none)
    (record { custody = h.custody; there = same ∙ h.there; rules_are = h.rules_are; are = h.are })

turn_holds : (old new : Table) (asked : Asked) (said added : Texts) (a : Account) (j : ℕ) (o : ObjectForm) (rules : RulesForm) (past : List Happened) (s : Stood old j o) →
    Gives old asked said added new → SaysIn (seen old) asked said added a (seen new) → HoldsBy old j rules past → HoldsBy new j rules (ends_of s.scene (a j) ++ past)
turn_holds old new (Heard who line end) said added a j o rules past s gives says h =
    passed_hold old new j rules s.scene (a j) past (passed_says old new added a j o s says.went (heard_passes who line end (seen old) (seen new) said added gives j s.scene s.there)) h
turn_holds old new (Noted note) said added a j o rules past s gives says h =
    passed_hold old new j rules s.scene (a j) past (passed_says old new added a j o s says.went (noted_passes note (seen old) (seen new) said added gives j s.scene s.there)) h
turn_holds old new (Changes journal front true) said added a j o rules past s gives says h =
    still_hold old new j rules s.scene (a j) past (ap (λ (c : Custodies). slice_get c j) gives.2.custody) (says.1 j) h
turn_holds old new (Changes journal front false) said added a j o rules past s gives says h =
    still_hold old new j rules s.scene (a j) past (ap (λ (x : State). slice_get x.custody j) gives.left) (says.1 j) h

pub turns_hold : TurnsHold
turns_hold first last [] [] j o rules past told s h = record {
  ends = past;
  over = (told, refl);
  holds = subst (λ (t : Table). HoldsBy t j rules past) (sym told) h;
  done = sym (append-nil (history_of o past));
}
turns_hold first last [] (a ∷ accounts) j o rules past told s h = absurd told
turns_hold first last (t ∷ turns) [] j o rules past told s h = absurd told
turns_hold first last (t ∷ turns) (a ∷ accounts) j o rules past (mid, gives, says, told) s h =
    let one = turn_holds first mid t.asked t.said t.added a j o rules past s gives says h in
    let stood : Stood mid j o = objects_stand first mid (t ∷ []) j o (mid, gives, refl) s in
    let now = ends_of s.scene (a j) ++ past in
    let on = turns_hold mid last turns accounts j o rules now told stood one in
    record {
      ends = on.ends;
      over = (mid, gives, says, s.scene, s.there, on.over);
      holds = on.holds;
      done = on.done ∙ ap (λ (l : List End). l ++ ends_in o j accounts) (history_ends o s.scene (a j) past)
          ∙ append_assoc (history_of o past) (history_of o (happened_of (a j))) (ends_in o j accounts);
    }

-- what is kept behind a turn

kept_now : (old : Table) (j : ℕ) (o : ObjectForm) (rules : RulesForm) (past : List Happened) (s : Stood old j o) → KeepsAt old j rules past → KeptNow rules s.scene (slice_get (seen old).custody j) past
kept_now old j o rules past s k = record {
  told = told_by s.begun s.heard.steps;
  is = s.stands.held;
  custody = k.custody;
  there = k.there;
  rules_are = k.rules_are;
  keeps = subst (λ (x : Scene). Keeps rules.holds x.hall.waiting past k.custody.held) (same_Some k.scene s.scene (sym k.at ∙ s.there)) k.keeps;
}

passed_keep : (old new : Table) (j : ℕ) (o : ObjectForm) (rules : RulesForm) (s : Stood old j o) (steps : List Step) (past : List Happened) → AreApart rules → Passed old new j s.scene steps →
    KeepsAt old j rules past → KeepsAt new j rules (ends_of s.scene steps ++ past)
passed_keep old new j o rules s steps past apart p k =
    let now : KeptNow rules p.scene (slice_get (seen new).custody j) (ends_of s.scene steps ++ past) =
    subst (λ (l : List Step). KeptNow rules p.scene (slice_get (seen new).custody j) (ends_of s.scene l ++ past)) (sym p.same)
    (passes_keep rules apart s.scene p.scene (slice_get (seen old).custody j) (slice_get (seen new).custody j) p.lines past p.passes (kept_now old j o rules past s k)) in
    record { scene = p.scene; at = p.there; custody = now.custody; there = now.there; rules_are = now.rules_are; keeps = now.keeps }

-- where nothing happens to it, and calls that wait are numbered anew or not
still_keep : (old new : Table) (j : ℕ) (rules : RulesForm) (s scene : Scene) (steps : List Step) (past : List Happened) (k : KeepsAt old j rules past) → slice_get new.objects.items j ≡ Some scene →
    slice_get (seen new).custody j ≡ slice_get (seen old).custody j → steps ≡ [] → Keeps rules.holds scene.hall.waiting past k.custody.held → KeepsAt new j rules (ends_of s steps ++ past)
still_keep old new j rules s scene steps past k there same none keeps =
    subst (λ (l : List Step). KeepsAt new j rules (ends_of s l ++ past)) (sym none)
    (record { scene = scene; at = there; custody = k.custody; there = same ∙ k.there; rules_are = k.rules_are; keeps = keeps })

every_numbered : (P : Called → Type 0) → ((c : Called) (n : ℕ) → P c → P (record c { number = n })) → (n : ℕ) (waiting : List Called) → Every P waiting → Every P (numbered_from n waiting)
every_numbered P same n [] all = tt
every_numbered P same n (c ∷ waiting) all = (same c (n + 1) all.0, every_numbered P same (n + 1) waiting all.1)

numbered_keep : (rules : RulesForm) (waiting : List Called) (past : List Happened) (held : List HeldCall) → Keeps rules.holds waiting past held → Keeps rules.holds (numbered_from 0 waiting) past held
numbered_keep rules waiting past held k = record {
  are = k.are;
  kept = k.kept;
  may = every_numbered (λ (c : Called). MayUndo rules.holds c.session c.operation c.arguments held) (λ c n may. may) 0 waiting k.may;
  waits = every_numbered (λ (c : Called). c.session ≢ 0) (λ c n is. is) 0 waiting k.waits;
  seated = k.seated;
}

turn_keeps : (old new : Table) (asked : Asked) (said added : Texts) (a : Account) (j : ℕ) (o : ObjectForm) (rules : RulesForm) (past : List Happened) (s : Stood old j o) → AreApart rules →
    Gives old asked said added new → SaysIn (seen old) asked said added a (seen new) → KeepsAt old j rules past → KeepsAt new j rules (ends_of s.scene (a j) ++ past)
turn_keeps old new (Heard who line end) said added a j o rules past s apart gives says k =
    passed_keep old new j o rules s (a j) past apart (passed_says old new added a j o s says.went (heard_passes who line end (seen old) (seen new) said added gives j s.scene s.there)) k
turn_keeps old new (Noted note) said added a j o rules past s apart gives says k =
    passed_keep old new j o rules s (a j) past apart (passed_says old new added a j o s says.went (noted_passes note (seen old) (seen new) said added gives j s.scene s.there)) k
turn_keeps old new (Changes journal front true) said added a j o rules past s apart gives says k = by (journal == j) refl
  where
    begins : Begins old.objects.items journal gives.2.fronts.front new.objects.items
    begins = gives.2.begins

    held : slice_get (seen new).custody j ≡ slice_get (seen old).custody j
    held = ap (λ (c : Custodies). slice_get c j) gives.2.custody

    by : (b : Bool) → (journal == j) ≡ b → KeepsAt new j rules (ends_of s.scene (a j) ++ past)
    by false other =
        let far : journal ≡ j → ⊥ = λ e. absurd (let no = eqb-false journal j other in omega (arith, no, e)) in
        still_keep old new j rules s.scene k.scene (a j) past k
        (ap (λ (l : List Scene). slice_get l j) begins.left ∙ set_other old.objects.items journal j begins.after far ∙ k.at) held (says.1 j) k.keeps
    by true same =
        let at : journal ≡ j = eqb-true journal j same in
        let there : slice_get old.objects.items j ≡ Some begins.before = subst (λ n. slice_get old.objects.items n ≡ Some begins.before) at begins.there in
        let is : k.scene ≡ begins.before = same_Some k.scene begins.before (sym k.at ∙ there) in
        let waits : begins.after.hall.waiting ≡ numbered_from 0 k.scene.hall.waiting =
        begins.begun.followed.begun.waiting ∙ ap (λ (x : Scene). numbered_from 0 x.hall.waiting) (sym is) in
        still_keep old new j rules s.scene begins.after (a j) past k
        (ap (λ (l : List Scene). slice_get l j) begins.left ∙ ap (λ n. slice_get (slice_set old.objects.items n begins.after) j) at ∙ set_at old.objects.items j begins.after begins.before there)
        held (says.1 j)
        (subst (λ (l : List Called). Keeps rules.holds l past k.custody.held) (sym waits) (numbered_keep rules k.scene.hall.waiting past k.custody.held k.keeps))
turn_keeps old new (Changes journal front false) said added a j o rules past s apart gives says k =
    still_keep old new j rules s.scene k.scene (a j) past k (ap (λ (x : State). slice_get x.objects j) gives.left ∙ k.at) (ap (λ (x : State). slice_get x.custody j) gives.left) (says.1 j) k.keeps

pub turns_keep_holds : TurnsKeepHolds
turns_keep_holds first last [] [] j o rules past ends apart s k (same, is) =
    subst (λ (l : List Happened). KeepsAt last j rules l) (sym is) (subst (λ (t : Table). KeepsAt t j rules past) (sym same) k)
turns_keep_holds first last [] (a ∷ accounts) j o rules past ends apart s k over = absurd over
turns_keep_holds first last (t ∷ turns) [] j o rules past ends apart s k over = absurd over
turns_keep_holds first last (t ∷ turns) (a ∷ accounts) j o rules past ends apart s k (mid, gives, says, scene, there, over) =
    let stood : Stood mid j o = objects_stand first mid (t ∷ []) j o (mid, gives, refl) s in
    let same : s.scene ≡ scene = same_Some s.scene scene (sym s.there ∙ there) in
    let one : KeepsAt mid j rules (ends_of scene (a j) ++ past) =
    subst (λ (x : Scene). KeepsAt mid j rules (ends_of x (a j) ++ past)) same (turn_keeps first mid t.asked t.said t.added a j o rules past s apart gives says k) in
    turns_keep_holds mid last turns accounts j o rules (ends_of scene (a j) ++ past) ends apart stood one over

pub turns_give_once : TurnsGiveOnce
turns_give_once first last turns accounts j o rules past ends r apart s k over strict =
    let now = turns_keep_holds first last turns accounts j o rules past ends apart s k over in
    record {
      holds = record { custody = now.custody; there = now.there; rules_are = now.rules_are; are = now.keeps.are };
      once = each_given_once ByDone rules.holds ends now.custody.held r strict now.keeps.are now.keeps.kept;
      never_more = never_more_given ByDone rules.holds ends now.custody.held r strict now.keeps.are now.keeps.kept;
    }
