-- The calls of which it is told by names stand in the one history.
use Rattle.std.proofs.Common.{◌≡◌, ◌⊎◌, inl, inr, ◌∙◌, ap, sym, subst, refl, ℕ, List, [], ◌∷◌, ◌++◌, Bool, true, false, Option, Some, None, Result, Ok, Err, append_assoc}
use Rattle.std.specs.Prelude.{IfSome, slice_get, if◌then◌else◌}
use Rattle.apply_core.specs.declared.reply.Reply.{Reply}
use Rattle.word_core.specs.Events.{Called}
use Rattle.live_core.specs.declared.call.Ran.{Ran}
use Rattle.live_core.specs.Hall.{Every}
use Rattle.guest_core.specs.declared.guest.Guest.{Guest}
use Rattle.guest_core.specs.declared.guests.Entered.{Entered}
use Rattle.guest_core.specs.declared.guests.EnterFault.{EnterFault}
use Rattle.guest_core.specs.declared.kept.Asked.{Asked as Call}
use Rattle.guest_core.specs.Guests.{Guests}
use Rattle.audit_core.specs.Steps.{Step, ran}
use Rattle.live_core.specs.Calls.{AreRemembered, seat_of}
use Rattle.live_core.specs.Scene.{Scene, told_of}
use Rattle.live_core.specs.HostedSteps as hosted
use Rattle.history_law.specs.Happens.{with_ran as all_ran, happens, all_happen}
use Rattle.history_law.specs.Keys.{KeyEvent, KeyedCall, epoch_began, name_came, call_ended, client_of, IsRememberedUnder, IsKeptLine}
use Rattle.history_law.specs.Keyed.{ended_as, ended_by, with_ran, with_came, with_step, with_steps}
use Rattle.keep_loop.specs.Texts.{to}
use Rattle.keep_loop.specs.Turns.{Asked, Turn}
use Rattle.keep_loop.specs.Turns.Asked.{Heard, Noted, Changes}
use Rattle.client_core.specs.Custody.{Custody}
use Rattle.history_law.specs.Said.{Account}
use Rattle.history_law.proofs.Going.{ran_more, all_more, TellsAlike, all_alike, told_alike}
use Rattle.table_core.specs.Seen.{seen}
use Rattle.table_core.specs.declared.table.Table.{Table}
use Rattle.history_law.specs.Replied.{AreTold, HaveOneHistory}
use Rattle.history_law.specs.TurnKeys.{NamesIn, NamesOver}
use Rattle.history_law.proofs.TurnReplying.{stands_in}
use Rattle.history_law.specs.Repeat.{IsEndIn, HasStood, RepeatsStand}

-- each call of which it is told that it ended with a reply is such
abbrev Each : (ℕ → Reply → Type 0) → List KeyEvent → Type 0
Each P [] = Unit {0}
Each P (epoch_began clients ∷ told) = Each P told
Each P (name_came name ∷ told) = Each P told
Each P (call_ended c ∷ told) = IfSome c.call.reply (P c.call.told) × Each P told

each_at : (P : ℕ → Reply → Type 0) (newer : List KeyEvent) (c : KeyedCall) (older : List KeyEvent) (reply : Reply) → Each P (newer ++ call_ended c ∷ older) → c.call.reply ≡ Some reply → P c.call.told reply
each_at P [] c older reply each is = subst (λ (x : Option Reply). IfSome x (P c.call.told)) is each.0
each_at P (epoch_began clients ∷ newer) c older reply each is = each_at P newer c older reply each is
each_at P (name_came name ∷ newer) c older reply each is = each_at P newer c older reply each is
each_at P (call_ended d ∷ newer) c older reply each is = each_at P newer c older reply each.1 is

-- so is each of these events
own_ends : (told : List KeyEvent) (newer : List KeyEvent) (older : List KeyEvent) → told ≡ newer ++ older → Each (IsEndIn told) older
own_ends told newer [] cut = tt
own_ends told newer (epoch_began clients ∷ older) cut = own_ends told (newer ++ epoch_began clients ∷ []) older (cut ∙ sym (append_assoc newer (epoch_began clients ∷ []) older))
own_ends told newer (name_came name ∷ older) cut = own_ends told (newer ++ name_came name ∷ []) older (cut ∙ sym (append_assoc newer (name_came name ∷ []) older))
own_ends told newer (call_ended c ∷ older) cut = (by c.call.reply refl, own_ends told (newer ++ call_ended c ∷ []) older (cut ∙ sym (append_assoc newer (call_ended c ∷ []) older)))
  where
    by : (reply : Option Reply) → c.call.reply ≡ reply → IfSome reply (IsEndIn told c.call.told)
    by None is = tt
    by (Some reply) is = record { newer = newer; call = c; older = older; cut = cut; told_is = refl; reply_is = is }

each_map : (P Q : ℕ → Reply → Type 0) (told : List KeyEvent) → ((n : ℕ) (reply : Reply) → P n reply → Q n reply) → Each P told → Each Q told
each_map P Q [] f each = tt
each_map P Q (epoch_began clients ∷ told) f each = each_map P Q told f each
each_map P Q (name_came name ∷ told) f each = each_map P Q told f each
each_map P Q (call_ended c ∷ told) f each = (by c.call.reply each.0, each_map P Q told f each.1)
  where
    by : (reply : Option Reply) → IfSome reply (P c.call.told) → IfSome reply (Q c.call.told)
    by None is = tt
    by (Some reply) is = f c.call.told reply is

module _ (P : ℕ → Reply → Type 0) where
  -- all calls that ran in a step are such
  abbrev AllRan : Scene → List Step → Type 0
  AllRan s steps = (later : List Step) (c : Called) (reply : Reply) (before : List Step) → steps ≡ later ++ ran c reply ∷ before → P (told_of s c.number) reply

  as_ended : (g : Guest) (asked : Option Call) (number : ℕ) (reply : Option Reply) (told : List KeyEvent) → IfSome reply (P number) → Each P told → Each P (ended_as g asked number reply ++ told)
  as_ended g None number reply told is each = each
  as_ended g (Some a) number reply told is each = (is, each)

  by_ended : (g : Option Guest) (number : ℕ) (reply : Option Reply) (told : List KeyEvent) → IfSome reply (P number) → Each P told → Each P (ended_by g number reply ++ told)
  by_ended None number reply told is each = each
  by_ended (Some g) number reply told is each = as_ended g g.keys.asked number reply told is each

  ran_each : (s : Scene) (v : Guests) (all : List Ran) (new : Guests) (are : AreRemembered s v all new) (told : List KeyEvent) → Every (λ (r : Ran). P (told_of s r.call.number) r.reply) all → Each P told → Each P (with_ran s v all new are told)
  ran_each s v [] new are told every each = each
  ran_each s v (r ∷ all) new (mid, one, more) told (here, every) each =
      ran_each s mid all new more (ended_by (client_of v (seat_of r.call.session)) (told_of s r.call.number) (Some r.reply) ++ told) every
      (by_ended (client_of v (seat_of r.call.session)) (told_of s r.call.number) (Some r.reply) told here each)

  came_each : (name : List ℕ) (a : Result Entered EnterFault) (told : List KeyEvent) → Each P told → Each P (with_came name a told)
  came_each name (Ok a) told each = by a.is_new
    where
      by : (b : Bool) → Each P (if b then name_came name ∷ told else told)
      by true = each
      by false = each
  came_each name (Err fault) told each = each

  -- calls that ran, one after the other
  every_ran : (s old : Scene) (all : List Ran) (steps : List Step) → ((n : ℕ) → told_of s n ≡ told_of old n) → AllRan old (all_ran all steps) → Every (λ (r : Ran). P (told_of s r.call.number) r.reply) all
  every_ran s old [] steps same each = tt
  every_ran s old (r ∷ all) steps same each = (
    subst (λ n. P n r.reply) (sym (same r.call.number)) (each (all_ran all []) r.call r.reply steps (ran_more all (ran r.call r.reply ∷ steps))),
    every_ran s old all (ran r.call r.reply ∷ steps) same each,
  )

  step_each : (old new : Scene) (lines : List ℕ) (step : hosted.Step old lines new) (told : List KeyEvent) → AllRan old (happens step []) → Each P told → Each P (with_step step told)
  step_each old new lines (hosted.comes name now a guests is_name enters) told each so = came_each name a told so
  step_each old new lines (hosted.gets_number session least) told each so = so
  step_each old new lines (hosted.leaves session now was_here guests left) told each so = so
  step_each old new lines (hosted.calls session operation arguments a does) told each so =
      let tells = does.takes.tells in
      let alike : TellsAlike old does.mid = record { carried = tells.carried; base = tells.base } in
      ran_each does.mid does.mid.guests a.ran.items new.guests does.remembered told
      (every_ran does.mid old a.ran.items [] (λ n. told_alike old does.mid n alike) each) so
  step_each old new lines (hosted.cancels session number said gone) told each so = by_ended (client_of old.guests session) number None told tt so

  steps_each : (old new : Scene) (lines : List ℕ) (all : hosted.Steps old lines new) (told : List KeyEvent) → AllRan old (all_happen all []) → Each P told → Each P (with_steps all told)
  steps_each old new lines hosted.rests told each so = so
  steps_each old new lines (hosted.does step) told each so = step_each old new lines step told each so
  steps_each old new lines (hosted.goes_on {mid = mid} {lines = before} {added = added} first more) told each so =
      let was = all_happen first [] in
      let now = all_happen more [] in
      let whole : all_happen more was ≡ now ++ was = all_more mid new added more was in
      steps_each mid new added more (with_steps first told)
      (λ later c reply earlier is.
      subst (λ n. P n reply) (sym (told_alike old mid c.number (all_alike old mid before first)))
      (each later c reply (earlier ++ was) (whole ∙ ap (λ (l : List Step). l ++ was) is ∙ append_assoc later (ran c reply ∷ earlier) was)))
      (steps_each old mid before first told
      (λ later c reply earlier is. each (now ++ later) c reply earlier (whole ∙ ap (λ (l : List Step). now ++ l) is ∙ sym (append_assoc now later (ran c reply ∷ earlier)))) so)

  -- over turns
  abbrev AllIn : ℕ → Table → List Account → Type 0
  AllIn j first accounts =
      (ts : List Turn) (earlier : List Account) (a : Account) (behind : List Account) (mid : Table) (s : Scene) → AreTold first ts earlier mid → accounts ≡ earlier ++ a ∷ behind →
      slice_get mid.objects.items j ≡ Some s → AllRan s (a j)

  turn_each : (j : ℕ) (held : Option Custody) (asked : Asked) (old : Scene) (told : List KeyEvent) (added : List (ℕ × List ℕ)) (steps : List Step) (new : Scene) (now : List KeyEvent) → NamesIn j held asked old told added steps new now →
      AllRan old steps → Each P told → Each P now
  turn_each j held (Heard who line end) old told added steps new now (went, is) each so =
      subst (Each P) (sym is) (steps_each old new (to j added) went.0 told (subst (AllRan old) went.1 each) so)
  turn_each j held (Noted note) old told added steps new now (went, is) each so =
      subst (Each P) (sym is) (steps_each old new (to j added) went.0 told (subst (AllRan old) went.1 each) so)
  turn_each j held (Changes journal front true) old told added steps new now (inl (same, begins, is)) each so = subst (Each P) (sym is) so
  turn_each j held (Changes journal front true) old told added steps new now (inr (other, same, is)) each so = subst (Each P) (sym is) so
  turn_each j held (Changes journal front false) old told added steps new now (same, is) each so = subst (Each P) (sym is) so

  turns_each : (j : ℕ) (first last : Table) (turns : List Turn) (accounts : List Account) (told now : List KeyEvent) → NamesOver j first turns accounts last told now → AllIn j first accounts → Each P told → Each P now
  turns_each j first last [] [] told now (same, is) each so = subst (Each P) (sym is) so
  turns_each j first last [] (a ∷ accounts) told now names each so = absurd names
  turns_each j first last (t ∷ turns) [] told now names each so = absurd names
  turns_each j first last (t ∷ turns) (a ∷ accounts) told now (mid, gives, says, before, there, after, at, so_far, names, more) each so =
      turns_each j mid last turns accounts so_far now more
      (λ ts earlier b behind m s led cut is. each (t ∷ ts) (a ∷ earlier) b behind m s (mid, gives, says, led) (ap (λ (l : List Account). a ∷ l) cut) is)
      (turn_each j (slice_get (seen first).custody j) t.asked before told t.added (a j) after so_far names (each [] [] a accounts first before refl refl there) so)

-- it stands in the history, or it was told before
abbrev Stood : (first last : Table) (turns : List Turn) → HaveOneHistory first last turns → ℕ → List KeyEvent → ℕ → Reply → Type 0
Stood first last turns h j told n reply = HasStood first last turns h j n reply ⊎ IsEndIn told n reply

pub repeats_stand : RepeatsStand
repeats_stand first last turns before h text r f told k = by k.the_call.remembered
  where
    -- what ran in one of the turns stands in the history
    stood : (ts : List Turn) (earlier : List Account) (a : Account) (behind : List Account) (mid : Table) (s : Scene) → AreTold first ts earlier mid → h.accounts ≡ earlier ++ a ∷ behind →
        slice_get mid.objects.items r.remembered.object ≡ Some s → (later : List Step) (c : Called) (reply : Reply) (earlier_steps : List Step) → a r.remembered.object ≡ later ++ ran c reply ∷ earlier_steps →
        Stood first last turns h r.remembered.object told (told_of s c.number) reply
    stood ts earlier a behind mid s led cut there later c reply earlier_steps is = inl (record {
      before = ts;
      accounts = earlier;
      mid = mid;
      led = led;
      scene = s;
      there = there;
      call = c;
      told_is = refl;
      stands = λ o begun epochs l. stands_in first last turns h r.remembered.object earlier a behind cut later earlier_steps c reply is o begun epochs l;
    })

    before_it : Each (Stood first last turns h r.remembered.object told) k.at.events
    before_it = turns_each (Stood first last turns h r.remembered.object told) r.remembered.object first r.mid before r.earlier told k.at.events k.at.names
        (λ ts earlier a behind mid s led cut there. stood ts earlier a (behind ++ r.account ∷ r.later) mid s led
        (r.cut ∙ ap (λ (l : List Account). l ++ r.account ∷ r.later) cut ∙ append_assoc earlier (a ∷ behind) (r.account ∷ r.later)) there)
        (each_map (IsEndIn told) (Stood first last turns h r.remembered.object told) told (λ n reply is. inr is) (own_ends told [] told refl))

    all : Each (Stood first last turns h r.remembered.object told) (with_steps r.remembered.since k.at.events)
    all = steps_each (Stood first last turns h r.remembered.object told) r.remembered.scene r.remembered.now r.remembered.lines r.remembered.since k.at.events
        (λ later c reply earlier is.
        stood before r.earlier r.account r.later r.mid r.remembered.scene r.led r.cut r.remembered.there (r.remembered.later ++ later) c reply earlier
        (r.remembered.moment ∙ ap (λ (l : List Step). r.remembered.later ++ l) is ∙ sym (append_assoc r.remembered.later later (ran c reply ∷ earlier)))) before_it

    by : IsRememberedUnder (with_steps r.remembered.since k.at.events) f k.the_call.guest.name r.remembered.key k.the_call.call →
        HasStood first last turns h r.remembered.object r.number r.reply ⊎ (IsEndIn told r.number r.reply ⊎ IsKeptLine f.clients f.kept k.the_call.guest.name r.remembered.key k.the_call.call)
    by (inl is) =
        let call = k.the_call.call in
        let one : Stood first last turns h r.remembered.object told call.told r.reply =
        each_at (Stood first last turns h r.remembered.object told) is.newer (record { name = k.the_call.guest.name; key = r.remembered.key; call = call }) is.older r.reply (subst (Each (Stood first last turns h r.remembered.object told)) is.told_is all) k.the_call.reply_is in
        elim (subst (λ n. Stood first last turns h r.remembered.object told n r.reply) k.the_call.told_is one) [
          | inl stands ↦ inl stands
          | inr end ↦ inr (inl end)
        ]
    by (inr line) = inr (inr line)
