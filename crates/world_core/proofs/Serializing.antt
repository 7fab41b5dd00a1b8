-- What a script writes is what the sequential object gives.
use Rattle.std.proofs.Common.{◌≡◌, ◌≢◌, ℕ, ◌+◌, ◌-◌, ◌⊎◌, inl, inr, Bool, true, false, List, [], ◌∷◌, ◌++◌, length, map, drop, Some, refl, sym, ◌∙◌, ap, subst, arith}
use Rattle.std.proofs.lemmas.List.{append-nil, drop_all}
use Rattle.std.specs.Prelude.{codes}
use Rattle.std.specs.List.{flat_map}
use Rattle.std.specs.Str.Lines.{lines}
use Rattle.value_core.specs.declared.datum.Datum.{Datum}
use Rattle.value_core.specs.Contents.{Contents}
use Rattle.value_core.specs.Meaning.{opening_of}
use Rattle.decl_core.specs.Bodies.{body_of}
use Rattle.decl_core.specs.declared.object.Object.{Object}
use Rattle.decl_core.specs.ObjectMap.{object_of}
use Rattle.value_core.specs.Runs.{Runs}
use Rattle.apply_core.specs.declared.reply.Failure.TheVariants as failures
use Rattle.apply_core.specs.declared.reply.Reply.{Reply}
use Rattle.apply_core.specs.declared.reply.Reply.TheVariants as replies
use Rattle.page_core.specs.CallPins.{Call}
use Rattle.apply_core.specs.History.{IsLegal, IsReplyOn, left_by, leads_to}
use Rattle.apply_core.specs.HistoryLaws.{LegalByOne, LeadsByOne}
use Rattle.board_core.specs.declared.event.TraceEvent.{TraceEvent}
use Rattle.page_core.specs.Lists.{Every, Among}
use Rattle.page_core.specs.ObjectCalls.{AcceptedCall, RunningCall, Noted}
use Rattle.board_core.specs.Board.{Board, call_at, joined, dismissed, released, marked, ended, entry_of}
use Rattle.board_core.specs.Keys.{next_key}
use Rattle.board_core.specs.Chain.{end_of as entry_end, history_of}
use Rattle.board_core.specs.Sound.{IsRunningIn, IsSound, kinds_of, event_number}
use Rattle.board_core.specs.declared.answer.CallState.{CallState}
use Rattle.board_core.specs.declared.answer.CallState.TheVariants as states
use Rattle.board_core.specs.Answers.{Asked, IsNamedAt}
use Rattle.board_core.specs.Keyed.{IsStateOf}
use Rattle.world_core.specs.Events.{WorldEvent, call, call_key, step, finish, cancel, leave, resume, look}
use Rattle.world_core.specs.declared.event.EventRefusal.{EventRefusal}
use Rattle.world_core.specs.declared.event.EventRefusal.TheVariants as refusals
use Rattle.world_core.specs.declared.event.WorldAnswer.TheVariants.{Ended, Refused}
use Rattle.world_core.specs.declared.event.EventAnswer.{EventAnswer}
use Rattle.world_core.specs.Names.{refusal_name}
use Rattle.world_core.specs.Scene.{Scene, Standing, Goes, IsNew, call_running}
use Rattle.world_core.specs.Plays.{Plays, HasFailedStep}
use Rattle.world_core.specs.Laws.{FailsOnlyWithItsDevice}
use Rattle.world_core.specs.Answers.{Answers, called, not_called, called_key, not_called_key, stepped, no_step, step_not_running, finished, not_done, finish_not_running, cancelled, not_cancelled, left, no_session, resumed, not_resumed, shown, not_shown}
use Rattle.word_core.specs.Said.{Said, a_call, a_keyed_call, a_do, a_step, all_steps, a_finish, a_cancel, a_drop, a_resume, a_show, a_trace}
use Rattle.word_core.specs.Answers.{called_line, refused_line, all_stepped_line, kept_line, repeated_line, started_line, shown_lines}
use Rattle.world_core.specs.Does.{Does, Happens, IsEvent, IsKept, IsTold, StepsMade, StepsOn, IsOver, none_yet, one_more, answer_lines, call_of, next_number, repeat_line, started_lines, one_event, all_stepped, not_stepped, traced}
use Rattle.world_core.specs.declared.script.ScriptEnd.{ScriptEnd}
use Rattle.world_core.specs.declared.script.ScriptEnd.TheVariants.{Whole, BadLine}
use Rattle.world_core.specs.Writes.{Told, IsBegun, NamesObject, Writes}
use Rattle.world_core.specs.Run.{IsScript}
use Rattle.world_core.specs.Serial.{Serial, MayReply, AreStarts, IsRepeat, IsUnended, Serially, WritesSerially, IsSerialScript}
use Rattle.board_core.specs.Answers.{runs_in}
use Rattle.world_core.proofs.Unended.{waits_unended, runs_unended, none_unended}
use Rattle.world_core.proofs.Doing.{over_ends, HasEnded}
use Rattle.world_core.proofs.ScriptBack.{resumed_same}

-- A world came about from a new one by events in which only these calls were made to fail.
record Carries (o : Object) (w : Scene) (failing : List ℕ) : Type 0 where
  start : Scene
  begins : IsNew o start
  events : List WorldEvent
  told : List EventAnswer
  plays : Plays start events told w
  failed : (n : ℕ) → HasFailedStep n events told → Among n failing

plays_on : (events : List WorldEvent) (told : List EventAnswer) (old mid new : Scene) (e : WorldEvent) (a : EventAnswer)
    → Plays old events told mid → Answers mid e a new → Plays old (events ++ e ∷ []) (told ++ a ∷ []) new
plays_on [] [] old mid new e a plays answer = (new, subst (λ w. Answers w e a new) plays answer, refl)
plays_on [] (b ∷ told) old mid new e a plays answer = absurd plays
plays_on (d ∷ events) [] old mid new e a plays answer = absurd plays
plays_on (d ∷ events) (b ∷ told) old mid new e a plays answer = (plays.0, plays.1, plays_on events told plays.0 mid new e a plays.2 answer)

-- a step that failed is an earlier one or the last one
failed_before : (n : ℕ) (events : List WorldEvent) (told : List EventAnswer) (old mid : Scene) (e : WorldEvent) (a : EventAnswer) → Plays old events told mid
    → HasFailedStep n (events ++ e ∷ []) (told ++ a ∷ []) → HasFailedStep n events told ⊎ (e ≡ step n false)
failed_before n [] [] old mid e a plays (inl h) = inr h.0
failed_before n [] [] old mid e a plays (inr h) = absurd h
failed_before n [] (b ∷ told) old mid e a plays h = absurd plays
failed_before n (d ∷ events) [] old mid e a plays h = absurd plays
failed_before n (d ∷ events) (b ∷ told) old mid e a plays (inl h) = inl (inl h)
failed_before n (d ∷ events) (b ∷ told) old mid e a plays (inr h) = later_failed n d events b told e (failed_before n events told plays.0 mid e a plays.2 h)
  where
    later_failed : (n : ℕ) (d : WorldEvent) (events : List WorldEvent) (b : EventAnswer) (told : List EventAnswer) (e : WorldEvent)
        → HasFailedStep n events told ⊎ (e ≡ step n false) → HasFailedStep n (d ∷ events) (b ∷ told) ⊎ (e ≡ step n false)
    later_failed n d events b told e (inl h) = inl (inr h)
    later_failed n d events b told e (inr h) = inr h

-- one event more
carries_on : {o : Object} {w new : Scene} {failing : List ℕ} (later : List ℕ) → Carries o w failing → (e : WorldEvent) (a : EventAnswer) → Answers w e a new
    → ((n : ℕ) → Among n failing → Among n later) → ((n : ℕ) → e ≡ step n false → Among n later) → Carries o new later
carries_on {w = w} {new = new} later c e a answer more owed = record {
  start = c.start;
  begins = c.begins;
  events = c.events ++ e ∷ [];
  told = c.told ++ a ∷ [];
  plays = plays_on c.events c.told c.start w new e a c.plays answer;
  failed = λ n h. either_owed n (failed_before n c.events c.told c.start w e a c.plays h);
}
  where
    either_owed : (n : ℕ) → HasFailedStep n c.events c.told ⊎ (e ≡ step n false) → Among n later
    either_owed n (inl h) = more n (c.failed n h)
    either_owed n (inr h) = owed n h

-- an entry, as its finish is told
abbrev told_of : Noted → ℕ × Reply
told_of e = (e.number, e.reply)

-- What the sequential object has is that of a world.
record Matches (o : Object) (told : Told) (s : Serial) : Type 0 where
  named : s.named ≡ told.named
  object : s.object ≡ told.world.board.object
  calls : s.calls ≡ told.world.board.calls
  contents : s.contents ≡ leads_to (history_of told.world.board.history) told.world.opening
  replies : s.replies ≡ map told_of told.world.board.history
  running : Every (λ (r : RunningCall). call_at told.world.board.calls r.number ≡ Some r.call) told.world.board.running
  carries : Carries o told.world s.failing

every_running : (b : Board) (rs : List RunningCall) → Every (IsRunningIn b) rs → Every (λ (r : RunningCall). call_at b.calls r.number ≡ Some r.call) rs
every_running b [] all = tt
every_running b (r ∷ rs) all = (all.0.call, every_running b rs all.1)

every_among : {X : Type 0} (P : X → Type 0) (xs : List X) (x : X) → Every P xs → Among x xs → P x
every_among P [] x all here = absurd here
every_among P (y ∷ ys) x all (inl same) = subst P same all.0
every_among P (y ∷ ys) x all (inr later) = every_among P ys x all.1 later

every_last : {X : Type 0} (P : X → Type 0) (xs : List X) (x : X) → Every P (xs ++ x ∷ []) → P x
every_last P [] x all = all.0
every_last P (y ∷ ys) x all = every_last P ys x all.1

-- the world of a line, once it is left so: its board has the same object, these calls, and what the contents are
matches_next : {o : Object} {told : Told} {s : Serial} (new : Scene) (next : Serial) → Matches o told s → IsKept new → next.named ≡ s.named → next.object ≡ s.object → new.board.object ≡ told.world.board.object
    → next.calls ≡ new.board.calls → next.contents ≡ leads_to (history_of new.board.history) new.opening → next.replies ≡ map told_of new.board.history → Carries o new next.failing → Matches o (record told { world = new }) next
matches_next new next m kept named object same calls contents replies carries = record {
  named = named ∙ m.named;
  object = object ∙ m.object ∙ sym same;
  calls = calls;
  contents = contents;
  replies = replies;
  running = every_running new.board new.board.running kept.sound.counted.runs;
  carries = carries;
}

-- What admission leaves as it was.
goes_history : {old new : Scene} {between : Board} {kept : List Standing} {starts : ℕ} → Goes old between kept starts new → new.board.history ≡ between.history
goes_history g = ap (λ (b : Board). b.history) g.board ∙ g.settles.started.history

goes_calls : {old new : Scene} {between : Board} {kept : List Standing} {starts : ℕ} → Goes old between kept starts new → new.board.calls ≡ between.calls
goes_calls g = ap (λ (b : Board). b.calls) g.board ∙ g.settles.started.calls

goes_object : {old new : Scene} {between : Board} {kept : List Standing} {starts : ℕ} → Goes old between kept starts new → new.board.object ≡ between.object
goes_object g = ap (λ (b : Board). b.object) g.board ∙ g.settles.started.object

joined_history : (b : Board) (c : AcceptedCall) → (joined b c).history ≡ b.history
unfolding joined
joined_history b c = refl

joined_calls : (b : Board) (c : AcceptedCall) → (joined b c).calls ≡ b.calls ++ c ∷ []
unfolding joined
joined_calls b c = refl

joined_object : (b : Board) (c : AcceptedCall) → (joined b c).object ≡ b.object
unfolding joined
joined_object b c = refl

dismissed_same : (b : Board) (n : ℕ) → ((dismissed b n).history ≡ b.history) × ((dismissed b n).calls ≡ b.calls) × ((dismissed b n).object ≡ b.object)
unfolding dismissed
dismissed_same b n = (refl, refl, refl)

left_same : (b : Board) (n : ℕ) → ((marked (released b n) n).history ≡ b.history) × ((marked (released b n) n).calls ≡ b.calls) × ((marked (released b n) n).object ≡ b.object)
unfolding marked released
left_same b n = (refl, refl, refl)

ended_history : (b : Board) (e : Noted) → (ended b e).history ≡ b.history ++ e ∷ []
unfolding ended
ended_history b e = refl

ended_same : (b : Board) (e : Noted) → ((ended b e).calls ≡ b.calls) × ((ended b e).object ≡ b.object)
unfolding ended
ended_same b e = (refl, refl)

history_snoc : (entries : List Noted) (e : Noted) → history_of (entries ++ e ∷ []) ≡ history_of entries ++ entry_end e ∷ []
history_snoc [] e = refl
history_snoc (d ∷ entries) e = ap (λ xs. entry_end d ∷ xs) (history_snoc entries e)

-- a finish is one reply more
told_snoc : (entries : List Noted) (e : Noted) (number : ℕ) → e.number ≡ number → map told_of (entries ++ e ∷ []) ≡ map told_of entries ++ (number, e.reply) ∷ []
told_snoc [] e number is = ap (λ n. (n, e.reply) ∷ []) is
told_snoc (d ∷ entries) e number is = ap (λ xs. told_of d ∷ xs) (told_snoc entries e number is)

-- the replies are those that they were
same_replies : (old new : Scene) (told : List (ℕ × Reply)) → told ≡ map told_of old.board.history → new.board.history ≡ old.board.history → told ≡ map told_of new.board.history
same_replies old new told is history = is ∙ ap (map told_of) (sym history)

-- an entry was told as its finish
told_among : (entries : List Noted) (e : Noted) (number : ℕ) (reply : Reply) → Among e entries → e.number ≡ number → e.reply ≡ reply → Among (number, reply) (map told_of entries)
told_among [] e number reply there is_number is_reply = absurd there
told_among (d ∷ entries) e number reply (inl same) is_number is_reply = inl (ap told_of same ∙ ap (λ n. (n, e.reply)) is_number ∙ ap (λ r. (number, r)) is_reply)
told_among (d ∷ entries) e number reply (inr later) is_number is_reply = inr (told_among entries e number reply later is_number is_reply)

-- the contents are where they were
same_contents : (old new : Scene) (contents : List Contents) → contents ≡ leads_to (history_of old.board.history) old.opening → new.board.history ≡ old.board.history → new.opening ≡ old.opening
    → contents ≡ leads_to (history_of new.board.history) new.opening
same_contents old new contents is history opening =
    is ∙ ap (λ es. leads_to (history_of es) old.opening) (sym history) ∙ ap (λ c. leads_to (history_of new.board.history) c) (sym opening)

starts_are : (events : List TraceEvent) → flat_map (λ e. started_line (event_number e)) events ≡ flat_map started_line (map event_number events)
starts_are [] = refl
starts_are (e ∷ events) = ap (λ xs. started_line (event_number e) ++ xs) (starts_are events)

are_starts : (starts : ℕ) (trace : List TraceEvent) → AreStarts (started_lines starts trace)
are_starts starts trace = (map event_number (drop (length trace - starts) trace), starts_are (drop (length trace - starts) trace))

-- an event that starts no call is answered by one line
no_starts : (line : List ℕ) (trace : List TraceEvent) → line ++ started_lines 0 trace ≡ line
no_starts line trace = ap (λ events. line ++ flat_map (λ e. started_line (event_number e)) events) (drop_all (length trace - 0) trace (omega arith)) ∙ append-nil line

-- events that make no step fail
not_by_call : (asked : Asked) (n : ℕ) → call asked ≡ step n false → ⊥
not_by_call asked n is = cc

not_by_key : (asked : Asked) (key n : ℕ) → call_key asked key ≡ step n false → ⊥
not_by_key asked key n is = cc

not_by_step : (m n : ℕ) → step m true ≡ step n false → ⊥
not_by_step m n is = cc

by_step : (m n : ℕ) → step m false ≡ step n false → m ≡ n
by_step m n is = cc

not_by_finish : (m n : ℕ) → finish m ≡ step n false → ⊥
not_by_finish m n is = cc

not_by_cancel : (m n : ℕ) → cancel m ≡ step n false → ⊥
not_by_cancel m n is = cc

not_by_leave : (m n : ℕ) → leave m ≡ step n false → ⊥
not_by_leave m n is = cc

not_by_resume : (m n : ℕ) → resume m ≡ step n false → ⊥
not_by_resume m n is = cc

not_by_look : (n : ℕ) → look ≡ step n false → ⊥
not_by_look n is = cc

-- a refusal is no end
not_ended : (refusal : EventRefusal) (reply : Reply) → Refused refusal ≡ Ended reply → ⊥
not_ended refusal reply is = cc

-- What the sequential object makes of a line that says this, and that it is the world still.
abbrev Next : Object → Told → Serial → Said → List ℕ → Scene → Type 0
Next o told s said text new = (next : Serial) × Serially said s text next × Matches o (record told { world = new }) next

-- nothing changes for the sequential object
stays : {o : Object} {told : Told} {s : Serial} (said : Said) (text : List ℕ) (new : Scene) → Matches o told s → IsKept new → Serially said s text s → new.board.object ≡ told.world.board.object
    → new.board.calls ≡ told.world.board.calls → new.board.history ≡ told.world.board.history → new.opening ≡ told.world.opening → Carries o new s.failing → Next o told s said text new
stays {told = told} {s = s} said text new m kept serially object calls history opening carries =
    (s, serially, matches_next new s m kept refl refl object (m.calls ∙ sym calls) (same_contents told.world new s.contents m.contents history opening) (same_replies told.world new s.replies m.replies history) carries)

on_call : {o : Object} {told : Told} {s : Serial} (session : ℕ) (name : List ℕ) (arguments : List Datum) (a : EventAnswer) (new : Scene) → Matches o told s → IsKept new
    → Answers told.world (call (record { session = session; name = name; arguments = arguments })) a new
    → Next o told s (a_call session name arguments) (answer_lines new.board.object 0 a.answer ++ started_lines a.starts new.board.trace) new
on_call {o = o} {told = told} {s = s} session name arguments a new m kept (called {starts = starts} accepted taken goes) =
    let by : Answers told.world (call (record { session = session; name = name; arguments = arguments })) a new = called accepted taken goes in
    let calls : new.board.calls ≡ told.world.board.calls ++ accepted ∷ [] = goes_calls goes ∙ joined_calls told.world.board accepted in (
      record s { calls = s.calls ++ accepted ∷ [] },
      Serially.called accepted
          (record { caller = taken.asked.session; named = subst (λ x. IsNamedAt x accepted.op accepted.operation name) (sym m.object) taken.asked.named; given = taken.asked.arguments })
          (are_starts starts new.board.trace)
          (ap (λ (cs : List AcceptedCall). called_line (length cs + 1) ++ started_lines starts new.board.trace) (sym m.calls)),
      matches_next new (record s { calls = s.calls ++ accepted ∷ [] }) m kept refl refl (goes_object goes ∙ joined_object told.world.board accepted)
          (ap (λ (cs : List AcceptedCall). cs ++ accepted ∷ []) m.calls ∙ sym calls)
          (same_contents told.world new s.contents m.contents (goes_history goes ∙ joined_history told.world.board accepted) goes.opening)
          (same_replies told.world new s.replies m.replies (goes_history goes ∙ joined_history told.world.board accepted))
          (carries_on s.failing m.carries (call (record { session = session; name = name; arguments = arguments })) a by (λ n h. h) (λ n is. absurd (not_by_call (record { session = session; name = name; arguments = arguments }) n is))),
    )
on_call {o = o} {told = told} {s = s} session name arguments a new m kept (not_called fault refused) =
    let by : Answers told.world (call (record { session = session; name = name; arguments = arguments })) a new = not_called fault refused in
    stays (a_call session name arguments) _ new m kept (Serially.not_called (refusal_name (refusals.Submit fault)) (no_starts (refused_line (refusal_name (refusals.Submit fault))) told.world.board.trace)) refl refl refl refl
    (carries_on s.failing m.carries (call (record { session = session; name = name; arguments = arguments })) a by (λ n h. h) (λ n is. absurd (not_by_call (record { session = session; name = name; arguments = arguments }) n is)))

-- a call that has not finished has no reply
no_reply : {o : Object} {s : Serial} (told : Told) (number : ℕ) → Matches o told s → Every (λ (e : Noted). e.number ≢ number) told.world.board.history → IsUnended s.replies number
no_reply told number m none = subst (λ rs. IsUnended rs number) (sym m.replies) (in_order told.world.board.history none)
  where
    in_order : (entries : List Noted) → Every (λ (e : Noted). e.number ≢ number) entries → IsUnended (map told_of entries) number
    in_order [] none = tt
    in_order (e ∷ entries) none = (none.0, in_order entries none.1)

-- a call that was made before is told as what became of it
on_repeat : {o : Object} {told : Told} {s : Serial} (session key : ℕ) (name : List ℕ) (arguments : List Datum) (number : ℕ) (state : CallState) (trace : List TraceEvent) → Matches o told s → IsSound told.world.board
    → IsRepeat s.calls session key name arguments number → IsStateOf told.world.board number state → Serially (a_keyed_call session key name arguments) s (repeat_line number state ++ started_lines 0 trace) s
on_repeat {told = told} session key name arguments number states.Waiting trace m sound is so =
    Serially.kept number (codes "waiting") is (no_reply told number m (waits_unended told.world.board number sound so)) (inl refl) (no_starts (kept_line (codes "waiting") number) trace)
on_repeat {told = told} session key name arguments number states.Running trace m sound is so =
    Serially.kept number (codes "running") is (no_reply told number m (runs_unended told.world.board number sound so.1)) (inr (inl refl)) (no_starts (kept_line (codes "running") number) trace)
on_repeat {told = told} session key name arguments number states.Cancelled trace m sound is so =
    Serially.kept number (codes "cancelled") is (no_reply told number m (none_unended told.world.board.history number so.2)) (inr (inr refl)) (no_starts (kept_line (codes "cancelled") number) trace)
on_repeat {told = told} session key name arguments number (states.Ended reply) trace m sound is so =
    let entry = so.2 in
    Serially.repeated number reply is (subst (Among (number, reply)) (sym m.replies) (told_among told.world.board.history entry.0 number reply entry.1 entry.2 entry.3)) (no_starts (repeated_line number reply) trace)

on_key : {o : Object} {told : Told} {s : Serial} (session key : ℕ) (name : List ℕ) (arguments : List Datum) (a : EventAnswer) (new : Scene) → Matches o told s → IsKept new
    → Answers told.world (call_key (record { session = session; name = name; arguments = arguments }) key) a new
    → Next o told s (a_keyed_call session key name arguments) (answer_lines new.board.object 0 a.answer ++ started_lines a.starts new.board.trace) new
on_key {o = o} {told = told} {s = s} session key name arguments a new m kept (called_key {starts = starts} accepted next taken goes) =
    let asked : Asked = record { session = session; name = name; arguments = arguments } in
    let by : Answers told.world (call_key asked key) a new = called_key accepted next taken goes in
    let calls : new.board.calls ≡ told.world.board.calls ++ accepted ∷ [] = goes_calls goes ∙ joined_calls told.world.board accepted in (
      record s { calls = s.calls ++ accepted ∷ [] },
      Serially.called_key accepted (next ∙ ap (λ cs. next_key cs session) (sym m.calls))
          (record { caller = taken.asked.session; named = subst (λ x. IsNamedAt x accepted.op accepted.operation name) (sym m.object) taken.asked.named; given = taken.asked.arguments })
          (are_starts starts new.board.trace)
          (ap (λ (cs : List AcceptedCall). called_line (length cs + 1) ++ started_lines starts new.board.trace) (sym m.calls)),
      matches_next new (record s { calls = s.calls ++ accepted ∷ [] }) m kept refl refl (goes_object goes ∙ joined_object told.world.board accepted)
          (ap (λ (cs : List AcceptedCall). cs ++ accepted ∷ []) m.calls ∙ sym calls)
          (same_contents told.world new s.contents m.contents (goes_history goes ∙ joined_history told.world.board accepted) goes.opening)
          (same_replies told.world new s.replies m.replies (goes_history goes ∙ joined_history told.world.board accepted))
          (carries_on s.failing m.carries (call_key asked key) a by (λ n h. h) (λ n is. absurd (not_by_key asked key n is))),
    )
on_key {told = told} {s = s} session key name arguments a new m kept (Answers.kept made here is) =
    let asked : Asked = record { session = session; name = name; arguments = arguments } in
    let by : Answers told.world (call_key asked key) a new = Answers.kept made here is in
    let again : IsRepeat s.calls session key name arguments made.number = subst (λ cs. IsRepeat cs session key name arguments made.number) (sym m.calls) (record { has = is.has; same = is.same }) in
    stays (a_keyed_call session key name arguments) _ new m kept (on_repeat session key name arguments made.number made.state told.world.board.trace m kept.sound again is.state) refl refl refl refl
    (carries_on s.failing m.carries (call_key asked key) a by (λ n h. h) (λ n e. absurd (not_by_key asked key n e)))
on_key {told = told} {s = s} session key name arguments a new m kept (not_called_key fault refused) =
    let asked : Asked = record { session = session; name = name; arguments = arguments } in
    let by : Answers told.world (call_key asked key) a new = not_called_key fault refused in
    stays (a_keyed_call session key name arguments) _ new m kept (Serially.not_called_key (refusal_name (refusals.Keyed fault)) (no_starts (refused_line (refusal_name (refusals.Keyed fault))) told.world.board.trace)) refl refl refl refl
    (carries_on s.failing m.carries (call_key asked key) a by (λ n h. h) (λ n is. absurd (not_by_key asked key n is)))

-- a step changes neither the board nor the opening values
step_same : (old new : Scene) (number : ℕ) (works : Bool) (a : EventAnswer) → Answers old (step number works) a new → (new.board ≡ old.board) × (new.opening ≡ old.opening)
step_same old new number works a (stepped k run after files there going moves) = (refl, refl)
step_same old new number works a (no_step k run there done) = (refl, refl)
step_same old new number works a (step_not_running none) = (refl, refl)

on_step : {o : Object} {told : Told} {s : Serial} (number : ℕ) (works : Bool) (text : List ℕ) (a : EventAnswer) (new : Scene) → Matches o told s → IsKept new → Answers told.world (step number works) a new
    → Next o told s (a_step number works) text new
on_step {told = told} {s = s} number true text a new m kept by =
    let same = step_same told.world new number true a by in
    stays (a_step number true) text new m kept Serially.to_work (ap (λ (b : Board). b.object) same.0) (ap (λ (b : Board). b.calls) same.0) (ap (λ (b : Board). b.history) same.0) same.1
    (carries_on s.failing m.carries (step number true) a by (λ n h. h) (λ n is. absurd (not_by_step number n is)))
on_step {told = told} {s = s} number false text a new m kept by =
    let same = step_same told.world new number false a by in (
      record s { failing = number ∷ s.failing },
      Serially.to_fail,
      matches_next new (record s { failing = number ∷ s.failing }) m kept refl refl (ap (λ (b : Board). b.object) same.0) (m.calls ∙ sym (ap (λ (b : Board). b.calls) same.0))
          (same_contents told.world new s.contents m.contents (ap (λ (b : Board). b.history) same.0) same.1)
          (same_replies told.world new s.replies m.replies (ap (λ (b : Board). b.history) same.0))
          (carries_on (number ∷ s.failing) m.carries (step number false) a by (λ n h. inr h) (λ n is. inl (by_step number n is))),
    )

may_reply : (failing : List ℕ) (number : ℕ) (reply : Reply) → (reply ≡ replies.Failed failures.Device → Among number failing) → (reply ≢ replies.Failed failures.Damaged) → MayReply failing number reply
may_reply failing number (replies.Done value) device damage = tt
may_reply failing number (replies.Refused word) device damage = tt
may_reply failing number (replies.Failed failures.Device) device damage = device refl
may_reply failing number (replies.Failed failures.Memory) device damage = tt
may_reply failing number (replies.Failed failures.Damaged) device damage = damage refl

-- the number of a running call is that of its run
number_of : (r : RunningCall) (run : Standing) (number : ℕ) → run.call ≡ call_running r → run.call.number ≡ number → r.number ≡ number
number_of r run number is there = sym (ap (λ (c : Call). c.number) is) ∙ there

on_finish : {o : Object} {told : Told} {s : Serial} (number : ℕ) (a : EventAnswer) (new : Scene) → LegalByOne → LeadsByOne → FailsOnlyWithItsDevice → Matches o told s → IsKept new
    → Answers told.world (finish number) a new → Next o told s (a_finish number) (answer_lines new.board.object number a.answer ++ started_lines a.starts new.board.trace) new
on_finish {o = o} {told = told} {s = s} number a new legal_by leads_by fails m kept (finished {starts = starts} k r run reply news among there is ends leaves goes) =
    let by : Answers told.world (finish number) a new = finished k r run reply news among there is ends leaves goes in
    let noted : Noted = entry_of r reply news in
    let b : Board = told.world.board in
    let history : new.board.history ≡ b.history ++ noted ∷ [] = goes_history goes ∙ ended_history b noted in
    let ends_are : history_of new.board.history ≡ history_of b.history ++ entry_end noted ∷ [] = ap history_of history ∙ history_snoc b.history noted in
    let legal : IsLegal (history_of b.history ++ entry_end noted ∷ []) told.world.opening = subst (λ c. IsLegal (history_of b.history ++ entry_end noted ∷ []) c) goes.opening (subst (λ es. IsLegal es new.opening) ends_are kept.sequential.replies) in
    let right : IsReplyOn reply (body_of r.call.operation) r.call.arguments (leads_to (history_of b.history) told.world.opening) = ((legal_by (history_of b.history) (entry_end noted) told.world.opening).0 legal).1 in
    let is_number : r.number ≡ number = number_of r run number is there.number in
    let carries : Carries o new s.failing = carries_on s.failing m.carries (finish number) a by (λ n h. h) (λ n e. absurd (not_by_finish number n e)) in
    let fair = fails o carries.start new carries.events carries.told carries.begins carries.plays in
    let device : (e : Noted) → Type 0 = λ e. e.reply ≡ replies.Failed failures.Device → HasFailedStep e.number carries.events carries.told in
    let damage : (e : Noted) → Type 0 = λ e. e.reply ≢ replies.Failed failures.Damaged in
    let owed : reply ≡ replies.Failed failures.Device → Among number s.failing = λ e. subst (λ n. Among n s.failing) is_number (carries.failed r.number (every_last device b.history noted (subst (Every device) history fair.0) e)) in
    let sound : reply ≢ replies.Failed failures.Damaged = every_last damage b.history noted (subst (Every damage) history fair.1) in
    let next : Serial = record s { contents = left_by reply (body_of r.call.operation) r.call.arguments s.contents; replies = s.replies ++ (number, reply) ∷ [] } in
    let told_so : next.replies ≡ map told_of new.board.history =
    ap (λ (rs : List (ℕ × Reply)). rs ++ (number, reply) ∷ []) m.replies ∙ sym (told_snoc b.history noted number is_number) ∙ ap (map told_of) (sym history) in
    let found : call_at s.calls number ≡ Some r.call = ap (λ (cs : List AcceptedCall). call_at cs number) m.calls ∙ subst (λ n. call_at b.calls n ≡ Some r.call) is_number (every_among (λ (x : RunningCall). call_at b.calls x.number ≡ Some x.call) b.running r m.running among) in
    let contents : next.contents ≡ leads_to (history_of new.board.history) new.opening =
    ap (λ c. left_by reply (body_of r.call.operation) r.call.arguments c) m.contents
    ∙ sym (leads_by (history_of b.history) (entry_end noted) told.world.opening)
    ∙ ap (λ es. leads_to es told.world.opening) (sym ends_are)
    ∙ ap (λ c. leads_to (history_of new.board.history) c) (sym goes.opening) in (
      next,
      Serially.finished r.call reply found (subst (λ c. IsReplyOn reply (body_of r.call.operation) r.call.arguments c) (sym m.contents) right) (may_reply s.failing number reply owed sound) (are_starts starts new.board.trace) refl,
      matches_next new next m kept refl refl (goes_object goes ∙ (ended_same b noted).1) (m.calls ∙ sym (goes_calls goes ∙ (ended_same b noted).0)) contents told_so carries,
    )
on_finish {told = told} {s = s} number a new legal_by leads_by fails m kept (not_done k run there going) =
    let by : Answers told.world (finish number) a new = not_done k run there going in
    stays (a_finish number) _ new m kept (Serially.not_finished (refusal_name refusals.NotDone) (no_starts (refused_line (refusal_name refusals.NotDone)) told.world.board.trace)) refl refl refl refl
    (carries_on s.failing m.carries (finish number) a by (λ n h. h) (λ n e. absurd (not_by_finish number n e)))
on_finish {told = told} {s = s} number a new legal_by leads_by fails m kept (finish_not_running none) =
    let by : Answers told.world (finish number) a new = finish_not_running none in
    stays (a_finish number) _ new m kept (Serially.not_finished (refusal_name refusals.NotRunning) (no_starts (refused_line (refusal_name refusals.NotRunning)) told.world.board.trace)) refl refl refl refl
    (carries_on s.failing m.carries (finish number) a by (λ n h. h) (λ n e. absurd (not_by_finish number n e)))

on_cancel : {o : Object} {told : Told} {s : Serial} (number : ℕ) (text : List ℕ) (a : EventAnswer) (new : Scene) → Matches o told s → IsKept new → Answers told.world (cancel number) a new
    → Next o told s (a_cancel number) text new
on_cancel {told = told} {s = s} number text a new m kept (cancelled waits goes) =
    let by : Answers told.world (cancel number) a new = cancelled waits goes in
    let same = dismissed_same told.world.board number in
    stays (a_cancel number) text new m kept Serially.cancels_it (goes_object goes ∙ same.2) (goes_calls goes ∙ same.1) (goes_history goes ∙ same.0) goes.opening
    (carries_on s.failing m.carries (cancel number) a by (λ n h. h) (λ n e. absurd (not_by_cancel number n e)))
on_cancel {told = told} {s = s} number text a new m kept (not_cancelled answer other so) =
    let by : Answers told.world (cancel number) a new = not_cancelled answer other so in
    stays (a_cancel number) text new m kept Serially.cancels_it refl refl refl refl (carries_on s.failing m.carries (cancel number) a by (λ n h. h) (λ n e. absurd (not_by_cancel number n e)))

on_leave : {o : Object} {told : Told} {s : Serial} (session : ℕ) (text : List ℕ) (a : EventAnswer) (new : Scene) → Matches o told s → IsKept new → Answers told.world (leave session) a new
    → Next o told s (a_drop session) text new
on_leave {told = told} {s = s} session text a new m kept (left above below goes) =
    let by : Answers told.world (leave session) a new = left above below goes in
    let same = left_same told.world.board session in
    stays (a_drop session) text new m kept Serially.leaves (goes_object goes ∙ same.2) (goes_calls goes ∙ same.1) (goes_history goes ∙ same.0) goes.opening
    (carries_on s.failing m.carries (leave session) a by (λ n h. h) (λ n e. absurd (not_by_leave session n e)))
on_leave {told = told} {s = s} session text a new m kept (no_session none) =
    let by : Answers told.world (leave session) a new = no_session none in
    stays (a_drop session) text new m kept Serially.leaves refl refl refl refl (carries_on s.failing m.carries (leave session) a by (λ n h. h) (λ n e. absurd (not_by_leave session n e)))

on_resume : {o : Object} {told : Told} {s : Serial} (session : ℕ) (text : List ℕ) (a : EventAnswer) (new : Scene) → Matches o told s → IsKept new → Answers told.world (resume session) a new
    → Next o told s (a_resume session) text new
on_resume {told = told} {s = s} session text a new m kept (resumed above below) =
    let by : Answers told.world (resume session) a new = resumed above below in
    let same = resumed_same told.world.board session in
    stays (a_resume session) text new m kept Serially.is_back same.2 same.1 same.0 refl
    (carries_on s.failing m.carries (resume session) a by (λ n h. h) (λ n e. absurd (not_by_resume session n e)))
on_resume {told = told} {s = s} session text a new m kept (not_resumed none) =
    let by : Answers told.world (resume session) a new = not_resumed none in
    stays (a_resume session) text new m kept Serially.is_back refl refl refl refl (carries_on s.failing m.carries (resume session) a by (λ n h. h) (λ n e. absurd (not_by_resume session n e)))

on_look : {o : Object} {told : Told} {s : Serial} (a : EventAnswer) (new : Scene) → Matches o told s → IsKept new → IsTold a.answer → Answers told.world look a new
    → Next o told s a_show (answer_lines new.board.object 0 a.answer ++ started_lines a.starts new.board.trace) new
on_look {told = told} {s = s} a new m kept is_told (shown values are) =
    let by : Answers told.world look a new = shown values are in
    let line : List ℕ = shown_lines (object_of told.world.board.object).parts values.items in
    let same : line ≡ shown_lines (object_of s.object).parts s.contents =
    ap (λ cs. shown_lines (object_of told.world.board.object).parts cs) (are ∙ sym m.contents) ∙ ap (λ (x : Object). shown_lines (object_of x).parts s.contents) (sym m.object) in
    stays a_show _ new m kept (Serially.shown (no_starts line told.world.board.trace ∙ same)) refl refl refl refl (carries_on s.failing m.carries look a by (λ n h. h) (λ n e. absurd (not_by_look n e)))
on_look a new m kept is_told not_shown = absurd ((is_told refusals.Memory refl).event refl)

-- steps that work, one after another
on_steps : {o : Object} {first : Scene} {failing : List ℕ} (number : ℕ) → Carries o first failing → (count : ℕ) (last : Scene) → StepsMade number first count last
    → Carries o last failing × (last.board ≡ first.board) × (last.opening ≡ first.opening)
on_steps number c count last none_yet = (c, refl, refl)
on_steps {o = o} {first = first} {failing = failing} number c count last (one_more {count = before} {mid = mid} made is) =
    let far = on_steps number c before mid made in
    let same = step_same mid last number true is.a is.answers in
    (carries_on failing far.0 (step number true) is.a is.answers (λ n h. h) (λ n e. absurd (not_by_step number n e)), same.0 ∙ far.1, same.1 ∙ far.2)

-- an event that a line says
on_event : {o : Object} {told : Told} {s : Serial} (said : Said) (event : WorldEvent) (number : ℕ) (a : EventAnswer) (new : Scene) → LegalByOne → LeadsByOne → FailsOnlyWithItsDevice → Matches o told s → IsKept new
    → IsEvent said event number → Answers told.world event a new → IsTold a.answer → Next o told s said (answer_lines new.board.object number a.answer ++ started_lines a.starts new.board.trace) new
on_event said event number a new legal_by leads_by fails m kept (IsEvent.calls {session = session} {name = name} {arguments = arguments}) by is_told = on_call session name arguments a new m kept by
on_event said event number a new legal_by leads_by fails m kept (IsEvent.calls_by {session = session} {key = key} {name = name} {arguments = arguments}) by is_told = on_key session key name arguments a new m kept by
on_event said event number a new legal_by leads_by fails m kept (IsEvent.steps {works = works}) by is_told = on_step number works _ a new m kept by
on_event said event number a new legal_by leads_by fails m kept IsEvent.finishes by is_told = on_finish number a new legal_by leads_by fails m kept by
on_event said event number a new legal_by leads_by fails m kept IsEvent.cancels_it by is_told = on_cancel number _ a new m kept by
on_event said event number a new legal_by leads_by fails m kept IsEvent.leaves by is_told = on_leave number _ a new m kept by
on_event said event number a new legal_by leads_by fails m kept IsEvent.is_back by is_told = on_resume number _ a new m kept by
on_event said event number a new legal_by leads_by fails m kept IsEvent.looks by is_told = on_look a new m kept is_told by

on_happening : {o : Object} {told : Told} {s : Serial} (said : Said) (event : WorldEvent) (number : ℕ) (text : List ℕ) (new : Scene) → LegalByOne → LeadsByOne → FailsOnlyWithItsDevice → Matches o told s → IsKept new
    → IsEvent said event number → Happens event number told.world text new → Next o told s said text new
on_happening said event number text new legal_by leads_by fails m kept is (Happens.happens a by is_told) = on_event said event number a new legal_by leads_by fails m kept is by is_told

-- what the sequential object has is that of a world whose board is this one still
matches_on : {o : Object} {told : Told} {s : Serial} (new : Scene) → Matches o told s → new.board ≡ told.world.board → new.opening ≡ told.world.opening → Carries o new s.failing → Matches o (record told { world = new }) s
matches_on {told = told} {s = s} new m same opening carries = record {
  named = m.named;
  object = m.object ∙ ap (λ (b : Board). b.object) (sym same);
  calls = m.calls ∙ ap (λ (b : Board). b.calls) (sym same);
  contents = same_contents told.world new s.contents m.contents (ap (λ (b : Board). b.history) same) opening;
  replies = same_replies told.world new s.replies m.replies (ap (λ (b : Board). b.history) same);
  running = subst (λ (b : Board). Every (λ (r : RunningCall). call_at b.calls r.number ≡ Some r.call) b.running) (sym same) m.running;
  carries = carries;
}

-- steps to the end of a run
on_all_steps : {o : Object} {told : Told} {s : Serial} (number count : ℕ) (new : Scene) → Matches o told s → StepsOn number told.world count new
    → Matches o (record told { world = new }) s × (new.board ≡ told.world.board) × (new.opening ≡ told.world.opening)
on_all_steps {told = told} {s = s} number count new m (before, made, over) =
    let far = on_steps number m.carries count before made in
    let same = step_same before new number true over.a over.answers in
    let board : new.board ≡ told.world.board = same.0 ∙ far.1 in
    let opening : new.opening ≡ told.world.opening = same.1 ∙ far.2 in
    (matches_on new m board opening (carries_on s.failing far.0 (step number true) over.a over.answers (λ n h. h) (λ n e. absurd (not_by_step number n e))), board, opening)

-- a finish by which the call ends is one reply more
abbrev Ends : Object → Told → Serial → ℕ → List ℕ → Scene → Type 0
Ends o told s number text new =
    (next : Serial) × (reply : Reply) × Serially (a_finish number) s text next × (next.replies ≡ s.replies ++ (number, reply) ∷ []) × Matches o (record told { world = new }) next

on_end : {o : Object} {told : Told} {s : Serial} (number : ℕ) (a : EventAnswer) (new : Scene) → LegalByOne → LeadsByOne → FailsOnlyWithItsDevice → Matches o told s → IsKept new
    → Answers told.world (finish number) a new → HasEnded a → Ends o told s number (answer_lines new.board.object number a.answer ++ started_lines a.starts new.board.trace) new
unfolding on_finish
on_end number a new legal_by leads_by fails m kept (finished {starts = starts} k r run reply news among there is ends leaves goes) so =
    let it = on_finish number a new legal_by leads_by fails m kept (finished {starts = starts} k r run reply news among there is ends leaves goes) in
    (it.0, reply, it.1, refl, it.2)
on_end number a new legal_by leads_by fails m kept (not_done k run there going) so = absurd (not_ended (refusals.NotDone) so.0 so.1)
on_end number a new legal_by leads_by fails m kept (finish_not_running none) so = absurd (not_ended (refusals.NotRunning) so.0 so.1)

-- a call that is done in one line
on_do : {o : Object} {told : Told} {s : Serial} (session number count : ℕ) (name : List ℕ) (arguments : List Datum) (first last : List ℕ) (mid far new : Scene) → LegalByOne → LeadsByOne → FailsOnlyWithItsDevice
    → Matches o told s → IsKept mid → IsKept new → Happens (call_of session name arguments) 0 told.world first mid → number ≡ next_number told.world → runs_in mid.board number ≡ true → StepsOn number mid count far
    → Happens (finish number) number far last new → Next o told s (a_do session name arguments) (first ++ all_stepped_line number count ++ last) new
on_do {told = told} {s = s} session number count name arguments first last mid far new legal_by leads_by fails m kept_mid kept called_so is_next runs steps (Happens.happens a by is_told) =
    let here = on_happening (a_call session name arguments) (call_of session name arguments) 0 first mid legal_by leads_by fails m kept_mid IsEvent.calls called_so in
    let there = on_all_steps {told = record told { world = mid }} number count far here.2 steps in
    let end = on_end {told = record told { world = far }} number a new legal_by leads_by fails there.0 kept by (over_ends mid far new number count a steps (ap (λ (b : Board). runs_in b number) there.1 ∙ runs) by) in
    (end.0, Serially.done_at_once count end.1 (is_next ∙ ap (λ (cs : List AcceptedCall). length cs + 1) (sym m.calls)) here.1 end.2 end.3 refl, end.4)

-- what a line that says this does
on_said : {o : Object} {told : Told} {s : Serial} (said : Said) (text : List ℕ) (new : Scene) → LegalByOne → LeadsByOne → FailsOnlyWithItsDevice → Matches o told s → IsKept new
    → Does said told.world text new → Next o told s said text new
on_said said text new legal_by leads_by fails m kept (one_event {event = event} {number = number} is so) = on_happening said event number text new legal_by leads_by fails m kept is so
on_said {s = s} said text new legal_by leads_by fails m kept (all_stepped {number = number} count steps) =
    let far = on_all_steps number count new m steps in (s, Serially.to_end, far.0)
on_said said text new legal_by leads_by fails m kept (Does.done_at_once {session = session} {number = number} {count = count} {name = name} {arguments = arguments} {mid = mid} {far = far} {first = first} {last = last} called_so kept_mid is_next runs steps finishes_so) =
    on_do session number count name arguments first last mid far new legal_by leads_by fails m kept_mid kept called_so is_next runs steps finishes_so
on_said said text new legal_by leads_by fails m kept (Does.only_called {session = session} {name = name} {arguments = arguments} so none) =
    let here = on_happening (a_call session name arguments) (call_of session name arguments) 0 text new legal_by leads_by fails m kept IsEvent.calls so in
    (here.0, Serially.only_called here.1, here.2)
on_said {s = s} said text new legal_by leads_by fails m kept (not_stepped {number = number} none) = stays (all_steps number) text new m kept Serially.to_end refl refl refl refl m.carries
on_said {s = s} said text new legal_by leads_by fails m kept traced = stays a_trace text new m kept Serially.traced refl refl refl refl m.carries

-- what a line is answered
on_line : {o : Object} (told : Told) (s : Serial) (number : ℕ) (line text : List ℕ) (goes : Bool) (new : Told) → LegalByOne → LeadsByOne → FailsOnlyWithItsDevice → Matches o told s → Writes told number line text goes new
    → (next : Serial) × WritesSerially s number line text goes next × Matches o new next
on_line told s number line text goes new legal_by leads_by fails m (Writes.named before is) =
    (record s { named = true }, WritesSerially.named (m.named ∙ before) (subst (λ x. NamesObject x line) (sym m.object) is), record { named = refl; object = m.object; calls = m.calls; contents = m.contents; replies = m.replies; running = m.running; carries = m.carries })
on_line told s number line text goes new legal_by leads_by fails m (Writes.not_named before is_not) = (s, WritesSerially.not_named (m.named ∙ before) (λ h. is_not (subst (λ x. NamesObject x line) m.object h)), m)
on_line told s number line text goes new legal_by leads_by fails m (Writes.skipped named is) = (s, WritesSerially.skipped (m.named ∙ named) is, m)
on_line told s number line text goes new legal_by leads_by fails m (Writes.done {new = world} said named not_skipped says does kept) =
    let next = on_said said text world legal_by leads_by fails m kept does in
    (next.0, WritesSerially.done said (m.named ∙ named) not_skipped says next.1, next.2)
on_line told s number line text goes new legal_by leads_by fails m (Writes.asked question named other says tells) = (s, WritesSerially.asked question (m.named ∙ named) other says, m)
on_line told s number line text goes new legal_by leads_by fails m (Writes.bad named other asks_none) = (s, WritesSerially.bad (m.named ∙ named) other asks_none, m)

on_lines : {o : Object} (told : Told) (s : Serial) (number : ℕ) (ls : List (List ℕ)) (text : List ℕ) (new : Told) → LegalByOne → LeadsByOne → FailsOnlyWithItsDevice → Matches o told s → Runs Writes told number ls text new
    → (next : Serial) × Runs WritesSerially s number ls text next × Matches o new next
on_lines {o = o} told s number [] text new legal_by leads_by fails m (none, same) = (s, (none, refl), subst (λ t. Matches o t s) (sym same) m)
on_lines told s number (line ∷ more) text new legal_by leads_by fails m (first, rest, mid, cut, gives, runs) =
    let here = on_line told s number line first true mid legal_by leads_by fails m gives in
    let later = on_lines mid here.0 (number + 1) more rest new legal_by leads_by fails here.2 runs in
    (later.0, (first, rest, here.0, cut, here.1, later.1), later.2)

-- before the first line
abbrev first_of : Object → Serial
first_of o = record { named = false; object = o; calls = []; contents = map opening_of (kinds_of o); replies = []; failing = [] }

begins_so : (o : Object) (told : Told) → IsBegun o told → Matches o told (first_of o)
begins_so o told begun = record {
  named = sym begun.named;
  object = sym (ap (λ (b : Board). b.object) begun.world.board);
  calls = sym (ap (λ (b : Board). b.calls) begun.world.board);
  contents = sym begun.world.opening ∙ ap (λ (b : Board). leads_to (history_of b.history) told.world.opening) (sym begun.world.board);
  replies = ap (λ (b : Board). map told_of b.history) (sym begun.world.board);
  running = subst (λ (b : Board). Every (λ (r : RunningCall). call_at b.calls r.number ≡ Some r.call) b.running) (sym begun.world.board) tt;
  carries = record { start = told.world; begins = begun.world; events = []; told = []; plays = refl; failed = λ n h. absurd h };
}

pub all_serial : LegalByOne → LeadsByOne → FailsOnlyWithItsDevice → (o : Object) (text : List ℕ) (end : ScriptEnd) (written : List ℕ) → IsScript o text end written → IsSerialScript o text end written
all_serial legal_by leads_by fails o text Whole written (start, begun, told, runs) =
    let all = on_lines start (first_of o) 1 (lines text) written told legal_by leads_by fails (begins_so o start begun) runs in
    (first_of o, record { named = refl; object = refl; calls = refl; contents = refl; replies = refl; failing = refl }, all.0, all.1)
all_serial legal_by leads_by fails o text (BadLine k) written (start, begun, before, line, after, told, place, cut, (first, last, mid, runs, gives, made)) =
    let all = on_lines start (first_of o) 1 before first mid legal_by leads_by fails (begins_so o start begun) runs in
    let end = on_line mid all.0 (1 + length before) line last false told legal_by leads_by fails all.2 gives in
    (first_of o, record { named = refl; object = refl; calls = refl; contents = refl; replies = refl; failing = refl }, before, line, after, end.0, place, cut, (first, last, all.0, all.1, end.1, made))
