-- Counters that count what happened once more.
use Rattle.std.proofs.Common.{◌≡◌, ℕ, zero, suc, ◌+◌, ◌<◌, ◌≤◌, Bool, List, [], ◌∷◌, ◌++◌, length, Some, take, drop, sym, ◌∙◌, ap, subst, arith}
use Rattle.std.specs.Prelude.{slice_get, IsTrue, ◌↔◌}
use Rattle.std.specs.List.{fold}
use Rattle.std.proofs.lemmas.List.{take_more, take-append-drop, length-map}
use Rattle.std.proofs.lemmas.List.Sums.{fold-append}
use Rattle.std.proofs.lemmas.Option.{slice_get_within, get_or_from_slice_get}
use Rattle.std.specs.Arc.{arc_value}
use Rattle.path_tree.specs.Path.{Path}
use Rattle.path_tree.specs.Trace.{Call, Event, Start as Began, End as Ended, starts, ends, IsTrace, IsFresh, IsAmong, running_calls}
use Rattle.path_tree.specs.Satisfies.{SatisfiesAll, MayStart}
use Rattle.path_count.specs.State.{State}
use Rattle.path_count.specs.Stands.{StandsFor, started_calls}
use Rattle.path_count.proofs.Objects.{all_decide}
use Rattle.path_count.proofs.Running.{call_counts}
use Rattle.decl_core.specs.ObjectMap.{object_of, operation_of}
use Rattle.apply_core.specs.declared.reply.Reply.{Reply}
use Rattle.board_core.specs.declared.event.TraceEvent.{TraceEvent}
use Rattle.board_core.specs.declared.event.TraceEvent.TheVariants.{Start, End}
use Rattle.page_core.specs.ObjectCalls.{AcceptedCall}
use Rattle.board_core.specs.Board.{Board, call_at, operation_place, path_event, path_trace, paths_of, past_of}
use Rattle.board_core.specs.Sound.{IsSound, IsNumbered}
use Rattle.page_core.proofs.Lists.{Every-at}
use Rattle.board_core.proofs.Traces.{path_trace-snoc}
use Rattle.world_core.specs.Counted.{StandsAfter}

trace_before : (e : Event) (t : List Event) → IsTrace (e ∷ t) → IsTrace t
trace_before (Began c) t h = h.1
trace_before (Ended c) t h = h.1

satisfied_before : (paths : List Path) (e : Event) (t : List Event) → SatisfiesAll paths (e ∷ t) → SatisfiesAll paths t
satisfied_before [] e t h = tt
satisfied_before (p ∷ paths) e t h = (h.0.1, satisfied_before paths e t h.1)

fewer_before : (e : Event) (t : List Event) → started_calls t ≤ started_calls (e ∷ t)
fewer_before (Began c) t = omega arith
fewer_before (Ended c) t = omega arith

-- what happens later to these calls
abbrev after : List AcceptedCall → List Event → List TraceEvent → List Event
after calls past events = fold (λ past event. path_event calls event ∷ past) past events

trace_front : (calls : List AcceptedCall) (past : List Event) (events : List TraceEvent) → IsTrace (after calls past events) → IsTrace past
trace_front calls past [] h = h
trace_front calls past (e ∷ events) h = trace_before (path_event calls e) past (trace_front calls (path_event calls e ∷ past) events h)

satisfied_front : (paths : List Path) (calls : List AcceptedCall) (past : List Event) (events : List TraceEvent) → SatisfiesAll paths (after calls past events) → SatisfiesAll paths past
satisfied_front paths calls past [] h = h
satisfied_front paths calls past (e ∷ events) h = satisfied_before paths (path_event calls e) past (satisfied_front paths calls (path_event calls e ∷ past) events h)

fewer_front : (calls : List AcceptedCall) (past : List Event) (events : List TraceEvent) → started_calls past ≤ started_calls (after calls past events)
fewer_front calls past [] = omega arith
fewer_front calls past (e ∷ events) = omega (arith, fewer_before (path_event calls e) past, fewer_front calls (path_event calls e ∷ past) events)

module _ (b : Board) (k : ℕ) where
  -- what happened so far
  abbrev so_far : List Event
  so_far = path_trace b.calls (take k b.trace)

  whole_is : past_of b ≡ after b.calls so_far (drop k b.trace)
  whole_is =
      ap (path_trace b.calls) (sym (take-append-drop k b.trace))
      ∙ fold-append (λ past event. path_event b.calls event ∷ past) [] (take k b.trace) (drop k b.trace)

  so_far_trace : IsSound b → IsTrace so_far
  so_far_trace sound = trace_front b.calls so_far (drop k b.trace) (subst IsTrace whole_is sound.counted.trace)

  so_far_satisfied : IsSound b → SatisfiesAll (paths_of b) so_far
  so_far_satisfied sound = satisfied_front (paths_of b) b.calls so_far (drop k b.trace) (subst (SatisfiesAll (paths_of b)) whole_is sound.counted.satisfied)

  so_far_few : IsSound b → started_calls so_far ≤ 65536
  so_far_few sound = omega (arith, fewer_front b.calls so_far (drop k b.trace), ap started_calls whole_is, sound.counted.counted, sound.counted.few)

  -- one event more
  more_is : (e : TraceEvent) → slice_get b.trace k ≡ Some e → path_trace b.calls (take (k + 1) b.trace) ≡ path_event b.calls e ∷ so_far
  more_is e there =
      ap (path_trace b.calls) (take_more b.trace k e (slice_get_within b.trace k e there) ∙ ap (λ x. take k b.trace ++ x ∷ []) (get_or_from_slice_get b.trace k e e there))
      ∙ path_trace-snoc b.calls (take k b.trace) e

-- the operation of a call of a sound board is one of the object
known_call : (b : Board) (number : ℕ) → IsSound b → IsNumbered b.calls number → operation_place (call_at b.calls number) < length b.object.operations.items
known_call b zero sound h = absurd (let is = h.1 in cc)
known_call b (suc i) sound h =
    let made = Every-at _ b.calls i h.0 sound.counted.made h.1 in
    let within = slice_get_within (object_of b.object).operations h.0.op (operation_of h.0.operation) made.operation in
    omega (arith, within, ap operation_place h.1, length-map b.object.operations.items (λ o. operation_of (arc_value o)))

-- a start that the paths let happen shows that the operation may start
may_by_one : (c : State) (n : ℕ) (paths : List Path) (t : List Event) (call : Call) → StandsFor c n paths t → SatisfiesAll paths (Began call ∷ t) → MayStart paths call.operation t
may_by_one c n paths t call stands satisfied = λ number.
    let room = (all_decide paths 0 c.words call t stands.trace stands.satisfied stands.once stands.kept).1 satisfied in
    (all_decide paths 0 c.words (record { number = number; operation = call.operation }) t stands.trace stands.satisfied stands.once stands.kept).0 room

module _ (b : Board) (k number op : ℕ) (sound : IsSound b) (old new : State) (stands : StandsAfter b k old) (r : Bool) (is : op ≡ operation_place (call_at b.calls number)) where
  abbrev call : Call
  call = record { number = number; operation = operation_place (call_at b.calls number) }

  pub start_counted : slice_get b.trace k ≡ Some (Start number)
      → ((n : ℕ) (paths : List Path) (t : List Event) → StandsFor old n paths t → (IsTrue r ↔ ((op < n) × MayStart paths op t × (started_calls t < 65536))))
      → (IsTrue r → (n : ℕ) (paths : List Path) (t : List Event) (call : Call) → StandsFor old n paths t → call.operation ≡ op → IsFresh call.number t → StandsFor new n paths (Began call ∷ t))
      → StandsAfter b (k + 1) new
  start_counted there answer taken =
      let n = length b.object.operations.items in
      let past = so_far b k in
      let now : path_trace b.calls (take (k + 1) b.trace) ≡ Began call ∷ past = more_is b k (Start number) there in
      let trace : IsTrace (Began call ∷ past) = subst IsTrace now (so_far_trace b (k + 1) sound) in
      let satisfied : SatisfiesAll (paths_of b) (Began call ∷ past) = subst (SatisfiesAll (paths_of b)) now (so_far_satisfied b (k + 1) sound) in
      let few : started_calls past < 65536 = omega (arith, so_far_few b (k + 1) sound, ap started_calls now) in
      let known : op < n = omega (arith, is, known_call b number sound (Every-at _ b.trace k (Start number) sound.counted.numbered there)) in
      let may : MayStart (paths_of b) op past = subst (λ o. MayStart (paths_of b) o past) (sym is) (may_by_one old n (paths_of b) past call stands satisfied) in
      subst (StandsFor new n (paths_of b)) (sym now) (taken ((answer n (paths_of b) past stands).1 (known, may, few)) n (paths_of b) past call stands (sym is) trace.0)

  pub end_counted : (reply : Reply) → slice_get b.trace k ≡ Some (End number reply)
      → ((n : ℕ) (paths : List Path) (t : List Event) → StandsFor old n paths t → (IsTrue r ↔ ((op < n) × (ends op t < starts op t))))
      → (IsTrue r → (n : ℕ) (paths : List Path) (t : List Event) (call : Call) → StandsFor old n paths t → call.operation ≡ op → IsAmong call (running_calls t) → StandsFor new n paths (Ended call ∷ t))
      → StandsAfter b (k + 1) new
  end_counted reply there answer taken =
      let n = length b.object.operations.items in
      let past = so_far b k in
      let now : path_trace b.calls (take (k + 1) b.trace) ≡ Ended call ∷ past = more_is b k (End number reply) there in
      let trace : IsTrace (Ended call ∷ past) = subst IsTrace now (so_far_trace b (k + 1) sound) in
      let known : op < n = omega (arith, is, known_call b number sound (Every-at _ b.trace k (End number reply) sound.counted.numbered there)) in
      let runs : ends op past < starts op past = subst (λ o. ends o past < starts o past) (sym is) (call_counts call past trace.1 trace.0) in
      subst (StandsFor new n (paths_of b)) (sym now) (taken ((answer n (paths_of b) past stands).1 (known, runs)) n (paths_of b) past call stands (sym is) trace.0)
