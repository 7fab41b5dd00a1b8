-- Each event keeps what holds of a board.
use Rattle.std.proofs.Common.{◌≡◌, ◌≢◌, ℕ, zero, suc, ◌+◌, ◌-◌, ◌<◌, ◌≤◌, ◌⊎◌, inl, inr, Bool, true, false, not, ◌==◌, List, [], ◌∷◌, ◌++◌, length, Option, Some, None, refl, sym, ◌∙◌, ap, subst, arith, length-append, map, add-one}
use Rattle.std.specs.Prelude.{slice_get, slice_set}
use Rattle.std.proofs.lemmas.List.{map-append}
use Rattle.std.specs.List.{filter}
use Rattle.std.proofs.lemmas.Bool.{eq-eqb}
use Rattle.std.proofs.lemmas.Option.{slice_get_within}
use Rattle.std.proofs.Math.ListN.{length-set, length-replicate}
use Rattle.path_tree.specs.Trace.{IsTrace, IsFresh, IsAmong, running_calls, Start as Began, End as Ended}
use Rattle.path_tree.specs.Satisfies.{SatisfiesAll}
use Rattle.path_count.specs.Stands.{started_calls}
use Rattle.decl_core.specs.declared.object.Object.{Object}
use Rattle.decl_core.specs.Bodies.{body_of}
use Rattle.decl_core.specs.ObjectMap.{object_of}
use Rattle.decl_core.specs.ObjectMap.{operation_of}
use Rattle.decl_core.specs.Touched.{Writes, ConflictAt}
use Rattle.decl_core.specs.Exclusive.{IsExclusive, AreSeparated}
use Rattle.decl_core.proofs.NeverMeet.{separated_never_meet}
use Rattle.device_core.specs.declared.hand.Stamp.{Stamp}
use Rattle.page_core.specs.PartPins.{PartPin, pin_at}
use Rattle.apply_core.specs.declared.reply.Reply.{Reply}
use Rattle.page_core.specs.Outcomes.{if_done}
use Rattle.board_core.specs.declared.event.TraceEvent.{TraceEvent}
use Rattle.board_core.specs.declared.event.TraceEvent.TheVariants.{Start, End}
use Rattle.page_core.specs.Lists.{Every, EachPair, Among}
use Rattle.page_core.specs.ObjectCalls.{AcceptedCall, WaitingCall, RunningCall, Noted, read_pins}
use Rattle.board_core.specs.Board.{most_sessions, opened, Board, call_at, paths_of, past_of, joined, dismissed, released, taken_at, marked, started, ended, entry_of, published, IsNext}
use Rattle.board_core.specs.Chain.{IsChained, Follows, news_of}
use Rattle.board_core.specs.Sound.{IsSound, IsCounted, IsPinned, HasItsPins, IsMadeOf, IsWaitingIn, IsRunningIn, event_number, as_path, IsOpen, IsNoted, IsTold, ends_of}
use Rattle.board_core.proofs.Kept.{kept_at}
use Rattle.page_core.proofs.Lists.{Every-snoc, Every-map, Every-both, Every-filter, Every-among, Every-at, filter_passes, every_from, EachPair-snoc, EachPair-filter, among_filter, among_snoc, among_at, filter_le, filter_less, eqb_same, Every-set, EachPair-set}
use Rattle.board_core.proofs.Published.{done_twice, length-published, published_elsewhere, has_pin}
use Rattle.board_core.proofs.Traces.{call_at-more, call_at-new, numbered-more, path_trace-more, path_trace-snoc, start_event, end_event, fresh_runs, among_without, end_satisfies_all, satisfies_at}

true_not : (b : Bool) → not b ≡ true → b ≡ true → ⊥
true_not true h k = absurd cc
true_not false h k = absurd cc

-- what passes the test that a number is another one has another one
pub other_number : (m n : ℕ) → not (m == n) ≡ true → m ≢ n
other_number m n h same = true_not (m == n) h (eq-eqb m n same)

-- the trace of a board after a start, and after an end
pub past_started : (b : Board) (w : WaitingCall) → call_at b.calls w.number ≡ Some w.call → past_of (started b w) ≡ Began (as_path w.number w.call) ∷ past_of b
unfolding started
past_started b w is = path_trace-snoc b.calls b.trace (Start w.number) ∙ ap (λ e. e ∷ past_of b) (start_event b.calls w.number w.call is)

pub past_ended : (b : Board) (e : Noted) (call : AcceptedCall) → call_at b.calls e.number ≡ Some call → past_of (ended b e) ≡ Ended (as_path e.number call) ∷ past_of b
unfolding ended
past_ended b e call is = path_trace-snoc b.calls b.trace (End e.number e.reply) ∙ ap (λ x. x ∷ past_of b) (end_event b.calls e.number call e.reply is)

pub past_joined : (b : Board) (call : AcceptedCall) → IsCounted b → past_of (joined b call) ≡ past_of b
unfolding joined
past_joined b call h = path_trace-more b.calls call b.trace h.numbered

pub call_number : (calls : List AcceptedCall) (n : ℕ) (call : AcceptedCall) → call_at calls n ≡ Some call → (0 < n) × (n ≤ length calls)
call_number calls zero call is = absurd cc
call_number calls (suc k) call is = (omega arith, omega (arith, slice_get_within calls k call is))

-- the call of a number is made of the object
pub made_at : (b : Board) (n : ℕ) (call : AcceptedCall) → IsCounted b → call_at b.calls n ≡ Some call → IsMadeOf b.object call
made_at b zero call h is = absurd cc
made_at b (suc k) call h is = Every-at (IsMadeOf b.object) b.calls k call h.made is

-- two calls that run have operations that do not conflict
pub never_conflict : (b : Board) → IsSound b → (r s : RunningCall) → Among r b.running → Among s b.running → r.number ≢ s.number → (p : ℕ)
    → ConflictAt (body_of r.call.operation).statements (body_of s.call.operation).statements p → ⊥
never_conflict b h r s runs too differ p conflict =
    let at : IsRunningIn b r = Every-among (IsRunningIn b) b.running r h.counted.runs runs in
    let there : IsRunningIn b s = Every-among (IsRunningIn b) b.running s h.counted.runs too in
    let made : IsMadeOf b.object r.call = made_at b r.number r.call h.counted at.call in
    let made_too : IsMadeOf b.object s.call = made_at b s.number s.call h.counted there.call in
    let apart : AreSeparated (object_of b.object) r.call.op s.call.op =
    h.pinned.exclusive r.call.op s.call.op (p, (operation_of r.call.operation, operation_of s.call.operation, made.operation, made_too.operation, conflict)) in
    differ (separated_never_meet apart.2.1 (past_of b) (as_path r.number r.call) (as_path s.number s.call) h.counted.trace
    (satisfies_at (paths_of b) (past_of b) apart.2.0 apart.2.1 h.counted.satisfied apart.2.3) (apart.1, apart.2.4) at.among there.among)

-- the ends of what happened, and one more event
ends-start : (trace : List TraceEvent) (n : ℕ) → ends_of (trace ++ Start n ∷ []) ≡ ends_of trace
ends-start [] n = refl
ends-start (Start m ∷ trace) n = ends-start trace n
ends-start (End m reply ∷ trace) n = ap (λ es. (m, reply) ∷ es) (ends-start trace n)

ends-end : (trace : List TraceEvent) (n : ℕ) (reply : Reply) → ends_of (trace ++ End n reply ∷ []) ≡ ends_of trace ++ (n, reply) ∷ []
ends-end [] n reply = refl
ends-end (Start m ∷ trace) n reply = ends-end trace n reply
ends-end (End m r ∷ trace) n reply = ap (λ es. (m, r) ∷ es) (ends-end trace n reply)

-- where no other call is open, and nothing has finished, what is told stays
told_by : (b c : Board) → IsTold b → ((n session : ℕ) → IsOpen c n session → IsOpen b n session) → c.history ≡ b.history → c.calls ≡ b.calls → ends_of c.trace ≡ ends_of b.trace → IsTold c
told_by b c h fewer history calls ends = record {
  one_each = λ m n session x y. h.one_each m n session (fewer m session x) (fewer n session y);
  later = λ n session x. subst (Every (λ e. e.session ≡ session → e.number < n)) (sym history) (h.later n session (fewer n session x));
  in_order = subst (EachPair (λ (e f : Noted). e.session ≡ f.session → e.number < f.number)) (sym history) h.in_order;
  noted = subst (λ cs. Every (IsNoted cs) c.history) (sym calls) (subst (Every (IsNoted b.calls)) (sym history) h.noted);
  ends = ends ∙ h.ends ∙ ap (map (λ (e : Noted). (e.number, e.reply))) (sym history);
}

-- a call that is open among fewer is open
open_sub : (waiting : List WaitingCall) (running : List RunningCall) (fewer : List WaitingCall) (less : List RunningCall) (n session : ℕ)
    → ((w : WaitingCall) → Among w fewer → Among w waiting) → ((r : RunningCall) → Among r less → Among r running)
    → ((w : WaitingCall) × Among w fewer × (w.number ≡ n) × (w.call.session ≡ session)) ⊎ ((r : RunningCall) × Among r less × (r.number ≡ n) × (r.call.session ≡ session))
    → ((w : WaitingCall) × Among w waiting × (w.number ≡ n) × (w.call.session ≡ session)) ⊎ ((r : RunningCall) × Among r running × (r.number ≡ n) × (r.call.session ≡ session))
open_sub waiting running fewer less n session first second (inl w) = inl (w.0, first w.0 w.1, w.2, w.3)
open_sub waiting running fewer less n session first second (inr r) = inr (r.0, second r.0 r.1, r.2, r.3)

open_started : (b : Board) (w : WaitingCall) (n session : ℕ) → Among w b.waiting → IsOpen (started b w) n session → IsOpen b n session
unfolding started
open_started b w n session waits (inl x) = inl (x.0, among_filter _ b.waiting x.0 x.1, x.2, x.3)
open_started b w n session waits (inr r) = elim (among_snoc b.running _ r.0 r.1) [
  | inl runs ↦ inr (r.0, runs, r.2, r.3)
  | inr same ↦ inl (w, waits, ap (λ (x : RunningCall). x.number) same ∙ r.2, ap (λ (x : RunningCall). x.call.session) same ∙ r.3)
]

among_set : (xs : List RunningCall) (k : ℕ) (y x : RunningCall) → Among x (slice_set xs k y) → Among x xs ⊎ (y ≡ x)
among_set [] k y x h = absurd h
among_set (z ∷ xs) zero y x h = elim h [ inl same ↦ inr same | inr later ↦ inl (inr later) ]
among_set (z ∷ xs) (suc k) y x h = elim h [
  | inl same ↦ inl (inl same)
  | inr later ↦ elim (among_set xs k y x later) [ inl there ↦ inl (inr there) | inr same ↦ inr same ]
]

open_taken : (b : Board) (k : ℕ) (r : RunningCall) (n session : ℕ) → slice_get b.running k ≡ Some r → IsOpen (taken_at b k r) n session → IsOpen b n session
unfolding taken_at
open_taken b k r n session is (inl x) = inl x
open_taken b k r n session is (inr x) = elim (among_set b.running k _ x.0 x.1) [
  | inl runs ↦ inr (x.0, runs, x.2, x.3)
  | inr same ↦ inr (r, among_at b.running k r is, ap (λ (z : RunningCall). z.number) same ∙ x.2, ap (λ (z : RunningCall). z.call.session) same ∙ x.3)
]

none_open : {n session : ℕ} → ((w : WaitingCall) × Among w [] × (w.number ≡ n) × (w.call.session ≡ session)) ⊎ ((r : RunningCall) × Among r [] × (r.number ≡ n) × (r.call.session ≡ session)) → ⊥
none_open (inl w) = w.1
none_open (inr r) = r.1

-- a new call, or one of those before
open_joined : (b : Board) (call : AcceptedCall) (n session : ℕ) → IsOpen (joined b call) n session → IsOpen b n session ⊎ ((length b.calls + 1 ≡ n) × (call.session ≡ session))
unfolding joined
open_joined b call n session (inl w) = elim (among_snoc b.waiting _ w.0 w.1) [
  | inl waits ↦ inl (inl (w.0, waits, w.2, w.3))
  | inr same ↦ inr (ap (λ (x : WaitingCall). x.number) same ∙ w.2, ap (λ (x : WaitingCall). x.call.session) same ∙ w.3)
]
open_joined b call n session (inr r) = inl (inr r)

joined_is_same : (b : Board) (call : AcceptedCall) → (joined b call).history ≡ b.history
unfolding joined
joined_is_same b call = refl

noted_joined : (b : Board) (call : AcceptedCall) → Every (IsNoted b.calls) b.history → Every (IsNoted (joined b call).calls) (joined b call).history
unfolding joined
noted_joined b call h = Every-map (IsNoted b.calls) (IsNoted (b.calls ++ call ∷ [])) (λ e is. record { call = is.call; there = call_at-more b.calls call is.call e.number is.there; session = is.session; operation = is.operation; arguments = is.arguments }) b.history h

ends_joined : (b : Board) (call : AcceptedCall) → ends_of b.trace ≡ map (λ (e : Noted). (e.number, e.reply)) b.history → ends_of (joined b call).trace ≡ map (λ (e : Noted). (e.number, e.reply)) (joined b call).history
unfolding joined
ends_joined b call h = h

-- what is open once a call has ended was open
abbrev IsLeftOpen : Board → RunningCall → ℕ → ℕ → Type 0
IsLeftOpen b r n session =
    ((w : WaitingCall) × Among w b.waiting × (w.number ≡ n) × (w.call.session ≡ session))
    ⊎ ((x : RunningCall) × Among x (filter (λ y. not (y.number == r.number)) b.running) × (x.number ≡ n) × (x.call.session ≡ session))

left_open : (b : Board) (r : RunningCall) (n session : ℕ) → IsLeftOpen b r n session → IsOpen b n session
left_open b r n session x = open_sub b.waiting b.running b.waiting _ n session (λ w at. at) (among_filter _ b.running) x

other_open : (b : Board) (r : RunningCall) (n session : ℕ) → IsSound b → IsRunningIn b r → IsLeftOpen b r n session → n ≡ r.number → ⊥
other_open b r n session h at (inl w) same =
    let waits : IsWaitingIn b w.0 = Every-among (IsWaitingIn b) b.waiting w.0 h.counted.waits w.1 in
    fresh_runs w.0.number (past_of b) (as_path r.number r.call) waits.fresh at.among (sym same ∙ sym w.2)
other_open b r n session h at (inr x) same =
    other_number x.0.number r.number (Every-among (λ (y : RunningCall). not (y.number == r.number) ≡ true) _ x.0 (filter_passes (λ (y : RunningCall). not (y.number == r.number)) b.running) x.1) (x.2 ∙ same)

told_joined : (b : Board) (call : AcceptedCall) → IsSound b → ((n : ℕ) → IsOpen b n call.session → ⊥) → IsTold (joined b call)
told_joined b call h free = record {
  one_each = λ m n session x y. elim (open_joined b call m session x) [
    | inl old ↦ elim (open_joined b call n session y) [
      | inl too ↦ h.told.one_each m n session old too
      | inr new ↦ absurd (free m (subst (IsOpen b m) (sym new.1) old))
    ]
    | inr new ↦ elim (open_joined b call n session y) [
      | inl old ↦ absurd (free n (subst (IsOpen b n) (sym new.1) old))
      | inr too ↦ sym new.0 ∙ too.0
    ]
  ];
  later = λ n session x. subst (Every (λ e. e.session ≡ session → e.number < n)) (sym (joined_is_same b call)) (elim (open_joined b call n session x) [
    | inl old ↦ h.told.later n session old
    | inr new ↦ Every-map (IsNoted b.calls) (λ e. e.session ≡ session → e.number < n) (λ e is same. omega (arith, call_number b.calls e.number is.call is.there, new.0)) b.history h.told.noted
  ]);
  in_order = subst (EachPair (λ (e f : Noted). e.session ≡ f.session → e.number < f.number)) (sym (joined_is_same b call)) h.told.in_order;
  noted = noted_joined b call h.told.noted;
  ends = ends_joined b call h.told.ends;
}

-- the history of a running call that ends
told_ended : (b : Board) (r : RunningCall) (reply : Reply) (news : List PartPin) → IsSound b → Among r b.running → IsTold (ended b (entry_of r reply news))
unfolding ended
told_ended b r reply news h runs =
    let e = entry_of r reply news in
    let at : IsRunningIn b r = Every-among (IsRunningIn b) b.running r h.counted.runs runs in
    let here : IsOpen b r.number r.call.session = inr (r, runs, refl, refl) in
    record {
      one_each = λ m n session x y. h.told.one_each m n session (left_open b r m session x) (left_open b r n session y);
      later = λ n session x. Every-snoc (λ f. f.session ≡ session → f.number < n) b.history e (h.told.later n session (left_open b r n session x))
          (λ same. absurd (other_open b r n session h at x (h.told.one_each n r.number session (left_open b r n session x) (subst (IsOpen b r.number) same here))));
      in_order = EachPair-snoc _ b.history e h.told.in_order (h.told.later r.number r.call.session here);
      noted = Every-snoc (IsNoted b.calls) b.history e h.told.noted (record { call = r.call; there = at.call; session = refl; operation = refl; arguments = refl });
      ends = ends-end b.trace r.number reply ∙ ap (λ es. es ++ (r.number, reply) ∷ []) h.told.ends ∙ sym (map-append (λ (f : Noted). (f.number, f.reply)) b.history (e ∷ []));
    }

-- a new call
pub sound-joined : (b : Board) (call : AcceptedCall) → IsSound b → IsMadeOf b.object call → length b.calls < 65536 → length b.waiting + length b.running < 256 → ((n : ℕ) → IsOpen b n call.session → ⊥) → IsSound (joined b call)
unfolding joined
sound-joined b call h made few open_few free =
    let c = h.counted in
    let past : past_of (joined b call) ≡ past_of b = path_trace-more b.calls call b.trace c.numbered in
    let one : WaitingCall = record { number = length b.calls + 1; call = call } in
    let many = length-append b.calls (call ∷ []) in
    let waits = length-append b.waiting (one ∷ []) in
    let low : (w : WaitingCall) → IsWaitingIn b w → w.number < length b.calls + 1 = λ w is. omega (arith, call_number b.calls w.number w.call is.call) in
    record {
      counted = record {
        few = omega (arith, many, few);
        open_few = omega (arith, waits, open_few);
        counted = omega (arith, many, waits, c.counted, ap started_calls past);
        trace = subst IsTrace (sym past) c.trace;
        satisfied = subst (SatisfiesAll (paths_of b)) (sym past) c.satisfied;
        numbered = Every-map _ _ (λ (e : TraceEvent). numbered-more b.calls call (event_number e)) b.trace c.numbered;
        fresh = λ n less. subst (IsFresh n) (sym past) (c.fresh n (omega (arith, many, less)));
        made = Every-snoc (IsMadeOf b.object) b.calls call c.made made;
        waits = Every-snoc (IsWaitingIn (joined b call)) b.waiting one
            (Every-map (IsWaitingIn b) (IsWaitingIn (joined b call)) (λ w is. record { call = call_at-more b.calls call w.call w.number is.call; fresh = subst (IsFresh w.number) (sym past) is.fresh }) b.waiting c.waits)
            (record { call = subst (λ n. call_at (b.calls ++ call ∷ []) n ≡ Some call) (sym (add-one (length b.calls))) (call_at-new b.calls call); fresh = subst (IsFresh (length b.calls + 1)) (sym past) (c.fresh (length b.calls + 1) (omega arith)) });
        runs = Every-map (IsRunningIn b) (IsRunningIn (joined b call)) (λ r is. record { call = call_at-more b.calls call r.call r.number is.call; among = subst (λ t. IsAmong (as_path r.number r.call) (running_calls t)) (sym past) is.among }) b.running c.runs;
        in_order = EachPair-snoc _ b.waiting one c.in_order (Every-map (IsWaitingIn b) (λ w. w.number < length b.calls + 1) low b.waiting c.waits);
        apart = c.apart;
      };
      pinned = record {
        exclusive = h.pinned.exclusive;
        each = h.pinned.each;
        opening_each = h.pinned.opening_each;
        long = h.pinned.long;
        gone = h.pinned.gone;
        pinned = h.pinned.pinned;
        chained = h.pinned.chained;
        entries = h.pinned.entries;
      };
      told = told_joined b call h free;
    }

-- a call waits no more
pub sound-dismissed : (b : Board) (n : ℕ) → IsSound b → IsSound (dismissed b n)
unfolding dismissed
sound-dismissed b n h =
    let c = h.counted in
    let fewer = filter_le (λ (w : WaitingCall). not (w.number == n)) b.waiting in
    record {
      counted = record {
        few = c.few;
        open_few = omega (arith, fewer, c.open_few);
        counted = omega (arith, fewer, c.counted);
        trace = c.trace;
        satisfied = c.satisfied;
        numbered = c.numbered;
        fresh = c.fresh;
        made = c.made;
        waits = Every-map (IsWaitingIn b) (IsWaitingIn (dismissed b n)) (λ w is. record { call = is.call; fresh = is.fresh }) _ (Every-filter (IsWaitingIn b) _ b.waiting c.waits);
        runs = Every-map (IsRunningIn b) (IsRunningIn (dismissed b n)) (λ r is. record { call = is.call; among = is.among }) b.running c.runs;
        in_order = EachPair-filter _ _ b.waiting c.in_order;
        apart = c.apart;
      };
      pinned = record {
        exclusive = h.pinned.exclusive;
        each = h.pinned.each;
        opening_each = h.pinned.opening_each;
        long = h.pinned.long;
        gone = h.pinned.gone;
        pinned = h.pinned.pinned;
        chained = h.pinned.chained;
        entries = h.pinned.entries;
      };
      told = told_by b (dismissed b n) h.told (λ m session. open_sub b.waiting b.running _ b.running m session (among_filter _ b.waiting) (λ x at. at)) refl refl refl;
    }

-- no call of a session waits any more
pub sound-released : (b : Board) (n : ℕ) → IsSound b → IsSound (released b n)
unfolding released
sound-released b n h =
    let c = h.counted in
    let fewer = filter_le (λ (w : WaitingCall). not (w.call.session == n)) b.waiting in
    record {
      counted = record {
        few = c.few;
        open_few = omega (arith, fewer, c.open_few);
        counted = omega (arith, fewer, c.counted);
        trace = c.trace;
        satisfied = c.satisfied;
        numbered = c.numbered;
        fresh = c.fresh;
        made = c.made;
        waits = Every-map (IsWaitingIn b) (IsWaitingIn (released b n)) (λ w is. record { call = is.call; fresh = is.fresh }) _ (Every-filter (IsWaitingIn b) _ b.waiting c.waits);
        runs = Every-map (IsRunningIn b) (IsRunningIn (released b n)) (λ r is. record { call = is.call; among = is.among }) b.running c.runs;
        in_order = EachPair-filter _ _ b.waiting c.in_order;
        apart = c.apart;
      };
      pinned = record {
        exclusive = h.pinned.exclusive;
        each = h.pinned.each;
        opening_each = h.pinned.opening_each;
        long = h.pinned.long;
        gone = h.pinned.gone;
        pinned = h.pinned.pinned;
        chained = h.pinned.chained;
        entries = h.pinned.entries;
      };
      told = told_by b (released b n) h.told (λ m session. open_sub b.waiting b.running _ b.running m session (among_filter _ b.waiting) (λ x at. at)) refl refl refl;
    }

-- a session leaves
pub sound-marked : (b : Board) (session : ℕ) → IsSound b → IsSound (marked b session)
unfolding marked
sound-marked b session h =
    let c = h.counted in
    record {
      counted = record {
        few = c.few;
        open_few = c.open_few;
        counted = c.counted;
        trace = c.trace;
        satisfied = c.satisfied;
        numbered = c.numbered;
        fresh = c.fresh;
        made = c.made;
        waits = Every-map (IsWaitingIn b) (IsWaitingIn (marked b session)) (λ w is. record { call = is.call; fresh = is.fresh }) b.waiting c.waits;
        runs = Every-map (IsRunningIn b) (IsRunningIn (marked b session)) (λ r is. record { call = is.call; among = is.among }) b.running c.runs;
        in_order = c.in_order;
        apart = c.apart;
      };
      pinned = record {
        exclusive = h.pinned.exclusive;
        each = h.pinned.each;
        opening_each = h.pinned.opening_each;
        long = h.pinned.long;
        gone = length-set b.gone (session - 1) true ∙ h.pinned.gone;
        pinned = h.pinned.pinned;
        chained = h.pinned.chained;
        entries = h.pinned.entries;
      };
      told = told_by b (marked b session) h.told (λ m session x. x) refl refl refl;
    }

-- a waiting call starts
pub sound-started : (b : Board) (w : WaitingCall) → IsSound b → IsNext b w → IsSound (started b w)
unfolding started
sound-started b w h next =
    let c = h.counted in
    let at : IsWaitingIn b w = Every-among (IsWaitingIn b) b.waiting w c.waits next.waits in
    let one : RunningCall = record { number = w.number; call = w.call; pins = read_pins w.call.operation b.pins; taken = false } in
    let past : past_of (started b w) ≡ Began (as_path w.number w.call) ∷ past_of b =
    path_trace-snoc b.calls b.trace (Start w.number) ∙ ap (λ e. e ∷ past_of b) (start_event b.calls w.number w.call at.call) in
    let less : length (filter (λ (x : WaitingCall). not (x.number == w.number)) b.waiting) < length b.waiting = filter_less (λ (x : WaitingCall). not (x.number == w.number)) b.waiting w next.waits (ap not (eqb_same w.number)) in
    let runs = length-append b.running (one ∷ []) in
    let numbers = call_number b.calls w.number w.call at.call in
    let others : Every (λ (r : RunningCall). r.number ≢ w.number) b.running =
    Every-map (IsRunningIn b) (λ r. r.number ≢ w.number) (λ r is same. fresh_runs w.number (past_of b) (as_path r.number r.call) at.fresh is.among same) b.running c.runs in
    record {
      counted = record {
        few = c.few;
        open_few = omega (arith, less, runs, c.open_few);
        counted = omega (arith, less, c.counted, ap started_calls past);
        trace = subst IsTrace (sym past) (at.fresh, c.trace);
        satisfied = subst (SatisfiesAll (paths_of b)) (sym past) (next.may w.number);
        numbered = Every-snoc _ b.trace (Start w.number) c.numbered (w.call, at.call);
        fresh = λ n above. subst (IsFresh n) (sym past) (λ same. absurd (omega (arith, above, numbers.1, same)), c.fresh n above);
        made = c.made;
        waits = Every-both (IsWaitingIn b) (λ (x : WaitingCall). not (x.number == w.number) ≡ true) (IsWaitingIn (started b w))
            (λ x is test. record { call = is.call; fresh = subst (IsFresh x.number) (sym past) (λ same. other_number x.number w.number test (sym same), is.fresh) })
            (filter (λ (x : WaitingCall). not (x.number == w.number)) b.waiting)
            (Every-filter (IsWaitingIn b) _ b.waiting c.waits) (filter_passes (λ (x : WaitingCall). not (x.number == w.number)) b.waiting);
        runs = Every-snoc (IsRunningIn (started b w)) b.running one
            (Every-map (IsRunningIn b) (IsRunningIn (started b w)) (λ r is. record { call = is.call; among = subst (λ t. IsAmong (as_path r.number r.call) (running_calls t)) (sym past) (inr is.among) }) b.running c.runs)
            (record { call = at.call; among = subst (λ t. IsAmong (as_path w.number w.call) (running_calls t)) (sym past) (inl (refl, refl)) });
        in_order = EachPair-filter _ _ b.waiting c.in_order;
        apart = EachPair-snoc _ b.running one c.apart others;
      };
      pinned = record {
        exclusive = h.pinned.exclusive;
        each = h.pinned.each;
        opening_each = h.pinned.opening_each;
        long = Every-snoc _ b.running one h.pinned.long (record { pins = b.pins; each = h.pinned.each; kept = refl });
        gone = h.pinned.gone;
        pinned = Every-snoc (IsPinned b.pins) b.running one h.pinned.pinned (λ p reads. sym (kept_at w.call.operation b.pins p reads));
        chained = h.pinned.chained;
        entries = h.pinned.entries;
      };
      told = told_by b (started b w) h.told (λ m session. open_started b w m session next.waits) refl refl (ends-start b.trace w.number);
    }

-- the entries go on
chained-snoc : (from : List (List Stamp)) (es : List Noted) (last : List (List Stamp)) (e : Noted) → IsChained from es last → Follows last e → IsChained from (es ++ e ∷ []) (published last (news_of e))
chained-snoc from [] last e chain follows = (subst (λ pins. Follows pins e) chain follows, ap (λ pins. published pins (news_of e)) chain)
chained-snoc from (x ∷ xs) last e chain follows = (chain.0, chained-snoc (published from (news_of x)) xs last e chain.1 follows)

-- what is published is no pin of what another running call reads
still_pinned : (b : Board) (h : IsSound b) (r : RunningCall) → Among r b.running → (news : List PartPin) → ((p : ℕ) → pin_at news p ≢ None → Writes (body_of r.call.operation).statements p)
    → (s : RunningCall) → Among s b.running → s.number ≢ r.number → IsPinned b.pins s → IsPinned (published b.pins news) s
still_pinned b h r runs news writes s too differ pinned p reads = by_new (pin_at news p) refl
  where
    by_new : (new : Option (List Stamp)) → pin_at news p ≡ new → slice_get (published b.pins news) p ≡ pin_at s.pins p
    by_new None is = published_elsewhere b.pins news p is ∙ pinned p reads
    by_new (Some pages) is = absurd (never_conflict b h s r too runs differ p (inr (writes p (has_pin news p pages is), inl reads)))

-- a running call ends
pub sound-ended : (b : Board) (r : RunningCall) (reply : Reply) (news : List PartPin) → IsSound b → Among r b.running
    → ((p : ℕ) → pin_at (if_done reply news) p ≢ None → Writes (body_of r.call.operation).statements p) → IsSound (ended b (entry_of r reply news))
unfolding ended
sound-ended b r reply news h runs writes =
    let c = h.counted in
    let e = entry_of r reply news in
    let at : IsRunningIn b r = Every-among (IsRunningIn b) b.running r c.runs runs in
    let past : past_of (ended b e) ≡ Ended (as_path r.number r.call) ∷ past_of b =
    path_trace-snoc b.calls b.trace (End r.number reply) ∙ ap (λ x. x ∷ past_of b) (end_event b.calls r.number r.call reply at.call) in
    let fewer = filter_le (λ (x : RunningCall). not (x.number == r.number)) b.running in
    let made = made_at b r.number r.call c at.call in
    let twice : if_done reply (if_done reply news) ≡ if_done reply news = done_twice reply news in
    let kept : Every (λ (s : RunningCall). not (s.number == r.number) ≡ true) (filter (λ (x : RunningCall). not (x.number == r.number)) b.running) = filter_passes (λ (x : RunningCall). not (x.number == r.number)) b.running in
    record {
      counted = record {
        few = c.few;
        open_few = omega (arith, fewer, c.open_few);
        counted = omega (arith, c.counted, ap started_calls past);
        trace = subst IsTrace (sym past) (at.among, c.trace);
        satisfied = subst (SatisfiesAll (paths_of b)) (sym past) (end_satisfies_all (paths_of b) (past_of b) (as_path r.number r.call) c.satisfied);
        numbered = Every-snoc _ b.trace (End r.number reply) c.numbered (r.call, at.call);
        fresh = λ n above. subst (IsFresh n) (sym past) (c.fresh n above);
        made = c.made;
        waits = Every-map (IsWaitingIn b) (IsWaitingIn (ended b e)) (λ x is. record { call = is.call; fresh = subst (IsFresh x.number) (sym past) is.fresh }) b.waiting c.waits;
        runs = Every-both (IsRunningIn b) (λ (x : RunningCall). not (x.number == r.number) ≡ true) (IsRunningIn (ended b e))
            (λ x is test. record { call = is.call; among = subst (λ t. IsAmong (as_path x.number x.call) (running_calls t)) (sym past) (among_without (as_path r.number r.call) (as_path x.number x.call) (running_calls (past_of b)) (other_number x.number r.number test) is.among) })
            (filter (λ (x : RunningCall). not (x.number == r.number)) b.running) (Every-filter (IsRunningIn b) _ b.running c.runs) kept;
        in_order = c.in_order;
        apart = EachPair-filter _ _ b.running c.apart;
      };
      pinned = record {
        exclusive = h.pinned.exclusive;
        each = length-published b.pins (if_done reply (if_done reply news)) ∙ h.pinned.each;
        opening_each = h.pinned.opening_each;
        long = Every-filter _ _ b.running h.pinned.long;
        gone = h.pinned.gone;
        pinned = every_from (IsPinned (published b.pins (if_done reply (if_done reply news)))) (filter (λ (x : RunningCall). not (x.number == r.number)) b.running)
            (λ s left. subst (λ ns. IsPinned (published b.pins ns) s) (sym twice)
            (still_pinned b h r runs (if_done reply news) writes s (among_filter _ b.running s left) (other_number s.number r.number (Every-among _ _ s kept left)) (Every-among (IsPinned b.pins) b.running s h.pinned.pinned (among_filter _ b.running s left))));
        chained = chained-snoc b.opening b.history b.pins e h.pinned.chained
            (record { reads = λ p reads. sym (Every-among (IsPinned b.pins) b.running r h.pinned.pinned runs p reads); writes = λ p part. writes p (subst (λ ns. pin_at ns p ≢ None) twice part) });
        entries = Every-snoc _ b.history e h.pinned.entries made.parts;
      };
      told = told_ended b r reply news h runs;
    }

-- a board without calls
pub sound-opened : (object : Object) (pins : List (List Stamp)) → IsExclusive (object_of object) → length pins ≡ length object.parts.items → SatisfiesAll (object_of object).paths [] → IsSound (opened object pins)
sound-opened object pins exclusive each satisfied =
    record {
      counted = record {
        few = omega arith;
        open_few = omega arith;
        counted = omega arith;
        trace = tt;
        satisfied = satisfied;
        numbered = tt;
        fresh = λ n above. tt;
        made = tt;
        waits = tt;
        runs = tt;
        in_order = tt;
        apart = tt;
      };
      pinned = record {
        exclusive = exclusive;
        each = each;
        opening_each = each;
        long = tt;
        gone = length-replicate most_sessions false;
        pinned = tt;
        chained = refl;
        entries = tt;
      };
      told = record {
        one_each = λ m n session x y. absurd (none_open x);
        later = λ n session x. tt;
        in_order = tt;
        noted = tt;
        ends = refl;
      };
    }

-- a ticket is taken
pub sound-taken : (b : Board) (k : ℕ) (r : RunningCall) → IsSound b → slice_get b.running k ≡ Some r → IsSound (taken_at b k r)
unfolding taken_at
sound-taken b k r h is =
    let c = h.counted in
    let y : RunningCall = record r { taken = true } in
    let at : IsRunningIn b r = Every-at (IsRunningIn b) b.running k r c.runs is in
    record {
      counted = record {
        few = c.few;
        open_few = omega (arith, length-set b.running k y, c.open_few);
        counted = c.counted;
        trace = c.trace;
        satisfied = c.satisfied;
        numbered = c.numbered;
        fresh = c.fresh;
        made = c.made;
        waits = Every-map (IsWaitingIn b) (IsWaitingIn (taken_at b k r)) (λ w is. record { call = is.call; fresh = is.fresh }) b.waiting c.waits;
        runs = Every-set (IsRunningIn (taken_at b k r)) b.running k y (Every-map (IsRunningIn b) (IsRunningIn (taken_at b k r)) (λ x is. record { call = is.call; among = is.among }) b.running c.runs) (record { call = at.call; among = at.among });
        in_order = c.in_order;
        apart = EachPair-set (λ (x z : RunningCall). x.number ≢ z.number) b.running k r y (λ z differ. differ) (λ z differ. differ) c.apart is;
      };
      pinned = record {
        exclusive = h.pinned.exclusive;
        each = h.pinned.each;
        opening_each = h.pinned.opening_each;
        long = Every-set (HasItsPins (length b.object.parts.items)) b.running k y h.pinned.long (let x : HasItsPins (length b.object.parts.items) r = Every-at (HasItsPins (length b.object.parts.items)) b.running k r h.pinned.long is in record { pins = x.pins; each = x.each; kept = x.kept });
        gone = h.pinned.gone;
        pinned = Every-set (IsPinned b.pins) b.running k y h.pinned.pinned (Every-at (IsPinned b.pins) b.running k r h.pinned.pinned is);
        chained = h.pinned.chained;
        entries = h.pinned.entries;
      };
      told = told_by b (taken_at b k r) h.told (λ m session. open_taken b k r m session is) refl refl refl;
    }
