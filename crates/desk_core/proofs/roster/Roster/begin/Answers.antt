use Rattle.std.proofs.Common.{◌≡◌, ◌∙◌, ℕ, ◌<◌, ◌∷◌, [], sym, ap, subst, arith, length, length-append, Some, false, ◌++◌}
use Rattle.std.specs.Prelude.{slice_get}
use Rattle.path_tree.specs.Satisfies.{MayStart}
use Rattle.path_count.specs.Stands.{StandsFor, started_calls}
use Rattle.board_core.specs.declared.event.TraceEvent.TheVariants.{Start}
use Rattle.page_core.specs.ObjectCalls.{WaitingCall, RunningCall, read_pins}
use Rattle.board_core.specs.Board.{Board, started, IsNext, paths_of, past_of}
use Rattle.desk_core.specs.Kept.{board_of, events_of, IsMarkIn}
use Rattle.desk_core.specs.declared.marks.Mark.TheVariants as marks
use Rattle.page_core.specs.Lists.{Every}
use Rattle.desk_core.proofs.Marking.{events_start}
use Rattle.board_core.specs.Sound.{IsSound, IsWaitingIn, as_path}
use Rattle.page_core.proofs.Lists.{Every-among, Every-snoc}
use Rattle.board_core.proofs.Sound.{sound-started, past_started}
use Rattle.desk_core.proofs.Starting.{fewer_wait, taken_out, op_within}
use Rattle.desk_core.proofs.Tables.{started_is}
use Rattle.desk_core.proofs.roster.Roster.begin.Goals as goal

pub invariant_of-self : goal.invariant_of-self
invariant_of-self c =
    let b : Board = board_of c.self.inside in
    let w : WaitingCall = c.requires.0 in
    let is : slice_get b.waiting c.args.place ≡ Some w = subst (λ (x : Board). slice_get x.waiting c.args.place ≡ Some w) (sym c.self.view_is) c.requires.1 in
    let next : IsNext b w = subst (λ (x : Board). IsNext x w) (sym c.self.view_is) c.requires.2 in
    let sound : IsSound b = c.self.invariant.sound in
    let asked = c.asked_at-number.ensures w (ap (λ xs. slice_get xs c.args.place) c.calls.ensures ∙ is) in
    let all = c.self.inside.marks.items in
    let trace : events_of c.self.inside.history.items c.note_start.new.marks.items ≡ b.trace ++ Start w.number ∷ [] =
    ap (events_of c.self.inside.history.items) c.note_start.ensures.items ∙ events_start c.self.inside.history.items all c.asked_at-number.result.0 ∙ ap (λ n. b.trace ++ Start n ∷ []) asked.0 in
    let running = c.start_at.ensures.running w is in
    let made = started_is b w _ _ _ trace (c.start_at.ensures.waiting ∙ taken_out b.waiting c.args.place w sound.counted.in_order is) running in
    let at : IsWaitingIn b w = Every-among (IsWaitingIn b) b.waiting w sound.counted.waits next.waits in
    let n : ℕ = length c.self.inside.accepted.operations.items in
    let less : started_calls (past_of b) < 65536 = omega (arith, sound.counted.counted, sound.counted.few, fewer_wait b w next) in
    let yes = (c.start.ensures.answer n (paths_of b) (past_of b) c.self.invariant.stands).1
    (subst (λ op. (op < n) × MayStart (paths_of b) op (past_of b) × (started_calls (past_of b) < 65536)) (sym asked.1) (op_within b w sound next.waits, next.may, less)) in
    let after = c.start.ensures.taken yes n (paths_of b) (past_of b) (as_path w.number w.call) c.self.invariant.stands (sym asked.1) at.fresh in
    let one : RunningCall = record { number = w.number; call = w.call; pins = read_pins w.call.operation b.pins; taken = false } in
    let t = ap length c.note_start.ensures.items ∙ length-append all (marks.Start c.asked_at-number.result.0 ∷ []) in
    let r = ap length running ∙ length-append b.running (one ∷ []) in
    let wl = ap (λ (x : Board). length x.waiting) made in
    let fewer = fewer_wait b w next in
    record {
      marks = subst (Every (IsMarkIn (length c.self.inside.history.items))) (sym c.note_start.ensures.items) (Every-snoc (IsMarkIn (length c.self.inside.history.items)) all (marks.Start c.asked_at-number.result.0) c.self.invariant.marks tt);
      places = c.self.invariant.places;
      index = c.self.invariant.index;
      sound = subst IsSound (sym made) (sound-started b w sound next);
      stands = subst (StandsFor c.start.new.self n (paths_of b)) (sym (ap past_of made ∙ past_started b w at.call)) after;
      room = record {
        marks = omega (arith, t, r, wl, fewer, c.self.invariant.room.marks, c.note_start.ensures.room);
        history = omega (arith, r, wl, fewer, c.self.invariant.room.history);
        running = omega (arith, r, wl, fewer, c.self.invariant.room.running, c.start_at.ensures.running_room);
      };
    }

pub returns : goal.returns
returns c = λ w is0.
    let b : Board = board_of c.self.inside in
    let is : slice_get b.waiting c.args.place ≡ Some w = subst (λ (x : Board). slice_get x.waiting c.args.place ≡ Some w) (sym c.self.view_is) is0 in
    let asked = c.asked_at-number.ensures w (ap (λ xs. slice_get xs c.args.place) c.calls.ensures ∙ is) in
    started_is b w _ _ _ (ap (events_of c.self.inside.history.items) c.note_start.ensures.items ∙ events_start c.self.inside.history.items c.self.inside.marks.items c.asked_at-number.result.0 ∙ ap (λ n. b.trace ++ Start n ∷ []) asked.0) (c.start_at.ensures.waiting ∙ taken_out b.waiting c.args.place w c.self.invariant.sound.counted.in_order is) (c.start_at.ensures.running w is)
    ∙ ap (λ x. started x w) c.self.view_is
