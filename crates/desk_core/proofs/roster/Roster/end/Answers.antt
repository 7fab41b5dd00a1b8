use Rattle.std.proofs.Common.{◌≡◌, ◌∙◌, ◌==◌, not, ℕ, ◌+◌, ◌-◌, ◌<◌, ◌∷◌, [], ◌++◌, sym, ap, subst, arith, length, length-append, Some}
use Rattle.std.specs.Prelude.{slice_get, slice_set}
use Rattle.std.specs.Arc.{arc_value}
use Rattle.std.proofs.lemmas.List.{length-map}
use Rattle.std.proofs.lemmas.Option.{slice_get_within}
use Rattle.path_tree.specs.Trace.{starts, ends}
use Rattle.path_count.specs.Stands.{StandsFor}
use Rattle.path_count.proofs.Running.{call_counts}
use Rattle.page_core.proofs.ListBytes.{some_same}
use Rattle.page_core.specs.Outcomes.{if_done}
use Rattle.board_core.specs.declared.event.TraceEvent.TheVariants.{End}
use Rattle.page_core.specs.Lists.{Among, Every}
use Rattle.page_core.specs.ObjectCalls.{RunningCall, Noted}
use Rattle.board_core.specs.Board.{Board, ended, entry_of, published, paths_of, past_of}
use Rattle.board_core.specs.Sound.{IsSound, IsRunningIn, as_path}
use Rattle.page_core.proofs.Lists.{Every-among, among_at, filter_less, eqb_same}
use Rattle.board_core.proofs.Published.{done_twice, has_pin}
use Rattle.board_core.proofs.Sound.{sound-ended, past_ended, call_number}
use Rattle.desk_core.specs.declared.marks.Mark.TheVariants as marks
use Rattle.desk_core.specs.Kept.{board_of, events_of, IsMarkIn, ArePlaces}
use Rattle.desk_core.proofs.Marking.{events_same, events_end, marks_end}
use Rattle.desk_core.proofs.Places.{places_ended}
use Rattle.desk_core.proofs.Publishing.{published_if, sized_if}
use Rattle.desk_core.proofs.Starting.{ended_out, writes_within, running_within}
use Rattle.desk_core.proofs.Tables.{ended_is}
use Rattle.desk_core.proofs.roster.Roster.end.Goals as goal

pub publish-requires : goal.publish-requires
publish-requires c =
    let b : Board = board_of c.self.inside in
    let sound : IsSound b = c.self.invariant.sound in
    let r : RunningCall = c.requires.there.0 in
    let is : slice_get b.running c.args.place ≡ Some r = subst (λ (x : Board). slice_get x.running c.args.place ≡ Some r) (sym c.self.view_is) c.requires.there.1 in
    let news = if_done c.args.reply.now c.args.kept in
    sized_if (length b.pins) news c.args.news c.requires.some (λ p pages at.
    let sized = c.requires.sized p pages at in
    (writes_within b r p sound (among_at b.running c.args.place r is) (c.requires.there.2 p (has_pin news p pages at)), sized.0, sized.1))

pub end_at-entry-requires : goal.end_at-entry-requires
end_at-entry-requires c =
    let b : Board = board_of c.self.inside in
    let r : RunningCall = c.requires.there.0 in
    slice_get_within b.running c.args.place r (subst (λ (x : Board). slice_get x.running c.args.place ≡ Some r) (sym c.self.view_is) c.requires.there.1)

pub overflow_sub-number : goal.overflow_sub-number
overflow_sub-number c =
    let b : Board = board_of c.self.inside in
    let sound : IsSound b = c.self.invariant.sound in
    let r : RunningCall = c.requires.there.0 in
    let is : slice_get b.running c.args.place ≡ Some r = subst (λ (x : Board). slice_get x.running c.args.place ≡ Some r) (sym c.self.view_is) c.requires.there.1 in
    let runs : Among r b.running = among_at b.running c.args.place r is in
    let at : IsRunningIn b r = Every-among (IsRunningIn b) b.running r sound.counted.runs runs in
    let asked = c.running_at-number.ensures r (ap (λ xs. slice_get xs c.args.place) c.deref.ensures.value ∙ is) in
    let number = call_number b.calls r.number r.call at.call in
    omega (arith, asked.0, number)

pub index_mut-requires : goal.index_mut-requires
index_mut-requires c =
    let b : Board = board_of c.self.inside in
    let sound : IsSound b = c.self.invariant.sound in
    let r : RunningCall = c.requires.there.0 in
    let is : slice_get b.running c.args.place ≡ Some r = subst (λ (x : Board). slice_get x.running c.args.place ≡ Some r) (sym c.self.view_is) c.requires.there.1 in
    let runs : Among r b.running = among_at b.running c.args.place r is in
    let at : IsRunningIn b r = Every-among (IsRunningIn b) b.running r sound.counted.runs runs in
    let asked = c.running_at-number.ensures r (ap (λ xs. slice_get xs c.args.place) c.deref.ensures.value ∙ is) in
    let number = call_number b.calls r.number r.call at.call in
    omega (arith, asked.0, number, c.self.invariant.places.each, length-map c.self.inside.calls.items (λ x. arc_value x))

pub invariant_of-self : goal.invariant_of-self
invariant_of-self c =
    let b : Board = board_of c.self.inside in
    let sound : IsSound b = c.self.invariant.sound in
    let r : RunningCall = c.requires.there.0 in
    let is : slice_get b.running c.args.place ≡ Some r = subst (λ (x : Board). slice_get x.running c.args.place ≡ Some r) (sym c.self.view_is) c.requires.there.1 in
    let runs : Among r b.running = among_at b.running c.args.place r is in
    let at : IsRunningIn b r = Every-among (IsRunningIn b) b.running r sound.counted.runs runs in
    let asked = c.running_at-number.ensures r (ap (λ xs. slice_get xs c.args.place) c.deref.ensures.value ∙ is) in
    let number = call_number b.calls r.number r.call at.call in
    let e : Noted = entry_of r c.args.reply.now c.args.kept in
    let kept : c.end_at-entry.result ≡ e = c.end_at-entry.ensures.kept r is in
    let history : c.note.new.items.items ≡ b.history ++ e ∷ [] = c.note.ensures.items ∙ ap (λ x. b.history ++ x ∷ []) kept in
    let place : c.len.result ≡ length b.history = omega (arith, c.len.ensures, c.self.inside.history.ok.0) in
    let all : c.note_end.new.marks.items ≡ c.self.inside.marks.items ++ marks.End (length b.history) ∷ [] = c.note_end.ensures.items ∙ ap (λ n. c.self.inside.marks.items ++ marks.End n ∷ []) place in
    let trace : events_of c.note.new.items.items c.note_end.new.marks.items ≡ b.trace ++ End e.number e.reply ∷ [] = events_same history all ∙ events_end b.history e c.self.inside.marks.items c.self.invariant.marks in
    let running = c.end_at-entry.ensures.running ∙ ended_out b.running c.args.place r sound.counted.apart is in
    let news = if_done c.args.reply.now c.args.kept in
    let pins = published_if b.pins c.publish.new.pins news c.args.news c.requires.some c.requires.none c.publish.ensures.some c.publish.ensures.none ∙ ap (published b.pins) (sym (done_twice c.args.reply.now c.args.kept)) in
    let made = ended_is b e _ _ _ _ trace history running pins in
    let n : ℕ = length c.self.inside.accepted.operations.items in
    let yes = (c.finish.ensures.answer n (paths_of b) (past_of b) c.self.invariant.stands).1
    (subst (λ op. (op < n) × (ends op (past_of b) < starts op (past_of b))) (sym asked.2) (running_within b r sound runs, call_counts (as_path r.number r.call) (past_of b) sound.counted.trace at.among)) in
    let after = c.finish.ensures.ended yes n (paths_of b) (past_of b) (as_path r.number r.call) c.self.invariant.stands (sym asked.2) at.among in
    let t = ap length all ∙ length-append c.self.inside.marks.items (marks.End (length b.history) ∷ []) in
    let h = ap length history ∙ length-append b.history (e ∷ []) in
    let rl = ap length running in
    let fewer = filter_less (λ (x : RunningCall). not (x.number == r.number)) b.running r runs (ap not (eqb_same r.number)) in
    let last : c.len-2.result ≡ length b.history + 1 = omega (arith, c.len-2.ensures, c.note.new.items.ok.0, h) in
    let count = length c.self.inside.calls.items in
    let ps = c.self.inside.places.items in
    record {
      marks = subst (λ hs. Every (IsMarkIn (length hs)) c.note_end.new.marks.items) (sym history) (subst (Every (IsMarkIn (length (b.history ++ e ∷ [])))) (sym all) (marks_end b.history e c.self.inside.marks.items c.self.invariant.marks));
      places = subst (λ hs. ArePlaces hs count (slice_set ps (c.running_at-number.result.0 - 1) c.len-2.result)) (sym history)
          (subst (λ k. ArePlaces (b.history ++ e ∷ []) count (slice_set ps (k - 1) c.len-2.result)) (sym asked.0) (places_ended b.history e count ps c.len-2.result c.self.invariant.places number.0 last));
      index = c.self.invariant.index;
      sound = subst IsSound (sym made) (sound-ended b r c.args.reply.now c.args.kept sound runs c.requires.there.2);
      stands = subst (StandsFor c.finish.new.self n (paths_of b)) (sym (ap past_of made ∙ past_ended b e r.call at.call)) after;
      room = record {
        marks = omega (arith, t, rl, fewer, c.self.invariant.room.marks, c.note_end.ensures.room);
        history = omega (arith, h, rl, fewer, c.self.invariant.room.history, c.note.ensures.room);
        running = omega (arith, rl, fewer, c.self.invariant.room.running, c.end_at-entry.ensures.room);
      };
    }

pub returns-clause-board : goal.returns-clause-board
returns-clause-board c = λ s is0.
    let b : Board = board_of c.self.inside in
    let sound : IsSound b = c.self.invariant.sound in
    let r : RunningCall = c.requires.there.0 in
    let is : slice_get b.running c.args.place ≡ Some r = subst (λ (x : Board). slice_get x.running c.args.place ≡ Some r) (sym c.self.view_is) c.requires.there.1 in
    let one : r ≡ s = some_same (sym c.requires.there.1 ∙ is0) in
    let e : Noted = entry_of r c.args.reply.now c.args.kept in
    let kept : c.end_at-entry.result ≡ e = c.end_at-entry.ensures.kept r is in
    let history : c.note.new.items.items ≡ b.history ++ e ∷ [] = c.note.ensures.items ∙ ap (λ x. b.history ++ x ∷ []) kept in
    let place : c.len.result ≡ length b.history = omega (arith, c.len.ensures, c.self.inside.history.ok.0) in
    let all : c.note_end.new.marks.items ≡ c.self.inside.marks.items ++ marks.End (length b.history) ∷ [] = c.note_end.ensures.items ∙ ap (λ n. c.self.inside.marks.items ++ marks.End n ∷ []) place in
    let trace : events_of c.note.new.items.items c.note_end.new.marks.items ≡ b.trace ++ End e.number e.reply ∷ [] = events_same history all ∙ events_end b.history e c.self.inside.marks.items c.self.invariant.marks in
    let running = c.end_at-entry.ensures.running ∙ ended_out b.running c.args.place r sound.counted.apart is in
    let news = if_done c.args.reply.now c.args.kept in
    let pins = published_if b.pins c.publish.new.pins news c.args.news c.requires.some c.requires.none c.publish.ensures.some c.publish.ensures.none ∙ ap (published b.pins) (sym (done_twice c.args.reply.now c.args.kept)) in
    let made = ended_is b e _ _ _ _ trace history running pins in
    made ∙ ap (λ x. ended x e) c.self.view_is ∙ ap (λ (x : RunningCall). ended c.args.self.now (entry_of x c.args.reply.now c.args.kept)) one
