use Rattle.std.proofs.Common.{◌≡◌, ◌∙◌, refl, ◌<◌, ◌≤◌, ◌+◌, ◌-◌, get_or, rules, ◌∷◌, [], ◌++◌, sym, ap, subst, false, arith, length, length-append, Some, map}
use Rattle.std.specs.Prelude.{slice_get, slice_set}
use Rattle.std.specs.Arc.{arc_value}
use Rattle.std.proofs.lemmas.List.{map-append, length-map}
use Rattle.std.proofs.lemmas.Option.{slice_get-get_or}
use Rattle.path_count.specs.Stands.{StandsFor}
use Rattle.page_core.specs.ObjectCalls.{AcceptedCall, WaitingCall}
use Rattle.board_core.specs.Board.{Board, joined, bodies, paths_of, past_of}
use Rattle.desk_core.specs.Kept.{board_of, IsMarkIn, ArePlaces}
use Rattle.board_core.specs.Sound.{IsSound, IsFirstNamed}
use Rattle.board_core.proofs.Sound.{sound-joined, past_joined}
use Rattle.board_core.specs.Answers.{is_busy}
use Rattle.desk_core.proofs.Busy.{not_open}
use Rattle.board_core.proofs.Made.{some_body, made_of}
use Rattle.desk_core.proofs.Marking.{events_same}
use Rattle.desk_core.proofs.Places.{places_joined, noted_below}
use Rattle.board_core.specs.Index.{AreIndexed}
use Rattle.board_core.proofs.Indexing.{indexed_joined}
use Rattle.page_core.specs.Lists.{Every}
use Rattle.desk_core.proofs.Tables.{joined_is, same_is}
use Rattle.desk_core.proofs.roster.Roster.join.Goals as goal

pub invariant_of-self : goal.invariant_of-self
invariant_of-self c =
    let b : Board = board_of c.self.inside in
    let e = c.make_room.ensures in
    let made = same_is b _ _ _ _ _ (ap (map (λ x. arc_value x)) e.calls) refl (events_same e.history e.marks) e.history e.running in
    let r = ap length e.running in
    record {
      marks = subst (λ h. Every (IsMarkIn (length h)) c.make_room.new.marks.items) (sym e.history) (subst (Every (IsMarkIn (length c.self.inside.history.items))) (sym e.marks) c.self.invariant.marks);
      places = subst (λ h. ArePlaces h (length c.make_room.new.calls.items) c.make_room.new.places.items) (sym e.history)
          (subst (λ cs. ArePlaces c.self.inside.history.items (length cs) c.make_room.new.places.items) (sym e.calls) (subst (ArePlaces c.self.inside.history.items (length c.self.inside.calls.items)) (sym e.places) c.self.invariant.places));
      index = subst (λ cs. AreIndexed (map (λ x. arc_value x) cs) c.self.inside.index) (sym e.calls) c.self.invariant.index;
      sound = subst IsSound (sym made) c.self.invariant.sound;
      stands = subst (StandsFor c.self.inside.counters (length c.self.inside.accepted.operations.items) (paths_of b)) (sym (ap past_of made)) c.self.invariant.stands;
      room = record {
        marks = omega (arith, r, ap length e.marks, e.marks_kept, c.self.invariant.room.marks);
        history = omega (arith, r, ap length e.history, e.history_kept, c.self.invariant.room.history);
        running = omega (arith, r, e.running_kept, c.self.invariant.room.running);
      };
    }

pub returns-in_err-make_room-clause-err : goal.returns-in_err-make_room-clause-err
returns-in_err-make_room-clause-err c =
    let b : Board = board_of c.self.inside in
    let e = c.make_room.ensures in
    let same = same_is b _ _ _ _ _ (ap (map (λ x. arc_value x)) e.calls) refl (events_same e.history e.marks) e.history e.running ∙ c.self.view_is in
    search (rules, same)

pub invariant_of-self-in_err-add : goal.invariant_of-self-in_err-add
invariant_of-self-in_err-add c =
    let b : Board = board_of c.self.inside in
    let e = c.make_room.ensures in
    let made = same_is b _ _ _ _ _ (ap (map (λ x. arc_value x)) e.calls) refl (events_same e.history e.marks) e.history e.running in
    let r = ap length e.running in
    record {
      marks = subst (λ h. Every (IsMarkIn (length h)) c.make_room.new.marks.items) (sym e.history) (subst (Every (IsMarkIn (length c.self.inside.history.items))) (sym e.marks) c.self.invariant.marks);
      places = subst (λ h. ArePlaces h (length c.make_room.new.calls.items) c.make_room.new.places.items) (sym e.history)
          (subst (λ cs. ArePlaces c.self.inside.history.items (length cs) c.make_room.new.places.items) (sym e.calls) (subst (ArePlaces c.self.inside.history.items (length c.self.inside.calls.items)) (sym e.places) c.self.invariant.places));
      index = subst (AreIndexed (map (λ x. arc_value x) c.make_room.new.calls.items)) (sym c.in_err-add.ensures.err)
          (subst (λ cs. AreIndexed (map (λ x. arc_value x) cs) c.self.inside.index) (sym e.calls) c.self.invariant.index);
      sound = subst IsSound (sym made) c.self.invariant.sound;
      stands = subst (StandsFor c.self.inside.counters (length c.self.inside.accepted.operations.items) (paths_of b)) (sym (ap past_of made)) c.self.invariant.stands;
      room = record {
        marks = omega (arith, r, ap length e.marks, e.marks_kept, c.self.invariant.room.marks);
        history = omega (arith, r, ap length e.history, e.history_kept, c.self.invariant.room.history);
        running = omega (arith, r, e.running_kept, c.self.invariant.room.running);
      };
    }

pub returns-in_err-add-clause-err : goal.returns-in_err-add-clause-err
returns-in_err-add-clause-err c =
    let b : Board = board_of c.self.inside in
    let e = c.make_room.ensures in
    let same = same_is b _ _ _ _ _ (ap (map (λ x. arc_value x)) e.calls) refl (events_same e.history e.marks) e.history e.running ∙ c.self.view_is in
    search (rules, same)

pub invariant_of-self-2 : goal.invariant_of-self-2
invariant_of-self-2 c =
    let b : Board = board_of c.self.inside in
    let e = c.make_room.ensures in
    let sound : IsSound b = c.self.invariant.sound in
    let body = some_body b.object c.args.place (subst (λ (x : Board). c.args.place < length x.object.operations.items) (sym c.self.view_is) c.requires.place) in
    let call : AcceptedCall = record { session = c.args.session; op = c.args.place; operation = body.0; arguments = c.args.args.now } in
    let asked = c.in_ok-asked.ensures.call body.0 (subst (λ o. slice_get (bodies o) c.args.place ≡ Some body.0) (sym c.object.ensures.same) body.1) in
    let calls : map (λ x. arc_value x) c.push_reserved-2.new.self.items ≡ b.calls ++ call ∷ [] =
    ap (map (λ x. arc_value x)) (c.push_reserved-2.ensures.items ∙ ap (λ xs. xs ++ c.in_ok-call.call ∷ []) e.calls)
    ∙ map-append (λ x. arc_value x) c.self.inside.calls.items (c.in_ok-call.call ∷ []) ∙ ap (λ x. b.calls ++ x ∷ []) (c.in_ok-call.ensures ∙ ap (λ (w : WaitingCall). w.call) asked) in
    let number : c.len.result + 1 ≡ length b.calls + 1 = omega (arith, c.len.ensures, c.self.inside.calls.ok.0, length-map c.self.inside.calls.items (λ x. arc_value x)) in
    let one : WaitingCall = record { number = length b.calls + 1; call = call } in
    let waiting : c.push.new.self ≡ b.waiting ++ one ∷ [] =
    c.push.ensures
    ∙ ap (λ (w : WaitingCall). b.waiting ++ w ∷ []) (asked ∙ ap (λ n. record { number = n; call = call }) number) in
    let made = joined_is b call _ _ _ _ _ calls waiting (events_same e.history e.marks) e.history e.running in
    let fits = c.requires.fits body.0 (subst (λ (x : Board). slice_get (bodies x.object) c.args.place ≡ Some body.0) c.self.view_is body.1) in
    let first = subst (λ (x : Board). IsFirstNamed x.object c.args.place body.0) (sym c.self.view_is) (c.requires.first body.0 (subst (λ (x : Board). slice_get (bodies x.object) c.args.place ≡ Some body.0) c.self.view_is body.1)) in
    let few : length b.calls < 65536 = subst (λ (x : Board). length x.calls < 65536) (sym c.self.view_is) c.requires.few in
    let open_few : length b.waiting + length b.running < 256 = subst (λ (x : Board). length x.waiting + length x.running < 256) (sym c.self.view_is) c.requires.open_few in
    let places : c.push_reserved.new.self.items ≡ c.self.inside.places.items ++ 0 ∷ [] = c.push_reserved.ensures.items ∙ ap (λ xs. xs ++ 0 ∷ []) e.places in
    let below : Every (λ x. x.number ≤ length c.self.inside.calls.items) b.history = subst (λ n. Every (λ x. x.number ≤ n) b.history) (length-map c.self.inside.calls.items (λ x. arc_value x)) (noted_below b sound) in
    let more : length c.push_reserved-2.new.self.items ≡ length c.self.inside.calls.items + 1 = ap length (c.push_reserved-2.ensures.items ∙ ap (λ xs. xs ++ c.in_ok-call.call ∷ []) e.calls) ∙ length-append c.self.inside.calls.items (c.in_ok-call.call ∷ []) in
    let rows = c.self.inside.index in
    let k = c.args.session - 1 in
    let row = get_or rows k [] in
    let there : slice_get rows k ≡ Some row = slice_get-get_or rows k [] (omega (arith, c.self.invariant.index.each, c.requires.session)) in
    let w = ap length waiting ∙ length-append b.waiting (one ∷ []) in
    let r = ap length e.running in
    let all = c.in_ok-make_room.ensures in
    record {
      marks = subst (λ h. Every (IsMarkIn (length h)) c.make_room.new.marks.items) (sym e.history) (subst (Every (IsMarkIn (length c.self.inside.history.items))) (sym e.marks) c.self.invariant.marks);
      places = subst (λ h. ArePlaces h (length c.push_reserved-2.new.self.items) c.push_reserved.new.self.items) (sym e.history)
          (subst (λ n. ArePlaces b.history n c.push_reserved.new.self.items) (sym more)
          (subst (ArePlaces b.history (length c.self.inside.calls.items + 1)) (sym places) (places_joined b.history (length c.self.inside.calls.items) c.self.inside.places.items c.self.invariant.places below)));
      index = subst (λ cs. AreIndexed cs c.add.new.self) (sym calls)
          (subst (AreIndexed (b.calls ++ call ∷ [])) (sym (c.in_ok-add.ensures.ok row there ∙ ap (λ n. slice_set rows k (row ++ n ∷ [])) number)) (indexed_joined b.calls call rows row c.self.invariant.index c.requires.session.0 there));
      sound = subst IsSound (sym made) (sound-joined b call sound (made_of b.object call c.requires.session body.1 first fits) few open_few (not_open b call.session (subst (λ (x : Board). is_busy x c.args.session ≡ false) (sym c.self.view_is) c.requires.free)));
      stands = subst (StandsFor c.self.inside.counters (length c.self.inside.accepted.operations.items) (paths_of b)) (sym (ap past_of made ∙ past_joined b call sound.counted)) c.self.invariant.stands;
      room = record {
        marks = omega (arith, w, r, ap length e.marks, all.marks_room, c.len-2.ensures);
        history = omega (arith, w, r, ap length e.history, all.history_room, c.len-2.ensures);
        running = omega (arith, w, r, all.running_room, c.len-2.ensures);
      };
    }

pub returns-clause-ok : goal.returns-clause-ok
returns-clause-ok c = λ operation is0.
    let b : Board = board_of c.self.inside in
    let e = c.make_room.ensures in
    let call : AcceptedCall = record { session = c.args.session; op = c.args.place; operation = operation; arguments = c.args.args.now } in
    let is : slice_get (bodies b.object) c.args.place ≡ Some operation = subst (λ (x : Board). slice_get (bodies x.object) c.args.place ≡ Some operation) (sym c.self.view_is) is0 in
    let asked = c.in_ok-asked.ensures.call operation (subst (λ o. slice_get (bodies o) c.args.place ≡ Some operation) (sym c.object.ensures.same) is) in
    let calls : map (λ x. arc_value x) c.push_reserved-2.new.self.items ≡ b.calls ++ call ∷ [] =
    ap (map (λ x. arc_value x)) (c.push_reserved-2.ensures.items ∙ ap (λ xs. xs ++ c.in_ok-call.call ∷ []) e.calls)
    ∙ map-append (λ x. arc_value x) c.self.inside.calls.items (c.in_ok-call.call ∷ []) ∙ ap (λ x. b.calls ++ x ∷ []) (c.in_ok-call.ensures ∙ ap (λ (w : WaitingCall). w.call) asked) in
    let number : c.len.result + 1 ≡ length b.calls + 1 = omega (arith, c.len.ensures, c.self.inside.calls.ok.0, length-map c.self.inside.calls.items (λ x. arc_value x)) in
    let waiting : c.push.new.self ≡ b.waiting ++ (record { number = length b.calls + 1; call = call }) ∷ [] =
    c.push.ensures
    ∙ ap (λ (w : WaitingCall). b.waiting ++ w ∷ []) (asked ∙ ap (λ n. record { number = n; call = call }) number) in
    joined_is b call _ _ _ _ _ calls waiting (events_same e.history e.marks) e.history e.running ∙ ap (λ x. joined x call) c.self.view_is
