-- What happens to an object with its clients, and the lines that tell of it.
use Rattle.std.proofs.Common.{◌≡◌, ◌≢◌, ℕ, ◌+◌, ◌-◌, ◌<◌, ◌≤◌, inl, inr, List, [], ◌∷◌, ◌++◌, length, refl, sym, ap, ◌∙◌, subst, arith, append_assoc, append-nil}
use Rattle.std.specs.Prelude.{All, Option, Some, None, Result, Ok, Err, slice_get, if◌then◌else◌}
use Rattle.std.specs.Str.{str_to_ascii_lowercase}
use Rattle.std.proofs.lemmas.Bool.{cases_lt}
use Rattle.path_tree.specs.Identifier.{IsName}
use Rattle.path_tree.specs.Satisfies.{SatisfiesAll}
use Rattle.path_tree.proofs.Spelling.{name_lower}
use Rattle.value_core.specs.declared.datum.Datum.{Datum}
use Rattle.value_core.specs.Datum.{IsDatum}
use Rattle.decl_core.specs.ObjectForm.{ObjectForm}
use Rattle.decl_core.specs.ObjectMap.{object_of}
use Rattle.apply_core.specs.History.{IsLegal}
use Rattle.word_core.specs.Words.{line_of, words_text}
use Rattle.word_core.specs.Events.{Called, history_of}
use Rattle.live_core.specs.declared.live.Taken.{Taken}
use Rattle.live_core.specs.Answers.{asked, IsTaken}
use Rattle.live_core.specs.Hall.{Hall, Every, EachPair, Told, IsHeld, IsWaiting, IsCallOf}
use Rattle.live_core.specs.Lines.{all_lines}
use Rattle.live_core.specs.Settles.{Settles}
use Rattle.live_core.specs.Steps as hall
use Rattle.live_core.proofs.Joining.{joined_kept}
use Rattle.live_core.proofs.Listing.{every_map, every_both, every_at, every_snoc, every_without}
use Rattle.guest_core.specs.declared.guests.Entered.{Entered}
use Rattle.guest_core.specs.declared.guests.EnterFault.{EnterFault}
use Rattle.guest_core.specs.declared.seats.SeatHolder.{SeatHolder}
use Rattle.guest_core.specs.declared.seats.SeatHolder.TheVariants.{Void, Free, Nameless, Named, Retired}
use Rattle.guest_core.specs.Entering.{Enters}
use Rattle.guest_core.specs.Guests.{Guests}
use Rattle.guest_core.specs.Seats.{IsLeastFree}
use Rattle.guest_core.proofs.Items.{get_within}
use Rattle.audit_core.specs.Steps.{Step, cancelled, named, Begun, Heard, happened_of, trace_by, told_by}
use Rattle.audit_core.specs.EpochTells.{Tell, IsSession, cancel_told, name_told}
use Rattle.audit_core.specs.Sound.{IsSound}
use Rattle.recover_core.specs.Lines.{AreLines, joined}
use Rattle.live_core.specs.Calls.{Does, Cancels, IsCancelLine}
use Rattle.live_core.specs.HostedLines.{cancel_words, name_words, entered_lines}
use Rattle.live_core.specs.Scene.{Scene, with_guests}
use Rattle.live_core.specs.HostedSteps as hosted
use Rattle.history_law.specs.Named.{IsNamed}
use Rattle.history_law.specs.Stands.{IsAwaited, AreSeated, Stands}
use Rattle.history_law.specs.Happens.{with_ran, with_entered, with_cancelled, happens, all_happen}
use Rattle.history_law.specs.Told.{heard_of, AreTold, StepIsTold, StepsAreTold}
use Rattle.history_law.proofs.Saying.{cancel_written, name_written}
use Rattle.history_law.proofs.Replying.{replies_written}
use Rattle.history_law.proofs.WrittenRunning.{IsReady, Going, can_be_written, may_be_told, apart, ran_told, told_ran}
use Rattle.history_law.proofs.Seating.{seated_enters, seated_number, seated_leaves, seated_keys, seated_remembered, named_at, unnamed_by, void_named, free_named, nameless_named, retired_named, no_seat, not_0, free_void}

-- what was heard where nothing runs
rested : (heard : Heard) → heard.running ≡ None → heard_of heard.steps ≡ heard
rested heard none = ap (λ r. record { steps = heard.steps; running = r }) (sym none)

-- what an object holds is sound
held_sound : (o : ObjectForm) (e : Begun) (steps : List Step) (h : Hall) → object_of h.object ≡ o → IsHeld h (told_by e steps) → IsSound o e (heard_of steps)
held_sound o e steps h is held = record {
  satisfied = subst (λ (x : ObjectForm). SatisfiesAll x.paths (trace_by e steps)) is held.kept.stands.satisfied;
  legal = subst (λ x. IsLegal (history_of x (happened_of steps)) e.opening) is held.kept.legal;
}

module _ (o : ObjectForm) (e : Begun) where
  -- no line, and the same steps, whatever happens to the clients
  silent : (steps : List Step) (old : Scene) (guests : Guests) → Stands o e (heard_of steps) old → AreSeated guests → AreTold o e (heard_of steps) [] steps (with_guests old guests)
  silent steps old guests s seated = record {
    lines = [];
    each = tt;
    cut = refl;
    told = refl;
    sound = held_sound o e steps old.hall s.object s.held;
    stands = record {
      object = s.object;
      rests = refl;
      held = s.held;
      waiting = s.waiting;
      later = s.later;
      carried = s.carried;
      sessions = s.sessions;
      seated = seated;
    };
  }

  -- a free number is one of a session
  free_session : (v : Guests) (session : ℕ) → AreSeated v → IsLeastFree v.seats session → IsSession session
  free_session v session seated least = elim (cases_lt session 1) [
    | inl none ↦ absurd (not_0 v.seats session Free seated.nobody least.free free_void (omega (arith, none)))
    | inr some ↦ (some, omega (arith, get_within v.seats session Free least.free, seated.few))
  ]

  -- a client came whose name is new
  new_name : (steps : List Step) (old : Scene) (name : List ℕ) (session : ℕ) (guests : Guests) → IsNamed o → Stands o e (heard_of steps) old → AreSeated guests → IsSession session → IsName name →
      AreTold o e (heard_of steps) (line_of (name_words session name)) (named session name ∷ steps) (with_guests old guests)
  new_name steps old name session guests known s seated is spelled =
      let written = name_written o session name known.names (omega (arith, is.1)) spelled in
      let line = words_text (name_words session name) in
      record {
        lines = line ∷ [];
        each = (written.line, tt);
        cut = sym (append-nil (line ++ 10 ∷ []));
        told = (
          heard_of (named session (str_to_ascii_lowercase name) ∷ steps),
          name_told written.says refl is spelled.0,
          ap (λ n. heard_of (named session n ∷ steps)) (sym (name_lower name spelled.1)),
        );
        sound = held_sound o e (named session name ∷ steps) old.hall s.object s.held;
        stands = record {
          object = s.object;
          rests = refl;
          held = s.held;
          waiting = every_map (IsAwaited e steps) (IsAwaited e (named session name ∷ steps)) (λ c w. record { unused = w.unused; session = w.session; values = w.values; one = w.one }) old.hall.waiting s.waiting;
          later = s.later;
          carried = s.carried;
          sessions = s.sessions;
          seated = seated;
        };
      }

  -- a client came
  came : (steps : List Step) (old : Scene) (name : List ℕ) (now : ℕ) (a : Result Entered EnterFault) (guests : Guests) → Enters old.guests name now a guests → IsNamed o → Stands o e (heard_of steps) old → IsName name →
      AreTold o e (heard_of steps) (entered_lines name a) (with_entered name a steps) (with_guests old guests)
  came steps old name now (Ok a) guests (inl again) known s spelled =
      subst (λ b. AreTold o e (heard_of steps) (if b then line_of (name_words a.session name) else []) (if b then named a.session name ∷ steps else steps) (with_guests old guests)) (sym again.is_new)
      (silent steps old guests s (seated_enters old.guests name now (Ok a) guests (inl again) s.seated))
  came steps old name now (Ok a) guests (inr fresh) known s spelled =
      subst (λ b. AreTold o e (heard_of steps) (if b then line_of (name_words a.session name) else []) (if b then named a.session name ∷ steps else steps) (with_guests old guests)) (sym fresh.is_new)
      (new_name steps old name a.session guests known s (seated_enters old.guests name now (Ok a) guests (inr fresh) s.seated) (free_session old.guests a.session s.seated fresh.free) spelled)
  came steps old name now (Err fault) guests enters known s spelled =
      silent steps old guests s (seated_enters old.guests name now (Err fault) guests enters s.seated)

  -- a session of an object
  asked_session : (h : Hall) (c : Called) → IsTaken h c → h.sessions ≤ 65535 → IsSession c.session
  asked_session h c taken few = elim (cases_lt c.session 1) [
    | inl none ↦ absurd (taken.here (inl (omega (arith, none))))
    | inr some ↦ elim (cases_lt h.sessions c.session) [ inl gone ↦ absurd (taken.here (inr gone)) | inr here ↦ (some, omega (arith, here, few)) ]
  ]

  -- a call that is taken waits with the others
  joined_going : (steps : List Step) (old : Scene) (session operation : ℕ) (arguments : List Datum) → Stands o e (heard_of steps) old → IsTaken old.hall (asked old.hall session operation arguments) → All IsDatum arguments →
      Going o e (old.hall.given + 1) steps (old.hall.waiting ++ asked old.hall session operation arguments ∷ [])
  joined_going steps old session operation arguments s taken values =
      let h = old.hall in
      let c = asked h session operation arguments in
      let j = hall.joined h c in
      let kept = joined_kept h (told_by e steps) c s.held.kept taken.call refl taken.numbers taken.free in
      let own : IsAwaited e steps c = record {
        unused = s.later c.number (omega arith);
        session = asked_session h c taken s.sessions;
        values = values;
        one = λ d there. absurd (omega (arith, get_within e.carried (h.given + 1 - 1) d there, s.carried));
      } in
      record {
        ready = every_both (IsWaiting j (told_by e steps)) (IsAwaited e steps) (IsReady o e (h.given + 1) steps)
            (λ d w a. record { awaited = a; of = subst (λ x. IsCallOf x d) s.object w.of; number = w.number }) j.waiting kept.waits
            (every_snoc (IsAwaited e steps) h.waiting c s.waiting own);
        in_order = kept.in_order;
        later = λ number more. s.later number (omega (arith, more));
        counted = omega (arith, kept.counted, kept.few);
        few = omega (arith, kept.few);
      }

  -- a call was taken, and these ran
  took : (steps : List Step) (old : Scene) (session operation : ℕ) (arguments : List Datum) (a : Taken) (new : Scene) → Does old session operation arguments a new → IsNamed o → Stands o e (heard_of steps) old →
      AreTold o e (heard_of steps) (all_lines (object_of old.hall.object) a.ran.items) (with_ran a.ran.items steps) new
  took steps old session operation arguments a new does known s =
      let h = old.hall in
      let c = asked h session operation arguments in
      let j = hall.joined h c in
      let mid = does.mid in
      let takes = does.takes in
      let all = a.ran.items in
      let t = told_by e steps in
      let after = with_ran all steps in
      let ran = (takes.settles t s.held).settles in
      let replies = replies_written h.object t j.waiting mid.hall.waiting all ran does.replies in
      let settles : Settles o t j.waiting all mid.hall.waiting = subst (λ x. Settles x t j.waiting all mid.hall.waiting) s.object ran in
      let lines = ran_told o e (h.given + 1) t j.waiting mid.hall.waiting all steps known settles (joined_going steps old session operation arguments s takes.taken does.values) replies in
      let object : object_of mid.hall.object ≡ o = ap object_of takes.same.fixed.object ∙ s.object in
      let held : IsHeld mid.hall (told_by e after) = subst (IsHeld mid.hall) (sym (told_ran e all steps)) (takes.held t s.held) in
      let given : mid.hall.given ≡ h.given + 1 = takes.same.given in
      let sessions : mid.hall.sessions ≡ h.sessions = takes.same.fixed.sessions in
      let seated : AreSeated new.guests = seated_remembered mid mid.guests all new.guests does.remembered (seated_keys old.guests session _ mid.guests takes.asked_by s.seated) in
      subst (λ x. AreTold o e (heard_of steps) (all_lines (object_of h.object) all) after x) (sym does.left) (record {
        lines = lines.lines;
        each = lines.each;
        cut = ap (λ x. all_lines x all) s.object ∙ lines.cut;
        told = lines.told;
        sound = held_sound o e after mid.hall object held;
        stands = record {
          object = object;
          rests = refl;
          held = held;
          waiting = every_map (IsReady o e (h.given + 1) after) (IsAwaited e after) (λ d r. r.awaited) mid.hall.waiting lines.going.ready;
          later = λ number more. lines.going.later number (omega (arith, more, given));
          carried = omega (arith, s.carried, given);
          sessions = omega (arith, s.sessions, sessions);
          seated = seated;
        };
      })

  -- a call that waits is ready
  waiting_ready : (steps : List Step) (old : Scene) → Stands o e (heard_of steps) old → Every (IsReady o e old.hall.given steps) old.hall.waiting
  waiting_ready steps old s =
      every_both (IsWaiting old.hall (told_by e steps)) (IsAwaited e steps) (IsReady o e old.hall.given steps)
      (λ d w a. record { awaited = a; of = subst (λ x. IsCallOf x d) s.object w.of; number = w.number }) old.hall.waiting s.held.kept.waits s.waiting

  module _ (steps : List Step) (old new : Scene) (session told : ℕ) (text : List ℕ) (gone : Cancels old session told [] text new) (known : IsNamed o) (s : Stands o e (heard_of steps) old) where
    abbrev t : Told
    t = told_by e steps

    abbrev call : Called
    call = gone.call

    left : hall.Leaves old.hall call new.hall
    left = gone.lets_go.left

    abbrev front : List Called
    front = left.front

    abbrev behind : List Called
    behind = left.behind

    now_waits : new.hall.waiting ≡ front ++ behind
    now_waits = ap (λ (h : Hall). h.waiting) left.left

    object : object_of new.hall.object ≡ o
    object = ap (λ (h : Hall). object_of h.object) left.left ∙ s.object

    ready : Every (IsReady o e old.hall.given steps) (front ++ call ∷ behind)
    ready = subst (Every (IsReady o e old.hall.given steps)) left.waited (waiting_ready steps old s)

    others : Every (λ (d : Called). call.number ≢ d.number) (front ++ behind)
    others = apart front behind call (subst (EachPair (λ (x y : Called). x.number < y.number)) left.waited s.held.kept.in_order)

    still : Every (IsAwaited e steps) (front ++ behind)
    still = every_without (IsAwaited e steps) front behind call (subst (Every (IsAwaited e steps)) left.waited s.waiting)

    seated : AreSeated new.guests
    seated = seated_keys old.guests session _ new.guests gone.lets_go.remembers s.seated

    few : old.hall.given ≤ 65536
    few = omega (arith, s.held.kept.few)

    line_is : IsCancelLine old session call gone.lines
    line_is = gone.line t s.held

    -- a call was cancelled of a session that has a name
    told_cancel : gone.lines ≡ line_of (cancel_words (object_of old.hall.object) call) → AreTold o e (heard_of steps) text (cancelled call ∷ steps) new
    told_cancel is =
        let here = every_at (IsReady o e old.hall.given steps) front behind call ready in
        let written = cancel_written o call known.names (can_be_written o e old.hall.given steps call few here) in
        let line = words_text (cancel_words o call) in
        record {
          lines = line ∷ [];
          each = (written.line, tt);
          cut = gone.added ∙ is ∙ ap (λ x. line_of (cancel_words x call)) s.object ∙ sym (append-nil (line ++ 10 ∷ []));
          told = (heard_of (cancelled call ∷ steps), cancel_told written.says (may_be_told o e old.hall.given steps call known few here), refl);
          sound = held_sound o e (cancelled call ∷ steps) new.hall object (gone.lets_go.held t s.held);
          stands = record {
            object = object;
            rests = refl;
            held = gone.lets_go.held t s.held;
            waiting = subst (Every (IsAwaited e (cancelled call ∷ steps))) (sym now_waits)
                (every_both (IsAwaited e steps) (λ (d : Called). call.number ≢ d.number) (IsAwaited e (cancelled call ∷ steps))
                (λ d w other. record { unused = (other, w.unused); session = w.session; values = w.values; one = w.one }) (front ++ behind) still others);
            later = λ number more.
                let over : old.hall.given < number = subst (λ (h : Hall). h.given < number) left.left more in
                ((λ same. absurd (omega (arith, same, over, here.number.1))), s.later number over);
            carried = subst (λ (h : Hall). length e.carried ≤ h.given) (sym left.left) s.carried;
            sessions = subst (λ (h : Hall). h.sessions ≤ 65535) (sym left.left) s.sessions;
            seated = seated;
          };
        }

    -- a call was cancelled of a session that has no name
    untold_cancel : gone.lines ≡ [] → AreTold o e (heard_of steps) text steps new
    untold_cancel is = record {
      lines = [];
      each = tt;
      cut = gone.added ∙ is;
      told = refl;
      sound = held_sound o e steps new.hall object (gone.lets_go.held t s.held);
      stands = record {
        object = object;
        rests = refl;
        held = gone.lets_go.held t s.held;
        waiting = subst (Every (IsAwaited e steps)) (sym now_waits) still;
        later = λ number more. s.later number (subst (λ (h : Hall). h.given < number) left.left more);
        carried = subst (λ (h : Hall). length e.carried ≤ h.given) (sym left.left) s.carried;
        sessions = subst (λ (h : Hall). h.sessions ≤ 65535) (sym left.left) s.sessions;
        seated = seated;
      };
    }

    by_seat : (seat : Option SeatHolder) → slice_get old.guests.seats session ≡ seat → AreTold o e (heard_of steps) text (with_cancelled seat call steps) new
    by_seat (Some (Named p)) is = let h = named_at old.guests session p s.seated.sound is in told_cancel (line_is.named p h.0 h.1)
    by_seat (Some Void) is = untold_cancel (line_is.nameless (unnamed_by old.guests session Void is void_named))
    by_seat (Some Free) is = untold_cancel (line_is.nameless (unnamed_by old.guests session Free is free_named))
    by_seat (Some Nameless) is = untold_cancel (line_is.nameless (unnamed_by old.guests session Nameless is nameless_named))
    by_seat (Some Retired) is = untold_cancel (line_is.nameless (unnamed_by old.guests session Retired is retired_named))
    by_seat None is = untold_cancel (line_is.nameless (λ p same. no_seat (Named p) (sym is ∙ same)))

    was_cancelled : AreTold o e (heard_of steps) text (with_cancelled (slice_get old.guests.seats session) call steps) new
    was_cancelled = by_seat (slice_get old.guests.seats session) refl

  -- one thing that happens, behind these steps
  one_told : (steps : List Step) (old new : Scene) (text : List ℕ) (step : hosted.Step old text new) → IsNamed o → Stands o e (heard_of steps) old → AreTold o e (heard_of steps) text (happens step steps) new
  one_told steps old new text (hosted.comes name now a guests is_name enters) known s = came steps old name now a guests enters known s is_name
  one_told steps old new text (hosted.gets_number session least) known s = silent steps old _ s (seated_number old.guests session least s.seated)
  one_told steps old new text (hosted.leaves session now was_here guests leaves) known s = silent steps old guests s (seated_leaves old.guests session now was_here guests leaves s.seated)
  one_told steps old new text (hosted.calls session operation arguments a does) known s = took steps old session operation arguments a new does known s
  one_told steps old new text (hosted.cancels session told lines gone) known s = was_cancelled steps old new session told text gone known s

  -- where nothing runs
  at_rest : (heard : Heard) (s : Scene) → Stands o e heard s → Stands o e (heard_of heard.steps) s
  at_rest heard s stands = record {
    object = stands.object;
    rests = refl;
    held = stands.held;
    waiting = stands.waiting;
    later = stands.later;
    carried = stands.carried;
    sessions = stands.sessions;
    seated = stands.seated;
  }

  -- more lines behind others

  each_more : (xs ys : List (List ℕ)) → AreLines xs → AreLines ys → AreLines (xs ++ ys)
  each_more [] ys first more = more
  each_more (x ∷ xs) ys first more = (first.0, each_more xs ys first.1 more)

  joined_more : (xs ys : List (List ℕ)) → joined (xs ++ ys) ≡ joined xs ++ joined ys
  joined_more [] ys = refl
  joined_more (x ∷ xs) ys = ap (λ t. (x ++ 10 ∷ []) ++ t) (joined_more xs ys) ∙ sym (append_assoc (x ++ 10 ∷ []) (joined xs) (joined ys))

  tell_more : (first mid after : Heard) (xs ys : List (List ℕ)) → Tell o e first xs mid → Tell o e mid ys after → Tell o e first (xs ++ ys) after
  tell_more first mid after [] ys same told = subst (λ h. Tell o e h ys after) same told
  tell_more first mid after (x ∷ xs) ys told more = (told.0, told.1, tell_more told.0 mid after xs ys told.2 more)

  both_told : (heard : Heard) (text added : List ℕ) (first all : List Step) (mid new : Scene) → AreTold o e heard text first mid → AreTold o e (heard_of first) added all new → AreTold o e heard (text ++ added) all new
  both_told heard text added first all mid new a b = record {
    lines = a.lines ++ b.lines;
    each = each_more a.lines b.lines a.each b.each;
    cut = ap (λ x. x ++ added) a.cut ∙ ap (λ x. joined a.lines ++ x) b.cut ∙ sym (joined_more a.lines b.lines);
    told = tell_more heard (heard_of first) (heard_of all) a.lines b.lines a.told b.told;
    sound = b.sound;
    stands = b.stands;
  }

pub step_is_told : StepIsTold
step_is_told o e heard old new text step known s =
    subst (λ h. AreTold o e h text (happens step heard.steps) new) (rested heard s.rests) (one_told o e heard.steps old new text step known (at_rest o e heard old s))

pub steps_are_told : StepsAreTold
steps_are_told o e heard old new text hosted.rests known s =
    subst (λ h. AreTold o e h [] heard.steps old) (rested heard s.rests) (silent o e heard.steps old old.guests (at_rest o e heard old s) s.seated)
steps_are_told o e heard old new text (hosted.does step) known s = step_is_told o e heard old new text step known s
steps_are_told o e heard old new text (hosted.goes_on {mid = mid} {lines = first} {added = added} all more) known s =
    let a = steps_are_told o e heard old mid first all known s in
    let b = steps_are_told o e (heard_of (all_happen all heard.steps)) mid new added more known a.stands in
    both_told o e heard first added (all_happen all heard.steps) (all_happen more (all_happen all heard.steps)) mid new a b
