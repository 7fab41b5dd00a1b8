-- Calls that are made or cancelled, and who waits behind them.
use Rattle.std.proofs.Common.{◌≡◌, ◌≢◌, ◌⊎◌, inl, inr, ◌∙◌, ap, sym, subst, refl, ℕ, List, [], ◌∷◌, ◌++◌}
use Rattle.std.specs.Prelude.{true, Option, Some, slice_get, slice_set}
use Rattle.std.specs.Global.{Vec}
use Rattle.std.proofs.lemmas.Option.{same_Some}
use Rattle.value_core.specs.declared.datum.Datum.{Datum}
use Rattle.decl_core.specs.declared.object.Object.{Object}
use Rattle.decl_core.specs.ObjectMap.{object_of}
use Rattle.word_core.specs.Events.{Called}
use Rattle.word_core.specs.Text.{operation_name}
use Rattle.session_text.specs.Lines.{accepted_text, cancel_name, withdrawn_text}
use Rattle.word_core.specs.Answers.{cancelled_line}
use Rattle.guest_core.specs.declared.answer.Cancelled.TheVariants as cancels_by
use Rattle.live_core.specs.declared.call.Ran.{Ran}
use Rattle.live_core.specs.declared.live.Taken.{Taken}
use Rattle.live_core.specs.Answers.{asked, IsFree}
use Rattle.live_core.specs.Hall.{Every, Told, Hall, IsHeld}
use Rattle.live_core.specs.Lines.{all_lines}
use Rattle.live_core.specs.Settles.{with_all}
use Rattle.audit_core.specs.Steps.{Step, ran}
use Rattle.live_core.specs.Calls.{Does}
use Rattle.live_core.specs.Scene.{Scene, told_of}
use Rattle.live_core.specs.HostedSteps.{Steps, does, calls, cancels}
use Rattle.client_core.specs.declared.ask.Ask.TheVariants as asks
use Rattle.client_core.specs.declared.client.OpenObject.{OpenObject}
use Rattle.client_core.specs.Asks.{Asks}
use Rattle.history_law.specs.Happens.{with_ran as behind_ran, all_happen}
use Rattle.client_core.specs.Asked.{AllEnd, LetsGo, AnswersCancel, Submits}
use Rattle.client_core.specs.Deeds.{Texts}
use Rattle.client_core.specs.Gone.{CallsFor}
use Rattle.client_core.specs.State.{Peer, State, change, counted, opening, opened_in, one_text, told_to, who_in, with_object}
use Rattle.history_law.specs.Said.{Account, AllWent}
use Rattle.history_law.proofs.Going.{ran_more, at_one, at_own, told_alike, went_one}
use Rattle.history_law.proofs.Plain.{accepted_plain, cancelled_plain, withdrawn_plain}
use Rattle.history_law.specs.Answers.{IsTold}
use Rattle.history_law.specs.Awaits.{IsElementOf, Lines, HasAsked, HasOpened, Pool, waits_in, IsOpenedBy, IsAwaited, IsSeated, AllSeated, AreAlone, AllHeld, Awaits}
use Rattle.history_law.proofs.Deeds.{Did, DidBy, IsPlain, plain_to, did_as, did_before, did_goes, did_only, did_refused}
use Rattle.history_law.proofs.Ends.{all_end, one_end, with_ran}
use Rattle.history_law.proofs.Lists.{Apart, apart_more, between_in, calls_of, changed_was, every_in, has_peer, in_behind, in_front, left_out, one_of_session, set_at, settled_in, settled_out}
use Rattle.history_law.proofs.Places.{AllStay, all_changed, all_past, all_stay, awaits_past, held_set, stay_set, waits_here, waits_others}

-- what a call does to its object: those that ran and those that are left are those that waited, and it
pub record HasDone (before after : Scene) (c : Called) (all : List Ran) : Type 0 where
  pub object : after.hall.object ≡ before.hall.object
  pub told : (n : ℕ) → told_of after n ≡ told_of before n
  pub apart : Apart (before.hall.waiting ++ c ∷ [])
  pub ran_in : (d : Called) → IsElementOf d (before.hall.waiting ++ c ∷ []) → IsElementOf d (calls_of all) ⊎ IsElementOf d after.hall.waiting
  pub ran_out : (d : Called) → IsElementOf d (calls_of all) ⊎ IsElementOf d after.hall.waiting → IsElementOf d (before.hall.waiting ++ c ∷ [])
  pub held : (t : Told) × IsHeld after.hall t
  pub free : IsFree before.hall c.session

pub has_done : (before after : Scene) (session operation : ℕ) (arguments : List Datum) (taken : Taken) → Does before session operation arguments taken after → ((t : Told) × IsHeld before.hall t) →
    HasDone before after (asked before.hall session operation arguments) taken.ran.items
has_done before after session operation arguments taken done (t, held) =
    let hall : after.hall ≡ done.mid.hall = ap (λ (s : Scene). s.hall) done.left in
    let c = asked before.hall session operation arguments in
    let all = taken.ran.items in
    let settles = done.takes.settles t held in
    record {
      object = ap (λ (h : Hall). h.object) hall ∙ done.takes.same.fixed.object;
      told = λ n. told_alike before after n (record {
        carried = ap (λ (s : Scene). s.carried) done.left ∙ done.takes.tells.carried;
        base = ap (λ (s : Scene). s.base) done.left ∙ done.takes.tells.base;
      });
      apart = apart_more before.hall.waiting c held.kept.one_each done.takes.taken.free;
      ran_in = λ d is. subst (λ (h : Hall). IsElementOf d (calls_of all) ⊎ IsElementOf d h.waiting) (sym hall)
          (settled_in _ t (before.hall.waiting ++ c ∷ []) done.mid.hall.waiting all settles.settles d is);
      ran_out = λ d is. settled_out _ t (before.hall.waiting ++ c ∷ []) done.mid.hall.waiting all settles.settles d
          (subst (λ (h : Hall). IsElementOf d (calls_of all) ⊎ IsElementOf d h.waiting) hall is);
      held = (with_all t all, subst (λ (h : Hall). IsHeld h (with_all t all)) (sym hall) (done.takes.held t held));
      free = done.takes.taken.free;
    }

-- each of these calls stands among the steps of all of them
abbrev pub Among : List Step → Ran → Type 0
Among steps r = (later : List Step) × (before : List Step) × (steps ≡ later ++ ran r.call r.reply ∷ before)

pub each_among : (all : List Ran) (steps : List Step) → Every (Among (behind_ran all steps)) all
each_among [] steps = tt
each_among (r ∷ all) steps = ((behind_ran all [], steps, ran_more all (ran r.call r.reply ∷ steps)), each_among all (ran r.call r.reply ∷ steps))

module _ (heard : Lines) where
  -- who waited waits in what is left, or its call ran
  pub stay_done : (past : Texts) (objects : List Scene) (peers : List Peer) (at : ℕ) (before after : Scene) (c : Called) (all : List Ran) → slice_get objects at ≡ Some before → HasDone before after c all →
      AllSeated heard past objects (waits_in objects) peers → AllSeated heard past (slice_set objects at after) (with_ran at all (waits_in (slice_set objects at after))) peers
  stay_done past objects peers at before after c all there done seated =
      let new = slice_set objects at after in
      let pool = with_ran at all (waits_in new) in
      let stay : AllStay objects new (waits_in objects) pool =
      stay_set objects at before after pool there done.object
      (λ d waits. (
        d,
        elim (done.ran_in d (in_front d before.hall.waiting (c ∷ []) waits)) [ inl a ↦ inl (refl, a) | inr a ↦ inr (waits_here objects at before after d there a) ],
        record { session = refl; operation = refl; arguments = refl; told = done.told d.number },
      ))
      (λ j d other waits. inr (waits_others objects at after j d other waits)) in
      all_stay heard past objects new (waits_in objects) pool peers stay seated

  -- a call of an object was made, by which all these ran: each that waits for one of them is told its end
  abbrev pub runs_did : (past first : Texts) (old start mid new : State) (at session operation : ℕ) (arguments : List Datum) (before after : Scene) (taken : Taken) → slice_get old.objects at ≡ Some before →
      Does before session operation arguments taken after → HasDone before after (asked before.hall session operation arguments) taken.ran.items → start.objects ≡ slice_set old.objects at after →
      AllHeld old.objects → AllSeated heard (past ++ first) (slice_set old.objects at after) (with_ran at taken.ran.items (waits_in (slice_set old.objects at after))) start.peers → AreAlone start.peers →
      (ended : Texts) → AllEnd at after taken.ran.items start ended [] mid → new.objects ≡ mid.objects → new.peers ≡ mid.peers → (said added : Texts) → IsPlain first → said ≡ first ++ ended →
      added ≡ (at, all_lines (object_of before.hall.object) taken.ran.items) ∷ [] → Did heard past old said added new
  runs_did past first old start mid new at session operation arguments before after taken there done facts begins held seated alone ended ends objects peers said added plain told lines =
      let items = taken.ran.items in
      let goes : Steps before (all_lines (object_of before.hall.object) items) after = does (calls session operation arguments taken done) in
      let account : Account = at_one at (all_happen goes []) in
      let made = slice_set old.objects at after in
      let T : Texts → ℕ → List ℕ → Type 0 = λ (p : Texts) (who : ℕ) (text : List ℕ). IsTold heard p old.objects account who text in
      let all = all_end heard T (Among (behind_ran items [])) at after items (past ++ first) (waits_in made) (before.hall.waiting ++ asked before.hall session operation arguments ∷ []) start mid ended []
      (ap (λ (l : List Scene). slice_get l at) begins ∙ set_at old.objects at after before there)
      (λ p who r among asked_for accepted. inl (
        told_of after r.call.number,
        r.reply,
        refl,
        record {
          run = record {
            object = at;
            scene = before;
            there = there;
            call = r.call;
            later = among.0;
            before = among.1;
            ran_so = at_own at (all_happen goes []) ∙ among.2;
            told_is = facts.told r.call.number;
          };
          asked = subst (λ (x : Object). HasAsked heard who x r.call) facts.object asked_for;
          accepted = accepted;
        },
      )) (each_among items []) facts.apart
      (λ d is. elim is [
        | inl a ↦ facts.ran_out d (inl a.1)
        | inr b ↦ facts.ran_out d (inr (subst (λ (s : Scene). IsElementOf d s.hall.waiting) (same_Some b.0 after (sym b.1 ∙ set_at old.objects at after before there)) b.2))
      ])
      (subst (λ (l : List Scene). AllSeated heard (past ++ first) l (with_ran at items (waits_in made)) start.peers) (sym begins) seated) alone ends in
      let same : new.objects ≡ made = objects ∙ all.3 ∙ begins in
      let now : Awaits heard ((past ++ first) ++ ended) made mid.peers = record {
        held = held_set old.objects at before after there held facts.held;
        alone = all.2;
        seated = subst (λ (l : List Scene). AllSeated heard ((past ++ first) ++ ended) l (waits_in made) mid.peers) begins all.1;
      } in
      did_as heard past old new said (first ++ ended) added added told refl (did_before heard past first old new ended added plain (record {
        account = account;
        went = subst (λ (x : Texts). AllWent old.objects x account new.objects) (sym lines)
            (subst (λ (l : List Scene). AllWent old.objects ((at, all_lines (object_of before.hall.object) items) ∷ []) account l) (sym same)
            (went_one old.objects at before after (all_lines (object_of before.hall.object) items) there goes));
        told = all.0;
        awaits = subst (λ (l : List Scene). Awaits heard ((past ++ first) ++ ended) l new.peers) (sym same)
            (subst (λ (ps : List Peer). Awaits heard ((past ++ first) ++ ended) made ps) (sym peers) now);
      }))

  -- what is called for one that is gone
  abbrev pub did_calls_for : (at session operation : ℕ) (arguments : List Datum) → DidBy heard (CallsFor at session operation arguments)
  did_calls_for at session operation arguments past old new said added a is =
      let made = slice_set old.objects at is.after in
      let facts = has_done is.before is.after session operation arguments is.taken is.does (a.held at is.before is.there) in
      let seated = stay_done past old.objects old.peers at is.before is.after (asked is.before.hall session operation arguments) is.taken.ran.items is.there facts a.seated in
      runs_did past [] old (with_object old at is.after) is.mid new at session operation arguments is.before is.after is.taken is.there is.does facts refl a.held
      (all_past heard past [] made (with_ran at is.taken.ran.items (waits_in made)) old.peers seated) a.alone said is.ends
      (ap (λ (s : State). s.objects) is.follows.left) (ap (λ (s : State). s.peers) is.follows.left) said added tt refl is.lines

  -- a connection makes a call
  pub record IsMade (place : ℕ) (seat : OpenObject) (object : Object) (operation : ℕ) (arguments : List Datum) (s : State) : Type 0 where
    pub who : ℕ
    pub peer : Peer
    pub there : slice_get s.peers place ≡ Some peer
    pub here : peer.who ≡ Some who
    pub by : peer.opened ≡ Some seat
    pub line : List ℕ
    pub is_heard : heard who line true
    pub key : Option ℕ
    pub values : Vec Datum
    pub asks_so : Asks true true line (asks.Call key (operation_name (object_of object) operation) values)
    pub values_are : arguments ≡ values.items

  abbrev pub did_submits : (place : ℕ) (seat : OpenObject) (operation : ℕ) (arguments : List Datum) (past : Texts) (old new : State) (said added : Texts) → Awaits heard past old.objects old.peers →
      (is : Submits place seat operation arguments old said added new) → IsMade place seat is.before.hall.object operation arguments old → Did heard past old said added new
  did_submits place seat operation arguments past old new said added a is m =
      let at = seat.object in
      let made = slice_set old.objects at is.after in
      let all = is.taken.ran.items in
      let c = asked is.before.hall seat.session operation arguments in
      let pool = with_ran at all (waits_in made) in
      let facts = has_done is.before is.after seat.session operation arguments is.taken is.does (a.held at is.before is.there) in
      let number = told_of is.after is.taken.number in
      let text = accepted_text number in
      let first = told_to old.peers place text in
      let now = counted number seat in
      let seated = all_past heard past first made pool old.peers (stay_done past old.objects old.peers at is.before is.after c all is.there facts a.seated) in
      let first_is : first ≡ (m.who, text) ∷ [] = ap (λ (w : Option ℕ). one_text w text) (ap who_in m.there ∙ m.here) in
      let owns = (seated place m.peer m.there).opened seat m.by in
      let here : owns.here ≡ m.who = same_Some owns.here m.who (sym owns.who_is ∙ m.here) in
      let scene : owns.object ≡ is.after = same_Some owns.object is.after (sym owns.there ∙ set_at old.objects at is.after is.before is.there) in
      let opens : HasOpened heard m.who is.after.hall.object =
      subst (λ n. HasOpened heard n is.after.hall.object) here (subst (λ (s : Scene). HasOpened heard owns.here s.hall.object) scene owns.asked) in
      let asks_for : HasAsked heard m.who is.after.hall.object c = record {
        opened = opens;
        line = m.line;
        is_heard = m.is_heard;
        key = m.key;
        arguments = m.values;
        asks_so = subst (λ (x : Object). Asks true true m.line (asks.Call m.key (operation_name (object_of x) operation) m.values)) (sym facts.object) m.asks_so;
        arguments_are = m.values_are;
      } in
      let waits : IsAwaited heard (past ++ first) made pool m.peer.who now = record {
        here = m.who;
        who_is = m.here;
        object = is.after;
        there = set_at old.objects at is.after is.before is.there;
        call = c;
        is_there = elim (facts.ran_in c (in_behind c is.before.hall.waiting (c ∷ []) (inl refl))) [
          | inl x ↦ inl (refl, x)
          | inr x ↦ inr (waits_here old.objects at is.before is.after c is.there x)
        ];
        session_is = refl;
        told_is = ap (told_of is.after) (sym is.does.takes.number);
        asked = asks_for;
        accepted = in_behind (m.who, text) past first (subst (λ (s : Texts). IsElementOf (m.who, text) s) (sym first_is) (inl refl));
      } in
      runs_did past first old _ is.mid new at seat.session operation arguments is.before is.after is.taken is.there is.does facts refl a.held
      (all_changed heard (past ++ first) made pool old.peers place (opening now) seated
      (λ p there.
      let p_is : p ≡ m.peer = same_Some p m.peer (sym there ∙ m.there) in
      subst (λ (x : Peer). IsSeated heard (past ++ first) made pool (opening now x)) (sym p_is) (record {
        held = (seated place m.peer m.there).held;
        opened = λ o by. subst (λ (x : OpenObject). IsOpenedBy heard made m.peer.who x) (same_Some now o by)
            (record { here = owns.here; who_is = owns.who_is; object = owns.object; there = owns.there; asked = owns.asked });
        waits = λ o by so. subst (λ (x : OpenObject). IsAwaited heard (past ++ first) made pool m.peer.who x) (same_Some now o by) waits;
      })))
      (alone number facts.free)
      is.ended is.ends (ap (λ (s : State). s.objects) is.follows.left) (ap (λ (s : State). s.peers) is.follows.left) said added
      (plain_to old.peers place text (accepted_plain number)) is.told is.lines
    where
      -- nobody else waits by its session
      nobody_else : IsFree is.before.hall seat.session → (q : ℕ) (u : OpenObject) → opened_in (slice_get old.peers q) ≡ Some u → u.waits ≡ true → u.object ≡ seat.object → u.session ≡ seat.session → ⊥
      nobody_else free q u by waits object session =
          let peer = has_peer (slice_get old.peers q) u by in
          let w = (a.seated q peer.0 peer.1).waits u peer.2 waits in
          let there = w.is_there in
          let scene : there.0 ≡ is.before = same_Some there.0 is.before (sym there.1 ∙ ap (slice_get old.objects) object ∙ is.there) in
          every_in (λ (d : Called). d.session ≢ seat.session) is.before.hall.waiting w.call free (subst (λ (s : Scene). IsElementOf w.call s.hall.waiting) scene there.2) (w.session_is ∙ session)

      -- what one has opened that waits there
      was_opened : (now : OpenObject) (q : ℕ) (o : OpenObject) → opened_in (slice_get (change old.peers place (opening now)) q) ≡ Some o →
          ((q ≡ place) × (o ≡ now)) ⊎ ((q ≢ place) × (opened_in (slice_get old.peers q) ≡ Some o))
      was_opened now q o by =
          let peer = has_peer (slice_get (change old.peers place (opening now)) q) o by in
          elim (changed_was old.peers place (opening now) q peer.0 peer.1) [
            | inl x ↦ inl (x.0, same_Some o now (sym peer.2 ∙ ap (λ (p : Peer). p.opened) x.1.2))
            | inr x ↦ inr (x.0, ap opened_in x.1 ∙ peer.2)
          ]

      alone : (n : ℕ) → IsFree is.before.hall seat.session → AreAlone (change old.peers place (opening (counted n seat)))
      alone n free q r o u by also waits waits_too object session =
          elim (was_opened (counted n seat) q o by) [
            | inl x ↦ elim (was_opened (counted n seat) r u also) [
              | inl y ↦ x.0 ∙ sym y.0
              | inr y ↦ absurd (nobody_else free r u y.1 waits_too (sym object ∙ ap (λ (z : OpenObject). z.object) x.1) (sym session ∙ ap (λ (z : OpenObject). z.session) x.1))
            ]
            | inr x ↦ elim (was_opened (counted n seat) r u also) [
              | inl y ↦ absurd (nobody_else free q o x.1 waits (object ∙ ap (λ (z : OpenObject). z.object) y.1) (session ∙ ap (λ (z : OpenObject). z.session) y.1))
              | inr y ↦ a.alone q r o u x.1 y.1 waits waits_too object session
            ]
          ]

  -- a call that waits is cancelled: who waits for it is told so
  pub did_lets_go : (at session number : ℕ) → DidBy heard (LetsGo at session number)
  did_lets_go at session number past old new said added a is =
      let made = slice_set old.objects at is.after in
      let gone = is.cancels.lets_go in
      let c = is.cancels.call in
      let behind = gone.left in
      let t = a.held at is.object is.there in
      let rest = waits_in made in
      let pool : Pool = λ j d. ((j ≡ at) × (d ≡ c)) ⊎ rest j d in
      let hall : is.after.hall.waiting ≡ behind.front ++ behind.behind = ap (λ (h : Hall). h.waiting) behind.left in
      let told : (n : ℕ) → told_of is.after n ≡ told_of is.object n = λ n. told_alike is.object is.after n (record { carried = gone.tells.carried; base = gone.tells.base }) in
      let object : is.after.hall.object ≡ is.object.hall.object = ap (λ (h : Hall). h.object) behind.left in
      let stay : AllStay old.objects made (waits_in old.objects) pool =
      stay_set old.objects at is.object is.after pool is.there object
      (λ d waits. (
        d,
        elim (left_out behind.front behind.behind c d (subst (λ (cs : List Called). IsElementOf d cs) behind.waited waits)) [
          | inl x ↦ inl (refl, sym x)
          | inr x ↦ inr (waits_here old.objects at is.object is.after d is.there (subst (λ (cs : List Called). IsElementOf d cs) (sym hall) x))
        ],
        record { session = refl; operation = refl; arguments = refl; told = told d.number },
      ))
      (λ j d other waits. inr (waits_others old.objects at is.after j d other waits)) in
      let waited : (d : Called) → pool at d → IsElementOf d is.object.hall.waiting = λ d x. subst (λ (cs : List Called). IsElementOf d cs) (sym behind.waited) (between_in behind.front behind.behind c d
      (elim x [
        | inl y ↦ inl (sym y.1)
        | inr y ↦ inr (subst (λ (cs : List Called). IsElementOf d cs) (ap (λ (s : Scene). s.hall.waiting) (same_Some y.0 is.after (sym y.1 ∙ set_at old.objects at is.after is.object is.there)) ∙ hall) y.2)
      ])) in
      let end = one_end heard past at is.after c pool rest session number (withdrawn_text number) (with_object old at is.after) new said []
      (set_at old.objects at is.after is.object is.there) gone.of (is.cancels.told_is t.0 t.1 ∙ sym (told c.number)) (λ j d x. x)
      (λ d x same. one_of_session is.object.hall.waiting d c t.1.kept.one_each (waited d x) (waited c (inl (refl, refl))) same)
      (all_stay heard past old.objects made (waits_in old.objects) pool old.peers stay a.seated) a.alone is.ends in
      let now : Awaits heard past made new.peers = record {
        held = held_set old.objects at is.object is.after is.there a.held (t.0, gone.held t.0 t.1);
        alone = end.2;
        seated = end.1;
      } in
      did_goes heard past old new said added at is.object is.after is.line is.there (does (cancels session number is.line is.cancels)) is.lines end.3
      (elim end.0 [
        | inl none ↦ subst IsPlain (sym none) tt
        | inr x ↦ subst IsPlain (sym x.1) (withdrawn_plain number, tt)
      ])
      (subst (λ (l : List Scene). Awaits heard (past ++ said) l new.peers) (sym end.3) (awaits_past heard past said made new.peers now))

  pub did_cancel : (place told : ℕ) → DidBy heard (AnswersCancel place told)
  did_cancel place told past old new said added a (inl is) =
      let text = cancelled_line told (cancel_name cancels_by.Cancelled) in
      let first = told_to old.peers place text in
      did_as heard past old new said (first ++ is.ended) added added is.told_is refl
      (did_before heard past first old new is.ended added (plain_to old.peers place text (cancelled_plain told (cancel_name cancels_by.Cancelled)))
      (did_lets_go is.opened.object is.session is.number (past ++ first) old new is.ended added (awaits_past heard past first old.objects old.peers a) is.lets_go))
  did_cancel place told past old new said added a (inr (inl is)) =
      did_only heard place (cancelled_line told (cancel_name is.answer)) (cancelled_plain told (cancel_name is.answer)) past old new said added a is.only
  did_cancel place told past old new said added a (inr (inr is)) = did_refused heard place past old new said added a is
