-- Calls that are made or cancelled, in the talks of all.
use Rattle.std.proofs.Common.{◌≡◌, ◌≢◌, ◌⊎◌, inl, inr, ◌∙◌, ap, sym, subst, refl, ℕ, List, [], ◌∷◌, ◌++◌}
use Rattle.std.specs.Prelude.{Bool, true, false, ◌==◌, ◌%◌, if◌then◌else◌, Some, slice_get, slice_set}
use Rattle.std.proofs.lemmas.List.{append-nil}
use Rattle.std.proofs.lemmas.Option.{same_Some}
use Rattle.value_core.specs.declared.datum.Datum.{Datum}
use Rattle.apply_core.specs.History.{End}
use Rattle.decl_core.specs.ObjectForm.{ObjectForm}
use Rattle.decl_core.specs.ObjectMap.{object_of}
use Rattle.decl_core.specs.declared.object.Object.{Object}
use Rattle.word_core.specs.Events.{Called, history_of}
use Rattle.word_core.specs.Text.{operation_name}
use Rattle.word_core.specs.Answers.{cancelled_line}
use Rattle.guest_core.specs.declared.answer.Cancelled.TheVariants as cancels_by
use Rattle.session_text.specs.Lines.{cancel_name, withdrawn_text}
use Rattle.live_core.specs.declared.call.Ran.{Ran}
use Rattle.live_core.specs.Answers.{asked}
use Rattle.live_core.specs.Hall.{Hall}
use Rattle.live_core.specs.Lines.{all_lines}
use Rattle.audit_core.specs.Steps.{happened_of}
use Rattle.live_core.specs.Scene.{Scene}
use Rattle.client_core.specs.declared.client.OpenObject.{OpenObject}
use Rattle.history_law.specs.Happens.{with_ran as behind_ran}
use Rattle.keep_loop.specs.declared.served.LineEnd.{LineEnd}
use Rattle.client_core.specs.Asked as told
use Rattle.client_core.specs.Refusals.{refusal_text}
use Rattle.client_core.specs.Asked.{AllEnd, LetsGo, Submits}
use Rattle.client_core.specs.Deeds.{Texts, OnlyTold}
use Rattle.client_core.specs.Gone.{CallsFor}
use Rattle.client_core.specs.State.{Peer, State, told_to, who_at, with_object}
use Rattle.history_law.proofs.Going.{at_one}
use Rattle.history_law.proofs.Plain.{cancelled_plain, hinted_plain, refusal_of}
use Rattle.history_law.specs.Said.{Account, SaysNoReply}
use Rattle.history_law.specs.Awaits.{IsElementOf, Lines, Pool, waits_in, Awaits}
use Rattle.history_law.proofs.Deeds.{Did}
use Rattle.history_law.proofs.Ends.{with_ran}
use Rattle.history_law.proofs.Lists.{between_in, every_in, left_out, set_at, set_was}
use Rattle.history_law.proofs.Making.{HasDone, did_calls_for, has_done}
use Rattle.history_law.specs.Dealt.{is_for}
use Rattle.history_law.specs.TurnStands.{Stands, StandsIn, Wants, ends_by}
use Rattle.history_law.specs.Talk.{AnswersCancel, Part, Talk, Wanted, IsNoEnd, IsWanted, texts_to}
use Rattle.history_law.specs.Talk.Part.{Withdraws}
use Rattle.history_law.proofs.Ending.{all_voice, at_dealt, deal_all, deal_at, deal_where, one_voice, ran_at, told_whom}
use Rattle.history_law.proofs.OrderLists.{WantedMoves, ran_ends, ran_history, told_other}
use Rattle.history_law.proofs.OrderStanding.{same_moves, same_set, stands_map, wants_set}
use Rattle.history_law.proofs.Voicing.{IsClose, IsDealOf, IsSo, Spoke, SpokeBy, Voice, ends_told, no_ends, close_so, voiced_both, voiced_map, voiced_none, voiced_so}

-- what went along two equations is what it was
pub coe_twice : (account : Account) → coe 0 1 (_. Account) (coe 0 1 (_. Account) account) ≡ account
coe_twice account = λ j. coe j 1 (_. Account) (coe j 1 (_. Account) account)

-- what is wanted of objects of which one has gone on was wanted of what they were
pub moves_set : (objects : List Scene) (at : ℕ) (before after : Scene) → slice_get objects at ≡ Some before → after.hall.object ≡ before.hall.object → WantedMoves (slice_set objects at after) objects
moves_set objects at before after there object j w call is = by (set_was objects at j after is.scene before there is.there)
  where
    by : ((at ≡ j) × (is.scene ≡ after)) ⊎ ((at ≢ j) × (slice_get objects j ≡ Some is.scene)) → IsWanted objects j w call
    by (inl (same, now)) = record {
      scene = before;
      there = ap (slice_get objects) (sym same) ∙ there;
      named = ap (λ (x : Object). operation_name (object_of x) call.operation) (sym object ∙ ap (λ (s : Scene). s.hall.object) (sym now)) ∙ is.named;
      arguments_are = is.arguments_are;
    }
    by (inr (other, was)) = record { scene = is.scene; there = was; named = is.named; arguments_are = is.arguments_are }

one_objects : (at session number : ℕ) (text : List ℕ) (old new : State) (said added : Texts) → told.Ends at session number text old said added new → new.objects ≡ old.objects
one_objects at session number text old new said added (inl (place, e)) = ap (λ (s : State). s.objects) e.left
one_objects at session number text old new said added (inr (nobody, n)) = ap (λ (s : State). s.objects) n.left

all_objects : (at : ℕ) (object : Scene) (all : List Ran) (old new : State) (said added : Texts) → AllEnd at object all old said added new → new.objects ≡ old.objects
all_objects at object [] old new said added is = ap (λ (s : State). s.objects) is.left
all_objects at object (r ∷ all) old new said added (mid, first, rest, told, one, more) =
    all_objects at object all mid new rest added more ∙ one_objects at _ _ _ old mid first [] one

-- what happened at one object
pub at_ends : (at : ℕ) (all : List Ran) (o : ObjectForm) (j : ℕ) → ran_at at all o j ≡ ends_by (at_one at (behind_ran all [])) o j
at_ends at all o j = by (at == j)
  where
    by : (b : Bool) → (if b then ran_ends o all else []) ≡ history_of o (happened_of (if b then behind_ran all [] else []))
    by true = sym (ran_history o all)
    by false = refl

module _ (objects : List Scene) (at : ℕ) (before after : Scene) (c : Called) (all : List Ran) (there : slice_get objects at ≡ Some before) (facts : HasDone before after c all) where
  abbrev made : List Scene
  made = slice_set objects at after

  abbrev pool : Pool
  pool = with_ran at all (waits_in (slice_set objects at after))

  -- a call that ran, or is left, waited, or was made
  pool_out : (j : ℕ) (d : Called) → pool j d → ((at ≡ j) × ((c ≡ d) ⊎ IsElementOf d before.hall.waiting)) ⊎ ((at ≢ j) × waits_in objects j d)
  pool_out j d (inl (here, ran)) = inl (sym here, split (facts.ran_out d (inl ran)))
    where
      split : IsElementOf d (before.hall.waiting ++ c ∷ []) → (c ≡ d) ⊎ IsElementOf d before.hall.waiting
      split is = elim (left_out before.hall.waiting [] c d is) [ inl x ↦ inl x | inr x ↦ inr (subst (λ (l : List Called). IsElementOf d l) (append-nil before.hall.waiting) x) ]
  pool_out j d (inr (scene, here, waits)) = by (set_was objects at j after scene before there here)
    where
      split : IsElementOf d (before.hall.waiting ++ c ∷ []) → (c ≡ d) ⊎ IsElementOf d before.hall.waiting
      split is = elim (left_out before.hall.waiting [] c d is) [ inl x ↦ inl x | inr x ↦ inr (subst (λ (l : List Called). IsElementOf d l) (append-nil before.hall.waiting) x) ]

      by : ((at ≡ j) × (scene ≡ after)) ⊎ ((at ≢ j) × (slice_get objects j ≡ Some scene)) → ((at ≡ j) × ((c ≡ d) ⊎ IsElementOf d before.hall.waiting)) ⊎ ((at ≢ j) × waits_in objects j d)
      by (inl (same, is)) = inl (same, split (facts.ran_out d (inr (subst (λ (s : Scene). IsElementOf d s.hall.waiting) is waits))))
      by (inr (other, was)) = inr (other, (scene, was, waits))

  -- who waited waits so
  pub stands_made : (heard : Lines) (past : Texts) (peers : List Peer) (n k : ℕ) (t : Talk) → Awaits heard past objects peers → Stands n k objects (waits_in objects) peers t → Stands n k made pool peers t
  stands_made heard past peers n k t a s =
      stands_map n k objects made (waits_in objects) pool peers t
      (λ p o w here by waits wants d is session.
      let mine = (a.seated (n % k) p here).waits o by waits in
      let moves = same_moves objects made (same_set objects at before after there facts.object) in
      moves o.object w d (elim (pool_out o.object d is) [
        | inl x ↦ elim x.1 [
          | inl new ↦ absurd (
              let was = mine.is_there in
              let scene : was.0 ≡ before = same_Some was.0 before (sym was.1 ∙ ap (slice_get objects) (sym x.0) ∙ there) in
              every_in (λ (e : Called). e.session ≢ c.session) before.hall.waiting mine.call facts.free (subst (λ (z : Scene). IsElementOf mine.call z.hall.waiting) scene was.2)
              (mine.session_is ∙ sym session ∙ ap (λ (e : Called). e.session) (sym new)))
          | inr was ↦ wants d (before, ap (slice_get objects) (sym x.0) ∙ there, was) session
        ]
        | inr y ↦ wants d y.1 session
      ])) s

  -- the call that is made is the one that is wanted
  pub wants_made : (o : OpenObject) (w : Wanted) → o.object ≡ at → o.session ≡ c.session → operation_name (object_of before.hall.object) c.operation ≡ w.name → c.arguments ≡ w.arguments.items → Wants made pool o w
  wants_made o w here of named arguments d is session =
      elim (pool_out o.object d is) [
        | inl x ↦ elim x.1 [
          | inl new ↦ subst (λ (e : Called). IsWanted made o.object w e) new (record {
            scene = after;
            there = ap (slice_get made) here ∙ set_at objects at after before there;
            named = ap (λ (y : Object). operation_name (object_of y) c.operation) facts.object ∙ named;
            arguments_are = arguments;
          })
          | inr was ↦ absurd (every_in (λ (e : Called). e.session ≢ c.session) before.hall.waiting d facts.free was (session ∙ of))
        ]
        | inr y ↦ absurd (y.0 (sym here))
      ]

  -- all that ran have ended
  pub runs_voice : (heard : Lines) (come : Bool) (account : Account) (n k : ℕ) (start mid new : State) (t : Talk) (ended : Texts) → Stands n k made pool start.peers t → start.objects ≡ made → (is : AllEnd at after all start ended [] mid) →
      new.objects ≡ mid.objects → new.peers ≡ mid.peers → Voice n (IsSo heard n come objects account) (ends_told n (deal_at at (deal_all at after all start mid ended [] is))) ended (StandsIn n k new) t []
  runs_voice heard come account n k start mid new t ended s begins ends same peers =
      let deal = deal_at at (deal_all at after all start mid ended [] ends) in
      voiced_so n (IsClose made) (IsSo heard n come objects account) (ends_told n deal) ended (StandsIn n k new) t [] (close_so heard n come made objects account (moves_set objects at before after there facts.object))
      (voiced_map n (IsClose made) (ends_told n deal) (ends_told n deal) ended ended (λ (now : Talk). Stands n k made pool mid.peers now) (StandsIn n k new) t [] (λ o j. refl) refl
      (λ now is.
      subst (λ (l : List Scene). Stands n k l (waits_in l) new.peers now) (sym (same ∙ all_objects at after all start mid ended [] ends ∙ begins))
      (subst (λ (ps : List Peer). Stands n k made (waits_in made) ps now) (sym peers)
      (stands_map n k made made pool (waits_in made) mid.peers now (λ p o w here by waits wants d is_left session. wants d (inr is_left) session) is)))
      (all_voice n k at after all made pool start mid ended [] t (λ d is. inl (refl, is)) s ends))

-- these are the calls that ran, where this happened at one object
pub runs_deal : (at : ℕ) (object : Scene) (all : List Ran) (account : Account) (old new : State) (said added : Texts) (is : AllEnd at object all old said added new) → account ≡ at_one at (behind_ran all []) →
    IsDealOf account (deal_at at (deal_all at object all old new said added is))
runs_deal at object all account old new said added is same o j =
    at_dealt at object all old new said added is o j ∙ at_ends at all o j ∙ ap (λ (x : Account). ends_by x o j) (sym same)

-- what is called for one that is gone
module _ (heard : Lines) where
  -- and each call that ended did so at this object
  pub calls_for_where : (at session operation : ℕ) (arguments : List Datum) (past : Texts) (old new : State) (said added : Texts) → Awaits heard past old.objects old.peers → CallsFor at session operation arguments old said added new →
      (d : Spoke heard past old said added new) × ((c : ℕ) (o : ObjectForm) (j : ℕ) → (ends_told c d.deal o j ≡ []) ⊎ (at ≡ j))
  calls_for_where at session operation arguments past old new said added a is =
      subst (λ (x : Texts). (d : Spoke heard past old said x new) × ((c : ℕ) (o : ObjectForm) (j : ℕ) → (ends_told c d.deal o j ≡ []) ⊎ (at ≡ j))) (sym is.lines) (
        record {
          did = d;
          deal = deal_at at (deal_all at is.after is.taken.ran.items (with_object old at is.after) is.mid said [] is.ends);
          dealt = runs_deal at is.after is.taken.ran.items d.account (with_object old at is.after) is.mid said [] is.ends account_is;
          voice = λ c n t s. voice c n t s;
        },
        λ c o j. deal_where c at (deal_all at is.after is.taken.ran.items (with_object old at is.after) is.mid said [] is.ends) o j,
      )
    where
      lit : CallsFor at session operation arguments old said ((at, all_lines (object_of is.before.hall.object) is.taken.ran.items) ∷ []) new
      lit = record {
        apart = is.apart;
        before = is.before;
        there = is.there;
        known = is.known;
        custody = is.custody;
        has = is.has;
        owed = is.owed;
        taken = is.taken;
        after = is.after;
        does = is.does;
        lines = refl;
        mid = is.mid;
        ends = is.ends;
        follows = is.follows;
      }

      d : Did heard past old said ((at, all_lines (object_of is.before.hall.object) is.taken.ran.items) ∷ []) new
      d = did_calls_for heard at session operation arguments past old new said ((at, all_lines (object_of is.before.hall.object) is.taken.ran.items) ∷ []) a lit

      account_is : d.account ≡ at_one at (behind_ran is.taken.ran.items [])
      account_is = coe_twice (at_one at (behind_ran is.taken.ran.items []))

      voice : (c n : ℕ) (t : Talk) → StandsIn c n old t → Voice c (IsSo heard c false old.objects d.account) (ends_told c (deal_at at (deal_all at is.after is.taken.ran.items (with_object old at is.after) is.mid said [] is.ends))) said (StandsIn c n new) t []
      voice c n t s =
          let call = asked is.before.hall session operation arguments in
          let all = is.taken.ran.items in
          let facts = has_done is.before is.after session operation arguments is.taken is.does (a.held at is.before is.there) in
          runs_voice old.objects at is.before is.after call all is.there facts heard false d.account c n (with_object old at is.after) is.mid new t said
          (stands_made old.objects at is.before is.after call all is.there facts heard past old.peers c n t a s) refl is.ends
          (ap (λ (x : State). x.objects) is.follows.left) (ap (λ (x : State). x.peers) is.follows.left)

  pub spoke_calls_for : (at session operation : ℕ) (arguments : List Datum) → SpokeBy heard (CallsFor at session operation arguments)
  spoke_calls_for at session operation arguments past old new said added a is = (calls_for_where at session operation arguments past old new said added a is).0

-- a text that is told at a place, in a talk
abbrev pub Lead : ℕ → ℕ → ℕ → State → (Part → Type 0) → Talk → List (List ℕ × LineEnd) → (List ℕ → Type 0) → Type 0
Lead c n place old Is t lines ok = (text : List ℕ) → ok text → IsNoEnd text → Voice c Is no_ends (told_to old.peers place text) (StandsIn c n old) t lines

pub plain_end : (text : List ℕ) → SaysNoReply text → IsNoEnd text
plain_end text is n reply same = (is n reply).0 same

pub voiced_none_more : (c : ℕ) (Is : Part → Type 0) (said shown : Texts) (stands_so also : Talk → Type 0) (t : Talk) (lines : List (List ℕ × LineEnd)) → texts_to c said ≡ texts_to c shown →
    ((now : Talk) → stands_so now → also now) → Voice c Is no_ends said stands_so t lines → Voice c Is no_ends shown also t lines
voiced_none_more c Is said shown stands_so also t lines alike f v = voiced_map c Is no_ends no_ends said shown stands_so also t lines (λ o j. refl) alike f v

pub only_voice : (c n place : ℕ) (text : List ℕ) (Is : Part → Type 0) (old new : State) (said added : Texts) (t : Talk) (lines : List (List ℕ × LineEnd)) (ok : List ℕ → Type 0) → Lead c n place old Is t lines ok → ok text → IsNoEnd text →
    OnlyTold place text old said added new → Voice c Is no_ends said (StandsIn c n new) t lines
only_voice c n place text Is old new said added t lines ok lead is plain only =
    voiced_none_more c Is (told_to old.peers place text) said (StandsIn c n old) (StandsIn c n new) t lines (ap (texts_to c) (sym only.told))
    (λ now stands. subst (λ (s : State). StandsIn c n s now) (sym only.left) stands) (lead text is plain)

-- nobody else is told
pub lead_other : (c n place : ℕ) (old : State) (Is : Part → Type 0) (t : Talk) (ok : List ℕ → Type 0) → (who_at old place ≡ Some c → ⊥) → StandsIn c n old t → Lead c n place old Is t [] ok
lead_other c n place old Is t ok other s text is plain = voiced_none c Is (told_to old.peers place text) (StandsIn c n old) t (told_other c old.peers place text other) s

-- a call that waits is cancelled, in each talk
pub lets_voice : (heard : Lines) (past : Texts) (c n at session number : ℕ) (come : Bool) (account : Account) (old new : State) (said added : Texts) (t : Talk) → Awaits heard past old.objects old.peers → LetsGo at session number old said added new →
    StandsIn c n old t → Voice c (IsSo heard c come old.objects account) no_ends said (StandsIn c n new) t []
lets_voice heard past c n at session number come account old new said added t a is s =
    let made_now = slice_set old.objects at is.after in
    let gone = is.cancels.lets_go in
    let behind = gone.left in
    let object : is.after.hall.object ≡ is.object.hall.object = ap (λ (h : Hall). h.object) behind.left in
    let hall : is.after.hall.waiting ≡ behind.front ++ behind.behind = ap (λ (h : Hall). h.waiting) behind.left in
    let fewer : (d : Called) → IsElementOf d is.after.hall.waiting → IsElementOf d is.object.hall.waiting = λ d waits. subst (λ (cs : List Called). IsElementOf d cs) (sym behind.waited)
    (between_in behind.front behind.behind is.cancels.call d (inr (subst (λ (cs : List Called). IsElementOf d cs) hall waits))) in
    let stands : Stands c n made_now (waits_in made_now) old.peers t =
    stands_map c n old.objects made_now (waits_in old.objects) (waits_in made_now) old.peers t
    (λ p o w here by waits wants. wants_set old.objects at is.object is.after o w is.there object fewer wants) s in
    voiced_so c (IsClose made_now) (IsSo heard c come old.objects account) no_ends said (StandsIn c n new) t [] (close_so heard c come made_now old.objects account (moves_set old.objects at is.object is.after is.there object))
    (voiced_map c (IsClose made_now) _ no_ends said said (λ (now : Talk). Stands c n made_now (waits_in made_now) new.peers now) (StandsIn c n new) t []
    (λ o j. neither (is_for c (told_whom at session number (withdrawn_text number) (with_object old at is.after) new said [] is.ends))) refl
    (λ now x. subst (λ (l : List Scene). Stands c n l (waits_in l) new.peers now) (sym (one_objects at session number (withdrawn_text number) (with_object old at is.after) new said [] is.ends)) x)
    (one_voice c n at session number Withdraws withdrawn_text (IsClose made_now) no_ends made_now (waits_in made_now) (with_object old at is.after) new said [] t
    (record { follows = λ w held. (refl, refl); text_is = λ w. refl; line_is = λ w. refl }) (λ o w here of wants. tt) (λ w o j. refl) stands is.ends))
  where
    nothing : List End
    nothing = []

    neither : (b : Bool) → (if b then nothing else nothing) ≡ nothing
    neither true = refl
    neither false = refl

-- a `cancel` is answered, in each talk
pub cancel_voice : (heard : Lines) (past : Texts) (c n place number : ℕ) (come : Bool) (account : Account) (old new : State) (said added : Texts) (t : Talk) (lines : List (List ℕ × LineEnd)) (ok : List ℕ → Type 0) →
    Awaits heard past old.objects old.peers → Lead c n place old (IsSo heard c come old.objects account) t lines ok → ((text : List ℕ) → AnswersCancel number text → ok text) → told.AnswersCancel place number old said added new →
    Voice c (IsSo heard c come old.objects account) no_ends said (StandsIn c n new) t lines
cancel_voice heard past c n place number come account old new said added t lines ok a lead fits (inl is) =
    let Is = IsSo heard c come old.objects account in
    let text = cancelled_line number (cancel_name cancels_by.Cancelled) in
    let v = lead text (fits text (inl (cancels_by.Cancelled, refl))) (plain_end text (cancelled_plain number (cancel_name cancels_by.Cancelled))) in
    let u = lets_voice heard past c n is.opened.object is.session is.number come account old new is.ended added v.now a is.lets_go v.stands in
    voiced_map c Is (λ (o : ObjectForm) (j : ℕ). [] ++ []) no_ends (told_to old.peers place text ++ is.ended) said (StandsIn c n new) (StandsIn c n new) t lines (λ o j. refl) (ap (texts_to c) (sym is.told_is)) (λ now x. x)
    (subst (λ (l : List (List ℕ × LineEnd)). Voice c Is (λ (o : ObjectForm) (j : ℕ). [] ++ []) (told_to old.peers place text ++ is.ended) (StandsIn c n new) t l) (append-nil lines)
    (voiced_both c Is no_ends no_ends (told_to old.peers place text) is.ended (StandsIn c n old) (StandsIn c n new) t lines [] v u))
cancel_voice heard past c n place number come account old new said added t lines ok a lead fits (inr (inl is)) =
    let text = cancelled_line number (cancel_name is.answer) in
    only_voice c n place text (IsSo heard c come old.objects account) old new said added t lines ok lead (fits text (inl (is.answer, refl))) (plain_end text (cancelled_plain number (cancel_name is.answer))) is.only
cancel_voice heard past c n place number come account old new said added t lines ok a lead fits (inr (inr is)) =
    let text = refusal_text is.line is.hint in
    only_voice c n place text (IsSo heard c come old.objects account) old new said added t lines ok lead (fits text (inr (refusal_of place old new said added is))) (plain_end text (hinted_plain is.line is.is is.hint)) is.only
