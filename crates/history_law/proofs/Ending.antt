-- Calls that end, in the talks of those that wait for them.
use Rattle.std.proofs.Common.{◌≡◌, ◌⊎◌, inl, inr, ◌∙◌, ap, sym, subst, refl, ℕ, List, [], ◌∷◌, ◌++◌}
use Rattle.std.specs.Prelude.{Bool, true, false, ◌==◌, if◌then◌else◌, Option, Some, None, slice_get}
use Rattle.std.proofs.lemmas.Bool.Decides.{eqb_tells}
use Rattle.std.proofs.lemmas.List.{append-nil}
use Rattle.std.proofs.lemmas.Option.{same_Some}
use Rattle.apply_core.specs.History.{End}
use Rattle.decl_core.specs.ObjectForm.{ObjectForm}
use Rattle.word_core.specs.Events.{Called, end_of}
use Rattle.session_text.specs.Lines.{ended_text}
use Rattle.live_core.specs.declared.call.Ran.{Ran}
use Rattle.live_core.specs.Scene.{Scene, told_of}
use Rattle.client_core.specs.declared.client.OpenObject.{OpenObject}
use Rattle.client_core.specs.Held.{waits_of, with_waits}
use Rattle.keep_loop.specs.declared.served.LineEnd.{LineEnd}
use Rattle.client_core.specs.Asked as told
use Rattle.client_core.specs.Asked.{AllEnd}
use Rattle.client_core.specs.Deeds.{Texts}
use Rattle.client_core.specs.State.{Peer, State, change, waiting, opened_in, who_in}
use Rattle.history_law.specs.Awaits.{IsElementOf, Pool}
use Rattle.history_law.proofs.Ends.{true_false}
use Rattle.history_law.proofs.Lists.{calls_of}
use Rattle.history_law.specs.Dealt.{Dealt, dealt_ends, ends_for, is_for}
use Rattle.history_law.specs.TurnStands.{Stands, Wants}
use Rattle.history_law.specs.Talk.{Line, Talk, Part, Wanted, Follows, line_in, text_of_part, end_in, texts_to}
use Rattle.history_law.specs.Talk.Part.{Ends}
use Rattle.history_law.specs.Talk.Talk.{Away, Here}
use Rattle.history_law.proofs.OrderLists.{is_who, ran_ends, told_mine, told_other}
use Rattle.history_law.proofs.OrderStanding.{mine_is, stands_mine, stands_other}
use Rattle.history_law.proofs.Voicing.{Deal, IsClose, Voice, ends_told, no_ends, voiced_both, voiced_map, voiced_none}

-- a part by which a call that waits waits no more, and what is told of it
pub record IsEnding (part : Wanted → Part) (text : ℕ → List ℕ) : Type 0 where
  pub follows : (w : Wanted) (held : List Line) → Follows (part w) (Here (Some w) held) (Here None held)
  pub text_is : (w : Wanted) → text_of_part (part w) ≡ text w.number ∷ []
  pub line_is : (w : Wanted) → line_in (part w) ≡ []

idle_now : (x : Option OpenObject) → waits_of (with_waits false x) ≡ false
idle_now None = refl
idle_now (Some o) = refl

-- who is told of the end of a call
abbrev pub told_whom : (at session number : ℕ) (text : List ℕ) (old new : State) (said added : Texts) → told.Ends at session number text old said added new → Option ℕ
told_whom at session number text old new said added (inl (place, e)) = who_in (slice_get old.peers place)
told_whom at session number text old new said added (inr (nobody, is)) = None

for_own : (c : ℕ) (x : Option ℕ) → x ≡ Some c → is_for c x ≡ true
for_own c x is = ap (is_for c) is ∙ elim (eqb_tells c c) [ inl y ↦ y.0 | inr y ↦ absurd (y.1 refl) ]

for_other : (c : ℕ) (x : Option ℕ) → (x ≡ Some c → ⊥) → is_for c x ≡ false
for_other c None other = refl
for_other c (Some w) other = elim (eqb_tells w c) [ inl y ↦ absurd (other (ap Some y.1)) | inr y ↦ y.0 ]

-- the end of one call, in one talk
pub one_voice : (c n at session number : ℕ) (part : Wanted → Part) (text : ℕ → List ℕ) (Is : Part → Type 0) (head : ObjectForm → ℕ → List End) (objects : List Scene) (pool : Pool) (old new : State) (said added : Texts) (t : Talk) →
    IsEnding part text → ((o : OpenObject) (w : Wanted) → o.object ≡ at → o.session ≡ session → Wants objects pool o w → Is (part w)) →
    ((w : Wanted) (o : ObjectForm) (j : ℕ) → end_in o j (part w) ≡ head o j) → Stands c n objects pool old.peers t → (is : told.Ends at session number (text number) old said added new) →
    Voice c Is (λ (o : ObjectForm) (j : ℕ). if is_for c (told_whom at session number (text number) old new said added is) then head o j else []) said (λ (now : Talk). Stands c n objects pool new.peers now) t []
one_voice c n at session number part text Is head objects pool old new said added t ending kept heads stands (inr (nobody, is)) =
    voiced_none c Is said _ t (ap (texts_to c) is.told) (subst (λ (ps : List Peer). Stands c n objects pool ps t) (sym (ap (λ (s : State). s.peers) is.left)) stands)
one_voice c n at session number part text Is head objects pool old new said added t ending kept heads stands (inl (place, e)) = by (is_who (who_in (slice_get old.peers place)) c)
  where
    left : new.peers ≡ change old.peers place (waiting false)
    left = ap (λ (s : State). s.peers) e.left

    mine : (t : Talk) → Stands c n objects pool old.peers t → who_in (slice_get old.peers place) ≡ Some c → Voice c Is head said (λ (now : Talk). Stands c n objects pool new.peers now) t []
    mine Away s here =
        let m = mine_is c n objects pool old.peers Away place s here in
        absurd (s.is_at (ap (λ k. who_in (slice_get old.peers k)) (sym m.3) ∙ here))
    mine (Here None held) s here =
        let m = mine_is c n objects pool old.peers (Here None held) place s here in
        let is = s.is_at in
        let there : slice_get old.peers place ≡ Some is.0 = ap (slice_get old.peers) m.3 ∙ is.1 in
        absurd (true_false (waits_of is.0.opened) (ap waits_of (sym (ap opened_in there) ∙ e.waits.by) ∙ e.waits.is.waits) is.4)
    mine (Here (Some w) held) s here =
        let m = mine_is c n objects pool old.peers (Here (Some w) held) place s here in
        let is = s.is_at in
        let p = is.0 in
        let there : slice_get old.peers place ≡ Some p = ap (slice_get old.peers) m.3 ∙ is.1 in
        let wait = is.4 in
        let o = wait.0 in
        let same : e.waits.opened ≡ o = same_Some e.waits.opened o (sym e.waits.by ∙ ap opened_in there ∙ wait.1) in
        let number_is : number ≡ w.number = sym e.waits.is.told_is ∙ ap (λ (x : OpenObject). x.told) same ∙ wait.3 in
        record {
          parts = part w ∷ [];
          now = Here None held;
          course = (Here None held, ending.follows w held, refl);
          stands = subst (λ (ps : List Peer). Stands c n objects pool ps (Here None held)) (sym left)
              (stands_mine c n objects pool old.peers (Here (Some w) held) place (waiting false) p objects pool None held there is.2 is.2 is.3 (idle_now p.opened) s);
          heard = ap (λ (l : List (List ℕ × LineEnd)). l ++ []) (ending.line_is w);
          texts = ap (λ (l : List (List ℕ)). l ++ []) (ending.text_is w) ∙ ap (λ k. text k ∷ []) (sym number_is)
              ∙ sym (ap (texts_to c) e.told ∙ told_mine c old.peers place (text number) here);
          all = (kept o w (ap (λ (x : OpenObject). x.object) (sym same) ∙ e.waits.is.object) (ap (λ (x : OpenObject). x.session) (sym same) ∙ e.waits.is.session_is) wait.4, tt);
          ends_are = λ f j. append-nil (end_in f j (part w)) ∙ heads w f j;
        }

    by : (who_in (slice_get old.peers place) ≡ Some c) ⊎ (who_in (slice_get old.peers place) ≡ Some c → ⊥) →
        Voice c Is (λ (o : ObjectForm) (j : ℕ). if is_for c (who_in (slice_get old.peers place)) then head o j else []) said (λ (now : Talk). Stands c n objects pool new.peers now) t []
    by (inl here) =
        voiced_map c Is head _ said said _ _ t [] (λ o j. sym (ap (λ (b : Bool). if b then head o j else []) (for_own c (who_in (slice_get old.peers place)) here))) refl (λ now is. is)
        (mine t stands here)
    by (inr other) =
        voiced_map c Is no_ends _ said said _ _ t [] (λ o j. sym (ap (λ (b : Bool). if b then head o j else []) (for_other c (who_in (slice_get old.peers place)) other))) refl (λ now is. is)
        (voiced_none c Is said (λ (now : Talk). Stands c n objects pool new.peers now) t (ap (texts_to c) e.told ∙ told_other c old.peers place (text number) other)
        (subst (λ (ps : List Peer). Stands c n objects pool ps t) (sym left)
        (stands_other c n objects pool old.peers t place (waiting false) other (λ p there who. other (ap who_in there ∙ who)) stands)))

-- the ends of calls of the object at a place
abbrev pub ran_at : ℕ → List Ran → ObjectForm → ℕ → List End
ran_at at all o j = if at == j then ran_ends o all else []

-- who is told of each of these calls
abbrev pub deal_all : (at : ℕ) (object : Scene) (all : List Ran) (old new : State) (said added : Texts) → AllEnd at object all old said added new → List Dealt
deal_all at object [] old new said added is = []
deal_all at object (r ∷ all) old new said added (mid, first, rest, told, one, more) =
    record { whom = told_whom at r.call.session (told_of object r.call.number) (ended_text (told_of object r.call.number) r.reply) old mid first [] one; call = r.call; reply = r.reply }
    ∷ deal_all at object all mid new rest added more

abbrev pub deal_at : ℕ → List Dealt → Deal
deal_at at dealt = λ j. if at == j then dealt else []

pub deal_where : (c at : ℕ) (dealt : List Dealt) (o : ObjectForm) (j : ℕ) → (ends_told c (deal_at at dealt) o j ≡ []) ⊎ (at ≡ j)
deal_where c at dealt o j = elim (eqb_tells at j) [
  | inl x ↦ inr x.1
  | inr x ↦ inl (ap (λ (b : Bool). ends_for c o (if b then dealt else [])) x.0)
]

all_dealt : (at : ℕ) (object : Scene) (all : List Ran) (old new : State) (said added : Texts) (is : AllEnd at object all old said added new) (o : ObjectForm) → dealt_ends o (deal_all at object all old new said added is) ≡ ran_ends o all
all_dealt at object [] old new said added is o = refl
all_dealt at object (r ∷ all) old new said added (mid, first, rest, told, one, more) o = ap (λ (l : List End). end_of o r.call r.reply ∷ l) (all_dealt at object all mid new rest added more o)

pub at_dealt : (at : ℕ) (object : Scene) (all : List Ran) (old new : State) (said added : Texts) (is : AllEnd at object all old said added new) (o : ObjectForm) (j : ℕ) →
    dealt_ends o (deal_at at (deal_all at object all old new said added is) j) ≡ ran_at at all o j
at_dealt at object all old new said added is o j = by (at == j)
  where
    by : (b : Bool) → dealt_ends o (if b then deal_all at object all old new said added is else []) ≡ (if b then ran_ends o all else [])
    by true = all_dealt at object all old new said added is o
    by false = refl

pub all_voice : (c n at : ℕ) (object : Scene) (all : List Ran) (objects : List Scene) (pool : Pool) (old new : State) (said added : Texts) (t : Talk) →
    ((d : Called) → IsElementOf d (calls_of all) → pool at d) → Stands c n objects pool old.peers t → (is : AllEnd at object all old said added new) →
    Voice c (IsClose objects) (ends_told c (deal_at at (deal_all at object all old new said added is))) said (λ (now : Talk). Stands c n objects pool new.peers now) t []
all_voice c n at object [] objects pool old new said added t each stands is =
    voiced_map c (IsClose objects) no_ends _ said said _ _ t [] (λ o j. by (at == j) o) refl (λ now is. is)
    (voiced_none c (IsClose objects) said (λ (now : Talk). Stands c n objects pool new.peers now) t (ap (texts_to c) is.told)
    (subst (λ (ps : List Peer). Stands c n objects pool ps t) (sym (ap (λ (s : State). s.peers) is.left)) stands))
  where
    no_dealt : List Dealt
    no_dealt = []

    by : (b : Bool) (o : ObjectForm) → [] ≡ ends_for c o (if b then no_dealt else no_dealt)
    by true o = refl
    by false o = refl
all_voice c n at object (r ∷ all) objects pool old new said added t each stands (mid, first, rest, told, one, more) =
    let number = told_of object r.call.number in
    let part : Wanted → Part = λ w. Ends at w r.call r.reply in
    let head : ObjectForm → ℕ → List End = λ o j. if at == j then end_of o r.call r.reply ∷ [] else [] in
    let whom = told_whom at r.call.session number (ended_text number r.reply) old mid first [] one in
    let dealt = deal_all at object all mid new rest added more in
    let v = one_voice c n at r.call.session number part (λ k. ended_text k r.reply) (IsClose objects) head objects pool old mid first [] t
    (record { follows = λ w held. (refl, refl); text_is = λ w. refl; line_is = λ w. refl })
    (λ o w object_is session wants. subst (λ k. IsClose objects (Ends k w r.call r.reply)) object_is (wants r.call (subst (λ k. pool k r.call) (sym object_is) (each r.call (inl refl))) (sym session)))
    (λ w o j. refl) stands one in
    let u = all_voice c n at object all objects pool mid new rest added v.now (λ d is. each d (inr is)) v.stands more in
    voiced_map c (IsClose objects) (λ (o : ObjectForm) (j : ℕ). (if is_for c whom then head o j else []) ++ ends_told c (deal_at at dealt) o j) _ (first ++ rest) said _ _ t []
    (λ o j. by (at == j) o whom dealt) (ap (texts_to c) (sym told)) (λ now is. is)
    (voiced_both c (IsClose objects) (λ (o : ObjectForm) (j : ℕ). if is_for c whom then head o j else []) (ends_told c (deal_at at dealt)) first rest _ (λ (now : Talk). Stands c n objects pool new.peers now) t [] [] v u)
  where
    nothing : List End
    nothing = []

    neither : (w : Bool) → (if w then nothing else nothing) ++ nothing ≡ nothing
    neither true = refl
    neither false = refl

    by : (b : Bool) (o : ObjectForm) (whom : Option ℕ) (dealt : List Dealt) →
        (if is_for c whom then (if b then end_of o r.call r.reply ∷ [] else []) else []) ++ ends_for c o (if b then dealt else []) ≡ ends_for c o (if b then record { whom = whom; call = r.call; reply = r.reply } ∷ dealt else [])
    by true o whom dealt = refl
    by false o whom dealt = neither (is_for c whom)
