-- Each call that waits may still be made, behind what an object passes.
use Rattle.std.proofs.Common.{◌≡◌, ◌≢◌, ◌⊎◌, inl, inr, ◌∙◌, ap, sym, subst, refl, ℕ, List, [], ◌∷◌, ◌++◌}
use Rattle.std.specs.Prelude.{Option, Some, None, slice_get}
use Rattle.value_core.specs.declared.datum.Datum.{Datum}
use Rattle.value_core.specs.declared.kind.Elem.{Elem}
use Rattle.decl_core.specs.ObjectForm.{ObjectForm}
use Rattle.decl_core.specs.ObjectMap.{object_of}
use Rattle.word_core.specs.Events.{Called, Happened}
use Rattle.live_core.specs.declared.live.Taken.{Taken}
use Rattle.live_core.specs.Answers.{asked}
use Rattle.live_core.specs.Hall.{Every, Hall, Told, IsHeld}
use Rattle.live_core.specs.Settles.{with_all}
use Rattle.live_core.specs.Calls.{Does}
use Rattle.live_core.specs.Scene.{Scene}
use Rattle.live_core.specs.HostedSteps as hosted
use Rattle.live_core.specs.HostedSteps.{Steps}
use Rattle.decl_core.specs.HoldForm.{HoldForm, RulesForm}
use Rattle.guest_core.specs.Held.{HeldCall, Fits, MayUndo, MayUndoBy, hold_ended}
use Rattle.guest_core.specs.Undo.{taken_by, IsUndoOf}
use Rattle.client_core.specs.Custody.{Custody, HeldBehindAll, IsOwed, MayMake, holding_now}
use Rattle.client_core.specs.Custody.IsOwed.{gives_back, again}
use Rattle.history_law.specs.Ended.{ends_of}
use Rattle.history_law.specs.Keeps.{AreApart, Keeps}
use Rattle.history_law.proofs.TurnHolding.{happened_by, quiet_none, calls_end, both_end}
use Rattle.history_law.proofs.TurnKeeping.{every_get, ran_ends, all_keep, joined_own, joined_keeps, less_keeps}
use Rattle.history_law.proofs.Passing.{May, Behind, IsQuiet, Passes, stays, quiet, calls, both}

-- What is kept of an object at a moment.
pub record KeptNow (rules : RulesForm) (s : Scene) (now : Option Custody) (past : List Happened) : Type 0 where
  pub told : Told
  pub is : IsHeld s.hall told
  pub custody : Custody
  pub there : now ≡ Some custody
  pub rules_are : custody.rules ≡ rules
  pub keeps : Keeps rules.holds s.hall.waiting past custody.held

-- the same hall
same_hall : (rules : RulesForm) (old new : Scene) (c : Option Custody) (past : List Happened) → new.hall ≡ old.hall → KeptNow rules old c past → KeptNow rules new c past
same_hall rules old new c past same k = record {
  told = k.told;
  is = subst (λ (h : Hall). IsHeld h k.told) (sym same) k.is;
  custody = k.custody;
  there = k.there;
  rules_are = k.rules_are;
  keeps = subst (λ (h : Hall). Keeps rules.holds h.waiting past k.custody.held) (sym same) k.keeps;
}

-- something that is no call
quiet_keeps : (rules : RulesForm) (old new : Scene) (c : Option Custody) (lines : List ℕ) (past : List Happened) (step : hosted.Step old lines new) → IsQuiet step → KeptNow rules old c past → KeptNow rules new c past
quiet_keeps rules old new c lines past (hosted.comes name now a guests is_name enters) is k = same_hall rules old new c past refl k
quiet_keeps rules old new c lines past (hosted.gets_number session least) is k = same_hall rules old new c past refl k
quiet_keeps rules old new c lines past (hosted.leaves session now was_here guests left) is k = same_hall rules old new c past refl k
quiet_keeps rules old new c lines past (hosted.calls session operation arguments a does) is k = absurd is
quiet_keeps rules old new c lines past (hosted.cancels session told said gone) is k =
    let left = gone.lets_go.left in
    let waits : new.hall.waiting ≡ left.front ++ left.behind = ap (λ (h : Hall). h.waiting) left.left in
    record {
      told = k.told;
      is = gone.lets_go.held k.told k.is;
      custody = k.custody;
      there = k.there;
      rules_are = k.rules_are;
      keeps = subst (λ (l : List Called). Keeps rules.holds l past k.custody.held) (sym waits)
          (less_keeps rules.holds left.front left.behind gone.call past k.custody.held
          (subst (λ (l : List Called). Keeps rules.holds l past k.custody.held) left.waited k.keeps));
    }

-- what is given fits what it was taken from
given_fits : (params : List (List ℕ × Elem)) (h : HeldCall) (arguments : List Datum) → arguments ≡ taken_by params h.values → Fits h.rule arguments h
given_fits [] h arguments e = record { rule = refl; values = λ some. absurd (some e) }
given_fits (p ∷ params) h arguments e = record { rule = refl; values = λ some. sym e }

-- a session that has no number holds nothing
nobody_may : (holds : List HoldForm) (e : Option ℕ) (nobody session : ℕ) (arguments : List Datum) (held : List HeldCall) → nobody ≡ 0 → Every (λ (h : HeldCall). h.session ≢ 0) held →
    MayUndoBy holds e nobody arguments held → MayUndoBy holds e session arguments held
nobody_may holds None nobody session arguments held none seated may = tt
nobody_may holds (Some r) nobody session arguments held none seated may = λ strict.
    let own = may strict in absurd (every_get (λ (h : HeldCall). h.session ≢ 0) held own.place own.hold seated own.there (own.own ∙ none))

owed_may : (rules : RulesForm) → AreApart rules → (o : ObjectForm) (k : Custody) (session operation : ℕ) (arguments : List Datum) → k.rules ≡ rules → IsOwed o k session operation arguments →
    MayUndo rules.holds session operation arguments k.held
owed_may rules apart o k session operation arguments same (gives_back place h newest undo) =
    let mine : IsUndoOf o rules.holds h operation arguments = subst (λ (r : RulesForm). IsUndoOf o r.holds h operation arguments) same undo in
    let ends : hold_ended rules.holds operation ≡ Some h.rule = apart.own h.rule mine.ends.rule 0 operation mine.ends.held mine.ends.first in
    subst (λ (e : Option ℕ). MayUndoBy rules.holds e session arguments k.held) (sym ends)
    (λ strict. record { place = place; hold = h; there = newest.there; fit = given_fits mine.form.params h arguments mine.given; own = newest.own })
owed_may rules apart o k session operation arguments same (again place e there is none) =
    let ends : hold_ended rules.holds operation ≡ None =
    subst (λ n. hold_ended rules.holds n ≡ None) is (apart.none place e (subst (λ (r : RulesForm). slice_get r.everies place ≡ Some e) same there)) in
    subst (λ (x : Option ℕ). MayUndoBy rules.holds x session arguments k.held) (sym ends) tt

one_custody : {a b : Custody} → ◌≡◌ {A = Option Custody} (Some a) (Some b) → a ≡ b
one_custody is = cc

-- a call that is made may be made
may_undo : (rules : RulesForm) → AreApart rules → (o : ObjectForm) (c : Option Custody) (k : Custody) (session operation : ℕ) (arguments : List Datum) → c ≡ Some k → k.rules ≡ rules →
    Every (λ (h : HeldCall). h.session ≢ 0) k.held → May o c session operation arguments → MayUndo rules.holds session operation arguments k.held
may_undo rules apart o c k session operation arguments there same seated (inl (s, who, make)) = by who
  where
    made : MayUndo rules.holds s operation arguments k.held
    made = subst (λ (r : RulesForm). MayUndo r.holds s operation arguments k.held) same (subst (λ (x : Option Custody). MayMake x s operation arguments) there make)

    by : (s ≡ session) ⊎ (s ≡ 0) → MayUndo rules.holds session operation arguments k.held
    by (inl is) = subst (λ n. MayUndo rules.holds n operation arguments k.held) is made
    by (inr none) = nobody_may rules.holds (hold_ended rules.holds operation) s session arguments k.held none seated made
may_undo rules apart o c k session operation arguments there same seated (inr (other, is, owed)) =
    let one : other ≡ k = one_custody (sym is ∙ there) in
    owed_may rules apart o k session operation arguments same (subst (λ (x : Custody). IsOwed o x session operation arguments) one owed)

-- a call is made, and those that may then run
calls_keep : (rules : RulesForm) → AreApart rules → (old new : Scene) (c d : Option Custody) (past : List Happened) (session operation : ℕ) (arguments : List Datum) (a : Taken) →
    Does old session operation arguments a new → May (object_of old.hall.object) c session operation arguments → Behind c new a.ran.items d → KeptNow rules old c past →
    KeptNow rules new d (ran_ends new a.ran.items past)
calls_keep rules apart old new c d past session operation arguments a does may behind k =
    let takes = does.takes in
    let call : Called = asked old.hall session operation arguments in
    let mine : MayUndo rules.holds session operation arguments k.custody.held =
    may_undo rules apart (object_of old.hall.object) c k.custody session operation arguments k.there k.rules_are k.keeps.seated may in
    let so : Behind (Some k.custody) new a.ran.items d = subst (λ (x : Option Custody). Behind x new a.ran.items d) k.there behind in
    let joins : Keeps rules.holds (old.hall.waiting ++ call ∷ []) past k.custody.held =
    joined_keeps rules.holds old.hall.waiting call past k.custody.held k.keeps mine (λ none. takes.taken.here (inl none)) in
    let settled = takes.settles k.told k.is in
    let kept : Keeps rules.holds does.mid.hall.waiting (ran_ends new a.ran.items past) so.0 =
    all_keep rules.holds (object_of old.hall.object) k.told (old.hall.waiting ++ call ∷ []) does.mid.hall.waiting a.ran.items new past k.custody.held so.0 settled.settles
    (joined_own old.hall.waiting call k.is.kept.one_each takes.taken.free) joins
    (subst (λ (r : RulesForm). HeldBehindAll r.holds new a.ran.items k.custody.held so.0) k.rules_are so.1) in
    let hall : new.hall ≡ does.mid.hall = ap (λ (s : Scene). s.hall) does.left in
    record {
      told = with_all k.told a.ran.items;
      is = subst (λ (h : Hall). IsHeld h (with_all k.told a.ran.items)) (sym hall) (takes.held k.told k.is);
      custody = holding_now k.custody so.0;
      there = so.2;
      rules_are = k.rules_are;
      keeps = subst (λ (h : Hall). Keeps rules.holds h.waiting (ran_ends new a.ran.items past) so.0) (sym hall) kept;
    }

pub passes_keep : (rules : RulesForm) → AreApart rules → (old new : Scene) (c d : Option Custody) (lines : List ℕ) (past : List Happened) (p : Passes old c lines new d) → KeptNow rules old c past →
    KeptNow rules new d (ends_of old (happened_by p) ++ past)
passes_keep rules apart old new c d lines past stays k = k
passes_keep rules apart old new c d lines past (quiet step is) k =
    subst (λ (l : List Happened). KeptNow rules new c (l ++ past)) (sym (quiet_none old old new lines step is)) (quiet_keeps rules old new c lines past step is k)
passes_keep rules apart old new c d lines past (calls session operation arguments a does may behind) k =
    let goes : Steps old lines new = hosted.does (hosted.calls session operation arguments a does) in
    subst (λ (l : List Happened). KeptNow rules new d l) (calls_end old new lines a.ran.items past goes)
    (calls_keep rules apart old new c d past session operation arguments a does may behind k)
passes_keep rules apart old new c d lines past (both {mid = mid} {d = m} {lines = first} {added = added} one two) k =
    subst (λ (l : List Happened). KeptNow rules new d l) (both_end old mid new c m d first added one two past)
    (passes_keep rules apart mid new m d added (ends_of old (happened_by one) ++ past) two (passes_keep rules apart old mid c m first past one k))
