-- What is held follows from the calls that ended.
use Rattle.std.proofs.Common.{◌≡◌, ◌∙◌, ap, sym, subst, refl, ℕ, List, [], ◌∷◌, ◌++◌, append_assoc}
use Rattle.std.specs.Prelude.{Bool, true, false, Option, Some, None, Result, Ok, Err, slice_get, if◌then◌else◌}
use Rattle.std.proofs.lemmas.List.{append-nil}
use Rattle.decl_core.specs.ObjectForm.{ObjectForm}
use Rattle.apply_core.specs.History.{End}
use Rattle.word_core.specs.Events.{Called, Happened, ended, end_of, history_of}
use Rattle.live_core.specs.declared.call.Ran.{Ran}
use Rattle.guest_core.specs.declared.guests.Entered.{Entered}
use Rattle.guest_core.specs.declared.guests.EnterFault.{EnterFault}
use Rattle.guest_core.specs.declared.seats.SeatHolder.{SeatHolder}
use Rattle.guest_core.specs.declared.seats.SeatHolder.TheVariants.{Void, Free, Nameless, Named, Retired}
use Rattle.decl_core.specs.HoldForm.{HoldForm, RulesForm}
use Rattle.guest_core.specs.Held.{HeldCall, AreHeld}
use Rattle.guest_core.specs.Held.AreHeldBy.{at_end}
use Rattle.audit_core.specs.Steps.{Step, ran, cancelled, named, happened_of}
use Rattle.live_core.specs.Scene.{Scene}
use Rattle.live_core.specs.HostedSteps as hosted
use Rattle.live_core.specs.HostedSteps.{Steps}
use Rattle.history_law.specs.Happens.{with_ran, with_entered, with_cancelled, happens, all_happen}
use Rattle.client_core.specs.Custody.{Custody, HeldBehindAll, as_told, holding_now}
use Rattle.history_law.proofs.Going.{TellsAlike, all_more, all_alike, told_alike}
use Rattle.history_law.specs.Ended.{ends_of}
use Rattle.history_law.proofs.TurnKeeping.{ran_ends}
use Rattle.history_law.proofs.Passing.{Behind, IsQuiet, Passes, stays, quiet, calls, both}

-- the steps by which an object passes, and what happened by them
abbrev pub steps_of : {old new : Scene} {c d : Option Custody} {lines : List ℕ} → Passes old c lines new d → Steps old lines new
steps_of stays = hosted.rests
steps_of (quiet step is) = hosted.does step
steps_of (calls session operation arguments a does may behind) = hosted.does (hosted.calls session operation arguments a does)
steps_of (both one two) = hosted.goes_on (steps_of one) (steps_of two)

abbrev pub happened_by : {old new : Scene} {c d : Option Custody} {lines : List ℕ} → Passes old c lines new d → List Step
happened_by p = all_happen (steps_of p) []

-- ends

pub ends_both : (s : Scene) (xs ys : List Step) → ends_of s (xs ++ ys) ≡ ends_of s xs ++ ends_of s ys
ends_both s [] ys = refl
ends_both s (ran c reply ∷ xs) ys = ap (λ (l : List Happened). ended (as_told s c) reply ∷ l) (ends_both s xs ys)
ends_both s (cancelled c ∷ xs) ys = ends_both s xs ys
ends_both s (named session client ∷ xs) ys = ends_both s xs ys

-- the same numbers are told of them
pub ends_alike : (old new : Scene) (steps : List Step) → TellsAlike old new → ends_of new steps ≡ ends_of old steps
ends_alike old new [] alike = refl
ends_alike old new (ran c reply ∷ steps) alike =
    ap (λ n. ended (record c { number = n }) reply ∷ ends_of new steps) (told_alike old new c.number alike)
    ∙ ap (λ (l : List Happened). ended (as_told old c) reply ∷ l) (ends_alike old new steps alike)
ends_alike old new (cancelled c ∷ steps) alike = ends_alike old new steps alike
ends_alike old new (named session client ∷ steps) alike = ends_alike old new steps alike

ran_ends_are : (s : Scene) (all : List Ran) (steps : List Step) (past : List Happened) → ran_ends s all (ends_of s steps ++ past) ≡ ends_of s (with_ran all steps) ++ past
ran_ends_are s [] steps past = refl
ran_ends_are s (r ∷ all) steps past = ran_ends_are s all (ran r.call r.reply ∷ steps) past

-- what is no call ends none
entered_none : (s : Scene) (name : List ℕ) (a : Result Entered EnterFault) → ends_of s (with_entered name a []) ≡ []
entered_none s name (Ok a) = by a.is_new
  where
    by : (b : Bool) → ends_of s (if b then named a.session name ∷ [] else []) ≡ []
    by true = refl
    by false = refl
entered_none s name (Err fault) = refl

cancelled_none : (s : Scene) (seat : Option SeatHolder) (c : Called) → ends_of s (with_cancelled seat c []) ≡ []
cancelled_none s (Some (Named place)) c = refl
cancelled_none s (Some Void) c = refl
cancelled_none s (Some Free) c = refl
cancelled_none s (Some Nameless) c = refl
cancelled_none s (Some Retired) c = refl
cancelled_none s None c = refl

pub quiet_none : (s old new : Scene) (lines : List ℕ) (step : hosted.Step old lines new) → IsQuiet step → ends_of s (happens step []) ≡ []
quiet_none s old new lines (hosted.comes name now a guests is_name enters) is = entered_none s name a
quiet_none s old new lines (hosted.gets_number session least) is = refl
quiet_none s old new lines (hosted.leaves session now was_here guests left) is = refl
quiet_none s old new lines (hosted.calls session operation arguments a does) is = absurd is
quiet_none s old new lines (hosted.cancels session told said gone) is = cancelled_none s (slice_get old.guests.seats session) gone.call

-- a call that was made: just those that ran have ended
pub calls_end : (old new : Scene) (lines : List ℕ) (all : List Ran) (past : List Happened) → Steps old lines new → ran_ends new all past ≡ ends_of old (with_ran all []) ++ past
calls_end old new lines all past goes =
    ran_ends_are new all [] past ∙ ap (λ (l : List Happened). l ++ past) (ends_alike old new (with_ran all []) (all_alike old new lines goes))

-- one thing, and another behind it
pub both_end : (old mid new : Scene) (c d e : Option Custody) (lines added : List ℕ) (one : Passes old c lines mid d) (two : Passes mid d added new e) (past : List Happened) →
    ends_of mid (happened_by two) ++ (ends_of old (happened_by one) ++ past) ≡ ends_of old (happened_by (both one two)) ++ past
both_end old mid new c d e lines added one two past =
    let was = happened_by one in
    let more = happened_by two in
    sym (append_assoc (ends_of mid more) (ends_of old was) past)
    ∙ ap (λ (l : List Happened). (l ++ ends_of old was) ++ past) (ends_alike old mid more (all_alike old mid lines (steps_of one)))
    ∙ ap (λ (l : List Happened). l ++ past) (sym (ends_both old more was))
    ∙ ap (λ (l : List Step). ends_of old l ++ past) (sym (all_more mid new added (steps_of two) was))

-- what the ends of these calls have left
behind_all : (holds : List HoldForm) (object : Scene) (all : List Ran) (past : List Happened) (old new : List HeldCall) → AreHeld holds past old → HeldBehindAll holds object all old new →
    AreHeld holds (ran_ends object all past) new
behind_all holds object [] past old new are same = subst (λ (l : List HeldCall). AreHeld holds past l) (sym same) are
behind_all holds object (r ∷ all) past old new are (mid, (left, gives, is), later) =
    behind_all holds object all (ended (as_told object r.call) r.reply ∷ past) mid new
    (subst (λ (l : List HeldCall). AreHeld holds (ended (as_told object r.call) r.reply ∷ past) l) (sym is) (at_end old left are gives)) later

-- what is held behind what an object has passed
pub record HeldNow (rules : RulesForm) (now : Option Custody) (past : List Happened) : Type 0 where
  pub custody : Custody
  pub there : now ≡ Some custody
  pub rules_are : custody.rules ≡ rules
  pub are : AreHeld rules.holds past custody.held

pub passes_hold : (rules : RulesForm) (old new : Scene) (c d : Option Custody) (lines : List ℕ) (past : List Happened) (p : Passes old c lines new d) → HeldNow rules c past →
    HeldNow rules d (ends_of old (happened_by p) ++ past)
passes_hold rules old new c d lines past stays h = h
passes_hold rules old new c d lines past (quiet step is) h =
    subst (λ (l : List Happened). HeldNow rules c (l ++ past)) (sym (quiet_none old old new lines step is)) h
passes_hold rules old new c d lines past (calls session operation arguments a does may behind) h =
    let goes : Steps old lines new = hosted.does (hosted.calls session operation arguments a does) in
    let so : Behind (Some h.custody) new a.ran.items d = subst (λ (x : Option Custody). Behind x new a.ran.items d) h.there behind in
    subst (λ (l : List Happened). HeldNow rules d l) (calls_end old new lines a.ran.items past goes)
    (record {
      custody = holding_now h.custody so.0;
      there = so.2;
      rules_are = h.rules_are;
      are = behind_all rules.holds new a.ran.items past h.custody.held so.0 h.are (subst (λ (r : RulesForm). HeldBehindAll r.holds new a.ran.items h.custody.held so.0) h.rules_are so.1);
    })
passes_hold rules old new c d lines past (both {mid = mid} {d = m} {lines = first} {added = added} one two) h =
    subst (λ (l : List Happened). HeldNow rules d l) (both_end old mid new c m d first added one two past)
    (passes_hold rules mid new m d added (ends_of old (happened_by one) ++ past) two (passes_hold rules old mid c m first past one h))

-- they are the ends of the history
pub history_ends : (o : ObjectForm) (s : Scene) (steps : List Step) (past : List Happened) → history_of o (ends_of s steps ++ past) ≡ history_of o past ++ history_of o (happened_of steps)
history_ends o s [] past = sym (append-nil (history_of o past))
history_ends o s (ran c reply ∷ steps) past =
    ap (λ (l : List End). l ++ end_of o c reply ∷ []) (history_ends o s steps past) ∙ append_assoc (history_of o past) (history_of o (happened_of steps)) (end_of o c reply ∷ [])
history_ends o s (cancelled c ∷ steps) past = history_ends o s steps past
history_ends o s (named session client ∷ steps) past = history_ends o s steps past
