-- Calls that ended.
use Rattle.std.proofs.Common.{◌≡◌, inl, inr, ◌∙◌, ap, sym, subst, refl, arith, ℕ, zero, suc, ◌<◌, ◌≤◌, List, [], ◌∷◌, ◌++◌, length, append_assoc}
use Rattle.std.specs.Prelude.{Some, slice_get}
use Rattle.std.proofs.lemmas.Option.{same_Some, slice_get_within}
use Rattle.value_core.specs.Datum.{IsDatum}
use Rattle.decl_core.specs.declared.object.Object.{Object}
use Rattle.decl_core.specs.ObjectForm.{ObjectForm}
use Rattle.decl_core.specs.ObjectMap.{object_of}
use Rattle.word_core.specs.Events.{Called, Happened, ended}
use Rattle.live_core.specs.declared.call.Ran.{Ran}
use Rattle.live_core.specs.Answers.{asked, IsTaken}
use Rattle.live_core.specs.Hall as hall
use Rattle.live_core.specs.Settles.{Settles, rests, runs, contents_of}
use Rattle.live_core.specs.Front.{IsLong}
use Rattle.live_core.specs.Front as front
use Rattle.guest_core.specs.declared.hold_ends.HoldEnds.TheVariants.{ByDone}
use Rattle.recover_core.specs.Laws.{AreEndings, HeldAreLines, IsEnding}
use Rattle.history_law.specs.Ended.{ends_of}
use Rattle.history_law.proofs.TurnHolding.{calls_end, ends_alike, ends_both, quiet_none}
use Rattle.history_law.proofs.TurnKeeping.{ran_ends}
use Rattle.audit_core.specs.Steps.{Begun, Heard, Step, told_by}
use Rattle.live_core.specs.Calls.{RepliesDatum}
use Rattle.live_core.specs.Scene.{Scene}
use Rattle.live_core.specs.HostedSteps as hosted
use Rattle.history_law.specs.Named.{IsNamed}
use Rattle.history_law.specs.Happens.{all_happen, happens}
use Rattle.history_law.specs.Stands.{IsAwaited, Stands}
use Rattle.history_law.specs.Told.{heard_of}
use Rattle.history_law.proofs.WrittenTelling.{steps_are_told}
use Rattle.keep_loop.specs.Turns.{Asked}
use Rattle.keep_loop.specs.Turns.Asked.{Heard as Hears, Noted, Changes}
use Rattle.client_core.specs.Custody.{as_told}
use Rattle.history_law.specs.Said.{SaysIn, Went}
use Rattle.history_law.proofs.Going.{all_alike, all_more}
use Rattle.table_core.specs.Seen.{seen}
use Rattle.history_law.proofs.KeptGoing.{get_at}
use Rattle.history_law.specs.Ends.{HeldSaysSo, TurnsEndSo}
use Rattle.history_law.specs.LifeKeeps.{Keeps}
use Rattle.history_law.proofs.LifeKeeping.{steps_keep, told_long}
use Rattle.history_law.proofs.LifeLists.{every_all}
use Rattle.history_law.proofs.Rows.{is_operation}
use Rattle.history_law.proofs.Sorted.{replies_sorted}
use Rattle.history_law.proofs.LifeTurning.{keeps_one}

-- a call that an object can have been asked
record CallIs (o : ObjectForm) (c : Called) : Type 0 where
  session : front.IsSession c.session
  call : hall.IsCallOf o c
  values : front.Every IsDatum c.arguments

-- so it is of those that wait
waits_are : (o : ObjectForm) (e : Begun) (steps : List Step) (s : Scene) (t : hall.Told) (cs : List Called) → object_of s.hall.object ≡ o → hall.Every (hall.IsWaiting s.hall t) cs → hall.Every (IsAwaited e steps) cs →
    hall.Every (CallIs o) cs
waits_are o e steps s t [] object waits awaits = tt
waits_are o e steps s t (c ∷ cs) object waits awaits = (
  record { session = awaits.0.session; call = subst (λ (x : ObjectForm). hall.IsCallOf x c) object waits.0.of; values = every_all IsDatum c.arguments awaits.0.values },
  waits_are o e steps s t cs object waits.1 awaits.1,
)

hall_push : (P : Called → Type 0) (cs : List Called) (c : Called) → hall.Every P cs → P c → hall.Every P (cs ++ c ∷ [])
hall_push P [] c all is = (is, tt)
hall_push P (d ∷ cs) c all is = (all.0, hall_push P cs c all.1 is)

hall_split : (P : Called → Type 0) (xs ys : List Called) (c : Called) → hall.Every P (xs ++ c ∷ ys) → P c × hall.Every P (xs ++ ys)
hall_split P [] ys c all = (all.0, all.1)
hall_split P (x ∷ xs) ys c all = let more = hall_split P xs ys c all.1 in (more.0, (all.0, more.1))

-- so it is of those that ran, and each replied as its operation does
settled_end : (object : Object) (s : Scene) (t : hall.Told) (waiting left : List Called) (all : List Ran) (past : List Happened) → IsNamed (object_of object) → front.Every IsLong s.carried →
    Settles (object_of object) t waiting all left → hall.Every (CallIs (object_of object)) waiting → hall.Every (λ (r : Ran). RepliesDatum r.reply) all → AreEndings (object_of object) past →
    AreEndings (object_of object) (ran_ends s all past)
settled_end object s t waiting left all past names long (rests none) are values ends = ends
settled_end object s t waiting left all past names long (runs before behind r more first reply fails settles) are values ends =
    let o = object_of object in
    let parts = hall_split (CallIs o) before behind r.call are in
    let mine = parts.0 in
    let ending : IsEnding o (as_told s r.call) r.reply = record {
      number = told_long s r.call.number long;
      session = mine.session;
      operation = is_operation o r.call.operation names mine.call.known;
      fit = mine.call.fit;
      each = mine.values;
      replies = replies_sorted object r.call.operation r.call.arguments (contents_of o t) r.reply reply values.0;
    } in
    settled_end object s _ (before ++ behind) left more (ended (as_told s r.call) r.reply ∷ past) names long settles parts.1 values.1 (ending, ends)

-- one thing that happens
step_ends : (o : ObjectForm) (e : Begun) (heard : Heard) (old new : Scene) (lines : List ℕ) (past : List Happened) (step : hosted.Step old lines new) → IsNamed o → Stands o e heard old → Keeps o old → AreEndings o past →
    AreEndings o (ends_of old (happens step []) ++ past)
step_ends o e heard old new lines past (hosted.comes name now a guests is_name enters) names stands k ends =
    subst (λ (l : List Happened). AreEndings o (l ++ past)) (sym (quiet_none old old new lines (hosted.comes name now a guests is_name enters) tt)) ends
step_ends o e heard old new lines past (hosted.gets_number session least) names stands k ends = ends
step_ends o e heard old new lines past (hosted.leaves session now was_here guests left) names stands k ends = ends
step_ends o e heard old new lines past (hosted.calls session operation arguments a does) names stands k ends =
    let takes = does.takes in
    let c : Called = asked old.hall session operation arguments in
    let goes : hosted.Steps old lines new = hosted.does (hosted.calls session operation arguments a does) in
    let t = told_by e heard.steps in
    let settled = takes.settles t stands.held in
    let same : object_of old.hall.object ≡ o = stands.object in
    let waits : hall.Every (CallIs o) old.hall.waiting = waits_are o e heard.steps old t old.hall.waiting same stands.held.kept.waits stands.waiting in
    let mine : CallIs o c = record { session = session_is session takes.taken stands.sessions; call = subst (λ (x : ObjectForm). hall.IsCallOf x c) same takes.taken.call; values = every_all IsDatum arguments does.values } in
    let all : hall.Every (CallIs o) (old.hall.waiting ++ c ∷ []) = hall_push (CallIs o) old.hall.waiting c waits mine in
    let long : front.Every IsLong new.carried = subst (front.Every IsLong) (sym (ap (λ (s : Scene). s.carried) does.left ∙ takes.tells.carried)) k.carried in
    subst (AreEndings o) (calls_end old new lines a.ran.items past goes)
    (subst (λ (x : ObjectForm). AreEndings x (ran_ends new a.ran.items past)) same
    (settled_end old.hall.object new t (old.hall.waiting ++ c ∷ []) does.mid.hall.waiting a.ran.items past (subst IsNamed (sym same) names) long settled.settles
    (subst (λ (x : ObjectForm). hall.Every (CallIs x) (old.hall.waiting ++ c ∷ [])) (sym same) all) does.replies (subst (λ (x : ObjectForm). AreEndings x past) (sym same) ends)))
  where
    session_is : (session : ℕ) → IsTaken old.hall (asked old.hall session operation arguments) → old.hall.sessions ≤ 65535 → front.IsSession session
    session_is session taken few = (some session (λ none. taken.here (inl none)), most session (λ past. taken.here (inr past)) few)
      where
        some : (n : ℕ) → (n ≡ 0 → ⊥) → 1 ≤ n
        some zero not = absurd (not refl)
        some (suc n) not = omega arith

        most : (n : ℕ) → (old.hall.sessions < n → ⊥) → old.hall.sessions ≤ 65535 → n ≤ 65535
        most n not few = grind (arith, not, few)
step_ends o e heard old new lines past (hosted.cancels session told said gone) names stands k ends =
    subst (λ (l : List Happened). AreEndings o (l ++ past)) (sym (quiet_none old old new lines (hosted.cancels session told said gone) tt)) ends

-- more of them
pub steps_end : (o : ObjectForm) (e : Begun) (heard : Heard) (old new : Scene) (lines : List ℕ) (past : List Happened) (all : hosted.Steps old lines new) → IsNamed o → Stands o e heard old → Keeps o old → AreEndings o past →
    AreEndings o (ends_of old (all_happen all []) ++ past)
steps_end o e heard old new lines past hosted.rests names stands k ends = ends
steps_end o e heard old new lines past (hosted.does step) names stands k ends = step_ends o e heard old new lines past step names stands k ends
steps_end o e heard old new lines past (hosted.goes_on {mid = mid} {lines = first} {added = added} one more) names stands k ends =
    let told = steps_are_told o e heard old mid first one names stands in
    let was = all_happen one [] in
    let later = all_happen more [] in
    let now = steps_end o e heard old mid first past one names stands k ends in
    let on = steps_end o e (heard_of (all_happen one heard.steps)) mid new added (ends_of old was ++ past) more names told.stands (steps_keep o e heard old mid first one names stands k) now in
    let same : ends_of mid later ++ (ends_of old was ++ past) ≡ ends_of old (all_happen more was) ++ past =
    sym (append_assoc (ends_of mid later) (ends_of old was) past)
    ∙ ap (λ (l : List Happened). (l ++ ends_of old was) ++ past) (ends_alike old mid later (all_alike old mid first one))
    ∙ ap (λ (l : List Happened). l ++ past) (sym (ends_both old later was))
    ∙ ap (λ (l : List Step). ends_of old l ++ past) (sym (all_more mid new added more was)) in
    subst (AreEndings o) same on

-- turns
pub turns_end_so : TurnsEndSo
turns_end_so first last [] [] j o past ends k over are = subst (AreEndings o) (sym over.1) are
turns_end_so first last [] (a ∷ accounts) j o past ends k over are = absurd over
turns_end_so first last (t ∷ turns) [] j o past ends k over are = absurd over
turns_end_so first last (t ∷ turns) (a ∷ accounts) j o past ends k (mid, gives, says, s, there, over) are =
    turns_end_so mid last turns accounts j o (ends_of s (a j) ++ past) ends (keeps_one first mid t.asked t.said t.added j o gives k) over
    (turn_ends t.asked says)
  where
    st : ◌≡◌ {A = Scene} k.stood.scene s
    st = same_Some k.stood.scene s (sym k.stood.there ∙ there)

    went_ends : (lines : List ℕ) (new : Scene) → Went s lines (a j) new → AreEndings o (ends_of s (a j) ++ past)
    went_ends lines new (all, is) =
        subst (λ (l : List Step). AreEndings o (ends_of s l ++ past)) (sym is)
        (steps_end o k.stood.begun k.stood.heard s new lines past all k.stood.names (subst (λ (x : Scene). Stands o k.stood.begun k.stood.heard x) st k.stood.stands) (subst (λ (x : Scene). Keeps o x) st k.keeps) are)

    at_end : length mid.objects.items ≡ length first.objects.items → (now : Scene) × (slice_get mid.objects.items j ≡ Some now)
    at_end count = get_at mid.objects.items j (let within = slice_get_within first.objects.items j s there in omega (arith, within, count))

    turn_ends : (asked : Asked) → SaysIn (seen first) asked t.said t.added a (seen mid) → AreEndings o (ends_of s (a j) ++ past)
    turn_ends (Hears who line end) says = let now = at_end says.went.count in went_ends _ now.0 (says.went.each j s now.0 there now.1)
    turn_ends (Noted note) says = let now = at_end says.went.count in went_ends _ now.0 (says.went.each j s now.0 there now.1)
    turn_ends (Changes journal text begins) says = subst (λ (l : List Step). AreEndings o (ends_of s l ++ past)) (sym (says.1 j)) are

pub held_says_so : HeldAreLines → HeldSaysSo
held_says_so law t j o rules past are h = law ByDone o rules.holds past h.custody.held are h.are
