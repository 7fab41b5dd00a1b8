-- Objects that go on, and what happened to them.
use Rattle.std.proofs.Common.{◌≡◌, ◌≢◌, inl, inr, ◌∙◌, ap, sym, subst, refl, arith, ℕ, zero, suc, ◌<◌, List, [], ◌∷◌, ◌++◌, length, append_assoc, eqb-true}
use Rattle.std.specs.Prelude.{Bool, true, false, Some, None, Option, Result, Ok, Err, slice_get, slice_set, if◌then◌else◌, ◌==◌}
use Rattle.std.proofs.lemmas.Bool.Decides.{eqb_tells}
use Rattle.std.proofs.lemmas.List.{append-nil, length-set}
use Rattle.std.proofs.lemmas.Option.{same_Some, slice_get_within}
use Rattle.apply_core.specs.declared.reply.Reply.{Reply}
use Rattle.word_core.specs.Events.{Called}
use Rattle.live_core.specs.declared.call.Ran.{Ran}
use Rattle.live_core.specs.Hall.{Every}
use Rattle.guest_core.specs.declared.guests.Entered.{Entered}
use Rattle.guest_core.specs.declared.guests.EnterFault.{EnterFault}
use Rattle.guest_core.specs.declared.seats.SeatHolder.{SeatHolder}
use Rattle.guest_core.specs.declared.seats.SeatHolder.TheVariants.{Void, Free, Nameless, Named, Retired}
use Rattle.audit_core.specs.Steps.{Step, ran, named}
use Rattle.live_core.specs.Scene.{Scene, told_of}
use Rattle.live_core.specs.HostedSteps as hosted
use Rattle.live_core.specs.HostedSteps.{Steps, rests, goes_on}
use Rattle.history_law.specs.Happens.{with_ran, with_entered, with_cancelled, happens, all_happen}
use Rattle.keep_loop.specs.Texts.{to}
use Rattle.client_core.specs.Deeds.{Texts}
use Rattle.client_core.proofs.Moving.{to_more}
use Rattle.history_law.specs.Said.{Account, Went, AllWent, HasRun, HasRemembered, IsTrue}

-- what more things do stands before the steps of before

pub ran_more : (all : List Ran) (steps : List Step) → with_ran all steps ≡ with_ran all [] ++ steps
ran_more [] steps = refl
ran_more (r ∷ all) steps =
    ran_more all (ran r.call r.reply ∷ steps) ∙ sym (append_assoc (with_ran all []) (ran r.call r.reply ∷ []) steps)
    ∙ ap (λ (l : List Step). l ++ steps) (sym (ran_more all (ran r.call r.reply ∷ [])))

entered_more : (name : List ℕ) (a : Result Entered EnterFault) (steps : List Step) → with_entered name a steps ≡ with_entered name a [] ++ steps
entered_more name (Ok a) steps = by a.is_new
  where
    by : (b : Bool) → (if b then named a.session name ∷ steps else steps) ≡ (if b then named a.session name ∷ [] else []) ++ steps
    by true = refl
    by false = refl
entered_more name (Err fault) steps = refl

cancelled_more : (seat : Option SeatHolder) (c : Called) (steps : List Step) → with_cancelled seat c steps ≡ with_cancelled seat c [] ++ steps
cancelled_more (Some (Named place)) c steps = refl
cancelled_more (Some Void) c steps = refl
cancelled_more (Some Free) c steps = refl
cancelled_more (Some Nameless) c steps = refl
cancelled_more (Some Retired) c steps = refl
cancelled_more None c steps = refl

one_more : (old new : Scene) (lines : List ℕ) (step : hosted.Step old lines new) (steps : List Step) → happens step steps ≡ happens step [] ++ steps
one_more old new lines (hosted.comes name now a guests is_name enters) steps = entered_more name a steps
one_more old new lines (hosted.gets_number session least) steps = refl
one_more old new lines (hosted.leaves session now was_here guests left) steps = refl
one_more old new lines (hosted.calls session operation arguments a does) steps = ran_more a.ran.items steps
one_more old new lines (hosted.cancels session told said gone) steps = cancelled_more (slice_get old.guests.seats session) gone.call steps

pub all_more : (old new : Scene) (lines : List ℕ) (all : Steps old lines new) (steps : List Step) → all_happen all steps ≡ all_happen all [] ++ steps
all_more old new lines hosted.rests steps = refl
all_more old new lines (hosted.does step) steps = one_more old new lines step steps
all_more old new lines (hosted.goes_on {mid = mid} {lines = before} {added = added} first more) steps =
    let was = all_happen first [] in
    all_more mid new added more (all_happen first steps) ∙ ap (λ (l : List Step). all_happen more [] ++ l) (all_more old mid before first steps)
    ∙ sym (append_assoc (all_happen more []) was steps) ∙ ap (λ (l : List Step). l ++ steps) (sym (all_more mid new added more was))

-- each call is told by the same number all along

pub record TellsAlike (old new : Scene) : Type 0 where
  pub carried : new.carried ≡ old.carried
  pub base : new.base ≡ old.base

one_alike : (old new : Scene) (lines : List ℕ) → hosted.Step old lines new → TellsAlike old new
one_alike old new lines (hosted.comes name now a guests is_name enters) = record { carried = refl; base = refl }
one_alike old new lines (hosted.gets_number session least) = record { carried = refl; base = refl }
one_alike old new lines (hosted.leaves session now was_here guests left) = record { carried = refl; base = refl }
one_alike old new lines (hosted.calls session operation arguments a does) = record {
  carried = ap (λ (s : Scene). s.carried) does.left ∙ does.takes.tells.carried;
  base = ap (λ (s : Scene). s.base) does.left ∙ does.takes.tells.base;
}
one_alike old new lines (hosted.cancels session told said gone) = record { carried = gone.lets_go.tells.carried; base = gone.lets_go.tells.base }

pub all_alike : (old new : Scene) (lines : List ℕ) → Steps old lines new → TellsAlike old new
all_alike old new lines hosted.rests = record { carried = refl; base = refl }
all_alike old new lines (hosted.does step) = one_alike old new lines step
all_alike old new lines (hosted.goes_on {mid = mid} {lines = before} {added = added} first more) =
    let a = all_alike old mid before first in
    let b = all_alike mid new added more in
    record { carried = b.carried ∙ a.carried; base = b.base ∙ a.base }

pub told_alike : (old new : Scene) (number : ℕ) → TellsAlike old new → told_of new number ≡ told_of old number
told_alike old new number alike =
    ap (λ (l : List ℕ). told_of (record new { carried = l }) number) alike.carried ∙ ap (λ n. told_of (record new { carried = old.carried; base = n }) number) alike.base

-- objects

pub get_at : (xs : List Scene) (j : ℕ) → j < length xs → (m : Scene) × (slice_get xs j ≡ Some m)
get_at [] j within = absurd (omega (arith, within))
get_at (x ∷ xs) zero within = (x, refl)
get_at (x ∷ xs) (suc j) within = get_at xs j (omega (arith, within))

-- nothing happened
abbrev pub no_account : Account
no_account = λ j. []

-- more happened
abbrev pub both : Account → Account → Account
both first more = λ j. more j ++ first j

pub went_none : (scenes : List Scene) → AllWent scenes [] no_account scenes
went_none scenes = record {
  count = refl;
  each = λ j h k was is. subst (λ x. Went h [] [] x) (same_Some h k (sym was ∙ is)) (rests, refl);
}

went_both : (h m k : Scene) (lines added : List ℕ) (first more : List Step) → Went h lines first m → Went m added more k → Went h (lines ++ added) (more ++ first) k
went_both h m k lines added first more (one, was) (two, now) = (
  goes_on one two,
  ap (λ (l : List Step). l ++ first) now ∙ ap (λ (l : List Step). all_happen two [] ++ l) was ∙ sym (all_more m k added two (all_happen one [])),
)

pub went_then : (a b c : List Scene) (added further : Texts) (first more : Account) → AllWent a added first b → AllWent b further more c → AllWent a (added ++ further) (both first more) c
went_then a b c added further first more one two = record {
  count = two.count ∙ one.count;
  each = λ j h k was is.
      let within : j < length b = omega (arith, slice_get_within c j k is, two.count) in
      let m = get_at b j within in
      subst (λ lines. Went h lines (more j ++ first j) k) (sym (to_more j added further))
      (went_both h m.0 k (to j added) (to j further) (first j) (more j) (one.each j h m.0 was m.1) (two.each j m.0 k m.1 is));
}

set_here : (xs : List Scene) (k : ℕ) (z x y : Scene) → slice_get xs k ≡ Some z → slice_get (slice_set xs k x) k ≡ Some y → x ≡ y
set_here [] k z x y there is = absurd (grind (arith, there))
set_here (w ∷ xs) zero z x y there is = same_Some x y is
set_here (w ∷ xs) (suc k) z x y there is = set_here xs k z x y there is

set_other : (xs : List Scene) (i j : ℕ) (x : Scene) → i ≢ j → slice_get (slice_set xs i x) j ≡ slice_get xs j
set_other [] i j x ne = refl
set_other (y ∷ xs) zero zero x ne = absurd (ne refl)
set_other (y ∷ xs) zero (suc j) x ne = refl
set_other (y ∷ xs) (suc i) zero x ne = refl
set_other (y ∷ xs) (suc i) (suc j) x ne = set_other xs i j x (λ e. ne (ap suc e))

apart : (m n : ℕ) → (m == n) ≡ false → m ≢ n
apart m n h same = elim (eqb_tells m n) [ inl x ↦ absurd (let e : true ≡ false = sym x.0 ∙ h in cc) | inr x ↦ x.1 same ]

-- this happened to one object, and nothing to the others
abbrev pub at_one : ℕ → List Step → Account
at_one at steps = λ j. if at == j then steps else []

pub at_own : (at : ℕ) (steps : List Step) → at_one at steps at ≡ steps
at_own at steps = elim (eqb_tells at at) [ inl x ↦ ap (λ (b : Bool). if b then steps else []) x.0 | inr x ↦ absurd (x.1 refl) ]

pub went_one : (scenes : List Scene) (at : ℕ) (old new : Scene) (lines : List ℕ) → slice_get scenes at ≡ Some old → (goes : Steps old lines new) →
    AllWent scenes ((at, lines) ∷ []) (at_one at (all_happen goes [])) (slice_set scenes at new)
went_one scenes at old new lines there goes = record {
  count = length-set scenes at new;
  each = λ j h k was is. one j h k was is (at == j) refl;
}
  where
    one : (j : ℕ) (h k : Scene) → slice_get scenes j ≡ Some h → slice_get (slice_set scenes at new) j ≡ Some k → (b : Bool) → (at == j) ≡ b →
        Went h ((if at == j then lines else []) ++ []) (if at == j then all_happen goes [] else []) k
    one j h k was is true same =
        let at_is : at ≡ j = eqb-true at j same in
        let h_is : old ≡ h = same_Some old h (sym there ∙ ap (slice_get scenes) at_is ∙ was) in
        let k_is : new ≡ k = set_here scenes at old new k there (subst (λ n. slice_get (slice_set scenes at new) n ≡ Some k) (sym at_is) is) in
        subst (λ b. Went h ((if b then lines else []) ++ []) (if b then all_happen goes [] else []) k) (sym same)
        (subst (λ l. Went h l (all_happen goes []) k) (sym (append-nil lines))
        (subst (λ x. Went h lines (all_happen goes []) x) k_is (subst (λ x. Went x lines (all_happen goes []) new) h_is (goes, refl))))
    one j h k was is false other =
        let same : h ≡ k = same_Some h k (sym was ∙ sym (set_other scenes at j new (apart at j other)) ∙ is) in
        subst (λ b. Went h ((if b then lines else []) ++ []) (if b then all_happen goes [] else []) k) (sym other) (subst (λ x. Went h [] [] x) same (rests, refl))

none_to : (at j : ℕ) → to j ((at, []) ∷ []) ≡ []
none_to at j = by (at == j)
  where
    nothing : List ℕ
    nothing = []

    by : (b : Bool) → (if b then nothing else nothing) ++ nothing ≡ nothing
    by true = refl
    by false = refl

-- one object goes on, and no line tells of it
pub went_quiet : (scenes : List Scene) (at : ℕ) (old new : Scene) → slice_get scenes at ≡ Some old → (goes : Steps old [] new) →
    AllWent scenes [] (at_one at (all_happen goes [])) (slice_set scenes at new)
went_quiet scenes at old new there goes =
    let m = went_one scenes at old new [] there goes in
    record { count = m.count; each = λ j h k was is. subst (λ l. Went h l (at_one at (all_happen goes []) j) k) (none_to at j) (m.each j h k was is) }

-- what is true of a part of what happened is true of all of it

run_before : (objects : List Scene) (first more : Account) (n : ℕ) (reply : Reply) → HasRun objects first n reply → HasRun objects (both first more) n reply
run_before objects first more n reply is = record {
  object = is.object;
  scene = is.scene;
  there = is.there;
  call = is.call;
  later = more is.object ++ is.later;
  before = is.before;
  ran_so = ap (λ (l : List Step). more is.object ++ l) is.ran_so ∙ sym (append_assoc (more is.object) is.later (ran is.call reply ∷ is.before));
  told_is = is.told_is;
}

kept_before : (objects : List Scene) (first more : Account) (n : ℕ) (reply : Reply) → HasRemembered objects first n reply → HasRemembered objects (both first more) n reply
kept_before objects first more n reply is = record {
  object = is.object;
  scene = is.scene;
  there = is.there;
  now = is.now;
  lines = is.lines;
  since = is.since;
  later = more is.object ++ is.later;
  moment = ap (λ (l : List Step). more is.object ++ l) is.moment ∙ sym (append_assoc (more is.object) is.later (all_happen is.since []));
  session = is.session;
  key = is.key;
  asked = is.asked;
  repeats = is.repeats;
}

pub true_before : (objects : List Scene) (first more : Account) (text : List ℕ) → IsTrue objects first text → IsTrue objects (both first more) text
true_before objects first more text (inl (n, reply, inl (is, run))) = inl (n, reply, inl (is, run_before objects first more n reply run))
true_before objects first more text (inl (n, reply, inr (is, kept))) = inl (n, reply, inr (is, kept_before objects first more n reply kept))
true_before objects first more text (inr none) = inr none

-- the object that stood at a place before
was_at : (a b : List Scene) (added : Texts) (first : Account) (j : ℕ) (m : Scene) → AllWent a added first b → slice_get b j ≡ Some m →
    (h : Scene) × (slice_get a j ≡ Some h) × Went h (to j added) (first j) m
was_at a b added first j m went there =
    let within : j < length a = omega (arith, slice_get_within b j m there, went.count) in
    let h = get_at a j within in
    (h.0, h.1, went.each j h.0 m h.1 there)

run_behind : (a b : List Scene) (added : Texts) (first more : Account) (n : ℕ) (reply : Reply) → AllWent a added first b → HasRun b more n reply → HasRun a (both first more) n reply
run_behind a b added first more n reply went is =
    let was = was_at a b added first is.object is.scene went is.there in
    record {
      object = is.object;
      scene = was.0;
      there = was.1;
      call = is.call;
      later = is.later;
      before = is.before ++ first is.object;
      ran_so = ap (λ (l : List Step). l ++ first is.object) is.ran_so ∙ append_assoc is.later (ran is.call reply ∷ is.before) (first is.object);
      told_is = is.told_is ∙ told_alike was.0 is.scene is.call.number (all_alike was.0 is.scene (to is.object added) was.2.0);
    }

kept_behind : (a b : List Scene) (added : Texts) (first more : Account) (n : ℕ) (reply : Reply) → AllWent a added first b → HasRemembered b more n reply → HasRemembered a (both first more) n reply
kept_behind a b added first more n reply went is =
    let was = was_at a b added first is.object is.scene went is.there in
    let since = was.2.0 in
    record {
      object = is.object;
      scene = was.0;
      there = was.1;
      now = is.now;
      lines = to is.object added ++ is.lines;
      since = goes_on since is.since;
      later = is.later;
      moment = ap (λ (l : List Step). l ++ first is.object) is.moment ∙ append_assoc is.later (all_happen is.since []) (first is.object)
          ∙ ap (λ (l : List Step). is.later ++ (all_happen is.since [] ++ l)) was.2.1
          ∙ ap (λ (l : List Step). is.later ++ l) (sym (all_more is.scene is.now is.lines is.since (all_happen since [])));
      session = is.session;
      key = is.key;
      asked = is.asked;
      repeats = is.repeats;
    }

pub true_behind : (a b : List Scene) (added : Texts) (first more : Account) (text : List ℕ) → AllWent a added first b → IsTrue b more text → IsTrue a (both first more) text
true_behind a b added first more text went (inl (n, reply, inl (is, run))) = inl (n, reply, inl (is, run_behind a b added first more n reply went run))
true_behind a b added first more text went (inl (n, reply, inr (is, kept))) = inl (n, reply, inr (is, kept_behind a b added first more n reply went kept))
true_behind a b added first more text went (inr none) = inr none

-- of all texts

pub every_map : {X : Type 0} (P Q : X → Type 0) (xs : List X) → ((x : X) → P x → Q x) → Every P xs → Every Q xs
every_map P Q [] f all = tt
every_map P Q (x ∷ xs) f (one, all) = (f x one, every_map P Q xs f all)

pub every_both : {X : Type 0} (P : X → Type 0) (xs ys : List X) → Every P xs → Every P ys → Every P (xs ++ ys)
every_both P [] ys all more = more
every_both P (x ∷ xs) ys (one, all) more = (one, every_both P xs ys all more)
