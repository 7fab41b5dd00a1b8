-- Calls that end under keys, and the steps in which they ran.
use Rattle.std.proofs.Common.{◌≡◌, ◌⊎◌, inl, inr, ◌∙◌, ap, sym, subst, refl, ℕ, List, [], ◌∷◌, ◌++◌, Bool, true, false, Option, Some, None, Result, Ok, Err, append_assoc}
use Rattle.std.specs.Prelude.{IfSome, slice_get, if◌then◌else◌}
use Rattle.apply_core.specs.declared.reply.Reply.{Reply}
use Rattle.live_core.specs.declared.call.Ran.{Ran}
use Rattle.guest_core.specs.declared.guest.Guest.{Guest}
use Rattle.guest_core.specs.declared.guests.Entered.{Entered}
use Rattle.guest_core.specs.declared.guests.EnterFault.{EnterFault}
use Rattle.guest_core.specs.declared.kept.Asked.{Asked as Call}
use Rattle.guest_core.specs.declared.seats.SeatHolder.{SeatHolder}
use Rattle.guest_core.specs.declared.seats.SeatHolder.TheVariants.{Void, Free, Nameless, Named, Retired}
use Rattle.guest_core.specs.Guests.{Guests, IsNamed}
use Rattle.guest_core.specs.Keys.{asks}
use Rattle.audit_core.specs.Steps.{Step, ran}
use Rattle.live_core.specs.Calls.{AreRemembered, seat_of}
use Rattle.live_core.specs.Scene.{Scene, told_of}
use Rattle.live_core.specs.HostedSteps as hosted
use Rattle.history_law.specs.Happens.{with_ran as all_ran, happens, all_happen}
use Rattle.history_law.specs.Keys.{KeyEvent, KeyedCall, epoch_began, name_came, call_ended, client_at, client_of}
use Rattle.history_law.specs.Keyed.{ended_as, ended_by, with_ran, with_came, with_step, with_steps}
use Rattle.history_law.proofs.Going.{ran_more, all_more, TellsAlike, all_alike, told_alike}
use Rattle.history_law.specs.Asked.{Claim, AreAsked, AreTheirOwn, HasRunUnder, IsAsked, no_claim}
use Rattle.history_law.specs.Tells.{StepsTellAsked, WasTold}

-- each call of which it is told that it ended is such
abbrev pub Each : (KeyedCall → Type 0) → List KeyEvent → Type 0
Each P [] = Unit {0}
Each P (epoch_began clients ∷ told) = Each P told
Each P (name_came name ∷ told) = Each P told
Each P (call_ended k ∷ told) = P k × Each P told

pub each_at : (P : KeyedCall → Type 0) (newer : List KeyEvent) (k : KeyedCall) (older : List KeyEvent) → Each P (newer ++ call_ended k ∷ older) → P k
each_at P [] k older each = each.0
each_at P (epoch_began clients ∷ newer) k older each = each_at P newer k older each
each_at P (name_came name ∷ newer) k older each = each_at P newer k older each
each_at P (call_ended d ∷ newer) k older each = each_at P newer k older each.1

pub each_told : (P : KeyedCall → Type 0) (told : List KeyEvent) (k : KeyedCall) → Each P told → WasTold told k → P k
each_told P told k each was = each_at P was.newer k was.older (subst (Each P) was.cut each)

-- so is each of these events
own_told : (told newer older : List KeyEvent) → told ≡ newer ++ older → Each (λ (k : KeyedCall). WasTold told k) older
own_told told newer [] cut = tt
own_told told newer (epoch_began clients ∷ older) cut = own_told told (newer ++ epoch_began clients ∷ []) older (cut ∙ sym (append_assoc newer (epoch_began clients ∷ []) older))
own_told told newer (name_came name ∷ older) cut = own_told told (newer ++ name_came name ∷ []) older (cut ∙ sym (append_assoc newer (name_came name ∷ []) older))
own_told told newer (call_ended k ∷ older) cut =
    (record { newer = newer; older = older; cut = cut }, own_told told (newer ++ call_ended k ∷ []) older (cut ∙ sym (append_assoc newer (call_ended k ∷ []) older)))

pub all_told : (told : List KeyEvent) → Each (λ (k : KeyedCall). WasTold told k) told
all_told told = own_told told [] told refl

pub each_map : (P Q : KeyedCall → Type 0) (told : List KeyEvent) → ((k : KeyedCall) → P k → Q k) → Each P told → Each Q told
each_map P Q [] f each = tt
each_map P Q (epoch_began clients ∷ told) f each = each_map P Q told f each
each_map P Q (name_came name ∷ told) f each = each_map P Q told f each
each_map P Q (call_ended k ∷ told) f each = (f k each.0, each_map P Q told f each.1)

-- the client of a session
named_by : (v : Guests) (session : ℕ) (seat : Option SeatHolder) (g : Guest) → slice_get v.seats session ≡ seat → client_at v seat ≡ Some g → (p : ℕ) × IsNamed v session p g
named_by v session (Some (Named p)) g at is = (p, record { seat = at; there = is })
named_by v session (Some Void) g at is = absurd cc
named_by v session (Some Free) g at is = absurd cc
named_by v session (Some Nameless) g at is = absurd cc
named_by v session (Some Retired) g at is = absurd cc
named_by v session None g at is = absurd cc

-- a call that ran is among the steps
run_more : (known : Claim) (first : Scene) (more steps : List Step) (k : KeyedCall) (reply : Reply) → HasRunUnder known first steps k reply → HasRunUnder known first (more ++ steps) k reply
run_more known first more steps k reply is = record {
  call = is.call;
  asked = is.asked;
  is_known = is.is_known;
  told_is = is.told_is;
  now = is.now;
  lines = is.lines;
  since = is.since;
  place = is.place;
  guest = is.guest;
  by = is.by;
  named = is.named;
  later = more ++ is.later;
  before = is.before;
  ran_so = ap (λ (l : List Step). more ++ l) is.ran_so ∙ sym (append_assoc more is.later (ran is.call reply ∷ (is.before ++ all_happen is.since [])));
}

one_asked : (a b : Call) → ◌≡◌ {A = Option Call} (Some a) (Some b) → a ≡ b
one_asked a b is = cc

-- a call was cancelled, and this is known of it
pub record WasLetGo (known : Claim) (k : KeyedCall) : Type 0 where
  pub none : k.call.reply ≡ None
  pub is_known : known k.call.asked k.name k.key

module _ (known : Claim) (P : KeyedCall → Type 0) where
  -- all calls that ran in these steps with a reply are such, and those that were cancelled
  pub record AllUnder (first : Scene) (steps : List Step) : Type 0 where
    pub ran_so : (k : KeyedCall) (reply : Reply) → k.call.reply ≡ Some reply → HasRunUnder known first steps k reply → P k
    pub let_go : (k : KeyedCall) → WasLetGo known k → P k

  pub under_less : (first : Scene) (more steps whole : List Step) → whole ≡ more ++ steps → AllUnder first whole → AllUnder first steps
  under_less first more steps whole cut all = record {
    ran_so = λ k reply replied is. all.ran_so k reply replied (subst (λ (l : List Step). HasRunUnder known first l k reply) (sym cut) (run_more known first more steps k reply is));
    let_go = all.let_go;
  }

  as_ended : (g : Guest) (asked : Option Call) (number : ℕ) (reply : Option Reply) (told : List KeyEvent) →
      ((a : Call) → asked ≡ Some a → P (record { name = g.name; key = g.keys.next; call = record { asked = a; told = number; reply = reply } })) → Each P told → Each P (ended_as g asked number reply ++ told)
  as_ended g None number reply told is each = each
  as_ended g (Some a) number reply told is each = (is a refl, each)

  by_ended : (o : Option Guest) (number : ℕ) (reply : Option Reply) (told : List KeyEvent) →
      ((g : Guest) (a : Call) → o ≡ Some g → g.keys.asked ≡ Some a → P (record { name = g.name; key = g.keys.next; call = record { asked = a; told = number; reply = reply } })) → Each P told →
      Each P (ended_by o number reply ++ told)
  by_ended None number reply told is each = each
  by_ended (Some g) number reply told is each = as_ended g g.keys.asked number reply told (λ a asked. is g a refl asked) each

  ran_each : (first now : Scene) (lines : List ℕ) (since : hosted.Steps first lines now) (s : Scene) (v : Guests) (all : List Ran) (new : Guests) (are : AreRemembered s v all new) → AreTheirOwn known now.guests s v all new are →
      (before : List Step) (told : List KeyEvent) → ((n : ℕ) → told_of s n ≡ told_of first n) → AllUnder first (all_ran all (before ++ all_happen since [])) → Each P told → Each P (with_ran s v all new are told)
  ran_each first now lines since s v [] new are own before told same under each = each
  ran_each first now lines since s v (r ∷ all) new (mid, one, more) (mine, own) before told same under each =
      ran_each first now lines since s mid all new more own (ran r.call r.reply ∷ before) (ended_by (client_of v (seat_of r.call.session)) (told_of s r.call.number) (Some r.reply) ++ told) same under
      (by_ended (client_of v (seat_of r.call.session)) (told_of s r.call.number) (Some r.reply) told (λ g a is asked. ends g a is asked) each)
    where
      ends : (g : Guest) (a : Call) → client_of v (seat_of r.call.session) ≡ Some g → g.keys.asked ≡ Some a →
          P (record { name = g.name; key = g.keys.next; call = record { asked = a; told = told_of s r.call.number; reply = Some r.reply } })
      ends g a is asked =
          let at = named_by v r.call.session (slice_get v.seats r.call.session) g refl (subst (λ n. client_of v n ≡ Some g) mine.session is) in
          let own_call = mine.own at.0 g at.1 in
          let asked_is : a ≡ asks r.call.operation r.call.arguments = one_asked a (asks r.call.operation r.call.arguments) (sym asked ∙ own_call.0.0) in
          under.ran_so (record { name = g.name; key = g.keys.next; call = record { asked = a; told = told_of s r.call.number; reply = Some r.reply } }) r.reply refl (record {
            call = r.call;
            asked = asked_is;
            is_known = subst (λ (x : Call). known x g.name g.keys.next) (sym asked_is) own_call.0.1;
            told_is = same r.call.number;
            now = now;
            lines = lines;
            since = since;
            place = at.0;
            guest = own_call.1.0;
            by = own_call.1.1;
            named = own_call.1.2;
            later = all_ran all [];
            before = before;
            ran_so = ran_more all (ran r.call r.reply ∷ (before ++ all_happen since []));
          })

  came_each : (name : List ℕ) (a : Result Entered EnterFault) (told : List KeyEvent) → Each P told → Each P (with_came name a told)
  came_each name (Ok a) told each = by a.is_new
    where
      by : (b : Bool) → Each P (if b then name_came name ∷ told else told)
      by true = each
      by false = each
  came_each name (Err fault) told each = each

  step_each : (first old new : Scene) (was lines : List ℕ) (since : hosted.Steps first was old) (step : hosted.Step old lines new) → IsAsked known step → (told : List KeyEvent) → AllUnder first (happens step (all_happen since [])) →
      Each P told → Each P (with_step step told)
  step_each first old new was lines since (hosted.comes name now a guests is_name enters) own told under each = came_each name a told each
  step_each first old new was lines since (hosted.gets_number session least) own told under each = each
  step_each first old new was lines since (hosted.leaves session now was_here guests left) own told under each = each
  step_each first old new was lines since (hosted.calls session operation arguments a does) own told under each =
      let tells = does.takes.tells in
      let alike : TellsAlike old does.mid = record { carried = tells.carried; base = tells.base } in
      let before : TellsAlike first old = all_alike first old was since in
      ran_each first old was since does.mid does.mid.guests a.ran.items new.guests does.remembered own [] told
      (λ n. told_alike old does.mid n alike ∙ told_alike first old n before) under each
  step_each first old new was lines since (hosted.cancels session number said gone) own told under each = by_ended (client_of old.guests session) number None told (λ g a is asked. ends g a is asked) each
    where
      ends : (g : Guest) (a : Call) → client_of old.guests session ≡ Some g → g.keys.asked ≡ Some a → P (record { name = g.name; key = g.keys.next; call = record { asked = a; told = number; reply = None } })
      ends g a is asked =
          let at = named_by old.guests session (slice_get old.guests.seats session) g refl is in
          let own_call = own.own at.0 g (subst (λ n. IsNamed old.guests n at.0 g) (sym gone.lets_go.of) at.1) in
          let asked_is : a ≡ asks gone.call.operation gone.call.arguments = one_asked a (asks gone.call.operation gone.call.arguments) (sym asked ∙ own_call.0.0) in
          under.let_go (record { name = g.name; key = g.keys.next; call = record { asked = a; told = number; reply = None } })
          (record { none = refl; is_known = subst (λ (x : Call). known x g.name g.keys.next) (sym asked_is) own_call.0.1 })

  pub steps_each : (first old new : Scene) (was lines : List ℕ) (since : hosted.Steps first was old) (all : hosted.Steps old lines new) → AreAsked known all → (told : List KeyEvent) → AllUnder first (all_happen all (all_happen since [])) →
      Each P told → Each P (with_steps all told)
  steps_each first old new was lines since hosted.rests own told under each = each
  steps_each first old new was lines since (hosted.does step) own told under each = step_each first old new was lines since step own told under each
  steps_each first old new was lines since (hosted.goes_on {mid = mid} {lines = before} {added = added} one more) own told under each =
      let so_far = all_happen one (all_happen since []) in
      steps_each first mid new (was ++ before) added (hosted.goes_on since one) more own.1 (with_steps one told) under
      (steps_each first old mid was before since one own.0 told
      (under_less first (all_happen more []) so_far (all_happen more so_far) (all_more mid new added more so_far) under) each)

-- what was told so is one of these, where it has a reply
pub of_reply : (P : Reply → Type 0) (reply : Option Reply) (r : Reply) → reply ≡ Some r → P r → IfSome reply P
of_reply P reply r is one = subst (λ (x : Option Reply). IfSome x P) (sym is) one

pub none_replied : (P : Reply → Type 0) (reply : Option Reply) → reply ≡ None → IfSome reply P
none_replied P reply is = subst (λ (x : Option Reply). IfSome x P) (sym is) tt

pub any_reply : (P : Reply → Type 0) (reply : Option Reply) → ((r : Reply) → P r) → IfSome reply P
any_reply P None f = tt
any_reply P (Some r) f = f r

pub steps_tell_asked : StepsTellAsked
steps_tell_asked told old new lines all own k reply was is =
    let Is : KeyedCall → Type 0 = λ (x : KeyedCall). IfSome x.call.reply (λ (r : Reply). HasRunUnder no_claim old (all_happen all []) x r ⊎ WasTold told x) in
    subst (λ (x : Option Reply). IfSome x (λ (r : Reply). HasRunUnder no_claim old (all_happen all []) k r ⊎ WasTold told k)) is
    (each_told Is (with_steps all told) k
    (steps_each no_claim Is old old new [] lines hosted.rests all own told (record {
      ran_so = λ x r replied ran. of_reply (λ (y : Reply). HasRunUnder no_claim old (all_happen all []) x y ⊎ WasTold told x) x.call.reply r replied (inl ran);
      let_go = λ x gone. none_replied (λ (y : Reply). HasRunUnder no_claim old (all_happen all []) x y ⊎ WasTold told x) x.call.reply gone.none;
    })
    (each_map (λ (x : KeyedCall). WasTold told x) Is told (λ x before. any_reply (λ (y : Reply). HasRunUnder no_claim old (all_happen all []) x y ⊎ WasTold told x) x.call.reply (λ r. inr before)) (all_told told))) was)
