-- Lines up to the last one at which no call runs.
use Rattle.std.proofs.Common.{◌≡◌, ℕ, zero, suc, List, [], ◌∷◌, ◌++◌, take, refl, sym, ap, ◌∙◌, subst, inl, inr}
use Rattle.std.specs.Prelude.{Option, Some, None}
use Rattle.path_tree.specs.Path.{Path}
use Rattle.path_tree.specs.Trace.{Event}
use Rattle.path_tree.specs.Satisfies.{SatisfiesAll}
use Rattle.decl_core.specs.ObjectForm.{ObjectForm}
use Rattle.apply_core.proofs.Histories.{legal_by_one}
use Rattle.word_core.specs.Events.{Called, end_of, history_of}
use Rattle.audit_core.specs.EpochSaid.{Says, Asked, a_start}
use Rattle.audit_core.specs.Steps.{Step, Begun, Heard, nothing_heard, happened_of, trace_by}
use Rattle.audit_core.specs.EpochTells.{Tells, Tell, start_told, end_told, cancel_told, name_told}
use Rattle.audit_core.specs.Sound.{IsSound, IsPlayed, with_running}

front_satisfied : (paths : List Path) (event : Event) (t : List Event) → SatisfiesAll paths (event ∷ t) → SatisfiesAll paths t
front_satisfied [] event t h = tt
front_satisfied (p ∷ paths) event t h = (h.0.1, front_satisfied paths event t h.1)

rests_satisfied : (paths : List Path) (t : List Event) (running : Option Called) → SatisfiesAll paths (with_running running t) → SatisfiesAll paths t
rests_satisfied paths t None h = h
rests_satisfied paths t (Some c) h = front_satisfied paths _ t h

started_before : (paths : List Path) (t : List Event) (running : Option Called) → running ≡ None → SatisfiesAll paths t → SatisfiesAll paths (with_running running t)
started_before paths t running none h = subst (λ r. SatisfiesAll paths (with_running r t)) (sym none) h

started_so : (paths : List Path) (t : List Event) (running : Option Called) (c : Called) → running ≡ Some c → SatisfiesAll paths (with_running (Some c) t) → SatisfiesAll paths (with_running running t)
started_so paths t running c some h = subst (λ r. SatisfiesAll paths (with_running r t)) (sym some) h

-- one line back
pub step_back : (o : ObjectForm) (e : Begun) (heard : Heard) (line : List ℕ) (after : Heard) → Tells o e heard line after → IsSound o e after → IsSound o e heard
step_back o e heard line after (start_told {call = c} says is few) s = record {
  satisfied = started_before o.paths (trace_by e heard.steps) heard.running is.rests (front_satisfied o.paths _ (trace_by e heard.steps) s.satisfied);
  legal = s.legal;
}
step_back o e heard line after (end_told {reply = r} {call = c} says runs same) s = record {
  satisfied = started_so o.paths (trace_by e heard.steps) heard.running c runs (front_satisfied o.paths _ (with_running (Some c) (trace_by e heard.steps)) s.satisfied);
  legal = ((legal_by_one (history_of o (happened_of heard.steps)) (end_of o c r) e.opening).0 s.legal).0;
}
step_back o e heard line after (cancel_told says is) s = record {
  satisfied = started_before o.paths (trace_by e heard.steps) heard.running is.rests (rests_satisfied o.paths (trace_by e heard.steps) heard.running s.satisfied);
  legal = s.legal;
}
step_back o e heard line after (name_told says rests is spelled) s = record {
  satisfied = started_before o.paths (trace_by e heard.steps) heard.running rests (rests_satisfied o.paths (trace_by e heard.steps) heard.running s.satisfied);
  legal = s.legal;
}

pub all_back : (o : ObjectForm) (e : Begun) (heard : Heard) (lines : List (List ℕ)) (after : Heard) → Tell o e heard lines after → IsSound o e after → IsSound o e heard
all_back o e heard [] after told s = subst (IsSound o e) told s
all_back o e heard (line ∷ lines) after told s = step_back o e heard line told.0 told.1 (all_back o e told.0 lines after told.2 s)

pub cut : (o : ObjectForm) (e : Begun) (first heard : Heard) (all : List (List ℕ)) (k : ℕ) → Tell o e first all heard → IsSound o e heard →
    (mid : Heard) × Tell o e first (take k all) mid × IsSound o e mid
cut o e first heard all zero told s = (first, refl, all_back o e first all heard told s)
cut o e first heard [] (suc k) told s = (first, refl, subst (IsSound o e) told s)
cut o e first heard (line ∷ all) (suc k) told s =
    let later = cut o e told.0 heard all k told.2 s in (later.0, (told.0, told.1, later.1), later.2)

some_none : {X : Type 0} {x : X} → ◌≡◌ {A = Option X} None (Some x) → ⊥
some_none is = cc

last_of : (o : ObjectForm) (e : Begun) (first after : Heard) (line : List ℕ) (c : Called) → Tells o e first line after → after.running ≡ Some c → ◌≡◌ {A = Heard} (record { steps = after.steps; running = None }) first
last_of o e first after line c (start_told says is few) runs = ap (λ x. record { steps = first.steps; running = x }) (sym is.rests)
last_of o e first after line c (end_told says was same) runs = absurd (some_none runs)
last_of o e first after line c (cancel_told says is) runs = absurd (some_none (sym is.rests ∙ runs))
last_of o e first after line c (name_told says rests is spelled) runs = absurd (some_none (sym rests ∙ runs))

-- a line behind which a call runs tells that it started
start_said : (o : ObjectForm) (e : Begun) (first after : Heard) (line : List ℕ) (c : Called) → Tells o e first line after → after.running ≡ Some c → (asked : Asked) × Says line (a_start asked)
start_said o e first after line c (start_told {asked = asked} says is few) runs = (asked, says)
start_said o e first after line c (end_told says was same) runs = absurd (some_none runs)
start_said o e first after line c (cancel_told says is) runs = absurd (some_none (sym is.rests ∙ runs))
start_said o e first after line c (name_told says rests is spelled) runs = absurd (some_none (sym rests ∙ runs))

-- all but the last of these lines
record AllButOne (o : ObjectForm) (e : Begun) (first after : Heard) (all : List (List ℕ)) : Type 0 where
  pub kept : List (List ℕ)
  pub last : List ℕ
  pub started : (asked : Asked) × Says last (a_start asked)
  pub cut_so : all ≡ kept ++ last ∷ []
  pub told : Tell o e first kept (record { steps = after.steps; running = None })

but_one : (o : ObjectForm) (e : Begun) (first after : Heard) (line : List ℕ) (more : List (List ℕ)) (c : Called) → Tell o e first (line ∷ more) after → after.running ≡ Some c → AllButOne o e first after (line ∷ more)
but_one o e first after line [] c told runs =
    let one : Tells o e first line after = subst (Tells o e first line) (sym told.2) told.1 in
    record { kept = []; last = line; started = start_said o e first after line c one runs; cut_so = refl; told = last_of o e first after line c one runs }
but_one o e first after line (l ∷ more) c told runs =
    let rest = but_one o e told.0 after l more c told.2 runs in
    record { kept = line ∷ rest.kept; last = rest.last; started = rest.started; cut_so = ap (λ ls. line ∷ ls) rest.cut_so; told = (told.0, told.1, rest.told) }

played_by : (o : ObjectForm) (e : Begun) (all : List (List ℕ)) (heard : Heard) (running : Option Called) → heard.running ≡ running → Tell o e nothing_heard all heard → IsSound o e (record { steps = heard.steps; running = None }) →
    IsPlayed o e all (record { steps = heard.steps; running = None })
played_by o e all heard None is told sound = record {
  kept = all;
  cut = inl refl;
  told = subst (Tell o e nothing_heard all) (ap (λ x. record { steps = heard.steps; running = x }) is) told;
  rests = refl;
  sound = sound;
}
played_by o e [] heard (Some c) is told sound = absurd (some_none (sym (ap (λ (h : Heard). h.running) told) ∙ is))
played_by o e (line ∷ more) heard (Some c) is told sound =
    let one = but_one o e nothing_heard heard line more c told is in
    record { kept = one.kept; cut = inr (one.last, one.started.0, one.started.1, one.cut_so); told = one.told; rests = refl; sound = sound }

rested_sound : (o : ObjectForm) (e : Begun) (heard : Heard) → IsSound o e heard → IsSound o e (record { steps = heard.steps; running = None })
rested_sound o e heard s = record { satisfied = rests_satisfied o.paths (trace_by e heard.steps) heard.running s.satisfied; legal = s.legal }

-- lines that were told and are sound are played
pub told_played : (o : ObjectForm) (e : Begun) (all : List (List ℕ)) (heard : Heard) → Tell o e nothing_heard all heard → IsSound o e heard → IsPlayed o e all (record { steps = heard.steps; running = None })
told_played o e all heard told s = played_by o e all heard heard.running refl told (rested_sound o e heard s)

pub cut_played : (o : ObjectForm) (e : Begun) (all : List (List ℕ)) (heard : Heard) (k : ℕ) → Tell o e nothing_heard all heard → IsSound o e heard → (steps : List Step) × IsPlayed o e (take k all) (record { steps = steps; running = None })
cut_played o e all heard k told s =
    let one = cut o e nothing_heard heard all k told s in
    (one.0.steps, told_played o e (take k all) one.0 one.1 one.2)
