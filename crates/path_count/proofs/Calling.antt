-- What a start and a finish are told, from what counters answer.
use Rattle.std.proofs.Common.{◌≡◌, ℕ, ◌+◌, ◌<◌, ◌≤◌, inl, inr, Bool, true, false, List, [], ◌∷◌, codes, refl, arith, if◌then◌else◌, ◌==◌}
use Rattle.path_tree.specs.Path.{Path}
use Rattle.path_tree.specs.Trace.{Call, Event, Start, End, IsFresh, IsAmong, IsTrace, running_calls, starts, ends}
use Rattle.path_tree.specs.Satisfies.{MayStart}
use Rattle.path_tree.proofs.CountLaws.{of_operation, started_or}
use Rattle.std.proofs.lemmas.Bool.Decides.{nat_tests}
use Rattle.value_core.specs.Reply.{reply}
use Rattle.path_count.specs.State.{State}
use Rattle.path_count.specs.Stands.{StandsFor, started_calls}
use Rattle.path_count.specs.Calls.{StartAnswer, FinishAnswer, started, finished}

-- from some number on, no call of a trace has the number
pub fresh_from : (t : List Event) → (least : ℕ) × ((number : ℕ) → least ≤ number → IsFresh number t)
fresh_from [] = (0, λ number above. tt)
fresh_from (Start call ∷ past) =
    let before = fresh_from past in
    (before.0 + call.number + 1, λ number above. ((λ same. absurd (omega arith)), before.1 number (omega arith)))
fresh_from (End call ∷ past) = fresh_from past

some_step : (same : Bool) (op : ℕ) (c : Call) (calls : List Call) → (c.operation == op) ≡ same
    → (0 < of_operation op calls → (call : Call) × (call.operation ≡ op) × IsAmong call (c ∷ calls))
    → 0 < (if same then 1 else 0) + of_operation op calls → (call : Call) × (call.operation ≡ op) × IsAmong call (c ∷ calls)
some_step true op c calls is later some = (c, grind (arith, nat_tests), inl (refl, refl))
some_step false op c calls is later some = later (omega arith)

-- where some of these calls are of an operation, one is
pub some_of_operation : (op : ℕ) (calls : List Call) → 0 < of_operation op calls → (call : Call) × (call.operation ≡ op) × IsAmong call calls
some_of_operation op [] some = absurd (omega arith)
some_of_operation op (c ∷ calls) some =
    some_step (c.operation == op) op c calls refl (λ rest. let one = some_of_operation op calls rest in (one.0, one.1, inr one.2)) some

pub told_started : (after : State) (n : ℕ) (paths : List Path) (t : List Event) (op : ℕ) (name : List ℕ) → started_calls t < 65536 → MayStart paths op t
    → ((call : Call) → call.operation ≡ op → IsFresh call.number t → StandsFor after n paths (Start call ∷ t))
    → (later : List Event) × StandsFor after n paths later × StartAnswer paths t op name (reply (codes "started ") name) later
told_started after n paths t op name few may taken =
    let least = fresh_from t in
    let call : Call = record { number = least.0; operation = op } in
    let fresh : IsFresh call.number t = least.1 least.0 (omega arith) in
    (Start call ∷ t, taken call refl fresh, started few may refl fresh)

pub told_finished : (after : State) (n : ℕ) (paths : List Path) (t : List Event) (op : ℕ) (name : List ℕ) → IsTrace t → ends op t < starts op t
    → ((call : Call) → call.operation ≡ op → IsAmong call (running_calls t) → StandsFor after n paths (End call ∷ t))
    → (later : List Event) × StandsFor after n paths later × FinishAnswer t op name (reply (codes "finished ") name) later
told_finished after n paths t op name trace runs ended =
    let one = some_of_operation op (running_calls t) (omega (arith, started_or op t trace)) in
    (End one.0 ∷ t, ended one.0 one.1 one.2, finished one.1 one.2)

-- a test has one answer
pub clash : {P : Type 0} (b : Bool) → b ≡ true → b ≡ false → P
clash b is isnt = cc

pub not_below : (a b : ℕ) → (a < b → ⊥) → b ≤ a
not_below a b above = omega arith
