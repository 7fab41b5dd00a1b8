-- A call that ends was running.
use Rattle.std.proofs.Common.{◌≡◌, inl, inr, Bool, true, false, ◌&&◌, ◌==◌, List, [], ◌∷◌, refl, sym, ap, ◌∙◌, arith}
use Rattle.std.specs.Prelude.{if◌then◌else◌}
use Rattle.std.proofs.lemmas.Bool.Decides.{nat_tests}
use Rattle.path_tree.specs.Trace.{Call, Event, Start, End, IsTrace, IsAmong, without, running_calls}
use Rattle.board_core.proofs.Traces.{fresh_runs}
use Rattle.page_core.specs.ObjectCalls.{AcceptedCall}
use Rattle.board_core.specs.Board.{call_at}
use Rattle.desk_core.specs.Told.{called_of}
use Rattle.word_core.specs.Events.{Called, Happened, began, ended, call_of, trace_of, IsRunning}

-- no two calls have one number
Apart : List Call → Type 0
Apart [] = Unit {0}
Apart (x ∷ calls) = ((c : Call) → IsAmong c calls → c.number ≡ x.number → ⊥) × Apart calls

kept_by : (c x : Call) (calls rest : List Call) (b : Bool) → (IsAmong c rest → IsAmong c calls) → IsAmong c (if b then calls else x ∷ rest) → IsAmong c (x ∷ calls)
kept_by c x calls rest true later h = inr h
kept_by c x calls rest false later (inl here) = inl here
kept_by c x calls rest false later (inr there) = inr (later there)

kept : (d c : Call) (calls : List Call) → IsAmong c (without d calls) → IsAmong c calls
kept d c [] h = absurd h
kept d c (x ∷ calls) h = kept_by c x calls (without d calls) ((x.number == d.number) && (x.operation == d.operation)) (kept d c calls) h

apart_by : (x : Call) (calls rest : List Call) (b : Bool) → Apart (x ∷ calls) → ((c : Call) → IsAmong c rest → IsAmong c calls) → Apart rest → Apart (if b then calls else x ∷ rest)
unfolding Apart
apart_by x calls rest true are later behind = are.1
apart_by x calls rest false are later behind = (λ c among same. are.0 c (later c among) same, behind)

apart_without : (d : Call) (calls : List Call) → Apart calls → Apart (without d calls)
unfolding Apart
apart_without d [] are = tt
apart_without d (x ∷ calls) are = apart_by x calls (without d calls) ((x.number == d.number) && (x.operation == d.operation)) are (λ c. kept d c calls) (apart_without d calls are.1)

running_apart : (t : List Event) → IsTrace t → Apart (running_calls t)
unfolding Apart
running_apart [] trace = tt
running_apart (Start c ∷ t) trace = (λ d among same. fresh_runs c.number t d trace.0 among same, running_apart t trace.1)
running_apart (End c ∷ t) trace = apart_without c (running_calls t) (running_apart t trace.1)

gone_by : (d c x : Call) (calls : List Call) (b : Bool) → ((x.number == d.number) && (x.operation == d.operation)) ≡ b → Apart (x ∷ calls) → IsAmong d (x ∷ calls)
    → (IsAmong d calls → IsAmong c (without d calls) → c.number ≡ d.number → ⊥) → IsAmong c (if b then calls else x ∷ without d calls) → c.number ≡ d.number → ⊥
unfolding Apart
gone_by d c x calls true is are there later h same = are.0 c h (let e : x.number ≡ d.number = grind (arith, nat_tests) in same ∙ sym e)
gone_by d c x calls false is are (inl here) later h same = absurd (grind (arith, nat_tests, here.0, here.1, is))
gone_by d c x calls false is are (inr there) later (inl here) same = are.0 d there (sym same ∙ sym here.0)
gone_by d c x calls false is are (inr there) later (inr behind) same = later there behind same

-- the call that is taken out is there no more
gone : (d c : Call) (calls : List Call) → Apart calls → IsAmong d calls → IsAmong c (without d calls) → c.number ≡ d.number → ⊥
unfolding Apart
gone d c [] are there h same = h
gone d c (x ∷ calls) are there h same = gone_by d c x calls ((x.number == d.number) && (x.operation == d.operation)) refl are there (gone d c calls are.1) h same

-- each call is the accepted one of its number
abbrev pub OfCalls : List AcceptedCall → List Happened → Type 0
OfCalls calls [] = Unit {0}
OfCalls calls (began c ∷ past) = (c ≡ called_of c.number (call_at calls c.number)) × OfCalls calls past
OfCalls calls (ended c reply ∷ past) = (c ≡ called_of c.number (call_at calls c.number)) × OfCalls calls past

-- what paths see as running runs
pub runs : (calls : List AcceptedCall) (past : List Happened) (c : Called) → OfCalls calls past → IsTrace (trace_of past) → c ≡ called_of c.number (call_at calls c.number)
    → IsAmong (call_of c) (running_calls (trace_of past)) → IsRunning c past
runs calls [] c of trace is among = among
runs calls (began d ∷ past) c of trace is (inl here) = inl (of.0 ∙ ap (λ n. called_of n (call_at calls n)) here.0 ∙ sym is)
runs calls (began d ∷ past) c of trace is (inr later) = inr (runs calls past c of.1 trace.1 is later)
runs calls (ended d reply ∷ past) c of trace is among =
    let still = kept (call_of d) (call_of c) (running_calls (trace_of past)) among in
    (λ same. gone (call_of d) (call_of c) (running_calls (trace_of past)) (running_apart (trace_of past) trace.1) trace.0 among (sym same), runs calls past c of.1 trace.1 is still)
