-- What happened, as paths see it.
use Rattle.std.proofs.Common.{◌≡◌, ◌≢◌, ℕ, zero, suc, inl, inr, Bool, true, false, ◌&&◌, ◌==◌, List, [], ◌∷◌, ◌++◌, length, Some, refl, sym, ◌∙◌, ap, subst}
use Rattle.std.specs.Prelude.{slice_get, if◌then◌else◌}
use Rattle.std.specs.List.{fold}
use Rattle.std.proofs.lemmas.List.Sums.{fold-append}
use Rattle.std.proofs.lemmas.Bool.Decides.{eqb_tells}
use Rattle.path_tree.specs.Path.{Path}
use Rattle.path_tree.specs.Trace.{Event, IsFresh, IsAmong, running_calls, without, Start as Began, End as Ended}
use Rattle.path_tree.specs.Trace.{Call as PathCall}
use Rattle.path_tree.specs.Satisfies.{Satisfies, SatisfiesAll}
use Rattle.path_tree.proofs.CountLaws.{end_satisfies}
use Rattle.page_core.proofs.ListBytes.{some_same}
use Rattle.page_core.proofs.Lists.{true_false}
use Rattle.apply_core.specs.declared.reply.Reply.{Reply}
use Rattle.board_core.specs.declared.event.TraceEvent.{TraceEvent}
use Rattle.board_core.specs.declared.event.TraceEvent.TheVariants.{Start, End}
use Rattle.page_core.specs.Lists.{Every}
use Rattle.page_core.specs.ObjectCalls.{AcceptedCall}
use Rattle.board_core.specs.Board.{call_at, operation_place, path_event, path_trace}
use Rattle.board_core.specs.Sound.{IsNumbered, event_number, as_path}

get-append : {X : Type 0} (xs ys : List X) (k : ℕ) (x : X) → slice_get xs k ≡ Some x → slice_get (xs ++ ys) k ≡ Some x
get-append [] ys k x is = absurd cc
get-append (y ∷ xs) ys zero x is = is
get-append (y ∷ xs) ys (suc k) x is = get-append xs ys k x is

get-last : {X : Type 0} (xs : List X) (x : X) → slice_get (xs ++ x ∷ []) (length xs) ≡ Some x
get-last [] x = refl
get-last (y ∷ xs) x = get-last xs x

-- a call keeps its number
pub call_at-more : (calls : List AcceptedCall) (c call : AcceptedCall) (n : ℕ) → call_at calls n ≡ Some call → call_at (calls ++ c ∷ []) n ≡ Some call
call_at-more calls c call zero is = absurd cc
call_at-more calls c call (suc k) is = get-append calls (c ∷ []) k call is

-- a new call has the next number
pub call_at-new : (calls : List AcceptedCall) (c : AcceptedCall) → call_at (calls ++ c ∷ []) (suc (length calls)) ≡ Some c
call_at-new calls c = get-last calls c

pub numbered-more : (calls : List AcceptedCall) (c : AcceptedCall) (n : ℕ) → IsNumbered calls n → IsNumbered (calls ++ c ∷ []) n
numbered-more calls c n h = (h.0, call_at-more calls c h.0 n h.1)

event-more : (calls : List AcceptedCall) (c : AcceptedCall) (e : TraceEvent) → IsNumbered calls (event_number e) → path_event (calls ++ c ∷ []) e ≡ path_event calls e
event-more calls c (Start n) h = ap (λ o. Began (record { number = n; operation = operation_place o })) (call_at-more calls c h.0 n h.1 ∙ sym h.1)
event-more calls c (End n reply) h = ap (λ o. Ended (record { number = n; operation = operation_place o })) (call_at-more calls c h.0 n h.1 ∙ sym h.1)

trace-more : (calls : List AcceptedCall) (c : AcceptedCall) (trace : List TraceEvent) (past : List Event) → Every (λ e. IsNumbered calls (event_number e)) trace
    → fold (λ past e. path_event (calls ++ c ∷ []) e ∷ past) past trace ≡ fold (λ past e. path_event calls e ∷ past) past trace
trace-more calls c [] past all = refl
trace-more calls c (e ∷ es) past all =
    ap (λ x. fold (λ past e. path_event (calls ++ c ∷ []) e ∷ past) (x ∷ past) es) (event-more calls c e all.0)
    ∙ trace-more calls c es (path_event calls e ∷ past) all.1

-- a new call has done nothing
pub path_trace-more : (calls : List AcceptedCall) (c : AcceptedCall) (trace : List TraceEvent) → Every (λ e. IsNumbered calls (event_number e)) trace
    → path_trace (calls ++ c ∷ []) trace ≡ path_trace calls trace
path_trace-more calls c trace all = trace-more calls c trace [] all

pub path_trace-snoc : (calls : List AcceptedCall) (trace : List TraceEvent) (e : TraceEvent) → path_trace calls (trace ++ e ∷ []) ≡ path_event calls e ∷ path_trace calls trace
path_trace-snoc calls trace e = fold-append (λ past event. path_event calls event ∷ past) [] trace (e ∷ [])

-- a start and an end of the call of this number
pub start_event : (calls : List AcceptedCall) (n : ℕ) (call : AcceptedCall) → call_at calls n ≡ Some call → path_event calls (Start n) ≡ Began (as_path n call)
start_event calls n call is = ap (λ o. Began (record { number = n; operation = operation_place o })) is

pub end_event : (calls : List AcceptedCall) (n : ℕ) (call : AcceptedCall) (reply : Reply) → call_at calls n ≡ Some call → path_event calls (End n reply) ≡ Ended (as_path n call)
end_event calls n call reply is = ap (λ o. Ended (record { number = n; operation = operation_place o })) is

-- a call that runs is not one that never started
fresh_by : (n : ℕ) (d c x : PathCall) (calls rest : List PathCall) (b : Bool) → (IsAmong c (x ∷ calls) → c.number ≡ n → ⊥) → c.number ≡ n → (IsAmong c rest → ⊥) → IsAmong c (if b then calls else x ∷ rest) → ⊥
fresh_by n d c x calls rest true none same later h = none (inr h) same
fresh_by n d c x calls rest false none same later h = elim h [ inl here ↦ none (inl here) same | inr there ↦ later there ]

fresh_without : (n : ℕ) (d : PathCall) (c : PathCall) (calls : List PathCall) → (IsAmong c calls → c.number ≡ n → ⊥) → IsAmong c (without d calls) → c.number ≡ n → ⊥
fresh_without n d c [] none h same = h
fresh_without n d c (x ∷ calls) none h same =
    fresh_by n d c x calls (without d calls) ((x.number == d.number) && (x.operation == d.operation)) none same (λ there. fresh_without n d c calls (λ a. none (inr a)) there same) h

pub fresh_runs : (n : ℕ) (t : List Event) (c : PathCall) → IsFresh n t → IsAmong c (running_calls t) → c.number ≡ n → ⊥
fresh_runs n [] c fresh h same = h
fresh_runs n (Began call ∷ past) c fresh h same = elim h [
  | inl here ↦ fresh.0 (here.0 ∙ same)
  | inr later ↦ fresh_runs n past c fresh.1 later same
]
fresh_runs n (Ended call ∷ past) c fresh h same = fresh_without n call c (running_calls past) (λ a e. fresh_runs n past c fresh a e) h same

without_by : (d c x : PathCall) (calls : List PathCall) (b : Bool) → (b ≡ true → x.number ≡ d.number) → c.number ≢ d.number → (IsAmong c calls → IsAmong c (without d calls))
    → IsAmong c (x ∷ calls) → IsAmong c (if b then calls else x ∷ without d calls)
without_by d c x calls true same other later h = elim h [ inl here ↦ absurd (other (sym here.0 ∙ same refl)) | inr there ↦ there ]
without_by d c x calls false same other later h = elim h [ inl here ↦ inl here | inr there ↦ inr (later there) ]

and_left : (a b : Bool) → a && b ≡ true → a ≡ true
and_left true b h = refl
and_left false b h = absurd cc

number_of : (m n : ℕ) (b : Bool) → (m == n) && b ≡ true → m ≡ n
number_of m n b h = elim (eqb_tells m n) [ inl x ↦ x.1 | inr x ↦ absurd (true_false (m == n) (and_left (m == n) b h) x.0) ]

-- another call goes on
pub among_without : (d c : PathCall) (calls : List PathCall) → c.number ≢ d.number → IsAmong c calls → IsAmong c (without d calls)
among_without d c [] other h = absurd h
among_without d c (x ∷ calls) other h =
    without_by d c x calls ((x.number == d.number) && (x.operation == d.operation)) (number_of x.number d.number (x.operation == d.operation)) other (among_without d c calls other) h

-- an end keeps what the paths ask
pub end_satisfies_all : (paths : List Path) (t : List Event) (c : PathCall) → SatisfiesAll paths t → SatisfiesAll paths (Ended c ∷ t)
end_satisfies_all [] t c h = tt
end_satisfies_all (p ∷ paths) t c h = (end_satisfies p t c h.0, end_satisfies_all paths t c h.1)

pub satisfies_at : (paths : List Path) (t : List Event) (k : ℕ) (p : Path) → SatisfiesAll paths t → slice_get paths k ≡ Some p → Satisfies p t
satisfies_at [] t k p h is = absurd cc
satisfies_at (q ∷ paths) t zero p h is = subst (λ x. Satisfies x t) (some_same is) h.0
satisfies_at (q ∷ paths) t (suc k) p h is = satisfies_at paths t k p h.1 is
