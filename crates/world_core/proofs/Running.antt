-- The calls that run there.
use Rattle.std.proofs.Common.{◌≡◌, ℕ, ◌+◌, ◌≤◌, Bool, true, false, ◌&&◌, List, [], ◌∷◌, ◌++◌, length, Option, Some, None, drop, refl, sym, ◌∙◌, ap, add-one, append_assoc}
use Rattle.std.specs.Prelude.{slice_get, if◌then◌else◌}
use Rattle.std.specs.List.{flat_map}
use Rattle.std.proofs.lemmas.List.{append-nil}
use Rattle.stuck_core.specs.Lacks.{Why}
use Rattle.page_core.specs.ObjectCalls.{AcceptedCall}
use Rattle.board_core.specs.Board.{Board, call_at}
use Rattle.board_core.specs.Answers.{runs_in}
use Rattle.stuck_core.specs.declared.why.RunningRow.{RunningRow}
use Rattle.world_core.specs.Told.{numbered, is_needed, if_runs, if_there_runs, running_there}
use Rattle.world_core.proofs.Numbers.{next_call, none_next, past_all}

-- of the calls behind so many
abbrev pub running_from : Board → List Why → ℕ → List RunningRow
running_from b whys k = flat_map (if_runs b whys) (drop k (numbered 1 b.calls))

by_call : (b : Board) (whys : List Why) (k : ℕ) (o : Option AcceptedCall) → slice_get b.calls k ≡ o → if_there_runs b whys (k + 1) o ++ running_from b whys (k + 1) ≡ running_from b whys k
by_call b whys k None is = ap (flat_map (if_runs b whys)) (sym (none_next k b.calls is))
by_call b whys k (Some call) is = ap (flat_map (if_runs b whys)) (sym (next_call k b.calls call is))

-- one call more
pub one_more : (b : Board) (whys : List Why) (k : ℕ) (before out : List RunningRow) → out ≡ before ++ if_there_runs b whys (k + 1) (call_at b.calls (k + 1)) → out ++ running_from b whys (k + 1) ≡ before ++ running_from b whys k
one_more b whys k before out made =
    ap (λ xs. xs ++ running_from b whys (k + 1)) made
    ∙ append_assoc before (if_there_runs b whys (k + 1) (call_at b.calls (k + 1))) (running_from b whys (k + 1))
    ∙ ap (λ xs. before ++ xs) (by_call b whys k (call_at b.calls (k + 1)) (sym (ap (call_at b.calls) (add-one k))))

-- no call more
pub all_run : (b : Board) (whys : List Why) (k : ℕ) (out : List RunningRow) → length b.calls ≤ k → out ++ running_from b whys k ≡ running_there b whys → out ≡ running_there b whys
all_run b whys k out few made = sym (append-nil out) ∙ ap (λ xs. out ++ flat_map (if_runs b whys) xs) (sym (past_all 1 k b.calls few)) ∙ made

-- no call of this number, one that does not run there, and one that does
pub none_runs : (b : Board) (whys : List Why) (n : ℕ) (o : Option AcceptedCall) (xs : List RunningRow) → o ≡ None → xs ≡ xs ++ if_there_runs b whys n o
none_runs b whys n None xs is = sym (append-nil xs)
none_runs b whys n (Some call) xs is = absurd cc

pub there_runs : (b : Board) (whys : List Why) (n : ℕ) (call : AcceptedCall) (o : Option AcceptedCall) (runs : Bool) (xs : List RunningRow) → o ≡ Some call → runs_in b n && is_needed whys call.op ≡ runs
    → xs ++ if_there_runs b whys n o ≡ xs ++ (if runs then record { number = n; session = call.session; operation = call.op } ∷ [] else [])
there_runs b whys n call o runs xs there is =
    ap (λ x. xs ++ if_there_runs b whys n x) there
    ∙ ap (λ t. xs ++ (if t then record { number = n; session = call.session; operation = call.op } ∷ [] else [])) is

pub idle_there : (b : Board) (whys : List Why) (n : ℕ) (call : AcceptedCall) (o : Option AcceptedCall) (xs : List RunningRow) → o ≡ Some call → runs_in b n && is_needed whys call.op ≡ false → xs ≡ xs ++ if_there_runs b whys n o
idle_there b whys n call o xs there is = sym (append-nil xs) ∙ sym (there_runs b whys n call o false xs there is)

pub not_and : (a c : Bool) → a ≡ false → a && c ≡ false
not_and true c is = absurd cc
not_and false c is = refl

pub and_not : (a c : Bool) → c ≡ false → a && c ≡ false
and_not true c is = is
and_not false c is = refl

pub both : (a c : Bool) → a ≡ true → c ≡ true → a && c ≡ true
both true c is too = too
both false c is too = absurd cc
