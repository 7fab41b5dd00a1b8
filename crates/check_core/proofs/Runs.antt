-- Runs of equal calls, and lines one operation after the other.
use Rattle.std.proofs.Common.{◌≡◌, ◌≢◌, ℕ, zero, suc, ◌+◌, ◌-◌, ◌<◌, ◌≤◌, ◌⊎◌, inl, inr, Bool, true, false, List, [], ◌∷◌, ◌++◌, refl, sym, ap, subst, arith, ◌∙◌, length, drop, append_assoc, codes, decimal}
use Rattle.std.specs.Prelude.{◌==◌, if◌then◌else◌}
use Rattle.std.proofs.lemmas.Bool.Decides.{nat_tests}
use Rattle.std.proofs.lemmas.List.{append-nil}
use Rattle.decl_core.specs.ObjectForm.{ObjectForm}
use Rattle.check_core.specs.Lines.{Run, with_call, runs, runs_text, calls_text, name_at, wait_lines, wait_lines_in}

-- the first run, so many calls longer
abbrev pub longer : ℕ → List Run → List Run
longer k [] = []
longer k (r ∷ rs) = record { count = r.count + k; op = r.op } ∷ rs

is_itself : (a : ℕ) → (a == a) ≡ true
is_itself a = grind (arith, nat_tests)

not_same : (a b : ℕ) → (a ≡ b → ⊥) → (a == b) ≡ false
not_same a b h = grind (arith, nat_tests)

chosen : {X : Type 0} (b : Bool) (x y : X) → b ≡ true → (if b then x else y) ≡ x
chosen true x y h = refl
chosen false x y h = absurd (cc)

other : {X : Type 0} (b : Bool) (x y : X) → b ≡ false → (if b then x else y) ≡ y
other true x y h = absurd (cc)
other false x y h = refl

again_one : (op : ℕ) (r : Run) (rs : List Run) (b : Bool) → (op == r.op) ≡ b →
    with_call op (if b then record { count = suc r.count; op = r.op } ∷ rs else record { count = 1; op = op } ∷ r ∷ rs)
    ≡ longer 1 (if b then record { count = suc r.count; op = r.op } ∷ rs else record { count = 1; op = op } ∷ r ∷ rs)
again_one op r rs true is = chosen (op == r.op) _ _ is ∙ ap (λ n. record { count = n; op = r.op } ∷ rs) (omega arith)
again_one op r rs false is = chosen (op == op) _ _ (is_itself op)

-- a call in front of one of its operation makes its run longer
again : (op : ℕ) (rs : List Run) → with_call op (with_call op rs) ≡ longer 1 (with_call op rs)
again op [] = chosen (op == op) _ _ (is_itself op)
again op (r ∷ rs) = again_one op r rs (op == r.op) refl

-- the run that begins with a call is of its operation
record Begins (op : ℕ) (rs : List Run) : Type 0 where
  first : Run
  more : List Run
  are : rs ≡ first ∷ more
  its : first.op ≡ op

begins_one : (op : ℕ) (r : Run) (rs : List Run) (b : Bool) → (op == r.op) ≡ b → Begins op (if b then record { count = suc r.count; op = r.op } ∷ rs else record { count = 1; op = op } ∷ r ∷ rs)
begins_one op r rs true is = record { first = record { count = suc r.count; op = r.op }; more = rs; are = refl; its = grind (arith, nat_tests) }
begins_one op r rs false is = record { first = record { count = 1; op = op }; more = r ∷ rs; are = refl; its = refl }

begins : (op : ℕ) (rs : List Run) → Begins op (with_call op rs)
begins op [] = record { first = record { count = 1; op = op }; more = []; are = refl; its = refl }
begins op (r ∷ rs) = begins_one op r rs (op == r.op) refl

longer_more : (j k : ℕ) (rs : List Run) → longer k (longer j rs) ≡ longer (j + k) rs
longer_more j k [] = refl
longer_more j k (r ∷ rs) = ap (λ n. record { count = n; op = r.op } ∷ rs) (omega arith)

longer_none : (rs : List Run) → rs ≡ longer 0 rs
longer_none [] = refl
longer_none (r ∷ rs) = ap (λ n. record { count = n; op = r.op } ∷ rs) (omega arith)

pub run_begun : (first : ℕ) (behind : List ℕ) → runs (first ∷ behind) ≡ longer 0 (runs (first ∷ behind))
run_begun first behind = longer_none (runs (first ∷ behind))

-- one call more of the operation
pub run_on : (first op count : ℕ) (whole rest : List ℕ) → op ≡ first → runs whole ≡ longer count (runs (first ∷ op ∷ rest)) → runs whole ≡ longer (count + 1) (runs (first ∷ rest))
run_on first op count whole rest is h =
    h ∙ ap (λ o. longer count (with_call first (with_call o (runs rest)))) is ∙ ap (longer count) (again first (runs rest)) ∙ longer_more 1 count (runs (first ∷ rest))
    ∙ ap (λ n. longer n (runs (first ∷ rest))) (omega arith)

-- a call of another one ends it
ends_at : (first op : ℕ) (rs : List Run) → (first ≡ op → ⊥) → Begins op rs → with_call first rs ≡ record { count = 1; op = first } ∷ rs
ends_at first op rs differ b =
    ap (with_call first) b.are ∙ other (first == b.first.op) _ _ (not_same first b.first.op (λ e. differ (e ∙ b.its))) ∙ ap (λ x. record { count = 1; op = first } ∷ x) (sym b.are)

pub run_ends : (first op count : ℕ) (whole rest : List ℕ) → (first ≡ op → ⊥) → runs whole ≡ longer count (runs (first ∷ op ∷ rest)) → runs whole ≡ record { count = 1 + count; op = first } ∷ runs (op ∷ rest)
run_ends first op count whole rest differ h = h ∙ ap (longer count) (ends_at first op (runs (op ∷ rest)) differ (begins op (runs rest)))

pub run_out : (first count : ℕ) (whole : List ℕ) → runs whole ≡ longer count (runs (first ∷ [])) → runs whole ≡ record { count = 1 + count; op = first } ∷ runs []
run_out first count whole h = h

-- the text of a run, and of what is behind it
pub one_run : (o : ObjectForm) (op count : ℕ) (behind rest out now before all : List ℕ) → runs (op ∷ behind) ≡ record { count = 1 + count; op = op } ∷ runs rest →
    now ≡ out ++ (codes " " ++ decimal (1 + count) ++ codes " " ++ name_at o op) → out ++ calls_text o (op ∷ behind) ≡ before ++ calls_text o all → now ++ calls_text o rest ≡ before ++ calls_text o all
one_run o op count behind rest out now before all is written h =
    ap (λ x. x ++ calls_text o rest) written ∙ append_assoc out (codes " " ++ decimal (1 + count) ++ codes " " ++ name_at o op) (calls_text o rest)
    ∙ ap (λ rs. out ++ runs_text o rs) (sym is) ∙ h

-- the lines of one operation, and of those behind it
next_op : (o : ObjectForm) (op n m : ℕ) → n ≡ suc m → wait_lines o op n ≡ wait_lines_in o op 1 o.paths ++ wait_lines o (op + 1) m
next_op o op n m is = ap (wait_lines o op) is

pub one_waits : (o : ObjectForm) (op count : ℕ) (out now all : List ℕ) → op < count → now ≡ out ++ wait_lines_in o op 1 o.paths → out ++ wait_lines o op (count - op) ≡ all →
    now ++ wait_lines o (op + 1) (count - (op + 1)) ≡ all
one_waits o op count out now all lt written h =
    ap (λ x. x ++ wait_lines o (op + 1) (count - (op + 1))) written ∙ append_assoc out (wait_lines_in o op 1 o.paths) (wait_lines o (op + 1) (count - (op + 1)))
    ∙ ap (λ x. out ++ x) (sym (next_op o op (count - op) (count - (op + 1)) (omega (arith, lt)))) ∙ h

nothing : (n : ℕ) → zero ≡ n - n
nothing n = omega arith

pub no_waits : (o : ObjectForm) (count : ℕ) (out all : List ℕ) → out ++ wait_lines o count (count - count) ≡ all → out ≡ all
no_waits o count out all h = sym (append-nil out) ∙ ap (λ n. out ++ wait_lines o count n) (nothing count) ∙ h
