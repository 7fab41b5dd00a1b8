-- Calls that wait, and how many are of each operation.
use Rattle.std.proofs.Common.{add-one, ◌≡◌, ◌≢◌, ℕ, zero, suc, ◌+◌, ◌-◌, ◌<◌, ◌≤◌, inl, inr, Bool, true, false, cond, ◌==◌, List, [], ◌∷◌, ◌++◌, length, Some, refl, sym, ◌∙◌, ap, subst, arith, take, drop, get_or, min, get_or-set_same, get_or-set_other}
use Rattle.std.specs.Prelude.{unwrap_or, slice_get, slice_set, slice_index}
use Rattle.std.specs.List.{filter}
use Rattle.path_tree.specs.Path.{Path}
use Rattle.path_tree.specs.Trace.{Event}
use Rattle.std.proofs.lemmas.Bool.{cases_lt, cases_eq}
use Rattle.std.proofs.lemmas.Bool.Decides.{eqb_tells}
use Rattle.std.proofs.lemmas.List.{get_or_past, take_all, take_more}
use Rattle.std.proofs.lemmas.Option.{slice_get-get_or}
use Rattle.page_core.specs.Lists.{Every, Among}
use Rattle.page_core.specs.ObjectCalls.{WaitingCall}
use Rattle.page_core.proofs.Lists.{every_from, filter_le}
use Rattle.queue_core.specs.Starts.{OpCanStart, CanStart, OthersRest, IsFirst}
use Rattle.queue_core.specs.Queue.{count_of, AreCounted}

abbrev one_if : Bool → ℕ
one_if b = cond b 1 0

-- what a call adds to the count of an operation
abbrev adds : ℕ → WaitingCall → ℕ
adds op w = one_if (w.call.op == op)

length-cond : {X : Type 0} (b : Bool) (x : X) (xs : List X) → length (cond b (x ∷ xs) xs) ≡ one_if b + length xs
length-cond true x xs = omega arith
length-cond false x xs = omega arith

count-cons : (op : ℕ) (w : WaitingCall) (ws : List WaitingCall) → count_of op (w ∷ ws) ≡ adds op w + count_of op ws
count-cons op w ws = length-cond (w.call.op == op) w (filter (λ (x : WaitingCall). x.call.op == op) ws)

pub count-snoc : (op : ℕ) (ws : List WaitingCall) (w : WaitingCall) → count_of op (ws ++ w ∷ []) ≡ count_of op ws + adds op w
count-snoc op [] w = omega (arith, count-cons op w [])
count-snoc op (x ∷ ws) w = omega (arith, count-cons op x (ws ++ w ∷ []), count-cons op x ws, count-snoc op ws w)

-- the calls but one
count_out : (op : ℕ) (ws : List WaitingCall) (k : ℕ) (w : WaitingCall) → slice_get ws k ≡ Some w → count_of op (take k ws ++ drop (suc k) ws) + adds op w ≡ count_of op ws
count_out op [] k w is = absurd cc
count_out op (x ∷ ws) zero w is = omega (arith, count-cons op x ws, ap (adds op) (same is))
  where
    same : slice_get (x ∷ ws) zero ≡ Some w → x ≡ w
    same h = ap (λ o. unwrap_or o x) h
count_out op (x ∷ ws) (suc k) w is = omega (arith, count-cons op x (take k ws ++ drop (suc k) ws), count-cons op x ws, count_out op ws k w is)

adds_same : (op : ℕ) (w : WaitingCall) → w.call.op ≡ op → adds op w ≡ 1
adds_same op w is = elim (eqb_tells w.call.op op) [ inl x ↦ ap one_if x.0 | inr x ↦ absurd (x.1 is) ]

adds_none : (op : ℕ) (w : WaitingCall) → w.call.op ≢ op → adds op w ≡ 0
adds_none op w differ = elim (eqb_tells w.call.op op) [ inl x ↦ absurd (differ x.1) | inr x ↦ ap one_if x.0 ]

-- a call among them is counted
pub count_among : (ws : List WaitingCall) (w : WaitingCall) → Among w ws → 0 < count_of w.call.op ws
count_among [] w h = absurd h
count_among (x ∷ ws) w h = elim h [
  | inl same ↦ omega (arith, count-cons w.call.op x ws, adds_same w.call.op x (ap (λ (y : WaitingCall). y.call.op) same))
  | inr later ↦ omega (arith, count-cons w.call.op x ws, count_among ws w later)
]

-- the operation of a counted call has a count
pub op_counted : (ws : List WaitingCall) (counts : List ℕ) (w : WaitingCall) → AreCounted ws counts → Among w ws → slice_index counts w.call.op ≢ 0
op_counted ws counts w counted among none = absurd (omega (arith, counted w.call.op, count_among ws w among, none))

pub op_within : (counts : List ℕ) (op : ℕ) → slice_index counts op ≢ 0 → op < length counts
op_within counts op some = elim (cases_lt op (length counts)) [ inl less ↦ less | inr more ↦ absurd (some (get_or_past counts op 0 more)) ]

pub ops_within : (ws : List WaitingCall) (counts : List ℕ) → AreCounted ws counts → Every (λ w. w.call.op < length counts) ws
ops_within ws counts counted = every_from (λ (w : WaitingCall). w.call.op < length counts) ws (λ w among. op_within counts w.call.op (op_counted ws counts w counted among))

-- one call more, and one more in the count of its operation, which has an end
pub counted_in : (ws : List WaitingCall) (w : WaitingCall) (counts : List ℕ) (o : ℕ) → AreCounted ws counts → length ws < 65535 → w.call.op ≡ o → o < length counts
    → AreCounted (ws ++ w ∷ []) (slice_set counts o (min (slice_index counts o + 1) 65535))
counted_in ws w counts o counted few is within op = elim (cases_eq op o) [
  | inl same ↦
      let here = get_or-set_same counts o (min (slice_index counts o + 1) 65535) 0 within in
      let count = count-snoc o ws w in
      let most : count_of o ws < 65535 = omega (arith, filter_le (λ (x : WaitingCall). x.call.op == o) ws, few) in
      subst (λ n. count_of n (ws ++ w ∷ []) ≤ slice_index (slice_set counts o (min (slice_index counts o + 1) 65535)) n) (sym same)
      (omega (arith, here, count, adds_same o w is, counted o, most))
  | inr other ↦
      omega (arith, get_or-set_other counts o op (min (slice_index counts o + 1) 65535) 0 other, count-snoc op ws w, adds_none op w (λ e. other (sym e ∙ is)), counted op)
]

-- one call less, and one less in the count of its operation
pub counted_out : (ws : List WaitingCall) (k : ℕ) (w : WaitingCall) (counts : List ℕ) (o : ℕ) → AreCounted ws counts → slice_get ws k ≡ Some w → w.call.op ≡ o → o < length counts
    → AreCounted (take k ws ++ drop (k + 1) ws) (slice_set counts o (slice_index counts o - 1))
counted_out ws k w counts o counted is same_op within op = subst (λ n. count_of op (take k ws ++ drop n ws) ≤ slice_index (slice_set counts o (slice_index counts o - 1)) op) (sym (add-one k)) (elim (cases_eq op o) [
  | inl same ↦
      subst (λ n. count_of n (take k ws ++ drop (suc k) ws) ≤ slice_index (slice_set counts o (slice_index counts o - 1)) n) (sym same)
      (omega (arith, get_or-set_same counts o (slice_index counts o - 1) 0 within, count_out o ws k w is, adds_same o w same_op, counted o))
  | inr other ↦
      omega (arith, get_or-set_other counts o op (slice_index counts o - 1) 0 other, count_out op ws k w is, counted op)
])

-- no calls have no count
pub none_counted : (counts : List ℕ) → AreCounted [] counts
none_counted counts op = omega arith

-- where no other operation rests and that of the last call has no more than one, none before it can start
pub none_earlier : (n : ℕ) (paths : List Path) (t : List Event) (ws : List WaitingCall) (w : WaitingCall) (counts : List ℕ) → AreCounted (ws ++ w ∷ []) counts → OthersRest n paths t counts w.call.op
    → slice_index counts w.call.op ≤ 1 → Every (λ x. CanStart n paths t x → ⊥) ws
none_earlier n paths t ws w counts counted others one = every_from (λ (x : WaitingCall). CanStart n paths t x → ⊥) ws (λ x among can. elim (cases_eq x.call.op w.call.op) [
  | inl same ↦ absurd (omega (arith, counted w.call.op, one, count-snoc w.call.op ws w, adds_same w.call.op w refl, subst (λ o. 0 < count_of o ws) same (count_among ws x among)))
  | inr other ↦ others x.call.op (λ none. absurd (omega (arith, counted x.call.op, count-snoc x.call.op ws w, count_among ws x among, none))) other can
])

-- where neither the operation of the last call can start nor another one that has calls, none can
pub none_can : (n : ℕ) (paths : List Path) (t : List Event) (ws : List WaitingCall) (counts : List ℕ) (last : ℕ) → AreCounted ws counts → OthersRest n paths t counts last → (OpCanStart n paths t last → ⊥)
    → Every (λ x. CanStart n paths t x → ⊥) ws
none_can n paths t ws counts last counted others not_last = every_from (λ (x : WaitingCall). CanStart n paths t x → ⊥) ws (λ x among can. elim (cases_eq x.call.op last) [
  | inl same ↦ not_last (subst (OpCanStart n paths t) same can)
  | inr other ↦ others x.call.op (op_counted ws counts x counted among) other can
])

-- where no other operation's calls can start and that of the last call has no more than one, the last call is the first that can
pub last_first : (n : ℕ) (paths : List Path) (t : List Event) (ws : List WaitingCall) (w : WaitingCall) (counts : List ℕ) (last : ℕ) → 0 < length ws → w ≡ get_or ws (length ws - 1) w → last ≡ w.call.op → AreCounted ws counts
    → OthersRest n paths t counts last → slice_index counts last ≤ 1 → OpCanStart n paths t last → IsFirst n paths t ws (length ws - 1)
last_first n paths t ws w counts last some is op counted others one can =
    let within : length ws - 1 < length ws = omega (arith, some) in
    let split : ws ≡ take (length ws - 1) ws ++ w ∷ [] =
    sym (take_all (length ws - 1 + 1) ws (omega (arith, some))) ∙ take_more ws (length ws - 1) w within ∙ ap (λ x. take (length ws - 1) ws ++ x ∷ []) (sym is) in
    record {
      call = w;
      there = slice_get-get_or ws (length ws - 1) w within ∙ ap Some (sym is);
      can = subst (OpCanStart n paths t) op can;
      earlier = none_earlier n paths t (take (length ws - 1) ws) w counts (subst (λ xs. AreCounted xs counts) split counted) (subst (OthersRest n paths t counts) op others) (subst (λ o. slice_index counts o ≤ 1) op one);
    }
