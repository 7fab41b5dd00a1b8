-- Which call is next.
use Rattle.std.proofs.Common.{add-one, ◌≡◌, ◌≢◌, ℕ, zero, suc, ◌+◌, ◌<◌, ◌≤◌, ◌⊎◌, inl, inr, Bool, true, false, List, [], ◌∷◌, ◌++◌, length, Option, Some, None, refl, sym, ◌∙◌, ap, subst, arith, take, drop, map}
use Rattle.std.specs.Prelude.{slice_get, unwrap_or, IfSome, IfNone, not, ◌==◌}
use Rattle.std.specs.Int.{bit_at}
use Rattle.std.specs.List.{filter}
use Rattle.std.proofs.lemmas.Bool.Decides.{eqb_tells}
use Rattle.std.proofs.lemmas.Option.{slice_get_within}
use Rattle.std.specs.declared.sync.Arc.{Arc}
use Rattle.value_core.proofs.Listing.{none_within}
use Rattle.decl_core.specs.declared.object.Operation.{Operation}
use Rattle.decl_core.specs.ObjectMap.{object_of}
use Rattle.decl_core.specs.ObjectMap.{operations_of}
use Rattle.page_core.specs.Lists.{Every, EachPair, Among}
use Rattle.page_core.specs.ObjectCalls.{WaitingCall, RunningCall, read_pins}
use Rattle.board_core.specs.Board.{Board, paths_of, past_of, IsNext, Rests, started}
use Rattle.queue_core.specs.Starts.{CanStart, IsFirst}
use Rattle.board_core.specs.Sound.{IsSound, IsMadeOf, IsWaitingIn, IsRunningIn, IsPinned, HasItsPins, kinds_of}
use Rattle.decl_core.specs.declared.object.Part.{Part}
use Rattle.decl_core.specs.Bodies.{body_of}
use Rattle.decl_core.specs.Footprint.{reads_of}
use Rattle.decl_core.specs.Touched.{Reads, Writes}
use Rattle.decl_core.specs.Typed.{IsHeld}
use Rattle.decl_core.proofs.Footprints.{writes_are_reads}
use Rattle.decl_core.proofs.DeclTouched.{reads_bits}
use Rattle.device_core.specs.declared.hand.Stamp.{Stamp}
use Rattle.page_core.specs.PartPins.{PartPin, pin_at, pins_in, put_if}
use Rattle.apply_core.proofs.HeldReads.{reads_held}
use Rattle.page_core.specs.CallPins.{HasPins}
use Rattle.board_core.proofs.Kept.{kept_at}
use Rattle.page_core.proofs.Lists.{Every-map, Every-at, Every-among, among_at, filter_one, filter_less, eqb_same, true_false}
use Rattle.board_core.proofs.Sound.{made_at}

-- each one stands before this place, or has no smaller number than the one there
split_at : (xs : List WaitingCall) (k : ℕ) (w x : WaitingCall) → EachPair (λ x y. x.number < y.number) xs → slice_get xs k ≡ Some w → Among x xs → Among x (take k xs) ⊎ (w.number ≤ x.number)
split_at [] k w x pairs is h = absurd cc
split_at (y ∷ xs) zero w x pairs is h =
    let same : y ≡ w = ap (λ o. unwrap_or o y) is in
    let number : y.number ≡ w.number = ap (λ (z : WaitingCall). z.number) same in
    elim h [
      | inl here ↦ inr (omega (arith, ap (λ (z : WaitingCall). z.number) here, number))
      | inr later ↦ inr (omega (arith, number, Every-among (λ z. y.number < z.number) xs x pairs.0 later))
    ]
split_at (y ∷ xs) (suc k) w x pairs is h = elim h [
  | inl here ↦ inl (inl here)
  | inr later ↦ elim (split_at xs k w x pairs.1 is later) [ inl before ↦ inl (inr before) | inr above ↦ inr above ]
]

length-operations : {Z : Type 0} (xs : List (Arc Operation Z)) → length (operations_of xs) ≡ length xs
length-operations [] = refl
length-operations (x ∷ xs) = omega (arith, length-operations xs)

-- a call's operation is one of the object's
pub op_within : (b : Board) (w : WaitingCall) → IsSound b → Among w b.waiting → w.call.op < length b.object.operations.items
op_within b w h waits =
    let at : IsWaitingIn b w = Every-among (IsWaitingIn b) b.waiting w h.counted.waits waits in
    let made : IsMadeOf b.object w.call = made_at b w.number w.call h.counted at.call in
    omega (arith, slice_get_within (object_of b.object).operations w.call.op _ made.operation, length-operations b.object.operations.items)

-- the first that can start is the next
pub first_is_next : (b : Board) (k : ℕ) → IsSound b → IsFirst (length b.object.operations.items) (paths_of b) (past_of b) b.waiting k
    → (w : WaitingCall) × (slice_get b.waiting k ≡ Some w) × IsNext b w
first_is_next b k h first = (
  first.call,
  first.there,
  record {
    waits = among_at b.waiting k first.call first.there;
    may = first.can.1;
    least = λ x among may less. elim (split_at b.waiting k first.call x h.counted.in_order first.there among) [
      | inl before ↦ Every-among _ (take k b.waiting) x first.earlier before (op_within b x h among, may)
      | inr above ↦ absurd (omega (arith, less, above))
    ];
  },
)

-- where none can start, the board rests
pub none_rests : (b : Board) → IsSound b → Every (λ w. CanStart (length b.object.operations.items) (paths_of b) (past_of b) w → ⊥) b.waiting → Rests b
none_rests b h none w among may = Every-among (λ w. CanStart (length b.object.operations.items) (paths_of b) (past_of b) w → ⊥) b.waiting w none among (op_within b w h among, may)

pub if_some : {P Q : ℕ → Type 0} (o : Option ℕ) → ((k : ℕ) → P k → Q k) → IfSome o P → IfSome o Q
if_some None more h = tt
if_some (Some k) more h = more k h

pub if_none : {P Q : Type 0} (o : Option ℕ) → (P → Q) → IfNone o P → IfNone o Q
if_none None more h = more h
if_none (Some k) more h = tt

-- what the code finds is the next of the board
pub next_found : (b c : Board) (items : List WaitingCall) (o : Option ℕ) → items ≡ b.waiting → IsSound b → b ≡ c → IfSome o (IsFirst (length b.object.operations.items) (paths_of b) (past_of b) items)
    → IfSome o (λ k. (w : WaitingCall) × (slice_get c.waiting k ≡ Some w) × IsNext c w)
next_found b c items o same h view found =
    subst (λ (x : Board). IfSome o (λ k. (w : WaitingCall) × (slice_get x.waiting k ≡ Some w) × IsNext x w)) view
    (if_some o (λ k first. first_is_next b k h first) (subst (λ xs. IfSome o (IsFirst (length b.object.operations.items) (paths_of b) (past_of b) xs)) same found))

pub none_found : (b c : Board) (items : List WaitingCall) (o : Option ℕ) → items ≡ b.waiting → IsSound b → b ≡ c → IfNone o (Every (λ w. CanStart (length b.object.operations.items) (paths_of b) (past_of b) w → ⊥) items)
    → IfNone o (Rests c)
none_found b c items o same h view found =
    subst (λ (x : Board). IfNone o (Rests x)) view
    (if_none o (none_rests b h) (subst (λ xs. IfNone o (Every (λ w. CanStart (length b.object.operations.items) (paths_of b) (past_of b) w → ⊥) xs)) same found))

pub not_same : (m n : ℕ) → m ≢ n → not (m == n) ≡ true
not_same m n differ = elim (eqb_tells m n) [ inl x ↦ absurd (differ x.1) | inr x ↦ ap not x.0 ]

-- to take out the waiting call at a place is to leave those of other numbers
pub taken_out : (waiting : List WaitingCall) (k : ℕ) (w : WaitingCall) → EachPair (λ x y. x.number < y.number) waiting → slice_get waiting k ≡ Some w
    → take k waiting ++ drop (k + 1) waiting ≡ filter (λ x. not (x.number == w.number)) waiting
taken_out waiting k w pairs is =
    ap (λ n. take k waiting ++ drop n waiting) (add-one k)
    ∙ filter_one (λ (x : WaitingCall). not (x.number == w.number)) waiting k w is (ap not (eqb_same w.number)) (each waiting pairs)
  where
    each : (xs : List WaitingCall) → EachPair (λ x y. x.number < y.number) xs → EachPair (λ x z. (x ≡ w → not (z.number == w.number) ≡ true) × (z ≡ w → not (x.number == w.number) ≡ true)) xs
    each [] h = tt
    each (y ∷ ys) h = (
      Every-map (λ (z : WaitingCall). y.number < z.number) (λ z. (y ≡ w → not (z.number == w.number) ≡ true) × (z ≡ w → not (y.number == w.number) ≡ true))
          (λ z less. (λ same. not_same z.number w.number (λ e. absurd (omega (arith, less, e, ap (λ (x : WaitingCall). x.number) same))), λ same. not_same y.number w.number (λ e. absurd (omega (arith, less, e, ap (λ (x : WaitingCall). x.number) same))))) ys h.0,
      each ys h.1,
    )

-- one call less waits
pub fewer_wait : (b : Board) (w : WaitingCall) → IsNext b w → length (started b w).waiting < length b.waiting
unfolding started
fewer_wait b w next = filter_less (λ (x : WaitingCall). not (x.number == w.number)) b.waiting w next.waits (ap not (eqb_same w.number))

none_wait : (waiting : List WaitingCall) (w : WaitingCall) → length waiting ≡ 0 → Among w waiting → ⊥
none_wait [] w none h = h
none_wait (x ∷ xs) w none h = absurd (omega (arith, none))

-- where none waits, the board rests
pub empty_rests : (b : Board) → length b.waiting ≡ 0 → Rests b
empty_rests b none w among may = none_wait b.waiting w none among

-- to take out the running call at a place is to leave those of other numbers
pub ended_out : (running : List RunningCall) (k : ℕ) (r : RunningCall) → EachPair (λ x y. x.number ≢ y.number) running → slice_get running k ≡ Some r
    → take k running ++ drop (k + 1) running ≡ filter (λ x. not (x.number == r.number)) running
ended_out running k r pairs is =
    ap (λ n. take k running ++ drop n running) (add-one k)
    ∙ filter_one (λ (x : RunningCall). not (x.number == r.number)) running k r is (ap not (eqb_same r.number)) (each running pairs)
  where
    each : (xs : List RunningCall) → EachPair (λ x y. x.number ≢ y.number) xs → EachPair (λ x z. (x ≡ r → not (z.number == r.number) ≡ true) × (z ≡ r → not (x.number == r.number) ≡ true)) xs
    each [] h = tt
    each (y ∷ ys) h = (
      Every-map (λ (z : RunningCall). y.number ≢ z.number) (λ z. (y ≡ r → not (z.number == r.number) ≡ true) × (z ≡ r → not (y.number == r.number) ≡ true))
          (λ z differ. (λ same. not_same z.number r.number (λ e. differ (ap (λ (x : RunningCall). x.number) same ∙ sym e)), λ same. not_same y.number r.number (λ e. differ (e ∙ sym (ap (λ (x : RunningCall). x.number) same))))) ys h.0,
      each ys h.1,
    )

length-kinds : (parts : List Part) → length (map (λ (p : Part). p.kind) parts) ≡ length parts
length-kinds [] = refl
length-kinds (p ∷ parts) = omega (arith, length-kinds parts)

-- what a call that runs has its operation
pub running_within : (b : Board) (r : RunningCall) → IsSound b → Among r b.running → r.call.op < length b.object.operations.items
running_within b r h runs =
    let at : IsRunningIn b r = Every-among (IsRunningIn b) b.running r h.counted.runs runs in
    let made : IsMadeOf b.object r.call = made_at b r.number r.call h.counted at.call in
    omega (arith, slice_get_within (object_of b.object).operations r.call.op _ made.operation, length-operations b.object.operations.items)

-- a pin of each part that a running call reads is published
published_at : (b : Board) (r : RunningCall) (p : ℕ) → IsSound b → Among r b.running → Reads (body_of r.call.operation).statements p → p < length b.pins
published_at b r p h runs reads =
    let at : IsRunningIn b r = Every-among (IsRunningIn b) b.running r h.counted.runs runs in
    let made : IsMadeOf b.object r.call = made_at b r.number r.call h.counted at.call in
    let held : IsHeld r.call.operation.kinds.items p = reads_held r.call.operation p reads in
    let there = made.parts p held.kind (record { named = reads; held = held.held }) in
    omega (arith, slice_get_within (kinds_of b.object) p held.kind there, length-kinds b.object.parts.items, h.pinned.each)

-- what a running call writes is a part
pub writes_within : (b : Board) (r : RunningCall) (p : ℕ) → IsSound b → Among r b.running → Writes (body_of r.call.operation).statements p → p < length b.pins
writes_within b r p h runs writes = published_at b r p h runs (writes_are_reads (body_of r.call.operation) p writes)

is_some : {X : Type 0} (xs : List X) (k : ℕ) (o : Option X) → k < length xs → slice_get xs k ≡ o → o ≢ None
is_some xs k None less is = absurd (none_within xs k less is)
is_some xs k (Some x) less is = λ same. absurd (let h : Some x ≡ None = same in cc)

-- a running call has a pin for each part that it reads
pub has_pins : (b : Board) (k : ℕ) (r : RunningCall) → IsSound b → slice_get b.running k ≡ Some r → HasPins r.call.operation r.pins
has_pins b k r h is p reads =
    let pinned : IsPinned b.pins r = Every-at (IsPinned b.pins) b.running k r h.pinned.pinned is in
    is_some b.pins p (pin_at r.pins p) (published_at b r p h (among_at b.running k r is) reads) (pinned p reads)

one_same : (b : Bool) (p : ℕ) (x y : List Stamp) (xs ys : List PartPin) → (b ≡ true → x ≡ y) → xs ≡ ys → put_if b (record { part = p; pages = x }) xs ≡ put_if b (record { part = p; pages = y }) ys
one_same true p x y xs ys first rest = let same : x ≡ y = first refl in λ i. record { part = p; pages = same i } ∷ rest i
one_same false p x y xs ys first rest = rest

-- pins that are the same for the parts in a set
same_in : (parts p : ℕ) (xs ys : List (List Stamp)) → length xs ≡ length ys → ((k q : ℕ) → q ≡ p + k → bit_at parts q ≡ 1 → slice_get xs k ≡ slice_get ys k) → pins_in parts p xs ≡ pins_in parts p ys
same_in parts p [] [] many each = refl
same_in parts p [] (y ∷ ys) many each = absurd (omega (arith, many))
same_in parts p (x ∷ xs) [] many each = absurd (omega (arith, many))
same_in parts p (x ∷ xs) (y ∷ ys) many each =
    one_same (bit_at parts p == 1) p x y (pins_in parts (p + 1) xs) (pins_in parts (p + 1) ys)
    (λ set. ap (λ o. unwrap_or o x) (each 0 p (omega arith) (one_bit (bit_at parts p) set)))
    (same_in parts (p + 1) xs ys (omega (arith, many)) (λ k q is set. each (suc k) q (omega (arith, is)) set))
  where
    one_bit : (n : ℕ) → (n == 1) ≡ true → n ≡ 1
    one_bit n h = elim (eqb_tells n 1) [ inl e ↦ e.1 | inr e ↦ absurd (true_false (n == 1) h e.0) ]

-- the published pins of the parts that a running call reads are those of its start
pub read_again : (b : Board) (k : ℕ) (r : RunningCall) → IsSound b → slice_get b.running k ≡ Some r → read_pins r.call.operation b.pins ≡ r.pins
read_again b k r h is =
    let pinned : IsPinned b.pins r = Every-at (IsPinned b.pins) b.running k r h.pinned.pinned is in
    let its : HasItsPins (length b.object.parts.items) r = Every-at (HasItsPins (length b.object.parts.items)) b.running k r h.pinned.long is in
    let operation = r.call.operation in
    let named : (p : ℕ) → bit_at (reads_of (body_of operation)) p ≡ 1 → Reads (body_of operation).statements p = λ p set. (reads_bits (body_of operation).statements (reads_of (body_of operation)) refl p).0 set in
    same_in (reads_of (body_of operation)) 0 b.pins its.pins (h.pinned.each ∙ sym its.each) (λ k q at set.
    let here : q ≡ k = omega (arith, at) in
    subst (λ p. slice_get b.pins p ≡ slice_get its.pins p) here (pinned q (named q set) ∙ ap (λ pins. pin_at pins q) its.kept ∙ kept_at operation its.pins q (named q set)))
    ∙ sym its.kept
