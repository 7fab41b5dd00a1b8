-- What admission leaves as it is.
use Rattle.std.proofs.Common.{◌≡◌, ℕ, inl, inr, Bool, true, false, cond, not, ◌&&◌, ◌||◌, ◌==◌, List, [], ◌∷◌, ◌++◌, map, refl, sym, ◌∙◌, ap, subst, append_assoc}
use Rattle.std.proofs.lemmas.List.{append-nil}
use Rattle.std.specs.List.{filter}
use Rattle.device_core.specs.declared.hand.Stamp.{Stamp}
use Rattle.board_core.specs.declared.event.TraceEvent.TheVariants.{Start}
use Rattle.page_core.specs.Lists.{Among}
use Rattle.page_core.specs.ObjectCalls.{AcceptedCall, WaitingCall, RunningCall, Noted}
use Rattle.board_core.specs.Board.{Board, joined, dismissed, released, marked, taken_at, ended, started, Rests, Admits, rests, starts}
use Rattle.board_core.specs.Chain.{pins_after}
use Rattle.board_core.specs.Free.{IsNeeded, Picks}
use Rattle.board_core.specs.Started.{HasStarted, Settles, is_number_in, run_of}
use Rattle.board_core.specs.Laws.{AdmissionStarts}
use Rattle.board_core.proofs.Freed.{admission_needs, picks_same}
use Rattle.page_core.proofs.Lists.{Every-all, all_pass}

pub rests_after : (b after : Board) → Admits b after → Rests after
rests_after b after (rests r) = r
rests_after b after (starts w next more) = rests_after (started b w) after more

one_history : (b : Board) (w : WaitingCall) → (started b w).history ≡ b.history
unfolding started
one_history b w = refl

one_pins : (b : Board) (w : WaitingCall) → (started b w).pins ≡ b.pins
unfolding started
one_pins b w = refl

pub same_history : (b after : Board) → Admits b after → after.history ≡ b.history
same_history b after (rests r) = refl
same_history b after (starts w next more) = same_history (started b w) after more ∙ one_history b w

pub same_pins : (b after : Board) → Admits b after → after.pins ≡ b.pins
same_pins b after (rests r) = refl
same_pins b after (starts w next more) = same_pins (started b w) after more ∙ one_pins b w

pub joined_history : (b after : Board) (call : AcceptedCall) → Admits (joined b call) after → (after.history ≡ b.history) × (after.pins ≡ b.pins)
unfolding joined
joined_history b after call admits = (same_history (joined b call) after admits, same_pins (joined b call) after admits)

pub dismissed_history : (b after : Board) (n : ℕ) → Admits (dismissed b n) after → (after.history ≡ b.history) × (after.pins ≡ b.pins)
unfolding dismissed
dismissed_history b after n admits = (same_history (dismissed b n) after admits, same_pins (dismissed b n) after admits)

pub ended_history : (b after : Board) (e : Noted) → Admits (ended b e) after → (after.history ≡ b.history ++ e ∷ []) × (after.pins ≡ pins_after b.pins e)
unfolding ended
ended_history b after e admits = (same_history (ended b e) after admits, same_pins (ended b e) after admits)

pub among_more : {X : Type 0} (xs : List X) (z y : X) → Among y xs → Among y (xs ++ z ∷ [])
among_more [] z y h = absurd h
among_more (x ∷ xs) z y h = elim h [ inl same ↦ inl same | inr later ↦ inr (among_more xs z y later) ]

start_keeps : (b : Board) (w : WaitingCall) (number : ℕ) → IsNeeded b.pins b.running number → IsNeeded (started b w).pins (started b w).running number
unfolding started
start_keeps b w number (inl published) = inl published
start_keeps b w number (inr reads) = inr (reads.0, among_more b.running _ reads.0 reads.1, reads.2)

-- what was needed is needed after admission
pub admission_keeps : (b after : Board) (number : ℕ) → Admits b after → IsNeeded b.pins b.running number → IsNeeded after.pins after.running number
admission_keeps b after number (rests r) h = h
admission_keeps b after number (starts w next more) h = admission_keeps (started b w) after number more (start_keeps b w number h)

-- the same files are picked after admission
pub picks_admitted : (b after : Board) (stamps all : List Stamp) → Admits b after → Picks (IsNeeded b.pins b.running) [] stamps all → Picks (IsNeeded after.pins after.running) [] stamps all
picks_admitted b after stamps all admits picks =
    picks_same (IsNeeded b.pins b.running) (IsNeeded after.pins after.running) (λ n. admission_keeps b after n admits) (λ n. admission_needs b after n admits) [] stamps all picks

pub left_history : (b after : Board) (session : ℕ) → Admits (marked (released b session) session) after → (after.history ≡ b.history) × (after.pins ≡ b.pins)
unfolding marked released
left_history b after session admits = (same_history (marked (released b session) session) after admits, same_pins (marked (released b session) session) after admits)

one_rests : (b : Board) (k : ℕ) (r : RunningCall) → Rests b → Rests (taken_at b k r)
unfolding taken_at
one_rests b k r rest = λ w among may. rest w among may

-- a ticket that is taken changes nothing else
pub taken_rests : (b after : Board) (k : ℕ) (r : RunningCall) → after ≡ taken_at b k r → Rests b → Rests after
taken_rests b after k r made rest = subst Rests (sym made) (one_rests b k r rest)

pub taken_history : (b : Board) (k : ℕ) (r : RunningCall) → ((taken_at b k r).history ≡ b.history) × ((taken_at b k r).pins ≡ b.pins)
unfolding taken_at
taken_history b k r = (refl, refl)

pub not_false : (b : Bool) → (b ≡ false → ⊥) → b ≡ true
not_false true h = refl
not_false false h = absurd (h refl)

two_by : {X : Type 0} (p r : X → Bool) (x : X) (ys zs : List X) (b : Bool) → r x ≡ b && p x → filter p ys ≡ zs → filter p (cond b (x ∷ ys) ys) ≡ cond (r x) (x ∷ zs) zs
two_by p r x ys zs true is same = ap (λ us. cond (p x) (x ∷ us) us) same ∙ ap (λ c. cond c (x ∷ zs) zs) (sym is)
two_by p r x ys zs false is same = same ∙ ap (λ c. cond c (x ∷ zs) zs) (sym is)

-- to leave by one test and then by another one is to leave by both
filter_twice : {X : Type 0} (q p r : X → Bool) → ((x : X) → r x ≡ q x && p x) → (xs : List X) → filter p (filter q xs) ≡ filter r xs
filter_twice q p r both [] = refl
filter_twice q p r both (x ∷ xs) = two_by p r x (filter q xs) (filter r xs) (q x) (both x) (filter_twice q p r both xs)

not_or : (a b : Bool) → not (a || b) ≡ not a && not b
not_or true b = refl
not_or false b = refl

none_started : (b : Board) → HasStarted b [] b
none_started b = record {
  trace = sym (append-nil b.trace);
  running = sym (append-nil b.running);
  waiting = sym (all_pass (λ (x : WaitingCall). true) b.waiting (Every-all (λ (x : WaitingCall). true ≡ true) (λ x. refl) b.waiting));
  object = refl;
  calls = refl;
  history = refl;
  gone = refl;
  opening = refl;
  pins = refl;
}

one_started : (b : Board) (w : WaitingCall) (ones : List WaitingCall) (after : Board) → HasStarted (started b w) ones after → HasStarted b (w ∷ ones) after
unfolding started
one_started b w ones after h = record {
  trace = h.trace ∙ append_assoc b.trace (Start w.number ∷ []) (map (λ (x : WaitingCall). Start x.number) ones);
  running = h.running ∙ append_assoc b.running (run_of b.pins w ∷ []) (map (run_of b.pins) ones);
  waiting = h.waiting ∙ filter_twice (λ (x : WaitingCall). not (x.number == w.number)) (λ x. not (is_number_in ones x.number)) (λ x. not (is_number_in (w ∷ ones) x.number))
      (λ x. not_or (x.number == w.number) (is_number_in ones x.number)) b.waiting;
  object = h.object;
  calls = h.calls;
  history = h.history;
  gone = h.gone;
  opening = h.opening;
  pins = h.pins;
}

pub admission_starts : AdmissionStarts
admission_starts b after (rests r) = ([], none_started b)
admission_starts b after (starts w next more) =
    let rest = admission_starts (started b w) after more in
    (w ∷ rest.0, one_started b w rest.0 after rest.1)

-- admission follows, and what became of each call stands beside it
pub settled : (b after : Board) → Admits b after → Settles b after
settled b after admits =
    let ones = admission_starts b after admits in
    record { admits = admits; ones = ones.0; started = ones.1 }
