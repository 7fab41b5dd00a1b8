-- What is told of names, event by event: which key is the next one.
use Rattle.std.proofs.Common.{◌≡◌, ◌≢◌, ℕ, ◌+◌, List, [], ◌∷◌, ◌++◌, Bool, true, false, bytes_eq, refl, sym, ap, ◌∙◌, subst, arith}
use Rattle.std.specs.Prelude.{if◌then◌else◌}
use Rattle.std.proofs.lemmas.Slice.Eq.{bytes_eq-Decides}
use Rattle.live_core.specs.declared.front.NamedClient.{NamedClient}
use Rattle.history_law.specs.Keys.{KeyedCall, KeyEvent, epoch_began, name_came, call_ended, IsAmong, StaysKnown, calls_of, Gives, IsKnownSince, IsNext, StandsOnce}

abbrev pub Events : Type 0
Events = List KeyEvent

-- each call has the key that was the next one before it
abbrev pub CallsAreNext : Events → Type 0
CallsAreNext told = (newer older : Events) (c : KeyedCall) → told ≡ newer ++ call_ended c ∷ older → IsNext older c.name c.key

-- the key of the next call of a name, from whichever event one counts
abbrev pub IsCounted : Events → List ℕ → ℕ → Type 0
IsCounted told name next = (key : ℕ) (since : Events) → IsKnownSince told name key since → next ≡ key + calls_of name since

event_head : (x y : KeyEvent) (xs ys : Events) → x ∷ xs ≡ y ∷ ys → (x ≡ y) × (xs ≡ ys)
event_head x y xs ys is = (cc, cc)

pub nothing_told : (xs : Events) (x : KeyEvent) (ys : Events) → [] ≡ xs ++ x ∷ ys → ⊥
nothing_told [] x ys is = cc
nothing_told (y ∷ xs) x ys is = cc

pub no_calls : CallsAreNext []
no_calls newer older c is = absurd (nothing_told newer (call_ended c) older is)

pub not_counted : (name : List ℕ) (next : ℕ) → IsCounted [] name next
not_counted name next key since is = absurd (nothing_told since is.from is.before is.told_is)

-- one event more

pub calls_on : (x : KeyEvent) (told : Events) → CallsAreNext told → ((c : KeyedCall) → x ≡ call_ended c → IsNext told c.name c.key) → CallsAreNext (x ∷ told)
calls_on x told calls here [] older c is =
    let e = event_head x (call_ended c) told older is in subst (λ l. IsNext l c.name c.key) e.1 (here c e.0)
calls_on x told calls here (y ∷ newer) older c is = calls newer older c (event_head x y told (newer ++ call_ended c ∷ older) is).1

counted_on : (x : KeyEvent) (told : Events) (name : List ℕ) (next : ℕ) → ((key : ℕ) → Gives name x key → next ≡ key)
    → ((key : ℕ) (since : Events) → StaysKnown name (x ∷ since) → IsKnownSince told name key since → next ≡ key + calls_of name (x ∷ since)) → IsCounted (x ∷ told) name next
counted_on x told name next first later key [] is =
    let e = event_head x is.from told is.before is.told_is in
    let none : key ≡ key + 0 = omega arith in
    first key (subst (λ y. Gives name y key) (sym e.0) is.gives) ∙ none
counted_on x told name next first later key (y ∷ since) is =
    let e = event_head x y told (since ++ is.from ∷ is.before) is.told_is in
    let stays = subst (λ z. StaysKnown name (z ∷ since)) (sym e.0) is.stays in
    subst (λ z. next ≡ key + calls_of name (z ∷ since)) e.0
    (later key since stays (record { from = is.from; before = is.before; told_is = e.1; gives = is.gives; stays = still x since stays }))
  where
    still : (z : KeyEvent) (since : Events) → StaysKnown name (z ∷ since) → StaysKnown name since
    still (epoch_began clients) since stays = stays.1
    still (name_came other) since stays = stays.1
    still (call_ended c) since stays = stays

known_on : (x : KeyEvent) (told : Events) (name : List ℕ) (next : ℕ) → IsNext told name next → ((since : Events) → StaysKnown name since → StaysKnown name (x ∷ since))
    → (key : ℕ) × (since : Events) × IsKnownSince (x ∷ told) name key since
known_on x told name next is more =
    let k = is.known.2 in (
      is.known.0,
      x ∷ is.known.1,
      record { from = k.from; before = k.before; told_is = ap (λ l. x ∷ l) k.told_is; gives = k.gives; stays = more is.known.1 k.stays },
    )

-- calls of a name

counts_own : (c : KeyedCall) (name : List ℕ) (told : Events) → c.name ≡ name → calls_of name (call_ended c ∷ told) ≡ 1 + calls_of name told
counts_own c name told same = ap (λ b. (if b then 1 else 0) + calls_of name told) ((bytes_eq-Decides c.name name).1 same)

counts_other : (c : KeyedCall) (name : List ℕ) (told : Events) → c.name ≢ name → calls_of name (call_ended c ∷ told) ≡ calls_of name told
counts_other c name told other = by (bytes_eq c.name name) refl
  where
    by : (b : Bool) → bytes_eq c.name name ≡ b → (if bytes_eq c.name name then 1 else 0) + calls_of name told ≡ calls_of name told
    by true is = absurd (other ((bytes_eq-Decides c.name name).0 is))
    by false is = let none : 0 + calls_of name told ≡ calls_of name told = omega arith in ap (λ b. (if b then 1 else 0) + calls_of name told) is ∙ none

-- a call of the name ended
pub next_own : (c : KeyedCall) (told : Events) → IsNext told c.name c.key → IsNext (call_ended c ∷ told) c.name (c.key + 1)
next_own c told is = record {
  known = (c.key + 1, [], record { from = call_ended c; before = told; told_is = refl; gives = (refl, refl); stays = tt });
  counted = counted_on (call_ended c) told c.name (c.key + 1) (λ key gives. sym gives.1)
      (λ key since stays known.
      let was = is.counted key since known in
      let sum : c.key + 1 ≡ key + (1 + calls_of c.name since) = omega (arith, was) in
      sum ∙ ap (λ n. key + n) (sym (counts_own c c.name since refl)));
}

-- a call of another name ended
pub next_other : (c : KeyedCall) (told : Events) (name : List ℕ) (next : ℕ) → c.name ≢ name → IsNext told name next → IsNext (call_ended c ∷ told) name next
next_other c told name next other is = record {
  known = known_on (call_ended c) told name next is (λ since stays. stays);
  counted = counted_on (call_ended c) told name next (λ key gives. absurd (other gives.0))
      (λ key since stays known. is.counted key since known ∙ ap (λ n. key + n) (sym (counts_other c name since other)));
}

-- the name came
pub next_came : (name : List ℕ) (told : Events) → IsNext (name_came name ∷ told) name 1
next_came name told = record {
  known = (1, [], record { from = name_came name; before = told; told_is = refl; gives = (refl, refl); stays = tt });
  counted = counted_on (name_came name) told name 1 (λ key gives. sym gives.1) (λ key since stays known. absurd (stays.0 refl));
}

-- another name came
pub next_apart : (other : List ℕ) (told : Events) (name : List ℕ) (next : ℕ) → other ≢ name → IsNext told name next → IsNext (name_came other ∷ told) name next
next_apart other told name next apart is = record {
  known = known_on (name_came other) told name next is (λ since stays. (apart, stays));
  counted = counted_on (name_came other) told name next (λ key gives. absurd (apart gives.0)) (λ key since stays known. is.counted key since known);
}

-- an epoch began with a client of the name
pub next_began : (clients : List NamedClient) (told : Events) (name : List ℕ) (next : ℕ) → ((c : NamedClient) × IsAmong clients name c) → ((c : NamedClient) → IsAmong clients name c → next ≡ c.keys + 1) → IsCounted told name next
    → IsNext (epoch_began clients ∷ told) name next
next_began clients told name next (c, among) one counted = record {
  known = (next, [], record { from = epoch_began clients; before = told; told_is = refl; gives = (c, among, one c among); stays = tt });
  counted = counted_on (epoch_began clients) told name next (λ key gives. one gives.0 gives.1 ∙ sym gives.2)
      (λ key since stays known. counted key since known);
}

-- so each key stands once
pub stands_once : (told : Events) → CallsAreNext told → StandsOnce told
stands_once told calls newer between older c d is named stays =
    let own = calls newer (between ++ call_ended d ∷ older) c is in
    let n = own.counted (d.key + 1) between (record { from = call_ended d; before = older; told_is = refl; gives = (named, refl); stays = stays }) in
    omega (arith, n)
