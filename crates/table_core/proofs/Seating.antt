-- Places of connections, as clients know them.
use Rattle.std.proofs.Common.{◌≡◌, ◌≢◌, ◌⊎◌, inl, inr, eqb, ◌∙◌, ap, sym, subst, refl, arith, ℕ, zero, suc, ◌+◌, ◌<◌, ◌%◌, ◌==◌, List, [], ◌∷◌, ◌++◌, length, map, drop, eqb-true, eq-eqb, ne_eqb, true≢false}
use Rattle.std.specs.Prelude.{Bool, true, false, Option, Some, None, Result, IfSome, IfNone, IfOk, option_map, slice_get, if◌then◌else◌}
use Rattle.std.specs.declared.alloc.AllocError.{AllocError}
use Rattle.std.proofs.lemmas.Bool.Decides.{eqb_tells}
use Rattle.value_core.specs.Runs.{NoLineFeed}
use Rattle.std.proofs.lemmas.Option.{same_Some, slice_get-map}
use Rattle.live_core.specs.Scene.{Scene}
use Rattle.client_core.specs.declared.ask.Ask.{Ask}
use Rattle.client_core.specs.declared.client.ClientPlace.{ClientPlace}
use Rattle.client_core.specs.declared.client.OpenObject.{OpenObject}
use Rattle.client_core.specs.declared.clients.ClientPlaces.{ClientPlaces}
use Rattle.client_core.specs.Held.{waits_of, waits_in, is_not, is_some, rest_in, is_whole_before, IsSame, AreSame, AreSameRows, HasOpened, IsHeld, IsPassed, IsSetTo, IsTaken, ChangesPerson}
use Rattle.client_core.specs.People.{Person}
use Rattle.client_core.specs.Places.{has_in, is_here_in, opened_in as has_opened, held_in as all_held, place_at, place_for, Elsewhere}
use Rattle.client_core.specs.Asks.{Asks}
use Rattle.client_core.specs.Custody.{Custodies}
use Rattle.client_core.specs.State.{Peer, State, cut_of, peer_of, peers_of, change, nobody, comer, opening, waiting, holding, left_with, who_in, opened_in, held_in}
use Rattle.client_core.specs.Asked.{IsFor, Waits}
use Rattle.client_core.specs.Turns.{TakesLine}
use Rattle.table_core.specs.Seen.{state_of}

-- what is seen of a place
abbrev seen_at : Option ClientPlace → Option Peer
seen_at c = option_map peer_of c

at_is : (clients : ClientPlaces) (place : ℕ) → slice_get (peers_of clients) place ≡ seen_at (place_at clients place)
at_is clients place = slice_get-map peer_of clients.rows.items place

who_by : (here : Bool) (n : ℕ) (r : Option ℕ) → IfSome r (λ who. (if here then n == who else false) ≡ true) → IfNone r (here ≡ false) →
    r ≡ (if here then Some n else None)
who_by true n (Some w) some none = ap Some (sym (eqb-true n w some))
who_by true n None some none = absurd (true≢false none)
who_by false n (Some w) some none = absurd (true≢false (sym some))
who_by false n None some none = refl

who_seen : (c : Option ClientPlace) (r : Option ℕ) → IfSome r (λ who. has_in who c ≡ true) → IfNone r (is_here_in c ≡ false) → r ≡ who_in (seen_at c)
who_seen None (Some w) some none = absurd (true≢false (sym some))
who_seen None None some none = refl
who_seen (Some c) r some none = who_by c.is_here c.who r some none

pub who_is : (clients : ClientPlaces) (place : ℕ) (r : Option ℕ) → IfSome r (λ who. has_in who (place_at clients place) ≡ true) →
    IfNone r (is_here_in (place_at clients place) ≡ false) → r ≡ who_in (slice_get (peers_of clients) place)
who_is clients place r some none = who_seen (place_at clients place) r some none ∙ ap who_in (sym (at_is clients place))

opened_seen : (c : Option ClientPlace) → has_opened c ≡ opened_in (seen_at c)
opened_seen None = refl
opened_seen (Some c) = refl

pub opened_is : (clients : ClientPlaces) (place : ℕ) (r : Option OpenObject) → r ≡ has_opened (place_at clients place) → r ≡ opened_in (slice_get (peers_of clients) place)
opened_is clients place r is = is ∙ opened_seen (place_at clients place) ∙ ap opened_in (sym (at_is clients place))

held_seen : (c : Option ClientPlace) → rest_in c ≡ held_in (seen_at c)
held_seen None = refl
held_seen (Some c) = refl

pub held_is : (clients : ClientPlaces) (place : ℕ) → held_in (slice_get (peers_of clients) place) ≡ rest_in (place_at clients place)
held_is clients place = ap held_in (at_is clients place) ∙ sym (held_seen (place_at clients place))

pub waits_is : (clients : ClientPlaces) (place : ℕ) → waits_of (opened_in (slice_get (peers_of clients) place)) ≡ waits_in (place_at clients place)
waits_is clients place = ap (λ o. waits_of (opened_in o)) (at_is clients place) ∙ ap waits_of (sym (opened_seen (place_at clients place)))

-- as many places
pub count_is : (clients : ClientPlaces) → length (peers_of clients) ≡ length clients.rows.items
count_is clients = go clients.rows.items
  where
    go : (xs : List ClientPlace) → length (map peer_of xs) ≡ length xs
    go [] = refl
    go (x ∷ xs) = ap suc (go xs)

pub place_is : (clients : ClientPlaces) (who : ℕ) → place_for clients who ≡ who % length (peers_of clients)
place_is clients who = ap (λ n. who % n) (sym (count_is clients))

has_by : (here : Bool) (n who : ℕ) → (if here then n == who else false) ≡ true → (if here then Some n else None) ≡ Some who
has_by true n who is = ap Some (eqb-true n who is)
has_by false n who is = absurd (true≢false (sym is))

has_seen : (c : Option ClientPlace) (who : ℕ) → has_in who c ≡ true → who_in (seen_at c) ≡ Some who
has_seen None who is = absurd (true≢false (sym is))
has_seen (Some c) who is = has_by c.is_here c.who who is

pub has_is : (clients : ClientPlaces) (place who : ℕ) → has_in who (place_at clients place) ≡ true → who_in (slice_get (peers_of clients) place) ≡ Some who
has_is clients place who is = ap who_in (at_is clients place) ∙ has_seen (place_at clients place) who is

none_some : (n : ℕ) → None ≡ Some n → ⊥
none_some n is = true≢false (sym (ap (λ (o : Option ℕ). is_some o) is))

hasnt_by : (here : Bool) (n who : ℕ) → (if here then n == who else false) ≡ false → (if here then Some n else None) ≡ Some who → ⊥
hasnt_by true n who is same = true≢false (sym (eq-eqb n who (same_Some n who same)) ∙ is)
hasnt_by false n who is same = none_some who same

hasnt_seen : (c : Option ClientPlace) (who : ℕ) → has_in who c ≡ false → who_in (seen_at c) ≡ Some who → ⊥
hasnt_seen None who is same = none_some who same
hasnt_seen (Some c) who is same = hasnt_by c.is_here c.who who is same

pub hasnt : (clients : ClientPlaces) (who : ℕ) → has_in who (place_at clients (place_for clients who)) ≡ false →
    who_in (slice_get (peers_of clients) (who % length (peers_of clients))) ≡ Some who → ⊥
hasnt clients who is same =
    hasnt_seen (place_at clients (place_for clients who)) who is
    (ap who_in (sym (at_is clients (place_for clients who))) ∙ ap (λ p. who_in (slice_get (peers_of clients) p)) (place_is clients who) ∙ same)

here_by : (here : Bool) (n : ℕ) → here ≡ true → (other : ℕ) × ((if here then Some n else None) ≡ Some other)
here_by true n is = (n, refl)
here_by false n is = absurd (true≢false (sym is))

here_seen : (c : Option ClientPlace) → is_here_in c ≡ true → (other : ℕ) × (who_in (seen_at c) ≡ Some other)
here_seen None is = absurd (true≢false (sym is))
here_seen (Some c) is = here_by c.is_here c.who is

pub here_is : (clients : ClientPlaces) (place : ℕ) → is_here_in (place_at clients place) ≡ true → (other : ℕ) × (who_in (slice_get (peers_of clients) place) ≡ Some other)
here_is clients place is = let h = here_seen (place_at clients place) is in (h.0, ap who_in (at_is clients place) ∙ h.1)

away_by : (here : Bool) (n : ℕ) → here ≡ false → (if here then Some n else None) ≡ None
away_by true n is = absurd (true≢false is)
away_by false n is = refl

away_seen : (c : Option ClientPlace) → is_here_in c ≡ false → who_in (seen_at c) ≡ None
away_seen None is = refl
away_seen (Some c) is = away_by c.is_here c.who is

pub away_is : (clients : ClientPlaces) (who : ℕ) → is_here_in (place_at clients (place_for clients who)) ≡ false →
    who_in (slice_get (peers_of clients) (who % length (peers_of clients))) ≡ None
away_is clients who is =
    ap (λ p. who_in (slice_get (peers_of clients) p)) (sym (place_is clients who)) ∙ ap who_in (at_is clients (place_for clients who))
    ∙ away_seen (place_at clients (place_for clients who)) is

-- a place of these
abbrev mk : Option ℕ → Option OpenObject → List ℕ → Bool → Peer
mk who opened held is_cut = record { who = who; opened = opened; held = held; is_cut = is_cut }

mk_is : (a b : Option ℕ) (o p : Option OpenObject) (h k : List ℕ) (c d : Bool) → a ≡ b → o ≡ p → h ≡ k → c ≡ d → mk a o h c ≡ mk b p k d
mk_is a b o p h k c d one two three four =
    ap (λ x. mk x o h c) one ∙ ap (λ x. mk b x h c) two ∙ ap (λ x. mk b p x c) three ∙ ap (λ x. mk b p k x) four

same_by : (hx hy : Bool) (nx ny : ℕ) → hy ≡ hx → ((who : ℕ) → (if hy then ny == who else false) ≡ (if hx then nx == who else false)) →
    (if hy then Some ny else None) ≡ (if hx then Some nx else None)
same_by true true nx ny here each = ap Some (eqb-true ny nx (each nx ∙ eq-eqb nx nx refl))
same_by true false nx ny here each = absurd (true≢false (sym here))
same_by false true nx ny here each = absurd (true≢false here)
same_by false false nx ny here each = refl

cut_is : (h k : List ℕ) (c d : Bool) → h ≡ k → c ≡ d → cut_of h c ≡ cut_of k d
cut_is h k c d one two = ap (λ x. cut_of x c) one ∙ ap (λ x. cut_of k x) two

peer_same : (x y : ClientPlace) → IsSame (Some x) (Some y) → peer_of y ≡ peer_of x
peer_same x y same =
    mk_is _ _ _ _ _ _ _ _ (same_by x.is_here y.is_here x.who y.who same.here same.who) same.opened same.rest (cut_is _ _ _ _ same.rest same.cut)

pub peers_same : (xs ys : List ClientPlace) → AreSameRows xs ys → map peer_of ys ≡ map peer_of xs
peers_same xs ys same = go xs ys same.count same.each
  where
    go : (xs ys : List ClientPlace) → length ys ≡ length xs → ((k : ℕ) → IsSame (slice_get xs k) (slice_get ys k)) → map peer_of ys ≡ map peer_of xs
    go [] [] count each = refl
    go [] (y ∷ ys) count each = absurd (omega (arith, count))
    go (x ∷ xs) [] count each = absurd (omega (arith, count))
    go (x ∷ xs) (y ∷ ys) count each =
        ap (λ p. p ∷ map peer_of ys) (peer_same x y (each zero)) ∙ ap (λ l. peer_of x ∷ l) (go xs ys (omega (arith, count)) (λ k. each (suc k)))

pub all_same : (old new : ClientPlaces) → AreSame old new → peers_of new ≡ peers_of old
all_same old new same = peers_same old.rows.items new.rows.items same

rows_same : (xs ys : List ClientPlace) → length ys ≡ length xs → ((k : ℕ) → slice_get ys k ≡ slice_get xs k) → ys ≡ xs
rows_same [] [] count each = refl
rows_same [] (y ∷ ys) count each = absurd (omega (arith, count))
rows_same (x ∷ xs) [] count each = absurd (omega (arith, count))
rows_same (x ∷ xs) (y ∷ ys) count each =
    ap (λ z. z ∷ ys) (same_Some y x (each zero)) ∙ ap (λ l. x ∷ l) (rows_same xs ys (omega (arith, count)) (λ k. each (suc k)))

suc_apart : (p k : ℕ) → p ≢ k → suc p ≢ suc k
suc_apart p k ne same = ne (omega (arith, same))

rows_change : (xs ys : List ClientPlace) (p : ℕ) (f : Peer → Peer) → length ys ≡ length xs → ((k : ℕ) → p ≢ k → slice_get ys k ≡ slice_get xs k) →
    ((x y : ClientPlace) → slice_get xs p ≡ Some x → slice_get ys p ≡ Some y → peer_of y ≡ f (peer_of x)) → map peer_of ys ≡ change (map peer_of xs) p f
rows_change [] [] p f count others here = refl
rows_change [] (y ∷ ys) p f count others here = absurd (omega (arith, count))
rows_change (x ∷ xs) [] p f count others here = absurd (omega (arith, count))
rows_change (x ∷ xs) (y ∷ ys) zero f count others here =
    let tail : ys ≡ xs = rows_same xs ys (omega (arith, count)) (λ k. others (suc k) (λ same. absurd (omega (arith, same)))) in
    ap (λ p. p ∷ map peer_of ys) (here x y refl refl) ∙ ap (λ l. f (peer_of x) ∷ map peer_of l) tail
rows_change (x ∷ xs) (y ∷ ys) (suc p) f count others here =
    let head : y ≡ x = same_Some y x (others zero (λ same. absurd (omega (arith, same)))) in
    ap (λ z. peer_of z ∷ map peer_of ys) head
    ∙ ap (λ l. peer_of x ∷ l) (rows_change xs ys p f (omega (arith, count)) (λ k ne. others (suc k) (suc_apart p k ne)) here)

-- the one at a place changes, and no other
pub changes : (old new : ClientPlaces) (place : ℕ) (f : Peer → Peer) → Elsewhere old new place →
    ((x y : ClientPlace) → place_at old place ≡ Some x → place_at new place ≡ Some y → peer_of y ≡ f (peer_of x)) →
    peers_of new ≡ change (peers_of old) place f
changes old new place f elsewhere here =
    rows_change old.rows.items new.rows.items place f elsewhere.count (λ k ne. elsewhere.others k (ne_eqb place k ne)) here

-- there is a place where one is found
within : (old : ClientPlaces) (place : ℕ) (x : ClientPlace) → place_at old place ≡ Some x → place < length old.rows.items
within old place x is = inside old.rows.items place x is
  where
    inside : (xs : List ClientPlace) (k : ℕ) (x : ClientPlace) → slice_get xs k ≡ Some x → k < length xs
    inside [] k x is = absurd (true≢false (sym (ap (λ (o : Option ClientPlace). is_some o) is)))
    inside (y ∷ xs) zero x is = omega arith
    inside (y ∷ xs) (suc k) x is = omega (arith, inside xs k x is)

at_some : (P : Option ClientPlace → Option ClientPlace → Type 0) (a b : Option ClientPlace) (x y : ClientPlace) → a ≡ Some x → b ≡ Some y → P a b → P (Some x) (Some y)
at_some P a b x y one two is = subst (λ c. P c (Some y)) one (subst (λ c. P a c) two is)

opened_peer : (opened : OpenObject) (x y : ClientPlace) → HasOpened opened (Some x) (Some y) → peer_of y ≡ opening opened (peer_of x)
opened_peer opened x y h =
    mk_is _ _ _ _ _ _ _ _ (same_by x.is_here y.is_here x.who y.who h.here h.who) h.opened h.rest (cut_is _ _ _ _ h.rest h.cut)

pub opens : (old new : ClientPlaces) (place : ℕ) (opened : OpenObject) → Elsewhere old new place →
    (place < length old.rows.items → HasOpened opened (place_at old place) (place_at new place)) → peers_of new ≡ change (peers_of old) place (opening opened)
opens old new place opened elsewhere set =
    changes old new place (opening opened) elsewhere
    (λ x y one two. opened_peer opened x y (at_some (HasOpened opened) (place_at old place) (place_at new place) x y one two (set (within old place x one))))

set_peer : (waits : Bool) (x y : ClientPlace) → IsSetTo waits (Some x) (Some y) → peer_of y ≡ waiting waits (peer_of x)
set_peer waits x y h =
    mk_is _ _ _ _ _ _ _ _ (same_by x.is_here y.is_here x.who y.who h.here h.who) h.opened h.rest (cut_is _ _ _ _ h.rest h.cut)

pub sets_waits : (old mid new : ClientPlaces) (place : ℕ) (waits : Bool) → Elsewhere old mid place → IsSetTo waits (place_at old place) (place_at mid place) →
    AreSame mid new → peers_of new ≡ change (peers_of old) place (waiting waits)
sets_waits old mid new place waits elsewhere set same =
    all_same mid new same
    ∙ changes old mid place (waiting waits) elsewhere
    (λ x y one two. set_peer waits x y (at_some (IsSetTo waits) (place_at old place) (place_at mid place) x y one two set))

cut_behind : (held line : List ℕ) (c : Bool) → cut_of (held ++ (line ++ 10 ∷ [])) c ≡ c
cut_behind [] [] c = refl
cut_behind [] (b ∷ line) c = refl
cut_behind (b ∷ held) line c = refl

held_peer : (line : List ℕ) (whole : Bool) (x y : ClientPlace) → IsHeld line whole (Some x) (Some y) → peer_of y ≡ holding line whole (peer_of x)
held_peer line whole x y h =
    mk_is _ _ _ _ _ _ _ _ (same_by x.is_here y.is_here x.who y.who h.here h.who) h.opened h.rest
    (cut_is _ _ _ _ h.rest h.cut ∙ cut_behind (rest_in (Some x)) line (is_not whole))

pub holds : (old mid new : ClientPlaces) (place : ℕ) (line : List ℕ) (whole : Bool) → Elsewhere old mid place →
    (place < length old.rows.items → IsHeld line whole (place_at old place) (place_at mid place)) → AreSame mid new →
    peers_of new ≡ change (peers_of old) place (holding line whole)
holds old mid new place line whole elsewhere held same =
    all_same mid new same
    ∙ changes old mid place (holding line whole) elsewhere
    (λ x y one two. held_peer line whole x y
    (at_some (IsHeld line whole) (place_at old place) (place_at mid place) x y one two (held (within old place x one))))

change_none : (ps : List Peer) (k : ℕ) → change ps k (λ p. p) ≡ ps
change_none [] k = refl
change_none (p ∷ ps) zero = refl
change_none (p ∷ ps) (suc k) = ap (λ l. p ∷ l) (change_none ps k)

-- the same is there, at a place and at the others
pub same_there : (old new : ClientPlaces) (place : ℕ) → Elsewhere old new place → IsSame (place_at old place) (place_at new place) → peers_of new ≡ peers_of old
same_there old new place elsewhere same =
    changes old new place (λ p. p) elsewhere
    (λ x y one two. peer_same x y (at_some IsSame (place_at old place) (place_at new place) x y one two same))
    ∙ change_none (peers_of old) place

-- what is known of a client is not seen there
known_peer : (f : Person → Person) (x y : ClientPlace) → ChangesPerson f (Some x) (Some y) → peer_of y ≡ peer_of x
known_peer f x y h =
    mk_is _ _ _ _ _ _ _ _ (same_by x.is_here y.is_here x.who y.who h.here h.who) h.opened h.rest (cut_is _ _ _ _ h.rest h.cut)

pub known_there : (old new : ClientPlaces) (place : ℕ) (f : Person → Person) → Elsewhere old new place → ChangesPerson f (place_at old place) (place_at new place) →
    peers_of new ≡ peers_of old
known_there old new place f elsewhere known =
    changes old new place (λ p. p) elsewhere
    (λ x y one two. known_peer f x y (at_some (ChangesPerson f) (place_at old place) (place_at new place) x y one two known))
    ∙ change_none (peers_of old) place

drop_none : (n : ℕ) (xs : List ℕ) → xs ≡ [] → drop n xs ≡ []
drop_none zero xs is = is
drop_none (suc n) xs is = ap (λ l. drop (suc n) l) is

come_peer : (who : ℕ) (y : ClientPlace) → has_in who (Some y) ≡ true → has_opened (Some y) ≡ None → all_held (Some y) ≡ [] → peer_of y ≡ comer who
come_peer who y has opened held =
    let rest : drop y.done y.held.items ≡ [] = drop_none y.done y.held.items held in
    mk_is _ _ _ _ _ _ _ _ (has_by y.is_here y.who who has) opened rest (ap (λ l. cut_of l y.is_cut) rest)

pub comes : (old new : ClientPlaces) (who : ℕ) → Elsewhere old new (place_for old who) →
    (0 < length old.rows.items → has_in who (place_at new (place_for old who)) ≡ true) → has_opened (place_at new (place_for old who)) ≡ None →
    all_held (place_at new (place_for old who)) ≡ [] → peers_of new ≡ change (peers_of old) (who % length (peers_of old)) (λ p. comer who)
comes old new who elsewhere has opened held =
    subst (λ n. peers_of new ≡ change (peers_of old) n (λ p. comer who)) (place_is old who)
    (changes old new (place_for old who) (λ p. comer who) elsewhere (λ x y one two.
    come_peer who y (subst (λ c. has_in who c ≡ true) two (has (omega (arith, within old (place_for old who) x one))))
    (subst (λ c. has_opened c ≡ None) two opened) (subst (λ c. all_held c ≡ []) two held)))

gone_peer : (y : ClientPlace) → is_here_in (Some y) ≡ false → has_opened (Some y) ≡ None → all_held (Some y) ≡ [] → peer_of y ≡ nobody
gone_peer y away opened held =
    let rest : drop y.done y.held.items ≡ [] = drop_none y.done y.held.items held in
    mk_is _ _ _ _ _ _ _ _ (away_by y.is_here y.who away) opened rest (ap (λ l. cut_of l y.is_cut) rest)

pub goes : (old new : ClientPlaces) (place : ℕ) → Elsewhere old new place → is_here_in (place_at new place) ≡ false → has_opened (place_at new place) ≡ None →
    all_held (place_at new place) ≡ [] → peers_of new ≡ change (peers_of old) place (λ p. nobody)
goes old new place elsewhere away opened held =
    changes old new place (λ p. nobody) elsewhere (λ x y one two.
    gone_peer y (subst (λ c. is_here_in c ≡ false) two away) (subst (λ c. has_opened c ≡ None) two opened) (subst (λ c. all_held c ≡ []) two held))

cut_line : (line behind : List ℕ) (c : Bool) → cut_of (line ++ 10 ∷ behind) c ≡ c
cut_line [] behind c = refl
cut_line (b ∷ line) behind c = refl

drop_line : (line behind : List ℕ) → drop (length line + 1) (line ++ 10 ∷ behind) ≡ behind
drop_line line behind = subst (λ n. drop n (line ++ 10 ∷ behind) ≡ behind) (let e : suc (length line) ≡ length line + 1 = omega arith in e) (go line)
  where
    go : (line : List ℕ) → drop (suc (length line)) (line ++ 10 ∷ behind) ≡ behind
    go [] = refl
    go (b ∷ line) = go line

passed_peer : (count : ℕ) (line behind : List ℕ) (x y : ClientPlace) → rest_in (Some x) ≡ line ++ 10 ∷ behind → count ≡ length line + 1 → IsPassed count (Some x) (Some y) →
    peer_of y ≡ left_with behind (peer_of x)
passed_peer count line behind x y is counted h =
    let rest : rest_in (Some y) ≡ behind = h.rest ∙ ap (λ n. drop n (rest_in (Some x))) counted ∙ ap (λ l. drop (length line + 1) l) is ∙ drop_line line behind in
    let was : cut_of (rest_in (Some x)) x.is_cut ≡ x.is_cut = ap (λ l. cut_of l x.is_cut) is ∙ cut_line line behind x.is_cut in
    mk_is _ _ _ _ _ _ _ _ (same_by x.is_here y.is_here x.who y.who h.here h.who) h.opened rest
    (cut_is (rest_in (Some y)) behind y.is_cut (cut_of (rest_in (Some x)) x.is_cut) rest (h.cut ∙ sym was))

nothing_first : (line behind : List ℕ) → [] ≡ line ++ 10 ∷ behind → ⊥
nothing_first [] behind is = true≢false (sym (ap has is))
  where
    has : List ℕ → Bool
    has [] = false
    has (b ∷ l) = true
nothing_first (c ∷ line) behind is = true≢false (sym (ap has is))
  where
    has : List ℕ → Bool
    has [] = false
    has (b ∷ l) = true

abbrev made_of : Custodies → List Scene → List Peer → State
made_of custody os ps = record { objects = os; peers = ps; custody = custody }

-- the first held line was taken
pub takes : (old new : ClientPlaces) (place : ℕ) (asked : Result Ask AllocError) → Elsewhere old new place →
    IsTaken (place_at old place) (place_at new place) asked → (custody : Custodies) (objects : List Scene) → TakesLine place asked (state_of custody objects old) (state_of custody objects new)
takes old new place asked elsewhere taken custody objects = by (place_at old place) refl taken
  where
    by : (c : Option ClientPlace) → place_at old place ≡ c → IsTaken c (place_at new place) asked → TakesLine place asked (state_of custody objects old) (state_of custody objects new)
    by None is t = absurd (nothing_first t.asks.line t.asks.behind t.asks.first.1)
    by (Some x) is t = record {
      peer = peer_of x;
      there = at_is old place ∙ ap seen_at is;
      line = t.asks.line;
      behind = t.asks.behind;
      first = t.asks.first;
      asks = subst (λ b. IfOk asked (Asks (is_some x.opened) (is_whole_before b t.asks.behind) t.asks.line))
          (sym (ap (λ l. cut_of l x.is_cut) t.asks.first.1 ∙ cut_line t.asks.line t.asks.behind x.is_cut)) t.asks.asks;
      left = ap (λ (ps : List Peer). made_of custody objects ps) (changes old new place (left_with t.asks.behind) elsewhere (λ w y one two.
          passed_peer t.count t.asks.line t.asks.behind w y (ap rest_in (sym one ∙ is) ∙ t.asks.first.1) t.asks.counted
          (at_some (IsPassed t.count) (Some x) (place_at new place) w y (sym is ∙ one) two t.passed)));
    }

none_opened : (opened : OpenObject) → None ≡ Some opened → ⊥
none_opened opened is = true≢false (sym (ap (λ (o : Option OpenObject). is_some o) is))

-- who waits for a call
pub waits_by : (clients : ClientPlaces) (place at session number : ℕ) (opened : OpenObject) → Some opened ≡ opened_in (slice_get (peers_of clients) place) →
    IsFor at session number opened → (custody : Custodies) (objects : List Scene) → Waits at session number (state_of custody objects clients) place
waits_by clients place at session number opened by is custody objects = record { opened = opened; by = sym by; is = is }

pub waits_not : (clients : ClientPlaces) (place at session number : ℕ) (opened : OpenObject) → Some opened ≡ opened_in (slice_get (peers_of clients) place) →
    (IsFor at session number opened → ⊥) → (custody : Custodies) (objects : List Scene) → Waits at session number (state_of custody objects clients) place → ⊥
waits_not clients place at session number opened by not custody objects waits =
    not (subst (λ (o : OpenObject). IsFor at session number o) (sym (same_Some opened waits.opened (by ∙ waits.by))) waits.is)

pub nobody_waits : (clients : ClientPlaces) (place at session number : ℕ) → None ≡ opened_in (slice_get (peers_of clients) place) →
    (custody : Custodies) (objects : List Scene) → Waits at session number (state_of custody objects clients) place → ⊥
nobody_waits clients place at session number none custody objects waits = none_opened waits.opened (none ∙ waits.by)

-- none at the places that there are, so none at all
pub none_waits : (clients : ClientPlaces) (at session number : ℕ) →
    ((place : ℕ) → place < length (peers_of clients) → (custody : Custodies) (objects : List Scene) → Waits at session number (state_of custody objects clients) place → ⊥) →
    (custody : Custodies) (objects : List Scene) (place : ℕ) → Waits at session number (state_of custody objects clients) place → ⊥
none_waits clients at session number none custody objects place waits = none place (inside (peers_of clients) place waits.opened waits.by) custody objects waits
  where
    inside : (ps : List Peer) (k : ℕ) (o : OpenObject) → opened_in (slice_get ps k) ≡ Some o → k < length ps
    inside [] k o is = absurd (none_opened o is)
    inside (p ∷ ps) zero o is = omega arith
    inside (p ∷ ps) (suc k) o is = omega (arith, inside ps k o is)

if_none : {X : Type 0} (r : Option X) {P Q : Type 0} → IfNone r P → (P → Q) → IfNone r Q
if_none None h f = f h
if_none (Some x) h f = tt

pub take_none : (clients : ClientPlaces) (place : ℕ) (r : Option (Result Ask AllocError)) (same : Type 0) →
    IfNone r (NoLineFeed (rest_in (place_at clients place)) × same) → IfNone r (NoLineFeed (held_in (slice_get (peers_of clients) place)))
take_none clients place r same h = if_none r h (λ a. subst (λ (l : List ℕ). NoLineFeed l) (sym (held_is clients place)) a.0)

pub away_if : (clients : ClientPlaces) (who : ℕ) (r : Option ℕ) → IfNone r (is_here_in (place_at clients (place_for clients who)) ≡ false) →
    IfNone r (who_in (slice_get (peers_of clients) (who % length (peers_of clients))) ≡ None)
away_if clients who r h = if_none r h (λ a. away_is clients who a)

-- none at the places up to one, and none there
pub none_more : (clients : ClientPlaces) (at session number place : ℕ) →
    ((k : ℕ) → k < place → (custody : Custodies) (objects : List Scene) → Waits at session number (state_of custody objects clients) k → ⊥) →
    ((custody : Custodies) (objects : List Scene) → Waits at session number (state_of custody objects clients) place → ⊥) →
    (k : ℕ) → k < place + 1 → (custody : Custodies) (objects : List Scene) → Waits at session number (state_of custody objects clients) k → ⊥
none_more clients at session number place before none k less custody objects waits = by (eqb_tells k place)
  where
    by : ((eqb k place ≡ true) × (k ≡ place)) ⊎ ((eqb k place ≡ false) × (k ≢ place)) → ⊥
    by (inl same) = none custody objects (subst (λ n. Waits at session number (state_of custody objects clients) n) same.1 waits)
    by (inr other) = before k (let ne = other.1 in omega (arith, less, ne)) custody objects waits

-- the one at a place has not this session of the object at a place
abbrev pub HasNot : ClientPlaces → ℕ → ℕ → ℕ → Type 0
HasNot clients at session place =
    (o : OpenObject) → opened_in (slice_get (peers_of clients) place) ≡ Some o → o.object ≡ at → o.session ≡ session → ⊥
