-- The device calls of a call that is run at once.
use Rattle.std.proofs.Common.{◌≡◌, ◌⊎◌, inl, inr, ℕ, zero, suc, ◌+◌, ◌≤◌, List, [], ◌∷◌, ◌++◌, length, Option, Some, None, Ok, Err, refl, sym, ap, ◌∙◌, subst, append_assoc, arith}
use Rattle.std.specs.Prelude.{Result, slice_get}
use Rattle.std.specs.Result.{IsErrOf}
use Rattle.std.proofs.lemmas.List.{append-nil}
use Rattle.device_core.specs.declared.hand.HandFault.{HandFault}
use Rattle.device_core.specs.declared.hand.HandFault.TheVariants as faults
use Rattle.device_core.specs.declared.hand.Stamp.{Stamp}
use Rattle.device_core.specs.Device.{AreServed as ServesEach}
use Rattle.device_core.specs.Made.{Made, reads}
use Rattle.apply_core.specs.declared.reply.Failure.{Failure}
use Rattle.apply_core.specs.declared.reply.Failure.TheVariants as failures
use Rattle.apply_core.specs.declared.reply.Reply.{Reply}
use Rattle.apply_core.specs.declared.reply.Reply.TheVariants as replies
use Rattle.page_core.specs.declared.plan.PageWrite.{PageWrite}
use Rattle.page_core.specs.Calls.{AreMade, ReadInOrder, WritesPages, all}
use Rattle.page_core.specs.PartPins.{pin_at}
use Rattle.page_core.proofs.Calling.{made_both}
use Rattle.page_core.proofs.ListBytes.{some_same}
use Rattle.known_core.specs.Masks.{IsOneMore}
use Rattle.known_core.specs.Wanted.{IsNextPage}
use Rattle.page_core.specs.CallPins.{Call, IsNext}
use Rattle.run_core.specs.Seen.{IsPaged}
use Rattle.run_core.specs.AtOnce.{ReadsPart, ReadsParts, reads_none, reads_part, ReadsMore, no_more, one_more, one_fails, FailsFor, WritesAll, GoesOn, RunsAtOnce}
use Rattle.run_core.specs.Calling.{IsStampAt}
use Rattle.run_core.specs.Phases.{failure_of}
use Rattle.run_core.specs.Steps.{AreServed, PinsServed}

few : (pages : List Stamp) (calls : List Made) → slice_get pages 0 ≡ None → ReadInOrder pages calls → length calls ≤ 1
few [] [] none read = omega arith
few [] (call ∷ calls) none read = absurd read
few (page ∷ pages) calls none read = absurd cc

-- the pages of a part that is not read page by page, or has none
pub all_read : {H : Type 0} (makes : H → Made → H → Type 0) (call : Call) (part : ℕ) (pages : List Stamp) (old new : H) → pin_at call.pins part ≡ Some pages → (IsPaged call part → slice_get pages 0 ≡ None)
    → ((calls : List Made) × AreMade makes old calls new × ReadInOrder pages calls) → (calls : List Made) × AreMade makes old calls new × ReadsPart call part calls
all_read makes call part pages old new pin empty read = (read.0, read.1, (pages, pin, read.2, λ paged. few pages read.0 (empty paged) read.2))

read_first : (pages : List Stamp) (page : Stamp) (bytes : List ℕ) (answer : Result (Unit {0}) HandFault) → slice_get pages 0 ≡ Some page → ReadInOrder pages (reads page 0 bytes answer ∷ [])
read_first [] page bytes answer is = absurd cc
read_first (first ∷ pages) page bytes answer is = ((bytes, answer, ap (λ s. reads s 0 bytes answer) (sym (some_same is)), λ bad. refl), tt)

-- the first page of one that is
pub first_read : {H X : Type 0} (makes : H → Made → H → Type 0) (call : Call) (part : ℕ) (pages : List Stamp) (page : Stamp) (answer : Result (Unit {0}) HandFault) (old new : H) → pin_at call.pins part ≡ Some pages → slice_get pages 0 ≡ Some page
    → (X × (new ≡ old)) ⊎ ((bytes : List ℕ) × makes old (reads page 0 bytes answer) new) → (calls : List Made) × AreMade makes old calls new × ReadsPart call part calls
first_read makes call part pages page answer old new pin at (inl none) = ([], none.1, (pages, pin, tt, λ paged. omega arith))
first_read makes call part pages page answer old new pin at (inr one) = (reads page 0 one.0 answer ∷ [], (new, one.1, refl), (pages, pin, read_first pages page one.0 answer at, λ paged. omega arith))

-- the last part that is read
pub part_last : {H : Type 0} (makes : H → Made → H → Type 0) (call : Call) (from part : ℕ) (old new : H) → IsNext call from part
    → ((calls : List Made) × AreMade makes old calls new × ReadsPart call part calls) → (calls : List Made) × AreMade makes old calls new × ReadsParts call from calls
part_last makes call from part old new next first = (first.0, first.1, subst (λ (l : List Made). ReadsParts call from l) (append-nil first.0) (reads_part from part first.0 [] next first.2 (reads_none (part + 1))))

-- a part, and those behind it
pub parts_on : {H : Type 0} (makes : H → Made → H → Type 0) (call : Call) (from part : ℕ) (old mid new : H) → IsNext call from part
    → ((calls : List Made) × AreMade makes old calls mid × ReadsPart call part calls) → ((calls : List Made) × AreMade makes mid calls new × ReadsParts call (part + 1) calls)
    → (calls : List Made) × AreMade makes old calls new × ReadsParts call from calls
parts_on makes call from part old mid new next first rest = (first.0 ++ rest.0, made_both makes old mid new first.0 rest.0 first.1 rest.1, reads_part from part first.0 rest.0 next first.2 rest.2)

-- the pages that a body came to so far, where these pages are known now
abbrev pub ReadsSoFar : {H : Type 0} → (H → Made → H → Type 0) → Call → List ℕ → List ℕ → H → H → Type 0
ReadsSoFar makes call first known old now =
    (calls : List Made) × AreMade makes old calls now × ((rest : List Made) → ReadsMore call known rest → ReadsMore call first (calls ++ rest))

not_err : (u : Unit {0}) → IsErrOf {T = Unit {0}} (Ok u) faults.Memory → ⊥
not_err u is = let e : ◌≡◌ {A = Result (Unit {0}) HandFault} (Ok u) (Err faults.Memory) = is in absurd cc

pub page_on : {H : Type 0} (makes : H → Made → H → Type 0) (call : Call) (first known grown : List ℕ) (part page : ℕ) (stamp : Stamp) (u : Unit {0}) (old mid new : H) → ReadsSoFar makes call first known old mid
    → IsNextPage known call.operation part page → IsStampAt call part page stamp → IsOneMore known grown part page
    → (IsErrOf {T = Unit {0}} (Ok u) faults.Memory × (new ≡ mid)) ⊎ ((bytes : List ℕ) × makes mid (reads stamp 0 bytes (Ok u)) new) → ReadsSoFar makes call first grown old new
page_on makes call first known grown part page stamp u old mid new was next at more (inl none) = absurd (not_err u none.0)
page_on makes call first known grown part page stamp u old mid new was next at more (inr one) = (
  was.0 ++ reads stamp 0 one.0 (Ok u) ∷ [],
  made_both makes old mid new was.0 (reads stamp 0 one.0 (Ok u) ∷ []) was.1 (new, one.1, refl),
  λ rest go. subst (λ (l : List Made). ReadsMore call first l) (sym (append_assoc was.0 (reads stamp 0 one.0 (Ok u) ∷ []) rest)) (was.2 (reads stamp 0 one.0 (Ok u) ∷ rest) (one_more known grown part page stamp one.0 rest next at more go)),
)

pub pages_over : {H : Type 0} (makes : H → Made → H → Type 0) (call : Call) (first known : List ℕ) (old now : H) → ReadsSoFar makes call first known old now → (calls : List Made) × AreMade makes old calls now × ReadsMore call first calls
pages_over makes call first known old now was = (was.0, was.1, subst (λ (l : List Made). ReadsMore call first l) (append-nil was.0) (was.2 [] (no_more known)))

pub page_fails : {H X : Type 0} (makes : H → Made → H → Type 0) (call : Call) (first known : List ℕ) (part page : ℕ) (stamp : Stamp) (fault : HandFault) (old mid new : H) → ReadsSoFar makes call first known old mid
    → IsNextPage known call.operation part page → IsStampAt call part page stamp
    → (X × (new ≡ mid)) ⊎ ((bytes : List ℕ) × makes mid (reads stamp 0 bytes (Err fault)) new) → (calls : List Made) × AreMade makes old calls new × ReadsMore call first calls
page_fails makes call first known part page stamp fault old mid new was next at (inl none) = pages_over makes call first known old new (was.0, subst (λ h. AreMade makes old was.0 h) (sym none.1) was.1, was.2)
page_fails makes call first known part page stamp fault old mid new was next at (inr one) = (
  was.0 ++ reads stamp 0 one.0 (Err fault) ∷ [],
  made_both makes old mid new was.0 (reads stamp 0 one.0 (Err fault) ∷ []) was.1 (new, one.1, refl),
  was.2 (reads stamp 0 one.0 (Err fault) ∷ []) (one_fails known part page stamp one.0 fault next at),
)

-- the writes of a call, and all that they sealed is told
pub writes_told : (writes : List PageWrite) (calls : List Made) (sealed told : List Stamp) (fault : Option HandFault) (reply : Reply) → told ≡ sealed → WritesPages writes calls sealed fault → FailsFor fault reply → WritesAll reply told calls
writes_told writes calls sealed told fault reply same written ended = record { writes = writes; fault = fault; written = subst (λ (s : List Stamp). WritesPages writes calls s fault) (sym same) written; ended = ended }

-- one that wrote nothing
pub writes_none : (sealed : List Stamp) (reply : Reply) → sealed ≡ [] → WritesAll reply sealed []
writes_none sealed reply none = writes_told [] [] [] sealed None reply none all tt

pub reads_alone : {H : Type 0} (makes : H → Made → H → Type 0) (call : Call) (known : List ℕ) (reply : Reply) (sealed : List Stamp) (old new : H) → sealed ≡ []
    → ((calls : List Made) × AreMade makes old calls new × ReadsMore call known calls) → (calls : List Made) × AreMade makes old calls new × GoesOn call known reply sealed calls
reads_alone makes call known reply sealed old new none read = (read.0, read.1, record { more = read.0; last = []; all = sym (append-nil read.0); on_demand = read.2; writes = writes_none sealed reply none })

pub reads_and_writes : {H : Type 0} (makes : H → Made → H → Type 0) (call : Call) (known : List ℕ) (reply : Reply) (sealed : List Stamp) (old mid new : H)
    → ((calls : List Made) × AreMade makes old calls mid × ReadsMore call known calls) → ((calls : List Made) × AreMade makes mid calls new × WritesAll reply sealed calls)
    → (calls : List Made) × AreMade makes old calls new × GoesOn call known reply sealed calls
reads_and_writes makes call known reply sealed old mid new read wrote = (read.0 ++ wrote.0, made_both makes old mid new read.0 wrote.0 read.1 wrote.1, record { more = read.0; last = wrote.0; all = refl; on_demand = read.2; writes = wrote.2 })

pub at_first_alone : {H : Type 0} (makes : H → Made → H → Type 0) (call of : Call) (reply : Reply) (sealed : List Stamp) (old new : H) → call ≡ of → sealed ≡ []
    → ((calls : List Made) × AreMade makes old calls new × ReadsParts call 0 calls) → (calls : List Made) × AreMade makes old calls new × RunsAtOnce of reply sealed calls
at_first_alone makes call of reply sealed old new same none read =
    (read.0, read.1, subst (λ (k : Call). RunsAtOnce k reply sealed read.0) same (record { first = read.0; behind = []; all = sym (append-nil read.0); at_first = read.2; known = []; rest = record { more = []; last = []; all = refl; on_demand = no_more []; writes = writes_none sealed reply none } }))

pub at_first_and_on : {H : Type 0} (makes : H → Made → H → Type 0) (call of : Call) (known : List ℕ) (reply : Reply) (sealed : List Stamp) (old mid new : H) → call ≡ of
    → ((calls : List Made) × AreMade makes old calls mid × ReadsParts call 0 calls) → ((calls : List Made) × AreMade makes mid calls new × GoesOn call known reply sealed calls)
    → (calls : List Made) × AreMade makes old calls new × RunsAtOnce of reply sealed calls
at_first_and_on makes call of known reply sealed old mid new same read rest =
    (read.0 ++ rest.0, made_both makes old mid new read.0 rest.0 read.1 rest.1, subst (λ (k : Call). RunsAtOnce k reply sealed (read.0 ++ rest.0)) same (record { first = read.0; behind = rest.0; all = refl; at_first = read.2; known = known; rest = rest.2 }))

-- files that can be read, by their places
pub each_served : (serves : Stamp → Type 0) (files : List Stamp) → ServesEach serves files → AreServed serves files
each_served serves [] served = tt
each_served serves (file ∷ files) served = (served 0 file refl, each_served serves files (λ p s at. served (suc p) s at))

no_pin : (serves : Stamp → Type 0) → ServesEach serves []
no_pin serves p pin at = absurd cc

pub none_served : (serves : Stamp → Type 0) (files : List Stamp) → files ≡ [] → ServesEach serves files
none_served serves files none = subst (λ (l : List Stamp). ServesEach serves l) (sym none) (no_pin serves)

-- the pins of a call can be read where what could be read can be
pub pins_still : (before after : Stamp → Type 0) (call : Call) → ((s : Stamp) → before s → after s) → PinsServed before call → PinsServed after call
pins_still before after call still served p page read pages stamp pin at = still stamp (served p page read pages stamp pin at)

-- what failed for the device met a fault of the device
pub fault_of_device : (fault : HandFault) (failure : Failure) → failure ≡ failure_of fault → failure ≡ failures.Device → fault ≡ faults.Device
fault_of_device faults.Device failure is device = refl
fault_of_device faults.Memory failure is device = let e : failures.Memory ≡ failures.Device = sym is ∙ device in absurd cc

failed_so : (one other : Failure) → replies.Failed one ≡ replies.Failed other → one ≡ other
failed_so one other is = ap failure_in is where
  failure_in : Reply → Failure
  failure_in (replies.Failed failure) = failure
  failure_in (replies.Done reply) = one
  failure_in (replies.Refused word) = one

pub failure_in_reply : (reply : Reply) (one other : Failure) → reply ≡ replies.Failed one → reply ≡ replies.Failed other → one ≡ other
failure_in_reply reply one other is told = failed_so one other (sym is ∙ told)

pub err_so : {X E : Type 0} (one other : E) → ◌≡◌ {A = Result X E} (Err one) (Err other) → one ≡ other
err_so {X} {E} one other is = ap error_in is where
  error_in : Result X E → E
  error_in (Ok x) = one
  error_in (Err e) = e
