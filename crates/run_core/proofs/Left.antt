-- What the new page lists of a call hold, when all is sealed.
use Rattle.std.proofs.Common.{◌≡◌, ℕ, zero, suc, ◌+◌, ◌==◌, Bool, true, false, if◌then◌else◌, List, [], ◌∷◌, length, take, drop, Option, Some, refl, sym, ap, ◌∙◌, subst, arith}
use Rattle.std.specs.Prelude.{slice_get}
use Rattle.value_core.specs.Contents.{Contents}
use Rattle.decl_core.specs.Bodies.{body_of}
use Rattle.decl_core.proofs.Footprints.{writes_are_reads}
use Rattle.device_core.specs.declared.hand.Stamp.{Stamp}
use Rattle.device_core.specs.Device.{Assignment}
use Rattle.page_core.specs.Bytes.{list_bytes, AreWhole}
use Rattle.page_core.specs.Laws.{PartRenewal, HaveBefore, HaveAfter}
use Rattle.page_core.specs.PartPins.{PartPin, pin_at, pins_by}
use Rattle.page_core.specs.Renewed.{with_sealed}
use Rattle.page_core.proofs.ListBytes.{some_same}
use Rattle.page_core.proofs.Together.{all_renewed}
use Rattle.run_core.specs.declared.judge.Change.{Change}
use Rattle.run_core.specs.Given.{IsChanged, bytes_for}
use Rattle.run_core.specs.Written.{WritesInOrder, parts_changed}
use Rattle.page_core.specs.CallPins.{Call}
use Rattle.run_core.specs.Laws.{ChangedAreRead, NewPinsAreLeft}
use Rattle.run_core.specs.CallPlanned.{AreRenewals, no_part, same, renewed}
use Rattle.run_core.specs.Read.{AreRead, PinIsRead}
use Rattle.page_core.specs.Truths.{IsLeft}

module _ (a : Assignment) (pins : List PartPin) (read : List (List ℕ)) where
  -- the old list of each part that is changed is whole, and has the bytes before
  have_before : (from : ℕ) (changes : List Change) (parts : List PartRenewal) (counts : List ℕ) → AreRenewals pins read from changes parts counts → ChangedAreRead a pins read changes → HaveBefore a parts
  have_before from changes parts counts no_part known = tt
  have_before from changes parts counts (same changes1 parts1 rest r) known = have_before (from + 1) changes parts rest r known
  have_before from changes parts counts (renewed change part changes1 parts1 rest count at is counted r) known =
      let k = known 0 change refl in
      let olds : k.2.0 ≡ part.olds = some_same (sym k.2.1 ∙ is.pinned) in
      let bytes : k.0 ≡ part.before = some_same (sym k.1 ∙ is.there) in
      let there : list_bytes a part.olds ≡ Some part.before = ap (list_bytes a) (sym olds) ∙ k.2.2 ∙ ap (λ b. Some b) bytes in
      ((there, subst (AreWhole a) olds k.2.3), have_before (from + 1) changes1 parts1 rest r (λ j c is_c. known (suc j) c is_c))

  -- a part with a new list holds what its new bytes spell, and any other one is as it was
  left_at : (from : ℕ) (changes : List Change) (parts : List PartRenewal) (counts : List ℕ) (row : List Stamp) → AreRenewals pins read from changes parts counts → HaveAfter a parts row
      → (q : ℕ) (before after : Option Contents) → IsChanged before after (bytes_for changes q) → IsLeft a before after (pin_at (pins_by from counts row) q)
  left_at from changes parts counts row no_part have q before after h = h
  left_at from changes parts counts row (same changes1 parts1 rest r) have q before after h = left_at (from + 1) changes parts rest row r have q before after h
  left_at from changes parts counts row (renewed change part changes1 parts1 rest count at is counted r) have q before after h =
      with_count count counted (λ others_row others. left_at (from + 1) changes1 parts1 rest others_row r others q before after) where
        first_or_rest : (pages : List Stamp) (bytes : List ℕ) → (list_bytes a pages ≡ Some bytes) × AreWhole a pages → (more : Option (List ℕ)) (behind : Option (List Stamp)) → (IsChanged before after more → IsLeft a before after behind)
            → (b : Bool) → IsChanged before after (if b then Some bytes else more) → IsLeft a before after (if b then Some pages else behind)
        first_or_rest pages bytes holds more behind rest_is true h = (h.0, h.1, h.2, (bytes, h.3, holds.1, holds.0))
        first_or_rest pages bytes holds more behind rest_is false h = rest_is h

        with_count : (n : ℕ) → n ≡ length part.pages → ((others_row : List Stamp) → HaveAfter a parts1 others_row → IsChanged before after (bytes_for changes1 q) → IsLeft a before after (pin_at (pins_by (from + 1) rest others_row) q))
            → IsLeft a before after (pin_at (pins_by from (n ∷ rest) row) q)
        with_count zero none behind = absurd (omega (arith, none, is.some))
        with_count (suc n) many behind =
            let holds : (list_bytes a (take (suc n) row) ≡ Some change.bytes) × AreWhole a (take (suc n) row) =
            subst (λ k. (list_bytes a (take k row) ≡ Some change.bytes) × AreWhole a (take k row)) (sym many) (have.0.0 ∙ ap (λ b. Some b) is.after, have.0.1) in
            let others : HaveAfter a parts1 (drop (suc n) row) = subst (λ k. HaveAfter a parts1 (drop k row)) (sym many) have.1 in
            subst (λ p. IsLeft a before after (if p == q then Some (take (suc n) row) else pin_at (pins_by (from + 1) rest (drop (suc n) row)) q)) at
            (first_or_rest (take (suc n) row) change.bytes holds (bytes_for changes1 q) (pin_at (pins_by (from + 1) rest (drop (suc n) row)) q) (behind (drop (suc n) row) others) (change.part == q) h)

pub new_pins_are_left : NewPinsAreLeft
new_pins_are_left a pins read changes counts stamps writes gone sealed before after planned known are all changed p =
    left_at a pins read 0 changes planned.parts counts (with_sealed stamps writes sealed) planned.renewals
    (all_renewed a planned.parts stamps writes gone sealed planned.plans (have_before a pins read 0 changes planned.parts counts planned.renewals known) are (omega (arith, all))) p (slice_get before p) (slice_get after p) (changed p)

-- what a call changes it has read
changed_read : (a : Assignment) (call : Call) (read : List (List ℕ)) (from : ℕ) (changes : List Change) → WritesInOrder (body_of call.operation).statements from (parts_changed changes) → AreRead a call read → ChangedAreRead a call.pins read changes
changed_read a call read from [] order known k change is = absurd cc
changed_read a call read from (c ∷ changes) order known zero change is = subst (λ (x : Change). (bytes : List ℕ) × (slice_get read x.part ≡ Some bytes) × PinIsRead a call.pins x.part bytes) (some_same is) (known c.part (writes_are_reads (body_of call.operation) c.part order.1))
changed_read a call read from (c ∷ changes) order known (suc k) change is = changed_read a call read (c.part + 1) changes order.2 known k change is

pub changed_are_read : (a : Assignment) (call : Call) (read : List (List ℕ)) (changes : List Change) → WritesInOrder (body_of call.operation).statements 0 (parts_changed changes) → AreRead a call read → ChangedAreRead a call.pins read changes
changed_are_read a call read changes order known = changed_read a call read 0 changes order known
