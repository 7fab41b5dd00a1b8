-- The bytes under the pins of a call, as a list.
use Rattle.std.proofs.Common.{◌≡◌, ℕ, zero, suc, ◌+◌, ◌*◌, ◌/◌, ◌%◌, ◌<◌, ◌≤◌, List, [], ◌∷◌, length, get_or, Option, Some, None, refl, sym, ap, ◌∙◌, subst, arith, length-append}
use Rattle.std.specs.Prelude.{slice_get}
use Rattle.std.specs.List.{concat}
use Rattle.std.proofs.lemmas.List.{ext_get_or}
use Rattle.std.proofs.lemmas.Option.{slice_get_within}
use Rattle.device_core.specs.declared.hand.Stamp.{Stamp}
use Rattle.device_core.specs.Device.{Assignment}
use Rattle.apply_core.specs.Fits.{IsNamed}
use Rattle.apply_core.proofs.HeldReads.{reads_held}
use Rattle.apply_core.specs.Pages.{page_at}
use Rattle.apply_core.proofs.PieceSpelled.{of_page}
use Rattle.page_core.specs.Bytes.{list_bytes, AreWhole, ArePages, split_by}
use Rattle.page_core.specs.Cut.{lengths, together}
use Rattle.page_core.specs.PartPins.{PartPin, pin_at}
use Rattle.page_core.proofs.ListBytes.{some_same, page_long, pages_bytes, are_split}
use Rattle.page_core.specs.CallPins.{Call}
use Rattle.run_core.specs.Read.{AreRead}
use Rattle.page_core.specs.Truths.{PinHolds, PinsAreWhole}
use Rattle.run_core.specs.Seen.{IsSeen}

-- the bytes under the pin of a part, or none
abbrev pub else_none : Option (List ℕ) → List ℕ
else_none None = []
else_none (Some bytes) = bytes

abbrev pub bytes_in : Assignment → Option (List Stamp) → List ℕ
bytes_in a None = []
bytes_in a (Some pages) = else_none (list_bytes a pages)

abbrev pub under : Assignment → List PartPin → ℕ → List ℕ
under a pins p = bytes_in a (pin_at pins p)

-- of so many parts from this one on
abbrev pub under_from : Assignment → List PartPin → ℕ → ℕ → List (List ℕ)
under_from a pins p zero = []
under_from a pins p (suc n) = under a pins p ∷ under_from a pins (p + 1) n

at_place : (a : Assignment) (pins : List PartPin) (p n k : ℕ) → k < n → slice_get (under_from a pins p n) k ≡ Some (under a pins (p + k))
at_place a pins p zero k less = absurd (omega (arith, less))
at_place a pins p (suc n) zero less = ap (λ q. Some (under a pins q)) (omega arith)
at_place a pins p (suc n) (suc k) less = at_place a pins (p + 1) n k (omega (arith, less)) ∙ ap (λ q. Some (under a pins q)) (omega arith)

-- of as many parts as were read
abbrev pub wholes_under : Assignment → List PartPin → List (List ℕ) → List (List ℕ)
wholes_under a pins read = under_from a pins 0 (length read)

is_under : (a : Assignment) (pins : List PartPin) (p : ℕ) (bytes : List ℕ) → PinHolds a pins p bytes → under a pins p ≡ bytes
is_under a pins p bytes held = ap (bytes_in a) held.1 ∙ ap else_none held.2

-- there are no two such bytes
pub holds_once : (a : Assignment) (pins : List PartPin) (p : ℕ) (one other : List ℕ) → PinHolds a pins p one → PinHolds a pins p other → one ≡ other
holds_once a pins p one other here there = sym (is_under a pins p one here) ∙ is_under a pins p other there

pub whole_at : (a : Assignment) (pins : List PartPin) (read : List (List ℕ)) (p : ℕ) (filled bytes : List ℕ) → slice_get read p ≡ Some filled → PinHolds a pins p bytes → slice_get (wholes_under a pins read) p ≡ Some bytes
whole_at a pins read p filled bytes there held =
    let place : 0 + p ≡ p = omega arith in
    at_place a pins 0 (length read) p (slice_get_within read p filled there) ∙ ap (λ q. Some (under a pins q)) place ∙ ap (λ b. Some b) (is_under a pins p bytes held)

-- what stands there of a part that was seen is under its pin
pub holds_whole : (a : Assignment) (pins : List PartPin) (read : List (List ℕ)) (p : ℕ) (filled whole bytes : List ℕ) → slice_get read p ≡ Some filled → PinHolds a pins p whole → slice_get (wholes_under a pins read) p ≡ Some bytes → PinHolds a pins p bytes
holds_whole a pins read p filled whole bytes there held is = subst (PinHolds a pins p) (some_same (sym (whole_at a pins read p filled whole there held) ∙ is)) held

-- whoever reads these reads what is under the pins
pub are_read : (a : Assignment) (call : Call) (masks : List ℕ) (read : List (List ℕ)) → PinsAreWhole a call → IsSeen a call masks read → AreRead a call (wholes_under a call.pins read)
are_read a call masks read pins seen p reads =
    let kind = reads_held call.operation p reads in
    let named : IsNamed call.operation p kind.kind = record { named = reads; held = kind.held } in
    let part = seen.known p kind.kind named in
    let held : PinHolds a call.pins p part.whole = part.held in
    (part.whole, whole_at a call.pins read p part.filled part.whole part.there held, (held.0, held.1, held.2, (pins p kind.kind held.0 named held.1).whole))

-- the pages of a list have as many bytes as its stamps say
pages_long : (a : Assignment) (stamps : List Stamp) (pages : List (List ℕ)) → ArePages a stamps pages → together (lengths stamps) ≡ length (concat pages)
pages_long a [] [] are = refl
pages_long a [] (bytes ∷ rest) are = absurd are
pages_long a (stamp ∷ more) [] are = absurd are
pages_long a (stamp ∷ more) (bytes ∷ rest) are = omega (arith, page_long a stamp bytes are.0, pages_long a more rest are.1, length-append bytes (concat rest))

pub list_long : (a : Assignment) (stamps : List Stamp) (bytes : List ℕ) → list_bytes a stamps ≡ Some bytes → AreWhole a stamps → together (lengths stamps) ≡ length bytes
list_long a stamps bytes there whole =
    let pages : List (List ℕ) = split_by (lengths stamps) bytes in
    let are : ArePages a stamps pages = are_split a stamps bytes there whole in
    pages_long a stamps pages are ∙ ap length (some_same (sym (pages_bytes a stamps pages are).0 ∙ there))

-- as many bytes, at most 8 pages, each of which is the same
pub same_pages : (one other : List ℕ) → length one ≡ length other → length one ≤ 8192 → ((k : ℕ) → k < 8 → page_at k one ≡ page_at k other) → one ≡ other
same_pages one other long few same = ext_get_or 0 one other long (λ j less.
    let k : ℕ = j / 1024 in
    let r : ℕ = j % 1024 in
    let small : r < 1024 = omega arith in
    let place : 1024 * k + r ≡ j = omega arith in
    let page : k < 8 = omega (arith, less, few) in
    ap (λ p. get_or one p 0) (sym place) ∙ sym (of_page k r one small) ∙ ap (λ (b : List ℕ). get_or b r 0) (same k page) ∙ of_page k r other small ∙ ap (λ p. get_or other p 0) place)
