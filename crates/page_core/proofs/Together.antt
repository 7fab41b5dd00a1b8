-- The plans of several parts, one behind the other.
use Rattle.std.proofs.Common.{◌≡◌, ℕ, zero, suc, ◌+◌, ◌⊎◌, inl, inr, List, [], ◌∷◌, ◌++◌, length, take, drop, Some, refl, ap, ◌∙◌, subst, arith, length-append}
use Rattle.std.specs.Prelude.{slice_get}
use Rattle.device_core.specs.declared.hand.Stamp.{Stamp}
use Rattle.device_core.specs.Device.{Assignment}
use Rattle.page_core.specs.declared.plan.PageWrite.{PageWrite}
use Rattle.page_core.specs.Cut.{lengths}
use Rattle.page_core.specs.Bytes.{IsPage, ArePages, split_by}
use Rattle.page_core.specs.Renewed.{IsWritten, Renews, with_sealed}
use Rattle.page_core.specs.Laws.{PartRenewal, ArePlanned, no_part, one_part, HaveBefore, HaveAfter, PlannedAreRenewed}
use Rattle.page_core.proofs.ListBytes.{pages_bytes, are_split}
use Rattle.page_core.proofs.Renewing.{AreFrom, plan_each, plan_many, plan_from, of_all, pages_good, sealed_good, renews_all, are_pages}

-- the pages of all parts
abbrev all_pages : List PartRenewal → List (List ℕ)
all_pages [] = []
all_pages (part ∷ rest) = part.pages ++ all_pages rest

abbrev Good : Assignment → ℕ → Stamp → List ℕ → Type 0
Good a k stamp bytes = IsPage a stamp bytes

-- a write of the first of two rows, or of the second
first_written : (writes more : List PageWrite) (k : ℕ) (bytes : List ℕ) → IsWritten writes k bytes → IsWritten (writes ++ more) k bytes
first_written [] more k bytes w = absurd w
first_written (write ∷ writes) more k bytes (inl w) = inl w
first_written (write ∷ writes) more k bytes (inr w) = inr (first_written writes more k bytes w)

second_written : (writes more : List PageWrite) (k : ℕ) (bytes : List ℕ) → IsWritten more k bytes → IsWritten (writes ++ more) k bytes
second_written [] more k bytes w = w
second_written (write ∷ writes) more k bytes w = inr (second_written writes more k bytes w)

-- what stands in the first of two rows of stamps and pages, or in the second
abbrev EachFrom : Assignment → ℕ → List Stamp → List (List ℕ) → List PageWrite → Type 0
EachFrom a place stamps pages writes = (k : ℕ) (stamp : Stamp) (bytes : List ℕ) → slice_get stamps k ≡ Some stamp → slice_get pages k ≡ Some bytes → IsPage a stamp bytes ⊎ IsWritten writes (place + k) bytes

behind_each : (a : Assignment) (place : ℕ) (stamps stamps2 : List Stamp) (pages pages2 : List (List ℕ)) (writes : List PageWrite) → length stamps ≡ length pages
    → EachFrom a place stamps pages writes → EachFrom a (place + length stamps) stamps2 pages2 writes → EachFrom a place (stamps ++ stamps2) (pages ++ pages2) writes
behind_each a place [] stamps2 [] pages2 writes many one two k stamp bytes there is =
    subst (λ n. IsPage a stamp bytes ⊎ IsWritten writes n bytes) (omega arith) (two k stamp bytes there is)
behind_each a place [] stamps2 (page ∷ pages) pages2 writes many one two k stamp bytes there is = absurd (omega (arith, many))
behind_each a place (s ∷ stamps) stamps2 [] pages2 writes many one two k stamp bytes there is = absurd (omega (arith, many))
behind_each a place (s ∷ stamps) stamps2 (page ∷ pages) pages2 writes many one two zero stamp bytes there is = one zero stamp bytes there is
behind_each a place (s ∷ stamps) stamps2 (page ∷ pages) pages2 writes many one two (suc k) stamp bytes there is =
    subst (λ n. IsPage a stamp bytes ⊎ IsWritten writes n bytes) (omega arith)
    (behind_each a (place + 1) stamps stamps2 pages pages2 writes (omega (arith, many))
    (λ j s b at same. subst (λ n. IsPage a s b ⊎ IsWritten writes n b) (omega arith) (one (suc j) s b at same))
    (λ j s b at same. subst (λ n. IsPage a s b ⊎ IsWritten writes n b) (omega arith) (two j s b at same)) k stamp bytes there is)

-- more writes do no harm
more_each : (a : Assignment) (place : ℕ) (stamps : List Stamp) (pages : List (List ℕ)) (writes more : List PageWrite) → ((k : ℕ) (bytes : List ℕ) → IsWritten writes k bytes → IsWritten more k bytes) → EachFrom a place stamps pages writes → EachFrom a place stamps pages more
more_each a place stamps pages writes more wider each k stamp bytes there is = elim (each k stamp bytes there is) [
  | inl page ↦ inl page
  | inr w ↦ inr (wider (place + k) bytes w)
]

-- each write of the second row, counted from the first place
get_front : (pages pages2 : List (List ℕ)) (j : ℕ) (bytes : List ℕ) → slice_get pages j ≡ Some bytes → slice_get (pages ++ pages2) j ≡ Some bytes
get_front [] pages2 j bytes is = absurd cc
get_front (p ∷ pages) pages2 zero bytes is = is
get_front (p ∷ pages) pages2 (suc j) bytes is = get_front pages pages2 j bytes is

get_behind : (pages pages2 : List (List ℕ)) (j : ℕ) → slice_get (pages ++ pages2) (length pages + j) ≡ slice_get pages2 j
get_behind [] pages2 j = ap (slice_get pages2) (omega arith)
get_behind (p ∷ pages) pages2 j = subst (λ n. slice_get (p ∷ (pages ++ pages2)) n ≡ slice_get pages2 j) (next (length pages) j) (get_behind pages pages2 j) where
  next : (n j : ℕ) → suc (n + j) ≡ suc n + j
  next n j = omega arith

from_front : (place : ℕ) (pages pages2 : List (List ℕ)) (writes : List PageWrite) → AreFrom place pages writes → AreFrom place (pages ++ pages2) writes
from_front place pages pages2 [] are = tt
from_front place pages pages2 (write ∷ writes) are = ((are.0.0, are.0.1, get_front pages pages2 are.0.0 write.bytes are.0.2), from_front place pages pages2 writes are.1)

from_behind : (place count : ℕ) (pages pages2 : List (List ℕ)) (writes : List PageWrite) → count ≡ length pages → AreFrom (place + count) pages2 writes → AreFrom place (pages ++ pages2) writes
from_behind place count pages pages2 [] many are = tt
from_behind place count pages pages2 (write ∷ writes) many are =
    ((length pages + are.0.0, omega (arith, are.0.1, many), get_behind pages pages2 are.0.0 ∙ are.0.2), from_behind place count pages pages2 writes many are.1)

from_both : (place : ℕ) (pages : List (List ℕ)) (writes more : List PageWrite) → AreFrom place pages writes → AreFrom place pages more → AreFrom place pages (writes ++ more)
from_both place pages [] more one two = two
from_both place pages (write ∷ writes) more one two = (one.0, from_both place pages writes more one.1 two)

-- what is planned of all parts
record Planned (a : Assignment) (place : ℕ) (parts : List PartRenewal) (stamps : List Stamp) (writes : List PageWrite) : Type 0 where
  pub each : EachFrom a place stamps (all_pages parts) writes
  pub many : length stamps ≡ length (all_pages parts)
  pub of : AreFrom place (all_pages parts) writes

planned : (a : Assignment) (place : ℕ) (parts : List PartRenewal) (stamps : List Stamp) (writes : List PageWrite) (gone : List Stamp) → ArePlanned place parts stamps writes gone → HaveBefore a parts → Planned a place parts stamps writes
planned a place parts stamps writes gone no_part before = record { each = λ k stamp bytes there is. absurd cc; many = refl; of = tt }
planned a place parts stamps writes gone (one_part part rest_parts size first second first_writes second_writes first_gone second_gone cut plan behind) before =
    let olds : ArePages a part.olds (split_by (lengths part.olds) part.before) = are_split a part.olds part.before before.0.0 before.0.1 in
    let one : EachFrom a place first part.pages first_writes = plan_each (Good a) place part.olds (split_by (lengths part.olds) part.before) part.pages first first_writes first_gone plan (pages_good a place part.olds (split_by (lengths part.olds) part.before) olds) in
    let rest = planned a (place + length first) rest_parts second second_writes second_gone behind before.1 in
    let many : length first ≡ length part.pages = plan_many place part.olds (split_by (lengths part.olds) part.before) part.pages first first_writes first_gone plan in
    record {
      each = behind_each a place first second part.pages (all_pages rest_parts) (first_writes ++ second_writes) many
          (more_each a place first part.pages first_writes (first_writes ++ second_writes) (first_written first_writes second_writes) one)
          (more_each a (place + length first) second (all_pages rest_parts) second_writes (first_writes ++ second_writes) (second_written first_writes second_writes) rest.each);
      many = omega (arith, length-append first second, length-append part.pages (all_pages rest_parts), many, rest.many);
      of = from_both place (part.pages ++ all_pages rest_parts) first_writes second_writes (from_front place part.pages (all_pages rest_parts) first_writes (plan_from place part.olds (split_by (lengths part.olds) part.before) part.pages first first_writes first_gone plan))
          (from_behind place (length first) part.pages (all_pages rest_parts) second_writes many rest.of);
    }

-- pages of two rows
pages_front : (a : Assignment) (stamps : List Stamp) (pages more : List (List ℕ)) → ArePages a stamps (pages ++ more) → ArePages a (take (length pages) stamps) pages × ArePages a (drop (length pages) stamps) more
pages_front a stamps [] more are = (tt, are)
pages_front a [] (page ∷ pages) more are = absurd are
pages_front a (s ∷ stamps) (page ∷ pages) more are = ((are.0, (pages_front a stamps pages more are.1).0), (pages_front a stamps pages more are.1).1)

after_all : (a : Assignment) (place : ℕ) (parts : List PartRenewal) (planned_stamps row : List Stamp) (writes : List PageWrite) (gone : List Stamp) → ArePlanned place parts planned_stamps writes gone → ArePages a row (all_pages parts) → HaveAfter a parts row
after_all a place parts planned_stamps row writes gone no_part are = tt
after_all a place parts planned_stamps row writes gone (one_part part rest_parts size first second first_writes second_writes first_gone second_gone cut plan behind) are =
    let both = pages_front a row part.pages (all_pages rest_parts) are in
    let told = pages_bytes a (take (length part.pages) row) part.pages both.0 in
    ((told.0 ∙ ap (λ b. Some b) cut.whole, told.1), after_all a (place + length first) rest_parts second (drop (length part.pages) row) second_writes second_gone behind both.1)

pub all_renewed : PlannedAreRenewed
all_renewed a parts stamps writes gone sealed plan before are many =
    let so = planned a 0 parts stamps writes gone plan before in
    let first : Renews (Good a) (all_pages parts) stamps writes = record {
      each = λ k stamp bytes there is. subst (λ n. IsPage a stamp bytes ⊎ IsWritten writes n bytes) (omega arith) (so.each k stamp bytes there is);
      many = so.many;
      of = of_all (all_pages parts) writes so.of;
    } in
    let last : Renews (Good a) (all_pages parts) (with_sealed stamps writes sealed) [] = renews_all (Good a) (all_pages parts) stamps writes sealed (sealed_good a writes sealed are many) first in
    after_all a 0 parts stamps (with_sealed stamps writes sealed) writes gone plan
    (are_pages a (with_sealed stamps writes sealed) (all_pages parts) last.many (λ k stamp bytes at is. elim (last.each k stamp bytes at is) [ inl g ↦ g | inr w ↦ absurd w ]))
