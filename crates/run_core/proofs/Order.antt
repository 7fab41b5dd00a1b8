-- What is seen part by part.
use Rattle.std.proofs.Common.{ℕ, ◌<◌, ◌≤◌, ◌⊎◌, inl, inr, List, arith}
use Rattle.std.proofs.lemmas.Bool.{cases_lt}
use Rattle.decl_core.specs.Bodies.{body_of}
use Rattle.decl_core.specs.Touched.{Reads}
use Rattle.device_core.specs.Device.{Assignment}
use Rattle.page_core.specs.CallPins.{Call}
use Rattle.run_core.specs.Seen.{IsSeenBefore}
use Rattle.run_core.specs.SeenLaws.{NoneIsSeen, NextIsSeen, AllIsSeen}

pub none_is_seen : NoneIsSeen
none_is_seen a call masks read all = record {
  known = λ p kind named before. absurd (omega (arith, before));
  split = λ p before wanted. absurd (omega (arith, before));
  rest = λ p small not. all p small;
}

-- where no part is read in between
skips : (a : Assignment) (call : Call) (from part : ℕ) (masks : List ℕ) (read : List (List ℕ)) → from ≤ part → ((q : ℕ) → Reads (body_of call.operation).statements q → from ≤ q → q < part → ⊥) → IsSeenBefore a call from masks read → IsSeenBefore a call part masks read
skips a call from part masks read behind none so = record {
  known = λ p kind named before. so.known p kind named (earlier p named.named before (cases_lt p from));
  split = λ p before wanted. so.split p (earlier p wanted.named.named before (cases_lt p from)) wanted;
  rest = λ p small not. so.rest p small (λ before wanted. not (omega (arith, before, behind)) wanted);
} where
  earlier : (p : ℕ) → Reads (body_of call.operation).statements p → p < part → (p < from) ⊎ (from ≤ p) → p < from
  earlier p reads before (inl less) = less
  earlier p reads before (inr far) = absurd (none p reads far before)

pub next_is_seen : NextIsSeen
next_is_seen a call from part masks read next so = skips a call from part masks read next.behind next.first so

pub all_is_seen : AllIsSeen
all_is_seen a call from masks read none so = record {
  known = λ p kind named. so.known p kind named (earlier p named.named (cases_lt p from));
  split = λ p wanted. so.split p (earlier p wanted.named.named (cases_lt p from)) wanted;
  rest = λ p small not. so.rest p small (λ before wanted. not wanted);
} where
  earlier : (p : ℕ) → Reads (body_of call.operation).statements p → (p < from) ⊎ (from ≤ p) → p < from
  earlier p reads (inl less) = less
  earlier p reads (inr far) = absurd (none p reads far)
