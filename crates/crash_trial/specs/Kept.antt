-- What a device that keeps each call reads, and what a crash leaves of it.
use Rattle.std.specs.Prelude.{◌≡◌, ◌⊎◌, ℕ, ◌+◌, ◌≤◌, List, [], ◌∷◌, length, take}
use Rattle.std.proofs.Common.{refl, sym, ◌∙◌, ap, subst, arith}
use Rattle.std.proofs.Math.Seq.{take-length}
use Rattle.keep_loop.specs.Device.{IsTorn, with_bytes}
use Rattle.crash_trial.specs.declared.device.Happened.{Happened}
use Rattle.crash_trial.specs.declared.device.Happened.TheVariants.{Wrote, Stored, Replaced, Refused}

-- what a read returns behind these, the oldest first
abbrev pub read_behind : List ℕ → List Happened → List ℕ
read_behind file [] = file
read_behind file (Wrote at bytes ∷ happened) = read_behind (with_bytes at bytes.items file) happened
read_behind file (Stored ∷ happened) = read_behind file happened
read_behind file (Replaced bytes ∷ happened) = read_behind bytes.items happened
read_behind file (Refused ∷ happened) = read_behind file happened

-- A crash may leave this behind these: `file` is what a read returned before them, `left` what a crash left of that.
abbrev pub Leaves : List ℕ → List ℕ → List Happened → List ℕ → Type 0
Leaves file left [] c = c ≡ left
Leaves file left (Wrote at bytes ∷ happened) c =
    (at + length bytes.items ≤ length file) × (torn : List ℕ)
    × IsTorn left (with_bytes at bytes.items left) torn × Leaves (with_bytes at bytes.items file) torn happened c
Leaves file left (Stored ∷ happened) c = Leaves file file happened c
Leaves file left (Replaced bytes ∷ happened) c = Leaves bytes.items bytes.items happened c
Leaves file left (Refused ∷ happened) c = Leaves file left happened c

-- what a crash may leave of a file behind these: all that was written, or some of it
abbrev pub MayLeave : List ℕ → List Happened → List ℕ → Type 0
MayLeave file happened c = (c ≡ read_behind file happened) ⊎ Leaves file file happened c

-- what a crash may have left at some moment, from behind so many of these on
pub record LeftSince (file : List ℕ) (happened : List Happened) (from : ℕ) (c : List ℕ) : Type 0 where
  pub moment : ℕ
  pub since : from ≤ moment
  pub been : moment ≤ length happened
  pub left : MayLeave file (take moment happened) c

-- each moment counts as itself, and since the last one there is no other
pub counts : (file : List ℕ) (happened : List Happened) (t : ℕ) (c : List ℕ) → t ≤ length happened → MayLeave file happened c → LeftSince file happened t c
counts file happened t c le left = record {
  moment = length happened;
  since = le;
  been = omega arith;
  left = subst (λ (l : List Happened). MayLeave file l c) (sym (take-length happened)) left;
}

pub only : (file : List ℕ) (happened : List Happened) (c : List ℕ) → LeftSince file happened (length happened) c → MayLeave file happened c
only file happened c left =
    let now : left.moment ≡ length happened = omega (arith, left.since, left.been) in
    subst (λ (l : List Happened). MayLeave file l c) (ap (λ (n : ℕ). take n happened) now ∙ take-length happened) left.left
