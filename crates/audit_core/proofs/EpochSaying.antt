-- What lines say.
use Rattle.std.proofs.Common.{◌≡◌, ℕ, List, sym, ap, ◌∙◌}
use Rattle.std.specs.Prelude.{Option, Some, None, Result, Ok, Err, IfOk}
use Rattle.word_core.specs.Words.{Word}
use Rattle.word_core.specs.Data.{◌>>=◌}
use Rattle.word_core.proofs.Cutting.{words_unique}
use Rattle.word_core.specs.Reads.{Reads}
use Rattle.audit_core.specs.declared.epoch_said.EpochLine.{EpochLine}
use Rattle.audit_core.specs.EpochSaid as lines
use Rattle.audit_core.specs.EpochView.{said_view, IsSaid}

-- a line says one thing
pub says_once : (line : List ℕ) (a b : lines.Said) → lines.Says line a → lines.Says line b → a ≡ b
says_once line a b p q =
    let same = words_unique line p.0 q.0 p.1 q.1 in
    let e : Some a ≡ Some b = sym p.2 ∙ ap lines.said_of same ∙ q.2 in cc

-- what was read of the words of a line is what it says
said_found : (line : List ℕ) (found : Option EpochLine) → Reads lines.said_of said_view line found → IsSaid line found
said_found line None reads = λ said p. let e : Some said ≡ None = sym p.2 ∙ sym (reads.0 p.0 p.1) in cc
said_found line (Some s) reads = let has = reads.1 in (has.0, has.1, sym (reads.0 has.0 has.1))

pub said_line : {E : Type 0} (line : List ℕ) (found : Result (Option EpochLine) E) → IfOk found (Reads lines.said_of said_view line) → IfOk found (IsSaid line)
said_line line (Ok f) reads = said_found line f reads
said_line line (Err e) reads = tt

-- what comes behind something that was read, where it is something too
pub read_on : {A B X Y : Type 0} (f : List Word → Option A) (g : A → Option B) (view : X → A) (see : Y → B) (line : List ℕ) (x : X) (y : Y) → g (view x) ≡ Some (see y) →
    Reads f view line (Some x) → Reads (λ words. f words >>= g) see line (Some y)
read_on f g view see line x y is reads = ((λ words are. sym is ∙ ap (λ o. o >>= g) (reads.0 words are)), reads.1)

-- what is read of nothing, or comes to nothing
pub read_none : {A B X Y : Type 0} (f : List Word → Option A) (g : A → Option B) (view : X → A) (see : Y → B) (line : List ℕ) → Reads f view line None → Reads {X = Y} (λ words. f words >>= g) see line None
read_none f g view see line reads = ((λ words are. ap (λ o. o >>= g) (reads.0 words are)), tt)

pub read_other : {A B X Y : Type 0} (f : List Word → Option A) (g : A → Option B) (view : X → A) (see : Y → B) (line : List ℕ) (x : X) → g (view x) ≡ None → Reads f view line (Some x) → Reads {X = Y} (λ words. f words >>= g) see line None
read_other f g view see line x is reads = ((λ words are. sym is ∙ ap (λ o. o >>= g) (reads.0 words are)), tt)
