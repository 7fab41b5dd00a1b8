-- What is known of a server at one moment.
use Rattle.std.specs.Prelude.{ℕ, List, Bool, Option}
use Rattle.device_core.specs.Device.{Assignment}
use Rattle.device_core.specs.Papers.{Papers}
use Rattle.keep_core.specs.declared.close.Closing.{Closing}
use Rattle.keep_core.specs.declared.trouble.Trouble.{Trouble}

-- which assignments agree with its hand; what its shelves may hold, that of parts and that of traces; what it has met;
-- whether each object that has ended was saved and traced; and what it has written
pub record Moment : Type 1 where
  pub files : Assignment → Type 0
  pub parts : Papers → Type 0
  pub traces : Papers → Type 0
  pub trouble : Trouble
  pub keeps_all : Bool
  pub written : Option (List ℕ)

-- that of what closes its objects, where so much was written
abbrev pub moment_of : {S T K : Type 0} → (S → Papers → Type 0) → (T → Papers → Type 0) → (K → Assignment → Type 0) →
    Closing S T K → Option (List ℕ) → Moment
moment_of parts traces agrees closing written = record {
  files = agrees closing.hand;
  parts = parts closing.parts;
  traces = traces closing.traces;
  trouble = closing.trouble;
  keeps_all = closing.keeps_all;
  written = written;
}

-- the same, where this was met
abbrev pub with_trouble : Moment → Trouble → Moment
with_trouble m trouble = record {
  files = m.files;
  parts = m.parts;
  traces = m.traces;
  trouble = trouble;
  keeps_all = m.keeps_all;
  written = m.written;
}
