-- What separation means for what runs.
use Rattle.std.specs.Prelude.{◌≡◌, ◌↔◌, ℕ, true, List}
use Rattle.path_tree.specs.Path.{Path, burst}
use Rattle.path_tree.specs.Names.{names, NamesOnce}
use Rattle.path_tree.specs.Trace.{Call, Event, IsTrace, IsAmong, running_calls}
use Rattle.path_tree.specs.Satisfies.{Satisfies}
use Rattle.decl_core.specs.Separates.{IsNodeAt, MeetOpenly, IsSeparated}

-- Separated operations never meet: two running calls of them have one number, and in a trace each number starts once.
abbrev pub SeparatedNeverMeet : Type 0
SeparatedNeverMeet = (e : Path) (t : List Event) (c d : Call) → IsTrace t → Satisfies e t →
    IsSeparated e c.operation d.operation → IsAmong c (running_calls t) → IsAmong d (running_calls t) →
    c.number ≡ d.number

-- no burst in a tree holds both names
abbrev pub NoBurstHolds : Path → ℕ → ℕ → Type 0
NoBurstHolds e a b =
    (k : ℕ) (content : Path) → IsNodeAt e k (burst content) → names content a ≡ true → names content b ≡ true → ⊥

-- Two names meet openly in a tree exactly where both stand in it and no burst in it holds both.
abbrev pub MeetingOpenly : Type 0
MeetingOpenly =
    (e : Path) (a b : ℕ) → NamesOnce e → MeetOpenly e a b
    ↔ ((names e a ≡ true) × (names e b ≡ true) × NoBurstHolds e a b)
