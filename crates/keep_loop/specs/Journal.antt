-- What the file of a journal stands for: text, then bytes that are 0.
use Rattle.std.specs.Prelude.{◌≡◌, ◌≢◌, ◌⊎◌, ℕ, ◌+◌, Bool, false, ◌||◌, List, [], ◌∷◌, ◌++◌, length, if◌then◌else◌}
use Rattle.std.specs.Prelude.{◌==◌}
use lib.ListN.{replicate}

-- the bytes before the first that is 0
abbrev pub written : List ℕ → List ℕ
written [] = []
written (byte ∷ file) = if byte == 0 then [] else byte ∷ written file

-- a line ends somewhere in the text
abbrev pub has_end : List ℕ → Bool
has_end [] = false
has_end (byte ∷ text) = byte == 10 || has_end text

-- the whole lines of a text: what stands up to its last line end
abbrev pub whole : List ℕ → List ℕ
whole [] = []
whole (byte ∷ text) = if has_end (byte ∷ text) then byte ∷ whole text else []

-- what a file stands for: the whole lines before the first byte that is 0
abbrev pub recovered : List ℕ → List ℕ
recovered file = whole (written file)

-- no byte is 0
abbrev pub IsSolid : List ℕ → Type 0
IsSolid [] = Unit {0}
IsSolid (byte ∷ text) = (byte ≢ 0) × IsSolid text

-- whole lines, none of whose bytes is 0
pub record AreLines (text : List ℕ) : Type 0 where
  pub solid : IsSolid text
  pub ended : whole text ≡ text

-- text begins with front
abbrev pub Begins : List ℕ → List ℕ → Type 0
Begins front text = (rest : List ℕ) × (text ≡ front ++ rest)

-- a text that begins with all that was stored, and that goes on as what was written goes on
pub record IsBetween (stored text found : List ℕ) : Type 0 where
  pub all_stored : Begins stored found
  pub nothing_else : Begins found text

-- what a crash makes of bytes that were written where 0 stood: some of them are there, each in its place
abbrev pub IsLoose : List ℕ → List ℕ → Type 0
IsLoose [] [] = Unit {0}
IsLoose (byte ∷ bytes) (is ∷ file) = ((is ≡ 0) ⊎ (is ≡ byte)) × IsLoose bytes file
IsLoose bytes file = ⊥

-- a journal's file that is in order: lines that are on the disk, lines of which some bytes may be, and room
pub record Stands (file : List ℕ) (leaves : List ℕ → Type 0) (stored_size size room : ℕ) : Type 0 where
  pub stored : List ℕ
  pub loose : List ℕ
  pub file_is : file ≡ stored ++ loose ++ replicate room 0
  pub stored_lines : AreLines stored
  pub loose_lines : AreLines loose
  pub stored_is : stored_size ≡ length stored
  pub size_is : size ≡ length stored + length loose
  pub leaves_only : (c : List ℕ) → leaves c →
      (holes : List ℕ) × IsLoose loose holes × (c ≡ stored ++ holes ++ replicate room 0)
