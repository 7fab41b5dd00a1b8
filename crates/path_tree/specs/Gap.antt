-- What stands between tokens: blanks and comments.
use Rattle.std.specs.Prelude.{◌≡◌, ℕ, ◌+◌, ◌<◌, ◌≤◌, ◌⊎◌, List, slice_index}

-- a space, a tab, a CR or a LF
abbrev pub IsBlank : ℕ → Type 0
IsBlank b = (b ≡ 32) ⊎ ((b ≡ 9) ⊎ ((b ≡ 13) ⊎ (b ≡ 10)))

-- the first place, from one place on, at which a fact holds
abbrev pub IsFirst : (ℕ → Type 0) → ℕ → ℕ → Type 0
IsFirst P from at = (from ≤ at) × P at × ((k : ℕ) → from ≤ k → k < at → P k → ⊥)

-- a comment opens by `{`
abbrev pub OpensBraces : List ℕ → ℕ → Type 0
OpensBraces source at = slice_index source at ≡ 123

-- a comment that opened by `{` closes by `}`
abbrev pub ClosesBraces : List ℕ → ℕ → Type 0
ClosesBraces source at = slice_index source at ≡ 125

-- a comment opens by `(*`
abbrev pub OpensStars : List ℕ → ℕ → Type 0
OpensStars source at = (slice_index source at ≡ 40) × (slice_index source (at + 1) ≡ 42)

-- a comment that opened by `(*` closes by `*)`
abbrev pub ClosesStars : List ℕ → ℕ → Type 0
ClosesStars source at = (slice_index source at ≡ 42) × (slice_index source (at + 1) ≡ 41)

abbrev pub OpensComment : List ℕ → ℕ → Type 0
OpensComment source at = OpensBraces source at ⊎ OpensStars source at

-- a comment stands from one place to the other: it ends with its own closing mark, at the first one
-- after its opening mark
abbrev pub IsComment : List ℕ → ℕ → ℕ → Type 0
IsComment source from to =
    (close : ℕ) × ((OpensBraces source from × IsFirst (ClosesBraces source) (from + 1) close × (to ≡ close + 1))
    ⊎ (OpensStars source from × IsFirst (ClosesStars source) (from + 2) close × (to ≡ close + 2)))

-- blanks and comments, in any number, stand from one place to the other
pub data IsGap (source : List ℕ) : ℕ → ℕ → Type 0 where
  none : {at : ℕ} → IsGap source at at
  blank : {from to : ℕ} → IsBlank (slice_index source from) → IsGap source (from + 1) to → IsGap source from to
  comment : {from next to : ℕ} → IsComment source from next → IsGap source next to → IsGap source from to

-- a comment opens, and its closing mark stands nowhere after
abbrev pub IsOpenComment : List ℕ → ℕ → Type 0
IsOpenComment source at =
    (OpensBraces source at × ((k : ℕ) → at + 1 ≤ k → ClosesBraces source k → ⊥))
    ⊎ (OpensStars source at × ((k : ℕ) → at + 2 ≤ k → ClosesStars source k → ⊥))
