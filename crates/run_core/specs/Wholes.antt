-- The changes of whole parts, from those of parts of which only some pages are known.
use Rattle.std.specs.Prelude.{◌≡◌, ℕ, Bool, true, false, List, [], ◌∷◌, length}
use Rattle.value_core.specs.declared.kind.Elem.TheVariants as elem
use Rattle.value_core.specs.declared.kind.Kind.{Kind}
use Rattle.value_core.specs.declared.kind.Kind.TheVariants as kind
use Rattle.value_core.specs.Contents.{Contents}
use Rattle.decl_core.specs.declared.object.Operation.{Operation}
use Rattle.apply_core.specs.Pages.{page_at}
use Rattle.apply_core.specs.Fits.{IsNamed}
use Rattle.run_core.specs.declared.judge.Change.{Change}
use Rattle.run_core.specs.Given.{AreChanges}
use Rattle.run_core.specs.Verdicts.{ReadAs}
use Rattle.run_core.specs.Reads.{pages_of}

-- Two pairs of bytes of an array of integers, before and after a body: those that were read of it, and the whole ones.
-- A page that is known is the same in both afterwards; any other one is as it was in each.
pub record AreNewPages (pages : ℕ → Bool) (filled bytes before after : List ℕ) : Type 0 where
  pub long : length bytes ≡ length filled
  pub long_whole : length after ≡ length before
  pub known : (k : ℕ) → pages k ≡ true → page_at k after ≡ page_at k bytes
  pub stays : (k : ℕ) → pages k ≡ false → page_at k bytes ≡ page_at k filled
  pub stays_whole : (k : ℕ) → pages k ≡ false → page_at k after ≡ page_at k before

-- Two pairs of bytes of a part of any kind, before and after a body: of an array of integers by its pages. What is no
-- such array is known as a whole, so what was read of it and the whole are the same afterwards.
abbrev pub AreNewAs : Kind → (ℕ → Bool) → (filled bytes before after : List ℕ) → Type 0
AreNewAs (kind.Array n elem.Integer) pages filled bytes before after = AreNewPages pages filled bytes before after
AreNewAs (kind.Array n elem.Text) pages filled bytes before after = after ≡ bytes
AreNewAs (kind.Queue e) pages filled bytes before after = after ≡ bytes
AreNewAs (kind.Table e) pages filled bytes before after = after ≡ bytes

-- of a change of what was read of a part, the change of the whole part
pub record IsWholeChange (masks : List ℕ) (operation : Operation) (read : List (List ℕ)) (at : ℕ → List ℕ → Type 0)
    (change whole : Change) : Type 0 where
  pub part : whole.part ≡ change.part
  pub kind : Kind
  pub named : IsNamed operation change.part kind
  pub filled : List ℕ
  pub was_read : ReadAs read change.part filled
  pub before : List ℕ
  pub was : at change.part before
  pub made : AreNewAs kind (pages_of masks change.part) filled change.bytes before whole.bytes

-- one for one
abbrev pub AreWholeChanges : List ℕ → Operation → List (List ℕ) → (ℕ → List ℕ → Type 0) → List Change → List Change →
    Type 0
AreWholeChanges masks operation read at [] [] = Unit {0}
AreWholeChanges masks operation read at [] (whole ∷ wholes) = ⊥
AreWholeChanges masks operation read at (change ∷ changes) [] = ⊥
AreWholeChanges masks operation read at (change ∷ changes) (whole ∷ wholes) =
    IsWholeChange masks operation read at change whole × AreWholeChanges masks operation read at changes wholes

-- What a body left of whole contents, by the changes of what was read of them.
pub record AreChangesOf (masks : List ℕ) (operation : Operation) (read : List (List ℕ)) (at : ℕ → List ℕ → Type 0)
    (changes : List Change) (before after : List Contents) : Type 0 where
  pub wholes : List Change
  pub made : AreWholeChanges masks operation read at changes wholes
  pub are : AreChanges wholes before after
