-- A search over the paths of an object, one after the other.
use Rattle.std.proofs.Common.{◌≡◌, ℕ, ◌+◌, ◌-◌, ◌<◌, ◌≤◌, ◌⊎◌, inl, inr, Bool, Some, None, refl, sym, ◌∙◌, subst, List, length, get_or, arith}
use Rattle.std.specs.Prelude.{◌↔◌, IsTrue, slice_get}
use Rattle.std.proofs.lemmas.Bool.{cases_lt, cases_order}
use Rattle.std.proofs.lemmas.Option.{slice_get_within, slice_get_read}
use Rattle.path_tree.specs.Path.{Path}
use Rattle.decl_core.specs.ObjectForm.{ObjectForm}
use Rattle.decl_core.specs.Separates.{Separates}
use Rattle.decl_core.specs.Search.{separation, separates_at}
use Rattle.decl_core.specs.Exclusive.{SeparatedBy, AreSeparated}
use Rattle.decl_core.proofs.Separations.{IsFirst, separation_first, separates_decides}

-- a list that is lent is the list, and so is what is read from it
pub lent_at : (lent paths : List Path) (k : ℕ) (e : Path) → lent ≡ paths → k < length lent → e ≡ get_or lent k e → slice_get paths k ≡ Some e
lent_at lent paths k e same within is = subst (λ l. slice_get l k ≡ Some e) same (slice_get_read lent (length lent) k e refl within is)

-- a node of the path of this number separates exactly where it does so in the path that stands there
here_only : (o : ObjectForm) (e : Path) (k node i j : ℕ) → slice_get o.paths k ≡ Some e → SeparatedBy o (k + 1) node i j → Separates e node i j
here_only o e k node i j at h =
    let place : h.0 ≡ k = omega arith in
    let there : slice_get o.paths k ≡ Some h.1 = subst (λ n. slice_get o.paths n ≡ Some h.1) place h.3 in
    let same : h.1 ≡ e = cc in
    subst (λ x. Separates x node i j) same h.4

pub separated_exactly : (o : ObjectForm) (e : Path) (path node i j : ℕ) (b : Bool) → 0 < path → slice_get o.paths (path - 1) ≡ Some e →
    b ≡ separates_at e node i j → IsTrue b ↔ SeparatedBy o path node i j
separated_exactly o e path node i j b counted at is =
    let next : path - 1 + 1 ≡ path = omega arith in (
      λ h. (path - 1, e, sym next, at, (separates_decides e node i j).0 (sym is ∙ h)),
      λ h. is ∙ (separates_decides e node i j).1 (here_only o e (path - 1) node i j at (subst (λ p. SeparatedBy o p node i j) (sym next) h)),
    )

-- none of the first paths has a node that separates
pub record NoneWithin (o : ObjectForm) (n i j : ℕ) : Type 0 where
  pub none : (path node : ℕ) → path ≤ n → SeparatedBy o path node i j → ⊥

pub within_none : (o : ObjectForm) (i j : ℕ) → NoneWithin o 0 i j
within_none o i j = record { none = λ path node within h. absurd (omega arith) }

pub within_one_more : (o : ObjectForm) (e : Path) (n i j : ℕ) → NoneWithin o n i j → slice_get o.paths n ≡ Some e → separation e i j ≡ None → NoneWithin o (n + 1) i j
within_one_more o e n i j before at found = record {
  none = λ path node within h. elim (cases_lt n path) [
    | inl last ↦
        let first : (k : ℕ) → Separates e k i j → ⊥ = subst (λ x. IsFirst (λ k. Separates e k i j) x) found (separation_first e i j) in
        first node (here_only o e n node i j at (subst (λ p. SeparatedBy o p node i j) (omega arith) h))
    | inr earlier ↦ before.none path node earlier h
  ];
}

pub within_all : (o : ObjectForm) (n i j : ℕ) → NoneWithin o n i j → length o.paths ≤ n → AreSeparated o i j → ⊥
within_all o n i j before all h =
    let within : h.2.0 < length o.paths = slice_get_within o.paths h.2.0 h.2.1 h.2.3 in
    before.none h.0 h.1 (omega arith) h.2

-- the first node of the next path is the first of all
pub first_of_all : (o : ObjectForm) (e : Path) (n node i j : ℕ) → NoneWithin o n i j → slice_get o.paths n ≡ Some e → separation e i j ≡ Some node →
    SeparatedBy o (n + 1) node i j × ((path other : ℕ) → SeparatedBy o path other i j → (n + 1 < path) ⊎ ((n + 1 ≡ path) × (node ≤ other)))
first_of_all o e n node i j before at found =
    let first : Separates e node i j × ((k : ℕ) → Separates e k i j → node ≤ k) = subst (λ x. IsFirst (λ k. Separates e k i j) x) found (separation_first e i j) in (
      (n, e, refl, at, first.0),
      λ path other h. elim (cases_order (n + 1) path) [
        | inl same ↦ inr (same, first.1 other (here_only o e n other i j at (subst (λ p. SeparatedBy o p other i j) (sym same) h)))
        | inr unlike ↦ elim unlike [
          | inl later ↦ inl later
          | inr earlier ↦ absurd (before.none path other (omega arith) h)
        ]
      ],
    )
