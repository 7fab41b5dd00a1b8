-- What pins show is an opening: of each part a value of its kind.
use Rattle.std.proofs.Common.{◌≡◌, ◌∙◌, ℕ, suc, List, [], ◌∷◌, All, length, Some, refl, sym, ap, subst, map, arith}
use Rattle.std.specs.Prelude.{slice_get, unwrap_or}
use Rattle.std.proofs.lemmas.List.Elements.{All-nil, All-cons}
use Rattle.value_core.specs.declared.kind.Kind.{Kind}
use Rattle.value_core.specs.Contents.{Contents, kind_of, IsContents}
use Rattle.decl_core.specs.declared.object.Object.{Object}
use Rattle.decl_core.specs.ObjectMap.{object_of}
use Rattle.device_core.specs.declared.hand.Stamp.{Stamp}
use Rattle.device_core.specs.Device.{Assignment}
use Rattle.board_core.specs.Chain.{ShowContents}
use Rattle.board_core.specs.Sound.{kinds_of}
use Rattle.audit_core.specs.Laws.{AreOpening}
use Rattle.history_law.proofs.Opening.{are_opening}

-- at this place there is a value of this kind
abbrev Holds : List Contents → ℕ → Kind → Type 0
Holds contents p kind = (value : Contents) × (slice_get contents p ≡ Some value) × (kind_of value ≡ kind) × IsContents value

each_kind : (kinds : List Kind) (contents : List Contents) → length contents ≡ length kinds → ((p : ℕ) (kind : Kind) → slice_get kinds p ≡ Some kind → Holds contents p kind) → (map kind_of contents ≡ kinds) × All IsContents contents
each_kind [] [] many holds = (refl, All-nil IsContents)
each_kind [] (x ∷ contents) many holds = absurd (omega (arith, many))
each_kind (k ∷ kinds) [] many holds = absurd (omega (arith, many))
each_kind (k ∷ kinds) (x ∷ contents) many holds =
    let here = holds 0 k refl in
    let same : x ≡ here.0 = ap (λ o. unwrap_or o x) here.1 in
    let later = each_kind kinds contents (omega (arith, many)) (λ p kind is. holds (suc p) kind is) in
    (ap (λ v. kind_of v ∷ map kind_of contents) same ∙ ap (λ q. q ∷ map kind_of contents) here.2 ∙ ap (λ ks. k ∷ ks) later.0, All-cons IsContents x contents (subst IsContents (sym same) here.3) later.1)

pub shown_opening : (a : Assignment) (o : Object) (pins : List (List Stamp)) (contents : List Contents) → ShowContents a (kinds_of o) pins contents → AreOpening (object_of o) contents
shown_opening a o pins contents shows =
    let of = each_kind (kinds_of o) contents shows.contents_each (λ p kind is.
    let at = shows.each p kind is in
    (at.1, at.3, at.4.spells.kind, at.4.spells.contents)) in
    are_opening o contents of.1 of.0
