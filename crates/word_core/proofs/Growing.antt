-- A trace grows by its events.
use Rattle.std.proofs.Common.{◌≡◌, List, [], ◌∷◌, ◌++◌, refl, sym, ap, ◌∙◌, append_assoc, map}
use Rattle.std.proofs.lemmas.Grind.{flat_map-append}
use Rattle.std.proofs.lemmas.List.{map-append, append-nil}
use Rattle.decl_core.specs.declared.object.Param.{Param}
use Rattle.decl_core.specs.ObjectMap.{params_of}
use Rattle.value_core.specs.declared.kind.Elem.{Elem}
use Rattle.decl_core.specs.View.{all_of}
use Rattle.word_core.specs.Words.{line_of}
use Rattle.word_core.specs.Text.{event_words, front_words, lines_of}
use Rattle.word_core.specs.TraceLaws.{BeginsWithFront, GrowsByLine, BodyIsSame}

pub begins_with_front : BeginsWithFront
begins_with_front o opening = ap lines_of (append-nil (front_words o opening))

pub grows_by_line : GrowsByLine
grows_by_line o opening events event =
    let front = front_words o opening in
    let first = map (event_words o) events in
    let one = event_words o event in
    ap (λ all. lines_of (front ++ all)) (map-append (event_words o) events (event ∷ []))
    ∙ ap lines_of (sym (append_assoc front first (one ∷ [])))
    ∙ flat_map-append line_of (front ++ first) (one ∷ [])
    ∙ ap (λ line. lines_of (front ++ first) ++ line) (append-nil (line_of one))

kinds_same : (params : List Param) → map (λ p. p.1) (params_of params) ≡ map (λ p. p.kind) params
kinds_same [] = refl
kinds_same (p ∷ params) = ap (λ kinds. p.kind ∷ kinds) (kinds_same params)

pub body_is_same : BodyIsSame
body_is_same o = ap (λ (kinds : List Elem). record { params = kinds; result = o.result; statements = all_of o.body.items }) (kinds_same o.params.items)
