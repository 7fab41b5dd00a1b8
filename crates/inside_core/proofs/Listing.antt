-- The names of objects.
use Rattle.std.proofs.Common.{◌≡◌, ◌∙◌, ap, sym, ℕ, ◌+◌, ◌<◌, List, [], ◌∷◌, ◌++◌, length, map, take, get_or, append_assoc, append-nil}
use Rattle.std.specs.Prelude.{flat_map}
use Rattle.std.proofs.lemmas.List.{take_more}
use Rattle.live_core.specs.Scene.{Scene}
use Rattle.stuck_core.specs.List.{object_line}

abbrev pub names_text : List Scene → List ℕ
names_text objects = flat_map object_line (map (λ (s : Scene). s.hall.object.name) objects)

names_push : (objects : List Scene) (s : Scene) → names_text (objects ++ s ∷ []) ≡ names_text objects ++ object_line s.hall.object.name
names_push [] s = append-nil (object_line s.hall.object.name)
names_push (o ∷ objects) s =
    ap (λ l. object_line o.hall.object.name ++ l) (names_push objects s) ∙ sym (append_assoc (object_line o.hall.object.name) (names_text objects) (object_line s.hall.object.name))

-- one name more
pub names_more : (first before after : List ℕ) (all : List Scene) (i : ℕ) (d s : Scene) → i < length all → s ≡ get_or all i d → before ≡ first ++ names_text (take i all) →
    after ≡ before ++ object_line s.hall.object.name → after ≡ first ++ names_text (take (i + 1) all)
names_more first before after all i d s inside is was more =
    let to : take (i + 1) all ≡ take i all ++ s ∷ [] = take_more all i d inside ∙ ap (λ y. take i all ++ y ∷ []) (sym is) in
    more ∙ ap (λ l. l ++ object_line s.hall.object.name) was ∙ append_assoc first (names_text (take i all)) (object_line s.hall.object.name)
    ∙ ap (λ l. first ++ l) (sym (ap names_text to ∙ names_push (take i all) s))
