use Rattle.std.proofs.Common.{◌≡◌, refl, sym, ◌∙◌, ap}
use Rattle.std.specs.Prelude.{map}
use Rattle.std.specs.Char.{to_ascii_lowercase}
use Rattle.path_tree.proofs.Spelling.{name_lower}
use Rattle.path_tree.proofs.name.Name.is_spelled_by.Goals as goal

pub returns-then-is_same_text : goal.returns-then-is_same_text
returns-then-is_same_text c =
    let same = c.is_same_text.ensures.0 c.if-is_same_text.true ∙ c.deref.ensures.value in
    (λ _. ap (map to_ascii_lowercase) same ∙ name_lower c.self.inside.text.items c.self.invariant.1 ∙ c.self.view_is, λ _. refl)

pub returns : goal.returns
returns c =
    let kept : map to_ascii_lowercase c.deref-2.result.now ≡ c.args.self.now =
    ap (map to_ascii_lowercase) c.deref-2.ensures.value ∙ name_lower c.self.inside.text.items c.self.invariant.1 ∙ c.self.view_is in (
      λ same. c.eq_ignore_ascii_case.ensures.test.0 same ∙ kept,
      λ same. c.eq_ignore_ascii_case.ensures.test.1 (same ∙ sym kept),
    )
