use Rattle.std.proofs.Common.{◌≡◌, ◌++◌, ◌∙◌, ℕ, List, ap, subst}
use Rattle.inside_core.specs.declared.numbers.Stored.{Stored}
use Rattle.inside_core.specs.Labels.{labelled}
use Rattle.inside_core.specs.Server.{outside_text}
use Rattle.keep_log.proofs.Telling.{composed}
use Rattle.keep_log.proofs.shown.Showing.compose.Goals as goal

pub returns-clause-text : goal.returns-clause-text
returns-clause-text g c =
    let it = c.args.self.now in
    let before = c.clear.new.self.items in
    let first = c.push_server.new.out.items in
    let outside : first ≡ before ++ outside_text it.label.items it.server it.journals.items it.syncs =
    subst (λ (js : List Stored). first ≡ before ++ outside_text it.label.items it.server js it.syncs) c.deref-2.ensures.value
    (subst (λ (l : List ℕ). first ≡ before ++ outside_text l it.server c.deref-2.result.now it.syncs) c.deref.ensures.value c.in_ok-push_server.ensures) in
    let objects : c.push_labelled.new.out.items ≡ first ++ labelled it.label.items c.status.new.text.items =
    c.in_ok-push_labelled.ensures ∙ ap (λ l. first ++ labelled l c.deref-4.result.now) c.deref-3.ensures.value
    ∙ ap (λ t. first ++ labelled it.label.items t) c.deref-4.ensures.value in (
      c.status.new.text.items,
      c.in_ok-status.ensures,
      composed before first c.push_labelled.new.out.items
          (outside_text it.label.items it.server it.journals.items it.syncs) (labelled it.label.items c.status.new.text.items) c.clear.ensures.items outside objects,
    )
