use Rattle.std.proofs.Common.{◌≡◌, ◌++◌, ◌∙◌, ap, sym, subst}
use Rattle.std.specs.Prelude.{ℕ, List, codes}
use Rattle.path_tree.specs.Path.{path_of}
use Rattle.path_tree.specs.Canonical.{canonical_bytes, list_bytes, list_text}
use Rattle.path_tree.specs.TextLaws.{Derives}
use Rattle.path_tree.proofs.Printed.{printed}
use Rattle.path_tree.proofs.print.print_path.Goals as goal

pub returns-clause-derives : goal.returns-clause-derives
returns-clause-derives c = λ distinct free.
    let names : List (List ℕ) = c.args.names.now in
    let inside = c.in_ok-write_alone.ensures ∙ ap (λ x. x ++ list_bytes (list_text names (path_of c.root.result.now))) c.in_ok-out.ensures.items ∙ ap (λ e. codes "path " ++ list_bytes (list_text names e)) c.root.ensures.same in
    let text : c.extend_from_slice.new.self.items ≡ canonical_bytes names c.args.path.now = c.in_ok-extend_from_slice.ensures.items ∙ ap (λ x. x ++ codes " end") inside in
    subst (λ bytes. Derives names bytes c.args.path.now) (sym text) (printed names c.args.path.now c.root.ensures.rules distinct free c.requires).1
