use Rattle.std.proofs.Common.{◌≡◌, ◌++◌, List, ℕ, subst}
use Rattle.std.specs.Prelude.{codes}
use Rattle.inside_core.specs.Objects.{end_line}
use Rattle.inside_core.proofs.StatusAdding.{two}
use Rattle.inside_core.proofs.objects.push_ends.Goals as goal

pub returns : goal.returns
returns c =
    let t = c.args.tally.now in
    let line : List ℕ → List ℕ → ℕ → List ℕ = λ name end number. end_line c.args.object.now name end number in
    let one : c.push_end.new.out.items ≡ c.args.out.now.items ++ line t.name.items (codes "done") t.ends.done =
    subst (λ (n : List ℕ). c.push_end.new.out.items ≡ c.args.out.now.items ++ line n (codes "done") t.ends.done) c.deref.ensures.value c.in_ok-push_end.ensures in
    let other : c.push_end-2.new.out.items ≡ c.push_end.new.out.items ++ line t.name.items (codes "refused") t.ends.refused =
    subst (λ (n : List ℕ). c.push_end-2.new.out.items ≡ c.push_end.new.out.items ++ line n (codes "refused") t.ends.refused) c.deref-2.ensures.value c.in_ok-push_end-2.ensures in
    let last : c.push_end-3.new.out.items ≡ c.push_end-2.new.out.items ++ line t.name.items (codes "failed") t.ends.failed =
    subst (λ (n : List ℕ). c.push_end-3.new.out.items ≡ c.push_end-2.new.out.items ++ line n (codes "failed") t.ends.failed) c.deref-3.ensures.value c.in_ok-push_end-3.ensures in
    two c.args.out.now.items c.push_end-2.new.out.items c.push_end-3.new.out.items
    (line t.name.items (codes "done") t.ends.done ++ line t.name.items (codes "refused") t.ends.refused) (line t.name.items (codes "failed") t.ends.failed)
    (two c.args.out.now.items c.push_end.new.out.items c.push_end-2.new.out.items (line t.name.items (codes "done") t.ends.done) (line t.name.items (codes "refused") t.ends.refused) one other)
    last
