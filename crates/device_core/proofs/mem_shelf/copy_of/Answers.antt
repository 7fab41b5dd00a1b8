use Rattle.std.proofs.Common.{◌≡◌, ℕ, List, Some, sym, ap, ◌∙◌, rules}
use Rattle.std.specs.Prelude.{option_map}
use Rattle.device_core.proofs.Papers.{get_at}
use Rattle.device_core.proofs.mem_shelf.copy_of.Goals as goal

pub returns-in_ok-copy-in-Some : goal.returns-in_ok-copy-in-Some
returns-in_ok-copy-in-Some c =
    let same : c.in_ok-copy-in-Some.copy.items ≡ c.in-Some.bytes.now.items = search rules in
    ap (λ (x : List ℕ). Some x) same ∙ ap (option_map (λ v. v.items)) c.in-Some.ensures.value ∙ sym (get_at c.args.papers.now.entries c.args.name.now)

pub returns-in-None : goal.returns-in-None
returns-in-None c = ap (option_map (λ v. v.items)) c.in-None.ensures.value ∙ sym (get_at c.args.papers.now.entries c.args.name.now)
