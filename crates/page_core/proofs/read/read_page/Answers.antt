use Rattle.std.proofs.Common.{◌≡◌, List, ℕ, ◌+◌, arith, length, take, drop, ap, ◌∙◌}
use Rattle.page_core.proofs.Reading.{behind, is_page}
use Rattle.page_core.proofs.read.read_page.Goals as goal

pub returns-in-Ok-read_end-clause-found : goal.returns-in-Ok-read_end-clause-found
returns-in-Ok-read_end-clause-found g c =
    let old = c.args.got.now.items in
    let grown = c.resize.new.self.items in
    let new = c.read_end.new.bytes in
    let at = c.len-at.result in
    let n = c.in-Some.end in
    let end : n ≡ at + c.args.page.now.len = omega (arith, c.in-Some.ensures) in
    let many : length grown ≡ n = omega (arith, c.in-Ok.ensures.len, c.resize.new.self.ok.0) in
    let front : take at new ≡ take at grown = c.in-Ok-read_end.ensures.front ∙ ap (λ (t : List ℕ). take at t) c.deref_mut.ensures.value in
    let same : length new ≡ length grown = c.in-Ok-read_end.ensures.len ∙ ap length c.deref_mut.ensures.value in (
      drop at new,
      behind c.args.page.now old grown new _ at n c.resize.new.self.len (omega arith) end c.in-Ok.ensures.items front same (omega arith) many,
      λ a is. is_page c.args.page.now old grown new _ at n c.resize.new.self.len (omega arith) end c.in-Ok.ensures.items front same (omega arith) many a (c.in-Ok-read_end.ensures.shown a is),
    )
