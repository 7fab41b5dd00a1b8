use Rattle.std.proofs.Common.{◌≡◌, ap, ◌∙◌, rules}
use Rattle.std.specs.FinMap.{from_entries, insert}
use Rattle.device_core.specs.MemShelf.{as_bytes, papers_of}
use Rattle.device_core.proofs.Papers.{stored}
use Rattle.device_core.proofs.mem_shelf.keep.Goals as goal

pub returns-clause-ok : goal.returns-clause-ok
returns-clause-ok c =
    let key : c.in_ok-key.key.items ≡ c.args.name.now = search rules in
    let copy : c.in_ok-copy.copy.items ≡ c.args.bytes.now = search rules in
    ap (λ es. from_entries (as_bytes es)) c.in_ok-_before.ensures.entries ∙ stored c.args.papers.now.entries c.in_ok-key.key c.in_ok-copy.copy
    ∙ ap (λ k. insert (papers_of c.args.papers.now) k c.in_ok-copy.copy.items) key ∙ ap (insert (papers_of c.args.papers.now) c.args.name.now) copy
