use Rattle.std.proofs.Common.{ℕ, ◌*◌, ◌≡◌, ◌<◌, ◌∙◌, List, length, Some, sym, ap, arith}
use Rattle.std.specs.Prelude.{slice_get}
use Rattle.std.proofs.lemmas.Option.{slice_get-get_or}
use Rattle.run_core.proofs.Into.{seen_more}
use Rattle.run_core.proofs.more.read_more.Goals as goal

pub returns-clause-found : goal.returns-clause-found
returns-clause-found g c = λ a agrees call pages paged pinned there pins seen.
    let read : List (List ℕ) = c.args.seen.now.read.items in
    let row : List ℕ = c.index_mut.result.now in
    let within : c.args.part < length read = omega (arith, c.if-part-len.false, c.len.ensures, c.args.seen.now.read.ok.0) in
    let was : slice_get read c.args.part ≡ Some row = slice_get-get_or read c.args.part row within ∙ ap (λ (r : List ℕ). Some r) (sym c.index_mut.ensures.value) in
    seen_more a call c.args.part c.args.page (c.args.page * 1024) c.args.stamp.now pages c.args.seen.now.known c.with-seen.result read row c.read_at.new.row (omega arith) was
    c.in-Ok.ensures.within c.in-Ok.ensures.placed c.in-Ok.ensures.are (c.in-Ok.ensures.shown a agrees) c.with-seen.ensures.more paged pinned there pins seen
