use Rattle.std.proofs.Common.{◌≡◌, ◌≤◌, ◌∙◌, sym, subst, length, arith, eqb-true}
use Rattle.std.proofs.lemmas.List.{take_all}
use Rattle.keep_loop.specs.Journal.{AreLines}
use Rattle.keep_loop.proofs.head.are_lines.Goals as goal

pub returns : goal.returns
returns c = λ is.
    let same : c.recovered_len.result ≡ length c.args.bytes.now = eqb-true c.recovered_len.result (length c.args.bytes.now) is in
    subst (λ t. AreLines t) (sym c.recovered_len.ensures.lines ∙ take_all c.recovered_len.result c.args.bytes.now (omega (arith, same))) (c.recovered_are_lines.ensures c.args.bytes.now)
