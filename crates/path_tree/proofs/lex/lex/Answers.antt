use Rattle.std.proofs.Common.{length, inl, inr, ap, arith}
use Rattle.std.proofs.lemmas.List.{length_push, length-map}
use Rattle.std.proofs.lemmas.Result.{MatchResult-weaker}
use Rattle.path_tree.specs.Tokens.{placed, placed_tokens, end_at}
use Rattle.path_tree.proofs.Gaps.{gap_le}
use Rattle.path_tree.proofs.TokenLists.{tokens_few, one_list}
use Rattle.path_tree.proofs.Faults.{no_tokens}
use Rattle.path_tree.proofs.OneFault.{one_first_fault}
use Rattle.path_tree.proofs.lex.lex.Goals as goal

pub returns-clause-complete : goal.returns-clause-complete
returns-clause-complete c = λ all are short.
    let source = c.args.source.now in
    MatchResult-weaker c.scan.result c.scan.ensures
    (λ v h. one_list source (placed_tokens v.items) all h are)
    (λ fault h. elim h [ inl w ↦ w | inr w ↦ absurd (no_tokens source fault all w are) ])

pub returns-clause-count : goal.returns-clause-count
returns-clause-count c =
    let source = c.args.source.now in
    MatchResult-weaker c.scan.result c.scan.ensures
    (λ v h. omega (arith, v.ok.0, length-map v.items placed, ap length h.ends, length_push h.tokens (end_at (length source)), tokens_few source 0 h.last h.tokens h.in_order, gap_le source h.gap))
    (λ fault h. tt)

pub returns-clause-faulty : goal.returns-clause-faulty
returns-clause-faulty c = λ fault first short.
    let source = c.args.source.now in
    MatchResult-weaker c.scan.result c.scan.ensures
    (λ v h. no_tokens source fault (placed_tokens v.items) first h)
    (λ told h. elim h [ inl w ↦ inr w | inr w ↦ inl (one_first_fault source told fault w first) ])
