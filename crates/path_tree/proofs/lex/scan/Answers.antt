use Rattle.std.proofs.Common.{arith}
use Rattle.std.proofs.lemmas.List.{map_push}
use Rattle.path_tree.specs.Lexeme.{lexeme_of}
use Rattle.path_tree.specs.Tokens.{placed, placed_tokens}
use Rattle.path_tree.specs.declared.token.Token.{Token}
use Rattle.path_tree.proofs.Gaps.{gap_le}
use Rattle.path_tree.proofs.OneToken.{token_within}
use Rattle.path_tree.proofs.TokenLists.{tokens_more}
use Rattle.path_tree.proofs.lex.scan.Goals as goal

pub loop-tokens-smaller : goal.loop-tokens-smaller
loop-tokens-smaller c =
    omega (arith, gap_le c.args.source.now c.in_ok-start.ensures.1, token_within c.args.source.now (lexeme_of c.in_ok-kind.kind) c.in_ok-start.start c.in_ok-kind.end c.in_ok-kind.ensures)

pub loop-tokens-preserved : goal.loop-tokens-preserved
loop-tokens-preserved c =
    let source = c.args.source.now in
    let t : Token = record { kind = c.in_ok-kind.kind; start = c.in_ok-start.start; end = c.in_ok-kind.end } in
    let more = tokens_more source 0 c.loop-tokens.at (placed_tokens c.loop-tokens.tokens.items) (placed t) c.loop-tokens.invariant.so_far c.in_ok-start.ensures.1 c.in_ok-kind.ensures in
    record {
      upper = (token_within source (lexeme_of c.in_ok-kind.kind) c.in_ok-start.start c.in_ok-kind.end c.in_ok-kind.ensures).1;
      so_far = rw (c.in_ok-push-2.ensures.items, map_push placed) more;
    }
