use Rattle.std.proofs.Common.{sym, subst}
use Rattle.path_tree.specs.Lexeme.{lexemes}
use Rattle.path_count.specs.ReadLine.{EndsInMark, IsReadTokens}
use Rattle.path_tree.specs.Tokens.{placed_tokens}
use Rattle.path_count.specs.declared.paths.path_line.PathLine.TheVariants as lines
use Rattle.path_count.proofs.PathLines.{path_marked, path_read, path_followed, no_path}
use Rattle.path_count.proofs.paths.path_line.read_tokens.Goals as goal

pub fault_behind-requires : goal.fault_behind-requires
fault_behind-requires c =
    subst EndsInMark (sym c.tokens_from.ensures.lexemes) (path_marked _ (lexemes c.args.tokens.now) c.in-Ok.tree c.in-Ok.to c.in-Ok.ensures.found c.requires.marked)

pub returns-in-None : goal.returns-in-None
returns-in-None c =
    (path_read c.args.names.now c.args.tokens.now c.tokens_from.result.now c.in-Ok.tree c.in-Ok.to c.in-Ok.ensures.found c.tokens_from.ensures.lexemes c.in-None.ensures.end, c.in-Ok.ensures.known)

pub returns-in-Some : goal.returns-in-Some
returns-in-Some c =
    path_followed c.args.names.now c.args.tokens.now c.tokens_from.result.now c.in-Ok.tree c.in-Ok.to c.in-Some.at c.in-Ok.ensures.only
    c.tokens_from.ensures.lexemes c.tokens_from.ensures.places c.in-Some.ensures.end c.in-Some.ensures.at

pub returns-in_ok-fault-in-Err : goal.returns-in_ok-fault-in-Err
returns-in_ok-fault-in-Err c =
    let told = c.in_ok-fault-in-Err.ensures in
    subst (λ f. IsReadTokens c.args.names.now (placed_tokens c.args.tokens.now) (lines.Refused f)) (sym told.0)
    (no_path c.args.names.now c.args.tokens.now c.in-Err.fault told.1 c.in-Err.ensures.only)
