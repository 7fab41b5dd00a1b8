use Rattle.std.proofs.Common.{◌≤◌, List, length, Ok, Err, refl, ap, sym, subst}
use Rattle.path_tree.specs.Lexeme.{lexemes}
use Rattle.path_count.specs.ReadLine.{EndsInMark}
use Rattle.path_count.proofs.PathLines.{read_line, tokens_marked, lexical_line, ok_is_no_err, same_err}
use Rattle.path_tree.specs.declared.lex.fault.LexFault.TheVariants.{TooLong}
use Rattle.path_count.proofs.Calling.{not_below}
use Rattle.path_tree.specs.declared.token.Token.{Token}
use Rattle.path_count.proofs.paths.path_line.read_path_line.Goals as goal

pub read_tokens-requires-clause-marked : goal.read_tokens-requires-clause-marked
read_tokens-requires-clause-marked c =
    subst (λ (ts : List Token). EndsInMark (lexemes ts)) (sym c.deref.ensures.value) (tokens_marked c.args.line.now c.in-Ok.tokens.items c.in-Ok.ensures.tokens)

pub returns-in_ok-read-in-Ok : goal.returns-in_ok-read-in-Ok
returns-in_ok-read-in-Ok c =
    let short : length c.args.line.now ≤ 65536 = not_below 65536 (length c.args.line.now) (λ long. ok_is_no_err c.in-Ok.tokens TooLong (Ok c.in-Ok.tokens) refl (c.in-Ok.ensures.too_long.1 long)) in
    read_line c.args.names.now c.args.line.now c.in-Ok.tokens.items short c.in-Ok.ensures.tokens (λ all are. c.in-Ok.ensures.complete all are short)
    c.in_ok-read-in-Ok.read (rw c.deref.ensures.value at c.in_ok-read-in-Ok.ensures)

pub returns-in_ok-fault-in-Err : goal.returns-in_ok-fault-in-Err
returns-in_ok-fault-in-Err c =
    let told = c.in_ok-fault-in-Err.ensures in
    lexical_line c.args.names.now c.args.line.now c.in-Err.fault c.in_ok-fault-in-Err.fault told.0 told.1
    (λ long. same_err c.in-Err.fault TooLong (c.in-Err.ensures.too_long.1 long)) (λ same. c.in-Err.ensures.too_long.0 (ap Err same)) c.in-Err.ensures.first c.in-Err.ensures.complete
