use Rattle.std.proofs.Common.{◌+◌, ◌∙◌, length, arith, sym}
use Rattle.std.proofs.lemmas.Result.{err_from_is_err_and}
use Rattle.path_tree.specs.Path.{path_of}
use Rattle.path_tree.specs.Lexeme.{lexemes}
use Rattle.path_tree.specs.Known.{Known, known_with}
use Rattle.path_tree.proofs.Places.{place_tree, place_within, place_found, place_only, place_read, place_fails, place_below}
use Rattle.path_tree.proofs.read.parse_path.Goals as goal

pub path_tree-requires : goal.path_tree-requires
path_tree-requires c = place_tree (known_with c.args.consts.now c.args.names.now) (length c.args.tokens.now + 1) _ (path_of c.in_ok-root.root) (lexemes c.in_ok-root.rest.now) c.in_ok-root.ensures

pub overflow_sub-result : goal.overflow_sub-result
overflow_sub-result c = place_within (known_with c.args.consts.now c.args.names.now) (length c.args.tokens.now + 1) c.args.from c.args.tokens.now c.in_ok-root.rest.now (path_of c.in_ok-root.root) (rw c.split_at.ensures.back at c.in_ok-root.ensures)

pub returns-clause-found : goal.returns-clause-found
returns-clause-found c =
    let known : Known = known_with c.args.consts.now c.args.names.now in
    let found = place_found known (length c.args.tokens.now + 1) c.args.from c.args.tokens.now c.in_ok-root.rest.now (path_of c.in_ok-root.root) (rw c.split_at.ensures.back at c.in_ok-root.ensures) in
    rw c.path_tree.ensures found

pub returns-clause-known : goal.returns-clause-known
returns-clause-known c =
    let known : Known = known_with c.args.consts.now c.args.names.now in
    let found = place_found known (length c.args.tokens.now + 1) c.args.from c.args.tokens.now c.in_ok-root.rest.now (path_of c.in_ok-root.root) (rw c.split_at.ensures.back at c.in_ok-root.ensures) in
    rw c.path_tree.ensures (place_below known (lexemes c.args.tokens.now) c.args.from (path_of c.in_ok-root.root) _ found)

pub returns-clause-only : goal.returns-clause-only
returns-clause-only c = λ e to p.
    let known : Known = known_with c.args.consts.now c.args.names.now in
    let k = place_only known (length c.args.tokens.now + 1) c.args.from c.args.tokens.now c.in_ok-root.rest.now (path_of c.in_ok-root.root) (omega arith) (rw c.split_at.ensures.back at c.in_ok-root.ensures) e to p in
    (c.path_tree.ensures ∙ sym k.0, sym k.1)

pub returns-in_err-root-clause-only : goal.returns-in_err-root-clause-only
returns-in_err-root-clause-only c = λ e to p.
    let known : Known = known_with c.args.consts.now c.args.names.now in
    let q = err_from_is_err_and c.from_residual.result c.from_residual.ensures.1 in
    let memory = place_fails c.in_err-root.field-0.0 known (length c.args.tokens.now + 1) c.args.from c.args.tokens.now (omega arith) (rw c.split_at.ensures.back at c.in_err-root.ensures) e to p in
    rw (q.1, q.2) memory

pub returns-clause-read : goal.returns-clause-read
returns-clause-read c =
    let known : Known = known_with c.args.consts.now c.args.names.now in
    rw c.path_tree.ensures (place_read known (length c.args.tokens.now + 1) c.args.from c.args.tokens.now c.in_ok-root.rest.now (path_of c.in_ok-root.root) (omega arith) (rw c.split_at.ensures.back at c.in_ok-root.ensures))
