use Rattle.std.proofs.Common.{◌≡◌, ◌+◌, ◌∙◌, ap, arith}
use Rattle.board_core.specs.Board.{Board}
use Rattle.board_core.specs.Keys.{count_by, next_key}
use Rattle.desk_core.specs.Kept.{board_of}
use Rattle.board_core.proofs.Indexing.{row_at, count_few}
use Rattle.desk_core.proofs.roster.Roster.next_key.Goals as goal

pub overflow_cast-result : goal.overflow_cast-result
overflow_cast-result c =
    let b : Board = board_of c.self.inside in
    let row = row_at b.calls c.self.inside.index c.args.session c.self.invariant.index c.requires.0 c.requires.1 in
    let count : c.count.result ≡ count_by c.args.session b.calls = c.count.ensures row.0 row.1 ∙ row.2.all in
    omega (arith, count, count_few c.args.session b.calls, c.self.invariant.sound.counted.few)

pub overflow_add-result : goal.overflow_add-result
overflow_add-result c =
    let b : Board = board_of c.self.inside in
    let row = row_at b.calls c.self.inside.index c.args.session c.self.invariant.index c.requires.0 c.requires.1 in
    let count : c.count.result ≡ count_by c.args.session b.calls = c.count.ensures row.0 row.1 ∙ row.2.all in
    omega (arith, count, count_few c.args.session b.calls, c.self.invariant.sound.counted.few)

pub returns : goal.returns
returns c =
    let b : Board = board_of c.self.inside in
    let row = row_at b.calls c.self.inside.index c.args.session c.self.invariant.index c.requires.0 c.requires.1 in
    let count : c.count.result ≡ count_by c.args.session b.calls = c.count.ensures row.0 row.1 ∙ row.2.all in
    ap (λ n. n + 1) count ∙ ap (λ (x : Board). next_key x.calls c.args.session) c.self.view_is
