use Rattle.std.proofs.Common.{◌≡◌, ◌++◌, subst}
use Rattle.std.specs.Prelude.{codes}
use Rattle.word_core.specs.Words.{line_of}
use Rattle.live_core.specs.Text.{client_words}
use Rattle.front_read.specs.Rows.{row_words}
use Rattle.front_read.proofs.Standing.{not_there}
use Rattle.front_read.proofs.client.take_this_client.Goals as goal

pub returns : goal.returns
returns c =
    not_there c.args.text.now c.deref.result.now c.push_client.new.out.items c.new-line.result.items (row_words (codes "client") client_words (record { session = c.args.session; name = c.args.name; keys = c.args.keys })) c.in-None.ensures c.deref.ensures.value
    (subst (λ n. c.push_client.new.out.items ≡ c.new-line.result.items ++ line_of (row_words (codes "client") client_words (record { session = c.args.session; name = n; keys = c.args.keys }))) c.as_bytes.ensures.bytes c.in_ok-push_client.ensures)
    c.new-line.ensures.items
