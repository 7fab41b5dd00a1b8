use Rattle.front_read.specs.Row.{client_row}
use Rattle.front_read.proofs.Rowing.{named_takes, name_same}
use Rattle.front_read.proofs.client.take_named.Goals as goal

pub returns-in_ok-found-in-Some : goal.returns-in_ok-found-in-Some
returns-in_ok-found-in-Some c =
    named_takes (client_row c.args.row) c.in-Some.name c.args.text.now c.args.out.now.items c.in_ok-found-in-Some.found c.take_this_client.new.out.items c.as_bytes.ensures.name
    (name_same c.args.row.name.now c.in-Some.name (rw c.in-Some.is at c.in_ok-name.ensures).1)
    c.in_ok-found-in-Some.ensures
