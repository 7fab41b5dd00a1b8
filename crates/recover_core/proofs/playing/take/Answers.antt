use Rattle.recover_core.proofs.Hearing.{took_ran, took_cancelled, took_name, odd_ran, odd_cancelled, odd_name}
use Rattle.recover_core.proofs.playing.take.Goals as goal

pub returns-in-Ran-clause-yes : goal.returns-in-Ran-clause-yes
returns-in-Ran-clause-yes c = took_ran c.take_ran.result c.args.numbers.now.base c.args.now c.args.numbers.now.carried.items c.args.guests.now c.take_ran.new.guests c.args.note.now c.in-Ran.known c.in-Ran.told c.in-Ran.is c.take_ran.ensures.yes

pub returns-in-Cancelled-clause-yes : goal.returns-in-Cancelled-clause-yes
returns-in-Cancelled-clause-yes c = took_cancelled c.take_cancelled.result c.args.numbers.now.base c.args.now c.args.numbers.now.carried.items c.args.guests.now c.take_cancelled.new.guests c.args.note.now c.in-Cancelled.known c.in-Cancelled.is c.take_cancelled.ensures.yes

pub returns-in-Named-clause-yes : goal.returns-in-Named-clause-yes
returns-in-Named-clause-yes c = took_name c.take_name.result c.args.numbers.now.base c.args.now c.args.numbers.now.carried.items c.args.guests.now c.take_name.new.guests c.args.note.now c.in-Named.session c.in-Named.name c.in-Named.is c.take_name.ensures.yes

pub returns-in-Ran-clause-no : goal.returns-in-Ran-clause-no
returns-in-Ran-clause-no c = odd_ran c.take_ran.result c.args.numbers.now.base c.args.numbers.now.carried.items c.args.guests.now c.args.note.now c.in-Ran.known c.in-Ran.told c.in-Ran.is c.take_ran.ensures.no

pub returns-in-Cancelled-clause-no : goal.returns-in-Cancelled-clause-no
returns-in-Cancelled-clause-no c = odd_cancelled c.take_cancelled.result c.args.numbers.now.base c.args.numbers.now.carried.items c.args.guests.now c.args.note.now c.in-Cancelled.known c.in-Cancelled.is c.take_cancelled.ensures.no

pub returns-in-Named-clause-no : goal.returns-in-Named-clause-no
returns-in-Named-clause-no c = odd_name c.take_name.result c.args.numbers.now.base c.args.numbers.now.carried.items c.args.guests.now c.args.note.now c.in-Named.session c.in-Named.name c.in-Named.is c.take_name.ensures.no
