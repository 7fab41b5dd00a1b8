use Rattle.keep_loop.proofs.Replaced.{elapses_to}
use Rattle.keep_loop.proofs.memory.MemoryDevice.replace.Goals as goal

pub returns-clause-time : goal.returns-clause-time
returns-clause-time c =
    let past = c.in_ok-put_in_place.ensures.past in
    elapses_to c.args.self.now.past.items c.put_in_place.new.past.items past.0 c.args.self.now.bytes.items c.put_in_place.new.bytes.items past.1 past.2
