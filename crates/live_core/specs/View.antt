-- What a hand holds, without where it lies in memory.
use Rattle.live_core.specs.declared.hall.Hall.TheInside.{Inside}
use Rattle.live_core.specs.Hall.{Hall}

abbrev pub hall_of : Inside → Hall
hall_of a = record {
  object = a.object;
  counters = a.counters;
  contents = a.parts.items;
  waiting = a.waiting;
  given = a.given;
  before = a.before;
  sessions = a.limits.sessions;
  room = a.limits.waiting;
}
