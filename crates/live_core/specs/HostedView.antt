-- What is seen of an object with its clients, without where it lies in memory.
use Rattle.live_core.specs.declared.hosted.Hosted.TheInside.{Inside}
use Rattle.live_core.specs.Scene.{Scene}

abbrev pub scene_of : Inside → Scene
scene_of h = record {
  hall = h.live;
  guests = h.guests;
  past = h.past.items;
  carried = h.carried.items;
  base = h.base;
  given = h.given;
  epoch = h.epoch;
  source = h.source;
}
