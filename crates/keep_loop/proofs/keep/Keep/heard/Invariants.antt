use Rattle.std.proofs.Common.{◌≡◌, ◌<◌, ◌++◌, ◌∷◌, ℕ, List, length}
use Rattle.keep_loop.specs.Seen.{Happened}
use Rattle.keep_loop.specs.Seen.Happened.{Came}
use Rattle.keep_loop.specs.Stands.{Stands}
use Rattle.keep_loop.specs.declared.keep.LoopLimits.{LoopLimits}
use Rattle.keep_loop.proofs.keep.Keep.heard.Given as goal

abbrev pub invariant-loop-front : goal.invariant-loop-front
invariant-loop-front g l = record {
  done : List ℕ;
  some : 0 < length l.self.held.items;
  base : l.self.base ≡ l.fn.self.base;
  split : l.fn.piece ≡ done ++ l.rest;
  stands : (first : g.row.O.Denot) (limits : LoopLimits) (seen : List Happened) → Stands g.O.Served.gives first limits seen l.fn.self → Stands g.O.Served.gives first limits (Came l.who done ∷ seen) l.self;
}

abbrev pub decreases-loop-front : goal.decreases-loop-front
decreases-loop-front g l = length l.rest
