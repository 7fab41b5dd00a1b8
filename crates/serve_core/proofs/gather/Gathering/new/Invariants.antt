use Rattle.std.proofs.Common.{◌≡◌, ◌≤◌, All}
use Rattle.std.specs.Vec.{vec_capacity}
use Rattle.serve_core.specs.Gathers.{slips_in, none_of}
use Rattle.serve_core.proofs.gather.Gathering.new.Given as goal

abbrev pub invariant-loop : goal.invariant-loop
invariant-loop g l = (slips_in l.all.items ≡ none_of l.counter) × All (λ a. l.fn.sessions ≤ vec_capacity a.seats) l.all.items
