use Rattle.std.proofs.Common.{take, length, ◌≤◌, ◌≡◌}
use Rattle.std.specs.Prelude.{vec_capacity}
use Rattle.serve_core.specs.Deeds.{PutsAll}
use Rattle.serve_core.proofs.clear.put_all.Given as goal

abbrev pub invariant-loop-number : goal.invariant-loop-number
invariant-loop-number g l = PutsAll g.V.Values.does l.left l.fn.values (take l.number-index l.numbers) l.moved.there.items l.moved.stays.items l.values
    × (length l.moved.there.items ≤ l.number-index) × (length l.moved.stays.items ≤ l.number-index)
    × (vec_capacity l.moved.there ≡ vec_capacity l.fn.moved.there) × (vec_capacity l.moved.stays ≡ vec_capacity l.fn.moved.stays)
