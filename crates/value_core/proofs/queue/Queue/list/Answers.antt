use Rattle.std.proofs.Common.{◌∷◌, [], ◌++◌, sym, ap, ◌∙◌, arith}
use Rattle.value_core.specs.Queue.{queue_data}
use Rattle.value_core.proofs.Listing.{list_next, none_within}
use Rattle.value_core.proofs.queue.Queue.list.Goals as goal
use Rattle.value_core.proofs.queue.Queue.list.Goals.{in-Some+in_ok-push, in_default}

pub loop-place-preserved : goal.loop-place-preserved
loop-place-preserved c =
    let xs = queue_data c.args.self.now in
    elim c.match-get.branch [
      | in-Some+in_ok-push w ↦ rw (w.list-is, w.in_ok-push.ensures.items)
          (ap (λ l. l ++ w.in-Some.datum ∷ []) c.loop-place.invariant ∙ list_next xs c.loop-place.place w.in-Some.datum (sym c.get.ensures ∙ w.in-Some.is))
      | in_default w ↦ absurd (none_within xs c.loop-place.place (omega arith) (sym c.get.ensures ∙ w.in_default.is))
    ]
