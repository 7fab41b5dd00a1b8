-- The elements of a queue, integers and texts apart.
use Rattle.std.specs.Prelude.{List, map}
use Rattle.value_core.specs.declared.datum.Datum.{Datum}
use Rattle.value_core.specs.declared.datum.Datum.TheVariants as datum
use Rattle.value_core.specs.declared.kind.Elem.{Elem}
use Rattle.value_core.specs.declared.kind.Elem.TheVariants as elem
use Rattle.value_core.specs.declared.queue.Queue.{Queue}
use Rattle.value_core.specs.declared.queue.Queue.TheVariants.{Integers, Texts}

-- which sort its elements are
abbrev pub queue_sort : Queue → Elem
queue_sort (Integers q) = elem.Integer
queue_sort (Texts q) = elem.Text

-- its elements, the oldest first
abbrev pub queue_data : Queue → List Datum
queue_data (Integers q) = map datum.Integer q.items
queue_data (Texts q) = map datum.Text q.items
