-- What a server's objects know.
use Rattle.std.specs.Prelude.{ℕ, List, ◌++◌, codes, flat_map}
use Rattle.inside_core.specs.Metrics.{head, label_text, sample_text, object_line}
use Rattle.inside_core.specs.declared.metric.MetricKind.{MetricKind}
use Rattle.inside_core.specs.declared.metric.MetricKind.TheVariants.{Counter, Gauge}
use Rattle.inside_core.specs.declared.numbers.SeenObject.{SeenObject}
use Rattle.inside_core.specs.declared.numbers.OperationTally.{OperationTally}
use Rattle.inside_core.specs.declared.objects.Current.{Current}
use Rattle.inside_core.specs.declared.objects.Current.TheVariants.{Running, Waiting, Waited}
use Rattle.inside_core.specs.declared.objects.OfObject.{OfObject}
use Rattle.inside_core.specs.declared.objects.OfObject.TheVariants.{Sessions, Given, Limit, Cancelled, Held}

-- a number of each object: its name, what it is about, its kind, and the number
abbrev pub name_of : OfObject → List ℕ
name_of Sessions = codes "pathserve_sessions"
name_of Given = codes "pathserve_numbers"
name_of Limit = codes "pathserve_numbers_limit"
name_of Cancelled = codes "pathserve_cancelled_total"
name_of Held = codes "pathserve_holds"

abbrev pub about_of : OfObject → List ℕ
about_of Sessions = codes "Sessions of clients that are there."
about_of Given = codes "Numbers of calls that are taken of this epoch."
about_of Limit = codes "Numbers of calls of an epoch, at most."
about_of Cancelled = codes "Calls that were cancelled since the start."
about_of Held = codes "Calls that are held now."

abbrev pub kind_of : OfObject → MetricKind
kind_of Sessions = Gauge
kind_of Given = Gauge
kind_of Limit = Gauge
kind_of Cancelled = Counter
kind_of Held = Gauge

abbrev pub number_of : OfObject → SeenObject → ℕ
number_of Sessions o = o.sessions
number_of Given o = o.given
number_of Limit o = o.limit
number_of Cancelled o = o.cancelled
number_of Held o = o.held

abbrev pub object_number : OfObject → SeenObject → List ℕ
object_number of o = object_line (name_of of) o.name.items (number_of of o)

abbrev pub metric_text : OfObject → List SeenObject → List ℕ
metric_text of os = head (name_of of) (kind_of of) (about_of of) ++ flat_map (object_number of) os

-- the numbers of the objects
abbrev pub numbers_text : List SeenObject → List ℕ
numbers_text os =
    metric_text Sessions os ++ metric_text Given os ++ metric_text Limit os ++ metric_text Cancelled os ++ metric_text Held os

abbrev pub operation_labels : List ℕ → List ℕ → List ℕ
operation_labels object operation = label_text (codes "{object=\"") object ++ label_text (codes ",operation=\"") operation

-- how many calls of an operation ended so
abbrev pub end_line : List ℕ → List ℕ → List ℕ → ℕ → List ℕ
end_line object operation end number =
    codes "pathserve_calls_total" ++ operation_labels object operation ++ label_text (codes ",end=\"") end
    ++ sample_text (codes "} ") number

abbrev pub tally_ends : List ℕ → OperationTally → List ℕ
tally_ends object t =
    end_line object t.name.items (codes "done") t.ends.done ++ end_line object t.name.items (codes "refused") t.ends.refused
    ++ end_line object t.name.items (codes "failed") t.ends.failed

abbrev pub object_ends : SeenObject → List ℕ
object_ends o = flat_map (tally_ends o.name.items) o.operations.items

-- the calls that ended
abbrev pub calls_text : List SeenObject → List ℕ
calls_text os = head (codes "pathserve_calls_total") Counter (codes "Calls that ended since the start, by how.")
    ++ flat_map object_ends os

-- how many calls there are now, and for how long one waits: the name, what it is about, and the number
abbrev pub name_now : Current → List ℕ
name_now Running = codes "pathserve_running"
name_now Waiting = codes "pathserve_waiting"
name_now Waited = codes "pathserve_wait_seconds"

abbrev pub about_now : Current → List ℕ
about_now Running = codes "Calls that run now."
about_now Waiting = codes "Calls that wait now."
about_now Waited = codes "For how long the call waits that waits longest."

abbrev pub number_now : Current → OperationTally → ℕ
number_now Running t = t.running
number_now Waiting t = t.waiting
number_now Waited t = t.waited

abbrev pub tally_now : Current → List ℕ → OperationTally → List ℕ
tally_now current object t =
    name_now current ++ operation_labels object t.name.items ++ sample_text (codes "} ") (number_now current t)

abbrev pub object_now : Current → SeenObject → List ℕ
object_now current o = flat_map (tally_now current o.name.items) o.operations.items

abbrev pub now_text : Current → List SeenObject → List ℕ
now_text current os = head (name_now current) Gauge (about_now current) ++ flat_map (object_now current) os

-- the numbers of objects, and of their operations
abbrev pub objects_text : List SeenObject → List ℕ
objects_text os = numbers_text os ++ calls_text os ++ now_text Running os ++ now_text Waiting os ++ now_text Waited os
