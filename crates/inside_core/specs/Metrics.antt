-- Metrics in the text format of Prometheus.
use Rattle.std.specs.Prelude.{ℕ, List, ◌++◌, codes, decimal}
use Rattle.value_core.specs.Reply.{reply}
use Rattle.inside_core.specs.declared.metric.MetricKind.{MetricKind}
use Rattle.inside_core.specs.declared.metric.MetricKind.TheVariants.{Counter, Gauge, Histogram}

abbrev pub kind_text : MetricKind → List ℕ
kind_text Counter = codes " counter\n"
kind_text Gauge = codes " gauge\n"
kind_text Histogram = codes " histogram\n"

-- what a metric is about, and its kind
abbrev pub head : List ℕ → MetricKind → List ℕ → List ℕ
head name kind about =
    codes "# HELP " ++ name ++ codes " " ++ about ++ codes "\n# TYPE " ++ name ++ kind_text kind

-- a label, behind what stands before it
abbrev pub label_text : List ℕ → List ℕ → List ℕ
label_text before value = before ++ value ++ codes "\""

-- a number, and the end of the line
abbrev pub sample_text : List ℕ → ℕ → List ℕ
sample_text before number = reply before (decimal number)

-- the label of a server, behind which others may come
abbrev pub server_labels : List ℕ → List ℕ
server_labels label = codes "{" ++ label

-- a metric that has one number, with the label of the server
abbrev pub one_text : List ℕ → List ℕ → MetricKind → List ℕ → ℕ → List ℕ
one_text label name kind about number = head name kind about ++ name ++ server_labels label ++ sample_text (codes "} ") number

-- a number of the journal of an object, with the label of the server
abbrev pub journal_line : List ℕ → List ℕ → List ℕ → ℕ → List ℕ
journal_line label name object number =
    name ++ server_labels label ++ label_text (codes ",object=\"") object ++ sample_text (codes "} ") number

-- a number of an object
abbrev pub object_line : List ℕ → List ℕ → ℕ → List ℕ
object_line name object number = name ++ label_text (codes "{object=\"") object ++ sample_text (codes "} ") number
