-- What is outside of a server's objects.
use Rattle.std.specs.Prelude.{ℕ, List, ◌++◌, codes, flat_map}
use Rattle.inside_core.specs.Metrics.{head, one_text, journal_line}
use Rattle.inside_core.specs.declared.metric.MetricKind.{MetricKind}
use Rattle.inside_core.specs.declared.metric.MetricKind.TheVariants.{Counter, Gauge}
use Rattle.inside_core.specs.Durations.{durations_text}
use Rattle.inside_core.specs.declared.numbers.Durations.{Durations}
use Rattle.inside_core.specs.declared.numbers.Server.{Server}
use Rattle.inside_core.specs.declared.numbers.Stored.{Stored}
use Rattle.inside_core.specs.declared.server.OfServer.{OfServer}
use Rattle.inside_core.specs.declared.server.OfServer.TheVariants.{Epoch, Bytes, Syncs, Synced, Failed}

-- the numbers of the server, with its label
abbrev pub server_text : List ℕ → Server → List ℕ
server_text label s =
    one_text label (codes "pathserve_status_seconds") Gauge (codes "Unix time of this text.") s.looked
    ++ one_text label (codes "pathserve_start_seconds") Gauge (codes "Unix time of the start.") s.start
    ++ one_text label (codes "pathserve_every_seconds") Gauge (codes "So often this text is written.") s.every
    ++ one_text label (codes "pathserve_connections") Gauge (codes "Connections now.") s.connections
    ++ one_text label (codes "pathserve_connections_total") Counter (codes "Connections since the start.") s.total
    ++ one_text label (codes "pathserve_connections_limit") Gauge (codes "Connections at once, at most.") s.limit
    ++ one_text label (codes "pathserve_memory_bytes") Gauge (codes "Memory of the server.") s.memory

-- a number of each journal: its name, what it is about, its kind, and the number
abbrev pub name_of : OfServer → List ℕ
name_of Epoch = codes "pathserve_epoch"
name_of Bytes = codes "pathserve_journal_bytes"
name_of Syncs = codes "pathserve_syncs_total"
name_of Synced = codes "pathserve_sync_seconds"
name_of Failed = codes "pathserve_epochs_failed_total"

abbrev pub about_of : OfServer → List ℕ
about_of Epoch = codes "The number of the epoch."
about_of Bytes = codes "Bytes of lines in the journal."
about_of Syncs = codes "How often the journal was stored since the start."
about_of Synced = codes "Unix time when it was last stored."
about_of Failed = codes "How often no epoch could begin since the start."

abbrev pub kind_of : OfServer → MetricKind
kind_of Epoch = Gauge
kind_of Bytes = Gauge
kind_of Syncs = Counter
kind_of Synced = Gauge
kind_of Failed = Counter

abbrev pub number_of : OfServer → Stored → ℕ
number_of Epoch j = j.epoch
number_of Bytes j = j.bytes
number_of Syncs j = j.syncs
number_of Synced j = j.synced
number_of Failed j = j.failed

abbrev pub journal_number : List ℕ → OfServer → Stored → List ℕ
journal_number label of j = journal_line label (name_of of) j.name.items (number_of of j)

abbrev pub journal_text : List ℕ → OfServer → List Stored → List ℕ
journal_text label of js = head (name_of of) (kind_of of) (about_of of) ++ flat_map (journal_number label of) js

-- the numbers of the journals
abbrev pub journals_text : List ℕ → List Stored → List ℕ
journals_text label js =
    journal_text label Epoch js ++ journal_text label Bytes js ++ journal_text label Syncs js ++ journal_text label Synced js
    ++ journal_text label Failed js

-- how long it took to store what was handed to the journals
abbrev pub syncs_text : List ℕ → Durations → List ℕ
syncs_text label d =
    durations_text label (codes "pathserve_sync_duration_seconds") (codes "How long it took to store a journal.") d

-- the numbers of a server, of its journals, and of what it took to store these, with its label
abbrev pub outside_text : List ℕ → Server → List Stored → Durations → List ℕ
outside_text label s js d = server_text label s ++ journals_text label js ++ syncs_text label d
