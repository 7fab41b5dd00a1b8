-- How a value is kept, as contents.
use Rattle.value_core.specs.declared.value.Body.{Body}
use Rattle.value_core.specs.declared.value.Body.TheVariants.{Array, Queue, Table}
use Rattle.value_core.specs.Contents.{Contents, array, queue, table}
use Rattle.value_core.specs.Cells.{cells_sort, cells_data}
use Rattle.value_core.specs.Queue.{queue_sort, queue_data}
use Rattle.value_core.specs.Rows.{rows_sort, rows_map}

-- an array, a queue or a table, with its elements
abbrev pub contents_of : Body → Contents
contents_of (Array c) = array (cells_sort c) (cells_data c)
contents_of (Queue l) = queue (queue_sort l) (queue_data l)
contents_of (Table r) = table (rows_sort r) (rows_map r)
