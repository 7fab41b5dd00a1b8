-- Of which sort the elements of a part are, by what it holds, and of which sort an expression is.
use Rattle.std.specs.Prelude.{Option, Some, None}
use Rattle.value_core.specs.declared.kind.Elem.{Elem}
use Rattle.value_core.specs.declared.kind.Elem.TheVariants as elem
use Rattle.value_core.specs.declared.kind.Kind.{Kind}
use Rattle.value_core.specs.declared.kind.Kind.TheVariants as kind
use Rattle.decl_core.specs.Form.{Form, an_integer, a_text}

-- which sort the elements are of an array, of a queue, of a table
abbrev pub array_sort : Kind → Option Elem
array_sort (kind.Array n e) = Some e
array_sort (kind.Queue e) = None
array_sort (kind.Table e) = None

abbrev pub queue_sort : Kind → Option Elem
queue_sort (kind.Array n e) = None
queue_sort (kind.Queue e) = Some e
queue_sort (kind.Table e) = None

abbrev pub table_sort : Kind → Option Elem
table_sort (kind.Array n e) = None
table_sort (kind.Queue e) = None
table_sort (kind.Table e) = Some e

-- what an expression is
abbrev pub sort_of_form : Form → Elem
sort_of_form (an_integer e) = elem.Integer
sort_of_form (a_text e) = elem.Text
