-- The law of the trace that is saved of an object.
use Rattle.std.specs.Prelude.{List, length, IsTrue}
use Rattle.decl_core.specs.ObjectMap.{object_of}
use Rattle.decl_core.specs.declared.object.Part.{Part}
use Rattle.device_core.specs.Device.{Assignment}
use Rattle.page_core.specs.Opened.{ArePinned}
use Rattle.page_core.specs.Lists.{Every}
use Rattle.office_core.specs.Slips.{IsTrueTold}
use Rattle.keep_core.specs.Ends.{Ended, IsAtEnd, trace_of}
use Rattle.keep_core.specs.Opening.{values_of}
use Rattle.audit_core.specs.Verdicts.{IsLegalTrace}

-- Where an object was closed, each slip that its sessions left is true, and the pins at its opening were sealed with its
-- opening values, the text of its trace is a legal trace, with as many ends as its history has entries.
abbrev pub SavedTraceIsLegal : Type 0
SavedTraceIsLegal = (a : Assignment) (e : Ended) (parts : List Part) →
    IsAtEnd e → IsTrue e.became.closed → Every (IsTrueTold a) e.slips →
    ArePinned a parts e.opening.pins (values_of e.opening) →
    IsLegalTrace (object_of e.board.object) (trace_of e.board (values_of e.opening)) (length e.board.history)
