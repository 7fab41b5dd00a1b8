-- Laws of lines behind a front.
use Rattle.std.specs.Prelude.{ℕ, List, None, take}
use Rattle.decl_core.specs.ObjectForm.{ObjectForm}
use Rattle.audit_core.specs.declared.verdict.AuditFault.{AuditFault}
use Rattle.audit_core.specs.Steps.{Step, Begun, Heard, nothing_heard}
use Rattle.audit_core.specs.EpochTells.{Tell}
use Rattle.audit_core.specs.Sound.{IsSound, IsPlayed, IsFirstFault}

-- Of sound lines the first ones, however many, are sound up to the last of them at which no call runs.
abbrev pub CutIsPlayed : Type 0
CutIsPlayed = (o : ObjectForm) (e : Begun) (all : List (List ℕ)) (heard : Heard) (k : ℕ) →
    Tell o e nothing_heard all heard → IsSound o e heard →
    (steps : List Step) × IsPlayed o e (take k all) (record { steps = steps; running = None })

-- Of sound lines none has a fault, and none of the first ones, however many.
abbrev pub SoundHasNoFault : Type 0
SoundHasNoFault = (o : ObjectForm) (e : Begun) (all : List (List ℕ)) (heard : Heard) (k number : ℕ) (fault : AuditFault) →
    Tell o e nothing_heard all heard → IsSound o e heard → IsFirstFault o e (take k all) number fault → ⊥
