-- A script of an object with holds whose head was read first is the whole script.
use Rattle.std.proofs.Common.{◌≡◌, ℕ, List, [], ◌++◌, take, sym, subst}
use Rattle.std.specs.Prelude.{Option, Some, None, Result, Ok, Err, IfOk, IfErr, IfSome}
use Rattle.std.specs.Io.KnownBytes.{Appends, Consumes}
use Rattle.decl_core.specs.declared.object.Object.{Object}
use Rattle.decl_core.specs.ObjectMap.{object_of}
use Rattle.value_core.proofs.Known.{Appends-none}
use Rattle.check_core.specs.Named.{IsHead}
use Rattle.check_core.specs.Opening.{IsReady, IsTold}
use Rattle.check_core.proofs.Heads.{told_alike, ready_alike}
use Rattle.decl_core.specs.HoldForm.{HoldForm}
use Rattle.world_core.specs.HoldRun.{IsHeldScript, IsHeldFront}
use Rattle.world_core.specs.declared.script.ScriptEnd.{ScriptEnd}
use Rattle.answer_core.specs.declared.failure.ToolFailure.{ToolFailure}
use Rattle.answer_core.specs.Status.{IsFault}
use Rattle.command_tool.specs.ScriptRun.{script_status}
use Rattle.command_tool.proofs.Scripts.{of_rest, with_rest}
use Rattle.command_tool.specs.HeldRun.{IsHeldRun, IsHeldRunFront, told, ran, nothing, told_front, ran_front}

-- there is an object to run on
ran_whole : (old new w v : Option (List ℕ)) (source head : List ℕ) (o : Object) (holds : List HoldForm) (status : ℕ) → Consumes old new head → IsHead head new → IsReady source head (object_of o)
    → IfSome new (λ rest. (end : ScriptEnd) × (written : List ℕ) × Appends w v written × IsHeldScript o holds (head ++ rest) end written × (status ≡ script_status end))
    → IfSome old (λ text. (written : List ℕ) × Appends w v written × IsHeldRun source text status written)
ran_whole old new w v source head o holds status taken enough ready run =
    with_rest old new head (λ text. (written : List ℕ) × Appends w v written × IsHeldRun source text status written)
    (λ rest. (end : ScriptEnd) × (written : List ℕ) × Appends w v written × IsHeldScript o holds (head ++ rest) end written × (status ≡ script_status end)) taken enough run
    (λ rest end script. (
      script.1,
      script.2,
      subst (λ s. IsHeldRun source (head ++ rest) s script.1) (sym script.4)
          (ran o holds script.0 (ready_alike source head rest (object_of o) end ready) script.3),
    ))

ran_cut : (old new w v : Option (List ℕ)) (source head : List ℕ) (o : Object) (holds : List HoldForm) → Consumes old new head → IsHead head new → IsReady source head (object_of o)
    → IfSome new (λ rest. (written : List ℕ) × Appends w v written × IsHeldFront o holds (head ++ rest) written)
    → IfSome old (λ text. (written : List ℕ) × Appends w v written × IsHeldRunFront source text written)
ran_cut old new w v source head o holds taken enough ready run =
    with_rest old new head (λ text. (written : List ℕ) × Appends w v written × IsHeldRunFront source text written)
    (λ rest. (written : List ℕ) × Appends w v written × IsHeldFront o holds (head ++ rest) written) taken enough run
    (λ rest end front. (front.0, front.1, ran_front o holds (ready_alike source head rest (object_of o) end ready) front.2))

-- there is none
told_whole : (old new w v : Option (List ℕ)) (source head line : List ℕ) (status : ℕ) → Consumes old new head → IsHead head new → IsTold source head line
    → Appends w v line → status ≡ 1 → IfSome old (λ text. (written : List ℕ) × Appends w v written × IsHeldRun source text status written)
told_whole old new w v source head line status taken enough is writes one =
    of_rest old new head (λ text. (written : List ℕ) × Appends w v written × IsHeldRun source text status written) taken enough
    (λ rest end. (line, writes, subst (λ s. IsHeldRun source (head ++ rest) s line) (sym one) (told (told_alike source head rest line end is))))

told_cut : (old new w v : Option (List ℕ)) (source head line : List ℕ) (count : ℕ) → Consumes old new head → IsHead head new → IsTold source head line
    → Appends w v (take count line) → IfSome old (λ text. (written : List ℕ) × Appends w v written × IsHeldRunFront source text written)
told_cut old new w v source head line count taken enough is writes =
    of_rest old new head (λ text. (written : List ℕ) × Appends w v written × IsHeldRunFront source text written) taken enough
    (λ rest end. (take count line, writes, told_front line count (told_alike source head rest line end is)))

-- nothing was written
pub none_written : (old w : Option (List ℕ)) (source : List ℕ) → IfSome old (λ text. (written : List ℕ) × Appends w w written × IsHeldRunFront source text written)
none_written None w source = tt
none_written (Some text) w source = ([], Appends-none w, nothing)

-- The same of results, where the bytes of the head are named thrice: as they were read, opened and run.
pub ran_ended : (r : Result ℕ ToolFailure) (old new w v : Option (List ℕ)) (source head at on : List ℕ) (o : Object) (holds : List HoldForm) → at ≡ head → on ≡ head → Consumes old new head → IsHead head new
    → IsReady source at (object_of o)
    → IfOk r (λ status. IfSome new (λ rest. (end : ScriptEnd) × (written : List ℕ) × Appends w v written × IsHeldScript o holds (on ++ rest) end written × (status ≡ script_status end)))
    → IfOk r (λ status. IfSome old (λ text. (written : List ℕ) × Appends w v written × IsHeldRun source text status written))
ran_ended (Err failure) old new w v source head at on o holds at_is on_is taken enough ready run = tt
ran_ended (Ok status) old new w v source head at on o holds at_is on_is taken enough ready run =
    ran_whole old new w v source head o holds status taken enough (subst (λ h. IsReady source h (object_of o)) at_is ready)
    (subst (λ h. IfSome new (λ rest. (end : ScriptEnd) × (written : List ℕ) × Appends w v written × IsHeldScript o holds (h ++ rest) end written × (status ≡ script_status end))) on_is run)

pub ran_failed : (r : Result ℕ ToolFailure) (old new w v : Option (List ℕ)) (source head at on : List ℕ) (o : Object) (holds : List HoldForm) → at ≡ head → on ≡ head → Consumes old new head → IsHead head new
    → IsReady source at (object_of o)
    → IfErr r (λ failure. IsFault failure × IfSome new (λ rest. (written : List ℕ) × Appends w v written × IsHeldFront o holds (on ++ rest) written))
    → IfErr r (λ failure. IsFault failure × IfSome old (λ text. (written : List ℕ) × Appends w v written × IsHeldRunFront source text written))
ran_failed (Ok status) old new w v source head at on o holds at_is on_is taken enough ready run = tt
ran_failed (Err failure) old new w v source head at on o holds at_is on_is taken enough ready run = (
  run.0,
  ran_cut old new w v source head o holds taken enough (subst (λ h. IsReady source h (object_of o)) at_is ready)
      (subst (λ h. IfSome new (λ rest. (written : List ℕ) × Appends w v written × IsHeldFront o holds (h ++ rest) written)) on_is run.1),
)

pub told_ended : (r : Result ℕ ToolFailure) (old new w v : Option (List ℕ)) (source head at line on : List ℕ) → at ≡ head → on ≡ line → Consumes old new head → IsHead head new
    → IsTold source at line → IfOk r (λ status. Appends w v on × (status ≡ 1))
    → IfOk r (λ status. IfSome old (λ text. (written : List ℕ) × Appends w v written × IsHeldRun source text status written))
told_ended (Err failure) old new w v source head at line on at_is on_is taken enough is tells = tt
told_ended (Ok status) old new w v source head at line on at_is on_is taken enough is tells =
    told_whole old new w v source head line status taken enough (subst (λ h. IsTold source h line) at_is is) (subst (λ l. Appends w v l) on_is tells.0) tells.1

pub told_failed : (r : Result ℕ ToolFailure) (old new w v : Option (List ℕ)) (source head at line on : List ℕ) → at ≡ head → on ≡ line → Consumes old new head → IsHead head new
    → IsTold source at line → IfErr r (λ failure. IsFault failure × ((count : ℕ) × Appends w v (take count on)))
    → IfErr r (λ failure. IsFault failure × IfSome old (λ text. (written : List ℕ) × Appends w v written × IsHeldRunFront source text written))
told_failed (Ok status) old new w v source head at line on at_is on_is taken enough is tells = tt
told_failed (Err failure) old new w v source head at line on at_is on_is taken enough is tells =
    (tells.0, told_cut old new w v source head line tells.1.0 taken enough (subst (λ h. IsTold source h line) at_is is) (subst (λ l. Appends w v (take tells.1.0 l)) on_is tells.1.1))
