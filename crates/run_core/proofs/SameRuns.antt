-- Two runs of one task that stand in one place are the same.
use Rattle.std.proofs.Common.{◌≡◌, ℕ, None, sym, subst}
use native.Mathlib.Bridge.{le_prop}
use Rattle.std.specs.Prelude.{◌≢◌}
use Rattle.std.specs.Arc.{arc_value}
use Rattle.decl_core.specs.Bodies.{body_of}
use Rattle.decl_core.specs.Touched.{Writes}
use Rattle.page_core.specs.PartPins.{pin_at}
use Rattle.run_core.specs.declared.task.Task.{Task}
use Rattle.run_core.specs.Tasks.{task_call}
use Rattle.run_core.specs.declared.phase.Phase.{Phase}
use Rattle.run_core.specs.declared.run.Run.{Run}
use Rattle.run_core.specs.Phases.{news_in, HasItsReads}
use Rattle.run_core.specs.Steps.{ReadsItsPart, place_in}

none_twice : (x y : ⊥) → x ≡ y
none_twice x y = absurd x

-- the three facts of a run
abbrev Inside : Task → Phase → Type 0
Inside task phase = (p : ℕ) → pin_at (news_in phase) p ≢ None → (Writes (body_of (arc_value task.operation)).statements p → ⊥) → ⊥

abbrev Reads : Task → Phase → Type 0
Reads task phase = ReadsItsPart (task_call task) (place_in phase)

abbrev Known : Task → Phase → Type 0
Known task phase = HasItsReads (arc_value task.operation) phase

pub same_run : (run : Run) (phase : Phase) (inside : Inside run.task phase) (reading : Reads run.task phase) (reads : Known run.task phase) → phase ≡ run.phase
    → ◌≡◌ {A = Run} (record { alloc = run.alloc; task = run.task; phase = phase; inside = inside; reading = reading; reads = reads }) run
same_run run phase inside reading reads is =
    let here : (i : Inside run.task run.phase) (r : Reads run.task run.phase) (k : Known run.task run.phase)
    → ◌≡◌ {A = Run} (record { alloc = run.alloc; task = run.task; phase = run.phase; inside = i; reading = r; reads = k }) run =
    λ i r known j. record {
      alloc = run.alloc;
      task = run.task;
      phase = run.phase;
      inside = λ p has none. none_twice (i p has none) (run.inside p has none) j;
      reading = λ part at none. none_twice (r part at none) (run.reading part at none) j;
      reads = λ m at p reads. le_prop (known m at p reads) (run.reads m at p reads) j;
    } in
    subst (λ (ph : Phase). (i : Inside run.task ph) (r : Reads run.task ph) (k : Known run.task ph)
    → ◌≡◌ {A = Run} (record { alloc = run.alloc; task = run.task; phase = ph; inside = i; reading = r; reads = k }) run) (sym is) here inside reading reads
