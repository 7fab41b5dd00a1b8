use Rattle.std.proofs.Common.{◌≡◌, [], length, refl, sym, ap, ◌∙◌, subst, map}
use Rattle.std.specs.Prelude.{IfSome, None}
use Rattle.path_tree.specs.Trace.{running_calls}
use Rattle.value_core.specs.Contents.{kind_of}
use Rattle.decl_core.specs.declared.object.Part.{Part}
use Rattle.decl_core.specs.ObjectMap.{object_of}
use Rattle.path_count.specs.Past.{events_of}
use Rattle.audit_core.specs.Counts.{Counted}
use Rattle.audit_core.specs.EpochStands.{begun_with}
use Rattle.audit_core.specs.declared.epoch_replay.Replay.{Replay}
use Rattle.audit_core.proofs.EpochStanding.{kinds_same, new_stands}
use Rattle.audit_core.proofs.epoch_replay.Replay.behind.Goals as goal

pub returns : goal.returns
returns c =
    let o = object_of c.args.object.now in
    let t = events_of c.args.past.items in
    let r : Replay = record { alloc = c.args.alloc; counts = c.in-Some.counts; parts = c.args.parts; numbers = c.new.result; carried = c.args.carried; running = None; long = c.args.past } in
    let counted = rw c.deref-3.ensures.value at (subst (λ f. IfSome f (λ x. Counted x.all x.each.items (length o.operations) o.paths (events_of c.deref-3.result.now))) c.in-Some.is c.in_ok-counts.ensures.counted) in
    let quiet = rw c.deref-3.ensures.value at (subst (λ f. IfSome f (λ x. running_calls (events_of c.deref-3.result.now) ≡ [])) c.in-Some.is c.in_ok-counts.ensures.quiet) in
    let before = rw c.deref-3.ensures.value at c.in_ok-counts.ensures.before in
    let kinds = ap (map kind_of) (sym c.deref.ensures.value) ∙ c.are_of.ensures.0 c.if-not-are_of.false ∙ ap (map (λ (p : Part). p.kind)) c.deref-2.ensures.value ∙ sym (kinds_same c.args.object.now.parts.items) in
    new_stands o (begun_with c.args.past.items c.args.parts.items c.args.carried.items) r counted quiet before refl kinds c.new.ensures refl refl refl
