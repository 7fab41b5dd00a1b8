use Rattle.std.proofs.Common.{subst, refl, inl, inr}
use Rattle.std.specs.Io.KnownBytes.{Appends}
use Rattle.decl_core.specs.ObjectMap.{objects_of}
use Rattle.check_core.specs.SourceView.{IsJudgedSource}
use Rattle.serve_core.proofs.Running.{refused_as, keeps_same, if_ok, any_ok}
use Rattle.serve_core.proofs.serve.serve_on.Goals as goal

pub returns-in-Ok-Told-clause-run : goal.returns-in-Ok-Told-clause-run
returns-in-Ok-Told-clause-run g c =
    inl (c.in-Ok-Told.text.items, subst (IsJudgedSource c.args.source.now) c.in-Ok-Told.field-0-is c.in-Ok-Told.ensures, refused_as c.deref.ensures.value c.tell_refused.ensures.by)

pub returns-in-Ok-Told-clause-handled : goal.returns-in-Ok-Told-clause-handled
returns-in-Ok-Told-clause-handled g c =
    let old = g.W.Write.contents c.args.writer.now in
    let new = g.W.Write.contents c.tell_refused.new.writer in
    if_ok c.tell_refused.result
    (λ end is. inl (c.in-Ok-Told.text.items, subst (IsJudgedSource c.args.source.now) c.in-Ok-Told.field-0-is c.in-Ok-Told.ensures, is.0, subst (Appends old new) c.deref.ensures.value is.1)) c.tell_refused.ensures.ok

pub returns-in-Ok-Ready-clause-run : goal.returns-in-Ok-Ready-clause-run
returns-in-Ok-Ready-clause-run g c =
    inr (inr (c.in-Ok-Ready.ready.items, subst (IsJudgedSource c.args.source.now) c.in-Ok-Ready.field-0-is c.in-Ok-Ready.ensures, c.serve.ensures))

pub returns-in-Ok-Ready-clause-handled : goal.returns-in-Ok-Ready-clause-handled
returns-in-Ok-Ready-clause-handled g c =
    any_ok c.serve.result (λ end. inr (objects_of c.in-Ok-Ready.ready.items, subst (IsJudgedSource c.args.source.now) c.in-Ok-Ready.field-0-is c.in-Ok-Ready.ensures))

pub returns-in-Err-clause-run : goal.returns-in-Err-clause-run
returns-in-Err-clause-run g c = inr (inl (refl, keeps_same (g.W.Write.contents c.args.writer.now)))
