use Rattle.std.proofs.Common.{◌≡◌, List, ℕ, Err, ap, sym, subst, ◌∙◌}
use Rattle.serve_core.specs.Runs.{IsRun}
use Rattle.command_tool.specs.Ends.{status_of_end}
use Rattle.command_tool.proofs.serve.serve_objects.Goals as goal
use Rattle.command_tool.proofs.serve.serve_objects.Goals.{in-Ok, in-Err}

pub returns : goal.returns
returns g c =
    let end = c.serve_on-ended.result in
    let status : c.match-ended.ended ≡ status_of_end end = elim c.match-ended.branch [
      | in-Ok w ↦ w.ended-is ∙ w.status_of_serve-ended.ensures ∙ ap status_of_end (sym w.in-Ok.is)
      | in-Err w ↦ w.ended-is ∙ ap Err w.from.ensures ∙ ap status_of_end (sym w.in-Err.is)
    ] in (
      end,
      subst (λ (source : List ℕ). IsRun g.H.Hand.agrees source end (g.W.Write.contents c.args.writer.now) (g.W.Write.contents c.serve_on-ended.new.writer)) c.deref.ensures.value c.serve_on-ended.ensures.run,
      c.explained.ensures.same ∙ status,
    )
