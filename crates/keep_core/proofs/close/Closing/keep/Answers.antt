use Rattle.std.proofs.Common.{refl, subst, Bool, List}
use Rattle.std.specs.Prelude.{IsTrue}
use Rattle.value_core.specs.Contents.{Contents}
use Rattle.keep_core.specs.Kept.{Traces}
use Rattle.keep_core.specs.Opening.{values_of}
use Rattle.keep_core.specs.Ends.{trace_of}
use Rattle.keep_core.proofs.close.Closing.keep.Goals as goal

pub returns-clause-kept : goal.returns-clause-kept
returns-clause-kept g c =
    record {
      closed = refl;
      between = c.save_all-saved.new.self.trouble;
      saves = c.save_all-saved.ensures.saves;
      traces = subst (λ x. Traces c.args.desk.now.object.name (trace_of c.args.desk.now (values_of c.args.opening.now)) (g.T.Shelf.holds x) (g.T.Shelf.holds c.keep_trace-traced.new.traces) c.keep_trace-traced.result c.save_all-saved.new.self.trouble c.keep_trace-traced.new.trouble) c.save_all-saved.ensures.traces
          (subst (λ (values : List Contents). Traces c.args.desk.now.object.name (trace_of c.args.desk.now values) (g.T.Shelf.holds c.save_all-saved.new.self.traces) (g.T.Shelf.holds c.keep_trace-traced.new.traces) c.keep_trace-traced.result c.save_all-saved.new.self.trouble c.keep_trace-traced.new.trouble) c.deref.ensures.value c.keep_trace-traced.ensures);
      keeps = λ all.
          let one = c.both-self.ensures.all all in
          let kept = c.both-kept.ensures.all one.1 in
          (subst (λ (v : Bool). IsTrue v) c.save_all-saved.ensures.kept one.0, kept.0, kept.1);
      held = c.desk_can_be_told.ensures;
    }

pub returns-clause-files : goal.returns-clause-files
returns-clause-files g c = c.save_all-saved.ensures.files
