use Rattle.std.proofs.Common.{sym, arith}
use Rattle.std.proofs.lemmas.Bool.{false≢true}
use Rattle.keep_core.proofs.Keeping.{on_ok, on_err}
use Rattle.serve_core.proofs.Gathering.{put_past, put_set, keep_set}
use Rattle.serve_core.proofs.gather.Gathering.put.Goals as goal

pub returns-in-Some-clause-ok : goal.returns-in-Some-clause-ok
returns-in-Some-clause-ok g c =
    on_ok c.add.result (λ grown. put_set c.args.self.now.all.items c.args.object c.in-Some.gathered.now c.add.new.self c.args.backed c.in-Some.ensures.value grown) c.add.ensures.ok

pub returns-in-Some-clause-err : goal.returns-in-Some-clause-err
returns-in-Some-clause-err g c =
    on_err c.add.result (λ same. keep_set c.args.self.now.all.items c.args.object c.in-Some.gathered.now c.add.new.self c.in-Some.ensures.value same) c.add.ensures.err

pub returns-in-None-clause-ok : goal.returns-in-None-clause-ok
returns-in-None-clause-ok g c = sym (put_past c.args.object c.args.backed c.args.self.now.all.items _ (λ less. false≢true (c.in-None.ensures.variant.1 less)) (omega (arith, c.args.self.now.all.ok.0)))
