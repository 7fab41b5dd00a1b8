use Rattle.std.proofs.Common.{length, arith}
use Rattle.std.proofs.lemmas.List.{length-map}
use Rattle.session_core.specs.declared.order.Named.{Named}
use Rattle.serve_core.specs.Gathers.{slips_in}
use Rattle.serve_core.proofs.Gathering.{gathered_many, gathered_as}
use Rattle.serve_core.proofs.host.Host.close.Goals as goal

pub close_all-requires-clause-gathered : goal.close_all-requires-clause-gathered
close_all-requires-clause-gathered g c = gathered_many (length c.args.served.offices.items) c.gather_came-gathered.result.items c.requires.none c.gather_came-gathered.ensures

pub returns : goal.returns
returns g c = record {
  gathered = c.gather_came-gathered.new.trouble;
  slips = slips_in c.gather_came-gathered.result.items;
  gathers = gathered_as (length c.args.served.offices.items) _ c.requires.none (omega (arith, length-map c.args.served.offices.items (λ (n : Named). n.name))) c.gather_came-gathered.ensures;
  closes = c.close_all.ensures;
}
