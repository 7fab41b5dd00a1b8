use Rattle.std.proofs.Common.{◌∙◌, sym}
use Rattle.office_core.proofs.Naming.{still_out}
use Rattle.office_core.proofs.clients.take_at.Goals as goal

pub returns-in-None-clause-none : goal.returns-in-None-clause-none
returns-in-None-clause-none c = λ client is.
    still_out c.args.clients.now.items c.args.place c.index_mut.result.now c.take.new.client client c.requires c.index_mut.ensures.value c.take.ensures.client (sym c.take.ensures.seat ∙ c.in-None.is) is
