use Rattle.std.proofs.Common.{◌==◌, not, Bool, rules}
use Rattle.std.proofs.lemmas.Fn.{filter_same}
use Rattle.client_core.specs.declared.holder.Holder.{Holder}
use Rattle.client_core.proofs.holder.take_out.Goals as goal

pub returns-clause-left : goal.returns-clause-left
returns-clause-left c =
    let stays : Holder → Bool = λ g. not (g.session == c.args.session) in
    filter_same _ stays _ (λ x b q h. search rules) _ _ c.retain.ensures.filtered
