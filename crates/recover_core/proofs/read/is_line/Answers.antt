use Rattle.std.proofs.Common.{◌++◌, [], ◌∷◌, ap, sym, ◌∙◌}
use Rattle.std.proofs.lemmas.List.{append_cancel_left}
use Rattle.recover_core.proofs.read.is_line.Goals as goal

pub returns-in-Some : goal.returns-in-Some
returns-in-Some c = (
  (λ t. c.in-Some.ensures ∙ ap (λ r. c.args.line.now ++ r) (c.is_feed.ensures.0 t)),
  (λ is. c.is_feed.ensures.1 (append_cancel_left c.args.line.now c.in-Some.rest.now (10 ∷ []) (sym c.in-Some.ensures ∙ is))),
)
