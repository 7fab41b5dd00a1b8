use Rattle.std.proofs.Common.{List, map, subst}
use Rattle.std.proofs.lemmas.Result.{IfOk-weaker}
use Rattle.clap.proofs.TakesLemmas.{passed_up}
use Rattle.command_line.specs.Commands.{IsMatched}
use Rattle.command_line.specs.Forms.{Text}
use Rattle.command_line.proofs.Asking.{asks_matched, if_err_then, refused}
use Rattle.command_line.proofs.request.pasts_of.Goals as goal

pub returns-in_err-matches-clause-refused : goal.returns-in_err-matches-clause-refused
returns-in_err-matches-clause-refused c =
    let words : List Text = map (λ w. w.now) c.args.words.now in
    passed_up c.from_residual.result c.in_err-matches.field-0.0 _ c.from_residual.ensures.1
    (λ q asks. refused words c.in_err-matches.field-0.0 q c.in_err-matches.ensures.refused asks)

pub returns-clause-told : goal.returns-clause-told
returns-clause-told c =
    let words : List Text = map (λ w. w.now) c.args.words.now in
    let m = c.in_ok-matches.matches in
    IfOk-weaker c.pasts_found.result _ _ (λ v told q asked is_keep.
    told asked.given (subst (λ u. IsMatched u asked.given m) is_keep (asks_matched words m q c.in_ok-matches.ensures.found.1 asked))) c.pasts_found.ensures.told

pub returns-clause-refused : goal.returns-clause-refused
returns-clause-refused c = if_err_then c.pasts_found.result _ _ (λ e memory q asks. memory) c.pasts_found.ensures.refused
