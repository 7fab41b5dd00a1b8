use Rattle.std.proofs.Common.{List, map}
use Rattle.clap.proofs.TakesLemmas.{passed_up}
use Rattle.command_line.specs.Forms.{Text}
use Rattle.command_line.proofs.Asking.{has_of, kinds_of, none_of}
use Rattle.command_line.proofs.request.parsed.Goals as goal

pub returns-in_err-matches-clause-refused : goal.returns-in_err-matches-clause-refused
returns-in_err-matches-clause-refused c =
    let words : List Text = map (λ w. w.now) c.args.words.now in
    passed_up c.from_residual-in_err-matches.result c.in_err-matches.field-0.0 _ c.from_residual-in_err-matches.ensures.1
    (kinds_of words c.in_ok-program.program c.in_ok-program.ensures c.in_err-matches.field-0.0 c.in_err-matches.ensures.kinds)

pub returns-clause-found : goal.returns-clause-found
returns-clause-found c =
    let words : List Text = map (λ w. w.now) c.args.words.now in (
      none_of words c.in_ok-program.program c.in_ok-program.ensures c.in_ok-matches.ensures.kinds,
      has_of words c.in_ok-program.program c.in_ok-program.ensures c.in_ok-matches.matches c.in_ok-matches.ensures.matches,
    )
