use Rattle.std.proofs.Common.{List, [], ◌∷◌, map}
use Rattle.clap.specs.Faults.{fault_of}
use Rattle.clap.specs.declared.error.kind.ErrorKind.TheVariants.{ValueValidation}
use Rattle.clap.proofs.TakesLemmas.{passed_up}
use Rattle.command_line.specs.Commands.{program}
use Rattle.command_line.specs.Forms.{Text}
use Rattle.command_line.proofs.Asking.{asked, first_kinds, matched_by, other_kinds, passed_and, refused}
use Rattle.command_line.proofs.Shown.{shown_fails, shown_kind}
use Rattle.command_line.proofs.request.request_of.Goals as goal

pub returns-in_err-matches-clause-refused : goal.returns-in_err-matches-clause-refused
returns-in_err-matches-clause-refused c =
    let words : List Text = map (λ w. w.now) c.args.words.now in
    passed_up c.from_residual.result c.in_err-matches.field-0.0 _ c.from_residual.ensures.1
    (λ q asks. refused words c.in_err-matches.field-0.0 q c.in_err-matches.ensures.refused asks)

pub returns-in_err-matches-clause-kinds : goal.returns-in_err-matches-clause-kinds
returns-in_err-matches-clause-kinds c =
    let words : List Text = map (λ w. w.now) c.args.words.now in
    passed_up c.from_residual.result c.in_err-matches.field-0.0 _ c.from_residual.ensures.1
    (first_kinds (fault_of program words) (ValueValidation ∷ []) c.in_err-matches.field-0.0 c.in_err-matches.ensures.refused)

pub returns-in_err-matches-clause-shown : goal.returns-in_err-matches-clause-shown
returns-in_err-matches-clause-shown c =
    let words : List Text = map (λ w. w.now) c.args.words.now in
    λ t shows. passed_and c.from_residual.result c.in_err-matches.field-0.0 _ c.from_residual.ensures.1
    (shown_kind words t c.in_err-matches.field-0.0 shows c.in_err-matches.ensures.refused)

pub matched_request-requires : goal.matched_request-requires
matched_request-requires c =
    let words : List Text = map (λ w. w.now) c.args.words.now in
    let a = asked words c.in_ok-matches.matches c.in_ok-matches.ensures.found.0 c.in_ok-matches.ensures.found.1 in
    (a.verb, a.given, a.matched)

pub returns-in-Ok-clause-asked : goal.returns-in-Ok-clause-asked
returns-in-Ok-clause-asked c =
    let words : List Text = map (λ w. w.now) c.args.words.now in
    let a = asked words c.in_ok-matches.matches c.in_ok-matches.ensures.found.0 c.in_ok-matches.ensures.found.1 in
    a.asks c.in-Ok.request (c.in-Ok.ensures.asked a.verb a.given a.matched)

pub returns-in-Ok-clause-shown : goal.returns-in-Ok-clause-shown
returns-in-Ok-clause-shown c =
    let words : List Text = map (λ w. w.now) c.args.words.now in
    λ t shows. absurd (shown_fails words t shows c.in_ok-matches.ensures.found.0)

pub returns-clause-refused : goal.returns-clause-refused
returns-clause-refused c =
    let words : List Text = map (λ w. w.now) c.args.words.now in
    λ q asks.
    let m = matched_by words c.in_ok-matches.matches q c.in_ok-matches.ensures.found.1 asks in
    absurd (c.in-Err.ensures.other m.0 m.1 m.2 q m.3)

pub returns-clause-kinds : goal.returns-clause-kinds
returns-clause-kinds c =
    let words : List Text = map (λ w. w.now) c.args.words.now in
    other_kinds (fault_of program words) (ValueValidation ∷ []) c.odd_answer.result c.in_ok-matches.ensures.found.0 c.odd_answer.ensures

pub returns-clause-shown : goal.returns-clause-shown
returns-clause-shown c =
    let words : List Text = map (λ w. w.now) c.args.words.now in
    λ t shows. absurd (shown_fails words t shows c.in_ok-matches.ensures.found.0)
