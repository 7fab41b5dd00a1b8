use Rattle.std.proofs.Common.{◌≡◌, ◌∙◌, false, true, Some, codes, refl}
use Rattle.clap.specs.Matches.{found_of, subcommand_name_of}
use Rattle.clap.specs.Walk.{rows_of}
use Rattle.command_line.specs.Forms.{keep}
use Rattle.command_line.proofs.Found.{matched_is, matched_name}
use Rattle.command_line.proofs.request.pasts_found.Goals as goal

clash : false ≡ true → ⊥
clash x = cc

pub returns-in_ok-pasts_in-in-Some-clause-told : goal.returns-in_ok-pasts_in-in-Some-clause-told
returns-in_ok-pasts_in-in-Some-clause-told c = λ g matched.
    let m = c.args.matches.now in
    let name : subcommand_name_of m ≡ Some (codes "keep") = c.in-Some.ensures.found.0 refl in
    let held = matched_is m keep keep g (rows_of (found_of c.in-Some.keep.now)) matched name c.in-Some.ensures.rows in
    c.in_ok-pasts_in-in-Some.ensures ∙ held.1.16

pub returns-in-None-clause-told : goal.returns-in-None-clause-told
returns-in-None-clause-told c = λ g matched. absurd (clash (c.in-None.ensures.found.1 (matched_name c.args.matches.now keep g matched)))
