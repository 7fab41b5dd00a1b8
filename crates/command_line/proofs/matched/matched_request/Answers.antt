use Rattle.std.proofs.Common.{◌≡◌, Some, codes, refl, subst, sym}
use Rattle.clap.specs.Matches.{found_of, subcommand_name_of}
use Rattle.clap.specs.Walk.{rows_of}
use Rattle.command_line.specs.Commands.{Holds}
use Rattle.command_line.specs.Forms.{Makes, check, run, audit, attempt}
use Rattle.command_line.proofs.Found.{matched_is}
use Rattle.command_line.proofs.matched.matched_request.Goals as goal

pub returns-in-Some-clause-asked : goal.returns-in-Some-clause-asked
returns-in-Some-clause-asked c = λ v g h.
    let f = found_of c.in-Some.check.now in
    let name : subcommand_name_of c.args.matches.now ≡ Some (codes "check") = c.in-Some.ensures.found.0 refl in
    let m = matched_is c.args.matches.now v check g (rows_of f) h name c.in-Some.ensures.rows in
    subst (λ u. Makes u g c.check_request.result) (sym m.0) (c.check_request.ensures g (subst (λ u. Holds u g (rows_of f)) m.0 m.1))

pub returns-in-Some-subcommand_matches-clause-asked : goal.returns-in-Some-subcommand_matches-clause-asked
returns-in-Some-subcommand_matches-clause-asked c = λ v g h.
    let f = found_of c.in-Some-subcommand_matches.run'.now in
    let name : subcommand_name_of c.args.matches.now ≡ Some (codes "run") = c.in-Some-subcommand_matches.ensures.found.0 refl in
    let m = matched_is c.args.matches.now v run g (rows_of f) h name c.in-Some-subcommand_matches.ensures.rows in
    subst (λ u. Makes u g c.run_request.result) (sym m.0) (c.run_request.ensures g (subst (λ u. Holds u g (rows_of f)) m.0 m.1))

pub returns-in-Some-subcommand_matches-2-clause-asked : goal.returns-in-Some-subcommand_matches-2-clause-asked
returns-in-Some-subcommand_matches-2-clause-asked c = λ v g h.
    let f = found_of c.in-Some-subcommand_matches-2.audit.now in
    let name : subcommand_name_of c.args.matches.now ≡ Some (codes "audit") = c.in-Some-subcommand_matches-2.ensures.found.0 refl in
    let m = matched_is c.args.matches.now v audit g (rows_of f) h name c.in-Some-subcommand_matches-2.ensures.rows in
    subst (λ u. Makes u g c.audit_request.result) (sym m.0) (c.audit_request.ensures g (subst (λ u. Holds u g (rows_of f)) m.0 m.1))

pub returns-in-Some-subcommand_matches-3-clause-asked : goal.returns-in-Some-subcommand_matches-3-clause-asked
returns-in-Some-subcommand_matches-3-clause-asked c = λ v g h.
    let f = found_of c.in-Some-subcommand_matches-3.tried.now in
    let name : subcommand_name_of c.args.matches.now ≡ Some (codes "try") = c.in-Some-subcommand_matches-3.ensures.found.0 refl in
    let m = matched_is c.args.matches.now v attempt g (rows_of f) h name c.in-Some-subcommand_matches-3.ensures.rows in
    subst (λ u. Makes u g c.try_request.result) (sym m.0) (c.try_request.ensures g (subst (λ u. Holds u g (rows_of f)) m.0 m.1))
