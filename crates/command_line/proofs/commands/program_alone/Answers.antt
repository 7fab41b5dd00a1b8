use Rattle.std.proofs.Common.{◌≡◌, ◌∙◌, ap, codes, true}
use Rattle.clap.specs.Simple.{Shape, app_of, app_of_fields, new_app, on_top}
use Rattle.command_line.proofs.commands.program_alone.Goals as goal

pub returns : goal.returns
returns c =
    let versioned : app_of c.version.result ≡ on_top (λ (s : Shape). record s { has_version = true }) (new_app (codes "pathserve")) =
    ap app_of_fields c.version.ensures ∙ ap (on_top (λ (s : Shape). record s { has_version = true })) c.titled.ensures.0 in
    let passed : app_of c.propagate_version.result ≡ on_top (λ (s : Shape). record s { has_version = true; propagate_version = true }) (new_app (codes "pathserve")) =
    ap app_of_fields c.propagate_version.ensures ∙ ap (on_top (λ (s : Shape). record s { propagate_version = true })) versioned in
    ap app_of_fields c.subcommand_required.ensures ∙ ap (on_top (λ (s : Shape). record s { subcommand_required = true })) passed
