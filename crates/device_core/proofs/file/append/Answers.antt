use Rattle.std.proofs.Common.{◌≡◌, ◌++◌, sym, ◌∙◌, subst}
use Rattle.std.specs.Prelude.{is_ok, if◌then◌else◌}
use Rattle.device_core.specs.Files.{Puts}
use Rattle.device_core.proofs.Becoming.{open_holds}
use Rattle.device_core.proofs.file.append.Goals as goal

pub returns-clause-grows : goal.returns-clause-grows
returns-clause-grows c = λ b is.
    let found = c.in_ok-place.ensures.some in
    let got = c.extend.ensures.puts found.2 found.3 in
    let holds : found.2.bytes.items ≡ b = open_holds c.args.files.now.items c.in_ok-place.place c.args.number found.2 found.3 found.0 found.4 b is in (
      got.0,
      subst (λ n. Puts c.args.files.now.items c.extend.new.files.items n got.0) (sym found.0) got.1,
      got.2 ∙ found.4,
      subst (λ xs. got.0.bytes.items ≡ (if is_ok c.extend.result then xs ++ c.args.bytes.now else xs)) holds got.3,
    )
