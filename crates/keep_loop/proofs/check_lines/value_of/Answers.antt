use Rattle.std.proofs.Common.{◌≡◌, ℕ, sym, subst, ◌∙◌}
use Rattle.std.specs.Prelude.{decimal}
use Rattle.std.specs.Str.{IsUtf8}
use Rattle.std.proofs.lemmas.Fmt.{parse-decimal, IsAscii-decimal}
use Rattle.std.proofs.lemmas.Str.{IsUtf8-from_ascii}
use Rattle.keep_loop.proofs.check_lines.value_of.Goals as goal

pub returns-in-Err : goal.returns-in-Err
returns-in-Err c size small is = absurd (c.in-Err.ensures.cases.0 (subst IsUtf8 (sym is) (IsUtf8-from_ascii _ (IsAscii-decimal size small))))

pub returns-in-Ok-parse : goal.returns-in-Ok-parse
returns-in-Ok-parse c size small is =
    let digits : c.in-Ok.digits.now ≡ decimal size = c.in-Ok.ensures.cases.0 ∙ is in
    let read = parse-decimal 64 size c.in-Ok.digits.now c.parse.result small small digits c.parse.ensures.value.0 in
    cc (read, c.in-Ok-parse.is)

pub returns-in-Err-parse : goal.returns-in-Err-parse
returns-in-Err-parse c size small is =
    let digits : c.in-Ok.digits.now ≡ decimal size = c.in-Ok.ensures.cases.0 ∙ is in
    let read = parse-decimal 64 size c.in-Ok.digits.now c.parse.result small small digits c.parse.ensures.value.0 in
    absurd (cc (read, c.in-Err-parse.is))
