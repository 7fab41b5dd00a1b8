use Rattle.std.proofs.Common.{subst, sym, ◌≡◌, ap, ◌∙◌}
use Rattle.std.specs.Prelude.{Ok, Err}
use Rattle.hex.specs.Hex.{decode_of}
use Rattle.front_read.proofs.Parting.{value_read, no_value, no_hex}
use Rattle.front_read.proofs.head.value_in.Goals as goal

pub returns-in-Ok : goal.returns-in-Ok
returns-in-Ok c =
    value_read c.args.word.now c.deref.result.now c.args.kind c.in-Ok.value (subst (λ bs. decode_of c.args.word.now ≡ Ok bs) (sym c.deref.ensures.value) (rw c.in-Some.is at c.in_ok-bytes.ensures)) c.in-Ok.ensures.found

pub returns-in-Err-Damaged : goal.returns-in-Err-Damaged
returns-in-Err-Damaged c =
    no_value c.args.word.now c.deref.result.now c.args.kind (subst (λ bs. decode_of c.args.word.now ≡ Ok bs) (sym c.deref.ensures.value) (rw c.in-Some.is at c.in_ok-bytes.ensures)) (c.decode.ensures.damaged (c.in-Err-Damaged.is ∙ ap Err c.in-Err-Damaged.field-0-is))

pub returns : goal.returns
returns c = no_hex c.args.word.now c.args.kind (rw c.in-None.is at c.in_ok-bytes.ensures)
