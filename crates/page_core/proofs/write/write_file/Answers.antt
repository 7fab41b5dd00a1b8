use Rattle.std.proofs.Common.{[], ◌∷◌, refl, ◌∙◌, Ok, Err}
use Rattle.device_core.specs.Made.{creates, appends, seals, discards}
use Rattle.page_core.specs.Calls.{written, not_begun, not_added, not_sealed}
use Rattle.page_core.proofs.write.write_file.Goals as goal

pub returns-in-Err-clause-makes : goal.returns-in-Err-clause-makes
returns-in-Err-clause-makes g c = (creates (Err c.in-Err.fault) ∷ [], (c.create.new.self, c.in-Err.ensures.makes, refl), not_begun c.in-Err.fault)

pub returns-in-Err-append-clause-makes : goal.returns-in-Err-append-clause-makes
returns-in-Err-append-clause-makes g c =
    let pen = c.in-Ok.pen in
    let last = c.append.new.pen in (
      creates (Ok pen) ∷ appends pen.number c.args.bytes.now (Err c.in-Err-append.fault) ∷ discards last ∷ [],
      (c.create.new.self, c.in-Ok.ensures.makes, (c.append.new.self, c.in-Err-append.ensures.makes, (c.discard.new.self, c.discard.ensures.makes, refl))),
      not_added pen last c.in-Err-append.fault c.in-Err-append.ensures.number,
    )

pub returns-in-Ok-seal-clause-makes : goal.returns-in-Ok-seal-clause-makes
returns-in-Ok-seal-clause-makes g c =
    let pen = c.in-Ok.pen in
    let last = c.append.new.pen in (
      creates (Ok pen) ∷ appends pen.number c.args.bytes.now (Ok tt) ∷ seals last (Ok c.in-Ok-seal.stamp) ∷ [],
      (c.create.new.self, c.in-Ok.ensures.makes, (c.append.new.self, c.in-Ok-append.ensures.makes, (c.seal.new.self, c.in-Ok-seal.ensures.makes, refl))),
      written pen last c.in-Ok-seal.stamp c.in-Ok-append.ensures.number,
    )

pub returns-in-Err-seal-clause-makes : goal.returns-in-Err-seal-clause-makes
returns-in-Err-seal-clause-makes g c =
    let pen = c.in-Ok.pen in
    let last = c.append.new.pen in
    let back = c.in-Err-seal.pen in (
      creates (Ok pen) ∷ appends pen.number c.args.bytes.now (Ok tt) ∷ seals last (Err (back, c.in-Err-seal.fault)) ∷ discards back ∷ [],
      (c.create.new.self, c.in-Ok.ensures.makes, (c.append.new.self, c.in-Ok-append.ensures.makes, (c.seal.new.self, c.in-Err-seal.ensures.makes, (c.discard-in-Err-seal.new.self, c.discard-in-Err-seal.ensures.makes, refl)))),
      not_sealed pen last back c.in-Err-seal.fault c.in-Ok-append.ensures.number (c.in-Err-seal.ensures.number ∙ c.in-Ok-append.ensures.number),
    )
