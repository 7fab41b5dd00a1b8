use Rattle.std.proofs.Common.{◌≡◌, ◌≤◌, ◌+◌, length, take, drop, sym, ap, ◌∙◌, subst, arith}
use Rattle.std.proofs.lemmas.Option.{get_or_from_slice_get}
use Rattle.std.proofs.lemmas.Grind.{common_steps}
use Rattle.device_core.specs.declared.file.File.{File}
use Rattle.device_core.proofs.Slots.{stands_at, read_shows}
use Rattle.device_core.proofs.file.read.Goals as goal

pub returns-clause-shows : goal.returns-clause-shows
returns-clause-shows c = λ a has.
    let found = c.in-Some.ensures.some in
    let file = c.index-file.result.now in
    let place = c.in-Some.place in
    let same : found.2 ≡ file = sym (c.index-file.ensures ∙ get_or_from_slice_get c.args.files.now.items place found.2 file found.3) in
    let long : c.args.len ≤ length file.bytes.items = subst (λ (f : File). c.args.len ≤ length f.bytes.items) same found.5 in
    let there : take (length c.copy_from_slice.new.self) (drop c.args.at file.bytes.items) ≡ c.copy_from_slice.new.self =
    (rw (← c.deref.ensures.value) (rw c.copy_from_slice.ensures.len (grind (arith, common_steps)))) in
    let within : c.args.at + length c.copy_from_slice.new.self ≤ length file.bytes.items = omega (arith, long) in
    read_shows c.args.files.now.items place c.args.at c.args.number file c.copy_from_slice.new.self
    (stands_at c.args.files.now.items place file found.1 c.index-file.ensures)
    (ap (λ (f : File). f.state) (sym same) ∙ found.4) within there found.0 a has
