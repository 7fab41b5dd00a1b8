use Rattle.std.proofs.Common.{◌≡◌, length, ap, ◌∙◌, arith}
use Rattle.std.proofs.lemmas.Option.{get_or_from_slice_get}
use Rattle.device_core.specs.declared.file.File.{File}
use Rattle.device_core.specs.declared.file.State.TheVariants.{Sealed}
use Rattle.device_core.proofs.Becoming.{open_holds, marked}
use Rattle.device_core.proofs.Slots.{sealed_agrees}
use Rattle.device_core.proofs.file.seal.Goals as goal

pub returns-clause-agrees : goal.returns-clause-agrees
returns-clause-agrees c =
    let found = c.in_ok-place.ensures.some in
    let puts = c.mark.ensures.puts found.2 found.3 in
    let got : c.index.result.now ≡ record found.2 { state = Sealed } =
    c.index.ensures ∙ get_or_from_slice_get c.mark.new.files.items c.in_ok-place.place (record found.2 { state = Sealed }) c.index.result.now puts.there in
    let len_is : c.len.result ≡ length c.index.result.now.bytes.items = omega arith in
    rw found.0 (λ b is a. sealed_agrees c.args.files.now.items c.mark.new.files.items c.in_ok-place.place found.2 found.3 found.4 puts c.len.result _ puts.there
    (len_is ∙ ap (λ (f : File). length f.bytes.items) got) b is a)

pub returns-clause-seals : goal.returns-clause-seals
returns-clause-seals c = λ b is.
    let found = c.in_ok-place.ensures.some in
    marked c.args.files.now.items c.mark.new.files.items c.in_ok-place.place c.args.number found.2 Sealed (c.mark.ensures.puts found.2 found.3) found.0 b
    (open_holds c.args.files.now.items c.in_ok-place.place c.args.number found.2 found.3 found.0 found.4 b is)
