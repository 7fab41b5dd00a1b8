use Rattle.std.proofs.Common.{◌≡◌, ap, ◌∙◌}
use Rattle.std.proofs.lemmas.Option.{get_or_from_slice_get}
use Rattle.device_core.specs.declared.file.File.{File}
use Rattle.device_core.proofs.Slots.{puts_set}
use Rattle.device_core.proofs.file.extend.Goals as goal

pub returns-clause-puts : goal.returns-clause-puts
returns-clause-puts c = λ file is.
    let same : c.index_mut-file.result.now ≡ file = c.index_mut-file.ensures.value ∙ get_or_from_slice_get c.args.files.now.items c.args.place file c.index_mut-file.result.now is in
    (_, puts_set _ _ _ c.requires, ap (λ (f : File). f.state) same, rw same at c.extend_from_slice.ensures.items)
