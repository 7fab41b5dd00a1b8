use Rattle.std.proofs.Common.{List, ℕ, ◌++◌, length, take, drop, refl, ap, ◌∙◌}
use Rattle.page_core.specs.Bytes.{written_over}
use Rattle.page_core.proofs.file_bytes.FileBytes.as_mut_slice.Goals as goal

pub returns : goal.returns
returns c = (
  (refl, λ w. ap (λ k. take k (w ++ drop (length w) c.self.inside.bytes.items)) c.self.inside.bytes.ok.0 ∙ ap (λ (bytes : List ℕ). written_over bytes w) c.self.view_is),
  record { after = tt; before = c.deref_mut.ensures.value ∙ c.self.view_is },
)
