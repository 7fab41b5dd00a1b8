use Rattle.std.proofs.Common.{sym, ◌∙◌, inl, inr}
use Rattle.device_core.proofs.Among.{among_set}
use Rattle.device_core.proofs.reads.Reads.keep.Goals as goal

pub returns : goal.returns
returns c = λ s k b is. elim (among_set c.args.self.now.reads.items c.args.self.now.oldest c.put.new.self s k b is) [
  | inl here ↦ let told = c.put.ensures.of s k here.0 in inr (told.0, told.1, sym here.1 ∙ told.2)
  | inr was ↦ inl was
]
