use Rattle.std.proofs.Common.{◌∙◌, ℕ, List, [], ◌∷◌, ap₂, codes}
use Rattle.clap.specs.Matches.{found_of}
use Rattle.command_line.proofs.Found.{has_text, text_is}
use Rattle.command_line.proofs.matched.run_request.Goals as goal

pub word_of-requires : goal.word_of-requires
word_of-requires c = (c.requires.1.0, has_text (found_of c.args.run.now) (codes "FILE") c.requires.1.0 c.requires.1.3)

pub word_of-requires-2 : goal.word_of-requires-2
word_of-requires-2 c = (c.requires.1.1, has_text (found_of c.args.run.now) (codes "SCRIPT") c.requires.1.1 c.requires.1.4)

pub returns : goal.returns
returns c = λ g h.
    let f = found_of c.args.run.now in (
      h.2 ∙ ap₂ (λ (t u : List ℕ). t ∷ u ∷ []) (text_is f (codes "FILE") h.0 _ h.3 c.word_of.ensures) (text_is f (codes "SCRIPT") h.1 _ h.4 c.word_of-2.ensures),
      c.explain_in.ensures g h.5,
    )
