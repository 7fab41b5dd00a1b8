use Rattle.std.proofs.Common.{◌∙◌, ℕ, List, [], ◌∷◌, ap, codes}
use Rattle.clap.specs.Matches.{found_of}
use Rattle.command_line.proofs.Found.{flag_is, has_text, text_is}
use Rattle.command_line.proofs.matched.check_request.Goals as goal

pub word_of-requires : goal.word_of-requires
word_of-requires c = (c.requires.1.0, has_text (found_of c.args.check.now) (codes "FILE") c.requires.1.0 c.requires.1.2)

pub returns : goal.returns
returns c = λ g h.
    let f = found_of c.args.check.now in (
      h.1 ∙ ap (λ (t : List ℕ). t ∷ []) (text_is f (codes "FILE") h.0 _ h.2 c.word_of.ensures),
      c.explain_in.ensures g h.4,
      flag_is f (codes "stuck") g.stuck c.get_flag.result h.3 c.get_flag.ensures.value c.get_flag.ensures.other,
    )
