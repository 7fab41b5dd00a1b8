use Rattle.std.proofs.Common.{◌≡◌, ◌∙◌, codes, subst, sym}
use Rattle.clap.specs.Matches.{found_of}
use Rattle.clap.specs.Walk.{first_of, rows_of}
use Rattle.clap.proofs.WalkLemmas.{first_value-rows}
use Rattle.command_line.specs.Forms.{AreTried}
use Rattle.command_line.proofs.Found.{has_text, text_is}
use Rattle.command_line.proofs.matched.try_request.Goals as goal

pub word_of-requires : goal.word_of-requires
word_of-requires c = (c.requires.1.0, has_text (found_of c.args.tried.now) (codes "FILE") c.requires.1.0 c.requires.1.1)

pub returns : goal.returns
returns c = λ g h.
    let f = found_of c.args.tried.now in
    let file : h.0 ≡ c.word_of.result.now = text_is f (codes "FILE") h.0 c.word_of.result.now h.1 c.word_of.ensures in (
      subst (AreTried g.words c.word_of.result.now) (sym (c.get_str.ensures ∙ first_value-rows f (codes "NAME")))
          (subst (λ w. AreTried g.words w (first_of (codes "NAME") (rows_of f))) file h.2),
      c.explain_in.ensures g h.3,
    )
