use Rattle.std.proofs.Common.{◌≡◌, ◌∙◌, ℕ, List, [], ◌∷◌, ap, ap₂, codes, rules, sym}
use Rattle.clap.specs.Matches.{found_of}
use Rattle.command_line.proofs.Found.{flag_is, has_one, has_text, text_is}
use Rattle.command_line.proofs.matched.served.Goals as goal

pub word_of-requires : goal.word_of-requires
word_of-requires c = (c.requires.1.0, has_text (found_of c.args.serve.now) (codes "FILE") c.requires.1.0 c.requires.1.5)

pub word_of-requires-2 : goal.word_of-requires-2
word_of-requires-2 c = (c.requires.1.1, has_text (found_of c.args.serve.now) (codes "DIR") c.requires.1.1 c.requires.1.6)

pub returns : goal.returns
returns c = λ g h word read is.
    let f = found_of c.args.serve.now in
    let same : c.from.result ≡ c.sessions_in.result = search rules in (
      word,
      h.4 ∙ ap₂ (λ (t u : List ℕ). t ∷ u ∷ h.2 ∷ []) (text_is f (codes "FILE") h.0 _ h.5 c.word_of.ensures) (text_is f (codes "DIR") h.1 _ h.6 c.word_of-2.ensures)
          ∙ ap (λ (p : List ℕ). c.word_of.result.now ∷ c.word_of-2.result.now ∷ p ∷ []) (text_is f (codes "PLACE") h.2 word h.7 read),
      is,
      same ∙ c.sessions_in.ensures h.3 (has_one f (codes "sessions") h.3 h.8) ∙ sym h.10,
      flag_is f (codes "stop-with-input") g.stops c.get_flag.result h.11 c.get_flag.ensures.value c.get_flag.ensures.other,
      c.explain_in.ensures g h.12,
    )
