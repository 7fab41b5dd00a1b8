use Rattle.std.proofs.Common.{◌≡◌, ◌∙◌, ℕ, List, [], ◌∷◌, ap, ap₂, codes, rules, sym}
use Rattle.clap.specs.Matches.{found_of}
use Rattle.command_line.proofs.Found.{flag_is, has_one, has_text, text_is}
use Rattle.command_line.proofs.matched.kept.Goals as goal

pub word_of-requires : goal.word_of-requires
word_of-requires c = (c.requires.1.0, has_text (found_of c.args.keep.now) (codes "FILE") c.requires.1.0 c.requires.1.6)

pub word_of-requires-2 : goal.word_of-requires-2
word_of-requires-2 c = (c.requires.1.1, has_text (found_of c.args.keep.now) (codes "DIR") c.requires.1.1 c.requires.1.7)

pub returns : goal.returns
returns c = λ g h word read is syncs.
    let f = found_of c.args.keep.now in
    let same : c.from.result ≡ c.at_once_in.result = search rules in (
      word,
      h.5 ∙ ap₂ (λ (t u : List ℕ). t ∷ u ∷ h.2 ∷ []) (text_is f (codes "FILE") h.0 _ h.6 c.word_of.ensures) (text_is f (codes "DIR") h.1 _ h.7 c.word_of-2.ensures)
          ∙ ap (λ (p : List ℕ). c.word_of.result.now ∷ c.word_of-2.result.now ∷ p ∷ []) (text_is f (codes "PLACE") h.2 word h.8 read),
      is,
      same ∙ c.at_once_in.ensures h.3 (has_one f (codes "at-once") h.3 h.9) ∙ sym h.11,
      syncs,
      flag_is f (codes "stop-with-input") g.stops c.get_flag.result h.14 c.get_flag.ensures.value c.get_flag.ensures.other,
      c.traces_in.ensures h.15.0 (has_one f (codes "traces") h.15.0 h.15.1) ∙ sym h.15.3,
      c.explain_in.ensures g h.17,
    )
