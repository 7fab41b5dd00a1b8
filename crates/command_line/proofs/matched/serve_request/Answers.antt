use Rattle.std.proofs.Common.{codes, subst}
use Rattle.clap.specs.Matches.{found_of}
use Rattle.command_line.specs.Forms.{IsAddressOf}
use Rattle.command_line.proofs.Found.{address_made, has_text, text_is}
use Rattle.command_line.proofs.matched.serve_request.Goals as goal

pub word_of-word-requires : goal.word_of-word-requires
word_of-word-requires c = (c.requires.1.2, has_text (found_of c.args.serve.now) (codes "PLACE") c.requires.1.2 c.requires.1.7)

pub returns-in-Some-clause-asked : goal.returns-in-Some-clause-asked
returns-in-Some-clause-asked c = λ g h. c.served.ensures g h c.word_of-word.result.now c.word_of-word.ensures c.in-Some.ensures.some

pub returns-in-None-clause-other : goal.returns-in-None-clause-other
returns-in-None-clause-other c = λ g h q m.
    let made = address_made g q h.0 h.1 h.2 h.4 m in
    c.address_in.ensures.none c.in-None.is made.0
    (subst (λ w. IsAddressOf w made.0) (text_is (found_of c.args.serve.now) (codes "PLACE") h.2 c.word_of-word.result.now h.7 c.word_of-word.ensures) made.1)
