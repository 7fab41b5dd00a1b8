use Rattle.std.proofs.Common.{◌∙◌, codes, subst, sym}
use Rattle.clap.specs.Matches.{found_of}
use Rattle.command_line.specs.Forms.{IsAddressOf, IsSyncOf}
use Rattle.command_line.proofs.Found.{has_text, keep_made, text_is}
use Rattle.command_line.proofs.matched.keep_request.Goals as goal

pub word_of-place-requires : goal.word_of-place-requires
word_of-place-requires c = (c.requires.1.2, has_text (found_of c.args.keep.now) (codes "PLACE") c.requires.1.2 c.requires.1.8)

pub word_of-word-requires : goal.word_of-word-requires
word_of-word-requires c = (c.requires.1.4, has_text (found_of c.args.keep.now) (codes "sync") c.requires.1.4 c.requires.1.12)

pub returns-in_default-clause-other : goal.returns-in_default-clause-other
returns-in_default-clause-other c = λ g h q m.
    let made = keep_made g q h.0 h.1 h.2 h.5 m in
    c.address_in.ensures.none c.in_default.is made.0
    (subst (λ w. IsAddressOf w made.0) (text_is (found_of c.args.keep.now) (codes "PLACE") h.2 c.word_of-place.result.now h.8 c.word_of-place.ensures) made.1)

pub returns-in-Some-sync_in-clause-asked : goal.returns-in-Some-sync_in-clause-asked
returns-in-Some-sync_in-clause-asked c = λ g h.
    let read = text_is (found_of c.args.keep.now) (codes "sync") h.4 c.word_of-word.result.now h.12 c.word_of-word.ensures in
    c.kept.ensures g h c.word_of-place.result.now c.word_of-place.ensures c.in-Some.ensures.some (subst (λ w. IsSyncOf w c.in-Some-sync_in.sync) (sym (h.13 ∙ read)) c.in-Some-sync_in.ensures.some)

pub returns-in-None-clause-other : goal.returns-in-None-clause-other
returns-in-None-clause-other c = λ g h q m.
    let made = keep_made g q h.0 h.1 h.2 h.5 m in
    let read = text_is (found_of c.args.keep.now) (codes "sync") h.4 c.word_of-word.result.now h.12 c.word_of-word.ensures in
    c.sync_in.ensures.none c.in-None.is made.2 (subst (λ w. IsSyncOf w made.2) (h.13 ∙ read) made.3)
