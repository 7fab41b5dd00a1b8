use Rattle.std.proofs.Common.{◌≡◌, length, sym, ◌∙◌, arith}
use Rattle.keep_loop.proofs.Heads.{no_word_none, no_word_feed, no_word_empty, word_is}
use Rattle.keep_loop.proofs.head.word_of.Goals as goal

pub returns-in-None : goal.returns-in-None
returns-in-None c word rest are some is = no_word_none c.args.text.now word rest c.in-None.ensures is

pub returns-in-Some-split_line : goal.returns-in-Some-split_line
returns-in-Some-split_line c word rest are some is =
    no_word_feed c.args.text.now c.in-Some.word.now c.in-Some.rest.now _ _ word rest c.in-Some.ensures.0 c.in-Some.ensures.1 c.in-Some-split_line.ensures.1 are is

pub returns-then-is_empty : goal.returns-then-is_empty
returns-then-is_empty c word rest are some is =
    no_word_empty c.args.text.now c.in-Some.word.now c.in-Some.rest.now word rest c.in-Some.ensures.0 c.in-Some.ensures.1 (let h = c.is_empty.ensures in let e = c.if-is_empty.true in grind arith) are some is

pub returns-else-is_empty : goal.returns-else-is_empty
returns-else-is_empty c =
    let w = word_is c.in-Some.word.now c.in-Some.rest.now c.in-Some.ensures.0 c.in-None-split_line.ensures (let h = c.is_empty.ensures in let e = c.if-is_empty.false in grind arith) in
    (w.0, w.1, c.in-Some.ensures.1)
