use Rattle.std.proofs.Common.{◌<◌, ◌≤◌, ◌++◌, ◌∷◌, [], length, subst}
use Rattle.keep_loop.specs.Cuts.{most_line}
use Rattle.keep_loop.proofs.Stood.{stands_line, stands_long}
use Rattle.keep_loop.proofs.keep.Keep.line.Goals as goal

pub returns-then-is_too_long-clause-stands : goal.returns-then-is_too_long-clause-stands
returns-then-is_too_long-clause-stands g c = λ first limits seen done ended s.
    let e = c.in_ok-answer_last.ensures in
    stands_long g.O.Served.gives first limits seen c.args.self.now c.answer_last.new.self c.args.who done c.args.front.now (10 ∷ []) c.requires.hears ended c.requires.clear
    (subst (λ l. most_line < length (l ++ c.args.front.now)) c.held.ensures (c.is_too_long.ensures.yes c.if-is_too_long.true)) e.base e.limits e.count e.held e.does e.deaf s

pub returns-clause-stands : goal.returns-clause-stands
returns-clause-stands g c = λ first limits seen done ended s.
    let e = c.in_ok-answer.ensures in
    stands_line g.O.Served.gives first limits seen c.args.self.now c.answer.new.self c.args.who done c.args.front.now c.requires.hears ended c.requires.clear
    (subst (λ l. length (l ++ c.args.front.now) ≤ most_line) c.held.ensures (c.is_too_long.ensures.no c.if-is_too_long.false)) e.base e.limits e.count e.held e.does s
