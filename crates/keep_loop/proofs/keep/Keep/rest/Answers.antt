use Rattle.std.proofs.Common.{◌<◌, ◌≤◌, ◌++◌, ◌∷◌, [], length, subst}
use Rattle.std.proofs.lemmas.List.{append-nil}
use Rattle.keep_loop.specs.Cuts.{most_line}
use Rattle.keep_loop.specs.Seen.Happened.{Came}
use Rattle.keep_loop.specs.Stands.{Stands}
use Rattle.keep_loop.proofs.Stood.{stands_hold, stands_long}
use Rattle.keep_loop.proofs.keep.Keep.rest.Goals as goal

pub returns-then-is_too_long : goal.returns-then-is_too_long
returns-then-is_too_long g c = record {
  stands = λ first limits seen done ended s.
      let e = c.in_ok-answer_last.ensures in
      subst (λ l. Stands g.O.Served.gives first limits (Came c.args.who (done ++ l) ∷ seen) c.answer_last.new.self) (append-nil c.args.rest.now)
      (stands_long g.O.Served.gives first limits seen c.args.self.now c.answer_last.new.self c.args.who done c.args.rest.now [] c.requires.hears ended c.requires.clear
      (subst (λ l. most_line < length (l ++ c.args.rest.now)) c.held.ensures (c.is_too_long.ensures.yes c.if-is_too_long.true)) e.base e.limits e.count e.held e.does e.deaf s);
}

pub returns : goal.returns
returns g c = record {
  stands = λ first limits seen done ended s.
      let e = c.in_ok-hold.ensures in
      stands_hold g.O.Served.gives first limits seen c.args.self.now c.hold.new.self c.args.who done c.args.rest.now c.requires.hears ended c.requires.clear
      (subst (λ l. length (l ++ c.args.rest.now) ≤ most_line) c.held.ensures (c.is_too_long.ensures.no c.if-is_too_long.false)) e.object e.post e.base e.limits e.count e.held s;
}
