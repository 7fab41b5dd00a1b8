use Rattle.std.proofs.Common.{rules, ◌≡◌, ◌++◌, ◌==◌, false, take, subst, sym, ◌∙◌, arith}
use Rattle.std.proofs.lemmas.List.{with_items_is}
use Rattle.std.proofs.lemmas.List.Elements.{All-append}
use Rattle.value_core.specs.Runs.{NoLineFeed}
use Rattle.check_core.proofs.Heads.{taken_more, clear_end, not_clear}
use Rattle.check_core.proofs.head.read_head.Goals as goal

pub returns-then-not-has_no_line_feed-clause-enough :
    goal.returns-then-not-has_no_line_feed-clause-enough
returns-then-not-has_no_line_feed-clause-enough g c = λ clear short.
    let grown = c.in_ok-extend_from_slice.ensures.items in
    absurd (not_clear c.has_no_line_feed.result (take c.in-Ok.len c.deref.result.now) c.has_no_line_feed.ensures c.if-not-has_no_line_feed.true
    (clear_end c.loop-turn.head.items (take c.in-Ok.len c.deref.result.now) (subst NoLineFeed grown clear)))

pub loop-turn-preserved : goal.loop-turn-preserved
loop-turn-preserved g c =
    let now = c.loop-turn.invariant in
    let same : c.deref.result.now ≡ c.read.new.buf = c.deref.ensures.value ∙ with_items_is c.loop-turn.piece c.read.new.buf (omega arith) in
    let grown = c.in_ok-extend_from_slice.ensures.items in
    record {
      size = now.size;
      taken = taken_more (g.R.Read.remaining c.args.reader.now) (g.R.Read.remaining c.loop-turn.reader) (g.R.Read.remaining c.read.new.self) c.loop-turn.head.items (take c.in-Ok.len c.read.new.buf) c.extend_from_slice.new.self.items
          now.taken c.in-Ok.ensures.bytes.0 (subst (λ b. c.extend_from_slice.new.self.items ≡ c.loop-turn.head.items ++ take c.in-Ok.len b) same grown);
      clear = subst NoLineFeed (sym grown) (All-append (λ b. (b == 10) ≡ false) c.loop-turn.head.items (take c.in-Ok.len c.deref.result.now) now.clear
          (c.has_no_line_feed.ensures.0 c.if-not-has_no_line_feed.false));
      short = search rules;
    }
