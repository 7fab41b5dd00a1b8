use Rattle.std.proofs.Common.{◌≡◌, ◌++◌, sym, ap, ◌∙◌}
use Rattle.decl_core.specs.ObjectMap.{object_of}
use Rattle.word_core.specs.Words.{line_of}
use Rattle.decl_core.specs.HoldMap.{holds_of}
use Rattle.front_read.specs.HeldLines.{held_with}
use Rattle.recover_core.proofs.Reading.{same_line, words_in}
use Rattle.recover_core.proofs.read.take_so.Goals as goal

pub returns : goal.returns
returns c =
    let o = object_of c.args.object.now in
    let holds = holds_of c.args.holds.now in
    let h = held_with c.args.so c.args.values.now in
    let own = c.push_held_so.new.out.items in
    let is : own ≡ line_of (words_in o holds h) = c.in_ok-push_held_so.ensures ∙ ap (λ xs. xs ++ line_of (words_in o holds h)) c.new-own.ensures.items in
    (same_line o holds own c.args.line.now h is (sym c.deref.ensures.value ∙ c.is_line.ensures.0 c.if-not-is_line.false), c.in_ok-add.ensures.ok)
