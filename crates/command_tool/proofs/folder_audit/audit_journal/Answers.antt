use Rattle.std.proofs.Common.{◌≡◌, ◌++◌, ◌∙◌, ap, inl, inr, refl, subst, List, [], ℕ}
use Rattle.std.specs.Prelude.{Bool, true}
use Rattle.decl_core.specs.ObjectMap.{object_of}
use Rattle.recover_core.specs.Said.{epoch_words, whole_words}
use Rattle.recover_core.specs.declared.epochs.EpochFault.TheVariants as faults
use Rattle.command_tool.specs.Said.{Hears}
use Rattle.command_tool.proofs.Telling.{further}
use Rattle.command_tool.proofs.folder_audit.audit_journal.Goals as goal

pub returns-in-Err : goal.returns-in-Err
returns-in-Err g c =
    let fault = faults.Front c.line_in_file.result in
    let words = epoch_words c.as_bytes.result.now fault in
    let same : c.taken.new.said.lines.items ≡ c.args.said.now.lines.items = rw c.in-Some.is at c.in_ok-text.ensures in
    (words, inr (inl (c.as_bytes.result.now, fault, refl)), c.in_ok-push_fault-in-Err.ensures ∙ ap (λ (ls : List ℕ). ls ++ words) same)

pub returns : goal.returns
returns g c =
    let o = object_of c.args.object.now in
    let was = c.taken.new.said.lines.items in
    let same : was ≡ c.args.said.now.lines.items = rw c.in-Some.is at c.in_ok-text.ensures in
    let mid = c.hear_ended.new.said.lines.items in
    let ended : Hears o c.new-epochs.result was true c.hear_ended.new.epochs mid =
    subst (λ (w : Bool). Hears o c.new-epochs.result was w c.hear_ended.new.epochs mid) c.if-not-branch.false c.in_ok-hear_ended.ensures in
    let last : Hears o c.hear_ended.new.epochs mid true c.hear.new.epochs c.hear.new.said.lines.items =
    subst (λ (w : Bool). Hears o c.hear_ended.new.epochs mid w c.hear.new.epochs c.hear.new.said.lines.items) c.if-not-branch-2.false c.in_ok-hear.ensures in
    let texts = further o c.new-epochs.result c.hear_ended.new.epochs c.hear.new.epochs ended.0 last.0 [] (c.new-epochs.ensures c.args.object.now) in
    let words = whole_words c.hear.new.epochs.count c.hear.new.epochs.entries in
    (words, (texts.0, c.hear.new.epochs, texts.1, refl), c.in_ok-push_whole.ensures ∙ ap (λ (ls : List ℕ). ls ++ words) (last.1 ∙ ended.1 ∙ same))
