use Rattle.std.proofs.Common.{List, ap, ◌∙◌}
use Rattle.word_core.specs.declared.word.Word.{Word}
use Rattle.word_core.specs.View.{words_of}
use Rattle.world_core.specs.Asked.{asked_of}
use Rattle.world_core.proofs.Asking.{read_of}
use Rattle.world_core.proofs.question.question_of.Goals as goal

pub returns-in-Some : goal.returns-in-Some
returns-in-Some c =
    let are = rw c.in-Some.is at c.in_ok-words.ensures in
    read_of c.args.line.now (words_of c.in-Some.words.items) c.asked_in-question.result are (c.asked_in-question.ensures ∙ ap (λ (words : List Word). asked_of (words_of words)) c.deref.ensures.value)
