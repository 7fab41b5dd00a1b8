use Rattle.std.proofs.Common.{List, ap, ◌∙◌}
use Rattle.word_core.specs.declared.word.Word.{Word}
use Rattle.word_core.specs.View.{words_of}
use Rattle.word_core.specs.Said.{said_of}
use Rattle.word_core.proofs.ScriptReading.{read_of}
use Rattle.word_core.proofs.said.read_line.Goals as goal

pub returns-in_ok-said-in-Some : goal.returns-in_ok-said-in-Some
returns-in_ok-said-in-Some c =
    let are = rw c.in-Some.is at c.in_ok-words.ensures in
    read_of c.args.line.now (words_of c.in-Some.words.items) c.in_ok-said-in-Some.said are (c.in_ok-said-in-Some.ensures ∙ ap (λ (words : List Word). said_of (words_of words)) c.deref.ensures.value)
