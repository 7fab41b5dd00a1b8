-- The laws of evaluations over what is known.
use Rattle.std.proofs.Common.{◌≡◌, refl, sym, ap, subst, List}
use Rattle.std.specs.Prelude.{Option, Ok, Err}
use Rattle.value_core.specs.declared.datum.Datum.{Datum}
use Rattle.value_core.specs.Contents.{Contents}
use Rattle.decl_core.specs.Meaning.{Answer, Changed, done, reply_before, ending, after_all}
use Rattle.known_core.specs.Known.{Known}
use Rattle.known_core.specs.Partly.{Halt, word, needs, Partly, all_known}
use Rattle.known_core.specs.Laws.{OneAnswer, OneCourse, OneMeaning, SameEnd, Says, Means}
use Rattle.known_core.proofs.Agreeing.{all_same}
use Rattle.known_core.proofs.Keeping.{KeepsBy, all_keeps}
use Rattle.known_core.proofs.Telling.{Tells, all_tells}

pub one_course : OneCourse
one_course known body args seen whole agree = all_same known args body.statements (record { parts = seen; reply = reply_before body.result }) (record { parts = whole; reply = reply_before body.result }) refl agree

halted : (known : Known) (whole : List Contents) (h k : Halt) (m : Answer Changed) → h ≡ k → Tells {A = Changed} known whole (Err k) m → Says known (Err h) whole (ending whole m)
halted known whole h (word w) m is tells = subst (λ (x : Halt). Says known (Err x) whole (ending whole m)) (sym is) (ap (ending whole) tells)
halted known whole h (needs p i) m is tells = subst (λ (x : Halt). Says known (Err x) whole (ending whole m)) (sym is) tells

ended : (known : Known) (whole : List Contents) (r s : Partly Changed) (m : Answer Changed) → SameEnd known r s → Tells known whole s m → KeepsBy known whole s → Says known r whole (ending whole m)
ended known whole (Ok left) (Ok other) m same tells keeps =
    subst (λ n. Says known (Ok left) whole (ending whole n)) (sym tells) (record { reply = ap (λ (r : Option Datum). done r) (sym same.0); agrees = same.1; keeps = keeps })
ended known whole (Ok left) (Err k) m same tells keeps = absurd same
ended known whole (Err h) (Ok other) m same tells keeps = absurd same
ended known whole (Err h) (Err k) m same tells keeps = halted known whole h k m same tells

pub one_answer : OneAnswer
one_answer known body args seen whole agree =
    let before : Changed = record { parts = whole; reply = reply_before body.result } in
    ended known whole (all_known known args body.statements (record { parts = seen; reply = reply_before body.result })) (all_known known args body.statements before) (after_all args body.statements before)
    (one_course known body args seen whole agree) (all_tells known args body.statements before) (all_keeps known args body.statements before)

means : (known : Known) (parts : List Contents) (r : Partly Changed) (m : Answer Changed) → Tells {A = Changed} known parts r m → Means known r parts (ending parts m)
means known parts (Ok left) m tells = ap (ending parts) tells
means known parts (Err (word w)) m tells = ap (ending parts) tells
means known parts (Err (needs p i)) m tells = tells

pub one_meaning : OneMeaning
one_meaning known body args parts =
    let before : Changed = record { parts = parts; reply = reply_before body.result } in
    means known parts (all_known known args body.statements before) (after_all args body.statements before) (all_tells known args body.statements before)
