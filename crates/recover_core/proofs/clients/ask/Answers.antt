use Rattle.std.proofs.Common.{inl, inr}
use Rattle.recover_core.proofs.Coming.{refused_none}
use Rattle.recover_core.proofs.clients.ask.Goals as goal

pub returns-in-Ok-clause-yes : goal.returns-in-Ok-clause-yes
returns-in-Ok-clause-yes c = λ yes. record { named = c.in-Ok.ensures.named; nameless = λ none. (c.in-Ok.ensures.nameless none).1 }

pub returns-in-Err-SessionBusy-clause-no : goal.returns-in-Err-SessionBusy-clause-no
returns-in-Err-SessionBusy-clause-no c = λ _.
    let e = rw c.in-Err-SessionBusy.field-0-is at c.in-Err-SessionBusy.ensures in
    record { has_name = λ none. refused_none (e.nameless none).0; held_up = λ p g by. inl (e.named p g by).1.0 }

pub returns-in-Err-KeysSpent-clause-no : goal.returns-in-Err-KeysSpent-clause-no
returns-in-Err-KeysSpent-clause-no c = λ _.
    let e = rw c.in-Err-KeysSpent.field-0-is at c.in-Err-KeysSpent.ensures in
    record { has_name = λ none. refused_none (e.nameless none).0; held_up = λ p g by. inr (e.named p g by).1.1 }
