use Rattle.std.proofs.Common.{subst}
use Rattle.session_text.specs.Hearing.{Hearing}
use Rattle.session_text.specs.Ears.{ReadsOnce}
use Rattle.session_text.proofs.Ears.{read_quiet, read_on}
use Rattle.session_text.proofs.ear.Ear.read.Goals as goal

pub returns-then-self : goal.returns-then-self
returns-then-self g c =
    let i = c.self.inside in
    subst (λ (s : Hearing). ReadsOnce s (record { lines = c.skip.new.self; is_open = i.session.is_open; opened = i.opened; quits = i.quits; end = c.met-self-inside.result })) c.self.view_is
    (read_quiet i.lines c.read-found.new.self c.skip.new.self i.session.is_open i.opened i.quits i.end c.met-self-inside.result c.read-found.result c.if-self.true c.skip.ensures c.read-found.ensures c.met-self-inside.ensures)

pub returns-else-self : goal.returns-else-self
returns-else-self g c =
    let i = c.self.inside in
    subst (λ (s : Hearing). ReadsOnce s (record { lines = c.read-found.new.self; is_open = i.session.is_open; opened = i.opened; quits = i.quits; end = c.met-self-inside.result })) c.self.view_is
    (read_on i.lines c.read-found.new.self i.session.is_open i.opened i.quits i.end c.met-self-inside.result c.read-found.result c.if-self.false c.read-found.ensures c.met-self-inside.ensures)
