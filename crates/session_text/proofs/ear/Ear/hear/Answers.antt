use Rattle.std.proofs.Common.{subst}
use Rattle.session_text.specs.Hearing.{Hearing}
use Rattle.session_text.specs.Ears.{Hears}
use Rattle.session_text.proofs.Ears.{heard_next}
use Rattle.session_text.proofs.ear.Ear.hear.Goals as goal

pub returns : goal.returns
returns g c =
    let i = c.self.inside in
    let is = c.in_default.is in
    let heard = heard_next i.lines c.ready-next.new.self i.session.is_open i.opened i.quits c.is_quit-self-inside.result i.end c.end_of-self-inside.result c.ready-next.result c.heard_of-heard.result
    is c.if-self.false c.ready-next.ensures c.heard_of-heard.ensures c.is_quit-self-inside.ensures c.end_of-self-inside.ensures in
    subst (λ (s : Hearing). Hears s c.heard_of-heard.result (record { lines = c.ready-next.new.self; is_open = i.session.is_open; opened = i.opened; quits = c.is_quit-self-inside.result; end = c.end_of-self-inside.result })) c.self.view_is heard
