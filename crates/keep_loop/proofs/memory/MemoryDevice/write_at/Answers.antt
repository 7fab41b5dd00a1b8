use Rattle.std.proofs.Common.{ℕ, List, refl, sym, ◌∙◌, ap, subst}
use Rattle.keep_loop.specs.Device.{IsTorn, with_bytes}
use Rattle.keep_loop.proofs.Lines.{torn_old, torn_new, length-with_bytes}
use Rattle.keep_loop.proofs.Replaced.{elapses_to}
use Rattle.keep_loop.proofs.memory.MemoryDevice.write_at.Goals as goal

pub returns-clause-time : goal.returns-clause-time
returns-clause-time c =
    let past = c.in_ok-put_in_place.ensures.past in
    elapses_to c.args.self.now.past.items c.put_in_place.new.past.items past.0 c.args.self.now.bytes.items c.put_in_place.new.bytes.items past.1 past.2

pub returns-in_err-next-clause-crash : goal.returns-in_err-next-clause-crash
returns-in_err-next-clause-crash c file is =
    let old = c.args.self.now.bytes.items in
    let new = with_bytes c.args.at c.args.bytes.now old in
    (old, refl, subst (IsTorn old new) (sym is) (torn_old old new (length-with_bytes c.args.at c.args.bytes.now old (c.requires old refl))))

pub returns-in_err-put_in_place-clause-crash : goal.returns-in_err-put_in_place-clause-crash
returns-in_err-put_in_place-clause-crash c file is =
    let old = c.args.self.now.bytes.items in
    let new = with_bytes c.args.at c.args.bytes.now old in
    (old, refl, subst (IsTorn old new) (sym (is ∙ c.in_err-put_in_place.ensures.err)) (torn_old old new (length-with_bytes c.args.at c.args.bytes.now old (c.requires old refl))))

pub returns-clause-crash : goal.returns-clause-crash
returns-clause-crash c file is =
    let old = c.args.self.now.bytes.items in
    let new = with_bytes c.args.at c.args.bytes.now old in
    let next = c.in_ok-put_in_place.ensures.ok ∙ c.in_ok-next.ensures ∙ ap (λ (l : List ℕ). with_bytes c.args.at c.args.bytes.now l) c.deref.ensures.value in
    (old, refl, subst (IsTorn old new) (sym (is ∙ next)) (torn_new old new (length-with_bytes c.args.at c.args.bytes.now old (c.requires old refl))))
