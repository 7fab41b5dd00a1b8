use Rattle.std.proofs.Common.{sym, ap, ◌∙◌, subst, arith}
use Rattle.std.proofs.lemmas.Bool.Decides.{Decides-at}
use Rattle.path_count.specs.Object.{all_have_room}
use Rattle.path_count.specs.Steps.{steps_of}
use Rattle.path_count.specs.Stands.{StandsFor}
use Rattle.path_count.proofs.Fields.{Read, starts_within_read, decides_read}
use Rattle.path_count.proofs.counters.Counters.can_start.Goals as goal

pub all_admit-requires : goal.all_admit-requires
all_admit-requires c = rw (c.deref.ensures.value, c.deref-then-at-len.ensures.value)
    (starts_within_read c.self.inside c.args.op c.index.result.now c.self.invariant (record { inside = omega arith; is = c.index.ensures }))

pub returns-then-at-len : goal.returns-then-at-len
returns-then-at-len c = λ n paths t h.
    let r : Read c.self.inside c.args.op c.index.result.now = record { inside = omega arith; is = c.index.ensures } in
    let d = decides_read c.self.inside c.args.op c.index.result.now n paths t (subst (λ s. StandsFor s n paths t) (sym c.self.view_is) h) r in
    let e = c.all_admit.ensures ∙ ap (λ x. all_have_room (steps_of x) c.deref-then-at-len.result.now) c.deref.ensures.value
    ∙ ap (λ w. all_have_room (steps_of c.index.result.now.starts.items) w) c.deref-then-at-len.ensures.value in
    Decides-at c.all_admit.result (all_have_room (steps_of c.index.result.now.starts.items) c.self.inside.words.items) e d
