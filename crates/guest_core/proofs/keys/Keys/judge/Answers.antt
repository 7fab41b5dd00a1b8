use Rattle.std.proofs.Common.{◌-◌, refl, subst, arith}
use Rattle.guest_core.specs.Keys.{asks, Judges, JudgesKept}
use Rattle.guest_core.specs.KeysView.{keys_of}
use Rattle.guest_core.proofs.Judging.{kept_judged}
use Rattle.guest_core.proofs.keys.Keys.judge.Goals as goal

pub returns : goal.returns
returns c =
    let a = asks c.args.operation c.args.arguments.now in
    let place = c.self.inside.next - 1 - c.args.key in
    subst (λ w. Judges w c.args.key a c.judge_kept.result) c.self.view_is
    (kept_judged (keys_of c.self.inside) c.args.key place a c.judge_kept.result (omega (arith, c.if-key-self.false, c.if-key-self-2.false)) refl
    (subst (λ ks. JudgesKept ks place a c.judge_kept.result) c.deref.ensures.value c.judge_kept.ensures))
