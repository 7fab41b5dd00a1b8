use Rattle.std.proofs.Common.{◌≡◌, ℕ, Some, length, sym, ap, ◌∙◌, subst, arith, get_or, inl, inr}
use Rattle.std.proofs.lemmas.Bool.{cases_eq}
use Rattle.std.proofs.lemmas.List.{length-set}
use Rattle.std.proofs.lemmas.Option.{slice_get-get_or, slice_get_within}
use Rattle.std.specs.Global.{Vec}
use Rattle.std.specs.Prelude.{drop, slice_get, slice_set}
use Rattle.device_core.specs.declared.reads.KeptRead.{KeptRead}
use Rattle.device_core.specs.Reads.{IsAmong}
use Rattle.device_core.proofs.Among.{set_here, set_there, among_set, among_front}
use Rattle.device_core.proofs.reads.Reads.forget.Goals as goal

pub loop-kept-preserved : goal.loop-kept-preserved
loop-kept-preserved c =
    let now = c.loop-kept.kept-items in
    let i = c.loop-kept.kept-index in
    let old = get_or now i c.kept-item.result in
    let new = c.forget.new.self in
    let at : slice_get now i ≡ Some old = slice_get-get_or now i c.kept-item.result (omega arith) in
    record {
      many = simp length-set c.loop-kept.invariant.many;
      from = λ s k b is. elim (among_set now i new s k b is) [
        | inl here ↦ c.loop-kept.invariant.from s k b (record { place = i; kept = old; there = at; of = c.forget.ensures.same s k here.0; same = ap (λ (v : Vec ℕ). v.items) (sym c.forget.ensures.bytes) ∙ here.1 })
        | inr was ↦ c.loop-kept.invariant.from s k b was
      ];
      gone = λ p x s k less there of. elim (cases_eq p i) [
        | inl here ↦
            let same : x ≡ new = set_here now i new x (subst (λ q. slice_get (slice_set now i new) q ≡ Some x) here there) in
            c.forget.ensures.gone s k (subst (λ (r : KeptRead). r.of ≡ Some (s, k)) same of)
        | inr other ↦ c.loop-kept.invariant.gone p x s k (omega (arith, less, other)) (sym (set_there now i p new other) ∙ there) of
      ];
    }

pub returns : goal.returns
returns c = λ s k b is.
    let now = c.loop-kept.kept-items in
    let items = c.args.self.now.reads.items in
    let among : IsAmong now s k b = among_front c.args.self.now.reads.len now (drop (length now) items) s k b (omega (arith, c.loop-kept.invariant.many, c.deref_mut-kept-items.ensures.len)) is in (
      subst (λ xs. IsAmong xs s k b) c.deref_mut-kept-items.ensures.value (c.loop-kept.invariant.from s k b among),
      λ same. c.loop-kept.invariant.gone among.place among.kept s k (omega (arith, slice_get_within now among.place among.kept among.there)) among.there among.of same,
    )
