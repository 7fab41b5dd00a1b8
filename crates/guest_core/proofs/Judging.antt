-- What a key says of a call.
use Rattle.std.proofs.Common.{◌≡◌, ◌-◌, ◌<◌, ℕ, inl, inr, sym, ap, ◌∙◌, arith}
use Rattle.std.specs.Prelude.{slice_get}
use Rattle.guest_core.specs.declared.kept.Asked.{Asked}
use Rattle.guest_core.specs.declared.kept.RememberedCall.{RememberedCall}
use Rattle.guest_core.specs.declared.keys.Judged.{Judged}
use Rattle.guest_core.specs.declared.keys.Judged.TheVariants.{New, Waits, Repeat, KeyReused, BadKey}
use Rattle.guest_core.specs.Keys.{Keys, HasKey, Judges, JudgesNext, JudgesKept}
use Rattle.guest_core.proofs.Items.{one_item}

pub next_judged : (w : Keys) (key : ℕ) (a : Asked) (answer : Judged) → key ≡ w.next → JudgesNext w.asked a answer → Judges w key a answer
next_judged w key a New same h = (same, h)
next_judged w key a Waits same h = (same, h)
next_judged w key a (Repeat k) same h = absurd h
next_judged w key a KeyReused same h = inr (record { call = h.0; waits = h.1; key_is = same; other = h.2 })
next_judged w key a BadKey same h = absurd h

pub kept_judged : (w : Keys) (key place : ℕ) (a : Asked) (answer : Judged) → key < w.next → place ≡ w.next - 1 - key → JudgesKept w.kept place a answer → Judges w key a answer
kept_judged w key place a New below is h = absurd h
kept_judged w key place a Waits below is h = absurd h
kept_judged w key place a (Repeat k) below is h =
    (h.0, record { there = ap (slice_get w.kept) h.1 ∙ h.2; key_is = omega (arith, below, is, h.1) }, h.3)
kept_judged w key place a KeyReused below is h =
    inl (record { place = place; call = h.0; has = record { there = h.1; key_is = omega (arith, below, is) }; other = h.2 })
kept_judged w key place a BadKey below is h = inr (omega (arith, below, is, h))

-- a key is that of one call
pub key_once : (w : Keys) (key j k : ℕ) (c d : RememberedCall) → HasKey w key j c → HasKey w key k d → (j ≡ k) × (c ≡ d)
key_once w key j k c d first second =
    let same : j ≡ k = omega (arith, first.key_is, second.key_is) in
    (same, one_item w.kept k c d (ap (slice_get w.kept) (sym same) ∙ first.there) second.there)
