-- A page that is not known is one of a part that is read page by page.
use Rattle.std.proofs.Common.{◌≡◌, ◌<◌, inl, inr, ℕ, zero, suc, List, Option, Some, None, slice_get, slice_index, refl, sym, ap, ◌∙◌, arith}
use Rattle.std.specs.Int.{bit_at}
use Rattle.value_core.specs.declared.kind.Elem.TheVariants as elem
use Rattle.value_core.specs.declared.kind.Kind.{Kind}
use Rattle.value_core.specs.declared.kind.Kind.TheVariants as kind
use Rattle.decl_core.specs.Bodies.{body_of}
use Rattle.decl_core.specs.declared.object.Operation.{Operation}
use Rattle.device_core.specs.Device.{Assignment}
use Rattle.known_core.specs.Wanted.{IsWanted}
use Rattle.page_core.proofs.Touching.{read}
use Rattle.page_core.specs.CallPins.{Call}
use Rattle.run_core.specs.Seen.{IsPaged, IsSeen}

-- what is not otherwise than an array of integers that is read is one
kind_wanted : (operation : Operation) (p : ℕ) (held : Option (Option Kind)) → slice_get operation.kinds.items p ≡ held → ((IsWanted operation p → ⊥) → ⊥) → IsWanted operation p
kind_wanted operation p (Some (Some (kind.Array n elem.Integer))) is h = record { many = n; named = record { named = read (body_of operation).statements p (λ none. h (λ w. none w.named.named)); held = is } }
kind_wanted operation p (Some (Some (kind.Array n elem.Text))) is h = absurd (h (λ w. let e : Some (Some (kind.Array n elem.Text)) ≡ Some (Some (kind.Array w.many elem.Integer)) = sym is ∙ w.named.held in absurd cc))
kind_wanted operation p (Some (Some (kind.Queue x))) is h = absurd (h (λ w. let e : Some (Some (kind.Queue x)) ≡ Some (Some (kind.Array w.many elem.Integer)) = sym is ∙ w.named.held in absurd cc))
kind_wanted operation p (Some (Some (kind.Table x))) is h = absurd (h (λ w. let e : Some (Some (kind.Table x)) ≡ Some (Some (kind.Array w.many elem.Integer)) = sym is ∙ w.named.held in absurd cc))
kind_wanted operation p (Some None) is h = absurd (h (λ w. let e : Some None ≡ Some (Some (kind.Array w.many elem.Integer)) = sym is ∙ w.named.held in absurd cc))
kind_wanted operation p None is h = absurd (h (λ w. let e : None ≡ Some (Some (kind.Array w.many elem.Integer)) = sym is ∙ w.named.held in absurd cc))

-- no bit of a full mask is clear
all_set : (k : ℕ) → k < 8 → bit_at 255 k ≡ 1
all_set zero low = refl
all_set (suc zero) low = refl
all_set (suc (suc zero)) low = refl
all_set (suc (suc (suc zero))) low = refl
all_set (suc (suc (suc (suc zero)))) low = refl
all_set (suc (suc (suc (suc (suc zero))))) low = refl
all_set (suc (suc (suc (suc (suc (suc zero)))))) low = refl
all_set (suc (suc (suc (suc (suc (suc (suc zero))))))) low = refl
all_set (suc (suc (suc (suc (suc (suc (suc (suc k)))))))) low = absurd (omega (arith, low))

not_both : (bit : ℕ) → bit ≡ 1 → bit ≡ 0 → ⊥
not_both bit one none = omega (arith, one, none)

pub paged_there : (a : Assignment) (call : Call) (masks : List ℕ) (read : List (List ℕ)) (p k : ℕ) → p < 16 → k < 8 → bit_at (slice_index masks p) k ≡ 0 → IsSeen a call masks read → IsPaged call p
paged_there a call masks read p k low short clear seen =
    let bit = bit_at (slice_index masks p) k in
    let wanted = kind_wanted call.operation p (slice_get call.operation.kinds.items p) refl (λ not. not_both bit (ap (λ m. bit_at m k) (seen.rest p low not) ∙ all_set k short) clear) in
    elim (seen.split p wanted) [
      | inl paged ↦ paged
      | inr full ↦ absurd (not_both bit (full k short) clear)
    ]
