use Rattle.std.proofs.Common.{◌≡◌, ◌<◌, ◌==◌, ℕ, ◌+◌, ◌≤◌, ◌/◌, ◌^◌, false, List, sym, ap, ◌∙◌, subst, get_or}
use Rattle.std.specs.Int.{bit_at}
use Rattle.std.proofs.lemmas.Nat.Bits.{bit_at_above}
use Rattle.apply_core.specs.Pages.{page_of}
use Rattle.known_core.specs.Masks.{known_by}
use Rattle.known_core.proofs.pages.Pages.has.Goals as goal

no_bit : (masks : List ℕ) (p i n : ℕ) → n ≡ get_or masks p 0 → n < 2 ^ 16 → 16 ≤ (i + 1) / 256 → false ≡ known_by masks p i
no_bit masks p i n is small far = sym (ap (λ b. b == 1) (ap (λ m. bit_at m (page_of i)) (sym is) ∙ bit_at_above n 16 (page_of i) small far))

pub returns-then-page-ge16 : goal.returns-then-page-ge16
returns-then-page-ge16 c = no_bit c.args.self.now c.args.part c.args.index c.mask-mask.result (c.mask-mask.ensures ∙ ap (λ k. get_or c.args.self.now k 0) c.place.ensures.place) c.mask-mask.type_inv (subst (λ n. 16 ≤ n) c.page_of-page.ensures c.if-page-ge16.true)
