use Rattle.std.proofs.Common.{◌≡◌, ◌<◌, ℕ, ◌*◌, length, List, slice_index, slice_set, bit_or, ◌^◌, ◌%◌, arith, w16, subst, ap, ◌∙◌}
use Rattle.std.proofs.lemmas.Nat.Bits.{bit_at_set_same, bit_at_set_other}
use Rattle.std.specs.Int.{bit_at}
use Rattle.known_core.specs.Masks.{IsOneMore, unread}
use Rattle.known_core.proofs.Missing.{one_more, unread_falls}
use Rattle.known_core.proofs.pages.Pages.with.Goals as goal

more_in : (old inside : List ℕ) (p k : ℕ) → inside ≡ old → p < length inside → k < 16 → IsOneMore old (slice_set inside p (bit_or (slice_index inside p) (1 * 2 ^ k % 65536))) p k
more_in old inside p k is within few =
    subst (λ (o : List ℕ). IsOneMore o (slice_set inside p (bit_or (slice_index inside p) (1 * 2 ^ k % 65536))) p k) is
    (one_more inside p k (bit_or (slice_index inside p) (1 * 2 ^ k % 65536)) within (bit_at_set_same w16 (slice_index inside p) k few) (λ j other. bit_at_set_other w16 (slice_index inside p) k few j other))

pub returns-clause-more : goal.returns-clause-more
returns-clause-more c = more_in c.args.self c.self.inside.masks c.args.part c.args.page c.self.view_is (omega (arith, c.requires.part, c.self.invariant)) (omega (arith, c.requires.page))

pub returns-clause-falls : goal.returns-clause-falls
returns-clause-falls c =
    let few : c.args.page < 16 = omega (arith, c.requires.page) in
    let within : c.args.part < length c.self.inside.masks = omega (arith, c.requires.part, c.self.invariant) in
    unread_falls c.self.inside.masks c.args.part c.args.page _ within c.requires.page (ap (λ (m : List ℕ). bit_at (slice_index m c.args.part) c.args.page) c.self.view_is ∙ c.requires.new) (bit_at_set_same w16 (slice_index c.self.inside.masks c.args.part) c.args.page few)
    (λ j other. bit_at_set_other w16 (slice_index c.self.inside.masks c.args.part) c.args.page few j other)
    ∙ ap unread c.self.view_is
