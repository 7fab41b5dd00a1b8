-- The content of strings.
use Rattle.std.proofs.Common.{◌≡◌, ◌≢◌, ℕ, ◌+◌, ◌≤◌, List, [], ◌∷◌, ◌++◌, length, slice_index, refl, sym, ◌∙◌, subst, arith}
use Rattle.std.specs.Prelude.{◌==◌, if◌then◌else◌}
use Rattle.std.proofs.lemmas.Bool.Decides.{nat_tests}
use Rattle.path_tree.specs.Tokens.{IsTextByte, IsContent}

-- how many bytes of the source a byte of the content takes
abbrev pub width : ℕ → ℕ
width b = if b == 39 then 2 else 1

pub width_two : (b : ℕ) → b ≡ 39 → width b ≡ 2
width_two b h = grind (arith, nat_tests)

pub width_one : (b : ℕ) → b ≢ 39 → width b ≡ 1
width_one b h = grind (arith, nat_tests)

pub doubled : (x y : ℕ) → ((x ≡ 39) × (y ≢ 39) → ⊥) → x ≡ 39 → y ≡ 39
doubled x y h is = grind arith

-- one byte more
pub content_more : (source : List ℕ) (from : ℕ) (content : List ℕ) (at b : ℕ) → IsContent source from content at → IsTextByte b → slice_index source at ≡ b → (b ≡ 39 → slice_index source (at + 1) ≡ 39) →
    IsContent source from (content ++ b ∷ []) (at + width b)
content_more source from [] at b h text is twice =
    subst (λ x. IsContent source x (b ∷ []) (at + width b)) (sym h) (text, is, twice, refl)
content_more source from (x ∷ content) at b h text is twice =
    (h.0, h.1, h.2, content_more source (from + width x) content at b h.3 text is twice)

pub content_le : (source : List ℕ) (from : ℕ) (content : List ℕ) (to : ℕ) → IsContent source from content to → from ≤ to
content_le source from [] to h = omega (arith, h)
content_le source from (x ∷ content) to h = omega (arith, content_le source (from + width x) content to h.3)

-- no byte of content stands there
abbrev pub Stops : List ℕ → ℕ → Type 0
Stops source at = IsTextByte (slice_index source at) → (slice_index source at ≡ 39 → slice_index source (at + 1) ≡ 39) → ⊥

module _ (source : List ℕ) where
  stops_at : (from at x : ℕ) → from ≡ at → Stops source at → IsTextByte x → slice_index source from ≡ x → (x ≡ 39 → slice_index source (from + 1) ≡ 39) → ⊥
  stops_at from at x here stops text is twice =
      let there = subst (Stops source) (sym here) stops in
      there (subst IsTextByte (sym is) text) (λ same. twice (sym is ∙ same))

  -- content that goes on until it stops is the longest
  pub content_longest : (from : ℕ) (a b : List ℕ) (x y : ℕ) → IsContent source from a x → IsContent source from b y → Stops source y → length a ≤ length b
  content_longest from [] b x y h k stops = omega arith
  content_longest from (p ∷ a) [] x y h k stops = absurd (stops_at from y p k stops h.0 h.1 h.2)
  content_longest from (p ∷ a) (q ∷ b) x y h k stops =
      let same : p ≡ q = sym h.1 ∙ k.1 in
      omega (arith, content_longest (from + width q) a b x y (subst (λ z. IsContent source (from + width z) a x) same h.3) k.3 stops)

  pub one_content : (from : ℕ) (a b : List ℕ) (x y : ℕ) → IsContent source from a x → IsContent source from b y → Stops source x → Stops source y → (a ≡ b) × (x ≡ y)
  one_content from [] [] x y h k stops_x stops_y = (refl, sym h ∙ k)
  one_content from [] (q ∷ b) x y h k stops_x stops_y = absurd (stops_at from x q h stops_x k.0 k.1 k.2)
  one_content from (p ∷ a) [] x y h k stops_x stops_y = absurd (stops_at from y p k stops_y h.0 h.1 h.2)
  one_content from (p ∷ a) (q ∷ b) x y h k stops_x stops_y =
      let same : p ≡ q = sym h.1 ∙ k.1 in
      let rest = one_content (from + width q) a b x y (subst (λ z. IsContent source (from + width z) a x) same h.3) k.3 stops_x stops_y in
      ((λ i. same i ∷ rest.0 i), rest.1)
