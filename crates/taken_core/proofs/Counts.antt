-- How many bytes are not 0.
use Rattle.std.proofs.Common.{◌≡◌, ◌≢◌, ℕ, ◌+◌, ◌-◌, ◌^◌, ◌<◌, List, [], ◌∷◌, length, sym, ◌∙◌, ap, subst, arith}
use Rattle.std.specs.Prelude.{false, cond, min, ◌==◌}
use Rattle.std.proofs.lemmas.Bool.Decides.{nat_tests}
use Rattle.taken_core.specs.TakeFile.{counted, count_solid}

pub one_zero : (count byte : ℕ) → byte ≡ 0 → count < 2 ^ 64 → count ≡ counted (count + count_solid (byte ∷ []))
one_zero count byte is small = subst (λ b. count ≡ counted (count + count_solid (b ∷ []))) (sym is) (omega (arith, small))

pub one_other : (count byte : ℕ) → byte ≢ 0 → min (count + 1) (2 ^ 64 - 1) ≡ counted (count + count_solid (byte ∷ []))
one_other count byte other =
    let apart : (byte == 0) ≡ false = grind (arith, nat_tests) in
    sym (ap (λ b. counted (count + (cond b 0 1 + 0))) apart)

more_numbers : (b count next rest : ℕ) → next ≡ min (count + (b + 0)) (2 ^ 64 - 1) → min (next + rest) (2 ^ 64 - 1) ≡ min (count + (b + rest)) (2 ^ 64 - 1)
more_numbers b count next rest is = omega (arith, is)

pub count_more : (bytes rest : List ℕ) (byte count next : ℕ) → next ≡ counted (count + count_solid (byte ∷ [])) → bytes ≡ byte ∷ rest → counted (next + count_solid rest) ≡ counted (count + count_solid bytes)
count_more bytes rest byte count next is all = more_numbers (cond (byte == 0) 0 1) count next (count_solid rest) is ∙ ap (λ (l : List ℕ). counted (count + count_solid l)) (sym all)

end_numbers : (count total : ℕ) → count < 2 ^ 64 → min (count + 0) (2 ^ 64 - 1) ≡ total → count ≡ total
end_numbers count total small is = omega (arith, small, is)

pub count_end : (rest : List ℕ) (count total : ℕ) → length rest ≡ 0 → count < 2 ^ 64 → counted (count + count_solid rest) ≡ total → count ≡ total
count_end [] count total none small is = end_numbers count total small is
count_end (byte ∷ rest) count total none small is = absurd (omega (arith, none))
