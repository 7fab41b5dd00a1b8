-- Plans over bytes that are alike.
use Rattle.std.proofs.Common.{◌≡◌, ◌≢◌, ℕ, ◌⊎◌, inl, inr, List, [], ◌∷◌, sym, ◌∙◌, subst}
use Rattle.page_core.specs.Plans.{Plans, ends, keeps, replaces, adds}
use Rattle.page_core.specs.Laws.{AreAlike, PlansTransfer}

-- a page that is kept here is kept there
kept_there : (page c q : List ℕ) → ((page ≡ c) × (page ≡ q)) ⊎ ((page ≡ page) × (c ≡ q)) → c ≡ q
kept_there page c q (inl both) = sym both.0 ∙ both.1
kept_there page c q (inr equal) = equal.1

-- one that is written here is written there
written_there : (b p c q : List ℕ) → b ≢ p → ((b ≡ c) × (p ≡ q)) ⊎ ((b ≡ p) × (c ≡ q)) → (c ≢ q) × (p ≡ q)
written_there b p c q other (inl both) = (λ e. other (both.0 ∙ e ∙ sym both.1), both.1)
written_there b p c q other (inr equal) = absurd (other equal.0)

pub transfers : PlansTransfer
transfers place olds befores pages [] [] stamps writes gone ends alike = ends
transfers place olds befores pages (c ∷ cs) [] stamps writes gone ends alike = ends
transfers place olds befores pages cs (q ∷ qs) stamps writes gone ends alike = absurd (no_more befores cs q qs alike) where
  no_more : (befores cs : List (List ℕ)) (q : List ℕ) (qs : List (List ℕ)) → AreAlike befores [] cs (q ∷ qs) → ⊥
  no_more [] [] q qs h = h
  no_more [] (c ∷ cs) q qs h = h
  no_more (b ∷ bs) [] q qs h = h
  no_more (b ∷ bs) (c ∷ cs) q qs h = h
transfers place olds befores pages [] qs stamps writes gone (keeps old page p) alike = absurd alike
transfers place olds befores pages (c ∷ cs) [] stamps writes gone (keeps old page p) alike = absurd alike
transfers place olds befores pages (c ∷ cs) (q ∷ qs) stamps writes gone (keeps old page p) alike =
    let same = kept_there page c q alike.0 in
    subst (λ b. Plans place olds (b ∷ cs) (q ∷ qs) stamps writes gone) (sym same) (keeps old q (transfers _ _ _ _ cs qs _ writes gone p alike.1))
transfers place olds befores pages [] qs stamps writes gone (replaces old stamp before page write later other at bytes p) alike = absurd alike
transfers place olds befores pages (c ∷ cs) [] stamps writes gone (replaces old stamp before page write later other at bytes p) alike = absurd alike
transfers place olds befores pages (c ∷ cs) (q ∷ qs) stamps writes gone (replaces old stamp before page write later other at bytes p) alike =
    let there = written_there before page c q other alike.0 in
    replaces old stamp c q write later there.0 at (bytes ∙ there.1) (transfers _ _ _ _ cs qs _ later _ p alike.1)
transfers place olds befores pages (c ∷ cs) qs stamps writes gone (adds stamp page write later at bytes p) alike = absurd alike
transfers place olds befores pages [] [] stamps writes gone (adds stamp page write later at bytes p) alike = absurd alike
transfers place olds befores pages [] (q ∷ qs) stamps writes gone (adds stamp page write later at bytes p) alike =
    adds stamp q write later at (bytes ∙ alike.0) (transfers _ _ _ _ [] qs _ later gone p alike.1)
