-- What a file is once it was begun anew.
use Rattle.std.proofs.Common.{◌≡◌, ◌⊎◌, inl, inr, ⊎_elim, ℕ, List, ◌++◌, length, take, sym, ◌∙◌, ap, subst, arith}
use Rattle.std.specs.Prelude.{Option, Some}
use lib.ListN.{replicate}
use Rattle.std.proofs.lemmas.List.{take_all}
use Rattle.keep_loop.specs.Device.{Only, IsChanged, Replaces}
use Rattle.keep_loop.specs.Journal.{recovered, AreLines, Stands}
use Rattle.keep_loop.proofs.KeptLines.{changed_from, front_text, front_stands}

module _ (bytes front : List ℕ) (room : ℕ) (is : bytes ≡ front ++ replicate room 0) (lines : AreLines front) where
  pub begun_text : recovered bytes ≡ front
  begun_text = ap recovered is ∙ front_text front room lines

  pub begun_stored : take (length front) front ≡ front
  begun_stored = take_all (length front) front (omega arith)

  pub begun_stands : (old new : Option (List ℕ)) → IsChanged (λ _. bytes) old new → (leaves : List ℕ → Type 0) → Only bytes leaves →
      (file : List ℕ) → new ≡ Some file → Stands file leaves (length front) (length front) room
  begun_stands old new changed leaves only file known =
      let was = changed_from (λ _. bytes) old new changed file known in
      subst (λ f. Stands f leaves (length front) (length front) room) (sym (was.2 ∙ is))
      (front_stands front room lines leaves (subst (λ b. Only b leaves) is only))

  -- a crash leaves what it might have left before, or the front
  pub begun_leaves : (old new : List ℕ → Type 0) → Replaces bytes old new → (c : List ℕ) → new c → old c ⊎ (recovered c ≡ front)
  begun_leaves old new replaces c left = ⊎_elim (λ before. inl before) (λ e. inr (ap recovered e ∙ begun_text)) (replaces c left)
