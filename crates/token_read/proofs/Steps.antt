-- The faults of steps, and the steps of a series.
use Rattle.std.proofs.Common.{◌≡◌, ℕ, zero, suc, ◌-◌, ◌<◌, Bool, true, false, List, Option, Some, None, refl, sym, subst, ◌∙◌, arith}
use Rattle.std.specs.Prelude.{Result}
use Rattle.path_tree.specs.Lexeme.{Lexeme}
use Rattle.token_read.specs.declared.text_fault.TextFault.{TextFault}
use Rattle.token_read.specs.declared.text_fault.TextFault.TheVariants as faults
use Rattle.token_read.specs.Reader.{◌>>=◌, Reader, Fails, Gives}
use Rattle.token_read.specs.Series.{series_by, series_at}

-- a fault says that nothing is read, where nothing is
pub fails_none : {Y : Type 0} (e : TextFault) (read : Option Y) → read ≡ None → Fails e read
fails_none faults.Memory read h = tt
fails_none (faults.Path f) read h = h
fails_none (faults.Syntax at) read h = h
fails_none (faults.DuplicateName at) read h = h
fails_none (faults.WrongType at) read h = h
fails_none (faults.UnknownName at) read h = h
fails_none (faults.TooMany at) read h = h

-- a fault of a step is one of the whole
pub by_fault : {A B : Type 0} (e : TextFault) (step : Option A) (total : Option B) → Fails e step → (step ≡ None → total ≡ None) → Fails e total
by_fault faults.Memory step total fails h = tt
by_fault (faults.Path f) step total fails h = h fails
by_fault (faults.Syntax at) step total fails h = h fails
by_fault (faults.DuplicateName at) step total fails h = h fails
by_fault (faults.WrongType at) step total fails h = h fails
by_fault (faults.UnknownName at) step total fails h = h fails
by_fault (faults.TooMany at) step total fails h = h fails

module _ {S : Type 0} (item : S → Reader S) (begins : List Lexeme → Bool) where
  -- where no other begins
  pub series_ends : (left : ℕ) (s : S) (ws : List Lexeme) → begins ws ≡ false → series_at item begins left s ws ≡ Some (s, ws)
  unfolding series_by
  series_ends left s ws is = rw is refl

  -- where another begins and none is left
  pub series_over : (left : ℕ) (s : S) (ws : List Lexeme) → begins ws ≡ true → left ≡ 0 → series_at item begins left s ws ≡ None
  unfolding series_by
  series_over zero s ws is none = rw is refl
  series_over (suc left) s ws is none = absurd (omega arith)

  -- where another begins
  pub series_goes_on : (left : ℕ) (s : S) (ws : List Lexeme) → begins ws ≡ true → 0 < left → series_at item begins left s ws ≡ (item s ws >>= λ x. series_at item begins (left - 1) x.0 x.1)
  unfolding series_by
  series_goes_on zero s ws is some = absurd (omega arith)
  series_goes_on (suc left) s ws is some = let e : suc left - 1 ≡ left = omega arith in rw (is, e) refl

  -- the exits of a function that reads a series: none is left, an item is not read, and an item is read
  pub none_left : (e : TextFault) (left : ℕ) (s : S) (ws : List Lexeme) → begins ws ≡ true → left ≡ 0 → Fails e (series_at item begins left s ws)
  none_left e left s ws is none = fails_none e _ (series_over left s ws is none)

  pub item_fails : (e : TextFault) (left : ℕ) (s : S) (ws : List Lexeme) → begins ws ≡ true → 0 < left → Fails e (item s ws) → Fails e (series_at item begins left s ws)
  item_fails e left s ws is some fails =
      let f : item s ws ≡ None → series_at item begins left s ws ≡ None = λ none. series_goes_on left s ws is some ∙ rw none refl in
      by_fault e (item s ws) (series_at item begins left s ws) fails f

  pub item_read : {X : Type 0} (view : X → S × List Lexeme) (r : Result X TextFault) (left : ℕ) (s t : S) (ws vs : List Lexeme) → begins ws ≡ true → 0 < left → item s ws ≡ Some (t, vs) →
      Gives view r (series_at item begins (left - 1) t vs) → Gives view r (series_at item begins left s ws)
  item_read view r left s t ws vs is some read given =
      let e : series_at item begins left s ws ≡ series_at item begins (left - 1) t vs = series_goes_on left s ws is some ∙ rw read refl in
      subst (λ o. Gives view r o) (sym e) given
