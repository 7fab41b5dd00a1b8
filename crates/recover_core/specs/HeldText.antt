-- Journals with what is held.
use Rattle.std.specs.Prelude.{◌≡◌, ℕ, suc, false, true, List, ◌++◌, codes, drop, Result, MatchResult}
use Rattle.decl_core.specs.ObjectForm.{ObjectForm}
use Rattle.live_core.specs.declared.front.Front.{Front}
use Rattle.live_core.specs.Front.{Every, HasRows, Opening}
use Rattle.live_core.specs.Text.{front_text}
use Rattle.front_read.specs.Rows.{AreRows, Breaks, NoRow, has_verb, row_words}
use Rattle.recover_core.specs.Lines.{line_ends}
use Rattle.decl_core.specs.HoldForm.{HoldForm}
use Rattle.guest_core.specs.Held.{HeldCall}
use Rattle.recover_core.specs.declared.text.HeldFront.{HeldFront}
use Rattle.front_read.specs.HeldLines.{held_text, held_words, IsHeldLine}

-- A journal says of an object and of what is held when its epoch begins what its front says: the lines of that, then those
-- of what is held, and behind them what happened.
pub record HasHeld (o : ObjectForm) (holds : List HoldForm) (text : List ℕ) (f : Opening) (held : List HeldCall)
    (behind : List ℕ) : Type 0 where
  pub rows : HasRows o f
  pub each : Every (IsHeldLine o holds) held
  pub told : text ≡ front_text o f ++ (held_text o holds held ++ behind)
  pub ends : has_verb (codes "held") behind ≡ false

-- Behind a front and some lines of what is held stands one that begins as such a line, and is none: it has this number.
pub record IsHeldFault (o : ObjectForm) (holds : List HoldForm) (text : List ℕ) (number : ℕ) : Type 0 where
  pub opening : Opening
  pub rows : HasRows o opening
  pub held : List HeldCall
  pub each : Every (IsHeldLine o holds) held
  pub rest : List ℕ
  pub told : text ≡ front_text o opening ++ (held_text o holds held ++ rest)
  pub counted : number ≡ suc (line_ends (front_text o opening ++ held_text o holds held))
  pub goes : has_verb (codes "held") rest ≡ true
  pub none : NoRow (IsHeldLine o holds) (row_words (codes "held") (held_words o holds)) rest

-- behind so many bytes of a text stand the lines of what is held, or one that is none
abbrev pub IsBehind : ObjectForm → List HoldForm → Front → ℕ → List ℕ → Result HeldFront ℕ → Type 0
IsBehind o holds opening front text found = MatchResult found
    (λ c. (c.opening ≡ opening) × (c.front ≡ front) × (has_verb (codes "held") (drop c.behind text) ≡ false)
    × AreRows (IsHeldLine o holds) (codes "held") (held_words o holds) (drop front text) c.held (drop c.behind text))
    (λ number. (rest : List ℕ) × Breaks (IsHeldLine o holds) (codes "held") (held_words o holds) (drop front text) rest
    × ((before : List ℕ) → text ≡ before ++ rest → number ≡ suc (line_ends before)))
