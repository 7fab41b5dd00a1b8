-- The steps of reading names up to a colon.
use Rattle.std.proofs.Common.{◌≡◌, ℕ, zero, suc, ◌-◌, ◌<◌, List, refl, arith}
use Rattle.path_tree.specs.Lexeme.{Lexeme}
use Rattle.token_read.specs.declared.text_fault.TextFault.{TextFault}
use Rattle.token_read.specs.Reader.{Fails}
use Rattle.token_read.specs.Names.{Names}
use Rattle.decl_parts.specs.DeclarationReading.{names_with, names_at}
use Rattle.token_read.proofs.Steps.{fails_none}

pub names_step : (names : Names) (left : ℕ) (before : List (List ℕ)) (ws : List Lexeme) → 0 < left → names_at names left before ws ≡ names_with names (names_at names (left - 1)) before ws
unfolding names_at
names_step names zero before ws h = absurd (omega arith)
names_step names (suc left) before ws h = let e : suc left - 1 ≡ left = omega arith in rw e refl

pub names_none : (e : TextFault) (names : Names) (left : ℕ) (before : List (List ℕ)) (ws : List Lexeme) → left ≡ 0 → Fails e (names_at names left before ws)
unfolding names_at
names_none e names zero before ws h = fails_none e _ refl
names_none e names (suc left) before ws h = absurd (omega arith)
