-- What was read of holds, without where it lies in memory.
use Rattle.std.specs.Prelude.{ℕ, List}
use Rattle.std.specs.Borrow.{Bor}
use Rattle.std.specs.Global.{Vec}
use Rattle.path_tree.specs.Lexeme.{lexemes, Lexeme}
use Rattle.path_tree.specs.declared.token.Token.{Token}
use Rattle.decl_core.specs.declared.hold.Hold.{Hold}
use Rattle.decl_core.specs.declared.hold.Every.{Every}
use Rattle.decl_core.specs.HoldForm.{HoldForm, EveryForm}
use Rattle.decl_core.specs.HoldMap.{holds_of, everies_of}

abbrev pub numbers_read : Vec ℕ × Bor (List Token) → List ℕ × List Lexeme
numbers_read x = (x.0.items, lexemes x.1.now)

abbrev pub holds_read : Vec Hold × Bor (List Token) → List HoldForm × List Lexeme
holds_read x = (holds_of x.0.items, lexemes x.1.now)

abbrev pub everies_read : Vec Every × Bor (List Token) → List EveryForm × List Lexeme
everies_read x = (everies_of x.0.items, lexemes x.1.now)
