-- What was read of declarations, without where it lies in memory.
use Rattle.std.specs.Prelude.{ℕ, List}
use Rattle.std.specs.Borrow.{Bor}
use Rattle.std.specs.Global.{Vec}
use Rattle.path_tree.specs.Lexeme.{lexemes, Lexeme}
use Rattle.path_tree.specs.Known.{constants_of}
use Rattle.path_tree.specs.Path.{Path}
use Rattle.path_tree.specs.declared.lookup.Constant.{Constant}
use Rattle.path_tree.specs.declared.path_fault.PathFault.{PathFault}
use Rattle.path_tree.specs.declared.path_fault.PathFault.TheVariants as path_faults
use Rattle.token_read.specs.declared.text_fault.TextFault.{TextFault}
use Rattle.token_read.specs.declared.text_fault.TextFault.TheVariants as faults
use Rattle.path_tree.specs.declared.token.Token.{Token}
use Rattle.value_core.specs.declared.kind.Elem.{Elem}
use Rattle.value_core.specs.declared.kind.Kind.{Kind}
use Rattle.decl_core.specs.declared.object.Param.{Param}
use Rattle.decl_core.specs.declared.object.Part.{Part}
use Rattle.decl_core.specs.ObjectMap.{params_of, parts_of}

-- what is told where a path cannot be read
abbrev pub path_fault_told : PathFault → TextFault
path_fault_told path_faults.Memory = faults.Memory
path_fault_told path_faults.TooMany = faults.Path path_faults.TooMany
path_fault_told (path_faults.Expected at) = faults.Path (path_faults.Expected at)
path_fault_told (path_faults.UnknownName at) = faults.Path (path_faults.UnknownName at)
path_fault_told (path_faults.RepeatedName at) = faults.Path (path_faults.RepeatedName at)
path_fault_told (path_faults.BadBound at) = faults.Path (path_faults.BadBound at)
path_fault_told (path_faults.TooDeep at) = faults.Path (path_faults.TooDeep at)

abbrev pub path_read : Path × Bor (List Token) → Path × List Lexeme
path_read x = (x.0, lexemes x.1.now)

abbrev pub paths_read : Vec Path × Bor (List Token) → List Path × List Lexeme
paths_read x = (x.0.items, lexemes x.1.now)

abbrev pub constants_read : Vec Constant × Bor (List Token) → List (List ℕ × ℕ) × List Lexeme
constants_read x = (constants_of x.0.items, lexemes x.1.now)

abbrev pub names_read : Vec (List ℕ) × Bor (List Token) → List (List ℕ) × List Lexeme
names_read x = (x.0.items, lexemes x.1.now)

abbrev pub parts_read : Vec Part × Bor (List Token) → List (List ℕ × Kind) × List Lexeme
parts_read x = (parts_of x.0.items, lexemes x.1.now)

abbrev pub params_read : Vec Param × Bor (List Token) → List (List ℕ × Elem) × List Lexeme
params_read x = (params_of x.0.items, lexemes x.1.now)
