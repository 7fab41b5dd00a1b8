-- Names between commas.
use Rattle.std.proofs.Common.{◌≡◌, ◌∙◌, ap, sym, subst, List, [], ◌∷◌, ◌++◌, ◌<◌, ◌+◌, append-nil, arith, length, length-append, suc}
use Rattle.std.specs.Borrow.{Bor}
use Rattle.command_line.specs.Forms.{Text}
use Rattle.command_line.specs.Watching.{texts}
use Rattle.command_line.specs.Belief.{AreNames, HasNoComma, last, more}
use Rattle.command_line.proofs.Sorting.{texts_push}

abbrev pub GoesOn : Text → Text → List (Bor Text) → Type 0
GoesOn word left found = (names : List Text) → AreNames left names → AreNames word (texts found ++ names)

-- one name more
pub one_name : (word left rest : Text) (n : Bor Text) (found after : List (Bor Text)) → HasNoComma n.now → left ≡ n.now ++ 44 ∷ rest → after ≡ found ++ n ∷ [] → GoesOn word left found → GoesOn word rest after
one_name word left rest n found after none is push was = λ names are.
    subst (AreNames word) (sym (texts_push found n names) ∙ ap (λ l. texts l ++ names) (sym push))
    (was (n.now ∷ names) (subst (λ l. AreNames l (n.now ∷ names)) (sym is) (more none are)))

-- the last one
pub last_name : (word : Text) (n : Bor Text) (found after : List (Bor Text)) → HasNoComma n.now → after ≡ found ++ n ∷ [] → GoesOn word n.now found → AreNames word (texts after)
last_name word n found after none push was =
    subst (AreNames word) (sym (texts_push found n []) ∙ append-nil (texts (found ++ n ∷ [])) ∙ ap texts (sym push)) (was (n.now ∷ []) (last none))

pub shorter : (left name rest : Text) → left ≡ name ++ 44 ∷ rest → length rest < length left
shorter left name rest is = let all = ap length is ∙ length-append name (44 ∷ rest) in omega (arith, all)
