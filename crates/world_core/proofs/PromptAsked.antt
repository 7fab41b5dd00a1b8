-- Questions at a prompt.
use Rattle.std.proofs.Common.{◌≡◌, ◌≢◌, ℕ, List, ◌++◌, true, Ok, Err, refl}
use Rattle.std.specs.Prelude.{Result, OnOk}
use Rattle.word_core.specs.Says.{Says}
use Rattle.world_core.specs.Asked.{Asked, why, who, list, asked_of}
use Rattle.world_core.specs.Told.{IsTold}
use Rattle.world_core.specs.Writes.{IsOther}
use Rattle.world_core.specs.declared.prompt.machine.Prompt.{Prompt}
use Rattle.world_core.specs.Tries.{PromptGives, asked}

pub no_list : (n : ℕ) → why n ≢ list
no_list n e = cc

pub who_no_list : who ≢ list
who_no_list e = cc

-- a question is answered so
pub gives_asked : {E : Type 0} (r : Result (Unit {0}) E) (p : Prompt) (number : ℕ) (line old new : List ℕ) (question : Asked) → IsOther line → Says asked_of line question → question ≢ list
    → OnOk r ((text : List ℕ) × (new ≡ old ++ text) × IsTold p.world.board question text)
    → OnOk r ((text : List ℕ) × (new ≡ old ++ text) × PromptGives p number line text true p)
gives_asked (Ok u) p number line old new question other says isnt (text, made, told) = (text, made, (asked question other says isnt told, refl))
gives_asked (Err e) p number line old new question other says isnt told = tt
