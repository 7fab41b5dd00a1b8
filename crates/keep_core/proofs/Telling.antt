-- Lines that are told one after the other.
use Rattle.std.proofs.Common.{◌≡◌, ◌∙◌, ap, sym, subst, refl, ℕ, List, [], ◌∷◌, ◌++◌, length, take, Option, Some, None, Result, Ok, Err, arith}
use Rattle.std.specs.Prelude.{OnOk, OnErr, IfErr}
use Rattle.std.specs.List.{concat}
use Rattle.std.specs.Io.KnownBytes.{Appends, Keeps}
use Rattle.std.specs.declared.alloc.AllocError.{AllocError}
use Rattle.std.proofs.lemmas.List.{append-nil, append_assoc, take_all}
use Rattle.std.proofs.lemmas.List.Folds.{concat-append}
use Rattle.std.proofs.lemmas.Option.{none-some}
use Rattle.value_core.specs.declared.machine.LinesFault.{LinesFault}
use Rattle.value_core.specs.declared.machine.LinesFault.TheVariants.{WriteFault, Memory}
use Rattle.value_core.proofs.Known.{Appends-none, Appends-kept, Appends-then}
use Rattle.keep_core.specs.Troubles.{first_of}
use Rattle.keep_core.specs.Lines.{AreFronts, AreSaid, AreTold, IsOfClosing, IsWritten}

-- nothing was said
pub nothing_said : (met : Option LinesFault) (known : Option (List ℕ)) → AreSaid [] met known known
nothing_said met known = record { text = []; fronts = refl; whole = λ quiet. refl; written = Appends-none known }

pub nothing_kept : (met : Option LinesFault) (old new : Option (List ℕ)) → Keeps old new → AreSaid [] met old new
nothing_kept met old new keeps = record { text = []; fronts = refl; whole = λ quiet. refl; written = Appends-kept old new keeps }

-- a text that fronts of some lines make, and one that fronts of others do
fronts_then : (lines more : List (List ℕ)) (text rest : List ℕ) → AreFronts lines text → AreFronts more rest → AreFronts (lines ++ more) (text ++ rest)
fronts_then [] more text rest none two = subst (λ (t : List ℕ). AreFronts more (t ++ rest)) (sym none) two
fronts_then (line ∷ lines) more text rest (count, later, is, one) two = (
  count,
  later ++ rest,
  ap (λ (t : List ℕ). t ++ rest) is ∙ append_assoc (take count line) later rest,
  fronts_then lines more later rest one two,
)

-- some lines were said, and then others
pub said_then : {lines more : List (List ℕ)} {first second met : Option LinesFault} {old mid new : Option (List ℕ)} →
    AreSaid lines first old mid → AreSaid more second mid new → (met ≡ None → first ≡ None) → (met ≡ None → second ≡ None) → AreSaid (lines ++ more) met old new
said_then {lines = lines} {more = more} {old = old} {mid = mid} {new = new} one two before after =
    record {
      text = one.text ++ two.text;
      fronts = fronts_then lines more one.text two.text one.fronts two.fronts;
      whole = λ quiet. ap (λ (t : List ℕ). t ++ two.text) (one.whole (before quiet)) ∙ ap (λ (t : List ℕ). concat lines ++ t) (two.whole (after quiet)) ∙ sym (concat-append lines more);
      written = Appends-then old mid new one.text two.text one.written two.written;
    }

-- what was said under one fault, where it is another
pub said_as : {lines : List (List ℕ)} {first met : Option LinesFault} {old new : Option (List ℕ)} → AreSaid lines first old new → (met ≡ None → first ≡ None) → AreSaid lines met old new
said_as one before = record { text = one.text; fronts = one.fronts; whole = λ quiet. one.whole (before quiet); written = one.written }

-- a front of one line
front_of : (line : List ℕ) (count : ℕ) → AreFronts (line ∷ []) (take count line)
front_of line count = (count, [], sym (append-nil (take count line)), refl)

-- a fault is met
pub met_not : {fault : LinesFault} {A : Type 0} → Some fault ≡ None → A
met_not {fault = fault} is = absurd (none-some fault (sym is))

-- what a write tells is told
pub write_told : {line : List ℕ} {old new : Option (List ℕ)} (result : Result (Unit {0}) LinesFault) →
    OnOk result (Appends old new line) → OnErr result ((count : ℕ) × Appends old new (take count line)) → IfErr result (λ fault. fault ≡ WriteFault) → AreTold (line ∷ []) result old new
write_told {line = line} (Ok done) ok err fault = record {
  said = record { text = line; fronts = subst (AreFronts (line ∷ [])) (take_all (length line) line (omega arith)) (front_of line (length line)); whole = λ quiet. sym (append-nil line); written = ok };
  closing = tt;
}
write_told {line = line} (Err why) ok err fault = record {
  said = record { text = take err.0 line; fronts = front_of line err.0; whole = λ quiet. met_not quiet; written = err.1 };
  closing = subst (λ (f : LinesFault). IsOfClosing (Some f)) (sym fault) tt;
}

-- a line that memory was refused for is not told
pub unmade_told : {line : List ℕ} {old new : Option (List ℕ)} (result : Result (Unit {0}) LinesFault) → result ≡ Err Memory → Keeps old new → AreTold (line ∷ []) result old new
unmade_told {line = line} {old = old} {new = new} result is keeps =
    subst (λ (r : Result (Unit {0}) LinesFault). AreTold (line ∷ []) r old new) (sym is)
    (record {
      said = record { text = []; fronts = front_of line 0; whole = λ quiet. met_not quiet; written = Appends-kept old new keeps };
      closing = tt;
    })

-- what was written is the line that was to be made
pub made_told : {old new : Option (List ℕ)} (line wanted : List ℕ) (made : Result (Unit {0}) AllocError) (result : Result (Unit {0}) LinesFault) →
    OnOk made (line ≡ wanted) → IsWritten made line result old new → AreTold (wanted ∷ []) result old new
made_told {old = old} {new = new} line wanted (Ok done) result is told = subst (λ (l : List ℕ). AreTold (l ∷ []) result old new) is told
made_told line wanted (Err refused) result is told = unmade_told result told.0 told.1

-- a line that was made in fresh room, and what was written of it
pub line_told : {old new : Option (List ℕ)} (fresh items slice wanted : List ℕ) (made : Result (Unit {0}) AllocError) (result : Result (Unit {0}) LinesFault) →
    fresh ≡ [] → OnOk made (items ≡ fresh ++ wanted) → slice ≡ items → IsWritten made slice result old new → AreTold (wanted ∷ []) result old new
line_told fresh items slice wanted made result none is same told = made_told slice wanted made result (line_is made is) told where
  line_is : (m : Result (Unit {0}) AllocError) → OnOk m (items ≡ fresh ++ wanted) → OnOk m (slice ≡ wanted)
  line_is (Ok done) put = same ∙ put ∙ ap (λ (t : List ℕ). t ++ wanted) none
  line_is (Err refused) put = tt

-- nothing is to be told
pub none_told : {old : Option (List ℕ)} → AreTold [] (Ok tt) old old
none_told {old = old} = record { said = nothing_said None old; closing = tt }

-- the first of two faults is none only where both are
pub first_none : (before met : Option LinesFault) → first_of before met ≡ None → before ≡ None
first_none None met is = refl
first_none (Some fault) met is = is

pub second_none : (before met : Option LinesFault) → first_of before met ≡ None → met ≡ None
second_none None met is = is
second_none (Some fault) met is = met_not is

pub first_first : (before one two : Option LinesFault) → first_of (first_of before one) two ≡ first_of before (first_of one two)
first_first None one two = refl
first_first (Some fault) one two = refl

pub closing_first : (one two : Option LinesFault) → IsOfClosing one → IsOfClosing two → IsOfClosing (first_of one two)
closing_first None two first second = second
closing_first (Some fault) two first second = first
