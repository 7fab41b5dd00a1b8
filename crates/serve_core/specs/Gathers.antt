-- What is gathered of what sessions left, and what is noted.
use Rattle.std.specs.Prelude.{◌≡◌, ◌⊎◌, ℕ, zero, suc, List, [], ◌∷◌, ◌++◌, map, Bool, true, cond, Option, Some, None}
use Rattle.value_core.specs.declared.machine.LinesFault.{LinesFault}
use Rattle.value_core.specs.declared.machine.LinesFault.TheVariants.{Memory}
use Rattle.session_core.specs.declared.fault.SessionFault.{SessionFault}
use Rattle.session_core.specs.declared.fault.SessionFault.TheVariants as session
use Rattle.office_core.specs.Slips.{Told}
use Rattle.keep_core.specs.declared.trouble.Trouble.{Trouble}
use Rattle.keep_core.specs.Troubles.{first_of}
use Rattle.serve_core.specs.declared.listen.SessionResult.{SessionResult}
use Rattle.serve_core.specs.declared.listen.SessionResult.TheVariants.{Session, Fault}
use Rattle.serve_core.specs.declared.gather.Gathered.{Gathered}

-- the fault that is noted where a session ended so: one of its client is none of the server
abbrev pub noted_by : Option SessionFault → Option LinesFault
noted_by None = None
noted_by (Some session.LineTooLong) = None
noted_by (Some session.ReadFault) = None
noted_by (Some session.WriteFault) = None
noted_by (Some session.Memory) = Some Memory
noted_by (Some session.LogMixed) = None

-- whether a line says that something is refused or mixed, where a session ended so too
abbrev pub mixed_by : Bool → Option SessionFault → Bool
mixed_by refused None = refused
mixed_by refused (Some session.LineTooLong) = refused
mixed_by refused (Some session.ReadFault) = refused
mixed_by refused (Some session.WriteFault) = refused
mixed_by refused (Some session.Memory) = refused
mixed_by refused (Some session.LogMixed) = true

-- the receipts of each object
abbrev pub slips_in : {H : Type 0} → List (Gathered H) → List (List Told)
slips_in {H} gathered = map (λ (g : Gathered H). g.backed) gathered

-- no receipts of so many objects
abbrev pub none_of : ℕ → List (List Told)
none_of zero = []
none_of (suc n) = [] ∷ none_of n

-- receipts put behind those of the object at this place, where there is that one
abbrev pub put_in : ℕ → List Told → List (List Told) → List (List Told)
put_in place more [] = []
put_in zero more (slips ∷ others) = (slips ++ more) ∷ others
put_in (suc place) more (slips ∷ others) = slips ∷ put_in place more others

-- and what a session leaves that opened no object is put nowhere
abbrev pub put_to : Option ℕ → List Told → List (List Told) → List (List Told)
put_to None more all = all
put_to (Some place) more all = put_in place more all

-- what is noted of what one thread left
abbrev pub noted_of : {H : Type 0} → SessionResult H → Option LinesFault
noted_of (Session left) = noted_by left.fault
noted_of (Fault fault) = Some fault

abbrev pub mixed_of : {H : Type 0} → Bool → SessionResult H → Bool
mixed_of refused (Session left) = mixed_by refused left.fault
mixed_of refused (Fault fault) = refused

-- the receipts of each object, with those that it left
abbrev pub with_those_of : {H : Type 0} → SessionResult H → List (List Told) → List (List Told)
with_those_of (Session left) all = put_to left.object left.backed all
with_those_of (Fault fault) all = all

-- that memory was refused
abbrev pub want_of : Bool → Option LinesFault
want_of wanted = cond wanted (Some Memory) None

-- What one thread left was gathered: its fault is noted, and its receipts are put to its object, or memory for them was
-- refused, and that is noted.
pub record Gathers {H : Type 0} (came : SessionResult H) (before after : Trouble) (were are : List (List Told)) : Type 0 where
  pub wanted : Bool
  pub fault : after.fault ≡ first_of before.fault (first_of (noted_of came) (want_of wanted))
  pub refused : after.refused ≡ mixed_of before.refused came
  pub put : are ≡ cond wanted were (with_those_of came were)

-- so was what each of these left, one after the other
abbrev pub GathersAll : {H : Type 0} → List (SessionResult H) → Trouble → Trouble → List (List Told) → List (List Told) → Type 0
GathersAll [] before after were are = (after ≡ before) × (are ≡ were)
GathersAll (came ∷ more) before after were are =
    (mid : Trouble) × (between : List (List Told)) × Gathers came before mid were between
    × GathersAll more mid after between are

-- What threads left was gathered, or memory was refused before any began.
abbrev pub IsGathered : (H : Type 0) → List (List Told) → Trouble → Trouble → List (List Told) → Type 0
IsGathered H were before after are =
    ((came : List (SessionResult H)) × GathersAll came before after were are)
    ⊎ ((after.fault ≡ first_of before.fault (Some Memory)) × (after.refused ≡ before.refused) × (are ≡ were))
