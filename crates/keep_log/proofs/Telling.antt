-- What a log gets.
use Rattle.std.proofs.Common.{◌≡◌, ◌∙◌, ap, sym, subst, refl, ℕ, List, [], ◌∷◌, ◌++◌, length, take}
use Rattle.std.specs.Prelude.{Option, Some, None, Result, Ok, Err, OnOk, OnErr}
use Rattle.std.specs.Io.KnownBytes.{Appends}
use Rattle.std.proofs.lemmas.List.{append-nil}
use Rattle.jiff_core.specs.declared.civil.datetime.DateTime.{DateTime}
use Rattle.keep_log.specs.declared.line.LineForm.{LineForm}
use Rattle.keep_log.specs.Told.{Tells, TellsFront}

take_all : (bytes : List ℕ) → take (length bytes) bytes ≡ bytes
take_all [] = refl
take_all (b ∷ bytes) = ap (λ more. b ∷ more) (take_all bytes)

-- all of it is a front of it
pub whole_is_front : (before after : Option (List ℕ)) (bytes : List ℕ) → Appends before after bytes → TellsFront before after bytes
whole_is_front before after bytes all = (length bytes, subst (Appends before after) (sym (take_all bytes)) all)

nothing : (before : Option (List ℕ)) → Appends before before []
nothing None = tt
nothing (Some bytes) = sym (append-nil bytes)

-- what was made is told, if it was
told_one : {T E : Type 0} (form : LineForm) (moment : DateTime) (line : LineForm → DateTime → List ℕ) (made : Result T E) (items : List ℕ) (before after : Option (List ℕ)) →
    OnOk made (items ≡ line form moment) → OnOk made (TellsFront before after items) → OnErr made (after ≡ before) → Tells (Some form) before after line
told_one form moment line (Ok x) items before after is front same = (moment, subst (TellsFront before after) is front)
told_one form moment line (Err e) items before after is front same = (moment, (0, subst (λ a. Appends before a []) (sym same) (nothing before)))

cleared : {T E : Type 0} (made : Result T E) (clear items text : List ℕ) → clear ≡ [] → OnOk made (items ≡ clear ++ text) → OnOk made (items ≡ text)
cleared (Ok x) clear items text none is = is ∙ ap (λ t. t ++ text) none
cleared (Err e) clear items text none is = tt

pub told_line : {T E : Type 0} (found : Option LineForm) (form : LineForm) (moment : DateTime) (line : LineForm → DateTime → List ℕ) (made : Result T E) (clear items : List ℕ)
    (before after : Option (List ℕ)) → found ≡ Some form → clear ≡ [] → OnOk made (items ≡ clear ++ line form moment) → OnOk made (TellsFront before after items) →
    OnErr made (after ≡ before) → Tells found before after line
told_line found form moment line made clear items before after is none text front same =
    subst (λ f. Tells f before after line) (sym is) (told_one form moment line made items before after (cleared made clear items (line form moment) none text) front same)

-- two things, behind nothing
pub composed : (a b c x y : List ℕ) → a ≡ [] → b ≡ a ++ x → c ≡ b ++ y → c ≡ x ++ y
composed a b c x y p q r = r ∙ ap (λ t. t ++ y) (q ∙ ap (λ t. t ++ x) p)
