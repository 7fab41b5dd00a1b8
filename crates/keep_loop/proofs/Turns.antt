-- Histories that go on by a turn.
use Rattle.std.proofs.Common.{◌≡◌, ℕ, ◌+◌, arith, List, [], ◌∷◌, ◌++◌, refl, sym, ◌∙◌, ap, subst, append_assoc, true≢false}
use Rattle.std.specs.Prelude.{Bool, true, false, ◌||◌, if◌then◌else◌}
use Rattle.std.proofs.lemmas.List.{append-nil}
use Rattle.keep_loop.specs.Texts.{Begins, to}
use Rattle.keep_loop.specs.Seen.{comings}
use Rattle.keep_loop.specs.Turns.{Turn, Gives, Runs, joins, is_joining, told, said_to, line_from, heard_of, added_by, note_of, notes_by, has_joined}
use Rattle.keep_loop.specs.declared.served.Note.{Note}

pub runs_last : {S : Type 0} (gives : Gives S) (old : S) (ts : List Turn) (mid : S) (t : Turn) (new : S) → Runs gives old ts mid →
    gives mid t.asked t.said t.added new → Runs gives old (ts ++ t ∷ []) new
runs_last gives old [] mid t new same step = (new, subst (λ m. gives m t.asked t.said t.added new) same step, refl)
runs_last gives old (u ∷ ts) mid t new run step = (run.0, run.1, runs_last gives run.0 ts mid t new run.2 step)

or_false : (b : Bool) → (b || false) ≡ b
or_false true = refl
or_false false = refl

pub joined_last : (c : ℕ) (ts : List Turn) (t : Turn) → has_joined c (ts ++ t ∷ []) ≡ (has_joined c ts || joins c t.asked)
joined_last c [] t = or_false (joins c t.asked)
joined_last c (u ∷ ts) t = ap (λ b. joins c u.asked || b) (joined_last c ts t) ∙ or_assoc (joins c u.asked) (has_joined c ts) (joins c t.asked)
  where
    or_assoc : (a b d : Bool) → (a || (b || d)) ≡ ((a || b) || d)
    or_assoc true b d = refl
    or_assoc false b d = refl

-- what turns tell behind others
pub told_more : (here : Bool) (c : ℕ) (ts us : List Turn) → told here c (ts ++ us) ≡ told here c ts ++ told (here || has_joined c ts) c us
told_more true c [] us = refl
told_more false c [] us = refl
told_more true c (t ∷ ts) us =
    ap (λ (l : List ℕ). to c t.said ++ l) (told_more true c ts us) ∙ sym (append_assoc (to c t.said) (told true c ts) (told true c us))
told_more false c (t ∷ ts) us =
    let one : List ℕ = if joins c t.asked then to c t.said else [] in
    ap (λ (l : List ℕ). one ++ l) (told_more (joins c t.asked) c ts us) ∙ sym (append_assoc one (told (joins c t.asked) c ts) (told (joins c t.asked || has_joined c ts) c us))

pub said_more : (c : ℕ) (ts us : List Turn) → Begins (said_to c ts) (said_to c (ts ++ us))
said_more c ts us = (told (has_joined c ts) c us, told_more false c ts us)

told_none_by : (b : Bool) (c : ℕ) (t : Turn) (ts : List Turn) → (has_joined c ts ≡ false → told false c ts ≡ []) → (b || has_joined c ts) ≡ false →
    (if b then to c t.said else []) ++ told b c ts ≡ []
told_none_by true c t ts none is = absurd (true≢false is)
told_none_by false c t ts none is = none is

pub told_none : (c : ℕ) (ts : List Turn) → has_joined c ts ≡ false → told false c ts ≡ []
told_none c [] is = refl
told_none c (t ∷ ts) is = told_none_by (joins c t.asked) c t ts (told_none c ts) is

-- one that is there is told all that is said to it
pub said_last : (c : ℕ) (ts : List Turn) (t : Turn) → has_joined c ts ≡ true → said_to c (ts ++ t ∷ []) ≡ said_to c ts ++ to c t.said
said_last c ts t is =
    told_more false c ts (t ∷ []) ∙ ap (λ b. told false c ts ++ told b c (t ∷ [])) is ∙ ap (λ (l : List ℕ). told false c ts ++ l) (append-nil (to c t.said))

-- and so is one that comes
pub said_first : (c : ℕ) (ts : List Turn) (t : Turn) → has_joined c ts ≡ false → joins c t.asked ≡ true → said_to c (ts ++ t ∷ []) ≡ to c t.said
said_first c ts t not comes =
    told_more false c ts (t ∷ []) ∙ ap (λ (l : List ℕ). l ++ told (has_joined c ts) c (t ∷ [])) (told_none c ts not) ∙ ap (λ b. told b c (t ∷ [])) not
    ∙ ap (λ b. (if b then to c t.said else []) ++ told b c []) comes ∙ append-nil (to c t.said)

pub heard_last : (c : ℕ) (ts : List Turn) (t : Turn) → heard_of c (ts ++ t ∷ []) ≡ heard_of c ts ++ line_from c t.asked
heard_last c [] t = append-nil (line_from c t.asked)
heard_last c (u ∷ ts) t = ap (λ l. line_from c u.asked ++ l) (heard_last c ts t) ∙ sym (append_assoc (line_from c u.asked) (heard_of c ts) (line_from c t.asked))

pub added_last : (j : ℕ) (ts : List Turn) (t : Turn) → added_by j (ts ++ t ∷ []) ≡ added_by j ts ++ to j t.added
added_last j [] t = append-nil (to j t.added)
added_last j (u ∷ ts) t = ap (λ (l : List ℕ). to j u.added ++ l) (added_last j ts t) ∙ sym (append_assoc (to j u.added) (added_by j ts) (to j t.added))

pub notes_last : (ts : List Turn) (t : Turn) → notes_by (ts ++ t ∷ []) ≡ notes_by ts ++ note_of t.asked
notes_last [] t = append-nil (note_of t.asked)
notes_last (u ∷ ts) t = ap (λ l. note_of u.asked ++ l) (notes_last ts t) ∙ sym (append_assoc (note_of u.asked) (notes_by ts) (note_of t.asked))

pub comings_last : (c : ℕ) (ns : List Note) (n : Note) → comings c (ns ++ n ∷ []) ≡ comings c ns + (if is_joining c n then 1 else 0)
comings_last c [] n = omega arith
comings_last c (m ∷ ns) n = let is = comings_last c ns n in omega (arith, is)

pub begins_more : (front text more : List ℕ) → Begins front text → Begins front (text ++ more)
begins_more front text more is = (is.0 ++ more, ap (λ (l : List ℕ). l ++ more) is.1 ∙ append_assoc front is.0 more)

pub begins_twice : (a b c : List ℕ) → Begins a b → Begins b c → Begins a c
begins_twice a b c one two = (one.0 ++ two.0, two.1 ∙ ap (λ (l : List ℕ). l ++ two.0) one.1 ∙ append_assoc a one.0 two.0)
