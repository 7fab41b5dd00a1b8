-- The front of a text that is read is the one that was written.
use Rattle.std.proofs.Common.{◌≡◌, inl, inr, ◌∙◌, ap, sym, subst, refl, ℕ, List, [], ◌∷◌, ◌++◌, append_assoc, eqb-true, bytes_eq}
use Rattle.std.specs.Prelude.{Bool, true, false, ◌||◌, ◌&&◌, ◌==◌, Option, Some, None, codes, if◌then◌else◌}
use Rattle.std.proofs.lemmas.List.{append-nil}
use Rattle.std.proofs.lemmas.Slice.Eq.{bytes_eq-Decides}
use Rattle.value_core.specs.Spaces.{drop_spaces}
use Rattle.word_core.specs.Words.{Word, bare, quoted}
use Rattle.decl_core.specs.ObjectForm.{ObjectForm}
use Rattle.word_core.specs.TraceLaws.{HasNames}
use Rattle.live_core.specs.Front.{HasRows, Opening}
use Rattle.live_core.specs.Text.{front_text}
use Rattle.front_read.specs.Text.{begins, goes_on, goes_on_behind_parts, goes_on_with_calls}
use Rattle.front_read.proofs.Whole.{front_there, found_of}
use Rattle.audit_core.specs.EpochSaid.{Says, Said, a_start, said_by, start_of, end_of, cancel_of, name_of}
use Rattle.audit_core.specs.Sound.{IsCut, IsPlayed}
use Rattle.audit_core.specs.Steps.{Begun, Heard, nothing_heard}
use Rattle.audit_core.specs.EpochTells.{Tells, Tell, start_told, end_told, cancel_told, name_told}
use Rattle.recover_core.specs.declared.recover.House.{House}
use Rattle.recover_core.specs.declared.recover.Recovered.{Recovered}
use Rattle.recover_core.specs.Lines.{joined}
use Rattle.recover_core.specs.Playing.{begun_by}
use Rattle.recover_core.specs.Text.{IsRead}
use Rattle.history_law.specs.WrittenRead.{Adds}
use Rattle.history_law.proofs.WrittenTelling.{steps_are_told}
use Rattle.history_law.specs.Written.{WrittenIsRead}

-- A line that says something behind a front is no line of one.

-- Some lines are told by how they begin: an empty one, one that begins with a space, and what says something are none of these.
pub record IsApart (G : List ℕ → Bool) : Type 0 where
  pub nothing : G [] ≡ false
  pub empty : (x : List ℕ) → G (10 ∷ x) ≡ false
  pub space : (x : List ℕ) → G (32 ∷ x) ≡ false
  pub start : (x : List ℕ) → G (codes "start" ++ x) ≡ false
  pub end : (x : List ℕ) → G (codes "end" ++ x) ≡ false
  pub cancel : (x : List ℕ) → G (codes "cancel" ++ x) ≡ false
  pub name : (x : List ℕ) → G (codes "name" ++ x) ≡ false

-- lines of a front are
pub fronts_apart : IsApart goes_on
fronts_apart = record {
  nothing = refl;
  empty = λ x. refl;
  space = λ x. refl;
  start = λ x. refl;
  end = λ x. refl;
  cancel = λ x. refl;
  name = λ x. refl;
}

some_none : {X : Type 0} {x : X} → ◌≡◌ {A = Option X} None (Some x) → ⊥
some_none is = cc

module _ (G : List ℕ → Bool) (g : IsApart G) where
  apart : (line more verb rest : List ℕ) → drop_spaces line ≡ verb ++ rest → ((x : List ℕ) → G (verb ++ x) ≡ false) → G (line ++ 10 ∷ more) ≡ false
  apart [] more verb rest is none = g.empty more
  apart (b ∷ line) more verb rest is none = by (b == 32) refl
    where
      by : (space : Bool) → (b == 32) ≡ space → G ((b ∷ line) ++ 10 ∷ more) ≡ false
      by true same = subst (λ n. G ((n ∷ line) ++ 10 ∷ more) ≡ false) (sym (eqb-true b 32 same)) (g.space (line ++ 10 ∷ more))
      by false other =
          let whole : b ∷ line ≡ verb ++ rest = sym (ap (λ (space : Bool). if space then drop_spaces line else b ∷ line) other) ∙ is in
          ap G (ap (λ (l : List ℕ). l ++ 10 ∷ more) whole ∙ append_assoc verb rest (10 ∷ more)) ∙ none (rest ++ 10 ∷ more)

  -- the first word of what is said
  verb_of : (verb : List ℕ) (words : List Word) (said : Said) → said_by verb words ≡ Some said → (x : List ℕ) → G (verb ++ x) ≡ false
  verb_of verb words said is x = one (bytes_eq verb (codes "start")) refl
    where
      same : (v : List ℕ) → bytes_eq verb v ≡ true → verb ≡ v
      same v eq = (bytes_eq-Decides verb v).0 eq

      four : (b : Bool) → bytes_eq verb (codes "name") ≡ b → (if bytes_eq verb (codes "name") then name_of words else None) ≡ Some said → G (verb ++ x) ≡ false
      four true eq now = subst (λ (v : List ℕ). G (v ++ x) ≡ false) (sym (same (codes "name") eq)) (g.name x)
      four false eq now = absurd (some_none (sym (ap (λ (b : Bool). if b then name_of words else None) eq) ∙ now))

      three : (b : Bool) → bytes_eq verb (codes "cancel") ≡ b →
          (if bytes_eq verb (codes "cancel") then cancel_of words else if bytes_eq verb (codes "name") then name_of words else None) ≡ Some said → G (verb ++ x) ≡ false
      three true eq now = subst (λ (v : List ℕ). G (v ++ x) ≡ false) (sym (same (codes "cancel") eq)) (g.cancel x)
      three false eq now = four (bytes_eq verb (codes "name")) refl
          (sym (ap (λ (b : Bool). if b then cancel_of words else if bytes_eq verb (codes "name") then name_of words else None) eq) ∙ now)

      two : (b : Bool) → bytes_eq verb (codes "end") ≡ b →
          (if bytes_eq verb (codes "end") then end_of words else if bytes_eq verb (codes "cancel") then cancel_of words else if bytes_eq verb (codes "name") then name_of words else None) ≡ Some said
          → G (verb ++ x) ≡ false
      two true eq now = subst (λ (v : List ℕ). G (v ++ x) ≡ false) (sym (same (codes "end") eq)) (g.end x)
      two false eq now = three (bytes_eq verb (codes "cancel")) refl
          (sym (ap (λ (b : Bool). if b then end_of words else if bytes_eq verb (codes "cancel") then cancel_of words else if bytes_eq verb (codes "name") then name_of words else None) eq) ∙ now)

      one : (b : Bool) → bytes_eq verb (codes "start") ≡ b → G (verb ++ x) ≡ false
      one true eq = subst (λ (v : List ℕ). G (v ++ x) ≡ false) (sym (same (codes "start") eq)) (g.start x)
      one false eq = two (bytes_eq verb (codes "end")) refl
          (sym (ap (λ (b : Bool). if b then start_of words else if bytes_eq verb (codes "end") then end_of words else if bytes_eq verb (codes "cancel") then cancel_of words else if bytes_eq verb (codes "name") then name_of words else None) eq) ∙ is)

  says_apart : (line more : List ℕ) (said : Said) → Says line said → G (line ++ 10 ∷ more) ≡ false
  says_apart line more said ([], are, is) = absurd (some_none is)
  says_apart line more said (bare verb ∷ words, (rest, first, after), is) = apart line more verb rest first.stands (verb_of verb words said is)
  says_apart line more said (quoted text ∷ words, are, is) = absurd (some_none is)

  -- lines that say something, or none
  joined_apart : (lines : List (List ℕ)) (rest : List ℕ) → ((line : List ℕ) (more : List (List ℕ)) → lines ≡ line ∷ more → (said : Said) × Says line said) → G rest ≡ false →
      G (joined lines ++ rest) ≡ false
  joined_apart [] rest each none = none
  joined_apart (line ∷ lines) rest each none =
      let s = each line lines refl in
      ap G (append_assoc (line ++ 10 ∷ []) (joined lines) rest ∙ append_assoc line (10 ∷ []) (joined lines ++ rest)) ∙ says_apart line (joined lines ++ rest) s.0 s.1

-- what a line tells it says
said_in : (o : ObjectForm) (e : Begun) (heard : Heard) (line : List ℕ) (after : Heard) → Tells o e heard line after → (said : Said) × Says line said
said_in o e heard line after (start_told says is few) = (_, says)
said_in o e heard line after (end_told says runs is) = (_, says)
said_in o e heard line after (cancel_told says is) = (_, says)
said_in o e heard line after (name_told says rests is spelled) = (_, says)

heads : (a b : List ℕ) (xs ys : List (List ℕ)) → a ∷ xs ≡ b ∷ ys → a ≡ b
heads a b xs ys is = cc

no_items : (a : List ℕ) (xs : List (List ℕ)) → [] ≡ a ∷ xs → ⊥
no_items a xs is = cc

-- of lines that were told the first says something
first_told : (o : ObjectForm) (e : Begun) (heard after : Heard) (lines : List (List ℕ)) → Tell o e heard lines after → (line : List ℕ) (more : List (List ℕ)) → lines ≡ line ∷ more →
    (said : Said) × Says line said
first_told o e heard after [] told line more is = absurd (no_items line more is)
first_told o e heard after (l ∷ lines) (mid, one, told) line more is =
    let s = said_in o e heard l mid one in (s.0, subst (λ x. Says x s.0) (heads l line lines more is) s.1)

-- so does the first of lines that were played
first_played : (o : ObjectForm) (e : Begun) (heard : Heard) (lines : List (List ℕ)) → IsPlayed o e lines heard → (line : List ℕ) (more : List (List ℕ)) → lines ≡ line ∷ more →
    (said : Said) × Says line said
first_played o e heard lines p line more is = by p.kept p.told p.cut
  where
    by : (kept : List (List ℕ)) → Tell o e nothing_heard kept heard → IsCut lines kept → (said : Said) × Says line said
    by kept told (inl whole) = first_told o e nothing_heard heard kept told line more (sym whole ∙ is)
    by [] told (inr (last, asked, says, short)) = (a_start asked, subst (λ x. Says x (a_start asked)) (heads last line [] more (sym short ∙ is)) says)
    by (k ∷ kept) told (inr (last, asked, says, short)) = first_told o e nothing_heard heard (k ∷ kept) told line kept
        (ap (λ x. x ∷ kept) (heads k line (kept ++ last ∷ []) more (sym short ∙ is)))

-- no line of a front goes on at the beginning of a text that goes on with none

and_parts : (a b c : Bool) → (a && b) ≡ false → (b ≡ false → c ≡ false) → (a && c) ≡ false
and_parts true b c is on = on is
and_parts false b c is on = refl

pub front_begins : (text more verb : List ℕ) → begins (text ++ more) verb ≡ false → begins text verb ≡ false
front_begins text more [] is = is
front_begins [] more (v ∷ verb) is = refl
front_begins (b ∷ text) more (v ∷ verb) is = and_parts (b == v) (begins (text ++ more) verb) (begins text verb) is (front_begins text more verb)

or_parts : (a b : Bool) → (a || b) ≡ false → (a ≡ false) × (b ≡ false)
or_parts true b is = absurd cc
or_parts false b is = (refl, is)

or_both : (a b : Bool) → a ≡ false → b ≡ false → (a || b) ≡ false
or_both a b x y = ap (λ (z : Bool). z || b) x ∙ y

pub front_apart : (text more : List ℕ) → goes_on (text ++ more) ≡ false → goes_on text ≡ false
front_apart text more is =
    let all = text ++ more in
    let a = or_parts (begins all (codes "object ")) (begins all (codes "source ") || (begins all (codes "part ") || goes_on_behind_parts all)) is in
    let b = or_parts (begins all (codes "source ")) (begins all (codes "part ") || goes_on_behind_parts all) a.1 in
    let c = or_parts (begins all (codes "part ")) (goes_on_behind_parts all) b.1 in
    let d = or_parts (begins all (codes "past ")) (begins all (codes "base ") || goes_on_with_calls all) c.1 in
    let e = or_parts (begins all (codes "base ")) (goes_on_with_calls all) d.1 in
    let f = or_parts (begins all (codes "carried ")) (begins all (codes "client ") || begins all (codes "kept ")) e.1 in
    let g = or_parts (begins all (codes "client ")) (begins all (codes "kept ")) f.1 in
    let not : (verb : List ℕ) → begins all verb ≡ false → begins text verb ≡ false = front_begins text more in
    or_both (begins text (codes "object ")) _ (not (codes "object ") a.0)
    (or_both (begins text (codes "source ")) _ (not (codes "source ") b.0)
    (or_both (begins text (codes "part ")) _ (not (codes "part ") c.0)
    (or_both (begins text (codes "past ")) _ (not (codes "past ") d.0)
    (or_both (begins text (codes "base ")) _ (not (codes "base ") e.0)
    (or_both (begins text (codes "carried ")) _ (not (codes "carried ") f.0)
    (or_both (begins text (codes "client ")) _ (not (codes "client ") g.0) (not (codes "kept ") g.1)))))))

-- what steps add goes on with no such line
pub adds_apart : (G : List ℕ → Bool) → IsApart G → (o : ObjectForm) (f : Opening) (lines : List ℕ) → Adds o f lines → G lines ≡ false
adds_apart G g o f lines a =
    let told = steps_are_told o (begun_by f) nothing_heard a.old a.new lines a.all a.names a.stands in
    ap G (told.cut ∙ sym (append-nil (joined told.lines))) ∙ joined_apart G g told.lines [] (first_told o (begun_by f) nothing_heard _ told.lines told.told) g.nothing

read_apart : (o : ObjectForm) (h : House) (text : List ℕ) (g : Opening) (came : Recovered) (read : IsRead o h text g came) → goes_on read.behind ≡ false
read_apart o h text g came read =
    let is = read.is in
    ap goes_on is.cut ∙ joined_apart goes_on fronts_apart is.lines is.rest (first_played o (begun_by g) _ is.lines is.played) (ap goes_on read.whole)

-- behind a front that was written no line of a front stands
pub front_is_written : (o : ObjectForm) (h : House) (f g : Opening) (text found : List ℕ) (came : Recovered) → HasNames o → HasRows o f → goes_on found ≡ false → text ≡ front_text o f ++ found → IsRead o h text g came →
    g ≡ f
front_is_written o h f g text found came named rows ends text_is read =
    let on = front_there o text read.behind g read.rows (read_apart o h text g came read) read.text_is in
    (found_of o text read.behind g named on f found rows ends text_is).0

pub written_is_read : WrittenIsRead
written_is_read o h f g text lines found lost came named rows adds cut text_is read =
    let ends = front_apart found lost (ap goes_on (sym cut) ∙ adds_apart goes_on fronts_apart o f lines adds) in
    front_is_written o h f g text found came named rows ends text_is read
