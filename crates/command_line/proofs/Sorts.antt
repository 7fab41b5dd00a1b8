-- What kinds of words there are, as the walk tells them apart.
use Rattle.std.proofs.Common.{◌≡◌, ◌∙◌, ◌++◌, ◌&&◌, ◌||◌, ◌==◌, cond, not, Bool, true, false, ℕ, zero, suc, List, [], ◌∷◌, length, Option, Some, None, refl, sym, ap, subst, bytes_eq, arith, codes, slice_get, option_and_then}
use Rattle.std.proofs.lemmas.Bool.Decides.{Decides-eqb}
use Rattle.std.specs.Prelude.{unwrap_or}
use Rattle.std.proofs.lemmas.Bool.{ne_eqb}
use Rattle.std.specs.Str.{chars}
use Rattle.clap.specs.Lexer.{long_of, long_of_rest, name_and_value, short_of, short_of_rest, strip_byte, has_byte}
use Rattle.clap.proofs.CutLemmas.{Lacks, list_any-at}
use Rattle.clap.proofs.LexerLemmas.{name_and_value-at, name_and_value-without}
use Rattle.command_line.specs.Forms.{Text, is_bare}

abbrev pub dashes : Text
dashes = 45 ∷ 45 ∷ []

-- a word that is no flag
pub record BareWord (w : Text) : Type 0 where
  pub no_hyphens : bytes_eq w dashes ≡ false
  pub no_long : long_of w ≡ None
  pub no_flags : (flags : Text) → short_of w ≡ Some flags → slice_get (chars flags) 0 ≡ None

pub data Kind (w : Text) : Type 0 where
  bare : is_bare w ≡ true → BareWord w → Kind w
  hyphens : w ≡ dashes → Kind w
  long : (t : Text) → w ≡ 45 ∷ 45 ∷ t → bytes_eq w dashes ≡ false → long_of w ≡ Some (name_and_value t) → Kind w
  short : (x : ℕ) (xs : Text) (ch : ℕ) → w ≡ 45 ∷ x ∷ xs → bytes_eq w dashes ≡ false → long_of w ≡ None → short_of w ≡ Some (x ∷ xs) → slice_get (chars (x ∷ xs)) 0 ≡ Some ch → Kind w

clash : false ≡ true → ⊥
clash x = cc

none_some : {X : Type 0} (x : X) → None ≡ Some x → ⊥
none_some x e = cc

no_flags_at : (w : Text) → short_of w ≡ None → (flags : Text) → short_of w ≡ Some flags → slice_get (chars flags) 0 ≡ None
no_flags_at w none flags e = absurd (none_some flags (sym none ∙ e))

or_true : (b : Bool) → (b || true) ≡ true
or_true true = refl
or_true false = refl

and_false : (b : Bool) → (b && false) ≡ false
and_false true = refl
and_false false = refl

one_long : (b : Bool) → option_and_then long_of_rest (option_and_then (strip_byte 45) (cond b (Some []) None)) ≡ None
one_long true = refl
one_long false = refl

one_short : (b : Bool) → option_and_then short_of_rest (cond b (Some []) None) ≡ None
one_short true = refl
one_short false = refl

twice : (xs : Text) → Kind (45 ∷ 45 ∷ xs)
twice [] = hyphens refl
twice (y ∷ ys) = long (y ∷ ys) refl refl refl

-- a hyphen, and a character that is none
behind_hyphen : (x : ℕ) (xs : Text) → (x == 45) ≡ false → Kind (45 ∷ x ∷ xs)
behind_hyphen x xs e = go (chars (x ∷ xs)) refl
  where
    two : bytes_eq (45 ∷ x ∷ xs) dashes ≡ false
    two = ap (λ b. b && bytes_eq xs []) e

    no_long : long_of (45 ∷ x ∷ xs) ≡ None
    no_long = ap (λ b. option_and_then long_of_rest (cond b (Some xs) None)) e

    flags : short_of (45 ∷ x ∷ xs) ≡ Some (x ∷ xs)
    flags = ap (λ b. cond b None (Some (x ∷ xs))) e

    none_there : (cs : List ℕ) → chars (x ∷ xs) ≡ [] → (t : Text) → short_of (45 ∷ x ∷ xs) ≡ Some t → slice_get (chars t) 0 ≡ None
    none_there cs none t is = subst (λ (u : Text). slice_get (chars u) 0 ≡ None) (ap (λ (o : Option Text). unwrap_or o t) (sym flags ∙ is)) (ap (λ (cs : List ℕ). slice_get cs 0) none)

    go : (cs : List ℕ) → chars (x ∷ xs) ≡ cs → Kind (45 ∷ x ∷ xs)
    go [] none = bare (ap (λ (cs : List ℕ). length cs == 0) none) (record { no_hyphens = two; no_long = no_long; no_flags = none_there [] none })
    go (ch ∷ cs) is = short x xs ch refl two no_long flags (ap (λ (t : List ℕ). slice_get t 0) is)

dashed : (x : ℕ) (xs : Text) → Kind (45 ∷ x ∷ xs)
dashed x xs = go (x == 45) refl
  where
    go : (b : Bool) → (x == 45) ≡ b → Kind (45 ∷ x ∷ xs)
    go true e = subst (λ n. Kind (45 ∷ n ∷ xs)) (sym ((Decides-eqb x 45).0 e)) (twice xs)
    go false e = behind_hyphen x xs e

no_chars : length (chars []) == 0 ≡ true
unfolding chars
no_chars = refl

pub kind : (w : Text) → Kind w
kind [] = bare refl (record { no_hyphens = refl; no_long = refl; no_flags = no_flags_at [] refl })
kind (b ∷ []) = bare (ap (λ t. not (b == 45) || t) no_chars ∙ or_true (not (b == 45)))
    (record { no_hyphens = and_false (b == 45); no_long = one_long (b == 45); no_flags = no_flags_at (b ∷ []) (one_short (b == 45)) })
kind (b ∷ x ∷ xs) = go (b == 45) refl
  where
    go : (t : Bool) → (b == 45) ≡ t → Kind (b ∷ x ∷ xs)
    go true e = subst (λ n. Kind (n ∷ x ∷ xs)) (sym ((Decides-eqb b 45).0 e)) (dashed x xs)
    go false e = bare (ap (λ t. not t || length (chars (x ∷ xs)) == 0) e) (record {
      no_hyphens = ap (λ t. t && bytes_eq (x ∷ xs) (45 ∷ [])) e;
      no_long = ap (λ t. option_and_then long_of_rest (option_and_then (strip_byte 45) (cond t (Some (x ∷ xs)) None))) e;
      no_flags = no_flags_at (b ∷ x ∷ xs) (ap (λ t. option_and_then short_of_rest (cond t (Some (x ∷ xs)) None)) e);
    })

-- a hyphen with a character behind it begins no bare word
not_bare : (t : Text) (ch : ℕ) → slice_get (chars t) 0 ≡ Some ch → is_bare (45 ∷ t) ≡ true → ⊥
not_bare t ch has is = go (chars t) refl
  where
    go : (cs : List ℕ) → chars t ≡ cs → ⊥
    go [] e = none_some ch (sym (ap (λ (cs : List ℕ). slice_get cs 0) e) ∙ has)
    go (x ∷ xs) e = clash (sym (ap (λ (cs : List ℕ). length cs == 0) e ∙ ne_eqb (suc (length xs)) 0 (λ f. omega (arith, f))) ∙ is)

hyphen_char : (t : Text) → slice_get (chars (45 ∷ t)) 0 ≡ Some 45
unfolding chars
hyphen_char [] = refl
hyphen_char (b ∷ bs) = refl

pub bare_word : (w : Text) → is_bare w ≡ true → BareWord w
bare_word w is = go (kind w)
  where
    dashed_not : (t : Text) → w ≡ 45 ∷ 45 ∷ t → ⊥
    dashed_not t e = not_bare (45 ∷ t) 45 (hyphen_char t) (sym (ap is_bare e) ∙ is)

    go : Kind w → BareWord w
    go (bare b word) = word
    go (hyphens e) = absurd (dashed_not [] e)
    go (long t e h l) = absurd (dashed_not t e)
    go (short x xs ch e h l s c) = absurd (not_bare (x ∷ xs) ch c (sym (ap is_bare e) ∙ is))

-- ---- `name` and `name=value`

pub data Cut (t : Text) : Type 0 where
  whole : name_and_value t ≡ (t, None) → Cut t
  parts : (n value : Text) → t ≡ n ++ 61 ∷ value → name_and_value t ≡ (n, Some value) → Cut t

data Found (t : Text) : Type 0 where
  lacks : Lacks 61 t → Found t
  has : (n value : Text) → Lacks 61 n → t ≡ n ++ 61 ∷ value → Found t

lacks_more : (x : ℕ) (xs : Text) → (x ≡ 61 → ⊥) → Lacks 61 xs → Lacks 61 (x ∷ xs)
lacks_more x xs differs h zero lt = differs
lacks_more x xs differs h (suc i) lt = h i (omega arith)

find_cut : (t : Text) → Found t
find_cut [] = lacks (λ i lt. absurd (omega arith))
find_cut (x ∷ xs) = go (x == 61) refl (find_cut xs)
  where
    differs : (x == 61) ≡ false → x ≡ 61 → ⊥
    differs e is = let wrong : false ≡ true = sym e ∙ (Decides-eqb x 61).1 is in cc

    go : (b : Bool) → (x == 61) ≡ b → Found xs → Found (x ∷ xs)
    go true e f = has [] xs (λ i lt. absurd (omega arith)) (ap (λ n. n ∷ xs) ((Decides-eqb x 61).0 e))
    go false e (lacks l) = lacks (lacks_more x xs (differs e) l)
    go false e (has n value l is) = has (x ∷ n) value (lacks_more x n (differs e) l) (ap (λ ys. x ∷ ys) is)

pub cut : (t : Text) → Cut t
cut t = go (find_cut t)
  where
    go : Found t → Cut t
    go (lacks l) = whole (name_and_value-without t l)
    go (has n value l is) = parts n value is (ap name_and_value is ∙ name_and_value-at n value l)

no_cut : (n : Text) → has_byte 61 n ≡ false → Lacks 61 n
no_cut n none = go (find_cut n)
  where
    go : Found n → Lacks 61 n
    go (lacks l) = l
    go (has m value l is) = absurd (clash (sym none ∙ ap (has_byte 61) is ∙ list_any-at 61 m value))

pub sessions_lacks : Lacks 61 (codes "sessions")
sessions_lacks = no_cut (codes "sessions") refl

pub at_once_lacks : Lacks 61 (codes "at-once")
at_once_lacks = no_cut (codes "at-once") refl

pub sync_lacks : Lacks 61 (codes "sync")
sync_lacks = no_cut (codes "sync") refl

pub traces_lacks : Lacks 61 (codes "traces")
traces_lacks = no_cut (codes "traces") refl

pub past_lacks : Lacks 61 (codes "past")
past_lacks = no_cut (codes "past") refl
