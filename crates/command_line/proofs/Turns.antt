-- What the walk over words does with one word, and when it fails.
use Rattle.std.proofs.Common.{◌≡◌, ◌∙◌, cond, Bool, false, ℕ, suc, List, [], ◌∷◌, length, Option, Some, None, refl, sym, ap, bytes_eq, slice_get}
use Rattle.std.specs.Option.{option_map_or}
use Rattle.std.specs.Str.{chars}
use Rattle.clap.specs.Lexer.{long_of, short_of}
use Rattle.clap.specs.Walk.{Held, Names, Rule, Step, Text, Waiting, Walk, idle, option, arg_by_index, arg_by_long, arg_by_short, Outcome, after_flag, bundle, plain, long_or_other, long_word, plain_word, short_or_plain, subcommand_met, subcommand_or_other, after_step, to_positional, trailing, value, walked, word_met}
use Rattle.clap.specs.Simple.{Shape}
use Rattle.clap.specs.Kinds.{Kinds as Faults, or_else}
use Rattle.clap.specs.Faults.{bundle_fault, bundle_step_fault, flag_word_fault, flags_fault, long_fault, other_fault, short_fault, step_fault, turn_fault, word_fault}
use Rattle.clap.specs.declared.error.kind.ErrorKind.{ErrorKind}
use Rattle.clap.proofs.FaultLemmas.{fault_ends}
use Rattle.clap.proofs.WalkLemmas.{bundle_ends}
use Rattle.command_line.proofs.Sorts.{BareWord, dashes}

-- ---- lists of faults

pub some_fault : (k : ErrorKind) (ks : Faults) → k ∷ ks ≡ [] → ⊥
some_fault k ks e = cc

pub first_of : (a b : Faults) → or_else a b ≡ [] → a ≡ []
first_of [] b e = refl
first_of (k ∷ ks) b e = e

pub then_of : (a b : Faults) → or_else a b ≡ [] → b ≡ []
then_of [] b e = e
then_of (k ∷ ks) b e = absurd (some_fault k ks e)

pub neither : (a b : Faults) → a ≡ [] → b ≡ [] → or_else a b ≡ []
neither a b e f = ap (λ x. or_else x b) e ∙ f

-- ---- a hyphen with no character behind it

module _ (c : List Rule) (h : Held) (zero_skip : h.skip ≡ 0) where
  no_skip : ◌≡◌ {A = Held} (record h { skip = 0 }) h
  no_skip = ap (λ n. record h { skip = n }) (sym zero_skip)

  pub no_flag : (waiting : Waiting) (word : Text) (o : Option Text) → ((flags : Text) → o ≡ Some flags → slice_get (chars flags) 0 ≡ None)
      → short_or_plain c waiting word o h ≡ plain_word c waiting word h
  no_flag waiting word None none = refl
  no_flag waiting word (Some flags) none =
      let ended : bundle c flags h ≡ (h, plain) = sym (bundle_ends c (length flags) flags h.skip plain (record h { skip = 0 }) (sym (none flags refl))) ∙ ap (λ x. (x, plain)) no_skip in
      ap (λ (m : Held × Outcome). after_flag c waiting word m.0 m.1) ended

  pub no_flag_fault : (again : Bool) (o : Option Text) → ((flags : Text) → o ≡ Some flags → slice_get (chars flags) 0 ≡ None)
      → option_map_or (λ flags. bundle_fault c again flags h) o [] ≡ []
  no_flag_fault again None none = refl
  no_flag_fault again (Some flags) none = sym (fault_ends c again (length flags) flags h.skip (record h { skip = 0 }) (sym (none flags refl)))

-- ---- one word, of any command

module _ (s : Shape) (names : Names) (k : ℕ) (h : Held) where
  abbrev pub stands : Bool → Waiting → Walk
  stands is_trailing waiting = record { held = h; waiting = waiting; position = k; is_trailing = is_trailing; stopped = None }

  pub word_first : (is_trailing : Bool) (waiting : Waiting) (word : Text) → turn_fault s names (stands is_trailing waiting) word ≡ []
      → word_fault s names is_trailing waiting word h ≡ []
  word_first is_trailing waiting word e = first_of (word_fault s names is_trailing waiting word h) _ e

  -- a word that is no flag, nor a subcommand
  module _ (word : Text) (is : BareWord word) (zero_skip : h.skip ≡ 0) (no : subcommand_met names idle word ≡ None) where
    met : word_met s.rules names false idle k word h ≡ (h, value)
    met = ap (λ (o : Option Text). subcommand_case o) no ∙ ap (λ b. cond b (h, trailing k) (long_or_other s.rules idle word (long_of word) h)) is.no_hyphens
        ∙ ap (λ o. long_or_other s.rules idle word o h) is.no_long ∙ no_flag s.rules h zero_skip idle word (short_of word) is.no_flags
      where
        subcommand_case : Option Text → Held × Step
        subcommand_case o = subcommand_or_other s.rules o idle k word h

    no_fault : word_fault s names false idle word h ≡ []
    no_fault = ap (λ o. other_fault s o word h) no ∙ ap (λ b. cond b [] (flag_word_fault s.rules s.args_override_self (long_of word) word h)) is.no_hyphens
        ∙ ap (λ o. flag_word_fault s.rules s.args_override_self o word h) is.no_long
        ∙ no_flag_fault s.rules h zero_skip s.args_override_self (short_of word) is.no_flags

    pub bare_fault : turn_fault s names (stands false idle) word ≡ step_fault s k h value
    bare_fault = ap (λ (m : Held × Step). or_else (word_fault s names false idle word h) (step_fault s k m.0 m.1)) met ∙ ap (λ x. or_else x (step_fault s k h value)) no_fault

    pub bare_after : walked s.rules names (stands false idle) word ≡ to_positional s.rules (arg_by_index s.rules k) word (stands false idle) h
    unfolding walked
    bare_after = ap (λ (m : Held × Step). after_step s.rules word (stands false idle) m.0 m.1) met

  -- the value of an option
  module _ (id word : Text) (is : BareWord word) (zero_skip : h.skip ≡ 0) where
    value_met : word_met s.rules names false (option id) k word h ≡ plain_word s.rules (option id) word h
    value_met = ap (λ b. cond b (h, trailing k) (long_or_other s.rules (option id) word (long_of word) h)) is.no_hyphens
        ∙ ap (λ o. long_or_other s.rules (option id) word o h) is.no_long ∙ no_flag s.rules h zero_skip (option id) word (short_of word) is.no_flags

    value_no_fault : word_fault s names false (option id) word h ≡ []
    value_no_fault = ap (λ b. cond b [] (flag_word_fault s.rules s.args_override_self (long_of word) word h)) is.no_hyphens
        ∙ ap (λ o. flag_word_fault s.rules s.args_override_self o word h) is.no_long
        ∙ no_flag_fault s.rules h zero_skip s.args_override_self (short_of word) is.no_flags

    pub value_fault : turn_fault s names (stands false (option id)) word ≡ step_fault s k (plain_word s.rules (option id) word h).0 (plain_word s.rules (option id) word h).1
    value_fault = ap (λ (m : Held × Step). or_else (word_fault s names false (option id) word h) (step_fault s k m.0 m.1)) value_met
        ∙ ap (λ x. or_else x (step_fault s k (plain_word s.rules (option id) word h).0 (plain_word s.rules (option id) word h).1)) value_no_fault

    pub value_after : walked s.rules names (stands false (option id)) word
        ≡ after_step s.rules word (stands false (option id)) (plain_word s.rules (option id) word h).0 (plain_word s.rules (option id) word h).1
    unfolding walked
    value_after = ap (λ (m : Held × Step). after_step s.rules word (stands false (option id)) m.0 m.1) value_met

  -- a flag
  module _ (waiting : Waiting) (word : Text) (no : subcommand_met names waiting word ≡ None) (open_word : bytes_eq word dashes ≡ false) where
    long_met : (p : Text × Option Text) → long_of word ≡ Some p → word_met s.rules names false waiting k word h ≡ long_word s.rules waiting word p.0 p.1 h
    long_met p is = ap (λ (o : Option Text). subcommand_or_other s.rules o waiting k word h) no
        ∙ ap (λ b. cond b (h, trailing k) (long_or_other s.rules waiting word (long_of word) h)) open_word
        ∙ ap (λ o. long_or_other s.rules waiting word o h) is

    flag_first : turn_fault s names (stands false waiting) word ≡ [] → flag_word_fault s.rules s.args_override_self (long_of word) word h ≡ []
    flag_first e =
        sym (ap (λ o. other_fault s o word h) no ∙ ap (λ b. cond b [] (flag_word_fault s.rules s.args_override_self (long_of word) word h)) open_word)
        ∙ word_first false waiting word e

    pub long_first : (p : Text × Option Text) → long_of word ≡ Some p → turn_fault s names (stands false waiting) word ≡ []
        → long_fault s.rules s.args_override_self (arg_by_long s.rules p.0) p.1 h ≡ []
    long_first p is e = sym (ap (λ o. flag_word_fault s.rules s.args_override_self o word h) is) ∙ flag_first e

    -- what a long flag does
    pub long_turn : (p : Text × Option Text) → long_of word ≡ Some p → turn_fault s names (stands false waiting) word
        ≡ or_else (long_fault s.rules s.args_override_self (arg_by_long s.rules p.0) p.1 h)
        (step_fault s k (long_word s.rules waiting word p.0 p.1 h).0 (long_word s.rules waiting word p.0 p.1 h).1)
    long_turn p is =
        ap (λ (m : Held × Step). or_else (word_fault s names false waiting word h) (step_fault s k m.0 m.1)) (long_met p is)
        ∙ ap (λ x. or_else x (step_fault s k (long_word s.rules waiting word p.0 p.1 h).0 (long_word s.rules waiting word p.0 p.1 h).1))
        (ap (λ o. other_fault s o word h) no ∙ ap (λ b. cond b [] (flag_word_fault s.rules s.args_override_self (long_of word) word h)) open_word
        ∙ ap (λ o. flag_word_fault s.rules s.args_override_self o word h) is)

    pub long_after : (p : Text × Option Text) → long_of word ≡ Some p → walked s.rules names (stands false waiting) word
        ≡ after_step s.rules word (stands false waiting) (long_word s.rules waiting word p.0 p.1 h).0 (long_word s.rules waiting word p.0 p.1 h).1
    unfolding walked
    long_after p is = ap (λ (m : Held × Step). after_step s.rules word (stands false waiting) m.0 m.1) (long_met p is)

    pub short_first : (flags : Text) → long_of word ≡ None → short_of word ≡ Some flags → turn_fault s names (stands false waiting) word ≡ []
        → bundle_fault s.rules s.args_override_self flags h ≡ []
    short_first flags none is e =
        sym (ap (λ o. flag_word_fault s.rules s.args_override_self o word h) none
        ∙ ap (λ (o : Option Text). option_map_or (λ flags. bundle_fault s.rules s.args_override_self flags h) o []) is) ∙ flag_first e

-- the first flag of a bundle
pub bundle_first : (c : List Rule) (again : Bool) (x : ℕ) (xs : Text) (h : Held) (ch : ℕ) → h.skip ≡ 0 → slice_get (chars (x ∷ xs)) 0 ≡ Some ch
    → bundle_fault c again (x ∷ xs) h ≡ []
    → (rest : Text) × (next : Held → Faults) × (short_fault c again (arg_by_short c ch) rest (record h { skip = 0 }) next ≡ [])
unfolding flags_fault
bundle_first c again x xs h ch zero_skip first e =
    let at_zero : flags_fault c again (suc (length xs)) (x ∷ xs) 0 (record h { skip = 0 }) ≡ [] =
    ap (λ n. flags_fault c again (suc (length xs)) (x ∷ xs) n (record h { skip = 0 })) (sym zero_skip) ∙ e in
    let stepped : bundle_step_fault c again (Some ch) (x ∷ xs) 0 (record h { skip = 0 }) (flags_fault c again (length xs)) ≡ [] =
    ap (λ o. bundle_step_fault c again o (x ∷ xs) 0 (record h { skip = 0 }) (flags_fault c again (length xs))) (sym first) ∙ at_zero in
    (_, _, stepped)
