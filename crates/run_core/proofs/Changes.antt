-- The parts that a body changed, found one after the other.
use Rattle.std.proofs.Common.{◌≡◌, ◌≢◌, ℕ, ◌+◌, ◌<◌, ◌≤◌, inl, ⊎_elim, List, [], ◌∷◌, ◌++◌, Option, Some, None, length, refl, sym, ap, subst, ◌∙◌, arith, length-append}
use Rattle.std.specs.Prelude.{◌==◌, slice_get, if◌then◌else◌}
use Rattle.std.specs.Option.{option_to_list}
use Rattle.std.proofs.lemmas.Bool.{cases_lt, eq-eqb, ne_eqb}
use Rattle.std.proofs.lemmas.List.{append-nil, nil_from_length}
use Rattle.std.proofs.lemmas.Option.{slice_get_past}
use Rattle.value_core.specs.Contents.{Contents, kind_of}
use Rattle.value_bytes.specs.Spelling.{Spells, spelling}
use Rattle.value_bytes.proofs.Unique.{unique}
use Rattle.decl_core.specs.declared.object.Operation.{Operation}
use Rattle.decl_core.specs.Bodies.{body_of}
use Rattle.decl_core.specs.Form.{Statements}
use Rattle.decl_core.specs.Touched.{Reads, Writes}
use Rattle.decl_core.proofs.Footprints.{writes_are_reads}
use Rattle.run_core.specs.declared.judge.Change.{Change}
use Rattle.run_core.specs.Given.{IsChanged, AreChanges, bytes_for}
use Rattle.run_core.specs.Verdicts.{ReadAs, Rising, IsChangeOf, IsRewritten, IsStep, MayLeave}
use Rattle.apply_core.proofs.HeldReads.{reads_held}

-- the change of a part that is written is found from its bytes before and its value after
pub is_rewritten : (statements : Statements) (read : List (List ℕ)) (after : List Contents) (n : ℕ) (bytes : List ℕ) (value : Contents) (change : Option Change) → Writes statements n → ReadAs read n bytes → slice_get after n ≡ Some value → IsChangeOf bytes n value change → IsStep statements read after n change
is_rewritten statements read after n bytes value change written there held is = inl (record { written = written; bytes = bytes; there = there; value = value; held = held; is = is })

-- the bytes of a change
abbrev bytes_in : Option Change → Option (List ℕ)
bytes_in None = None
bytes_in (Some change) = Some change.bytes

module _ (operation : Operation) (read : List (List ℕ)) (before after : List Contents) (left : MayLeave operation read before after) (n : ℕ) where
  -- a part that is written is changed by its change
  rewritten : (change : Option Change) → IsRewritten (body_of operation).statements read after n change → IsChanged (slice_get before n) (slice_get after n) (bytes_in change)
  rewritten None w =
      let reads : Reads (body_of operation).statements n = writes_are_reads (body_of operation) n w.written in
      let held = reads_held operation n reads in
      let was = left.spelled n held.kind (record { named = reads; held = held.held }) in
      let bytes : was.0 ≡ w.bytes = cc in
      let is : Spells w.bytes (kind_of w.value) w.value = w.is in
      let same : was.2.0 ≡ w.value = unique w.bytes held.kind (kind_of w.value) was.2.0 w.value (subst (λ b. Spells b held.kind was.2.0) bytes was.2.2) is in
      w.held ∙ ap (λ v. Some v) (sym same) ∙ sym was.2.1
  rewritten (Some change) w =
      let reads : Reads (body_of operation).statements n = writes_are_reads (body_of operation) n w.written in
      let held = reads_held operation n reads in
      let was = left.spelled n held.kind (record { named = reads; held = held.held }) in
      let bytes : was.0 ≡ w.bytes = cc in
      let other : slice_get before n ≢ Some w.value = λ e.
      let same : was.2.0 ≡ w.value = cc in
      w.is.2 (w.is.1.spelled ∙ ap spelling (sym same) ∙ sym was.2.2.spelled ∙ bytes) in
      (w.value, w.held, other, w.is.1)

  -- a part is changed by its change, or stays
  changed : (change : Option Change) → IsStep (body_of operation).statements read after n change → IsChanged (slice_get before n) (slice_get after n) (bytes_in change)
  changed change = ⊎_elim (rewritten change) (λ k. subst (λ c. IsChanged (slice_get before n) (slice_get after n) (bytes_in c)) (sym k.1) (left.stay n k.0))

-- these are changes of parts before this one
abbrev Below : ℕ → List Change → Type 0
Below n [] = Unit {0}
Below n (change ∷ rest) = (change.part < n) × Below n rest

below_more : (n : ℕ) (changes : List Change) → Below n changes → Below (n + 1) changes
below_more n [] h = tt
below_more n (change ∷ rest) h = (omega (arith, h.0), below_more n rest h.1)

below_with : (n : ℕ) (changes : List Change) (last : Change) → Below n changes → last.part ≡ n → Below (n + 1) (changes ++ last ∷ [])
below_with n [] last h is = (omega (arith, is), tt)
below_with n (change ∷ rest) last h is = (omega (arith, h.0), below_with n rest last h.1 is)

-- a part behind them has no new bytes
none_behind : (n p : ℕ) (changes : List Change) → Below n changes → n ≤ p → bytes_for changes p ≡ None
none_behind n p [] h le = refl
none_behind n p (change ∷ rest) h le =
    let apart : change.part ≡ p → ⊥ = λ e. absurd (omega (arith, h.0, le, e)) in
    subst (λ b. (if b then Some change.bytes else bytes_for rest p) ≡ None) (sym (ne_eqb change.part p apart)) (none_behind n p rest h.1 le)

-- another part has the bytes that it had
bytes_before : (p : ℕ) (changes : List Change) (last : Change) → (last.part ≡ p → ⊥) → bytes_for (changes ++ last ∷ []) p ≡ bytes_for changes p
bytes_before p [] last apart = subst (λ b. (if b then Some last.bytes else None) ≡ None) (sym (ne_eqb last.part p apart)) refl
bytes_before p (change ∷ rest) last apart = ap (λ o. if change.part == p then Some change.bytes else o) (bytes_before p rest last apart)

-- the last part has its own
bytes_last : (n : ℕ) (changes : List Change) (last : Change) → Below n changes → last.part ≡ n → bytes_for (changes ++ last ∷ []) n ≡ Some last.bytes
bytes_last n [] last h is = subst (λ b. (if b then Some last.bytes else None) ≡ Some last.bytes) (sym (eq-eqb last.part n is)) refl
bytes_last n (change ∷ rest) last h is =
    let apart : change.part ≡ n → ⊥ = λ e. absurd (omega (arith, h.0, e)) in
    subst (λ b. (if b then Some change.bytes else bytes_for (rest ++ last ∷ []) n) ≡ Some last.bytes) (sym (ne_eqb change.part n apart)) (bytes_last n rest last h.1 is)

rising_with : (statements : Statements) (n from : ℕ) (changes : List Change) (last : Change) → Rising statements from changes → Below n changes → from ≤ n → Writes statements n → last.part ≡ n → Rising statements from (changes ++ last ∷ [])
rising_with statements n from [] last rises h le written is = (omega (arith, le, is), subst (Writes statements) (sym is) written, tt)
rising_with statements n from (change ∷ rest) last rises h le written is = (rises.0, rises.1, rising_with statements n (change.part + 1) rest last rises.2 h.1 (omega (arith, h.0)) written is)

-- these are the changes of the parts before this one
pub record Changing (operation : Operation) (read : List (List ℕ)) (after : List Contents) (n : ℕ) (changes : List Change) : Type 0 where
  pub rising : Rising (body_of operation).statements 0 changes
  pub below : Below n changes
  pub few : length changes ≤ n
  pub within : n ≤ length after
  pub each : (before : List Contents) → MayLeave operation read before after → (p : ℕ) → p < n → IsChanged (slice_get before p) (slice_get after p) (bytes_for changes p)

module _ (operation : Operation) (read : List (List ℕ)) (after : List Contents) where
  pub start : Changing operation read after 0 []
  start = record { rising = tt; below = tt; few = omega arith; within = omega arith; each = λ before left p h. absurd (omega (arith, h)) }

  abbrev ChangedAt : List Contents → ℕ → Option (List ℕ) → Type 0
  ChangedAt before p bytes = IsChanged (slice_get before p) (slice_get after p) bytes

  -- the next part stays
  none_more : (n : ℕ) (changes : List Change) → Changing operation read after n changes → n < length after → IsStep (body_of operation).statements read after n None → Changing operation read after (n + 1) changes
  none_more n changes so lt step = record {
    rising = so.rising;
    below = below_more n changes so.below;
    few = omega (arith, so.few);
    within = omega (arith, lt);
    each = each;
  } where
    each : (before : List Contents) → MayLeave operation read before after → (p : ℕ) → p < n + 1 → ChangedAt before p (bytes_for changes p)
    each before left p le = ⊎_elim (so.each before left p) (λ end. subst (λ q. ChangedAt before q (bytes_for changes q)) (omega (arith, le, end)) (subst (ChangedAt before n) (sym (none_behind n n changes so.below (omega arith))) (changed operation read before after left n None step))) (cases_lt p n)

  -- the next part is changed
  one_more : (n : ℕ) (changes : List Change) (last : Change) → Changing operation read after n changes → n < length after → IsRewritten (body_of operation).statements read after n (Some last) → Changing operation read after (n + 1) (changes ++ last ∷ [])
  one_more n changes last so lt w = record {
    rising = rising_with (body_of operation).statements n 0 changes last so.rising so.below (omega arith) w.written w.is.0;
    below = below_with n changes last so.below w.is.0;
    few = omega (arith, so.few, length-append changes (last ∷ []));
    within = omega (arith, lt);
    each = each;
  } where
    earlier : (before : List Contents) → MayLeave operation read before after → (p : ℕ) → p < n → ChangedAt before p (bytes_for (changes ++ last ∷ []) p)
    earlier before left p h =
        let apart : last.part ≡ p → ⊥ = λ e. absurd (omega (arith, w.is.0, e, h)) in
        subst (ChangedAt before p) (sym (bytes_before p changes last apart)) (so.each before left p h)

    here : (before : List Contents) → MayLeave operation read before after → ChangedAt before n (bytes_for (changes ++ last ∷ []) n)
    here before left = subst (ChangedAt before n) (sym (bytes_last n changes last so.below w.is.0)) (rewritten operation read before after left n (Some last) w)

    each : (before : List Contents) → MayLeave operation read before after → (p : ℕ) → p < n + 1 → ChangedAt before p (bytes_for (changes ++ last ∷ []) p)
    each before left p le = ⊎_elim (earlier before left p) (λ end. subst (λ q. ChangedAt before q (bytes_for (changes ++ last ∷ []) q)) (omega (arith, le, end)) (here before left)) (cases_lt p n)

  pub next : (n : ℕ) (changes : List Change) (change : Option Change) → Changing operation read after n changes → n < length after → IsStep (body_of operation).statements read after n change → Changing operation read after (n + 1) (changes ++ option_to_list change)
  next n changes None so lt step = subst (Changing operation read after (n + 1)) (sym (append-nil changes)) (none_more n changes so lt step)
  next n changes (Some last) so lt step = ⊎_elim (one_more n changes last so lt) (λ k. absurd cc) step

  module _ (n : ℕ) (changes : List Change) (end : length after ≤ n) (so : Changing operation read after n changes) where
    -- all parts
    pub all : (before : List Contents) → MayLeave operation read before after → AreChanges changes before after
    all before left p = ⊎_elim (so.each before left p) behind (cases_lt p n) where
      behind : n ≤ p → ChangedAt before p (bytes_for changes p)
      behind le =
          let past : slice_get after p ≡ slice_get before p = slice_get_past after p (omega (arith, end, le)) ∙ sym (slice_get_past before p (omega (arith, end, le, left.many))) in
          subst (ChangedAt before p) (sym (none_behind n p changes so.below le)) past

    pub few : length changes ≤ length after
    few = omega (arith, so.few, so.within)

    -- where there are no parts, there are no changes
    pub none : after ≡ [] → changes ≡ []
    none is = nil_from_length changes (omega (arith, few, ap length is))
