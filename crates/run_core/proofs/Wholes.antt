-- The changes of whole parts, from those of what was read of them.
use Rattle.std.proofs.Common.{◌≡◌, ◌≢◌, ℕ, ◌+◌, ◌<◌, ◌≤◌, ◌⊎◌, inl, inr, Bool, true, false, List, [], ◌∷◌, length, refl, sym, ap, ◌∙◌, subst, arith}
use Rattle.std.specs.Prelude.{◌==◌, Option, Some, None, Ok, slice_get, if◌then◌else◌}
use Rattle.std.proofs.lemmas.Bool.{cases_lt, eq-eqb, ne_eqb, eqb-true}
use Rattle.std.proofs.lemmas.Option.{slice_get_past, slice_get_within, slice_get-get_or, get_or_from_slice_get}
use Rattle.value_core.specs.declared.datum.Datum.{Datum}
use Rattle.value_core.specs.declared.kind.Elem.TheVariants as elem
use Rattle.value_core.specs.declared.kind.Kind.{Kind}
use Rattle.value_core.specs.Contents.{Contents, array, kind_of, IsContents}
use Rattle.value_bytes.specs.Spelling.{Spells, spelling}
use Rattle.decl_core.specs.declared.object.Operation.{Operation}
use Rattle.decl_core.specs.Bodies.{body_of}
use Rattle.decl_core.specs.Form.{Statements}
use Rattle.decl_core.specs.Touched.{Reads, Writes}
use Rattle.decl_core.specs.Meaning.{part_at, reply_before, apply_body, done}
use Rattle.decl_core.proofs.Footprints.{writes_are_reads, others_stay}
use Rattle.apply_core.specs.Fits.{IsNamed}
use Rattle.apply_core.proofs.HeldReads.{reads_held}
use Rattle.known_core.specs.Breaks.{changing}
use Rattle.known_core.specs.Known.{Agree, AgreeAt, KeepsAt, Keeps}
use Rattle.known_core.specs.Laws.{Says}
use Rattle.known_core.specs.Masks.{known_by}
use Rattle.known_core.specs.Partly.{partly_done}
use Rattle.known_core.specs.Wanted.{AreMasksFor}
use Rattle.known_core.proofs.Courses.{one_answer}
use Rattle.known_core.proofs.Filling.{contents_after}
use Rattle.known_core.proofs.Keeping.{KeepsBy, all_keeps}
use Rattle.known_core.proofs.AllKnown.{is_done as is_body}
use Rattle.run_core.specs.declared.judge.Change.{Change}
use Rattle.page_core.specs.Given.{AreSpelled, IsDone}
use Rattle.run_core.specs.Given.{IsChanged, AreChanges, bytes_for}
use Rattle.run_core.specs.Verdicts.{ReadAs, Rising, MayLeave}
use Rattle.run_core.specs.Reads.{pages_of, AreKnown}
use Rattle.run_core.specs.Wholes.{AreNewAs, AreWholeChanges, AreChangesOf}
use Rattle.run_core.proofs.Completing.{completion, some_one}
use Rattle.run_core.proofs.Deciding.{naming, unchanged, changed_not, texts_full, new_as}

-- each change, with the spelling of what its part holds afterwards
abbrev whole_of : List Contents → List Change → List Change
whole_of after [] = []
whole_of after (change ∷ rest) = record { part = change.part; bytes = spelling (part_at after change.part) } ∷ whole_of after rest

abbrev spelled_at : List Contents → ℕ → Option (List ℕ) → Option (List ℕ)
spelled_at after p None = None
spelled_at after p (Some bytes) = Some (spelling (part_at after p))

by_test : (b : Bool) (after : List Contents) (q p : ℕ) (bytes : List ℕ) (more : Option (List ℕ)) → (b ≡ true → q ≡ p) → (if b then Some (spelling (part_at after q)) else spelled_at after p more) ≡ spelled_at after p (if b then Some bytes else more)
by_test true after q p bytes more same = ap (λ r. Some (spelling (part_at after r))) (same refl)
by_test false after q p bytes more same = refl

-- the bytes of a part among them
whole_bytes : (after : List Contents) (changes : List Change) (p : ℕ) → bytes_for (whole_of after changes) p ≡ spelled_at after p (bytes_for changes p)
whole_bytes after [] p = refl
whole_bytes after (change ∷ rest) p =
    ap (λ (more : Option (List ℕ)). if change.part == p then Some (spelling (part_at after change.part)) else more) (whole_bytes after rest p)
    ∙ by_test (change.part == p) after change.part p change.bytes (bytes_for rest p) (eqb-true change.part p)

-- a part with new bytes is written
has_written : (statements : Statements) (from : ℕ) (changes : List Change) (p : ℕ) (bytes : List ℕ) → Rising statements from changes → bytes_for changes p ≡ Some bytes → Writes statements p
has_written statements from [] p bytes rises is = absurd cc
has_written statements from (change ∷ rest) p bytes rises is = by_place (change.part == p) refl is (has_written statements (change.part + 1) rest p bytes rises.2) where
  by_place : (b : Bool) → (change.part == p) ≡ b → (if b then Some change.bytes else bytes_for rest p) ≡ Some bytes → (bytes_for rest p ≡ Some bytes → Writes statements p) → Writes statements p
  by_place true same found behind = subst (Writes statements) (eqb-true change.part p same) rises.1
  by_place false other found behind = behind found

module _ (masks : List ℕ) (operation : Operation) (args : List Datum) (read : List (List ℕ)) (at : ℕ → List ℕ → Type 0) (seen left : List Contents) (reply : Option Datum) (spelled : AreSpelled (ReadAs read) operation seen) (few : length seen ≤ 16) (fit : AreMasksFor operation masks) (is : partly_done (known_by masks) (body_of operation) args seen ≡ Ok (changing left reply)) where
  -- on what is seen the body gives this
  gives : apply_body (body_of operation) args seen ≡ (done reply, left)
  gives = is_body (known_by masks) (body_of operation) args seen left reply is

  may_leave : MayLeave operation read seen left
  may_leave =
      let others = others_stay (body_of operation) args seen in
      let given : (apply_body (body_of operation) args seen).1 ≡ left = ap (λ x. x.1) gives in
      subst (MayLeave operation read seen) given (record { spelled = spelled; many = others.0; stay = others.1 })

  keeps_seen : Keeps (known_by masks) seen left
  keeps_seen = subst (KeepsBy (known_by masks) seen) is (all_keeps (known_by masks) args (body_of operation).statements (record { parts = seen; reply = reply_before (body_of operation).result }))

  module _ (whole after : List Contents) (spelled_whole : AreSpelled at operation whole) (agree : Agree (known_by masks) seen whole) (agrees : Agree (known_by masks) left after) (keeps : Keeps (known_by masks) whole after) where
    -- a part that stays in what is seen stays in the whole
    stay_at : (p : ℕ) → slice_get left p ≡ slice_get seen p → slice_get after p ≡ slice_get whole p
    stay_at p same = by_place (cases_lt p (length whole)) where
      by_place : (p < length whole) ⊎ (length whole ≤ p) → slice_get after p ≡ slice_get whole p
      by_place (inr past) = slice_get_past after p (omega (arith, past, keeps.many)) ∙ sym (slice_get_past whole p past)
      by_place (inl within) =
          let l = slice_get-get_or left p (array elem.Integer []) (omega (arith, within, keeps.many, agrees.many)) in
          let s = slice_get-get_or seen p (array elem.Integer []) (omega (arith, within, agree.many)) in
          let parts : part_at left p ≡ part_at seen p = some_one (part_at left p) (part_at seen p) (sym l ∙ same ∙ s) in
          let value : part_at after p ≡ part_at whole p = unchanged (known_by masks p) (part_at seen p) (part_at left p) (part_at whole p) (part_at after p) (agree.each p) (agrees.each p) (keeps.each p) parts in
          slice_get-get_or after p (array elem.Integer []) (omega (arith, within, keeps.many)) ∙ ap (λ v. Some v) value ∙ sym (slice_get-get_or whole p (array elem.Integer []) within)

    -- a part that is changed: what was read of it, its bytes before, and what its new bytes are made of
    record Renewed (p : ℕ) (bytes : List ℕ) : Type 0 where
      kind : Kind
      named : IsNamed operation p kind
      filled : List ℕ
      was_read : ReadAs read p filled
      before : List ℕ
      was : at p before
      made : AreNewAs kind (pages_of masks p) filled bytes before (spelling (part_at after p))
      changed : IsChanged (slice_get whole p) (slice_get after p) (Some (spelling (part_at after p)))

    renewed : (p : ℕ) (bytes : List ℕ) → Writes (body_of operation).statements p → IsChanged (slice_get seen p) (slice_get left p) (Some bytes) → Renewed p bytes
    renewed p bytes written new =
        let reads : Reads (body_of operation).statements p = writes_are_reads (body_of operation) p written in
        let held = reads_held operation p reads in
        let named : IsNamed operation p held.kind = record { named = reads; held = held.held } in
        let was = spelled p held.kind named in
        let stood = spelled_whole p held.kind named in
        let within : p < length seen = slice_get_within seen p was.2.0 was.2.1 in
        let seen_is : part_at seen p ≡ was.2.0 = get_or_from_slice_get seen p was.2.0 (array elem.Integer []) was.2.1 in
        let whole_is : part_at whole p ≡ stood.2.0 = get_or_from_slice_get whole p stood.2.0 (array elem.Integer []) stood.2.1 in
        let left_is : part_at left p ≡ new.0 = get_or_from_slice_get left p new.0 (array elem.Integer []) new.1 in
        let first : AgreeAt (known_by masks p) was.2.0 stood.2.0 = subst (λ v. AgreeAt (known_by masks p) v stood.2.0) seen_is (subst (λ w. AgreeAt (known_by masks p) (part_at seen p) w) whole_is (agree.each p)) in
        let last : AgreeAt (known_by masks p) new.0 (part_at after p) = subst (λ v. AgreeAt (known_by masks p) v (part_at after p)) left_is (agrees.each p) in
        let keep : KeepsAt (known_by masks p) stood.2.0 (part_at after p) = subst (λ v. KeepsAt (known_by masks p) v (part_at after p)) whole_is (keeps.each p) in
        let keep_seen : KeepsAt (known_by masks p) was.2.0 new.0 = subst (λ v. KeepsAt (known_by masks p) v new.0) seen_is (subst (λ w. KeepsAt (known_by masks p) (part_at seen p) w) left_is (keeps_seen.each p)) in
        let left_kind : kind_of new.0 ≡ held.kind = keep_seen.kind ∙ was.2.2.kind in
        let leaves : Spells bytes held.kind new.0 = record { kind = left_kind; contents = new.3.contents; spelled = new.3.spelled } in
        let contents : IsContents (part_at after p) = contents_after (known_by masks p) stood.2.0 new.0 (part_at after p) new.3.contents stood.2.2.contents last keep in
        let afterwards : Spells (spelling (part_at after p)) held.kind (part_at after p) = record { kind = sym last.kind ∙ left_kind; contents = contents; spelled = refl } in
        let stands : slice_get after p ≡ Some (part_at after p) = slice_get-get_or after p (array elem.Integer []) (omega (arith, within, agree.many, keeps.many)) in
        let other : slice_get whole p ≢ Some (part_at after p) = λ e.
        let same : part_at after p ≡ stood.2.0 = some_one (part_at after p) stood.2.0 (sym e ∙ stood.2.1) in
        new.2 (was.2.1 ∙ ap (λ v. Some v) (sym (changed_not (known_by masks p) was.2.0 new.0 stood.2.0 (part_at after p) first last keep_seen same))) in
        record {
          kind = held.kind;
          named = named;
          filled = was.0;
          was_read = was.1;
          before = stood.0;
          was = stood.1;
          made = new_as held.kind masks p was.0 bytes stood.0 (spelling (part_at after p)) was.2.0 new.0 stood.2.0 (part_at after p) was.2.2 leaves stood.2.2 afterwards keep_seen last keep (λ n k_is. texts_full masks operation p n held.kind named k_is (fit p (omega (arith, within, few))));
          changed = (part_at after p, stands, other, record { kind = refl; contents = contents; spelled = refl });
        }

    -- each change is made of pages of the whole
    made_all : (changes : List Change) (from : ℕ) → Rising (body_of operation).statements from changes → ((p : ℕ) → from ≤ p → IsChanged (slice_get seen p) (slice_get left p) (bytes_for changes p)) → AreWholeChanges masks operation read at changes (whole_of after changes)
    made_all [] from rises each = tt
    made_all (change ∷ rest) from rises each =
        let here : IsChanged (slice_get seen change.part) (slice_get left change.part) (Some change.bytes) =
        subst (λ b. IsChanged (slice_get seen change.part) (slice_get left change.part) (if b then Some change.bytes else bytes_for rest change.part)) (eq-eqb change.part change.part refl) (each change.part rises.0) in
        let r = renewed change.part change.bytes rises.1 here in (
          record { part = refl; kind = r.kind; named = r.named; filled = r.filled; was_read = r.was_read; before = r.before; was = r.was; made = r.made },
          made_all rest (change.part + 1) rises.2 (λ p behind.
              let apart : change.part ≡ p → ⊥ = λ e. absurd (omega (arith, behind, e)) in
              subst (λ b. IsChanged (slice_get seen p) (slice_get left p) (if b then Some change.bytes else bytes_for rest p)) (ne_eqb change.part p apart) (each p (omega (arith, behind, rises.0)))),
        )

    -- what is changed of what is seen is changed of the whole, and nothing else
    are_all : (changes : List Change) → Rising (body_of operation).statements 0 changes → AreChanges changes seen left → AreChanges (whole_of after changes) whole after
    are_all changes rises all p = by_bytes (bytes_for changes p) refl (all p) where
      by_bytes : (found : Option (List ℕ)) → bytes_for changes p ≡ found → IsChanged (slice_get seen p) (slice_get left p) found → IsChanged (slice_get whole p) (slice_get after p) (bytes_for (whole_of after changes) p)
      by_bytes None is_none same = subst (IsChanged (slice_get whole p) (slice_get after p)) (sym (whole_bytes after changes p ∙ ap (spelled_at after p) is_none)) (stay_at p same)
      by_bytes (Some bytes) is_some new =
          subst (IsChanged (slice_get whole p) (slice_get after p)) (sym (whole_bytes after changes p ∙ ap (spelled_at after p) is_some)) (renewed p bytes (has_written (body_of operation).statements 0 changes p bytes rises is_some) new).changed

  -- what was done
  pub is_done : (changes : List Change) → AreKnown masks operation read at → Rising (body_of operation).statements 0 changes → ((before : List Contents) → MayLeave operation read before left → AreChanges changes before left) → IsDone at operation args reply (AreChangesOf masks operation read at changes)
  is_done changes known rises all =
      let f = completion masks operation read at seen spelled known (naming operation) in
      let after : List Contents = (apply_body (body_of operation) args f.whole).1 in
      let says = subst (λ r. Says (known_by masks) r f.whole (apply_body (body_of operation) args f.whole)) is (one_answer (known_by masks) (body_of operation) args seen f.whole f.agree) in
      let changed : AreChanges changes seen left = all seen may_leave in
      record {
        parts = f.whole;
        spelled = f.spelled_whole;
        gives = says.reply;
        leaves = record {
          wholes = whole_of after changes;
          made = made_all f.whole after f.spelled_whole f.agree says.agrees says.keeps changes 0 rises (λ p from. changed p);
          are = are_all f.whole after f.spelled_whole f.agree says.agrees says.keeps changes rises changed;
        };
      }
