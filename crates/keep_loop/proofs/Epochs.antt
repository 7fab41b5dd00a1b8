-- Journals that begin anew, turn by turn.
use Rattle.std.proofs.Common.{◌≡◌, ◌⊎◌, inl, inr, ℕ, List, [], ◌∷◌, ◌++◌, refl, sym, ◌∙◌, ap, subst, append_assoc, length, eqb-true, arith}
use Rattle.std.specs.Prelude.{Bool, true, false, Option, Some, None, if◌then◌else◌, ◌==◌}
use Rattle.std.proofs.lemmas.Bool.{eqb-false}
use Rattle.std.proofs.lemmas.List.{append-nil, append_cancel_left, length-append, nil_from_length}
use Rattle.keep_loop.specs.Texts.{Begins}
use Rattle.keep_loop.specs.Turns.{Turn, added_by}
use Rattle.keep_loop.specs.Seen.{Happened, added_in, stored_in}
use Rattle.keep_loop.specs.Seen.Happened.{Came, Ended, Broke, Wrote, Noticed, Added, Stored, Changed}
use Rattle.keep_loop.specs.Epochs.{Rules, front_in, before_in, since_in, stored_since, BeginsNot, BeginsNone, change_to, Agrees, AgreesIn, IsAhead, HasBegun}

none_of_none : (r t : List ℕ) → r ++ t ≡ [] → r ≡ []
none_of_none r t is = nil_from_length r (let e = sym (length-append r t) ∙ ap length is in omega (arith, e))

-- nothing more stands where as much stands as before
pub nothing_more : (a r t : List ℕ) → (a ++ r) ++ t ≡ a → a ++ r ≡ a
nothing_more a r t is =
    ap (λ l. a ++ l) (none_of_none r t (append_cancel_left a (r ++ t) [] (sym (append_assoc a r t) ∙ is ∙ sym (append-nil a)))) ∙ append-nil a

pub none_last : (j : ℕ) (ts : List Turn) (t : Turn) → BeginsNone j ts → BeginsNot j t.asked → BeginsNone j (ts ++ t ∷ [])
none_last j [] t none not = (not, tt)
none_last j (u ∷ ts) t none not = (none.0, none_last j ts t none.1 not)

-- a turn in which the journal does not begin anew
pub agrees_last : (j : ℕ) (front : Option (List ℕ)) (before : List ℕ) (ts : List Turn) (t : Turn) → BeginsNot j t.asked → Agrees j front before ts →
    Agrees j front before (ts ++ t ∷ [])
agrees_last j None before ts t not is = (none_last j ts t is.0 not, is.1)
agrees_last j (Some front) before ts t not is = record {
  earlier = is.earlier;
  since = is.since ++ t ∷ [];
  cut = ap (λ us. us ++ t ∷ []) is.cut ∙ append_assoc is.earlier (change_to j front ∷ is.since) (t ∷ []);
  none = none_last j is.since t is.none not;
  lines = is.lines;
}

-- so behind each of some turns, which are written in another way
pub agrees_on : (j : ℕ) (seen : List Happened) (kept later : List Turn) (t : Turn) → BeginsNot j t.asked → AgreesIn j seen (kept ++ later) →
    AgreesIn j seen (kept ++ (later ++ t ∷ []))
agrees_on j seen kept later t not is =
    subst (λ ts. AgreesIn j seen ts) (append_assoc kept later (t ∷ [])) (agrees_last j (front_in j seen) (before_in j seen) (kept ++ later) t not is)

module _ (journal : ℕ) (front : List ℕ) (seen : List Happened) (kept later : List Turn) where
  -- the journal has begun anew, and its object was told; all of its lines were handed on before
  pub agrees_changed : (j : ℕ) → added_in j seen ≡ added_by j (kept ++ later) → AgreesIn j seen (kept ++ later) →
      AgreesIn j (Changed journal front ∷ seen) (kept ++ (later ++ change_to journal front ∷ []))
  agrees_changed j all is = subst (λ ts. AgreesIn j (Changed journal front ∷ seen) ts) (append_assoc kept later (change_to journal front ∷ [])) (by (journal == j) refl)
    where
      by : (b : Bool) → (journal == j) ≡ b →
          Agrees j (if b then Some front else front_in j seen) (if b then added_in j seen else before_in j seen) ((kept ++ later) ++ change_to journal front ∷ [])
      by true same = record {
        earlier = kept ++ later;
        since = [];
        cut = ap (λ n. (kept ++ later) ++ change_to n front ∷ []) (eqb-true journal j same);
        none = tt;
        lines = all;
      }
      by false other =
          agrees_last j (front_in j seen) (before_in j seen) (kept ++ later) (change_to journal front) (λ e. absurd (let apart = eqb-false journal j other in omega (arith, apart, e))) is

-- its object was not told yet, for which the front stands
pub ahead : {S : Type 0} (rules : Rules S) (last : S) (journal : ℕ) (front : List ℕ) → rules.fronts last journal front → (seen : List Happened) (kept later : List Turn) (j : ℕ) →
    AgreesIn j seen (kept ++ later) → HasBegun rules last j (Changed journal front ∷ seen) (kept ++ later)
ahead {S} rules last journal front stands seen kept later j is = by (journal == j) refl
  where
    by : (b : Bool) → (journal == j) ≡ b →
        Agrees j (if b then Some front else front_in j seen) (if b then added_in j seen else before_in j seen) (kept ++ later)
        ⊎ IsAhead rules last j (Changed journal front ∷ seen) (kept ++ later)
    by true same =
        let at : journal ≡ j = eqb-true journal j same in
        inr (record {
          front = front;
          before = seen;
          just = ap (λ n. Changed n front ∷ seen) at;
          agrees = is;
          stands = subst (λ n. rules.fronts last n front) at stands;
        })
    by false other = inl is

-- what a journal was handed, in two parts
pub handed_twice : (j : ℕ) (seen : List Happened) → added_in j seen ≡ before_in j seen ++ since_in j seen
handed_twice j [] = refl
handed_twice j (Came who bytes ∷ seen) = handed_twice j seen
handed_twice j (Ended who ∷ seen) = handed_twice j seen
handed_twice j (Broke who ∷ seen) = handed_twice j seen
handed_twice j (Wrote who bytes ∷ seen) = handed_twice j seen
handed_twice j (Noticed note ∷ seen) = handed_twice j seen
handed_twice j (Added journal lines ∷ seen) =
    ap (λ (l : List ℕ). l ++ (if journal == j then lines else [])) (handed_twice j seen)
    ∙ append_assoc (before_in j seen) (since_in j seen) (if journal == j then lines else [])
handed_twice j (Stored journal ∷ seen) = handed_twice j seen
handed_twice j (Changed journal front ∷ seen) = by (journal == j) (handed_twice j seen)
  where
    by : (b : Bool) → added_in j seen ≡ before_in j seen ++ since_in j seen →
        added_in j seen ≡ (if b then added_in j seen else before_in j seen) ++ (if b then [] else since_in j seen)
    by true was = sym (append-nil (added_in j seen))
    by false was = was

begins_by : (a b : List ℕ) → b ≡ a → Begins a b
begins_by a b is = ([], is ∙ sym (append-nil a))

begins_behind : (front text more : List ℕ) → Begins front text → Begins front (text ++ more)
begins_behind front text more is = (is.0 ++ more, ap (λ (l : List ℕ). l ++ more) is.1 ∙ append_assoc front is.0 more)

-- what is stored was handed
pub stored_handed : (j : ℕ) (seen : List Happened) → Begins (stored_in j seen) (added_in j seen)
stored_handed j [] = ([], refl)
stored_handed j (Came who bytes ∷ seen) = stored_handed j seen
stored_handed j (Ended who ∷ seen) = stored_handed j seen
stored_handed j (Broke who ∷ seen) = stored_handed j seen
stored_handed j (Wrote who bytes ∷ seen) = stored_handed j seen
stored_handed j (Noticed note ∷ seen) = stored_handed j seen
stored_handed j (Added journal lines ∷ seen) = begins_behind (stored_in j seen) (added_in j seen) (if journal == j then lines else []) (stored_handed j seen)
stored_handed j (Stored journal ∷ seen) = by (journal == j) (stored_handed j seen)
  where
    by : (b : Bool) → Begins (stored_in j seen) (added_in j seen) → Begins (if b then added_in j seen else stored_in j seen) (added_in j seen)
    by true was = begins_by (added_in j seen) (added_in j seen) refl
    by false was = was
stored_handed j (Changed journal front ∷ seen) = stored_handed j seen

-- and is there, where what is stored since the last front is
pub stored_twice : (j : ℕ) (seen : List Happened) → Begins (stored_in j seen) (before_in j seen ++ stored_since j seen)
stored_twice j [] = ([], refl)
stored_twice j (Came who bytes ∷ seen) = stored_twice j seen
stored_twice j (Ended who ∷ seen) = stored_twice j seen
stored_twice j (Broke who ∷ seen) = stored_twice j seen
stored_twice j (Wrote who bytes ∷ seen) = stored_twice j seen
stored_twice j (Noticed note ∷ seen) = stored_twice j seen
stored_twice j (Added journal lines ∷ seen) = stored_twice j seen
stored_twice j (Stored journal ∷ seen) = by (journal == j) (stored_twice j seen)
  where
    by : (b : Bool) → Begins (stored_in j seen) (before_in j seen ++ stored_since j seen) →
        Begins (if b then added_in j seen else stored_in j seen) (before_in j seen ++ (if b then since_in j seen else stored_since j seen))
    by true was = begins_by (added_in j seen) (before_in j seen ++ since_in j seen) (sym (handed_twice j seen))
    by false was = was
stored_twice j (Changed journal front ∷ seen) = by (journal == j) (stored_twice j seen)
  where
    by : (b : Bool) → Begins (stored_in j seen) (before_in j seen ++ stored_since j seen) →
        Begins (stored_in j seen) ((if b then added_in j seen else before_in j seen) ++ (if b then [] else stored_since j seen))
    by true was = begins_behind (stored_in j seen) (added_in j seen) [] (stored_handed j seen)
    by false was = was
