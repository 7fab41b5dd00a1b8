-- What is recovered of lines that were added.
use Rattle.std.proofs.Common.{◌≡◌, ◌⊎◌, ℕ, suc, inl, inr, false, List, [], ◌∷◌, ◌++◌, ◌==◌, refl, sym, ap, ◌∙◌, append_assoc, subst, arith}
use Rattle.std.specs.Prelude.{Option, Some, None}
use Rattle.std.specs.Str.{str_to_ascii_lowercase}
use Rattle.std.proofs.lemmas.List.{append-nil}
use Rattle.decl_core.specs.ObjectForm.{ObjectForm}
use Rattle.live_core.specs.Front.{Opening}
use Rattle.audit_core.specs.EpochSaid.{Says, Asked, a_start, an_end, a_cancel, a_name}
use Rattle.audit_core.specs.Steps.{Step, ran, cancelled, named, Begun, Heard, nothing_heard}
use Rattle.audit_core.specs.EpochTells.{Tells, Tell, start_told, end_told, cancel_told, name_told}
use Rattle.audit_core.specs.Sound.{IsCut}
use Rattle.audit_core.proofs.EpochExact.{tells_once}
use Rattle.audit_core.proofs.EpochSaying.{says_once}
use Rattle.recover_core.specs.Lines.{IsLine, AreLines, joined}
use Rattle.recover_core.specs.Playing.{begun_by}
use Rattle.live_core.specs.HostedSteps as hosted
use Rattle.history_law.specs.Happens.{all_happen}
use Rattle.history_law.specs.WrittenRead.{Adds, FrontIsRead, AllIsRead, StoredIsRead, NoFaultIsFound}
use Rattle.history_law.specs.Told.{heard_of, AreTold}
use Rattle.history_law.proofs.WrittenTelling.{steps_are_told}

-- texts of lines

no_end : (b : ℕ) → (b == 10) ≡ false → b ≡ 10 → ⊥
no_end b other is = let so : (10 == 10) ≡ false = subst (λ n. (n == 10) ≡ false) is other in cc

empty_no : (x : ℕ) (xs ys : List ℕ) → xs ++ x ∷ ys ≡ [] → ⊥
empty_no x [] ys is = cc
empty_no x (y ∷ xs) ys is = cc

head_same : (x y : ℕ) (xs ys : List ℕ) → x ∷ xs ≡ y ∷ ys → (x ≡ y) × (xs ≡ ys)
head_same x y xs ys is = (cc, cc)

line_head : (b : ℕ) (line : List ℕ) → IsLine (b ∷ line) → (b == 10) ≡ false
line_head b line is = is 0 b (omega arith)

line_tail : (b : ℕ) (line : List ℕ) → IsLine (b ∷ line) → IsLine line
line_tail b line is = λ k d inside. is (suc k) d (omega (arith, inside))

-- the first line of a text is one
first_once : (a b x y : List ℕ) → IsLine a → IsLine b → a ++ 10 ∷ x ≡ b ++ 10 ∷ y → (a ≡ b) × (x ≡ y)
first_once [] [] x y la lb is = (refl, (head_same 10 10 x y is).1)
first_once [] (c ∷ b) x y la lb is = absurd (no_end c (line_head c b lb) (sym (head_same 10 c x (b ++ 10 ∷ y) is).0))
first_once (c ∷ a) [] x y la lb is = absurd (no_end c (line_head c a la) (head_same c 10 (a ++ 10 ∷ x) y is).0)
first_once (c ∷ a) (d ∷ b) x y la lb is =
    let h = head_same c d (a ++ 10 ∷ x) (b ++ 10 ∷ y) is in
    let on = first_once a b x y (line_tail c a la) (line_tail d b lb) h.1 in
    (ap (λ n. n ∷ a) h.0 ∙ ap (λ l. d ∷ l) on.0, on.1)

-- lines, of a text that goes on with more bytes, are the first of its lines, and what the others tell goes on behind them
record Behind (first all : List (List ℕ)) (more : List ℕ) : Type 0 where
  rest : List (List ℕ)
  is : all ≡ first ++ rest
  text : joined rest ≡ more

lines_begin : (first all : List (List ℕ)) (more : List ℕ) → AreLines first → AreLines all → joined all ≡ joined first ++ more → Behind first all more
lines_begin [] all more lf la is = record { rest = all; is = refl; text = is }
lines_begin (l ∷ first) [] more lf la is =
    absurd (empty_no 10 l (joined first ++ more) (sym (is ∙ append_assoc (l ++ 10 ∷ []) (joined first) more ∙ append_assoc l (10 ∷ []) (joined first ++ more))))
lines_begin (l ∷ first) (m ∷ all) more lf la is =
    let one : m ++ 10 ∷ joined all ≡ l ++ 10 ∷ (joined first ++ more) =
    sym (append_assoc m (10 ∷ []) (joined all)) ∙ is ∙ append_assoc (l ++ 10 ∷ []) (joined first) more ∙ append_assoc l (10 ∷ []) (joined first ++ more) in
    let two = first_once m l (joined all) (joined first ++ more) la.0 lf.0 one in
    let on = lines_begin first all more lf.1 la.1 two.1 in
    record { rest = on.rest; is = ap (λ x. x ∷ all) two.0 ∙ ap (λ xs. l ∷ xs) on.is; text = on.text }

ends_in : (l more : List ℕ) → IsLine (l ++ 10 ∷ more) → ⊥
ends_in [] more is = no_end 10 (line_head 10 more is) refl
ends_in (b ∷ l) more is = ends_in l more (line_tail b (l ++ 10 ∷ more) is)

-- no line ends in bytes without the end of one
no_lines : (lines : List (List ℕ)) (rest : List ℕ) → IsLine rest → joined lines ≡ rest → lines ≡ []
no_lines [] rest is same = refl
no_lines (l ∷ lines) rest is same = absurd (ends_in l (joined lines) (subst IsLine (sym (same' l lines rest same)) is))
  where
    same' : (l : List ℕ) (lines : List (List ℕ)) (rest : List ℕ) → joined (l ∷ lines) ≡ rest → l ++ 10 ∷ joined lines ≡ rest
    same' l lines rest same = sym (append_assoc l (10 ∷ []) (joined lines)) ∙ same

-- lines with which a text begins are the first of its lines, whatever has no end behind these
lines_begin_open : (first all : List (List ℕ)) (rest more : List ℕ) → AreLines first → AreLines all → IsLine rest → joined all ++ rest ≡ joined first ++ more →
    (behind : List (List ℕ)) × (all ≡ first ++ behind)
lines_begin_open [] all rest more lf la loose is = (all, refl)
lines_begin_open (l ∷ first) [] rest more lf la loose is =
    absurd (ends_in l (joined first ++ more) (subst IsLine (is ∙ append_assoc (l ++ 10 ∷ []) (joined first) more ∙ append_assoc l (10 ∷ []) (joined first ++ more)) loose))
lines_begin_open (l ∷ first) (m ∷ all) rest more lf la loose is =
    let one : m ++ 10 ∷ (joined all ++ rest) ≡ l ++ 10 ∷ (joined first ++ more) =
    sym (append_assoc m (10 ∷ []) (joined all ++ rest)) ∙ sym (append_assoc (m ++ 10 ∷ []) (joined all) rest) ∙ is ∙ append_assoc (l ++ 10 ∷ []) (joined first) more ∙ append_assoc l (10 ∷ []) (joined first ++ more) in
    let two = first_once m l (joined all ++ rest) (joined first ++ more) la.0 lf.0 one in
    let on = lines_begin_open first all rest more lf.1 la.1 loose two.1 in
    (on.0, ap (λ x. x ∷ all) two.0 ∙ ap (λ xs. l ∷ xs) on.1)

-- the first lines of those of which one is the last: all of them, or among the others
first_of_last : (first behind kept : List (List ℕ)) (last : List ℕ) → first ++ behind ≡ kept ++ last ∷ [] →
    (first ≡ kept ++ last ∷ []) ⊎ ((more : List (List ℕ)) × (kept ≡ first ++ more))
first_of_last [] behind kept last is = inr (kept, refl)
first_of_last (x ∷ []) behind [] last is = inl (ap (λ y. y ∷ []) (heads x last behind [] is).0)
  where
    heads : (a b : List ℕ) (xs ys : List (List ℕ)) → a ∷ xs ≡ b ∷ ys → (a ≡ b) × (xs ≡ ys)
    heads a b xs ys is = (cc, cc)
first_of_last (x ∷ y ∷ first) behind [] last is = cc
first_of_last (x ∷ first) behind (k ∷ kept) last is = goes_on (first_of_last first behind kept last (heads x k (first ++ behind) (kept ++ last ∷ []) is).1)
  where
    heads : (a b : List ℕ) (xs ys : List (List ℕ)) → a ∷ xs ≡ b ∷ ys → (a ≡ b) × (xs ≡ ys)
    heads a b xs ys is = (cc, cc)

    same : x ≡ k
    same = (heads x k (first ++ behind) (kept ++ last ∷ []) is).0

    goes_on : (first ≡ kept ++ last ∷ []) ⊎ ((more : List (List ℕ)) × (kept ≡ first ++ more)) →
        (x ∷ first ≡ k ∷ (kept ++ last ∷ [])) ⊎ ((more : List (List ℕ)) × (k ∷ kept ≡ x ∷ (first ++ more)))
    goes_on (inl all) = inl (ap (λ y. y ∷ first) same ∙ ap (λ ys. k ∷ ys) all)
    goes_on (inr (more, some)) = inr (more, ap (λ y. y ∷ kept) (sym same) ∙ ap (λ ys. x ∷ ys) some)

-- what lines told

some_none : {X : Type 0} {x : X} → ◌≡◌ {A = Option X} (Some x) None → ⊥
some_none is = cc

module _ (o : ObjectForm) (e : Begun) where
  tell_split : (heard : Heard) (xs ys : List (List ℕ)) (after : Heard) → Tell o e heard (xs ++ ys) after → (mid : Heard) × Tell o e heard xs mid × Tell o e mid ys after
  tell_split heard [] ys after told = (heard, refl, told)
  tell_split heard (x ∷ xs) ys after (mid, one, told) = let on = tell_split mid xs ys after told in (on.0, (mid, one, on.1), on.2)

  tell_once : (heard : Heard) (xs : List (List ℕ)) (a b : Heard) → Tell o e heard xs a → Tell o e heard xs b → a ≡ b
  tell_once heard [] a b first second = first ∙ sym second
  tell_once heard (x ∷ xs) a b (mid, one, first) (other, two, second) =
      tell_once other xs a b (subst (λ h. Tell o e h xs a) (tells_once o e heard x mid other one two) first) second

  -- a line puts at most one step in front
  one_more : (heard : Heard) (line : List ℕ) (after : Heard) → Tells o e heard line after → (later : List Step) × (after.steps ≡ later ++ heard.steps)
  one_more heard line after (start_told says is few) = ([], refl)
  one_more heard line after (end_told {reply = r} {call = c} says runs same) = (ran c r ∷ [], refl)
  one_more heard line after (cancel_told {call = c} says is) = (cancelled c ∷ [], refl)
  one_more heard line after (name_told {session = s} {client = c} says rests is spelled) = (named s (str_to_ascii_lowercase c) ∷ [], refl)

  more_steps : (heard : Heard) (lines : List (List ℕ)) (after : Heard) → Tell o e heard lines after → (later : List Step) × (after.steps ≡ later ++ heard.steps)
  more_steps heard [] after same = ([], ap (λ (h : Heard). h.steps) same)
  more_steps heard (line ∷ lines) after (mid, one, told) =
      let first = one_more heard line mid one in
      let on = more_steps mid lines after told in
      (on.0 ++ first.0, on.1 ∙ ap (λ x. on.0 ++ x) first.1 ∙ sym (append_assoc on.0 first.0 heard.steps))

  -- a line that tells of a start leaves a call running
  no_start : (heard : Heard) (line : List ℕ) (after : Heard) (asked : Asked) → Says line (a_start asked) → after.running ≡ None → Tells o e heard line after → ⊥
  no_start heard line after asked says rests (start_told its is few) = some_none rests
  no_start heard line after asked says rests (end_told {number = n} {reply = r} its runs same) = let s = says_once line (a_start asked) (an_end n r) says its in cc
  no_start heard line after asked says rests (cancel_told {asked = y} its is) = let s = says_once line (a_start asked) (a_cancel y) says its in cc
  no_start heard line after asked says rests (name_told {session = k} {client = m} its rest is spelled) = let s = says_once line (a_start asked) (a_name k m) says its in cc

  -- the first lines of those that tell these steps
  cut_told : (all first kept : List (List ℕ)) (found steps : List Step) (rest : List (List ℕ)) → Tell o e nothing_heard all (heard_of steps) → all ≡ first ++ rest → IsCut first kept → Tell o e nothing_heard kept (heard_of found) →
      (later : List Step) × (steps ≡ later ++ found)
  cut_told all first kept found steps rest told is cut read =
      let behind : (more : List (List ℕ)) × (all ≡ kept ++ more) = by_cut cut in
      let two = tell_split nothing_heard kept behind.0 (heard_of steps) (subst (λ ls. Tell o e nothing_heard ls (heard_of steps)) behind.1 told) in
      let same = tell_once nothing_heard kept two.0 (heard_of found) two.1 read in
      more_steps (heard_of found) behind.0 (heard_of steps) (subst (λ h. Tell o e h behind.0 (heard_of steps)) same two.2)
    where
      by_cut : IsCut first kept → (more : List (List ℕ)) × (all ≡ kept ++ more)
      by_cut (inl same) = (rest, is ∙ ap (λ x. x ++ rest) same)
      by_cut (inr (last, asked, says, so)) = (last ∷ rest, is ∙ ap (λ x. x ++ rest) so ∙ append_assoc kept (last ∷ []) rest)

  -- all lines of those that tell these steps
  all_told : (all kept : List (List ℕ)) (found steps : List Step) → Tell o e nothing_heard all (heard_of steps) → IsCut all kept → Tell o e nothing_heard kept (heard_of found) → steps ≡ found
  all_told all kept found steps told (inl same) read =
      ap (λ (h : Heard). h.steps) (tell_once nothing_heard kept (heard_of steps) (heard_of found) (subst (λ ls. Tell o e nothing_heard ls (heard_of steps)) same told) read)
  all_told all kept found steps told (inr (last, asked, says, is)) read =
      let two = tell_split nothing_heard kept (last ∷ []) (heard_of steps) (subst (λ ls. Tell o e nothing_heard ls (heard_of steps)) is told) in
      let same = tell_once nothing_heard kept two.0 (heard_of found) two.1 read in
      let more : Tell o e (heard_of found) (last ∷ []) (heard_of steps) = subst (λ h. Tell o e h (last ∷ []) (heard_of steps)) same two.2 in
      let one : Tells o e (heard_of found) last (heard_of steps) = subst (Tells o e (heard_of found) last) (sym more.2) more.1 in
      absurd (no_start (heard_of found) last (heard_of steps) asked says refl one)

  -- lines behind which nothing runs are among those that are kept
  stored_told : (first behind all kept : List (List ℕ)) (steps found : List Step) → Tell o e nothing_heard first (heard_of steps) → all ≡ first ++ behind → IsCut all kept →
      Tell o e nothing_heard kept (heard_of found) → (read : List Step) × (found ≡ read ++ steps)
  stored_told first behind all kept steps found told is cut read = by_cut cut
    where
      by_front : (more : List (List ℕ)) → kept ≡ first ++ more → (read : List Step) × (found ≡ read ++ steps)
      by_front more so =
          let two = tell_split nothing_heard first more (heard_of found) (subst (λ ls. Tell o e nothing_heard ls (heard_of found)) so read) in
          let same = tell_once nothing_heard first two.0 (heard_of steps) two.1 told in
          more_steps (heard_of steps) more (heard_of found) (subst (λ h. Tell o e h more (heard_of found)) same two.2)

      not_last : (last : List ℕ) (asked : Asked) → Says last (a_start asked) → first ≡ kept ++ last ∷ [] → ⊥
      not_last last asked says so =
          let two = tell_split nothing_heard kept (last ∷ []) (heard_of steps) (subst (λ ls. Tell o e nothing_heard ls (heard_of steps)) so told) in
          let one : Tells o e two.0 last (heard_of steps) = subst (Tells o e two.0 last) (sym two.2.2) two.2.1 in
          no_start two.0 last (heard_of steps) asked says refl one

      by_last : (last : List ℕ) (asked : Asked) → Says last (a_start asked) → (first ≡ kept ++ last ∷ []) ⊎ ((more : List (List ℕ)) × (kept ≡ first ++ more)) →
          (read : List Step) × (found ≡ read ++ steps)
      by_last last asked says (inl so) = absurd (not_last last asked says so)
      by_last last asked says (inr (more, so)) = by_front more so

      by_cut : IsCut all kept → (read : List Step) × (found ≡ read ++ steps)
      by_cut (inl same) = by_front behind (sym same ∙ is)
      by_cut (inr (last, asked, says, so)) = by_last last asked says (first_of_last first behind kept last (sym is ∙ so))

-- the lines of what happened
told_of : (o : ObjectForm) (f : Opening) (text : List ℕ) (a : Adds o f text) → AreTold o (begun_by f) nothing_heard text (all_happen a.all []) a.new
told_of o f text a = steps_are_told o (begun_by f) nothing_heard a.old a.new text a.all a.names a.stands

pub front_is_read : FrontIsRead
front_is_read o h f bytes text found more r a cut b =
    let told = told_of o f text a in
    let same : joined told.lines ≡ joined b.lines ++ (b.rest ++ more) = sym told.cut ∙ cut ∙ ap (λ x. x ++ more) b.cut ∙ append_assoc (joined b.lines) b.rest more in
    let begins = lines_begin b.lines told.lines (b.rest ++ more) b.each told.each same in
    cut_told o (begun_by f) told.lines b.lines b.played.kept b.steps (all_happen a.all []) begins.rest told.told begins.is b.played.cut b.played.told

pub all_is_read : AllIsRead
all_is_read o h f bytes text r a b =
    let told = told_of o f text a in
    let steps = all_happen a.all [] in
    let same : joined told.lines ≡ joined b.lines ++ b.rest = sym told.cut ∙ b.cut in
    let begins = lines_begin b.lines told.lines b.rest b.each told.each same in
    let none = no_lines begins.rest b.rest b.open_end begins.text in
    let is : told.lines ≡ b.lines = begins.is ∙ ap (λ x. b.lines ++ x) none ∙ append-nil b.lines in
    all_told o (begun_by f) b.lines b.played.kept b.steps steps (subst (λ ls. Tell o (begun_by f) nothing_heard ls (heard_of steps)) is told.told) b.played.cut b.played.told

pub stored_is_read : StoredIsRead
stored_is_read o h f bytes stored more found extra lost r a begins cut b =
    let both : Adds o f (stored ++ more) =
    record {
      names = a.names;
      old = a.old;
      new = a.new;
      all = hosted.goes_on a.first a.later;
      stands = a.stands;
    } in
    let front = front_is_read o h f bytes (stored ++ more) found lost r both cut b in
    let told = steps_are_told o (begun_by f) nothing_heard a.old a.mid stored a.first a.names a.stands in
    let same : joined b.lines ++ b.rest ≡ joined told.lines ++ extra = sym b.cut ∙ begins ∙ ap (λ x. x ++ extra) told.cut in
    let lines = lines_begin_open told.lines b.lines b.rest extra told.each b.each b.open_end same in
    let back = stored_told o (begun_by f) told.lines lines.0 b.lines b.played.kept (all_happen a.first []) b.steps told.told lines.1 b.played.cut b.played.told in
    record { unread = front.0; nothing_else = front.1; read = back.0; all_stored = back.1 }

pub no_fault_is_found : NoFaultIsFound
no_fault_is_found o h f text found more before line fault a cut (number, counted, bad) =
    let told = told_of o f text a in
    let steps = all_happen a.all [] in
    let same : joined told.lines ≡ joined bad.lines ++ (bad.rest ++ more) = sym told.cut ∙ cut ∙ ap (λ x. x ++ more) bad.cut ∙ append_assoc (joined bad.lines) bad.rest more in
    let begins = lines_begin bad.lines told.lines (bad.rest ++ more) bad.each told.each same in
    bad.unsound begins.rest (heard_of steps) (subst (λ ls. Tell o (begun_by f) nothing_heard ls (heard_of steps)) begins.is told.told) told.sound
