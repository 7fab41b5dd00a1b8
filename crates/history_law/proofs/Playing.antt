-- What a start plays is what was held.
use Rattle.std.proofs.Common.{◌≡◌, inl, inr, ◌∙◌, ap, sym, subst, refl, arith, ℕ, zero, suc, ◌+◌, ◌-◌, ◌^◌, ◌<◌, List, [], ◌∷◌, ◌++◌, append_assoc}
use Rattle.std.specs.Prelude.{Option, Some, None, map, min, slice_get, slice_index_or}
use Rattle.std.proofs.lemmas.Option.{same_Some}
use Rattle.decl_core.specs.ObjectForm.{ObjectForm}
use Rattle.decl_core.specs.ObjectMap.{object_of}
use Rattle.word_core.specs.Events.{Called, Happened, ended}
use Rattle.live_core.specs.declared.front.CarriedCall.{CarriedCall}
use Rattle.live_core.specs.Front.{Opening}
use Rattle.live_core.specs.Text.{front_text}
use Rattle.decl_core.specs.HoldForm.{RulesForm}
use Rattle.guest_core.specs.declared.hold_ends.HoldEnds.TheVariants.{ByDone}
use Rattle.guest_core.specs.Held.{AreHeldBy}
use Rattle.front_read.specs.HeldLines.{held_text}
use Rattle.recover_core.specs.HeldPlay.{HaveNumbers, told_ends}
use Rattle.history_law.proofs.Holding.{written_has_held}
use Rattle.audit_core.specs.EpochSaid.{Says, Asked, a_start, an_end, a_cancel, a_name}
use Rattle.audit_core.specs.Steps.{Step, ran, cancelled, named, Begun, Heard, nothing_heard}
use Rattle.audit_core.specs.EpochTells.{Tells, Tell, start_told, end_told, cancel_told, name_told}
use Rattle.audit_core.specs.Sound.{IsCut}
use Rattle.audit_core.proofs.EpochSaying.{says_once}
use Rattle.recover_core.specs.Carried.{told_by, told_or}
use Rattle.recover_core.specs.Lines.{IsLine, AreLines, joined}
use Rattle.recover_core.specs.Playing.{begun_by}
use Rattle.live_core.specs.Fronts.{carried_from, front_of}
use Rattle.live_core.specs.Scene.{Scene, told_of, next_base, next_epoch}
use Rattle.history_law.specs.WrittenRead.{Adds}
use Rattle.history_law.specs.Stands.{Stands}
use Rattle.history_law.specs.Told.{heard_of}
use Rattle.history_law.proofs.Beginning.{followed_stands}
use Rattle.keep_loop.specs.Turns.{added_by}
use Rattle.client_core.specs.Custody.{Custody, Custodies, held_lines, held_lines_in}
use Rattle.table_core.specs.Seen.{seen}
use Rattle.history_law.proofs.KeptGoing.{set_at, runs_are_steps}
use Rattle.history_law.specs.Ended.{ends_of}
use Rattle.history_law.specs.Played.{IsNumbered, PlayedIsHeld, NextLeavesHeld, StartLeavesHeld}
use Rattle.history_law.proofs.Once.{first_once, tell_once, no_end, line_head, line_tail}

-- numbers

told_at : (all : List CarriedCall) (other k : ℕ) → slice_index_or (map (λ (c : CarriedCall). c.told) all) k other ≡ told_or other (slice_get all k)
told_at [] other k = refl
told_at (c ∷ all) other zero = refl
told_at (c ∷ all) other (suc k) = told_at all other k

same_min : (n : ℕ) → n < 2 ^ 64 → min n (2 ^ 64 - 1) ≡ n
same_min n small = omega (arith, small)

-- a number of 64 bits is told as it is
as_it_is : (n : ℕ) (c : Option CarriedCall) → told_or n c < 2 ^ 64 → told_or (min n (2 ^ 64 - 1)) c ≡ told_or n c
as_it_is n None small = same_min n small
as_it_is n (Some c) small = refl

same_number : (f : Opening) (s : Scene) (n : ℕ) → IsNumbered f s → told_by f.base f.carried n < 2 ^ 64 → told_by f.base f.carried n ≡ told_of s n
same_number f s n is small =
    let here : told_of s n ≡ slice_index_or (map (λ (c : CarriedCall). c.told) f.carried) (n - 1) (min (f.base + n) (2 ^ 64 - 1)) =
    ap (λ (l : List ℕ). slice_index_or l (n - 1) (min (s.base + n) (2 ^ 64 - 1))) is.carried
    ∙ ap (λ m. slice_index_or (map (λ (c : CarriedCall). c.told) f.carried) (n - 1) (min (m + n) (2 ^ 64 - 1))) is.base in
    sym (here ∙ told_at f.carried (min (f.base + n) (2 ^ 64 - 1)) (n - 1) ∙ as_it_is (f.base + n) (slice_get f.carried (n - 1)) small)

module _ (o : ObjectForm) (e : Begun) where
  tell_split : (heard : Heard) (xs ys : List (List ℕ)) (after : Heard) → Tell o e heard (xs ++ ys) after → (mid : Heard) × Tell o e heard xs mid × Tell o e mid ys after
  tell_split heard [] ys after told = (heard, refl, told)
  tell_split heard (x ∷ xs) ys after (mid, one, told) = let on = tell_split mid xs ys after told in (on.0, (mid, one, on.1), on.2)

  -- a line that tells of a start tells no step
  start_none : (heard : Heard) (line : List ℕ) (after : Heard) (asked : Asked) → Says line (a_start asked) → Tells o e heard line after → after.steps ≡ heard.steps
  start_none heard line after asked says (start_told its is few) = refl
  start_none heard line after asked says (end_told {number = n} {reply = r} its runs same) = absurd (let s = says_once line (a_start asked) (an_end n r) says its in cc)
  start_none heard line after asked says (cancel_told {asked = y} its is) = absurd (let s = says_once line (a_start asked) (a_cancel y) says its in cc)
  start_none heard line after asked says (name_told {session = k} {client = m} its rest is spelled) = absurd (let s = says_once line (a_start asked) (a_name k m) says its in cc)

  -- what all lines tell is what those tell that are kept
  cut_same : (all kept : List (List ℕ)) (heard : Heard) (steps : List Step) → Tell o e nothing_heard all heard → IsCut all kept → Tell o e nothing_heard kept (heard_of steps) → heard.steps ≡ steps
  cut_same all kept heard steps told (inl same) read =
      ap (λ (h : Heard). h.steps) (tell_once o e nothing_heard kept heard (heard_of steps) (subst (λ l. Tell o e nothing_heard l heard) same told) read)
  cut_same all kept heard steps told (inr (last, asked, says, is)) read =
      let two = tell_split nothing_heard kept (last ∷ []) heard (subst (λ l. Tell o e nothing_heard l heard) is told) in
      let same : two.0 ≡ heard_of steps = tell_once o e nothing_heard kept two.0 (heard_of steps) two.1 read in
      let one : Tells o e (heard_of steps) last two.2.0 = subst (λ h. Tells o e h last two.2.0) same two.2.1 in
      ap (λ (h : Heard). h.steps) two.2.2 ∙ start_none (heard_of steps) last two.2.0 asked says one

-- lines

ends_in : (l more : List ℕ) → IsLine (l ++ 10 ∷ more) → ⊥
ends_in [] more is = no_end 10 (line_head 10 more is) refl
ends_in (b ∷ l) more is = ends_in l more (line_tail b (l ++ 10 ∷ more) is)

whole_no : (x : List ℕ) (xs : List (List ℕ)) (r q : List ℕ) → IsLine r → r ≡ joined (x ∷ xs) ++ q → ⊥
whole_no x xs r q line is =
    ends_in x (joined xs ++ q) (subst IsLine (is ∙ append_assoc (x ++ 10 ∷ []) (joined xs) q ∙ append_assoc x (10 ∷ []) (joined xs ++ q)) line)

lines_once_open : (xs ys : List (List ℕ)) (r q : List ℕ) → AreLines xs → AreLines ys → IsLine r → IsLine q → joined xs ++ r ≡ joined ys ++ q → xs ≡ ys
lines_once_open [] [] r q ax ay lr lq is = refl
lines_once_open [] (y ∷ ys) r q ax ay lr lq is = absurd (whole_no y ys r q lr is)
lines_once_open (x ∷ xs) [] r q ax ay lr lq is = absurd (whole_no x xs q r lq (sym is))
lines_once_open (x ∷ xs) (y ∷ ys) r q ax ay lr lq is =
    let left : joined (x ∷ xs) ++ r ≡ x ++ 10 ∷ (joined xs ++ r) = append_assoc (x ++ 10 ∷ []) (joined xs) r ∙ append_assoc x (10 ∷ []) (joined xs ++ r) in
    let right : joined (y ∷ ys) ++ q ≡ y ++ 10 ∷ (joined ys ++ q) = append_assoc (y ++ 10 ∷ []) (joined ys) q ∙ append_assoc y (10 ∷ []) (joined ys ++ q) in
    let two = first_once x y (joined xs ++ r) (joined ys ++ q) ax.0 ay.0 (sym left ∙ is ∙ right) in
    ap (λ (l : List ℕ). l ∷ xs) two.0 ∙ ap (λ (l : List (List ℕ)). y ∷ l) (lines_once_open xs ys r q ax.1 ay.1 lr lq two.1)

-- the ends, by both kinds of numbers
ends_same : (f : Opening) (s : Scene) (steps : List Step) → IsNumbered f s → HaveNumbers f.base f.carried steps → told_ends f.base f.carried steps ≡ ends_of s steps
ends_same f s [] is small = refl
ends_same f s (ran c reply ∷ steps) is small =
    ap (λ n. ended (record c { number = n }) reply ∷ told_ends f.base f.carried steps) (same_number f s c.number is small.0)
    ∙ ap (λ (l : List Happened). ended (record c { number = told_of s c.number }) reply ∷ l) (ends_same f s steps is small.1)
ends_same f s (cancelled c ∷ steps) is small = ends_same f s steps is small
ends_same f s (named session client ∷ steps) is small = ends_same f s steps is small

pub played_is_held : PlayedIsHeld
played_is_held ends o h f bytes found r holds old new past s b numbered are p =
    let e = begun_by f in
    let lines : p.lines ≡ b.lines = lines_once_open p.lines b.lines p.rest b.rest p.each b.each p.open_end b.open_end (sym p.cut ∙ b.cut) in
    let told : Tell o e nothing_heard b.lines p.heard = subst (λ l. Tell o e nothing_heard l p.heard) lines p.told in
    let steps : p.heard.steps ≡ b.steps = cut_same o e b.lines b.played.kept p.heard b.steps told b.played.cut b.played.told in
    let told_so : told_ends f.base f.carried p.heard.steps ≡ ends_of s b.steps = ends_same f s p.heard.steps numbered p.small ∙ ap (ends_of s) steps in
    subst (λ (l : List Happened). AreHeldBy ends holds (l ++ past) new) told_so (p.held past are)

-- the calls that a front carries are told by the numbers that they had
carried_told : (s : Scene) (n : ℕ) (waiting : List Called) → map (λ (c : CarriedCall). c.told) (carried_from s n waiting) ≡ map (λ (c : Called). told_of s c.number) waiting
carried_told s n [] = refl
carried_told s n (c ∷ waiting) = ap (λ (l : List ℕ). told_of s c.number ∷ l) (carried_told s (n + 1) waiting)

pub next_leaves_held : NextLeavesHeld
next_leaves_held before after last j o rules past text found since gives runs none s h within =
    let begins = gives.2.begins in
    let bare : List ℕ = gives.2.fronts.front in
    let was = begins.before in
    let now = begins.after in
    let by = begins.begun in
    let w = by.written in
    let f = front_of was (next_epoch was) w.runs (next_base was) in
    let same : was ≡ s.scene = same_Some was s.scene (sym begins.there ∙ s.there) in
    let object : object_of was.hall.object ≡ o = ap (λ (x : Scene). object_of x.hall.object) same ∙ s.stands.object in
    let held : slice_get (seen after).custody j ≡ Some h.custody = ap (λ (c : Custodies). slice_get c j) gives.2.custody ∙ h.there in
    let there : slice_get after.objects.items j ≡ Some now = ap (λ (l : List Scene). slice_get l j) begins.left ∙ set_at before.objects.items j now was begins.there in
    let lines : text ≡ front_text o f ++ held_text o rules.holds h.custody.held =
    gives.2.fronts.told ∙ ap (λ (x : Option Scene). bare ++ held_lines_in (seen before).custody j x) begins.there
    ∙ ap (λ (x : Option Custody). bare ++ held_lines (object_of was.hall.object) x) h.there
    ∙ ap (λ (x : List ℕ). x ++ held_text (object_of was.hall.object) h.custody.rules.holds h.custody.held) w.added
    ∙ ap (λ (x : ObjectForm). front_text x f ++ held_text x h.custody.rules.holds h.custody.held) object
    ∙ ap (λ (x : RulesForm). front_text o f ++ held_text o x.holds h.custody.held) h.rules_are in
    let stands = followed_stands o s.begun s.heard was now now.past w.runs (next_epoch was) (next_base was)
    (subst (λ (x : Scene). Stands o s.begun s.heard x) (sym same) s.stands) by.followed w.events in
    let went = runs_are_steps after last since j now runs none there in
    let adds : Adds o f (added_by j since) = record { names = s.names; old = now; new = went.0; all = went.2; stands = stands } in
    record {
      holds = record { custody = h.custody; there = held; rules_are = h.rules_are; are = h.are };
      scene = now;
      there = there;
      front = f;
      text_is = lines;
      says = λ rows each.
          (written_has_held o rules.holds f h.custody.held (text ++ found) (added_by j since) found within.0 rows each adds within.1
          (ap (λ (x : List ℕ). x ++ found) lines ∙ append_assoc (front_text o f) (held_text o rules.holds h.custody.held) found)).0;
      played = λ house bytes r new b p.
          played_is_held ByDone o house f bytes found r rules.holds h.custody.held new past now b
          (record { carried = by.followed.carried ∙ sym (carried_told was 0 was.hall.waiting); base = by.followed.base }) h.are p;
    }

pub start_leaves_held : StartLeavesHeld
start_leaves_held t last j o rules past s events found since there served idle none runs h within =
    let f = front_of s s.epoch events s.base in
    let same : served.scene ≡ s = same_Some served.scene s (sym served.there ∙ there) in
    let went = runs_are_steps t last since j s runs served.goes_on there in
    let adds : Adds o f (added_by j since) =
    record { names = served.names; old = s; new = went.0; all = went.2; stands = subst (λ (x : Scene). Stands o (begun_by f) nothing_heard x) same served.stands } in
    let carried : s.carried ≡ map (λ (c : CarriedCall). c.told) f.carried =
    none ∙ sym (ap (λ (l : List Called). map (λ (c : CarriedCall). c.told) (carried_from s 0 l)) idle) in
    record {
      holds = h;
      scene = s;
      there = there;
      front = f;
      text_is = refl;
      says = λ rows each.
          (written_has_held o rules.holds f h.custody.held ((front_text o f ++ held_text o rules.holds h.custody.held) ++ found) (added_by j since) found within.0 rows each adds within.1
          (append_assoc (front_text o f) (held_text o rules.holds h.custody.held) found)).0;
      played = λ house bytes r new b p.
          played_is_held ByDone o house f bytes found r rules.holds h.custody.held new past s b (record { carried = carried; base = refl }) h.are p;
    }
