-- Where no front goes on is seen from the line alone that stands there.
use Rattle.std.proofs.Common.{◌≡◌, ℕ, true, false, Bool, ◌==◌, ◌&&◌, ◌||◌, not, List, [], ◌∷◌, ◌++◌, refl, sym, ap, ◌∙◌, subst, append_assoc, inl, inr, map}
use Rattle.std.specs.Prelude.{codes}
use Rattle.std.proofs.lemmas.Bool.{and_parts}
use Rattle.std.proofs.lemmas.List.{append-nil}
use Rattle.std.specs.Prelude.{All}
use Rattle.std.proofs.lemmas.List.Elements.{All-head, All-tail}
use Rattle.path_tree.specs.Identifier.{IsName}
use Rattle.value_core.specs.Runs.{NoLineFeed}
use Rattle.value_core.specs.declared.kind.Kind.{Kind}
use Rattle.value_core.specs.Contents.{Contents, IsContents, kind_of}
use Rattle.decl_core.specs.ObjectForm.{ObjectForm}
use Rattle.word_core.specs.Words.{Word, words_text, line_of}
use Rattle.word_core.specs.TraceLaws.{HasNames}
use Rattle.word_core.specs.Text.{part_words, parts_words, lines_of}
use Rattle.live_core.specs.declared.past.PastRun.{PastRun}
use Rattle.live_core.specs.declared.front.CarriedCall.{CarriedCall}
use Rattle.live_core.specs.declared.front.NamedClient.{NamedClient}
use Rattle.live_core.specs.declared.front.KeptCall.{KeptCall}
use Rattle.live_core.specs.Front.{Every, IsRun, IsCarried, IsClient, IsKept, IsKey, IsLong, Opening, HasRows}
use Rattle.live_core.specs.Text.{rows, run_words, carried_words, client_words, kept_words, object_words, source_words, base_words, runs_text, carried_text, clients_text, kept_text, calls_text, behind_parts, front_text}
use Rattle.front_read.specs.Text.{begins, goes_on}
use Rattle.front_read.specs.Rows.{NoRow, Breaks, has_verb, row_words}
use Rattle.front_read.specs.Parts.{IsValueOf, AreParts}
use Rattle.front_read.specs.Fault.{StuckClients, client_breaks, kept_breaks, row_again, StuckCalls, carried_breaks, clients_stuck, StuckBase, no_base, calls_stuck, StuckPast, past_breaks, base_stuck, StuckParts, StuckSource, parts_stuck, past_stuck, StuckObject, no_source, source_stuck, StuckFront, no_object, object_stuck, NoneGoesOn}
use Rattle.front_read.proofs.None.{NoClients, NoCalls, NoBase, NoPast, NoneBehindSource, NoneBehindObject, NoFront, NoParts, IsCut}
use Rattle.front_read.proofs.Texts.{one_cut}
use Rattle.front_read.proofs.Clear.{no_feed, object_clear, source_clear, base_clear, part_clear, run_clear, carried_clear, client_clear, kept_clear}
use Rattle.front_read.proofs.Standing.{AreClear}
use Rattle.front_read.proofs.Levels as levels
use Rattle.front_read.proofs.Whole.{front_there, parts_stand, parts_there}

-- two rests that begin with the same line
pub record SameLine (rest other : List ℕ) : Type 0 where
  pub line : List ℕ
  pub behind : List ℕ
  pub after : List ℕ
  pub clear : NoLineFeed line
  pub one : rest ≡ line ++ 10 ∷ behind
  pub two : other ≡ line ++ 10 ∷ after

-- no byte of these is a line feed
abbrev pub no_ten : List ℕ → Bool
no_ten [] = true
no_ten (b ∷ bytes) = not (10 == b) && no_ten bytes

not_false : (b : Bool) → not b ≡ true → b ≡ false
not_false true is = absurd cc
not_false false is = refl

begins_same : (l a b front : List ℕ) → no_ten front ≡ true → begins (l ++ 10 ∷ a) front ≡ begins (l ++ 10 ∷ b) front
begins_same [] a b [] none = refl
begins_same [] a b (f ∷ front) none =
    let t = not_false (10 == f) (and_parts (not (10 == f)) (no_ten front) none).0 in ap (λ x. x && begins a front) t ∙ sym (ap (λ x. x && begins b front) t)
begins_same (x ∷ l) a b [] none = refl
begins_same (x ∷ l) a b (f ∷ front) none = ap (λ t. (x == f) && t) (begins_same l a b front (and_parts (not (10 == f)) (no_ten front) none).1)

begins_moved : (rest other before front : List ℕ) → SameLine rest other → no_ten front ≡ true → begins (before ++ rest) front ≡ begins (before ++ other) front
begins_moved rest other before front same none =
    ap (λ r. begins (before ++ r) front) same.one ∙ ap (λ t. begins t front) (sym (append_assoc before same.line (10 ∷ same.behind)))
    ∙ begins_same (before ++ same.line) same.behind same.after front none
    ∙ ap (λ t. begins t front) (append_assoc before same.line (10 ∷ same.after)) ∙ ap (λ r. begins (before ++ r) front) (sym same.two)

goes_moved : (rest other : List ℕ) → SameLine rest other → goes_on rest ≡ goes_on other
goes_moved rest other same =
    let a = begins_moved rest other [] (codes "object ") same refl in
    let b = begins_moved rest other [] (codes "source ") same refl in
    let c = begins_moved rest other [] (codes "part ") same refl in
    let d = begins_moved rest other [] (codes "past ") same refl in
    let e = begins_moved rest other [] (codes "base ") same refl in
    let f = begins_moved rest other [] (codes "carried ") same refl in
    let g = begins_moved rest other [] (codes "client ") same refl in
    let h = begins_moved rest other [] (codes "kept ") same refl in
    λ i. a i || (b i || (c i || (d i || (e i || (f i || (g i || h i))))))

none_moved : {X : Type 0} (Is : X → Type 0) (w : X → List Word) (rest other : List ℕ) → AreClear Is w → SameLine rest other → NoRow Is w rest → NoRow Is w other
none_moved Is w rest other clear same none x r row =
    let cut = one_cut same.line (words_text (w x)) same.after r same.clear (no_feed (w x) (clear x row.is)) (sym same.two ∙ row.stands ∙ append_assoc (words_text (w x)) (10 ∷ []) r) in
    none x same.behind (record { is = row.is; stands = same.one ∙ ap (λ l. l ++ 10 ∷ same.behind) cut.0 ∙ sym (append_assoc (words_text (w x)) (10 ∷ []) same.behind) })

-- before a rest something began, and what is stuck there is stuck at each rest that begins with the same line
pub record Moves (S : List ℕ → List ℕ → Type 0) (B : List ℕ → Type 0) (text rest : List ℕ) : Type 0 where
  pub before : List ℕ
  pub cut : text ≡ before ++ rest
  pub again : (other : List ℕ) → SameLine rest other → S (before ++ other) other
  pub begun : B before

breaks_moved : {X : Type 0} (Is : X → Type 0) (verb : List ℕ) (words : X → List Word) (text rest other : List ℕ) → AreClear Is (row_words verb words) → no_ten (verb ++ 32 ∷ []) ≡ true → (breaks : Breaks Is verb words text rest) → SameLine rest other
    → Breaks Is verb words (lines_of (rows verb words breaks.before) ++ other) other
breaks_moved Is verb words text rest other clear none breaks same = record {
  before = breaks.before;
  rows_are = record { each = breaks.rows_are.each; stand = refl };
  goes = sym (begins_moved rest other [] (verb ++ 32 ∷ []) same none) ∙ breaks.goes;
  none = none_moved Is (row_words verb words) rest other clear same breaks.none;
}

-- the verb behind rows
verb_moved : (verb mid before rest other : List ℕ) → no_ten (verb ++ 32 ∷ []) ≡ true → SameLine rest other → mid ≡ before ++ rest → has_verb verb mid ≡ false → has_verb verb (before ++ other) ≡ false
verb_moved verb mid before rest other none same cut isnt = sym (begins_moved rest other before (verb ++ 32 ∷ []) same none) ∙ ap (has_verb verb) (sym cut) ∙ isnt

two : (a b x y z : List ℕ) → x ≡ a ++ y → y ≡ b ++ z → x ≡ (a ++ b) ++ z
two a b x y z p q = p ∙ ap (λ t. a ++ t) q ∙ sym (append_assoc a b z)

-- a front with something else in its place
with_epoch : (o : ObjectForm) (g : Opening) (epoch : ℕ) → HasRows o g → IsKey epoch → HasRows o (record g { epoch = epoch })
with_epoch o g epoch h e = record { epoch = e; source = h.source; kinds = h.kinds; contents = h.contents; past = h.past; base = h.base; carried = h.carried; clients = h.clients; kept = h.kept }

with_source : (o : ObjectForm) (g : Opening) (source : ℕ) → HasRows o g → IsLong source → HasRows o (record g { source = source })
with_source o g source h e = record { epoch = h.epoch; source = e; kinds = h.kinds; contents = h.contents; past = h.past; base = h.base; carried = h.carried; clients = h.clients; kept = h.kept }

with_parts : (o : ObjectForm) (g : Opening) (vs : List Contents) → HasRows o g → map kind_of vs ≡ map (λ p. p.1) o.parts → Every IsContents vs → HasRows o (record g { parts = vs })
with_parts o g vs h k e = record { epoch = h.epoch; source = h.source; kinds = k; contents = e; past = h.past; base = h.base; carried = h.carried; clients = h.clients; kept = h.kept }

with_past : (o : ObjectForm) (g : Opening) (runs : List PastRun) → HasRows o g → Every (IsRun o) runs → HasRows o (record g { past = runs })
with_past o g runs h e = record { epoch = h.epoch; source = h.source; kinds = h.kinds; contents = h.contents; past = e; base = h.base; carried = h.carried; clients = h.clients; kept = h.kept }

with_base : (o : ObjectForm) (g : Opening) (base : ℕ) → HasRows o g → IsLong base → HasRows o (record g { base = base })
with_base o g base h e = record { epoch = h.epoch; source = h.source; kinds = h.kinds; contents = h.contents; past = h.past; base = e; carried = h.carried; clients = h.clients; kept = h.kept }

with_carried : (o : ObjectForm) (g : Opening) (xs : List CarriedCall) → HasRows o g → Every (IsCarried o) xs → HasRows o (record g { carried = xs })
with_carried o g xs h e = record { epoch = h.epoch; source = h.source; kinds = h.kinds; contents = h.contents; past = h.past; base = h.base; carried = e; clients = h.clients; kept = h.kept }

with_clients : (o : ObjectForm) (g : Opening) (cs : List NamedClient) → HasRows o g → Every IsClient cs → HasRows o (record g { clients = cs })
with_clients o g cs h e = record { epoch = h.epoch; source = h.source; kinds = h.kinds; contents = h.contents; past = h.past; base = h.base; carried = h.carried; clients = e; kept = h.kept }

with_kept : (o : ObjectForm) (g : Opening) (ks : List KeptCall) → HasRows o g → Every (IsKept o) ks → HasRows o (record g { kept = ks })
with_kept o g ks h e = record { epoch = h.epoch; source = h.source; kinds = h.kinds; contents = h.contents; past = h.past; base = h.base; carried = h.carried; clients = h.clients; kept = e }

-- these bytes are the beginning of this text of some front
abbrev pub Begun : ObjectForm → (Opening → List ℕ) → List ℕ → Type 0
Begun o text_of before = (g : Opening) → HasRows o g → (f : Opening) × (tail : List ℕ) × HasRows o f × (text_of f ≡ before ++ tail)

abbrev clients_on : ObjectForm → Opening → List ℕ
clients_on o f = clients_text f.clients ++ kept_text o f.kept

abbrev base_on : ObjectForm → Opening → List ℕ
base_on o f = line_of (base_words f.base) ++ calls_text o f

abbrev parts_on : ObjectForm → Opening → List ℕ
parts_on o f = lines_of (parts_words o.parts f.parts) ++ behind_parts o f

abbrev source_on : ObjectForm → Opening → List ℕ
source_on o f = line_of (source_words f.source) ++ parts_on o f

abbrev NoTen : List ℕ → Type 0
NoTen verb = no_ten (verb ++ 32 ∷ []) ≡ true

clients_moves : (o : ObjectForm) (text rest : List ℕ) → HasNames o → StuckClients o text rest → Moves (StuckClients o) (Begun o (clients_on o)) text rest
clients_moves o text rest named (client_breaks b) = record {
  before = clients_text b.before;
  cut = b.rows_are.stand;
  again = λ other same. client_breaks (breaks_moved IsClient (codes "client") client_words text rest other client_clear refl b same);
  begun = λ g h. (record g { clients = b.before }, kept_text o g.kept, with_clients o g b.before h b.rows_are.each, refl);
}
clients_moves o text rest named (kept_breaks mid cs are isnt b) = record {
  before = clients_text cs ++ kept_text o b.before;
  cut = two (clients_text cs) (kept_text o b.before) text mid rest are.stand b.rows_are.stand;
  again = λ other same. kept_breaks (kept_text o b.before ++ other) cs (record { each = are.each; stand = append_assoc (clients_text cs) (kept_text o b.before) other })
      (verb_moved (codes "client") mid (kept_text o b.before) rest other refl same b.rows_are.stand isnt) (breaks_moved (IsKept o) (codes "kept") (kept_words o) mid rest other (kept_clear o named) refl b same);
  begun = λ g h. (record g { clients = cs; kept = b.before }, [], with_kept o (record g { clients = cs }) b.before (with_clients o g cs h are.each) b.rows_are.each, sym (append-nil (clients_text cs ++ kept_text o b.before)));
}
clients_moves o text rest named (row_again mid cs ks are isnt kept_are none goes) = record {
  before = clients_text cs ++ kept_text o ks;
  cut = two (clients_text cs) (kept_text o ks) text mid rest are.stand kept_are.stand;
  again = λ other same. row_again (kept_text o ks ++ other) cs ks (record { each = are.each; stand = append_assoc (clients_text cs) (kept_text o ks) other })
      (verb_moved (codes "client") mid (kept_text o ks) rest other refl same kept_are.stand isnt) (record { each = kept_are.each; stand = refl }) (verb_moved (codes "kept") rest [] rest other refl same refl none) (sym (goes_moved rest other same) ∙ goes);
  begun = λ g h. (record g { clients = cs; kept = ks }, [], with_kept o (record g { clients = cs }) ks (with_clients o g cs h are.each) kept_are.each, sym (append-nil (clients_text cs ++ kept_text o ks)));
}

calls_moves : (o : ObjectForm) (text rest : List ℕ) → HasNames o → StuckCalls o text rest → Moves (StuckCalls o) (Begun o (calls_text o)) text rest
calls_moves o text rest named (carried_breaks b) = record {
  before = carried_text o b.before;
  cut = b.rows_are.stand;
  again = λ other same. carried_breaks (breaks_moved (IsCarried o) (codes "carried") (carried_words o) text rest other (carried_clear o named) refl b same);
  begun = λ g h. (record g { carried = b.before }, clients_on o g, with_carried o g b.before h b.rows_are.each, refl);
}
calls_moves o text rest named (clients_stuck mid xs are isnt s) =
    let m = clients_moves o mid rest named s in
    record {
      before = carried_text o xs ++ m.before;
      cut = two (carried_text o xs) m.before text mid rest are.stand m.cut;
      again = λ other same. clients_stuck (m.before ++ other) xs (record { each = are.each; stand = append_assoc (carried_text o xs) m.before other }) (verb_moved (codes "carried") mid m.before rest other refl same m.cut isnt) (m.again other same);
      begun = λ g h. let b = m.begun g h in (record b.0 { carried = xs }, b.1, with_carried o b.0 xs b.2 are.each, two (carried_text o xs) m.before (carried_text o xs ++ clients_on o b.0) (clients_on o b.0) b.1 refl b.3);
    }

base_moves : (o : ObjectForm) (text rest : List ℕ) → HasNames o → StuckBase o text rest → Moves (StuckBase o) (Begun o (base_on o)) text rest
base_moves o text rest named (no_base none is) = record {
  before = [];
  cut = sym is;
  again = λ other same. no_base (none_moved IsLong base_words rest other base_clear same (subst (NoRow IsLong base_words) (sym is) none)) refl;
  begun = λ g h. (g, base_on o g, h, refl);
}
base_moves o text rest named (calls_stuck mid base row s) =
    let m = calls_moves o mid rest named s in
    record {
      before = line_of (base_words base) ++ m.before;
      cut = two (line_of (base_words base)) m.before text mid rest row.stands m.cut;
      again = λ other same. calls_stuck (m.before ++ other) base (record { is = row.is; stands = append_assoc (line_of (base_words base)) m.before other }) (m.again other same);
      begun = λ g h. let b = m.begun g h in (record b.0 { base = base }, b.1, with_base o b.0 base b.2 row.is, two (line_of (base_words base)) m.before (line_of (base_words base) ++ calls_text o b.0) (calls_text o b.0) b.1 refl b.3);
    }

past_moves : (o : ObjectForm) (text rest : List ℕ) → HasNames o → StuckPast o text rest → Moves (StuckPast o) (Begun o (behind_parts o)) text rest
past_moves o text rest named (past_breaks b) = record {
  before = runs_text o b.before;
  cut = b.rows_are.stand;
  again = λ other same. past_breaks (breaks_moved (IsRun o) (codes "past") (run_words o) text rest other (run_clear o named) refl b same);
  begun = λ g h. (record g { past = b.before }, base_on o g, with_past o g b.before h b.rows_are.each, refl);
}
past_moves o text rest named (base_stuck mid runs are isnt s) =
    let m = base_moves o mid rest named s in
    record {
      before = runs_text o runs ++ m.before;
      cut = two (runs_text o runs) m.before text mid rest are.stand m.cut;
      again = λ other same. base_stuck (m.before ++ other) runs (record { each = are.each; stand = append_assoc (runs_text o runs) m.before other }) (verb_moved (codes "past") mid m.before rest other refl same m.cut isnt) (m.again other same);
      begun = λ g h. let b = m.begun g h in (record b.0 { past = runs }, b.1, with_past o b.0 runs b.2 are.each, two (runs_text o runs) m.before (runs_text o runs ++ base_on o b.0) (base_on o b.0) b.1 refl b.3);
    }

-- the beginning of the rows of parts, where there are values for them
abbrev BegunParts : List (List ℕ × Kind) → List ℕ → Type 0
BegunParts parts before = (us : List Contents) → map kind_of us ≡ map (λ p. p.1) parts → Every IsContents us → (vs : List Contents) × (tail : List ℕ) × (map kind_of vs ≡ map (λ p. p.1) parts) × Every IsContents vs × (lines_of (parts_words parts vs) ≡ before ++ tail)

parts_begun : (part : List ℕ × Kind) (parts : List (List ℕ × Kind)) (before : List ℕ) (v : Contents) → IsValueOf part.1 v → BegunParts parts before → BegunParts (part ∷ parts) (line_of (part_words part.0 v) ++ before)
parts_begun part parts before v is begun [] kinds each = absurd cc
parts_begun part parts before v is begun (u ∷ us) kinds each =
    let others : map kind_of us ≡ map (λ (p : List ℕ × Kind). p.1) parts = cc in
    let b = begun us others each.1 in
    let kind = is.1 in
    let these = b.2 in
    (v ∷ b.0, b.1, (λ i. kind i ∷ these i), (is.0, b.3), two (line_of (part_words part.0 v)) before (line_of (part_words part.0 v) ++ lines_of (parts_words parts b.0)) (lines_of (parts_words parts b.0)) b.1 refl b.4)

parts_moves : (parts : List (List ℕ × Kind)) (text rest : List ℕ) → All (λ p. IsName p.0) parts → StuckParts parts text rest → Moves (StuckParts parts) (BegunParts parts) text rest
parts_moves [] text rest named s = absurd s
parts_moves (part ∷ parts) text rest named (inl none) =
    let name = All-head (λ (x : List ℕ × Kind). IsName x.0) part parts named in
    record {
      before = [];
      cut = sym none.1;
      again = λ other same. inl (none_moved (IsValueOf part.1) (part_words part.0) rest other (part_clear part.0 part.1 name) same (subst (NoRow (IsValueOf part.1) (part_words part.0)) (sym none.1) none.0), refl);
      begun = λ us kinds each. (us, lines_of (parts_words (part ∷ parts) us), kinds, each, refl);
    }
parts_moves (part ∷ parts) text rest named (inr some) =
    let m = parts_moves parts some.1 rest (All-tail (λ (x : List ℕ × Kind). IsName x.0) part parts named) some.3 in
    record {
      before = line_of (part_words part.0 some.0) ++ m.before;
      cut = two (line_of (part_words part.0 some.0)) m.before text some.1 rest some.2.stands m.cut;
      again = λ other same. inr (some.0, m.before ++ other, record { is = some.2.is; stands = append_assoc (line_of (part_words part.0 some.0)) m.before other }, m.again other same);
      begun = parts_begun part parts m.before some.0 some.2.is m.begun;
    }

source_moves : (o : ObjectForm) (text rest : List ℕ) → HasNames o → StuckSource o text rest → Moves (StuckSource o) (Begun o (parts_on o)) text rest
source_moves o text rest named (parts_stuck s) =
    let m = parts_moves o.parts text rest named.parts s in
    record {
      before = m.before;
      cut = m.cut;
      again = λ other same. parts_stuck (m.again other same);
      begun = λ g h. let b = m.begun g.parts h.kinds h.contents in
          (record g { parts = b.0 }, b.1 ++ behind_parts o g, with_parts o g b.0 h b.2 b.3, ap (λ t. t ++ behind_parts o g) b.4 ∙ append_assoc m.before b.1 (behind_parts o g));
    }
source_moves o text rest named (past_stuck mid vs are s) =
    let m = past_moves o mid rest named s in
    let stand = parts_stand o.parts text mid vs are in
    let p = lines_of (parts_words o.parts vs) in
    record {
      before = p ++ m.before;
      cut = two p m.before text mid rest stand.0 m.cut;
      again = λ other same. past_stuck (m.before ++ other) vs (subst (λ t. AreParts o.parts t vs (m.before ++ other)) (sym (append_assoc p m.before other)) (parts_there o.parts (m.before ++ other) vs stand.1 stand.2)) (m.again other same);
      begun = λ g h. let b = m.begun g h in (record b.0 { parts = vs }, b.1, with_parts o b.0 vs b.2 stand.1 stand.2, two p m.before (p ++ behind_parts o b.0) (behind_parts o b.0) b.1 refl b.3);
    }

object_moves : (o : ObjectForm) (text rest : List ℕ) → HasNames o → StuckObject o text rest → Moves (StuckObject o) (Begun o (source_on o)) text rest
object_moves o text rest named (no_source none is) = record {
  before = [];
  cut = sym is;
  again = λ other same. no_source (none_moved IsLong source_words rest other source_clear same (subst (NoRow IsLong source_words) (sym is) none)) refl;
  begun = λ g h. (g, source_on o g, h, refl);
}
object_moves o text rest named (source_stuck mid source row s) =
    let m = source_moves o mid rest named s in
    let l = line_of (source_words source) in
    record {
      before = l ++ m.before;
      cut = two l m.before text mid rest row.stands m.cut;
      again = λ other same. source_stuck (m.before ++ other) source (record { is = row.is; stands = append_assoc l m.before other }) (m.again other same);
      begun = λ g h. let b = m.begun g h in (record b.0 { source = source }, b.1, with_source o b.0 source b.2 row.is, two l m.before (l ++ parts_on o b.0) (parts_on o b.0) b.1 refl b.3);
    }

pub front_moves : (o : ObjectForm) (text rest : List ℕ) → HasNames o → StuckFront o text rest → Moves (StuckFront o) (Begun o (front_text o)) text rest
front_moves o text rest named (no_object none is) = record {
  before = [];
  cut = sym is;
  again = λ other same. no_object (none_moved IsKey (object_words o.name) rest other (object_clear o.name named.own) same (subst (NoRow IsKey (object_words o.name)) (sym is) none)) refl;
  begun = λ g h. (g, front_text o g, h, refl);
}
front_moves o text rest named (object_stuck mid epoch row s) =
    let m = object_moves o mid rest named s in
    let l = line_of (object_words o.name epoch) in
    record {
      before = l ++ m.before;
      cut = two l m.before text mid rest row.stands m.cut;
      again = λ other same. object_stuck (m.before ++ other) epoch (record { is = row.is; stands = append_assoc l m.before other }) (m.again other same);
      begun = λ g h. let b = m.begun g h in (record b.0 { epoch = epoch }, b.1, with_epoch o b.0 epoch b.2 row.is, two l m.before (l ++ source_on o b.0) (source_on o b.0) b.1 refl b.3);
    }

-- where something is stuck no front stands
clients_none : (o : ObjectForm) (text rest : List ℕ) → HasNames o → StuckClients o text rest → NoClients o text × IsCut text rest
clients_none o text rest named (client_breaks b) = levels.clients_break o text rest b
clients_none o text rest named (kept_breaks mid cs are isnt b) = levels.kept_break o text mid rest cs named are isnt b
clients_none o text rest named (row_again mid cs ks are isnt kept_are none goes) = levels.goes_break o text mid rest cs ks named are isnt kept_are none goes

calls_none : (o : ObjectForm) (text rest : List ℕ) → HasNames o → StuckCalls o text rest → NoCalls o text × IsCut text rest
calls_none o text rest named (carried_breaks b) = levels.carried_break o text rest named b
calls_none o text rest named (clients_stuck mid xs are isnt s) = levels.no_calls o text mid rest xs named are isnt (clients_none o mid rest named s)

here : (text rest : List ℕ) → rest ≡ text → IsCut text rest
here text rest is = record { before = []; cut = sym is }

base_none : (o : ObjectForm) (text rest : List ℕ) → HasNames o → StuckBase o text rest → NoBase o text × IsCut text rest
base_none o text rest named (no_base none is) = ((λ b xs cs ks r on. none b on.mid on.base_is), here text rest is)
base_none o text rest named (calls_stuck mid b row s) = levels.no_base o text mid rest b row (calls_none o mid rest named s)

past_none : (o : ObjectForm) (text rest : List ℕ) → HasNames o → StuckPast o text rest → NoPast o text × IsCut text rest
past_none o text rest named (past_breaks b) = levels.past_break o text rest named b
past_none o text rest named (base_stuck mid runs are isnt s) = levels.none_past o text mid rest runs named are isnt (base_none o mid rest named s)

parts_none : (parts : List (List ℕ × Kind)) (text rest : List ℕ) → All (λ p. IsName p.0) parts → StuckParts parts text rest → NoParts parts text × IsCut text rest
parts_none [] text rest named s = absurd s
parts_none (part ∷ parts) text rest named (inl none) = (levels.no_part part parts text none.0, here text rest none.1)
parts_none (part ∷ parts) text rest named (inr some) =
    levels.no_parts part parts text some.1 rest some.0 (All-head (λ (x : List ℕ × Kind). IsName x.0) part parts named) some.2 (parts_none parts some.1 rest (All-tail (λ (x : List ℕ × Kind). IsName x.0) part parts named) some.3)

source_none : (o : ObjectForm) (text rest : List ℕ) → HasNames o → StuckSource o text rest → NoneBehindSource o text × IsCut text rest
source_none o text rest named (parts_stuck s) = levels.parts_none o text rest (parts_none o.parts text rest named.parts s)
source_none o text rest named (past_stuck mid vs are s) = levels.behind_none o text mid rest vs named are (past_none o mid rest named s)

object_none : (o : ObjectForm) (text rest : List ℕ) → HasNames o → StuckObject o text rest → NoneBehindObject o text × IsCut text rest
object_none o text rest named (no_source none is) = ((λ f r on. none f.source on.mid on.source_is), here text rest is)
object_none o text rest named (source_stuck mid s row stuck) = levels.source_none o text mid rest s row (source_none o mid rest named stuck)

pub front_none : (o : ObjectForm) (text rest : List ℕ) → HasNames o → StuckFront o text rest → NoFront o text × IsCut text rest
front_none o text rest named (no_object none is) = ((λ f r on. none f.epoch on.mid on.epoch_is), here text rest is)
front_none o text rest named (object_stuck mid epoch row s) = levels.front_none o text mid rest epoch named row (object_none o mid rest named s)

-- and no front goes on with the line that stands there
pub stops_there : (o : ObjectForm) (text rest : List ℕ) (named : HasNames o) (s : StuckFront o text rest) → NoneGoesOn o (front_moves o text rest named s).before rest
stops_there o text rest named s line behind tail f clear is has same =
    let m = front_moves o text rest named s in
    let other = line ++ 10 ∷ tail in
    let again = m.again other (record { line = line; behind = behind; after = tail; clear = clear; one = is; two = refl }) in
    (front_none o (m.before ++ other) other named again).0 f [] (front_there o (m.before ++ other) [] f has refl (sym same ∙ sym (append-nil (front_text o f))))
