-- A front stands at the beginning of a text in one way.
use Rattle.std.proofs.Common.{◌≡◌, ℕ, true, false, Bool, ◌||◌, List, [], ◌∷◌, ◌++◌, refl, sym, ap, ◌∙◌, subst, append_assoc}
use Rattle.std.specs.Prelude.{All, codes}
use Rattle.std.proofs.lemmas.List.Elements.{All-head, All-tail}
use Rattle.path_tree.specs.Identifier.{IsName}
use Rattle.value_core.specs.declared.kind.Kind.{Kind}
use Rattle.value_core.specs.Contents.{Contents}
use Rattle.decl_core.specs.ObjectForm.{ObjectForm}
use Rattle.word_core.specs.Words.{Word, line_of}
use Rattle.word_core.specs.TraceLaws.{HasNames}
use Rattle.word_core.specs.Text.{part_words, lines_of}
use Rattle.live_core.specs.declared.past.PastRun.{PastRun}
use Rattle.live_core.specs.declared.past.PastRun.TheVariants.{Calls, Begins, Ends}
use Rattle.live_core.specs.declared.front.CarriedCall.{CarriedCall}
use Rattle.live_core.specs.declared.front.NamedClient.{NamedClient}
use Rattle.live_core.specs.declared.front.KeptCall.{KeptCall}
use Rattle.live_core.specs.Front.{Every, IsKey, IsLong, IsRun, IsCarried, IsClient, IsKept, Opening}
use Rattle.live_core.specs.Text.{rows, object_words, source_words, base_words, run_words, carried_words, client_words, kept_words}
use Rattle.front_read.specs.Text.{begins, goes_on, goes_on_with_calls, goes_on_behind_parts}
use Rattle.front_read.specs.Rows.{IsRow, NoRow, AreRows, Breaks, row_words, has_verb}
use Rattle.front_read.specs.Parts.{IsValueOf, AreParts}
use Rattle.front_read.specs.Read.{OnClients, OnCalls, OnBase, OnPast, BehindParts, BehindSource, BehindObject, OnFront}
use Rattle.front_read.proofs.None.{NoClients, NoCalls, NoBase, NoPast, NoneBehindSource, NoneBehindObject, NoFront, NoParts, IsCut}
use Rattle.front_read.proofs.Clear.{object_clear, source_clear, base_clear, part_clear, run_clear, carried_clear, client_clear, kept_clear}
use Rattle.front_read.proofs.Standing.{AreClear}
use Rattle.front_read.proofs.Unique.{line_cut, row_cut, IsOnce, epoch_once, base_once, source_once, part_once, run_once, carried_once, client_once, kept_once}

clash : (b : Bool) → b ≡ true → b ≡ false → ⊥
clash b p q = absurd cc

-- rows of this kind begin with their word
abbrev Begin : {X : Type 0} → List ℕ → (X → List Word) → Type 0
Begin {X} verb words = (x : X) (t : List ℕ) → has_verb verb (line_of (row_words verb words x) ++ t) ≡ true

split_first : {X : Type 0} (verb : List ℕ) (words : X → List Word) (x : X) (xs : List X) (a : List ℕ) → lines_of (rows verb words (x ∷ xs)) ++ a ≡ line_of (row_words verb words x) ++ (lines_of (rows verb words xs) ++ a)
split_first verb words x xs a = append_assoc (line_of (row_words verb words x)) (lines_of (rows verb words xs)) a

-- behind rows stands no row that breaks them, where something else stands behind them
stuck : {X : Type 0} (Is : X → Type 0) (verb : List ℕ) (words : X → List Word) (xs ys : List X) (a b : List ℕ) → AreClear Is (row_words verb words) → Begin verb words → Every Is xs → Every Is ys
    → lines_of (rows verb words xs) ++ a ≡ lines_of (rows verb words ys) ++ b → has_verb verb a ≡ true → NoRow Is (row_words verb words) a → has_verb verb b ≡ false → ⊥
stuck Is verb words [] [] a b clear begin p q same goes none isnt = clash (has_verb verb b) (ap (has_verb verb) (sym same) ∙ goes) isnt
stuck Is verb words [] (y ∷ ys) a b clear begin p q same goes none isnt = none y (lines_of (rows verb words ys) ++ b) (record { is = q.0; stands = same ∙ split_first verb words y ys b })
stuck Is verb words (x ∷ xs) [] a b clear begin p q same goes none isnt =
    clash (has_verb verb b) (ap (has_verb verb) (sym same ∙ split_first verb words x xs a) ∙ begin x (lines_of (rows verb words xs) ++ a)) isnt
stuck Is verb words (x ∷ xs) (y ∷ ys) a b clear begin p q same goes none isnt =
    let cut = line_cut (row_words verb words x) (row_words verb words y) (lines_of (rows verb words xs) ++ a) (lines_of (rows verb words ys) ++ b) (clear x p.0) (clear y q.0) (sym (split_first verb words x xs a) ∙ same ∙ split_first verb words y ys b) in
    stuck Is verb words xs ys a b clear begin p.1 q.1 cut.1 goes none isnt

pub rows_stuck : {X : Type 0} (Is : X → Type 0) (verb : List ℕ) (words : X → List Word) (text rest mid : List ℕ) (ys : List X) → AreClear Is (row_words verb words) → Begin verb words → Breaks Is verb words text rest → AreRows Is verb words text ys mid
    → has_verb verb mid ≡ false → ⊥
rows_stuck Is verb words text rest mid ys clear begin breaks are isnt =
    stuck Is verb words breaks.before ys rest mid clear begin breaks.rows_are.each are.each (sym breaks.rows_are.stand ∙ are.stand) breaks.goes breaks.none isnt

-- rows are told in one way
same_rows : {X : Type 0} (Is : X → Type 0) (verb : List ℕ) (words : X → List Word) (xs ys : List X) (a b : List ℕ) → AreClear Is (row_words verb words) → IsOnce Is (row_words verb words) → Begin verb words → Every Is xs → Every Is ys
    → lines_of (rows verb words xs) ++ a ≡ lines_of (rows verb words ys) ++ b → has_verb verb a ≡ false → has_verb verb b ≡ false → (xs ≡ ys) × (a ≡ b)
same_rows Is verb words [] [] a b clear once begin p q same no_a no_b = (refl, same)
same_rows Is verb words [] (y ∷ ys) a b clear once begin p q same no_a no_b =
    absurd (clash (has_verb verb a) (ap (has_verb verb) (same ∙ split_first verb words y ys b) ∙ begin y (lines_of (rows verb words ys) ++ b)) no_a)
same_rows Is verb words (x ∷ xs) [] a b clear once begin p q same no_a no_b =
    absurd (clash (has_verb verb b) (ap (has_verb verb) (sym same ∙ split_first verb words x xs a) ∙ begin x (lines_of (rows verb words xs) ++ a)) no_b)
same_rows Is verb words (x ∷ xs) (y ∷ ys) a b clear once begin p q same no_a no_b =
    let cut = line_cut (row_words verb words x) (row_words verb words y) (lines_of (rows verb words xs) ++ a) (lines_of (rows verb words ys) ++ b) (clear x p.0) (clear y q.0) (sym (split_first verb words x xs a) ∙ same ∙ split_first verb words y ys b) in
    let head = once x y p.0 q.0 cut.0 in
    let more = same_rows Is verb words xs ys a b clear once begin p.1 q.1 cut.1 no_a no_b in
    ((λ i. head i ∷ more.0 i), more.1)

rows_same : {X : Type 0} (Is : X → Type 0) (verb : List ℕ) (words : X → List Word) (text : List ℕ) (xs ys : List X) (a b : List ℕ) → AreClear Is (row_words verb words) → IsOnce Is (row_words verb words) → Begin verb words → AreRows Is verb words text xs a
    → AreRows Is verb words text ys b → has_verb verb a ≡ false → has_verb verb b ≡ false → (xs ≡ ys) × (a ≡ b)
rows_same Is verb words text xs ys a b clear once begin p q no_a no_b = same_rows Is verb words xs ys a b clear once begin p.each q.each (sym p.stand ∙ q.stand) no_a no_b

-- the words that rows begin with
begin_run : (o : ObjectForm) → Begin (codes "past") (run_words o)
begin_run o (Calls op count) t = refl
begin_run o (Begins op) t = refl
begin_run o (Ends op) t = refl

begin_carried : (o : ObjectForm) → Begin (codes "carried") (carried_words o)
begin_carried o c t = refl

begin_client : Begin (codes "client") client_words
begin_client c t = refl

begin_kept : (o : ObjectForm) → Begin (codes "kept") (kept_words o)
begin_kept o k t = refl

-- nothing of a front goes on
or_parts : (a b : Bool) → (a || b) ≡ false → (a ≡ false) × (b ≡ false)
or_parts true b is = absurd cc
or_parts false b is = (refl, is)

pub record IsEnd (rest : List ℕ) : Type 0 where
  pub past : has_verb (codes "past") rest ≡ false
  pub carried : has_verb (codes "carried") rest ≡ false
  pub client : has_verb (codes "client") rest ≡ false
  pub kept : has_verb (codes "kept") rest ≡ false

pub is_end : (rest : List ℕ) → goes_on rest ≡ false → IsEnd rest
is_end rest is =
    let a = or_parts (begins rest (codes "object ")) (begins rest (codes "source ") || (begins rest (codes "part ") || goes_on_behind_parts rest)) is in
    let b = or_parts (begins rest (codes "source ")) (begins rest (codes "part ") || goes_on_behind_parts rest) a.1 in
    let c = or_parts (begins rest (codes "part ")) (goes_on_behind_parts rest) b.1 in
    let d = or_parts (begins rest (codes "past ")) (begins rest (codes "base ") || goes_on_with_calls rest) c.1 in
    let e = or_parts (begins rest (codes "base ")) (goes_on_with_calls rest) d.1 in
    let f = or_parts (begins rest (codes "carried ")) (begins rest (codes "client ") || begins rest (codes "kept ")) e.1 in
    let g = or_parts (begins rest (codes "client ")) (begins rest (codes "kept ")) f.1 in
    record { past = d.0; carried = f.0; client = g.0; kept = g.1 }

-- before the rows of remembered calls no client stands, and before those of clients no waiting call
kept_not : (o : ObjectForm) (verb text rest : List ℕ) (ks : List KeptCall) → AreRows (IsKept o) (codes "kept") (kept_words o) text ks rest → ((k : KeptCall) (t : List ℕ) → has_verb verb (line_of (row_words (codes "kept") (kept_words o) k) ++ t) ≡ false)
    → has_verb verb rest ≡ false → has_verb verb text ≡ false
kept_not o verb text rest [] are other isnt = ap (has_verb verb) are.stand ∙ isnt
kept_not o verb text rest (k ∷ ks) are other isnt =
    ap (has_verb verb) (are.stand ∙ split_first (codes "kept") (kept_words o) k ks rest) ∙ other k (lines_of (rows (codes "kept") (kept_words o) ks) ++ rest)

clients_not : (o : ObjectForm) (verb text rest : List ℕ) (cs : List NamedClient) → AreRows IsClient (codes "client") client_words text cs rest → ((c : NamedClient) (t : List ℕ) → has_verb verb (line_of (row_words (codes "client") client_words c) ++ t) ≡ false)
    → has_verb verb rest ≡ false → has_verb verb text ≡ false
clients_not o verb text rest [] are other isnt = ap (has_verb verb) are.stand ∙ isnt
clients_not o verb text rest (c ∷ cs) are other isnt =
    ap (has_verb verb) (are.stand ∙ split_first (codes "client") client_words c cs rest) ∙ other c (lines_of (rows (codes "client") client_words cs) ++ rest)

no_client : (o : ObjectForm) (text rest : List ℕ) (cs : List NamedClient) (ks : List KeptCall) (on : OnClients o text cs ks rest) → has_verb (codes "client") on.mid ≡ false
no_client o text rest cs ks on = kept_not o (codes "client") on.mid rest ks on.kept_are (λ k t. refl) (is_end rest on.ends).client

no_carried : (o : ObjectForm) (text rest : List ℕ) (cs : List NamedClient) (ks : List KeptCall) → OnClients o text cs ks rest → has_verb (codes "carried") text ≡ false
no_carried o text rest cs ks on =
    clients_not o (codes "carried") text on.mid cs on.clients_are (λ c t. refl) (kept_not o (codes "carried") on.mid rest ks on.kept_are (λ k t. refl) (is_end rest on.ends).carried)

no_past : (text rest : List ℕ) (base : ℕ) → IsRow IsLong base_words text base rest → has_verb (codes "past") text ≡ false
no_past text rest base row = ap (has_verb (codes "past")) row.stands

-- where something was cut off
pub further : (text mid rest front : List ℕ) → text ≡ front ++ mid → IsCut mid rest → IsCut text rest
further text mid rest front stands cut = record { before = front ++ cut.before; cut = stands ∙ ap (λ t. front ++ t) cut.cut ∙ sym (append_assoc front cut.before rest) }

pub breaks_cut : {X : Type 0} (Is : X → Type 0) (verb : List ℕ) (words : X → List Word) (text rest : List ℕ) → Breaks Is verb words text rest → IsCut text rest
breaks_cut Is verb words text rest breaks = record { before = lines_of (rows verb words breaks.before); cut = breaks.rows_are.stand }

-- from the rows of the clients on
pub clients_break : (o : ObjectForm) (text rest : List ℕ) → Breaks IsClient (codes "client") client_words text rest → NoClients o text × IsCut text rest
clients_break o text rest breaks =
    ((λ cs ks r on. rows_stuck IsClient (codes "client") client_words text rest on.mid cs client_clear begin_client breaks on.clients_are (no_client o text r cs ks on)), breaks_cut IsClient (codes "client") client_words text rest breaks)

clients_mid : (o : ObjectForm) (text mid r : List ℕ) (cs ds : List NamedClient) (ks : List KeptCall) → AreRows IsClient (codes "client") client_words text cs mid → has_verb (codes "client") mid ≡ false → (on : OnClients o text ds ks r) → (cs ≡ ds) × (mid ≡ on.mid)
clients_mid o text mid r cs ds ks are isnt on = rows_same IsClient (codes "client") client_words text cs ds mid on.mid client_clear client_once begin_client are on.clients_are isnt (no_client o text r ds ks on)

pub kept_break : (o : ObjectForm) (text mid rest : List ℕ) (cs : List NamedClient) → HasNames o → AreRows IsClient (codes "client") client_words text cs mid → has_verb (codes "client") mid ≡ false → Breaks (IsKept o) (codes "kept") (kept_words o) mid rest
    → NoClients o text × IsCut text rest
kept_break o text mid rest cs named are isnt breaks = (
  (λ ds ks r on.
      let same = clients_mid o text mid r cs ds ks are isnt on in
      rows_stuck (IsKept o) (codes "kept") (kept_words o) mid rest r ks (kept_clear o named) (begin_kept o) breaks (subst (λ m. AreRows (IsKept o) (codes "kept") (kept_words o) m ks r) (sym same.1) on.kept_are) (is_end r on.ends).kept),
  further text mid rest (lines_of (rows (codes "client") client_words cs)) are.stand (breaks_cut (IsKept o) (codes "kept") (kept_words o) mid rest breaks),
)

rests_same : (o : ObjectForm) (mid rest r : List ℕ) (ks js : List KeptCall) → HasNames o → AreRows (IsKept o) (codes "kept") (kept_words o) mid ks rest → has_verb (codes "kept") rest ≡ false → AreRows (IsKept o) (codes "kept") (kept_words o) mid js r
    → has_verb (codes "kept") r ≡ false → (ks ≡ js) × (rest ≡ r)
rests_same o mid rest r ks js named p no_a q no_b = rows_same (IsKept o) (codes "kept") (kept_words o) mid ks js rest r (kept_clear o named) (kept_once o named) (begin_kept o) p q no_a no_b

pub goes_break : (o : ObjectForm) (text mid rest : List ℕ) (cs : List NamedClient) (ks : List KeptCall) → HasNames o → AreRows IsClient (codes "client") client_words text cs mid → has_verb (codes "client") mid ≡ false
    → AreRows (IsKept o) (codes "kept") (kept_words o) mid ks rest → has_verb (codes "kept") rest ≡ false → goes_on rest ≡ true → NoClients o text × IsCut text rest
goes_break o text mid rest cs ks named are isnt kept_are no_kept goes = (
  (λ ds js r on.
      let same = clients_mid o text mid r cs ds js are isnt on in
      let end = rests_same o mid rest r ks js named kept_are no_kept (subst (λ m. AreRows (IsKept o) (codes "kept") (kept_words o) m js r) (sym same.1) on.kept_are) (is_end r on.ends).kept in
      clash (goes_on r) (ap goes_on (sym end.1) ∙ goes) on.ends),
  further text mid rest (lines_of (rows (codes "client") client_words cs)) are.stand (record { before = lines_of (rows (codes "kept") (kept_words o) ks); cut = kept_are.stand }),
)

clients_same : (o : ObjectForm) (text r s : List ℕ) (cs ds : List NamedClient) (ks js : List KeptCall) → HasNames o → OnClients o text cs ks r → OnClients o text ds js s → (cs ≡ ds) × (ks ≡ js) × (r ≡ s)
clients_same o text r s cs ds ks js named p q =
    let first = clients_mid o text p.mid s cs ds js p.clients_are (no_client o text r cs ks p) q in
    let second = rests_same o p.mid r s ks js named p.kept_are (is_end r p.ends).kept (subst (λ m. AreRows (IsKept o) (codes "kept") (kept_words o) m js s) (sym first.1) q.kept_are) (is_end s q.ends).kept in
    (first.0, second.0, second.1)

-- from the rows of the waiting calls on
pub carried_break : (o : ObjectForm) (text rest : List ℕ) → HasNames o → Breaks (IsCarried o) (codes "carried") (carried_words o) text rest → NoCalls o text × IsCut text rest
carried_break o text rest named breaks = (
  (λ xs cs ks r on. rows_stuck (IsCarried o) (codes "carried") (carried_words o) text rest on.mid xs (carried_clear o named) (begin_carried o) breaks on.carried_are (no_carried o on.mid r cs ks on.clients_on)),
  breaks_cut (IsCarried o) (codes "carried") (carried_words o) text rest breaks,
)

carried_mid : (o : ObjectForm) (text mid r : List ℕ) (xs ys : List CarriedCall) (cs : List NamedClient) (ks : List KeptCall) → HasNames o → AreRows (IsCarried o) (codes "carried") (carried_words o) text xs mid → has_verb (codes "carried") mid ≡ false
    → (on : OnCalls o text ys cs ks r) → (xs ≡ ys) × (mid ≡ on.mid)
carried_mid o text mid r xs ys cs ks named are isnt on =
    rows_same (IsCarried o) (codes "carried") (carried_words o) text xs ys mid on.mid (carried_clear o named) (carried_once o) (begin_carried o) are on.carried_are isnt (no_carried o on.mid r cs ks on.clients_on)

pub no_calls : (o : ObjectForm) (text mid rest : List ℕ) (xs : List CarriedCall) → HasNames o → AreRows (IsCarried o) (codes "carried") (carried_words o) text xs mid → has_verb (codes "carried") mid ≡ false → NoClients o mid × IsCut mid rest
    → NoCalls o text × IsCut text rest
no_calls o text mid rest xs named are isnt none = (
  (λ ys cs ks r on. let same = carried_mid o text mid r xs ys cs ks named are isnt on in none.0 cs ks r (subst (λ m. OnClients o m cs ks r) (sym same.1) on.clients_on)),
  further text mid rest (lines_of (rows (codes "carried") (carried_words o) xs)) are.stand none.1,
)

calls_same : (o : ObjectForm) (text r s : List ℕ) (xs ys : List CarriedCall) (cs ds : List NamedClient) (ks js : List KeptCall) → HasNames o → OnCalls o text xs cs ks r → OnCalls o text ys ds js s → (xs ≡ ys) × (cs ≡ ds) × (ks ≡ js) × (r ≡ s)
calls_same o text r s xs ys cs ds ks js named p q =
    let first = carried_mid o text p.mid s xs ys ds js named p.carried_are (no_carried o p.mid r cs ks p.clients_on) q in
    let more = clients_same o p.mid r s cs ds ks js named p.clients_on (subst (λ m. OnClients o m ds js s) (sym first.1) q.clients_on) in
    (first.0, more.0, more.1, more.2)

-- from the row of the base on
pub no_base : (o : ObjectForm) (text mid rest : List ℕ) (base : ℕ) → IsRow IsLong base_words text base mid → NoCalls o mid × IsCut mid rest → NoBase o text × IsCut text rest
no_base o text mid rest base row none = (
  (λ b xs cs ks r on. let same = row_cut IsLong base_words text mid on.mid base b base_clear row on.base_is in none.0 xs cs ks r (subst (λ m. OnCalls o m xs cs ks r) (sym same.1) on.calls_on)),
  further text mid rest (line_of (base_words base)) row.stands none.1,
)

base_same : (o : ObjectForm) (text r s : List ℕ) (b d : ℕ) (xs ys : List CarriedCall) (cs ds : List NamedClient) (ks js : List KeptCall) → HasNames o → OnBase o text b xs cs ks r → OnBase o text d ys ds js s
    → (b ≡ d) × (xs ≡ ys) × (cs ≡ ds) × (ks ≡ js) × (r ≡ s)
base_same o text r s b d xs ys cs ds ks js named p q =
    let first = row_cut IsLong base_words text p.mid q.mid b d base_clear p.base_is q.base_is in
    let more = calls_same o p.mid r s xs ys cs ds ks js named p.calls_on (subst (λ m. OnCalls o m ys ds js s) (sym first.1) q.calls_on) in
    (base_once b d p.base_is.is q.base_is.is first.0, more.0, more.1, more.2, more.3)

-- from the rows of the past on
pub past_break : (o : ObjectForm) (text rest : List ℕ) → HasNames o → Breaks (IsRun o) (codes "past") (run_words o) text rest → NoPast o text × IsCut text rest
past_break o text rest named breaks =
    ((λ runs b xs cs ks r on. rows_stuck (IsRun o) (codes "past") (run_words o) text rest on.mid runs (run_clear o named) (begin_run o) breaks on.past_is (no_past on.mid on.base_on.mid b on.base_on.base_is)), breaks_cut (IsRun o) (codes "past") (run_words o) text rest breaks)

past_mid : (o : ObjectForm) (text mid r : List ℕ) (runs others : List PastRun) (b : ℕ) (xs : List CarriedCall) (cs : List NamedClient) (ks : List KeptCall) → HasNames o → AreRows (IsRun o) (codes "past") (run_words o) text runs mid → has_verb (codes "past") mid ≡ false
    → (on : OnPast o text others b xs cs ks r) → (runs ≡ others) × (mid ≡ on.mid)
past_mid o text mid r runs others b xs cs ks named are isnt on =
    rows_same (IsRun o) (codes "past") (run_words o) text runs others mid on.mid (run_clear o named) (run_once o named) (begin_run o) are on.past_is isnt (no_past on.mid on.base_on.mid b on.base_on.base_is)

pub none_past : (o : ObjectForm) (text mid rest : List ℕ) (runs : List PastRun) → HasNames o → AreRows (IsRun o) (codes "past") (run_words o) text runs mid → has_verb (codes "past") mid ≡ false → NoBase o mid × IsCut mid rest → NoPast o text × IsCut text rest
none_past o text mid rest runs named are isnt none = (
  (λ others b xs cs ks r on. let same = past_mid o text mid r runs others b xs cs ks named are isnt on in none.0 b xs cs ks r (subst (λ m. OnBase o m b xs cs ks r) (sym same.1) on.base_on)),
  further text mid rest (lines_of (rows (codes "past") (run_words o) runs)) are.stand none.1,
)

-- from the rows of the parts on
parts_same : (parts : List (List ℕ × Kind)) (text a b : List ℕ) (vs us : List Contents) → All (λ p. IsName p.0) parts → AreParts parts text vs a → AreParts parts text us b → (vs ≡ us) × (a ≡ b)
parts_same [] text a b [] [] named p q = (refl, sym p ∙ q)
parts_same [] text a b [] (u ∷ us) named p q = absurd q
parts_same [] text a b (v ∷ vs) us named p q = absurd p
parts_same (part ∷ parts) text a b [] us named p q = absurd p
parts_same (part ∷ parts) text a b (v ∷ vs) [] named p q = absurd q
parts_same (part ∷ parts) text a b (v ∷ vs) (u ∷ us) named p q =
    let name = All-head (λ (x : List ℕ × Kind). IsName x.0) part parts named in
    let first = row_cut (IsValueOf part.1) (part_words part.0) text p.0 q.0 v u (part_clear part.0 part.1 name) p.1 q.1 in
    let head = part_once part.0 part.1 v u p.1.is q.1.is first.0 in
    let more = parts_same parts p.0 a b vs us (All-tail (λ (x : List ℕ × Kind). IsName x.0) part parts named) p.2 (subst (λ m. AreParts parts m us b) (sym first.1) q.2) in
    ((λ i. head i ∷ more.0 i), more.1)

pub no_part : (part : List ℕ × Kind) (parts : List (List ℕ × Kind)) (text : List ℕ) → NoRow (IsValueOf part.1) (part_words part.0) text → NoParts (part ∷ parts) text
no_part part parts text none [] rest are = are
no_part part parts text none (v ∷ vs) rest are = none v are.0 are.1

pub no_parts : (part : List ℕ × Kind) (parts : List (List ℕ × Kind)) (text mid rest : List ℕ) (v : Contents) → IsName part.0 → IsRow (IsValueOf part.1) (part_words part.0) text v mid → NoParts parts mid × IsCut mid rest
    → NoParts (part ∷ parts) text × IsCut text rest
no_parts part parts text mid rest v name row none = (found, further text mid rest (line_of (part_words part.0 v)) row.stands none.1) where
  found : NoParts (part ∷ parts) text
  found [] r are = are
  found (u ∷ us) r are =
      let first = row_cut (IsValueOf part.1) (part_words part.0) text mid are.0 v u (part_clear part.0 part.1 name) row are.1 in none.0 us r (subst (λ m. AreParts parts m us r) (sym first.1) are.2)

parts_text : (parts : List (List ℕ × Kind)) (text mid : List ℕ) (vs : List Contents) → AreParts parts text vs mid → (front : List ℕ) × (text ≡ front ++ mid)
parts_text [] text mid [] are = ([], are)
parts_text [] text mid (v ∷ vs) are = absurd are
parts_text (part ∷ parts) text mid [] are = absurd are
parts_text (part ∷ parts) text mid (v ∷ vs) are =
    let more = parts_text parts are.0 mid vs are.2 in
    (line_of (part_words part.0 v) ++ more.0, are.1.stands ∙ ap (λ t. line_of (part_words part.0 v) ++ t) more.1 ∙ sym (append_assoc (line_of (part_words part.0 v)) more.0 mid))

pub parts_none : (o : ObjectForm) (text rest : List ℕ) → NoParts o.parts text × IsCut text rest → NoneBehindSource o text × IsCut text rest
parts_none o text rest none = ((λ f r on. none.0 f.parts on.mid on.parts_are), none.1)

pub behind_none : (o : ObjectForm) (text mid rest : List ℕ) (vs : List Contents) → HasNames o → AreParts o.parts text vs mid → NoPast o mid × IsCut mid rest → NoneBehindSource o text × IsCut text rest
behind_none o text mid rest vs named are none = (
  (λ f r on.
      let same = parts_same o.parts text mid on.mid vs f.parts named.parts are on.parts_are in
      none.0 f.past f.base f.carried f.clients f.kept r (subst (λ m. BehindParts o m f r) (sym same.1) on.past_on)),
  let front = parts_text o.parts text mid vs are in further text mid rest front.0 front.1 none.1,
)

pub source_none : (o : ObjectForm) (text mid rest : List ℕ) (source : ℕ) → IsRow IsLong source_words text source mid → NoneBehindSource o mid × IsCut mid rest → NoneBehindObject o text × IsCut text rest
source_none o text mid rest source row none = (
  (λ f r on. let same = row_cut IsLong source_words text mid on.mid source f.source source_clear row on.source_is in none.0 f r (subst (λ m. BehindSource o m f r) (sym same.1) on.parts_on)),
  further text mid rest (line_of (source_words source)) row.stands none.1,
)

pub front_none : (o : ObjectForm) (text mid rest : List ℕ) (epoch : ℕ) → HasNames o → IsRow IsKey (object_words o.name) text epoch mid → NoneBehindObject o mid × IsCut mid rest → NoFront o text × IsCut text rest
front_none o text mid rest epoch named row none = (
  (λ f r on. let same = row_cut IsKey (object_words o.name) text mid on.mid epoch f.epoch (object_clear o.name named.own) row on.epoch_is in none.0 f r (subst (λ m. BehindObject o m f r) (sym same.1) on.source_on)),
  further text mid rest (line_of (object_words o.name epoch)) row.stands none.1,
)

-- the whole front
pub front_same : (o : ObjectForm) (text r s : List ℕ) (f g : Opening) → HasNames o → OnFront o text f r → OnFront o text g s → (f ≡ g) × (r ≡ s)
front_same o text r s f g named p q =
    let one = row_cut IsKey (object_words o.name) text p.mid q.mid f.epoch g.epoch (object_clear o.name named.own) p.epoch_is q.epoch_is in
    let epoch = epoch_once o.name f.epoch g.epoch p.epoch_is.is q.epoch_is.is one.0 in
    let qs = subst (λ m. BehindObject o m g s) (sym one.1) q.source_on in
    let two = row_cut IsLong source_words p.mid p.source_on.mid qs.mid f.source g.source source_clear p.source_on.source_is qs.source_is in
    let source = source_once f.source g.source p.source_on.source_is.is qs.source_is.is two.0 in
    let qp = subst (λ m. BehindSource o m g s) (sym two.1) qs.parts_on in
    let parts = parts_same o.parts p.source_on.mid p.source_on.parts_on.mid qp.mid f.parts g.parts named.parts p.source_on.parts_on.parts_are qp.parts_are in
    let qb = subst (λ m. BehindParts o m g s) (sym parts.1) qp.past_on in
    let pb = p.source_on.parts_on.past_on in
    let past = past_mid o p.source_on.parts_on.mid pb.mid s f.past g.past g.base g.carried g.clients g.kept named pb.past_is (no_past pb.mid pb.base_on.mid f.base pb.base_on.base_is) qb in
    let last = base_same o pb.mid r s f.base g.base f.carried g.carried f.clients g.clients f.kept g.kept named pb.base_on (subst (λ m. OnBase o m g.base g.carried g.clients g.kept s) (sym past.1) qb.base_on) in
    ((λ i. record { epoch = epoch i; source = source i; parts = parts.0 i; past = past.0 i; base = last.0 i; carried = last.1 i; clients = last.2 i; kept = last.3 i }), last.4)
