-- What is read of a front, from its parts.
use Rattle.std.proofs.Common.{◌≡◌, ℕ, ◌-◌, ◌≤◌, true, false, List, [], ◌∷◌, ◌++◌, length, take, inr, refl, sym, ap, ◌∙◌, subst, append_assoc, arith, map}
use Rattle.std.specs.Prelude.{Result, Ok, Err, IfOk, MatchResult, codes}
use Rattle.std.specs.Borrow.{Bor}
use Rattle.std.proofs.lemmas.List.{length-append}
use Rattle.value_core.specs.declared.kind.Kind.{Kind}
use Rattle.value_core.specs.Contents.{Contents, kind_of, IsContents}
use Rattle.path_tree.specs.Identifier.{IsName}
use Rattle.decl_core.specs.ObjectForm.{ObjectForm}
use Rattle.word_core.specs.Words.{line_of}
use Rattle.word_core.specs.TraceLaws.{HasNames}
use Rattle.word_core.specs.Text.{part_words, parts_words, lines_of}
use Rattle.live_core.specs.Front.{Every, IsKey, IsLong, IsRun, IsCarried, IsClient, IsKept, HasRows, Opening}
use Rattle.live_core.specs.Text.{object_words, source_words, base_words, runs_text, carried_text, clients_text, kept_text, calls_text, behind_parts, front_text, run_words, carried_words, client_words, kept_words}
use Rattle.live_core.specs.declared.past.PastRun.{PastRun}
use Rattle.live_core.specs.declared.front.CarriedCall.{CarriedCall}
use Rattle.live_core.specs.declared.front.NamedClient.{NamedClient}
use Rattle.live_core.specs.declared.front.KeptCall.{KeptCall}
use Rattle.front_read.specs.Text.{goes_on}
use Rattle.front_read.specs.Rows.{IsRow, AreRows, has_verb}
use Rattle.front_read.specs.Parts.{IsValueOf, AreParts}
use Rattle.front_read.specs.Read.{OnFront, AFront, FrontWith, FrontOf, FrontIn, FrontAt, OnClients, TakesClients, TakesCalls, TakesBase, TakesPast}
use Rattle.front_read.proofs.None.{NoFront}
use Rattle.front_read.specs.Fault.{StuckClients, row_again, clients_stuck, base_stuck, past_stuck, source_stuck, object_stuck, TakesParts}
use Rattle.front_read.proofs.Levels.{front_same}

-- the parts, one more
pub parts_more : (part : List ℕ × Kind) (parts : List (List ℕ × Kind)) (text mid : List ℕ) (v : Contents) (old now new : List Contents) (found : Result (Bor (List ℕ)) (Bor (List ℕ))) → IsName part.0 → IsRow (IsValueOf part.1) (part_words part.0) text v mid
    → now ≡ old ++ v ∷ [] → TakesParts parts mid now found new → TakesParts (part ∷ parts) text old found new
parts_more part parts text mid v old now new (Ok rest) name row one takes =
    (v ∷ takes.0, takes.1 ∙ ap (λ xs. xs ++ takes.0) one ∙ append_assoc old (v ∷ []) takes.0, (mid, row, takes.2))
parts_more part parts text mid v old now new (Err rest) name row one takes = inr (v, mid, row, takes)

-- the front, one level more
front_more : (o : ObjectForm) (epoch source : ℕ) (text mid : List ℕ) (vs : List Contents) (found : AFront) → HasNames o → AreParts o.parts text vs mid → FrontWith o epoch source vs mid found → FrontOf o epoch source text found
front_more o epoch source text mid vs (Ok r) named are with =
    (record { mid = mid; parts_are = subst (λ xs. AreParts o.parts text xs mid) (sym with.3) are; past_on = with.0 }, with.1, with.2)
front_more o epoch source text mid vs (Err rest) named are with = past_stuck mid vs are with

pub front_more_ok : {E : Type 0} (o : ObjectForm) (epoch source : ℕ) (text mid : List ℕ) (vs : List Contents) (found : Result AFront E) → HasNames o → AreParts o.parts text vs mid → IfOk found (FrontWith o epoch source vs mid) → IfOk found (FrontOf o epoch source text)
front_more_ok o epoch source text mid vs (Ok found) named are with = front_more o epoch source text mid vs found named are with
front_more_ok o epoch source text mid vs (Err e) named are with = tt

source_more : (o : ObjectForm) (epoch source : ℕ) (text mid : List ℕ) (found : AFront) → IsRow IsLong source_words text source mid → FrontOf o epoch source mid found → FrontIn o epoch text found
source_more o epoch source text mid (Ok r) row of =
    (record { mid = mid; source_is = subst (λ n. IsRow IsLong source_words text n mid) (sym of.2) row; parts_on = of.0 }, of.1)
source_more o epoch source text mid (Err rest) row of = source_stuck mid source row of

pub source_more_ok : {E : Type 0} (o : ObjectForm) (epoch source : ℕ) (text mid : List ℕ) (found : Result AFront E) → IsRow IsLong source_words text source mid → IfOk found (FrontOf o epoch source mid) → IfOk found (FrontIn o epoch text)
source_more_ok o epoch source text mid (Ok found) row of = source_more o epoch source text mid found row of
source_more_ok o epoch source text mid (Err e) row of = tt

object_more : (o : ObjectForm) (epoch : ℕ) (text mid : List ℕ) (found : AFront) → HasNames o → IsRow IsKey (object_words o.name) text epoch mid → FrontIn o epoch mid found → FrontAt o text found
object_more o epoch text mid (Ok r) named row of = record { mid = mid; epoch_is = subst (λ n. IsRow IsKey (object_words o.name) text n mid) (sym of.1) row; source_on = of.0 }
object_more o epoch text mid (Err rest) named row of = object_stuck mid epoch row of

pub object_more_ok : {E : Type 0} (o : ObjectForm) (epoch : ℕ) (text mid : List ℕ) (found : Result AFront E) → HasNames o → IsRow IsKey (object_words o.name) text epoch mid → IfOk found (FrontIn o epoch mid) → IfOk found (FrontAt o text)
object_more_ok o epoch text mid (Ok found) named row of = object_more o epoch text mid found named row of
object_more_ok o epoch text mid (Err e) named row of = tt

-- what was found stands there
pub parts_stand : (parts : List (List ℕ × Kind)) (text mid : List ℕ) (vs : List Contents) → AreParts parts text vs mid → (text ≡ lines_of (parts_words parts vs) ++ mid) × (map kind_of vs ≡ map (λ p. p.1) parts) × Every IsContents vs
parts_stand [] text mid [] are = (are, refl, tt)
parts_stand [] text mid (v ∷ vs) are = absurd are
parts_stand (part ∷ parts) text mid [] are = absurd are
parts_stand (part ∷ parts) text mid (v ∷ vs) are =
    let more = parts_stand parts are.0 mid vs are.2 in
    let kind = are.1.is.1 in
    let others = more.1 in
    (are.1.stands ∙ ap (λ t. line_of (part_words part.0 v) ++ t) more.0 ∙ sym (append_assoc (line_of (part_words part.0 v)) (lines_of (parts_words parts vs)) mid), (λ i. kind i ∷ others i), (are.1.is.0, more.2))

two : (a b x y : List ℕ) → x ≡ a ++ y → (z : List ℕ) → y ≡ b ++ z → x ≡ (a ++ b) ++ z
two a b x y p z q = p ∙ ap (λ t. a ++ t) q ∙ sym (append_assoc a b z)

pub front_stands : (o : ObjectForm) (text rest : List ℕ) (f : Opening) → OnFront o text f rest → (text ≡ front_text o f ++ rest) × HasRows o f
front_stands o text rest f on =
    let source = on.source_on in
    let parts = source.parts_on in
    let past = parts.past_on in
    let base = past.base_on in
    let calls = base.calls_on in
    let clients = calls.clients_on in
    let these = parts_stand o.parts source.mid parts.mid f.parts parts.parts_are in
    let a : calls.mid ≡ (clients_text f.clients ++ kept_text o f.kept) ++ rest = two (clients_text f.clients) (kept_text o f.kept) calls.mid clients.mid clients.clients_are.stand rest clients.kept_are.stand in
    let b : base.mid ≡ calls_text o f ++ rest = two (carried_text o f.carried) (clients_text f.clients ++ kept_text o f.kept) base.mid calls.mid calls.carried_are.stand rest a in
    let c : past.mid ≡ (line_of (base_words f.base) ++ calls_text o f) ++ rest = two (line_of (base_words f.base)) (calls_text o f) past.mid base.mid base.base_is.stands rest b in
    let d : parts.mid ≡ behind_parts o f ++ rest = two (runs_text o f.past) (line_of (base_words f.base) ++ calls_text o f) parts.mid past.mid past.past_is.stand rest c in
    let e = two (lines_of (parts_words o.parts f.parts)) (behind_parts o f) source.mid parts.mid these.0 rest d in
    let g = two (line_of (source_words f.source)) (lines_of (parts_words o.parts f.parts) ++ behind_parts o f) on.mid source.mid source.source_is.stands rest e in (
      two (line_of (object_words o.name f.epoch)) (line_of (source_words f.source) ++ (lines_of (parts_words o.parts f.parts) ++ behind_parts o f)) text on.mid on.epoch_is.stands rest g,
      record {
        epoch = on.epoch_is.is;
        source = source.source_is.is;
        kinds = these.1;
        contents = these.2;
        past = past.past_is.each;
        base = base.base_is.is;
        carried = calls.carried_are.each;
        clients = clients.clients_are.each;
        kept = clients.kept_are.each;
      },
    )

-- what stands there is a front
pub parts_there : (parts : List (List ℕ × Kind)) (mid : List ℕ) (vs : List Contents) → map kind_of vs ≡ map (λ p. p.1) parts → Every IsContents vs → AreParts parts (lines_of (parts_words parts vs) ++ mid) vs mid
parts_there [] mid [] kinds each = refl
parts_there [] mid (v ∷ vs) kinds each = absurd cc
parts_there (part ∷ parts) mid [] kinds each = absurd cc
parts_there (part ∷ parts) mid (v ∷ vs) kinds each =
    let kind : kind_of v ≡ part.1 = cc in
    let others : map kind_of vs ≡ map (λ (p : List ℕ × Kind). p.1) parts = cc in
    (lines_of (parts_words parts vs) ++ mid, record { is = (each.0, kind); stands = append_assoc (line_of (part_words part.0 v)) (lines_of (parts_words parts vs)) mid }, parts_there parts mid vs others each.1)

pub front_there : (o : ObjectForm) (text rest : List ℕ) (f : Opening) → HasRows o f → goes_on rest ≡ false → text ≡ front_text o f ++ rest → OnFront o text f rest
front_there o text rest f rows ends stands =
    let k = kept_text o f.kept in
    let c = clients_text f.clients in
    let w = carried_text o f.carried in
    let b = line_of (base_words f.base) in
    let p = runs_text o f.past in
    let v = lines_of (parts_words o.parts f.parts) in
    let s = line_of (source_words f.source) in
    let h = line_of (object_words o.name f.epoch) in
    record {
      mid = (s ++ (v ++ (p ++ (b ++ (w ++ (c ++ k)))))) ++ rest;
      epoch_is = record { is = rows.epoch; stands = stands ∙ append_assoc h (s ++ (v ++ (p ++ (b ++ (w ++ (c ++ k)))))) rest };
      source_on = record {
        mid = (v ++ (p ++ (b ++ (w ++ (c ++ k))))) ++ rest;
        source_is = record { is = rows.source; stands = append_assoc s (v ++ (p ++ (b ++ (w ++ (c ++ k))))) rest };
        parts_on = record {
          mid = (p ++ (b ++ (w ++ (c ++ k)))) ++ rest;
          parts_are = subst (λ t. AreParts o.parts t f.parts ((p ++ (b ++ (w ++ (c ++ k)))) ++ rest)) (sym (append_assoc v (p ++ (b ++ (w ++ (c ++ k)))) rest)) (parts_there o.parts ((p ++ (b ++ (w ++ (c ++ k)))) ++ rest) f.parts rows.kinds rows.contents);
          past_on = record {
            mid = (b ++ (w ++ (c ++ k))) ++ rest;
            past_is = record { each = rows.past; stand = append_assoc p (b ++ (w ++ (c ++ k))) rest };
            base_on = record {
              mid = (w ++ (c ++ k)) ++ rest;
              base_is = record { is = rows.base; stands = append_assoc b (w ++ (c ++ k)) rest };
              calls_on = record {
                mid = (c ++ k) ++ rest;
                carried_are = record { each = rows.carried; stand = append_assoc w (c ++ k) rest };
                clients_on = record {
                  mid = k ++ rest;
                  clients_are = record { each = rows.clients; stand = append_assoc c k rest };
                  kept_are = record { each = rows.kept; stand = refl };
                  ends = ends;
                };
              };
            };
          };
        };
      };
    }

-- lengths
pub rest_short : (text front rest : List ℕ) → text ≡ front ++ rest → length rest ≤ length text
rest_short text front rest is = let l = length-append front rest in let e = ap length is in omega (arith, l, e)

pub front_long : (text front rest : List ℕ) → text ≡ front ++ rest → length text - length rest ≡ length front
front_long text front rest is = let l = length-append front rest in let e = ap length is in omega (arith, l, e)

pub take_append : (front rest : List ℕ) → take (length front) (front ++ rest) ≡ front
take_append [] rest = refl
take_append (b ∷ front) rest = ap (λ t. b ∷ t) (take_append front rest)

-- what was found has this length
pub told_of : (o : ObjectForm) (text rest : List ℕ) (f : Opening) → OnFront o text f rest → (length text - length rest ≤ length text) × (take (length text - length rest) text ≡ front_text o f) × HasRows o f
told_of o text rest f on =
    let there = front_stands o text rest f on in
    let long = front_long text (front_text o f) rest there.0 in
    (omega arith, ap (λ n. take n text) long ∙ ap (take (length (front_text o f))) there.0 ∙ take_append (front_text o f) rest, there.1)

pub found_of : (o : ObjectForm) (text r : List ℕ) (g : Opening) → HasNames o → OnFront o text g r → (f : Opening) (rest : List ℕ) → HasRows o f → goes_on rest ≡ false → text ≡ front_text o f ++ rest → (g ≡ f) × (length text - length r ≡ length (front_text o f))
found_of o text r g named on f rest rows ends stands =
    let same = front_same o text r rest g f named on (front_there o text rest f rows ends stands) in
    (same.0, ap (λ x. length text - length x) same.1 ∙ front_long text (front_text o f) rest stands)

pub not_found : (o : ObjectForm) (text : List ℕ) → NoFront o text → (f : Opening) (rest : List ℕ) → HasRows o f → goes_on rest ≡ false → text ≡ front_text o f ++ rest → ⊥
not_found o text none f rest rows ends stands = none f rest (front_there o text rest f rows ends stands)

-- all parts were taken
pub all_parts : (parts ps : List (List ℕ × Kind)) (text : List ℕ) (old new : List Contents) (rest : Bor (List ℕ)) → TakesParts ps text old (Ok rest) new → ps ≡ parts → old ≡ [] → AreParts parts text new rest.now
all_parts parts ps text old new rest takes same empty =
    subst (λ xs. AreParts parts text xs rest.now) (sym (takes.1 ∙ ap (λ xs. xs ++ takes.0) empty)) (subst (λ x. AreParts x text takes.0 rest.now) same takes.2)

-- the clients, and nothing behind them
pub end_takes : (o : ObjectForm) (text mid rest : List ℕ) (cs : List NamedClient) (ks : List KeptCall) (found : Result (Bor (List ℕ)) (Bor (List ℕ))) → HasNames o → AreRows IsClient (codes "client") client_words text cs mid × (has_verb (codes "client") mid ≡ false)
    → AreRows (IsKept o) (codes "kept") (kept_words o) mid ks rest × (has_verb (codes "kept") rest ≡ false) → MatchResult found (λ r. (r.now ≡ rest) × (goes_on rest ≡ false)) (λ r. (r.now ≡ rest) × (goes_on rest ≡ true)) → TakesClients o text found cs ks
end_takes o text mid rest cs ks (Ok r) named p q ends =
    subst (λ t. OnClients o text cs ks t) (sym ends.0) (record { mid = mid; clients_are = p.0; kept_are = q.0; ends = ends.1 })
end_takes o text mid rest cs ks (Err r) named p q ends =
    subst (StuckClients o text) (sym ends.0) (row_again mid cs ks p.0 p.1 q.0 q.1 ends.1)

pub calls_take : (o : ObjectForm) (text mid : List ℕ) (xs : List CarriedCall) (cs : List NamedClient) (ks : List KeptCall) (found : Result (Bor (List ℕ)) (Bor (List ℕ))) → HasNames o
    → AreRows (IsCarried o) (codes "carried") (carried_words o) text xs mid × (has_verb (codes "carried") mid ≡ false) → TakesClients o mid found cs ks → TakesCalls o text found xs cs ks
calls_take o text mid xs cs ks (Ok r) named p takes = record { mid = mid; carried_are = p.0; clients_on = takes }
calls_take o text mid xs cs ks (Err r) named p takes = clients_stuck mid xs p.0 p.1 takes

pub past_takes : (o : ObjectForm) (text mid : List ℕ) (runs : List PastRun) (xs : List CarriedCall) (cs : List NamedClient) (ks : List KeptCall) (found : Result (ℕ × Bor (List ℕ)) (Bor (List ℕ))) → HasNames o
    → AreRows (IsRun o) (codes "past") (run_words o) text runs mid × (has_verb (codes "past") mid ≡ false) → TakesBase o mid found xs cs ks → TakesPast o text found runs xs cs ks
past_takes o text mid runs xs cs ks (Ok r) named p takes = record { mid = mid; past_is = p.0; base_on = takes }
past_takes o text mid runs xs cs ks (Err r) named p takes = base_stuck mid runs p.0 p.1 takes
