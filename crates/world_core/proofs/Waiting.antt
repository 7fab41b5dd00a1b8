-- The calls that wait, one by one.
use Rattle.std.proofs.Common.{◌≡◌, ℕ, ◌+◌, ◌≤◌, Bool, true, false, List, [], ◌∷◌, ◌++◌, length, Some, None, drop, map, refl, sym, ◌∙◌, ap, subst, add-one, append_assoc, arith, length-append}
use Rattle.std.specs.Prelude.{sum, if◌then◌else◌}
use Rattle.std.specs.List.{flat_map}
use Rattle.std.proofs.lemmas.List.{append-nil}
use Rattle.std.proofs.lemmas.List.Sums.{sum_by_push}
use Rattle.std.proofs.lemmas.Grind.{flat_map-append}
use Rattle.decl_core.specs.ObjectMap.{object_of}
use Rattle.decl_core.specs.ObjectForm.{ObjectForm}
use Rattle.word_core.specs.Words.{Word, line_of, words_text}
use Rattle.stuck_core.specs.Lacks.{Why}
use Rattle.stuck_core.specs.Tells.{Tells}
use Rattle.page_core.specs.ObjectCalls.{AcceptedCall}
use Rattle.board_core.specs.Board.{Board, call_at, paths_of, past_of}
use Rattle.board_core.specs.Answers.{waits_in}
use Rattle.stuck_core.specs.declared.who.WaitingRow.{WaitingRow}
use Rattle.stuck_core.specs.Who.{Refused, call_words, waits_line, who_line}
use Rattle.stuck_core.specs.Why.{node_words}
use Rattle.world_core.specs.Asked.{who}
use Rattle.world_core.specs.Told.{Numbered, numbered, waiting_among, AreRefused, IsTold, HasTold, AreWaitLines, all_that_wait}
use Rattle.world_core.proofs.Numbers.{next_call, none_next, past_all}

-- the calls that wait behind so many calls
abbrev waiting_from : Board → ℕ → List Numbered
waiting_from b k = waiting_among b (drop k (numbered 1 b.calls))

-- before any call
pub none_told : (b : Board) → HasTold b 0 0 []
none_told b = record { front = []; are = λ rest h. h; many = refl; said = refl; few = omega arith }

-- a call that does not wait
step_over : (b : Board) (k lines : ℕ) (text : List ℕ) → HasTold b k lines text → waiting_from b k ≡ waiting_from b (k + 1) → HasTold b (k + 1) lines text
step_over b k lines text h same = record {
  front = h.front;
  are = λ rest more. h.are rest (subst (λ cs. AreRefused b cs rest) (sym same) more);
  many = h.many;
  said = h.said;
  few = h.few;
}

pub no_call : (b : Board) (k lines : ℕ) (text : List ℕ) → HasTold b k lines text → call_at b.calls (k + 1) ≡ None → HasTold b (k + 1) lines text
no_call b k lines text h none =
    step_over b k lines text h (ap (waiting_among b) (none_next k b.calls (sym (ap (call_at b.calls) (add-one k)) ∙ none)))

-- the call there, and those behind it
from_call : (b : Board) (k : ℕ) (call : AcceptedCall) (w : Bool) → call_at b.calls (k + 1) ≡ Some call → waits_in b (k + 1) ≡ w
    → waiting_from b k ≡ (if w then record { number = k + 1; call = call } ∷ [] else []) ++ waiting_from b (k + 1)
from_call b k call w there waits =
    ap (waiting_among b) (next_call k b.calls call (sym (ap (call_at b.calls) (add-one k)) ∙ there))
    ∙ ap (λ t. (if t then record { number = k + 1; call = call } ∷ [] else []) ++ waiting_from b (k + 1)) waits

pub not_waiting : (b : Board) (k lines : ℕ) (text : List ℕ) (call : AcceptedCall) → HasTold b k lines text → call_at b.calls (k + 1) ≡ Some call → waits_in b (k + 1) ≡ false → HasTold b (k + 1) lines text
not_waiting b k lines text call h there waits = step_over b k lines text h (from_call b k call false there waits)

map_snoc : (all : List Refused) (r : Refused) → map (λ (x : Refused). length x.whys) (all ++ r ∷ []) ≡ map (λ (x : Refused). length x.whys) all ++ length r.whys ∷ []
map_snoc [] r = refl
map_snoc (x ∷ all) r = ap (λ ns. length x.whys ∷ ns) (map_snoc all r)

sum_snoc : (all : List Refused) (r : Refused) → sum (map (λ (x : Refused). length x.whys) (all ++ r ∷ [])) ≡ sum (map (λ (x : Refused). length x.whys) all) + length r.whys
sum_snoc all r = ap sum (map_snoc all r) ∙ sum_by_push (λ (n : ℕ). n) (map (λ (x : Refused). length x.whys) all) (length r.whys)

-- a line has its end at least
one_each : (o : ObjectForm) (w : WaitingRow) (whys : List Why) → length whys ≤ length (flat_map (waits_line o w) whys)
one_each o w [] = omega arith
one_each o w (x ∷ whys) = omega (arith, one_each o w whys, length-append (waits_line o w x) (flat_map (waits_line o w) whys), line_end (call_words o w ++ node_words x []))
  where
    line_end : (words : List Word) → 1 ≤ length (line_of words)
    line_end words = omega (arith, length-append (words_text words) (10 ∷ []))

-- a call that waits
pub one_waits : (b : Board) (k lines count : ℕ) (text out : List ℕ) (call : AcceptedCall) (w : WaitingRow) (whys : List Why) → HasTold b k lines text → call_at b.calls (k + 1) ≡ Some call → waits_in b (k + 1) ≡ true
    → w ≡ record { number = k + 1; session = call.session; operation = call.op; seconds = None } → Tells (paths_of b) call.op (past_of b) whys
    → out ≡ text ++ flat_map (waits_line (object_of b.object) w) whys → count ≡ lines + length whys → HasTold b (k + 1) count out
one_waits b k lines count text out call w whys h there waits is tells made more =
    let r : Refused = record { call = w; whys = whys } in record {
      front = h.front ++ r ∷ [];
      are = λ rest later. subst (AreRefused b (waiting_among b (numbered 1 b.calls))) (sym (append_assoc h.front (r ∷ []) rest))
          (h.are (r ∷ rest) (subst (λ cs. AreRefused b cs (r ∷ rest)) (sym (from_call b k call true there waits)) (record { call = is; tells = tells }, later)));
      many = more ∙ ap (λ n. n + length whys) h.many ∙ sym (sum_snoc h.front r);
      said = made ∙ ap (λ xs. xs ++ flat_map (waits_line (object_of b.object) w) whys) h.said
          ∙ ap (λ xs. flat_map (λ (x : Refused). flat_map (waits_line (object_of b.object) x.call) x.whys) h.front ++ xs) (sym (append-nil (flat_map (waits_line (object_of b.object) w) whys)))
          ∙ sym (flat_map-append (λ (x : Refused). flat_map (waits_line (object_of b.object) x.call) x.whys) h.front (r ∷ []));
      few = omega (arith, more, h.few, ap length made, length-append text (flat_map (waits_line (object_of b.object) w) whys), one_each (object_of b.object) w whys);
    }

-- all of them
pub all_told : (b : Board) (k lines : ℕ) (text : List ℕ) → HasTold b k lines text → length b.calls ≤ k → AreWaitLines b lines text
all_told b k lines text h few = record {
  all = h.front;
  are = subst (AreRefused b (waiting_among b (numbered 1 b.calls))) (append-nil h.front) (h.are [] (subst (λ cs. AreRefused b cs []) (sym (ap (waiting_among b) (past_all 1 k b.calls few))) tt));
  many = h.many;
  said = h.said;
  few = h.few;
}

-- and the answer to `who`
pub who_told : (b : Board) (count : ℕ) (text said : List ℕ) → AreWaitLines b count text → said ≡ who_line count ++ text → IsTold b who said
who_told b count text said h is =
    let sure : count ≡ 0 + sum (map (λ (x : Refused). length x.whys) h.all) = omega (arith, h.many) in
    let first = who_line (0 + sum (map (λ (x : Refused). length x.whys) h.all)) in
    subst (IsTold b who) (sym (is ∙ ap (λ n. who_line n ++ text) sure ∙ ap (λ xs. xs ++ text) (sym (append-nil first)) ∙ ap (λ xs. (first ++ []) ++ xs) h.said))
    (all_that_wait h.all h.are)
