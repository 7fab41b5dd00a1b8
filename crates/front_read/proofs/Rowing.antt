-- Rows of calls, clients and pasts are read from their words.
use Rattle.std.proofs.Common.{◌≡◌, ℕ, ◌<◌, ◌≤◌, ◌==◌, true, false, Bool, cond, List, [], ◌∷◌, ◌++◌, refl, sym, ap, ◌∙◌, subst, arith, inl, inr}
use Rattle.std.specs.Prelude.{Option, Some, None, option_map, decimal, nat_lt, codes, IfSome, ◌&&◌, drop, Result, Ok, Err, IfOk}
use Rattle.std.specs.Str.{bytes_eq, all_ascii_digits, str_to_ascii_lowercase}
use Rattle.path_tree.proofs.Spelling.{name_lower}
use Rattle.std.specs.Char.{is_ascii_digit}
use Rattle.std.specs.Borrow.{Bor}
use Rattle.std.proofs.lemmas.Bool.Decides.{nat_tests}
use Rattle.path_tree.specs.Identifier.{IsName, IsLetter}
use Rattle.value_core.specs.declared.datum.Datum.{Datum}
use Rattle.value_core.specs.declared.datum.Datum.TheVariants.{Integer}
use Rattle.decl_core.specs.ObjectForm.{ObjectForm}
use Rattle.word_core.specs.Words.{Word, bare, AreWords, line_of}
use Rattle.word_core.specs.Data.{◌>>=◌, integer_of}
use Rattle.word_core.proofs.Numerals.{no_digits}
use Rattle.word_core.proofs.Written.{written_integer}
use Rattle.word_core.specs.Text.{operation_name}
use Rattle.word_core.specs.TraceLaws.{HasNames}
use Rattle.live_core.specs.declared.past.PastRun.{PastRun}
use Rattle.live_core.specs.declared.past.PastRun.TheVariants.{Calls, Begins, Ends}
use Rattle.live_core.specs.declared.front.CarriedCall.{CarriedCall}
use Rattle.live_core.specs.declared.front.NamedClient.{NamedClient}
use Rattle.live_core.specs.declared.front.KeptCall.{KeptCall}
use Rattle.live_core.specs.declared.front.Answer.{Answer}
use Rattle.live_core.specs.Front.{IsOperation, IsCall, IsRun, IsCarried, IsClient, IsKept, IsAnswer}
use Rattle.live_core.specs.Text.{run_words, call_words, carried_words, client_words, answer_words, kept_words}
use Rattle.front_read.specs.declared.answer.RememberedEnd.{RememberedEnd}
use Rattle.front_read.specs.declared.carried.CarriedHead.{CarriedHead}
use Rattle.front_read.specs.declared.carried.CarriedRow.{CarriedRow}
use Rattle.front_read.specs.declared.kept.KeptHead.{KeptHead}
use Rattle.front_read.specs.declared.kept.KeptRow.{KeptRow}
use Rattle.front_read.specs.Words.{carried_head, kept_head}
use Rattle.front_read.specs.Rows.{Finds, NoRow, Takes, TakesThis, row_words}
use Rattle.front_read.specs.Calls.{operation_in, IsAsked, asked_words, asked_of}
use Rattle.front_read.specs.Answers.{FindsAnswer, answer_of_end, answered, tells_datum, is_some}
use Rattle.front_read.specs.Row.{two_in, count_in, event_in, FindsRun, carried_row, client_of, TakesNamed, kept_row, KeptBy}
use Rattle.front_read.proofs.Calling.{some_same, not_some}
use Rattle.front_read.proofs.Forms.{first_of}
use Rattle.front_read.proofs.Standing.{IsFirstLine, same_words}
use Rattle.front_read.proofs.Clear.{client_clear, named_is}
use Rattle.front_read.proofs.Telling.{bind_some, two_tests, zero_not, not_zero, carried_told, carried_is, kept_told, kept_is, client_told, client_is}

abbrev pub Found : {A B : Type 0} → A → B → Option (A × B) → Type 0
Found {A} {B} a b found = ◌≡◌ {A = Option (A × B)} (Some (a, b)) found

-- waiting calls
head_same : (o : ObjectForm) (ws rest : List Word) (head : CarriedHead) (x : CarriedCall) → Found head rest (carried_head ws) → IsCarried o x → ws ≡ row_words (codes "carried") (carried_words o) x
    → ◌≡◌ {A = CarriedHead × List Word} (head, rest) (record { number = x.number; told = x.told; session = x.session }, call_words o x.operation x.arguments)
head_same o ws rest head x first is same = some_same (first ∙ ap carried_head same ∙ carried_told o x is)

pub carried_found : (o : ObjectForm) (ws rest : List Word) (row : CarriedRow) → Found row.head rest (carried_head ws) → Finds (IsAsked o) (asked_words o) asked_of rest (Some (row.operation, row.arguments))
    → Finds (IsCarried o) (row_words (codes "carried") (carried_words o)) carried_row ws (Some row)
carried_found o ws rest row first finds = (
  (λ x is same.
      let e = head_same o ws rest row.head x first is same in
      let h = ap (λ (p : CarriedHead × List Word). p.0) e in
      let call = some_same (finds.0 (x.operation, x.arguments) is.call (ap (λ (p : CarriedHead × List Word). p.1) e)) in
      λ i. Some (record { number = (h i).number; told = (h i).told; session = (h i).session; operation = (call i).0; arguments = (call i).1 })),
  let head = carried_is ws (row.head, rest) (sym first) in record { number = head.number; told = head.told; session = head.session; call = finds.1 },
)

pub no_call : (o : ObjectForm) (ws rest : List Word) (head : CarriedHead) → Found head rest (carried_head ws) → Finds (IsAsked o) (asked_words o) asked_of rest None → Finds (IsCarried o) (row_words (codes "carried") (carried_words o)) carried_row ws None
no_call o ws rest head first finds = (
  (λ x is same.
      let e = head_same o ws rest head x first is same in
      absurd (not_some (x.operation, x.arguments) (finds.0 (x.operation, x.arguments) is.call (ap (λ (p : CarriedHead × List Word). p.1) e)))),
  tt,
)

pub no_head : (o : ObjectForm) (ws : List Word) → ◌≡◌ {A = Option (CarriedHead × List Word)} None (carried_head ws) → Finds (IsCarried o) (row_words (codes "carried") (carried_words o)) carried_row ws None
no_head o ws none =
    ((λ x is same. absurd (not_some {X = CarriedHead × List Word} (record { number = x.number; told = x.told; session = x.session }, call_words o x.operation x.arguments) (none ∙ ap carried_head same ∙ carried_told o x is))), tt)

-- clients
abbrev pub named_row : NamedClient → List ℕ → NamedClient
named_row client name = record { session = client.session; name = name; keys = client.keys }

pub client_takes : (client : NamedClient) (ws : List Word) (text first : List ℕ) (old : List NamedClient) (found : Option (Bor (List ℕ))) (new : List NamedClient) → Some client ≡ client_of ws → IsFirstLine text first → AreWords first ws
    → TakesNamed client text old found new → Takes IsClient (row_words (codes "client") client_words) text old found new
client_takes client ws text first old None new said is are takes =
    λ x rest row.
    let same = same_words text first rest ws (row_words (codes "client") client_words x) is are (client_clear x row.is) row.stands in
    let this : client ≡ x = some_same (said ∙ ap client_of same ∙ client_told x row.is) in
    takes rest (subst (λ (c : NamedClient). IsName c.name) (sym this) row.is.name) (row.stands ∙ ap (λ c. line_of (row_words (codes "client") client_words c) ++ rest) (sym this))
client_takes client ws text first old (Some rest) new said is are takes =
    let fits = client_is ws client (sym said) in
    (named_row client takes.0, record { is = record { session = fits.0; name = takes.1; keys = fits.1 }; stands = takes.2 }, takes.3)

pub no_client : (ws : List Word) (text first : List ℕ) → None ≡ client_of ws → IsFirstLine text first → AreWords first ws → NoRow IsClient (row_words (codes "client") client_words) text
no_client ws text first none is are x rest row =
    let same = same_words text first rest ws (row_words (codes "client") client_words x) is are (client_clear x row.is) row.stands in
    not_some x (none ∙ ap client_of same ∙ client_told x row.is)

-- names are no numbers
letter_no_digit : (b : ℕ) → IsLetter b → is_ascii_digit b ≡ false
letter_no_digit b (inl lower) = let p = lower.0 in let q = lower.1 in grind (arith, nat_tests)
letter_no_digit b (inr upper) = let p = upper.0 in let q = upper.1 in grind (arith, nat_tests)

pub name_no_integer : (name : List ℕ) → IsName name → integer_of name ≡ None
name_no_integer [] is = absurd is.0
name_no_integer (b ∷ name) is = no_digits (b ∷ name) (ap (λ t. t && all_ascii_digits name) (letter_no_digit b is.0.0))

pub operation_no_integer : (o : ObjectForm) (op : ℕ) → HasNames o → IsOperation o op → integer_of (operation_name o op) ≡ None
operation_no_integer o op named is = name_no_integer (operation_name o op) (named_is o.operations op named.operations is.there)

-- runs of a past
data RunFacts (o : ObjectForm) (first second : List ℕ) : PastRun → Type 0 where
  calls_facts : (op count : ℕ) → operation_in o first ≡ Some op → count_in second ≡ Some count → RunFacts o first second (Calls op count)
  begins_facts : (op : ℕ) → count_in second ≡ None → operation_in o second ≡ Some op → first ≡ codes "begin" → RunFacts o first second (Begins op)
  ends_facts : (op : ℕ) → count_in second ≡ None → operation_in o second ≡ Some op → first ≡ codes "end" → RunFacts o first second (Ends op)

few_calls : (n : ℕ) → n ≤ 65536 → nat_lt 65536 n ≡ false
few_calls n few = grind (arith, nat_tests)

calls_few : (n : ℕ) → nat_lt 65536 n ≡ false → n ≤ 65536
calls_few n few = grind (arith, nat_tests)

count_read : (n : ℕ) → 1 ≤ n → n ≤ 65536 → count_in (decimal n) ≡ Some n
count_read n some few =
    ap (λ o. o >>= λ count. cond (count == 0) None (cond (nat_lt 65536 count) None (Some count))) (written_integer n (omega (arith, few))).1
    ∙ ap (λ b. cond b None (cond (nat_lt 65536 n) None (Some n))) (not_zero n some) ∙ ap (λ b. cond b None (Some n)) (few_calls n few)

count_of_name : (o : ObjectForm) (op : ℕ) → HasNames o → IsOperation o op → count_in (operation_name o op) ≡ None
count_of_name o op named is = ap (λ r. r >>= λ count. cond (count == 0) None (cond (nat_lt 65536 count) None (Some count))) (operation_no_integer o op named is)

bare_same : (a b : List ℕ) → bare a ≡ bare b → a ≡ b
bare_same a b is = cc

two_same : (a b x y : List ℕ) → ◌≡◌ {A = List Word} (bare a ∷ bare b ∷ []) (bare x ∷ bare y ∷ []) → (a ≡ x) × (b ≡ y)
two_same a b x y is = (cc, cc)

facts : (o : ObjectForm) (first second : List ℕ) (run : PastRun) → HasNames o → IsRun o run → ◌≡◌ {A = List Word} (bare first ∷ bare second ∷ []) (run_words o run) → RunFacts o first second run
facts o first second (Calls op count) named is same =
    let two = two_same first second (operation_name o op) (decimal count) same in
    calls_facts op count (ap (operation_in o) two.0 ∙ is.0.first) (ap count_in two.1 ∙ count_read count is.1.0 is.1.1)
facts o first second (Begins op) named is same =
    let two = two_same first second (codes "begin") (operation_name o op) same in
    begins_facts op (ap count_in two.1 ∙ count_of_name o op named is) (ap (operation_in o) two.1 ∙ is.first) two.0
facts o first second (Ends op) named is same =
    let two = two_same first second (codes "end") (operation_name o op) same in
    ends_facts op (ap count_in two.1 ∙ count_of_name o op named is) (ap (operation_in o) two.1 ∙ is.first) two.0

differ : {X : Type 0} (found : Option X) (x : X) → found ≡ Some x → found ≡ None → ⊥
differ found x some none = not_some x (sym none ∙ some)

one_found : {X : Type 0} (found : Option X) (x y : X) → found ≡ Some x → found ≡ Some y → x ≡ y
one_found found x y p q = some_same (sym p ∙ q)

calls_told : (o : ObjectForm) (first second : List ℕ) (op count : ℕ) (run : PastRun) → count_in second ≡ Some count → operation_in o first ≡ Some op → RunFacts o first second run → ◌≡◌ {A = Option PastRun} (Some (Calls op count)) (Some run)
calls_told o first second op count run many found (calls_facts op' count' p q) =
    let a = one_found (operation_in o first) op op' found p in let b = one_found (count_in second) count count' many q in λ i. Some (Calls (a i) (b i))
calls_told o first second op count run many found (begins_facts op' none p q) = absurd (differ (count_in second) count many none)
calls_told o first second op count run many found (ends_facts op' none p q) = absurd (differ (count_in second) count many none)

count_is : (word : List ℕ) (count : ℕ) → count_in word ≡ Some count → (1 ≤ count) × (count ≤ 65536)
count_is word count is =
    let a = bind_some (integer_of word) _ count is in
    let d = two_tests (a.0 == 0) (nat_lt 65536 a.0) a.0 count a.2 in
    subst (λ n. (1 ≤ n) × (n ≤ 65536)) d.2 (zero_not a.0 d.0, calls_few a.0 d.1)

pub calls_found : (o : ObjectForm) (first second : List ℕ) (op count : ℕ) → HasNames o → Some count ≡ count_in second → Some op ≡ operation_in o first → FindsRun o first second (Some (Calls op count))
calls_found o first second op count named many found =
    ((λ run is same. calls_told o first second op count run (sym many) (sym found) (facts o first second run named is same)), ((first_of o first op (sym found)).0, count_is second count (sym many)))

no_calls : (o : ObjectForm) (first second : List ℕ) (count : ℕ) (run : PastRun) → count_in second ≡ Some count → operation_in o first ≡ None → RunFacts o first second run → ⊥
no_calls o first second count run many none (calls_facts op' count' p q) = differ (operation_in o first) op' p none
no_calls o first second count run many none (begins_facts op' isnt p q) = differ (count_in second) count many isnt
no_calls o first second count run many none (ends_facts op' isnt p q) = differ (count_in second) count many isnt

pub calls_none : (o : ObjectForm) (first second : List ℕ) (count : ℕ) → HasNames o → Some count ≡ count_in second → None ≡ operation_in o first → FindsRun o first second None
calls_none o first second count named many none = ((λ run is same. absurd (no_calls o first second count run (sym many) (sym none) (facts o first second run named is same))), tt)

event_told : (o : ObjectForm) (first second : List ℕ) (op : ℕ) (run : PastRun) → count_in second ≡ None → operation_in o second ≡ Some op → RunFacts o first second run → event_in first op ≡ Some run
event_told o first second op run none found (calls_facts op' count' p q) = absurd (differ (count_in second) count' q none)
event_told o first second op run none found (begins_facts op' isnt p q) =
    let a = one_found (operation_in o second) op op' found p in ap (λ w. event_in w op) q ∙ ap (λ n. Some (Begins n)) a
event_told o first second op run none found (ends_facts op' isnt p q) =
    let a = one_found (operation_in o second) op op' found p in ap (λ w. event_in w op) q ∙ ap (λ n. Some (Ends n)) a

event_is : (o : ObjectForm) (op : ℕ) (a b : Bool) → IsOperation o op → IfSome (cond a (Some (Begins op)) (cond b (Some (Ends op)) None)) (IsRun o)
event_is o op true b is = is
event_is o op false true is = is
event_is o op false false is = tt

pub event_found : (o : ObjectForm) (first second : List ℕ) (op : ℕ) (found : Option PastRun) → HasNames o → None ≡ count_in second → Some op ≡ operation_in o second → found ≡ event_in first op → FindsRun o first second found
event_found o first second op found named none place told = (
  (λ run is same. told ∙ event_told o first second op run (sym none) (sym place) (facts o first second run named is same)),
  subst (λ r. IfSome r (IsRun o)) (sym told) (event_is o op (bytes_eq first (codes "begin")) (bytes_eq first (codes "end")) (first_of o second op (sym place)).0),
)

no_event : (o : ObjectForm) (first second : List ℕ) (run : PastRun) → count_in second ≡ None → operation_in o second ≡ None → RunFacts o first second run → ⊥
no_event o first second run none isnt (calls_facts op' count' p q) = differ (count_in second) count' q none
no_event o first second run none isnt (begins_facts op' other p q) = differ (operation_in o second) op' p isnt
no_event o first second run none isnt (ends_facts op' other p q) = differ (operation_in o second) op' p isnt

pub event_none : (o : ObjectForm) (first second : List ℕ) → HasNames o → None ≡ count_in second → None ≡ operation_in o second → FindsRun o first second None
event_none o first second named none isnt = ((λ run is same. absurd (no_event o first second run (sym none) (sym isnt) (facts o first second run named is same))), tt)

facts_same : (o : ObjectForm) (first second : List ℕ) (x y : PastRun) → RunFacts o first second x → RunFacts o first second y → ◌≡◌ {A = Option PastRun} (Some x) (Some y)
facts_same o first second x y (calls_facts op count p q) fy = calls_told o first second op count y q p fy
facts_same o first second x y (begins_facts op none p q) fy = sym (event_told o first second op (Begins op) none p (begins_facts op none p q)) ∙ event_told o first second op y none p fy
facts_same o first second x y (ends_facts op none p q) fy = sym (event_told o first second op (Ends op) none p (ends_facts op none p q)) ∙ event_told o first second op y none p fy

two_told : (o : ObjectForm) (run : PastRun) → (a b : List ℕ) × (two_in (row_words (codes "past") (run_words o) run) ≡ Some (a, b)) × (◌≡◌ {A = List Word} (bare a ∷ bare b ∷ []) (run_words o run))
two_told o (Calls op count) = (operation_name o op, decimal count, refl, refl)
two_told o (Begins op) = (codes "begin", operation_name o op, refl, refl)
two_told o (Ends op) = (codes "end", operation_name o op, refl, refl)

pub run_same : (o : ObjectForm) (x y : PastRun) → HasNames o → IsRun o x → IsRun o y → run_words o x ≡ run_words o y → x ≡ y
run_same o x y named p q same =
    let two = two_told o x in some_same (facts_same o two.0 two.1 x y (facts o two.0 two.1 x named p two.3) (facts o two.0 two.1 y named q (two.3 ∙ same)))

pub run_found : (o : ObjectForm) (ws : List Word) (first second : List ℕ) (found : Option PastRun) → Found first second (two_in ws) → FindsRun o first second found → Finds (IsRun o) (row_words (codes "past") (run_words o)) (λ run. run) ws found
run_found o ws first second found said finds = (
  (λ x is same.
      let two = two_told o x in
      let e : ◌≡◌ {A = List ℕ × List ℕ} (first, second) (two.0, two.1) = some_same (said ∙ ap two_in same ∙ two.2) in
      ap (option_map (λ run. run)) (finds.0 x is (ap (λ (p : List ℕ × List ℕ). bare p.0 ∷ bare p.1 ∷ []) e ∙ two.3))),
  finds.1,
)

pub no_run : (o : ObjectForm) (ws : List Word) → ◌≡◌ {A = Option (List ℕ × List ℕ)} None (two_in ws) → Finds {X = PastRun} (IsRun o) (row_words (codes "past") (run_words o)) (λ run. run) ws None
no_run o ws none = ((λ x is same. let two = two_told o x in absurd (not_some {X = List ℕ × List ℕ} (two.0, two.1) (none ∙ ap two_in same ∙ two.2))), tt)

-- remembered calls
pub kept_by_found : (o : ObjectForm) (ws : List Word) (row : KeptRow) → Finds (IsAsked o) (asked_words o) asked_of ws (Some (row.operation, row.arguments)) → KeptBy o row.head (answer_of_end row.ended) ws (Some row)
kept_by_found o ws row finds =
    (finds.1, refl, refl, λ op arguments is same. let e = some_same (finds.0 (op, arguments) is same) in (ap (λ (p : ℕ × List Datum). p.0) e, ap (λ (p : ℕ × List Datum). p.1) e))

pub kept_by_none : (o : ObjectForm) (ws : List Word) (head : KeptHead) (answer : Answer) → Finds (IsAsked o) (asked_words o) asked_of ws None → KeptBy o head answer ws None
kept_by_none o ws head answer finds op arguments is same = not_some (op, arguments) (finds.0 (op, arguments) is same)

kept_same : (o : ObjectForm) (ws rest : List Word) (head : KeptHead) (x : KeptCall) → Found head rest (kept_head ws) → IsKept o x → ws ≡ row_words (codes "kept") (kept_words o) x
    → ◌≡◌ {A = KeptHead × List Word} (head, rest) (record { session = x.session; key = x.key; told = x.told }, answer_words x.answer ++ call_words o x.operation x.arguments)
kept_same o ws rest head x first is same = some_same (first ∙ ap kept_head same ∙ kept_told o x is)

pub call_no_datum : (o : ObjectForm) (op : ℕ) (arguments : List Datum) → HasNames o → IsCall o op arguments → tells_datum (call_words o op arguments) ≡ false
call_no_datum o op arguments named is = ap (λ r. is_some (option_map Integer r)) (operation_no_integer o op named is.operation)

-- the words behind the head of a remembered call
behind_same : (o : ObjectForm) (ws rest : List Word) (head : KeptHead) (found : Option (RememberedEnd × ℕ)) (x : KeptCall) → HasNames o → Found head rest (kept_head ws) → FindsAnswer rest found → IsKept o x
    → ws ≡ row_words (codes "kept") (kept_words o) x → (head ≡ record { session = x.session; key = x.key; told = x.told }) × (option_map (answered rest) found ≡ Some (x.answer, call_words o x.operation x.arguments))
behind_same o ws rest head found x named first finds is same =
    let e = kept_same o ws rest head x first is same in
    (ap (λ (p : KeptHead × List Word). p.0) e, finds.0 x.answer (call_words o x.operation x.arguments) is.answer (call_no_datum o x.operation x.arguments named is.call) (ap (λ (p : KeptHead × List Word). p.1) e))

pub kept_found : (o : ObjectForm) (ws rest : List Word) (head : KeptHead) (ended : RememberedEnd) (count : ℕ) (found : Option KeptRow) → HasNames o → Found head rest (kept_head ws) → FindsAnswer rest (Some (ended, count))
    → KeptBy o head (answer_of_end ended) (drop count rest) found → Finds (IsKept o) (row_words (codes "kept") (kept_words o)) kept_row ws found
kept_found o ws rest head ended count None named first finds by = (
  (λ x is same.
      let e = behind_same o ws rest head (Some (ended, count)) x named first finds is same in
      let f : ◌≡◌ {A = Answer × List Word} (answer_of_end ended, drop count rest) (x.answer, call_words o x.operation x.arguments) = some_same e.1 in
      absurd (by x.operation x.arguments is.call (ap (λ (p : Answer × List Word). p.1) f))),
  tt,
)
kept_found o ws rest head ended count (Some row) named first finds by = (
  (λ x is same.
      let e = behind_same o ws rest head (Some (ended, count)) x named first finds is same in
      let f : ◌≡◌ {A = Answer × List Word} (answer_of_end ended, drop count rest) (x.answer, call_words o x.operation x.arguments) = some_same e.1 in
      let call = by.3 x.operation x.arguments is.call (ap (λ (p : Answer × List Word). p.1) f) in
      let h : row.head ≡ record { session = x.session; key = x.key; told = x.told } = by.1 ∙ e.0 in
      let a : answer_of_end row.ended ≡ x.answer = by.2 ∙ ap (λ (p : Answer × List Word). p.0) f in
      λ i. Some (record { session = (h i).session; key = (h i).key; told = (h i).told; answer = a i; operation = call.0 i; arguments = call.1 i })),
  let told = kept_is ws (head, rest) (sym first) in
      let heads = by.1 in
      record {
        session = subst (λ (h : KeptHead). (1 ≤ h.session) × (h.session ≤ 65535)) (sym heads) told.session;
        key = subst (λ (h : KeptHead). (1 ≤ h.key) × (h.key < 18446744073709551616)) (sym heads) told.key;
        told = subst (λ (h : KeptHead). h.told < 18446744073709551616) (sym heads) told.told;
        answer = subst IsAnswer (sym by.2) finds.1;
        call = by.0;
      },
)

pub no_answer : (o : ObjectForm) (ws rest : List Word) (head : KeptHead) → HasNames o → Found head rest (kept_head ws) → FindsAnswer rest None → Finds (IsKept o) (row_words (codes "kept") (kept_words o)) kept_row ws None
no_answer o ws rest head named first finds =
    ((λ x is same. let e = behind_same o ws rest head None x named first finds is same in absurd (not_some {X = Answer × List Word} (x.answer, call_words o x.operation x.arguments) e.1)), tt)

pub no_kept_head : (o : ObjectForm) (ws : List Word) → ◌≡◌ {A = Option (KeptHead × List Word)} None (kept_head ws) → Finds (IsKept o) (row_words (codes "kept") (kept_words o)) kept_row ws None
no_kept_head o ws none =
    ((λ x is same. absurd (not_some {X = KeptHead × List Word} (record { session = x.session; key = x.key; told = x.told }, answer_words x.answer ++ call_words o x.operation x.arguments) (none ∙ ap kept_head same ∙ kept_told o x is))), tt)

-- the client of a name that was read
pub named_takes : (client : NamedClient) (name text : List ℕ) (old : List NamedClient) (found : Option (Bor (List ℕ))) (new : List NamedClient) → IsName name → (IsName client.name → name ≡ client.name) → TakesThis (row_words (codes "client") client_words) (named_row client name) text old found new
    → TakesNamed client text old found new
named_takes client name text old None new is same takes = λ rest named stands. takes rest (stands ∙ ap (λ n. line_of (row_words (codes "client") client_words (named_row client n)) ++ rest) (sym (same named)))
named_takes client name text old (Some rest) new is same takes = (name, is, takes.0, takes.1)

pub name_same : (bytes name : List ℕ) → name ≡ str_to_ascii_lowercase bytes → IsName bytes → name ≡ bytes
name_same bytes name read is = read ∙ name_lower bytes is.1

pub kept_ok : {E : Type 0} (o : ObjectForm) (ws rest behind : List Word) (head : KeptHead) (ended : RememberedEnd) (count : ℕ) (found : Result (Option KeptRow) E) → HasNames o → Found head rest (kept_head ws) → FindsAnswer rest (Some (ended, count)) → behind ≡ drop count rest
    → IfOk found (KeptBy o head (answer_of_end ended) behind) → IfOk found (Finds (IsKept o) (row_words (codes "kept") (kept_words o)) kept_row ws)
kept_ok o ws rest behind head ended count (Ok found) named first finds are by = kept_found o ws rest head ended count found named first finds (subst (λ b. KeptBy o head (answer_of_end ended) b found) are by)
kept_ok o ws rest behind head ended count (Err e) named first finds are by = tt
