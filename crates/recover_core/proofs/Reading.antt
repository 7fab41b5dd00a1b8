-- Held calls are read from the words of their lines.
use Rattle.std.proofs.Common.{◌≡◌, ℕ, ◌≤◌, ◌==◌, true, false, Bool, cond, List, [], ◌∷◌, ◌++◌, refl, sym, ap, ◌∙◌, subst, arith, map}
use Rattle.std.specs.Prelude.{Option, Some, None, decimal, nat_lt, codes}
use Rattle.std.proofs.lemmas.Bool.Decides.{nat_tests}
use Rattle.std.proofs.lemmas.List.{same_from_push}
use Rattle.value_core.specs.declared.datum.Datum.{Datum}
use Rattle.value_core.specs.Datum.{IsDatum}
use Rattle.decl_core.specs.ObjectForm.{ObjectForm}
use Rattle.std.specs.Global.{Vec}
use Rattle.word_core.specs.declared.word.Word as declared
use Rattle.word_core.specs.View.{AreWordsOf, words_of}
use Rattle.word_core.specs.Words.{Word, bare, AreWords, words_text, line_of}
use Rattle.word_core.specs.Data.{◌>>=◌, bare_of, long_of, session_of, session_word, datum_word, data_of}
use Rattle.word_core.proofs.Clear.{written_data}
use Rattle.word_core.proofs.Cutting.{words_unique}
use Rattle.word_core.proofs.Written.{written_session, written_words}
use Rattle.word_core.specs.TraceLaws.{HasNames}
use Rattle.word_core.specs.Text.{operation_name}
use Rattle.word_core.proofs.Plain.{EachSafe, each_word}
use Rattle.live_core.specs.Front.{Every, IsLong, IsSession, IsOperation}
use Rattle.live_core.specs.Text.{call_words}
use Rattle.front_read.specs.Calls.{operation_in}
use Rattle.front_read.specs.Rows.{row_words}
use Rattle.front_read.specs.Words.{behind_verb, long_first, session_first}
use Rattle.decl_core.specs.HoldForm.{HoldForm}
use Rattle.guest_core.specs.Held.{HeldCall, hold_of_op}
use Rattle.front_read.specs.HeldLines.{held_op, held_words, op_by, IsHeldLine}
use Rattle.recover_core.specs.HeldSo.{held_head, held_so, IsHeldBy, TakesBy, TakesHeld, Tells}
use Rattle.recover_core.proofs.Named.{first_of, rule_at}
use Rattle.word_core.proofs.Longs.{long_fits, long_of-decimal}
use Rattle.recover_core.proofs.Safe.{all_of, decimal_safe, known, named_safe, session_safe}

pub some_same : {X : Type 0} {x y : X} → ◌≡◌ {A = Option X} (Some x) (Some y) → x ≡ y
some_same is = cc

pub not_some : {X : Type 0} (x : X) → ◌≡◌ {A = Option X} None (Some x) → ⊥
not_some x is = absurd cc

pub bind_some : {A B : Type 0} (o : Option A) (f : A → Option B) (y : B) → (o >>= f) ≡ Some y → (x : A) × (o ≡ Some x) × (f x ≡ Some y)
bind_some None f y is = absurd cc
bind_some (Some x) f y is = (x, refl, is)

long_told : (n : ℕ) (more : List Word) → IsLong n → long_first (bare (decimal n) ∷ more) ≡ Some (n, more)
long_told n more is = ap (λ o. o >>= λ number. Some (number, more)) (long_of-decimal n is)

pub not_zero : (n : ℕ) → 1 ≤ n → (n == 0) ≡ false
not_zero n some = grind (arith, nat_tests)

not_many : (n : ℕ) → n ≤ 65535 → nat_lt 65535 n ≡ false
not_many n few = grind (arith, nat_tests)

session_told : (n : ℕ) (more : List Word) → IsSession n → session_first (session_word n ∷ more) ≡ Some (n, more)
session_told n more is =
    ap (λ o. o >>= λ session. cond (session == 0) None (cond (nat_lt 65535 session) None (Some (session, more)))) (written_session n (omega (arith, is.1))).1
    ∙ ap (λ b. cond b None (cond (nat_lt 65535 n) None (Some (n, more)))) (not_zero n is.0)
    ∙ ap (λ b. cond b None (Some (n, more))) (not_many n is.1)

pub zero_not : (n : ℕ) → (n == 0) ≡ false → 1 ≤ n
zero_not n isnt = grind (arith, nat_tests)

few_not : (n : ℕ) → nat_lt 65535 n ≡ false → n ≤ 65535
few_not n isnt = grind (arith, nat_tests)

pub two_tests : {X : Type 0} (a b : Bool) (v n : X) → cond a None (cond b None (Some v)) ≡ Some n → (a ≡ false) × (b ≡ false) × (v ≡ n)
two_tests true b v n is = absurd cc
two_tests false true v n is = absurd cc
two_tests false false v n is = (refl, refl, cc)

session_is : (ws : List Word) (r : ℕ × List Word) → session_first ws ≡ Some r → IsSession r.0
session_is ws r is =
    let a = bind_some (bare_of ws) _ r is in
    let b = bind_some (session_of a.0.0) _ r a.2 in
    let d = two_tests (b.0 == 0) (nat_lt 65535 b.0) (b.0, a.0.1) r b.2 in
    subst (λ (x : ℕ × List Word). IsSession x.0) d.2 (zero_not b.0 d.0, few_not b.0 d.1)

long_is : (ws : List Word) (r : ℕ × List Word) → long_first ws ≡ Some r → IsLong r.0
long_is ws r is =
    let a = bind_some (bare_of ws) _ r is in
    let b = bind_some (long_of a.0.0) _ r a.2 in
    let same : b.0 ≡ r.0 = ap (λ (x : ℕ × List Word). x.0) (some_same b.2) in
    subst IsLong same (long_fits a.0.0 b.0 b.1)

-- the words of a held line, and that they stand on one line
abbrev pub words_in : ObjectForm → List HoldForm → HeldCall → List Word
words_in o holds h = row_words (codes "held") (held_words o holds) h

pub op_is : (o : ObjectForm) (holds : List HoldForm) (h : HeldCall) (is : IsHeldLine o holds h) → held_op holds h ≡ is.rule.op
op_is o holds h is = ap op_by is.there

pub held_clear : (o : ObjectForm) (holds : List HoldForm) (h : HeldCall) → HasNames o → IsHeldLine o holds h → EachSafe (words_in o holds h)
held_clear o holds h named is =
    let call : EachSafe (call_words o (held_op holds h) h.values) = subst (λ n. EachSafe (call_words o n h.values)) (sym (op_is o holds h is)) (named_safe o is.rule.op h.values named is.operation is.each) in
    (known (codes "held") refl refl, (session_safe h.session (omega (arith, is.session.1)), (decimal_safe h.number is.number, call)))

-- what is read of them
held_told : (o : ObjectForm) (holds : List HoldForm) (h : HeldCall) → IsHeldLine o holds h → held_head (words_in o holds h) ≡ Some (h.session, h.number, operation_name o (held_op holds h), map datum_word h.values)
held_told o holds h is =
    let call = call_words o (held_op holds h) h.values in
    let name : ℕ → ℕ × List Word → Option (ℕ × ℕ × List ℕ × List Word) = λ s n. bare_of n.1 >>= λ d. Some (s, n.0, d.0, d.1) in
    ap (λ r. r >>= λ (b : ℕ × List Word). long_first b.1 >>= λ n. name b.0 n) (session_told h.session (bare (decimal h.number) ∷ call) is.session)
    ∙ ap (λ r. r >>= λ (n : ℕ × List Word). name h.session n) (long_told h.number call is.number)

-- the words of a line, as they were read
pub have_words : (first : List ℕ) (found : Option (Vec declared.Word)) (v : Vec declared.Word) (slice : List declared.Word) → AreWordsOf first found → found ≡ Some v → slice ≡ v.items → AreWords first (words_of slice)
have_words first None v slice are is same = absurd (not_some v is)
have_words first (Some u) v slice are is same = subst (λ ws. AreWords first (words_of ws)) (ap (λ (x : Vec declared.Word). x.items) (some_same is) ∙ sym same) are

pub have_none : (first : List ℕ) (found : Option (Vec declared.Word)) → AreWordsOf first found → found ≡ None → (all : List Word) → AreWords first all → ⊥
have_none first None none is all are = none all are
have_none first (Some u) has is all are = absurd (not_some u (sym is))

-- a line that tells a held call has its words
line_words : (o : ObjectForm) (holds : List HoldForm) (line : List ℕ) (ws : List Word) (h : HeldCall) → HasNames o → AreWords line ws → Tells o holds line h → ws ≡ words_in o holds h
line_words o holds line ws h named are tells =
    words_unique line ws (words_in o holds h) are (subst (λ l. AreWords l (words_in o holds h)) (sym tells.told) (written_words (words_in o holds h) (each_word (words_in o holds h) (held_clear o holds h named tells.is))))

pub no_words : (o : ObjectForm) (holds : List HoldForm) (line : List ℕ) → HasNames o → ((all : List Word) → AreWords line all → ⊥) → (h : HeldCall) → Tells o holds line h → ⊥
no_words o holds line named none h tells =
    none (words_in o holds h) (subst (λ l. AreWords l (words_in o holds h)) (sym tells.told) (written_words (words_in o holds h) (each_word (words_in o holds h) (held_clear o holds h named tells.is))))

abbrev pub Head : Type 0
Head = ℕ × ℕ × List ℕ × List Word

head_same : (o : ObjectForm) (holds : List HoldForm) (line : List ℕ) (ws : List Word) (h : HeldCall) (found : Option Head) → HasNames o → AreWords line ws → Tells o holds line h → found ≡ held_head ws
    → found ≡ Some (h.session, h.number, operation_name o (held_op holds h), map datum_word h.values)
head_same o holds line ws h found named are tells is = is ∙ ap held_head (line_words o holds line ws h named are tells) ∙ held_told o holds h tells.is

-- without a head there is none
pub no_head : (o : ObjectForm) (holds : List HoldForm) (line : List ℕ) (ws : List Word) → HasNames o → AreWords line ws → ◌≡◌ {A = Option Head} None (held_head ws) → (h : HeldCall) → Tells o holds line h → ⊥
no_head o holds line ws named are none h tells = not_some {X = Head} (h.session, h.number, operation_name o (held_op holds h), map datum_word h.values) (head_same o holds line ws h None named are tells none)

-- the head is that of the call
same_head : (o : ObjectForm) (holds : List HoldForm) (line : List ℕ) (ws rest : List Word) (s n : ℕ) (name : List ℕ) → HasNames o → AreWords line ws → ◌≡◌ {A = Option Head} (Some (s, n, name, rest)) (held_head ws) → (h : HeldCall) → Tells o holds line h
    → ◌≡◌ {A = Head} (s, n, name, rest) (h.session, h.number, operation_name o (held_op holds h), map datum_word h.values)
same_head o holds line ws rest s n name named are head h tells = some_same {X = Head} (head_same o holds line ws h (Some (s, n, name, rest)) named are tells head)

values_read : (o : ObjectForm) (holds : List HoldForm) (h : HeldCall) (rest : List Word) → IsHeldLine o holds h → rest ≡ map datum_word h.values → data_of rest ≡ Some h.values
values_read o holds h rest is same = ap data_of same ∙ (written_data h.values (all_of IsDatum h.values is.each)).2

-- without data there is none
pub no_data : (o : ObjectForm) (holds : List HoldForm) (line : List ℕ) (ws rest : List Word) (s n : ℕ) (name : List ℕ) → HasNames o → AreWords line ws → ◌≡◌ {A = Option Head} (Some (s, n, name, rest)) (held_head ws) → ◌≡◌ {A = Option (List Datum)} None (data_of rest)
    → (h : HeldCall) → Tells o holds line h → ⊥
no_data o holds line ws rest s n name named are head none h tells =
    let e = same_head o holds line ws rest s n name named are head h tells in
    not_some h.values (none ∙ values_read o holds h rest tells.is (ap (λ (p : Head). p.3) e))

-- what was found of a head is a held line
head_session : (ws rest : List Word) (s n : ℕ) (name : List ℕ) → held_head ws ≡ Some (s, n, name, rest) → IsSession s
head_session ws rest s n name is =
    let a = bind_some (behind_verb (codes "held") ws) _ (s, n, name, rest) is in
    let b = bind_some (session_first a.0) _ (s, n, name, rest) a.2 in
    let t = bind_some (long_first b.0.1) _ (s, n, name, rest) b.2 in
    let d = bind_some (bare_of t.0.1) _ (s, n, name, rest) t.2 in
    subst IsSession (ap (λ (p : Head). p.0) (some_same {X = Head} d.2)) (session_is a.0 b.0 b.1)

head_long : (ws rest : List Word) (s n : ℕ) (name : List ℕ) → held_head ws ≡ Some (s, n, name, rest) → IsLong n
head_long ws rest s n name is =
    let a = bind_some (behind_verb (codes "held") ws) _ (s, n, name, rest) is in
    let b = bind_some (session_first a.0) _ (s, n, name, rest) a.2 in
    let t = bind_some (long_first b.0.1) _ (s, n, name, rest) b.2 in
    let d = bind_some (bare_of t.0.1) _ (s, n, name, rest) t.2 in
    subst IsLong (ap (λ (p : Head). p.1) (some_same {X = Head} d.2)) (long_is b.0.1 t.0 t.1)

is_line : (o : ObjectForm) (holds : List HoldForm) (s n r op : ℕ) (name : List ℕ) (values : List Datum) → IsSession s → IsLong n → operation_in o name ≡ Some op → hold_of_op holds op ≡ Some r → IsHeldBy o op values → Every IsDatum values → IsHeldLine o holds (held_so s n r values)
is_line o holds s n r op name values session long place rule by each =
    let at = rule_at holds op r rule in
    let e : op ≡ at.0.op = sym at.2 in
    record {
      rule = at.0;
      there = at.1;
      first = subst (λ k. hold_of_op holds k ≡ Some r) e rule;
      number = long;
      session = session;
      operation = subst (IsOperation o) e (first_of o name op place).0;
      fit = subst (λ k. IsHeldBy o k values) e by;
      each = each;
    }

-- what was taken by its words
pub takes_told : (o : ObjectForm) (holds : List HoldForm) (line : List ℕ) (ws rest : List Word) (s n : ℕ) (name : List ℕ) (values : List Datum) (old new : List HeldCall) (taken : Bool) → HasNames o → AreWords line ws
    → ◌≡◌ {A = Option Head} (Some (s, n, name, rest)) (held_head ws) → ◌≡◌ {A = Option (List Datum)} (Some values) (data_of rest)
    → TakesBy o holds line s n name values old taken new → TakesHeld o holds line old taken new
takes_told o holds line ws rest s n name values old new true named are head those takes =
    (held_so s n takes.1 values, record { is = is_line o holds s n takes.1 takes.0 name values (head_session ws rest s n name (sym head)) (head_long ws rest s n name (sym head)) takes.2 takes.3 takes.4 takes.5; told = takes.6 }, takes.7)
takes_told o holds line ws rest s n name values old new false named are head those takes = (
  (λ h tells.
      let is = tells.is in
      let e = same_head o holds line ws rest s n name named are head h tells in
      let same : values ≡ h.values = some_same (those ∙ values_read o holds h rest is (ap (λ (p : Head). p.3) e)) in
      let named_op : name ≡ operation_name o is.rule.op = ap (λ (p : Head). p.2) e ∙ ap (operation_name o) (op_is o holds h is) in
      let call : held_so s n h.rule values ≡ h = λ i. record { number = ap (λ (p : Head). p.1) e i; session = ap (λ (p : Head). p.0) e i; rule = h.rule; values = same i } in
      takes.0 is.rule.op h.rule (ap (operation_in o) named_op ∙ is.operation.first) is.first (subst (IsHeldBy o is.rule.op) (sym same) is.fit) (tells.told ∙ ap (λ (x : HeldCall). words_text (words_in o holds x)) (sym call))),
  takes.1,
)

-- a line as its own
pub same_line : (o : ObjectForm) (holds : List HoldForm) (own line : List ℕ) (h : HeldCall) → own ≡ line_of (words_in o holds h) → own ≡ line ++ 10 ∷ [] → line ≡ words_text (words_in o holds h)
same_line o holds own line h is whole = (same_from_push line (words_text (words_in o holds h)) 10 10 (sym whole ∙ is)).0

-- a line tells one call
pub held_once : (o : ObjectForm) (holds : List HoldForm) (x y : HeldCall) → HasNames o → IsHeldLine o holds x → IsHeldLine o holds y → words_text (words_in o holds x) ≡ words_text (words_in o holds y) → x ≡ y
held_once o holds x y named p q same =
    let words : words_in o holds x ≡ words_in o holds y = line_words o holds (words_text (words_in o holds x)) (words_in o holds x) y named (written_words (words_in o holds x) (each_word (words_in o holds x) (held_clear o holds x named p))) (record { is = q; told = same }) in
    let e = some_same {X = Head} (sym (held_told o holds x p) ∙ ap held_head words ∙ held_told o holds y q) in
    let values : x.values ≡ y.values = some_same (sym (values_read o holds x (map datum_word x.values) p refl) ∙ values_read o holds y (map datum_word x.values) q (ap (λ (h : Head). h.3) e)) in
    let name : operation_name o p.rule.op ≡ operation_name o q.rule.op = ap (operation_name o) (sym (op_is o holds x p)) ∙ ap (λ (h : Head). h.2) e ∙ ap (operation_name o) (op_is o holds y q) in
    let op : p.rule.op ≡ q.rule.op = some_same (sym p.operation.first ∙ ap (operation_in o) name ∙ q.operation.first) in
    let rule : x.rule ≡ y.rule = some_same (sym p.first ∙ ap (hold_of_op holds) op ∙ q.first) in
    λ i. record { number = ap (λ (h : Head). h.1) e i; session = ap (λ (h : Head). h.0) e i; rule = rule i; values = values i }
