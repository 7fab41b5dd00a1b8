-- What the words of a row tell.
use Rattle.std.proofs.Common.{◌≡◌, ℕ, ◌≤◌, ◌==◌, true, false, Bool, cond, List, [], ◌∷◌, ◌++◌, refl, sym, ap, ◌∙◌, subst, arith}
use Rattle.std.specs.Prelude.{Option, Some, None, option_map, decimal, nat_lt, codes}
use Rattle.std.proofs.lemmas.Bool.Decides.{nat_tests}
use Rattle.decl_core.specs.ObjectForm.{ObjectForm}
use Rattle.word_core.specs.Words.{Word, bare}
use Rattle.word_core.specs.Data.{◌>>=◌, bare_of, integer_of, long_of, session_of, session_word}
use Rattle.word_core.proofs.Written.{written_integer, written_session}
use Rattle.live_core.specs.declared.front.CarriedCall.{CarriedCall}
use Rattle.live_core.specs.declared.front.NamedClient.{NamedClient}
use Rattle.live_core.specs.declared.front.KeptCall.{KeptCall}
use Rattle.live_core.specs.Front.{IsSession, IsLong, IsCount, IsKey, IsCarried, IsClient, IsKept}
use Rattle.live_core.specs.Text.{object_words, base_words, carried_words, client_words, kept_words, call_words, answer_words}
use Rattle.front_read.specs.declared.carried.CarriedHead.{CarriedHead}
use Rattle.front_read.specs.declared.kept.KeptHead.{KeptHead}
use Rattle.front_read.specs.Words.{behind_verb, long_first, key_first, count_first, session_first, carried_head, kept_head, epoch_of, base_of}
use Rattle.front_read.specs.Rows.{Finds, row_words}
use Rattle.front_read.specs.Row.{client_of}
use Rattle.front_read.proofs.Calling.{some_same}
use Rattle.word_core.proofs.Longs.{long_of-decimal, long_fits, integer_fits, unless}

pub bind_some : {A B : Type 0} (o : Option A) (f : A → Option B) (y : B) → (o >>= f) ≡ Some y → (x : A) × (o ≡ Some x) × (f x ≡ Some y)
bind_some None f y is = absurd cc
bind_some (Some x) f y is = (x, refl, is)

-- what a function of words tells is found
pub by_function : {A X : Type 0} (Is : A → Type 0) (w : A → List Word) (view : X → A) (f : List Word → Option A) (ws : List Word) (found : Option X) → ((x : A) → Is x → f (w x) ≡ Some x) → ((x : A) → f ws ≡ Some x → Is x)
    → option_map view found ≡ f ws → Finds Is w view ws found
by_function Is w view f ws None told is found = ((λ x its same. found ∙ ap f same ∙ told x its), tt)
by_function Is w view f ws (Some y) told is found = ((λ x its same. found ∙ ap f same ∙ told x its), is (view y) (sym found))

-- numbers are read from their words
long_told : (n : ℕ) (more : List Word) → IsLong n → long_first (bare (decimal n) ∷ more) ≡ Some (n, more)
long_told n more is = ap (λ o. o >>= λ number. Some (number, more)) (long_of-decimal n is)

pub not_zero : (n : ℕ) → 1 ≤ n → (n == 0) ≡ false
not_zero n some = grind (arith, nat_tests)

key_told : (n : ℕ) (more : List Word) → IsKey n → key_first (bare (decimal n) ∷ more) ≡ Some (n, more)
key_told n more is =
    ap (λ o. o >>= λ (found : ℕ × List Word). cond (found.0 == 0) None (Some found)) (long_told n more is.1)
    ∙ ap (λ b. cond b None (Some (n, more))) (not_zero n is.0)

count_told : (n : ℕ) (more : List Word) → IsCount n → count_first (bare (decimal n) ∷ more) ≡ Some (n, more)
count_told n more is =
    ap (λ o. o >>= λ number. cond (number == 0) None (Some (number, more))) (written_integer n is.1).1
    ∙ ap (λ b. cond b None (Some (n, more))) (not_zero n is.0)

not_many : (n : ℕ) → n ≤ 65535 → nat_lt 65535 n ≡ false
not_many n few = grind (arith, nat_tests)

session_told : (n : ℕ) (more : List Word) → IsSession n → session_first (session_word n ∷ more) ≡ Some (n, more)
session_told n more is =
    ap (λ o. o >>= λ session. cond (session == 0) None (cond (nat_lt 65535 session) None (Some (session, more)))) (written_session n (omega (arith, is.1))).1
    ∙ ap (λ b. cond b None (cond (nat_lt 65535 n) None (Some (n, more)))) (not_zero n is.0)
    ∙ ap (λ b. cond b None (Some (n, more))) (not_many n is.1)

-- the heads of rows
pub carried_told : (o : ObjectForm) (c : CarriedCall) → IsCarried o c → carried_head (row_words (codes "carried") (carried_words o) c) ≡ Some (record { number = c.number; told = c.told; session = c.session }, call_words o c.operation c.arguments)
carried_told o c is =
    let call = call_words o c.operation c.arguments in
    let head : ℕ → ℕ → ℕ × List Word → Option (CarriedHead × List Word) = λ n t s. Some (record { number = n; told = t; session = s.0 }, s.1) in
    ap (λ r. r >>= λ (b : ℕ × List Word). long_first b.1 >>= λ t. session_first t.1 >>= head b.0 t.0) (count_told c.number (bare (decimal c.told) ∷ session_word c.session ∷ call) is.number)
    ∙ ap (λ r. r >>= λ (t : ℕ × List Word). session_first t.1 >>= head c.number t.0) (long_told c.told (session_word c.session ∷ call) is.told)
    ∙ ap (λ r. r >>= head c.number c.told) (session_told c.session call is.session)

pub kept_told : (o : ObjectForm) (k : KeptCall) → IsKept o k → kept_head (row_words (codes "kept") (kept_words o) k)
    ≡ Some (record { session = k.session; key = k.key; told = k.told }, answer_words k.answer ++ call_words o k.operation k.arguments)
kept_told o k is =
    let rest = answer_words k.answer ++ call_words o k.operation k.arguments in
    let head : ℕ → ℕ → ℕ × List Word → Option (KeptHead × List Word) = λ s j t. Some (record { session = s; key = j; told = t.0 }, t.1) in
    ap (λ r. r >>= λ (b : ℕ × List Word). key_first b.1 >>= λ j. long_first j.1 >>= head b.0 j.0) (session_told k.session (bare (decimal k.key) ∷ bare (decimal k.told) ∷ rest) is.session)
    ∙ ap (λ r. r >>= λ (j : ℕ × List Word). long_first j.1 >>= head k.session j.0) (key_told k.key (bare (decimal k.told) ∷ rest) is.key)
    ∙ ap (λ r. r >>= head k.session k.key) (long_told k.told rest is.told)

pub client_told : (c : NamedClient) → IsClient c → client_of (row_words (codes "client") client_words c) ≡ Some c
client_told c is =
    let make : ℕ → List ℕ → ℕ × List Word → Option NamedClient = λ s n k. Some (record { session = s; name = n; keys = k.0 }) in
    ap (λ r. r >>= λ (b : ℕ × List Word). bare_of b.1 >>= λ n. long_first n.1 >>= make b.0 n.0) (session_told c.session (bare c.name ∷ bare (decimal c.keys) ∷ []) is.session)
    ∙ ap (λ r. r >>= make c.session c.name) (long_told c.keys [] is.keys)

pub epoch_told : (name : List ℕ) (epoch : ℕ) → IsKey epoch → epoch_of (object_words name epoch) ≡ Some epoch
epoch_told name epoch is = ap (λ r. r >>= λ (d : ℕ × List Word). Some d.0) (key_told epoch [] is)

pub base_told : (base : ℕ) → IsLong base → base_of (base_words base) ≡ Some base
base_told base is = ap (λ r. r >>= λ (b : ℕ × List Word). Some b.0) (long_told base [] is)

-- what is read of them is in its range
long_is : (ws : List Word) (r : ℕ × List Word) → long_first ws ≡ Some r → IsLong r.0
long_is ws r is =
    let a = bind_some (bare_of ws) _ r is in
    let b = bind_some (long_of a.0.0) _ r a.2 in
    let same : b.0 ≡ r.0 = ap (λ (x : ℕ × List Word). x.0) (some_same b.2) in
    subst IsLong same (long_fits a.0.0 b.0 b.1)

pub zero_not : (n : ℕ) → (n == 0) ≡ false → 1 ≤ n
zero_not n isnt = grind (arith, nat_tests)

key_is : (ws : List Word) (r : ℕ × List Word) → key_first ws ≡ Some r → IsKey r.0
key_is ws r is =
    let a = bind_some (long_first ws) _ r is in
    let b = unless (a.0.0 == 0) a.0 r a.2 in
    subst (λ (x : ℕ × List Word). IsKey x.0) b.1 (zero_not a.0.0 b.0, long_is ws a.0 a.1)

count_is : (ws : List Word) (r : ℕ × List Word) → count_first ws ≡ Some r → IsCount r.0
count_is ws r is =
    let a = bind_some (bare_of ws) _ r is in
    let b = bind_some (integer_of a.0.0) _ r a.2 in
    let d = unless (b.0 == 0) (b.0, a.0.1) r b.2 in
    subst (λ (x : ℕ × List Word). IsCount x.0) d.1 (zero_not b.0 d.0, integer_fits a.0.0 b.0 b.1)

few_not : (n : ℕ) → nat_lt 65535 n ≡ false → n ≤ 65535
few_not n isnt = grind (arith, nat_tests)

pub two_tests : {X : Type 0} (a b : Bool) (v n : X) → cond a None (cond b None (Some v)) ≡ Some n → (a ≡ false) × (b ≡ false) × (v ≡ n)
two_tests true b v n is = absurd cc
two_tests false true v n is = absurd cc
two_tests false false v n is = (refl, refl, cc)

session_is : (ws : List Word) (r : ℕ × List Word) → session_first ws ≡ Some r → IsSession r.0
session_is ws r is =
    let a = bind_some (bare_of ws) _ r is in
    let b = bind_some (session_of a.0.0) _ r a.2 in
    let d = two_tests (b.0 == 0) (nat_lt 65535 b.0) (b.0, a.0.1) r b.2 in
    subst (λ (x : ℕ × List Word). IsSession x.0) d.2 (zero_not b.0 d.0, few_not b.0 d.1)

pub base_is : (ws : List Word) (base : ℕ) → base_of ws ≡ Some base → IsLong base
base_is ws base is =
    let a = bind_some (behind_verb (codes "base") ws) _ base is in
    let b = bind_some (long_first a.0) _ base a.2 in
    subst IsLong (some_same b.2) (long_is a.0 b.0 b.1)

pub epoch_is : (ws : List Word) (epoch : ℕ) → epoch_of ws ≡ Some epoch → IsKey epoch
epoch_is ws epoch is =
    let a = bind_some (behind_verb (codes "object") ws) _ epoch is in
    let b = bind_some (bare_of a.0) _ epoch a.2 in
    let d = bind_some (behind_verb (codes "epoch") b.0.1) _ epoch b.2 in
    let e = bind_some (key_first d.0) _ epoch d.2 in
    subst IsKey (some_same e.2) (key_is d.0 e.0 e.1)

pub client_is : (ws : List Word) (c : NamedClient) → client_of ws ≡ Some c → IsSession c.session × IsLong c.keys
client_is ws c is =
    let a = bind_some (behind_verb (codes "client") ws) _ c is in
    let b = bind_some (session_first a.0) _ c a.2 in
    let n = bind_some (bare_of b.0.1) _ c b.2 in
    let k = bind_some (long_first n.0.1) _ c n.2 in
    let same = some_same k.2 in
    (subst IsSession (ap (λ (x : NamedClient). x.session) same) (session_is a.0 b.0 b.1), subst IsLong (ap (λ (x : NamedClient). x.keys) same) (long_is n.0.1 k.0 k.1))

pub record IsCarriedHead (h : CarriedHead) : Type 0 where
  pub number : IsCount h.number
  pub told : IsLong h.told
  pub session : IsSession h.session

pub carried_is : (ws : List Word) (r : CarriedHead × List Word) → carried_head ws ≡ Some r → IsCarriedHead r.0
carried_is ws r is =
    let a = bind_some (behind_verb (codes "carried") ws) _ r is in
    let b = bind_some (count_first a.0) _ r a.2 in
    let t = bind_some (long_first b.0.1) _ r b.2 in
    let s = bind_some (session_first t.0.1) _ r t.2 in
    subst (λ (x : CarriedHead × List Word). IsCarriedHead x.0) (some_same s.2) (record { number = count_is a.0 b.0 b.1; told = long_is b.0.1 t.0 t.1; session = session_is t.0.1 s.0 s.1 })

pub record IsKeptHead (h : KeptHead) : Type 0 where
  pub session : IsSession h.session
  pub key : IsKey h.key
  pub told : IsLong h.told

pub kept_is : (ws : List Word) (r : KeptHead × List Word) → kept_head ws ≡ Some r → IsKeptHead r.0
kept_is ws r is =
    let a = bind_some (behind_verb (codes "kept") ws) _ r is in
    let b = bind_some (session_first a.0) _ r a.2 in
    let j = bind_some (key_first b.0.1) _ r b.2 in
    let t = bind_some (long_first j.0.1) _ r j.2 in
    subst (λ (x : KeptHead × List Word). IsKeptHead x.0) (some_same t.2) (record { session = session_is a.0 b.0 b.1; key = key_is b.0.1 j.0 j.1; told = long_is j.0.1 t.0 t.1 })
