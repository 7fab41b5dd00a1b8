-- What rows tell is told in one way.
use Rattle.std.proofs.Common.{◌≡◌, ℕ, true, false, List, [], ◌∷◌, ◌++◌, refl, sym, ap, ◌∙◌, subst, append_assoc, map}
use Rattle.std.specs.Prelude.{Some, None, codes}
use Rattle.std.specs.Str.{bytes_eq}
use Rattle.std.specs.Int.{w64, to_be_bytes, from_be_bytes}
use Rattle.std.proofs.lemmas.Nat.{from_be_bytes-to_be_bytes_8}
use Rattle.hex.specs.Hex.{encode_lower, decode_of}
use Rattle.hex.proofs.HexLemmas.{decode_of-encode_lower}
use Rattle.value_core.specs.declared.datum.Datum.{Datum}
use Rattle.value_core.specs.declared.kind.Kind.{Kind}
use Rattle.value_core.specs.declared.format.Format.TheVariants.{Second}
use Rattle.value_core.specs.Datum.{IsDatum}
use Rattle.value_bytes.specs.Spelling.{spelling}
use Rattle.value_bytes.proofs.Bytes.{spelling_is_bytes}
use Rattle.decl_core.specs.ObjectForm.{ObjectForm}
use Rattle.apply_core.specs.declared.reply.Reply.{Reply}
use Rattle.apply_core.specs.declared.reply.Reply.TheVariants.{Done, Refused, Failed}
use Rattle.word_core.specs.Ending.{failed}
use Rattle.word_core.specs.Words.{Word, bare, AreWords, words_text, line_of}
use Rattle.word_core.specs.Data.{bare_of, data_of, datum_of, datum_word}
use Rattle.word_core.proofs.Clear.{written_data}
use Rattle.word_core.proofs.Cutting.{words_unique}
use Rattle.word_core.proofs.Written.{written_words, written_datum}
use Rattle.word_core.specs.TraceLaws.{HasNames}
use Rattle.word_core.specs.Text.{operation_name, part_words, failure_word}
use Rattle.word_core.proofs.Plain.{EachSafe, each_word}
use Rattle.word_core.proofs.TraceReading.{replies_apart}
use Rattle.live_core.specs.declared.front.Answer.{Answer}
use Rattle.live_core.specs.declared.front.Answer.TheVariants.{Replied, Cancelled}
use Rattle.live_core.specs.Front.{IsCall, IsKey, IsLong, IsRun, IsCarried, IsClient, IsKept, IsAnswer}
use Rattle.live_core.specs.Text.{object_words, source_words, base_words, run_words, call_words, carried_words, client_words, kept_words, answer_words}
use Rattle.front_read.specs.declared.carried.CarriedHead.{CarriedHead}
use Rattle.front_read.specs.declared.kept.KeptHead.{KeptHead}
use Rattle.front_read.specs.Words.{epoch_of, base_of, hash_of, hex_of, carried_head, kept_head}
use Rattle.front_read.specs.Rows.{row_words, IsRow}
use Rattle.front_read.specs.Row.{client_of}
use Rattle.front_read.specs.Calls.{operation_in}
use Rattle.front_read.specs.Parts.{IsValueOf}
use Rattle.front_read.specs.Answers.{tells_datum}
use Rattle.front_read.proofs.Texts.{one_cut}
use Rattle.front_read.proofs.Calling.{some_same, all_of}
use Rattle.front_read.proofs.Clear.{no_feed, long_bytes}
use Rattle.front_read.proofs.Answering.{told_datum}
use Rattle.front_read.proofs.Standing.{AreClear}
use Rattle.front_read.proofs.Parting.{value_read, ok_same}
use Rattle.front_read.proofs.Rowing.{run_same, call_no_datum}
use Rattle.front_read.proofs.Telling.{epoch_told, base_told, carried_told, kept_told, client_told}

-- a line is cut off in one way
pub line_cut : (ws vs : List Word) (a b : List ℕ) → EachSafe ws → EachSafe vs → line_of ws ++ a ≡ line_of vs ++ b → (ws ≡ vs) × (a ≡ b)
line_cut ws vs a b p q same =
    let cut = one_cut (words_text ws) (words_text vs) a b (no_feed ws p) (no_feed vs q) (sym (append_assoc (words_text ws) (10 ∷ []) a) ∙ same ∙ append_assoc (words_text vs) (10 ∷ []) b) in
    (words_unique (words_text ws) ws vs (written_words ws (each_word ws p)) (subst (λ l. AreWords l vs) (sym cut.0) (written_words vs (each_word vs q))), cut.1)

pub row_cut : {X : Type 0} (Is : X → Type 0) (w : X → List Word) (text a b : List ℕ) (x y : X) → AreClear Is w → IsRow Is w text x a → IsRow Is w text y b → (w x ≡ w y) × (a ≡ b)
row_cut Is w text a b x y clear p q = line_cut (w x) (w y) a b (clear x p.is) (clear y q.is) (sym p.stands ∙ q.stands)

-- different things are told in different words
abbrev pub IsOnce : {X : Type 0} → (X → Type 0) → (X → List Word) → Type 0
IsOnce {X} Is w = (x y : X) → Is x → Is y → w x ≡ w y → x ≡ y

pub epoch_once : (name : List ℕ) → IsOnce IsKey (object_words name)
epoch_once name x y p q same = some_same (sym (epoch_told name x p) ∙ ap epoch_of same ∙ epoch_told name y q)

pub base_once : IsOnce IsLong base_words
base_once x y p q same = some_same (sym (base_told x p) ∙ ap base_of same ∙ base_told y q)

pub source_once : IsOnce IsLong source_words
source_once x y p q same =
    let hex : encode_lower (to_be_bytes w64 x) ≡ encode_lower (to_be_bytes w64 y) = some_same (ap hash_of same) in
    let bytes : to_be_bytes w64 x ≡ to_be_bytes w64 y =
    ok_same (to_be_bytes w64 x) (to_be_bytes w64 y) (sym (decode_of-encode_lower (to_be_bytes w64 x) (long_bytes x)) ∙ ap decode_of hex ∙ decode_of-encode_lower (to_be_bytes w64 y) (long_bytes y)) in
    sym (from_be_bytes-to_be_bytes_8 x p) ∙ ap (from_be_bytes w64) bytes ∙ from_be_bytes-to_be_bytes_8 y q

pub part_once : (name : List ℕ) (kind : Kind) → IsOnce (IsValueOf kind) (part_words name)
part_once name kind x y p q same =
    let hex : encode_lower (spelling x) ≡ encode_lower (spelling y) = some_same (ap hex_of same) in
    some_same ((value_read (encode_lower (spelling x)) (spelling x) kind x (decode_of-encode_lower (spelling x) (spelling_is_bytes Second x p.0)) (record { kind = p.1; contents = p.0; spelled = refl })).0 y q hex)

pub run_once : (o : ObjectForm) → HasNames o → IsOnce (IsRun o) (row_words (codes "past") (run_words o))
run_once o named x y p q same = run_same o x y named p q (tail_same same) where
  tail_same : {v : Word} {a b : List Word} → ◌≡◌ {A = List Word} (v ∷ a) (v ∷ b) → a ≡ b
  tail_same is = cc

call_same : (o : ObjectForm) (op op' : ℕ) (args args' : List Datum) → IsCall o op args → IsCall o op' args' → call_words o op args ≡ call_words o op' args' → (op ≡ op') × (args ≡ args')
call_same o op op' args args' p q same =
    let e : ◌≡◌ {A = List ℕ × List Word} (operation_name o op, map datum_word args) (operation_name o op', map datum_word args') = some_same (ap bare_of same) in (
      some_same (sym p.operation.first ∙ ap (λ (n : List ℕ × List Word). operation_in o n.0) e ∙ q.operation.first),
      some_same (sym (written_data args (all_of IsDatum args p.each)).2 ∙ ap (λ (n : List ℕ × List Word). data_of n.1) e ∙ (written_data args' (all_of IsDatum args' q.each)).2),
    )

pub carried_once : (o : ObjectForm) → IsOnce (IsCarried o) (row_words (codes "carried") (carried_words o))
carried_once o x y p q same =
    let e : ◌≡◌ {A = CarriedHead × List Word} (record { number = x.number; told = x.told; session = x.session }, call_words o x.operation x.arguments) (record { number = y.number; told = y.told; session = y.session }, call_words o y.operation y.arguments) =
    some_same (sym (carried_told o x p) ∙ ap carried_head same ∙ carried_told o y q) in
    let call = call_same o x.operation y.operation x.arguments y.arguments p.call q.call (ap (λ (n : CarriedHead × List Word). n.1) e) in
    λ i. record { number = (e i).0.number; told = (e i).0.told; session = (e i).0.session; operation = call.0 i; arguments = call.1 i }

pub client_once : IsOnce IsClient (row_words (codes "client") client_words)
client_once x y p q same = some_same (sym (client_told x p) ∙ ap client_of same ∙ client_told y q)

heads_same : (v w : List ℕ) (c d : List Word) → ◌≡◌ {A = List Word} (bare v ∷ c) (bare w ∷ d) → (v ≡ w) × (c ≡ d)
heads_same v w c d is = (cc, cc)

verbs_differ : (v w : List ℕ) (c d : List Word) → ◌≡◌ {A = List Word} (bare v ∷ c) (bare w ∷ d) → bytes_eq v v ≡ true → bytes_eq v w ≡ false → ⊥
verbs_differ v w c d is self other =
    let same = (heads_same v w c d is).0 in
    let wrong : bytes_eq v w ≡ true = subst (λ z. bytes_eq v z ≡ true) same self in absurd cc

words_same : (a b : Word) (c d : List Word) → ◌≡◌ {A = List Word} (a ∷ c) (b ∷ d) → (a ≡ b) × (c ≡ d)
words_same a b c d is = (cc, cc)

datum_same : (x y : Datum) → IsDatum x → IsDatum y → datum_word x ≡ datum_word y → x ≡ y
datum_same x y p q same = some_same (sym (written_datum x p).1 ∙ ap datum_of same ∙ (written_datum y q).1)

bare_once : (a b : List ℕ) → bare a ≡ bare b → a ≡ b
bare_once a b is = cc

no_datum_there : (x : Datum) (c d : List Word) → IsDatum x → tells_datum d ≡ false → d ≡ datum_word x ∷ c → ⊥
no_datum_there x c d is none same = let told = told_datum x c is in let wrong : tells_datum d ≡ true = ap tells_datum same ∙ told in absurd cc

reply_same : (a b : Reply) → a ≡ b → Replied a ≡ Replied b
reply_same a b is = ap Replied is

answer_same : (a b : Answer) (c d : List Word) → IsAnswer a → IsAnswer b → tells_datum c ≡ false → tells_datum d ≡ false → answer_words a ++ c ≡ answer_words b ++ d → (a ≡ b) × (c ≡ d)
answer_same Cancelled Cancelled c d p q n m is = (refl, (heads_same (codes "cancelled") (codes "cancelled") c d is).1)
answer_same Cancelled (Replied (Done None)) c d p q n m is = absurd (verbs_differ (codes "cancelled") (codes "done") _ _ is refl refl)
answer_same Cancelled (Replied (Done (Some y))) c d p q n m is = absurd (verbs_differ (codes "cancelled") (codes "done") _ _ is refl refl)
answer_same Cancelled (Replied (Refused y)) c d p q n m is = absurd (verbs_differ (codes "cancelled") (codes "refused") _ _ is refl refl)
answer_same Cancelled (Replied (Failed y)) c d p q n m is = absurd (verbs_differ (codes "cancelled") (codes "failed") _ _ is refl refl)
answer_same (Replied (Done None)) Cancelled c d p q n m is = absurd (verbs_differ (codes "done") (codes "cancelled") _ _ is refl refl)
answer_same (Replied (Done None)) (Replied (Done None)) c d p q n m is = (refl, (heads_same (codes "done") (codes "done") c d is).1)
answer_same (Replied (Done None)) (Replied (Done (Some y))) c d p q n m is = absurd (no_datum_there y d c q n (heads_same (codes "done") (codes "done") c (datum_word y ∷ d) is).1)
answer_same (Replied (Done None)) (Replied (Refused y)) c d p q n m is = absurd (verbs_differ (codes "done") (codes "refused") _ _ is refl refl)
answer_same (Replied (Done None)) (Replied (Failed y)) c d p q n m is = absurd (verbs_differ (codes "done") (codes "failed") _ _ is refl refl)
answer_same (Replied (Done (Some x))) Cancelled c d p q n m is = absurd (verbs_differ (codes "done") (codes "cancelled") _ _ is refl refl)
answer_same (Replied (Done (Some x))) (Replied (Done None)) c d p q n m is = absurd (no_datum_there x c d p m (sym (heads_same (codes "done") (codes "done") (datum_word x ∷ c) d is).1))
answer_same (Replied (Done (Some x))) (Replied (Done (Some y))) c d p q n m is =
    let two = words_same (datum_word x) (datum_word y) c d (heads_same (codes "done") (codes "done") (datum_word x ∷ c) (datum_word y ∷ d) is).1 in
    (ap (λ z. Replied (Done (Some z))) (datum_same x y p q two.0), two.1)
answer_same (Replied (Done (Some x))) (Replied (Refused y)) c d p q n m is = absurd (verbs_differ (codes "done") (codes "refused") _ _ is refl refl)
answer_same (Replied (Done (Some x))) (Replied (Failed y)) c d p q n m is = absurd (verbs_differ (codes "done") (codes "failed") _ _ is refl refl)
answer_same (Replied (Refused x)) Cancelled c d p q n m is = absurd (verbs_differ (codes "refused") (codes "cancelled") _ _ is refl refl)
answer_same (Replied (Refused x)) (Replied (Done None)) c d p q n m is = absurd (verbs_differ (codes "refused") (codes "done") _ _ is refl refl)
answer_same (Replied (Refused x)) (Replied (Done (Some y))) c d p q n m is = absurd (verbs_differ (codes "refused") (codes "done") _ _ is refl refl)
answer_same (Replied (Refused x)) (Replied (Refused y)) c d p q n m is =
    let two = words_same (bare x) (bare y) c d (heads_same (codes "refused") (codes "refused") (bare x ∷ c) (bare y ∷ d) is).1 in
    (ap (λ z. Replied (Refused z)) (bare_once x y two.0), two.1)
answer_same (Replied (Refused x)) (Replied (Failed y)) c d p q n m is = absurd (verbs_differ (codes "refused") (codes "failed") _ _ is refl refl)
answer_same (Replied (Failed x)) Cancelled c d p q n m is = absurd (verbs_differ (codes "failed") (codes "cancelled") _ _ is refl refl)
answer_same (Replied (Failed x)) (Replied (Done None)) c d p q n m is = absurd (verbs_differ (codes "failed") (codes "done") _ _ is refl refl)
answer_same (Replied (Failed x)) (Replied (Done (Some y))) c d p q n m is = absurd (verbs_differ (codes "failed") (codes "done") _ _ is refl refl)
answer_same (Replied (Failed x)) (Replied (Refused y)) c d p q n m is = absurd (verbs_differ (codes "failed") (codes "refused") _ _ is refl refl)
answer_same (Replied (Failed x)) (Replied (Failed y)) c d p q n m is =
    let two = words_same (bare (failure_word x)) (bare (failure_word y)) c d (heads_same (codes "failed") (codes "failed") (bare (failure_word x) ∷ c) (bare (failure_word y) ∷ d) is).1 in
    (reply_same (Failed x) (Failed y) (replies_apart (Failed x) (Failed y) (ap failed (bare_once (failure_word x) (failure_word y) two.0))), two.1)

pub kept_once : (o : ObjectForm) → HasNames o → IsOnce (IsKept o) (row_words (codes "kept") (kept_words o))
kept_once o named x y p q same =
    let e : ◌≡◌ {A = KeptHead × List Word} (record { session = x.session; key = x.key; told = x.told }, answer_words x.answer ++ call_words o x.operation x.arguments) (record { session = y.session; key = y.key; told = y.told }, answer_words y.answer ++ call_words o y.operation y.arguments) =
    some_same (sym (kept_told o x p) ∙ ap kept_head same ∙ kept_told o y q) in
    let ended = answer_same x.answer y.answer (call_words o x.operation x.arguments) (call_words o y.operation y.arguments) p.answer q.answer (call_no_datum o x.operation x.arguments named p.call) (call_no_datum o y.operation y.arguments named q.call) (ap (λ (n : KeptHead × List Word). n.1) e) in
    let call = call_same o x.operation y.operation x.arguments y.arguments p.call q.call ended.1 in
    λ i. record { session = (e i).0.session; key = (e i).0.key; told = (e i).0.told; answer = ended.0 i; operation = call.0 i; arguments = call.1 i }
