-- The text of what happened is heard as what happened.
use Rattle.std.proofs.Common.{◌≡◌, ℕ, ◌<◌, zero, suc, inl, inr, List, [], ◌∷◌, ◌++◌, All, length, true, refl, sym, ap, ◌∙◌, subst, arith, append_assoc, length-append, map}
use Rattle.std.specs.Prelude.{◌^◌, Some, None, decimal, nat_le, nat_lt, slice_get, slice_index_or}
use Rattle.std.specs.List.{list_all}
use Rattle.std.proofs.lemmas.Bool.Decides.{nat_tests}
use Rattle.std.specs.Str.{str_to_ascii_lowercase}
use Rattle.std.specs.Str.Lines.{lines}
use Rattle.std.proofs.lemmas.List.{append-nil, map-append, length-map}
use Rattle.std.proofs.lemmas.List.Elements.{All-nil, All-head, All-tail, All-push}
use Rattle.hex.specs.Hex.{encode_lower}
use Rattle.path_tree.specs.Identifier.{IsName}
use Rattle.path_tree.specs.Known.{place_of}
use Rattle.path_tree.proofs.Spelling.{name_lower}
use Rattle.value_core.specs.declared.format.Format.TheVariants.{Second}
use Rattle.value_core.specs.declared.datum.Datum.{Datum}
use Rattle.value_core.specs.declared.kind.Kind.{Kind}
use Rattle.value_core.specs.Contents.{Contents, kind_of, IsContents}
use Rattle.value_bytes.specs.Spelling.{spelling}
use Rattle.decl_core.specs.ObjectForm.{ObjectForm, OperationForm}
use Rattle.decl_core.specs.RefusalWord.{IsRefusalWord, IsLower}
use Rattle.apply_core.specs.declared.reply.Failure.TheVariants.{Device, Memory, Damaged}
use Rattle.apply_core.specs.declared.reply.Reply.{Reply}
use Rattle.apply_core.specs.declared.reply.Reply.TheVariants.{Done, Refused, Failed}
use Rattle.word_core.specs.Words.{Word, bare, AreWords}
use Rattle.word_core.specs.Data.{◌>>=◌, integer_of, session_of, session_bytes, data_of, datum_word}
use Rattle.word_core.specs.Ending.{Ending, ending_words, ending_of, TellEnding}
use Rattle.word_core.proofs.Written.{written_integer, written_session, written_datum}
use Rattle.word_core.proofs.Endings.{ending_exact}
use Rattle.word_core.proofs.Clear.{written_data}
use Rattle.word_core.specs.Events.{Called, Happened, began, ended, IsRunning}
use Rattle.word_core.specs.TraceLaws.{HasNames, IsReply, IsTold, HaveWords}
use Rattle.word_core.specs.Text.{call_started, call_ended, event_words, reply_ending, object_words, part_words, parts_words, start_words, end_words, operation_name, told_of, trace_text}
use Rattle.word_core.proofs.TraceReading.{trace_is_read, part_is_read}
use Rattle.audit_core.specs.Said.{Says, an_object, a_part, a_start, an_end, start_said, end_said, reply_by, refused_by, is_lower}
use Rattle.audit_core.specs.Operations.{operation_names}
use Rattle.audit_core.specs.Tells.{Heard, nothing_heard, IsObject, IsPart, IsStart, IsOpened, Tell, object_told, part_told, start_told, end_told}
use Rattle.audit_core.specs.Laws.{IsCallFor, AreCallsFor, AreOpening, TextIsLegal}
use Rattle.audit_core.proofs.Following.{tell_more}

-- the lines before the first event were heard, as far as these parts
abbrev fronted : List Contents → Heard
fronted opening = record { named = true; opening = opening; past = [] }

abbrev heard_of : List Contents → List Happened → Heard
heard_of opening past = record { named = true; opening = opening; past = past }

tell_on : (o : ObjectForm) (first mid after : Heard) (a b : List (List ℕ)) → Tell o first a mid → Tell o mid b after → Tell o first (a ++ b) after
tell_on o first mid after [] b same told = subst (λ h. Tell o h b after) same told
tell_on o first mid after (l ∷ a) b told more = (told.0, told.1, tell_on o told.0 mid after a b told.2 more)

-- lines of some words and then of others
have_both : (ls : List (List ℕ)) (xs ys : List (List Word)) → HaveWords ls (xs ++ ys) → (a : List (List ℕ)) × (b : List (List ℕ)) × (ls ≡ a ++ b) × HaveWords a xs × HaveWords b ys
have_both ls [] ys have = ([], ls, refl, tt, have)
have_both [] (x ∷ xs) ys have = absurd have
have_both (l ∷ ls) (x ∷ xs) ys have =
    let rest = have_both ls xs ys have.1 in
    (l ∷ rest.0, rest.1, ap (λ m. l ∷ m) rest.2, (have.0, rest.3), rest.4)

-- the one line of some words
have_one : (ls : List (List ℕ)) (words : List Word) → HaveWords ls (words ∷ []) → (line : List ℕ) × (ls ≡ line ∷ []) × AreWords line words
have_one [] words have = absurd have
have_one (l ∷ []) words have = (l, refl, have.0)
have_one (l ∷ m ∷ ls) words have = absurd have.1

-- a name has no capital letters
lower_at : (operations : List OperationForm) (place : ℕ) → All (λ f. IsName f.name) operations
    → str_to_ascii_lowercase (slice_index_or (map (λ f. f.name) operations) place []) ≡ slice_index_or (map (λ f. f.name) operations) place []
lower_at [] place named = refl
lower_at (f ∷ operations) zero named = name_lower f.name (All-head (λ f. IsName f.name) f operations named).1
lower_at (f ∷ operations) (suc place) named = lower_at operations place (All-tail (λ f. IsName f.name) f operations named)

start_by : (n s name : List ℕ) (more : List Word) (number session : ℕ) (arguments : List Datum) → integer_of n ≡ Some number → session_of s ≡ Some session → data_of more ≡ Some arguments
    → start_said (bare n ∷ bare s ∷ bare name ∷ more) ≡ Some (a_start number session name arguments)
start_by n s name more number session arguments one two three =
    ap (λ x. x >>= λ number. session_of s >>= λ session. data_of more >>= λ arguments. Some (a_start number session name arguments)) one
    ∙ ap (λ x. x >>= λ session. data_of more >>= λ arguments. Some (a_start number session name arguments)) two
    ∙ ap (λ x. x >>= λ arguments. Some (a_start number session name arguments)) three

end_by : (n : List ℕ) (more : List Word) (number : ℕ) (ending : Ending) (reply : Reply) → integer_of n ≡ Some number → ending_of more ≡ Some ending → reply_by ending ≡ Some reply
    → end_said (bare n ∷ more) ≡ Some (an_end number reply)
end_by n more number ending reply one two three =
    ap (λ x. x >>= λ number. (ending_of more >>= reply_by) >>= λ reply. Some (an_end number reply)) one
    ∙ ap (λ x. (x >>= reply_by) >>= λ reply. Some (an_end number reply)) two
    ∙ ap (λ x. x >>= λ reply. Some (an_end number reply)) three

-- the opening values are heard, part by part
tell_parts : (o : ObjectForm) (before rest : List (List ℕ × Kind)) (done opening : List Contents) (ls : List (List ℕ)) → o.parts ≡ before ++ rest → length before ≡ length done
    → map kind_of opening ≡ map (λ p. p.1) rest → All IsContents opening → HaveWords ls (parts_words rest opening) → Tell o (fronted done) ls (fronted (done ++ opening))
tell_parts o before [] done [] [] parts many kinds contents have = ap fronted (append-nil done)
tell_parts o before [] done [] (l ∷ ls) parts many kinds contents have = absurd have
tell_parts o before [] done (v ∷ opening) ls parts many kinds contents have = cc
tell_parts o before (p ∷ rest) done [] ls parts many kinds contents have = cc
tell_parts o before (p ∷ rest) done (v ∷ opening) [] parts many kinds contents have = absurd have
tell_parts o before (p ∷ rest) done (v ∷ opening) (l ∷ ls) parts many kinds contents have =
    let kind : kind_of v ≡ p.1 = cc in
    let others : map kind_of opening ≡ map (λ p. p.1) rest = cc in
    let is = All-head IsContents v opening contents in
    let there : slice_get o.parts (length done) ≡ Some (p.0, kind_of v) = ap (λ ps. slice_get ps (length done)) parts ∙ ap (slice_get (before ++ p ∷ rest)) (sym many) ∙ behind before p rest ∙ ap (λ k. Some (p.0, k)) (sym kind) in
    let part : IsPart o (fronted done) p.0 (encode_lower (spelling v)) v = record {
      named = refl;
      kind = kind_of v;
      next = there;
      bytes = spelling v;
      is = record { read = part_is_read v is; lower = refl };
      spells = (Second, record { kind = refl; contents = is; spelled = refl });
    } in
    let says : Says l (a_part p.0 (encode_lower (spelling v))) = (part_words p.0 v, have.0, refl) in
    let more = tell_parts o (before ++ p ∷ []) rest (done ++ v ∷ []) opening ls (parts ∙ sym (append_assoc before (p ∷ []) rest)) (omega (arith, many, length-append before (p ∷ []), length-append done (v ∷ []))) others (All-tail IsContents v opening contents) have.1 in
    (fronted (done ++ v ∷ []), part_told says part, subst (λ xs. Tell o (fronted (done ++ v ∷ [])) ls (fronted xs)) (append_assoc done (v ∷ []) opening) more)
  where
    behind : (before : List (List ℕ × Kind)) (p : List ℕ × Kind) (rest : List (List ℕ × Kind)) → slice_get (before ++ p ∷ rest) (length before) ≡ Some p
    behind [] p rest = refl
    behind (x ∷ before) p rest = behind before p rest

-- what is known of a call that runs
call_running : (o : ObjectForm) (past : List Happened) (c : Called) → AreCallsFor o past → IsRunning c past → IsCallFor o c
call_running o [] c are runs = absurd runs
call_running o (began b ∷ past) c are (inl same) = subst (IsCallFor o) same are.0
call_running o (began b ∷ past) c are (inr runs) = call_running o past c are.2 runs
call_running o (ended b reply ∷ past) c are runs = call_running o past c are.2 runs.1

below_32 : (o : ObjectForm) (c : Called) → IsCallFor o c → (c.number < 2 ^ 32) × (c.session < 2 ^ 32)
below_32 o c is = (omega (arith, is.number.1), omega (arith, is.session.1))

-- what is told is of calls of the object
each_told : (o : ObjectForm) (past : List Happened) → AreCallsFor o past → All (IsTold o) (told_of past)
each_told o [] are = All-nil (IsTold o)
each_told o (began c ∷ past) are =
    let small = below_32 o c are.0 in
    All-push (IsTold o) (told_of past) (call_started c) (each_told o past are.2) (record { number = small.0; session = small.1; operation = are.0.there; arguments = are.0.known })
each_told o (ended c reply ∷ past) are =
    let small = below_32 o c (call_running o past c are.2 are.1) in
    All-push (IsTold o) (told_of past) (call_ended c.number reply) (each_told o past are.2) (small.0, are.0)

lower_tests : (word : List ℕ) → All IsLower word → list_all is_lower word ≡ true
lower_tests [] is = refl
lower_tests (b ∷ word) is =
    let h = All-head IsLower b word is in
    let low : nat_le 97 b ≡ true = grind (arith, nat_tests, h.0) in
    let high : nat_le b 122 ≡ true = grind (arith, nat_tests, h.1) in
    rw (low, high) (lower_tests word (All-tail IsLower b word is))

refusal_read : (word : List ℕ) → IsRefusalWord word → refused_by word ≡ Some (Refused word)
refusal_read word is =
    let some : nat_lt 0 (length word) ≡ true = grind (arith, nat_tests, is.some) in
    let few : nat_le (length word) 16 ≡ true = grind (arith, nat_tests, is.few) in
    let lower : list_all is_lower word ≡ true = lower_tests word is.lower in
    rw (some, few, lower) refl

-- a reply that is told is read back
ending_told : (reply : Reply) → IsReply reply → TellEnding (reply_ending reply) (ending_words (reply_ending reply))
ending_told (Done None) is = refl
ending_told (Done (Some datum)) is = (datum_word datum, refl, (written_datum datum is).1)
ending_told (Refused word) is = refl
ending_told (Failed failure) is = refl

reply_read : (reply : Reply) → IsReply reply → reply_by (reply_ending reply) ≡ Some reply
reply_read (Done None) is = refl
reply_read (Done (Some datum)) is = refl
reply_read (Refused word) is = refusal_read word is
reply_read (Failed Device) is = refl
reply_read (Failed Memory) is = refl
reply_read (Failed Damaged) is = refl

-- the lines of what happened are heard, the oldest first
tell_events : (o : ObjectForm) (opening : List Contents) (past : List Happened) (ls : List (List ℕ)) → All (λ f. IsName f.name) o.operations → IsOpened o (fronted opening) → AreCallsFor o past
    → HaveWords ls (map (event_words o) (told_of past)) → Tell o (fronted opening) ls (heard_of opening past)
tell_events o opening [] [] named opened are have = refl
tell_events o opening [] (l ∷ ls) named opened are have = absurd have
tell_events o opening (began c ∷ past) ls named opened are have =
    let cut = have_both ls (map (event_words o) (told_of past)) (start_words o c ∷ []) (subst (HaveWords ls) (map-append (event_words o) (told_of past) (call_started c ∷ [])) have) in
    let one = have_one cut.1 (start_words o c) cut.4 in
    let call = are.0 in
    let small = below_32 o c call in
    let said : start_said (bare (decimal c.number) ∷ bare (session_bytes c.session) ∷ bare (operation_name o c.operation) ∷ map datum_word c.arguments) ≡ Some (a_start c.number c.session (operation_name o c.operation) c.arguments) =
    start_by (decimal c.number) (session_bytes c.session) (operation_name o c.operation) (map datum_word c.arguments) c.number c.session c.arguments
    (written_integer c.number small.0).1 (written_session c.session small.1).1 (written_data c.arguments call.known).2 in
    let says : Says one.0 (a_start c.number c.session (operation_name o c.operation) c.arguments) = (start_words o c, one.2, said) in
    let start : IsStart o (heard_of opening past) c.number c.session (operation_name o c.operation) c.arguments c.operation = record {
      opened = record { named = refl; whole = opened.whole };
      number_is = call.number;
      fresh = are.1;
      session_is = call.session;
      known = ap (place_of (operation_names o.operations)) (lower_at o.operations c.operation named) ∙ call.first;
      fit = call.fit;
    } in
    subst (λ xs. Tell o (fronted opening) xs (heard_of opening (began c ∷ past))) (sym (cut.2 ∙ ap (λ m. cut.0 ++ m) one.1))
    (tell_more o (fronted opening) cut.0 one.0 (heard_of opening past) (heard_of opening (began c ∷ past)) (tell_events o opening past cut.0 named opened are.2 cut.3) (start_told says start))
tell_events o opening (ended c reply ∷ past) ls named opened are have =
    let cut = have_both ls (map (event_words o) (told_of past)) (end_words c.number reply ∷ []) (subst (HaveWords ls) (map-append (event_words o) (told_of past) (call_ended c.number reply ∷ [])) have) in
    let one = have_one cut.1 (end_words c.number reply) cut.4 in
    let call = call_running o past c are.2 are.1 in
    let small = below_32 o c call in
    let ends : ending_of (ending_words (reply_ending reply)) ≡ Some (reply_ending reply) = (ending_exact (ending_words (reply_ending reply)) (reply_ending reply)).1 (ending_told reply are.0) in
    let said : end_said (bare (decimal c.number) ∷ ending_words (reply_ending reply)) ≡ Some (an_end c.number reply) =
    end_by (decimal c.number) (ending_words (reply_ending reply)) c.number (reply_ending reply) reply (written_integer c.number small.0).1 ends (reply_read reply are.0) in
    let says : Says one.0 (an_end c.number reply) = (end_words c.number reply, one.2, said) in
    subst (λ xs. Tell o (fronted opening) xs (heard_of opening (ended c reply ∷ past))) (sym (cut.2 ∙ ap (λ m. cut.0 ++ m) one.1))
    (tell_more o (fronted opening) cut.0 one.0 (heard_of opening past) (heard_of opening (ended c reply ∷ past)) (tell_events o opening past cut.0 named opened are.2 cut.3) (end_told says (record { named = refl; whole = opened.whole }) call.number refl are.1))

tell_whole : (o : ObjectForm) (opening : List Contents) (past : List Happened) (ls : List (List ℕ)) → HasNames o → AreOpening o opening → AreCallsFor o past
    → HaveWords ls (object_words o.name ∷ (parts_words o.parts opening ++ map (event_words o) (told_of past))) → Tell o nothing_heard ls (heard_of opening past)
tell_whole o opening past [] names front are have = absurd have
tell_whole o opening past (l ∷ ls) names front are have =
    let cut = have_both ls (parts_words o.parts opening) (map (event_words o) (told_of past)) have.1 in
    let says : Says l (an_object o.name) = (object_words o.name, have.0, refl) in
    let first : IsObject o nothing_heard o.name = record { first = refl; same = name_lower o.name names.own.1 } in
    let parts = tell_parts o [] o.parts [] opening cut.0 refl refl front.kinds front.contents cut.3 in
    let opened : IsOpened o (fronted opening) = record { named = refl; whole = omega (arith, ap length front.kinds, length-map opening kind_of, length-map o.parts (λ p. p.1)) } in
    let events = tell_events o opening past cut.1 names.operations opened are cut.4 in
    (fronted [], object_told says first, subst (λ xs. Tell o (fronted []) xs (heard_of opening past)) (sym cut.2) (tell_on o (fronted []) (fronted opening) (heard_of opening past) cut.0 cut.1 parts events))

pub text_is_legal : TextIsLegal
text_is_legal o opening past names front are satisfied legal = record {
  heard = heard_of opening past;
  told = tell_whole o opening past (lines (trace_text o opening (told_of past))) names front are (trace_is_read o opening (told_of past) names front.contents (each_told o past are));
  opened = record { named = refl; whole = omega (arith, ap length front.kinds, length-map opening kind_of, length-map o.parts (λ p. p.1)) };
  sound = record { satisfied = satisfied; legal = legal };
  counted = refl;
}
