-- The lines of calls that ran, one after the other.
use Rattle.std.proofs.Common.{◌≡◌, ◌≢◌, ℕ, zero, suc, ◌+◌, ◌<◌, ◌≤◌, List, [], ◌∷◌, ◌++◌, length, map, refl, ap, ◌∙◌, arith, append_assoc}
use Rattle.std.specs.Prelude.{All, Some, slice_index_or}
use Rattle.std.specs.Str.{str_to_ascii_lowercase}
use Rattle.std.proofs.lemmas.List.Elements.{All-head, All-tail}
use Rattle.path_tree.specs.Identifier.{IsName}
use Rattle.path_tree.specs.Known.{place_of}
use Rattle.path_tree.proofs.Spelling.{name_lower}
use Rattle.path_count.specs.Stands.{started_calls}
use Rattle.decl_core.specs.ObjectForm.{ObjectForm, OperationForm}
use Rattle.word_core.specs.Words.{words_text}
use Rattle.word_core.specs.Events.{Called}
use Rattle.word_core.specs.TraceLaws as trace
use Rattle.word_core.specs.Text.{start_words, end_words, operation_name}
use Rattle.audit_core.specs.Operations.{operation_names}
use Rattle.live_core.specs.declared.call.Ran.{Ran}
use Rattle.live_core.specs.Hall.{Told, Every, EachPair, IsCallOf}
use Rattle.live_core.specs.Settles.{Settles, rests, runs, with_all}
use Rattle.live_core.specs.Lines.{all_lines}
use Rattle.live_core.proofs.Listing.{every_map, every_both, every_at, every_without, pairs_without, length_without}
use Rattle.audit_core.specs.EpochSaid.{asks}
use Rattle.audit_core.specs.Steps.{Step, ran, Begun, IsUnused, trace_by, told_by}
use Rattle.audit_core.specs.EpochTells.{Tell, IsCall, start_told, end_told}
use Rattle.recover_core.specs.Lines.{AreLines, joined}
use Rattle.history_law.specs.Named.{IsNamed}
use Rattle.history_law.specs.Stands.{IsAwaited}
use Rattle.history_law.specs.Happens.{with_ran}
use Rattle.history_law.specs.Told.{heard_of}
use Rattle.history_law.proofs.Saying.{start_written, end_written}

-- a call that waits, of an object, with a number up to the greatest one that was given out
pub record IsReady (o : ObjectForm) (e : Begun) (most : ℕ) (steps : List Step) (c : Called) : Type 0 where
  pub awaited : IsAwaited e steps c
  pub of : IsCallOf o c
  pub number : (1 ≤ c.number) × (c.number ≤ most)

-- calls that wait, where lines told these steps
pub record Going (o : ObjectForm) (e : Begun) (most : ℕ) (steps : List Step) (waiting : List Called) : Type 0 where
  pub ready : Every (IsReady o e most steps) waiting
  pub in_order : EachPair (λ (c d : Called). c.number < d.number) waiting
  pub later : (number : ℕ) → most < number → IsUnused number steps
  pub counted : started_calls (trace_by e steps) + length waiting ≤ 65536
  pub few : most ≤ 65536

-- a name has no capital letters
lower_at : (operations : List OperationForm) (place : ℕ) → All (λ f. IsName f.name) operations
    → str_to_ascii_lowercase (slice_index_or (map (λ f. f.name) operations) place []) ≡ slice_index_or (map (λ f. f.name) operations) place []
lower_at [] place named = refl
lower_at (f ∷ operations) zero named = name_lower f.name (All-head (λ f. IsName f.name) f operations named).1
lower_at (f ∷ operations) (suc place) named = lower_at operations place (All-tail (λ f. IsName f.name) f operations named)

-- a call that is ready can be written
pub can_be_written : (o : ObjectForm) (e : Begun) (most : ℕ) (steps : List Step) (c : Called) → most ≤ 65536 → IsReady o e most steps c → trace.IsCallOf o c
can_be_written o e most steps c few is = record {
  number = omega (arith, is.number.1, few);
  session = omega (arith, is.awaited.session.1);
  operation = is.of.known;
  arguments = is.awaited.values;
}

-- a line may tell of it
pub may_be_told : (o : ObjectForm) (e : Begun) (most : ℕ) (steps : List Step) (c : Called) → IsNamed o → most ≤ 65536 → IsReady o e most steps c →
    IsCall o e (heard_of steps) (asks c.number c.session (operation_name o c.operation) c.arguments) c
may_be_told o e most steps c named few is = record {
  rests = refl;
  number = refl;
  session = refl;
  arguments = refl;
  number_is = (is.number.0, omega (arith, is.number.1, few));
  session_is = is.awaited.session;
  fresh = is.awaited.unused;
  known = ap (place_of (operation_names o.operations)) (lower_at o.operations c.operation named.names.operations) ∙ named.first c.operation is.of.known;
  fit = is.of.fit;
  carried = is.awaited.one;
}

-- of calls in the order of their numbers none has the number of another one
pub apart : (front behind : List Called) (c : Called) → EachPair (λ (x y : Called). x.number < y.number) (front ++ c ∷ behind) → Every (λ (d : Called). c.number ≢ d.number) (front ++ behind)
apart [] behind c pairs = every_map (λ (d : Called). c.number < d.number) (λ d. c.number ≢ d.number) (λ d less same. absurd (omega (arith, less, same))) behind pairs.0
apart (x ∷ front) behind c pairs =
    ((λ same. absurd (omega (arith, same, every_at (λ (d : Called). x.number < d.number) front behind c pairs.0))), apart front behind c pairs.1)

-- a call ran: what waits behind that
still_ready : (o : ObjectForm) (e : Begun) (most : ℕ) (steps : List Step) (r : Ran) (c : Called) → IsReady o e most steps c → r.call.number ≢ c.number → IsReady o e most (ran r.call r.reply ∷ steps) c
still_ready o e most steps r c is other = record {
  awaited = record { unused = (other, is.awaited.unused); session = is.awaited.session; values = is.awaited.values; one = is.awaited.one };
  of = is.of;
  number = is.number;
}

pub one_ran : (o : ObjectForm) (e : Begun) (most : ℕ) (steps : List Step) (front behind : List Called) (r : Ran) → Going o e most steps (front ++ r.call ∷ behind) → Going o e most (ran r.call r.reply ∷ steps) (front ++ behind)
one_ran o e most steps front behind r g =
    let here = every_at (IsReady o e most steps) front behind r.call g.ready in
    let one : started_calls (trace_by e (ran r.call r.reply ∷ steps)) ≡ 1 + started_calls (trace_by e steps) = refl in
    record {
      ready = every_both (IsReady o e most steps) (λ (d : Called). r.call.number ≢ d.number) (IsReady o e most (ran r.call r.reply ∷ steps)) (λ c is other. still_ready o e most steps r c is other) (front ++ behind)
          (every_without (IsReady o e most steps) front behind r.call g.ready) (apart front behind r.call g.in_order);
      in_order = pairs_without (λ (c d : Called). c.number < d.number) front behind r.call g.in_order;
      later = λ number more. ((λ same. absurd (omega (arith, same, more, here.number.1))), g.later number more);
      counted = omega (arith, one, g.counted, length_without front behind r.call);
      few = g.few;
    }

-- lines of calls that ran, and what waits behind them
pub record RanLines (o : ObjectForm) (e : Begun) (most : ℕ) (steps : List Step) (all : List Ran) (left : List Called) : Type 0 where
  pub lines : List (List ℕ)
  pub each : AreLines lines
  pub cut : all_lines o all ≡ joined lines
  pub told : Tell o e (heard_of steps) lines (heard_of (with_ran all steps))
  pub going : Going o e most (with_ran all steps) left

-- two lines, and others behind them
two_lines : (a b text : List ℕ) (lines : List (List ℕ)) → text ≡ joined lines → ((a ++ 10 ∷ []) ++ (b ++ 10 ∷ [])) ++ text ≡ joined (a ∷ b ∷ lines)
two_lines a b text lines is = append_assoc (a ++ 10 ∷ []) (b ++ 10 ∷ []) text ∙ ap (λ x. (a ++ 10 ∷ []) ++ ((b ++ 10 ∷ []) ++ x)) is

pub ran_told : (o : ObjectForm) (e : Begun) (most : ℕ) (t : Told) (waiting left : List Called) (all : List Ran) (steps : List Step) → IsNamed o → Settles o t waiting all left →
    Going o e most steps waiting → Every (λ (r : Ran). trace.IsReply r.reply) all → RanLines o e most steps all left
ran_told o e most t waiting left all steps named (rests none) g replies = record { lines = []; each = tt; cut = refl; told = refl; going = g }
ran_told o e most t waiting left all steps named (runs front behind r more first reply fails settles) g replies =
    let here = every_at (IsReady o e most steps) front behind r.call g.ready in
    let call = can_be_written o e most steps r.call g.few here in
    let start = start_written o r.call named.names call in
    let end = end_written o r.call.number r.reply named.names call.number replies.0 in
    let few : started_calls (trace_by e steps) < 65536 = omega (arith, g.counted, length_without front behind r.call) in
    let on = ran_told o e most _ (front ++ behind) left more (ran r.call r.reply ∷ steps) named settles (one_ran o e most steps front behind r g) replies.1 in
    record {
      lines = words_text (start_words o r.call) ∷ words_text (end_words r.call.number r.reply) ∷ on.lines;
      each = (start.line, (end.line, on.each));
      cut = two_lines (words_text (start_words o r.call)) (words_text (end_words r.call.number r.reply)) (all_lines o more) on.lines on.cut;
      told = (
        record { steps = steps; running = Some r.call },
        start_told start.says (may_be_told o e most steps r.call named g.few here) few,
        (heard_of (ran r.call r.reply ∷ steps), end_told end.says refl refl, on.told),
      );
      going = on.going;
    }

-- what stands behind an object after them
pub told_ran : (e : Begun) (all : List Ran) (steps : List Step) → told_by e (with_ran all steps) ≡ with_all (told_by e steps) all
told_ran e [] steps = refl
told_ran e (r ∷ all) steps = told_ran e all (ran r.call r.reply ∷ steps)
