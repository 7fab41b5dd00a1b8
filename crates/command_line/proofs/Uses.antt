-- Which long flags do not fail, and what they do.
use Rattle.std.proofs.Common.{◌≡◌, ◌∙◌, ◌||◌, cond, Bool, true, false, List, [], ◌∷◌, Option, Some, None, refl, sym, ap, bytes_eq, codes}
use Rattle.std.proofs.lemmas.Slice.Eq.{bytes_eq-Decides}
use Rattle.clap.specs.Walk.{Held, Rule, Text, arg_by_long, settled}
use Rattle.clap.specs.Kinds.{Kinds as Faults}
use Rattle.clap.specs.Faults.{long_fault, settle_fault, short_fault, react_fault, use_fault}
use Rattle.command_line.specs.Forms.{Verb, paths, check, run, audit, attempt, serve, keep, has_explain, has_stop, has_stuck}
use Rattle.command_line.proofs.Turns.{some_fault, first_of, then_of}
use Rattle.command_line.proofs.Levels.{rules, flag, sessions_built, at_once_built, sync_built, traces_built, past_built, help_built, version_built, explain_rule, stop_rule, stuck_rule, shown_rule, shown_by, long_rule, long_is}
use Rattle.command_line.proofs.Choices.{Choice, of_sessions, of_at_once, of_sync, of_traces, of_past, id_of, built_of, has_choice}

module _ (c : List Rule) (h : Held) where
  pub flag_case : (name : Text) (o : Option Text) → long_fault c false (Some (flag name)) o h ≡ []
      → (o ≡ None) × (settle_fault c false h ≡ []) × (use_fault false (flag name) [] (settled c h).rows ≡ [])
  flag_case name None e = (refl, first_of (settle_fault c false h) _ e, then_of (settle_fault c false h) _ e)
  flag_case name (Some x) e = absurd (some_fault _ _ e)

  pub help_case : (o : Option Text) → long_fault c false (Some help_built) o h ≡ [] → ⊥
  help_case None e = some_fault _ _ (then_of (settle_fault c false h) _ e)
  help_case (Some x) e = some_fault _ _ e

  version_case : (o : Option Text) → long_fault c false (Some version_built) o h ≡ [] → ⊥
  version_case None e = some_fault _ _ (then_of (settle_fault c false h) _ e)
  version_case (Some x) e = some_fault _ _ e

  pub none_case : (o : Option Text) → long_fault c false None o h ≡ [] → ⊥
  none_case o e = some_fault _ _ e

  -- what a long flag that does not fail may be
  pub data Passes (v : Verb) (name : Text) (o : Option Text) : Type 0 where
    is_explain : has_explain v ≡ true → name ≡ codes "explain" → o ≡ None → settle_fault c false h ≡ [] → use_fault false (flag (codes "explain")) [] (settled c h).rows ≡ [] → Passes v name o
    is_silence : has_explain v ≡ true → name ≡ codes "no-explain" → o ≡ None → settle_fault c false h ≡ [] → use_fault false (flag (codes "no-explain")) [] (settled c h).rows ≡ [] → Passes v name o
    is_stop : has_stop v ≡ true → name ≡ codes "stop-with-input" → o ≡ None → settle_fault c false h ≡ [] → use_fault false (flag (codes "stop-with-input")) [] (settled c h).rows ≡ [] → Passes v name o
    is_stuck : has_stuck v ≡ true → name ≡ codes "stuck" → o ≡ None → settle_fault c false h ≡ [] → use_fault false (flag (codes "stuck")) [] (settled c h).rows ≡ [] → Passes v name o
    is_joined : (x : Choice) (n : Text) → has_choice x v ≡ true → name ≡ id_of x → o ≡ Some n → settle_fault c false h ≡ [] → use_fault false (built_of x) (n ∷ []) (settled c h).rows ≡ []
        → Passes v name o
    is_spaced : (x : Choice) → has_choice x v ≡ true → name ≡ id_of x → o ≡ None → settle_fault c false h ≡ [] → Passes v name o

  named : (name other : Text) → bytes_eq other name ≡ true → name ≡ other
  named name other e = sym ((bytes_eq-Decides other name).0 e)

  module _ (v : Verb) (name : Text) (o : Option Text) where
    pub by_shown : (help version : Bool) → long_fault c false (shown_rule help version) o h ≡ [] → ⊥
    by_shown true version e = help_case o e
    by_shown false true e = version_case o e
    by_shown false false e = none_case o e

    -- an option, with its value or before it
    spaced_or_joined : (x : Choice) → has_choice x v ≡ true → name ≡ id_of x → (p : Option Text) → o ≡ p → long_fault c false (Some (built_of x)) p h ≡ [] → Passes v name o
    spaced_or_joined of_sessions most is None none e = is_spaced of_sessions most is none e
    spaced_or_joined of_sessions most is (Some n) some e = is_joined of_sessions n most is some (first_of (settle_fault c false h) _ e) (then_of (settle_fault c false h) _ e)
    spaced_or_joined of_at_once most is None none e = is_spaced of_at_once most is none e
    spaced_or_joined of_at_once most is (Some n) some e = is_joined of_at_once n most is some (first_of (settle_fault c false h) _ e) (then_of (settle_fault c false h) _ e)
    spaced_or_joined of_sync most is None none e = is_spaced of_sync most is none e
    spaced_or_joined of_sync most is (Some n) some e = is_joined of_sync n most is some (first_of (settle_fault c false h) _ e) (then_of (settle_fault c false h) _ e)
    spaced_or_joined of_traces most is None none e = is_spaced of_traces most is none e
    spaced_or_joined of_traces most is (Some n) some e = is_joined of_traces n most is some (first_of (settle_fault c false h) _ e) (then_of (settle_fault c false h) _ e)
    spaced_or_joined of_past most is None none e = is_spaced of_past most is none e
    spaced_or_joined of_past most is (Some n) some e = is_joined of_past n most is some (first_of (settle_fault c false h) _ e) (then_of (settle_fault c false h) _ e)

    -- what is found behind the other names fails
    module _ (more : Option Rule) (fails : long_fault c false more o h ≡ [] → ⊥) where
      by_explain : has_explain v ≡ true → (x y : Bool) → bytes_eq (codes "explain") name ≡ x → bytes_eq (codes "no-explain") name ≡ y
          → long_fault c false (explain_rule x y more) o h ≡ [] → Passes v name o
      by_explain has false false is also e = absurd (fails e)
      by_explain has false true is also e =
          let got = flag_case (codes "no-explain") o e in
          is_silence has (named name (codes "no-explain") also) got.0 got.1 got.2
      by_explain has true y is also e =
          let got = flag_case (codes "explain") o e in
          is_explain has (named name (codes "explain") is) got.0 got.1 got.2

      by_stop : has_explain v ≡ true → has_stop v ≡ true → (s x y : Bool) → bytes_eq (codes "stop-with-input") name ≡ s → bytes_eq (codes "explain") name ≡ x → bytes_eq (codes "no-explain") name ≡ y
          → long_fault c false (stop_rule s (explain_rule x y more)) o h ≡ []
          → Passes v name o
      by_stop has most false x y is also third e = by_explain has x y also third e
      by_stop has most true x y is also third e =
          let got = flag_case (codes "stop-with-input") o e in
          is_stop most (named name (codes "stop-with-input") is) got.0 got.1 got.2

      by_stuck : has_explain v ≡ true → has_stuck v ≡ true → (s x y : Bool) → bytes_eq (codes "stuck") name ≡ s → bytes_eq (codes "explain") name ≡ x → bytes_eq (codes "no-explain") name ≡ y
          → long_fault c false (stuck_rule s (explain_rule x y more)) o h ≡ []
          → Passes v name o
      by_stuck has most false x y is also third e = by_explain has x y also third e
      by_stuck has most true x y is also third e =
          let got = flag_case (codes "stuck") o e in
          is_stuck most (named name (codes "stuck") is) got.0 got.1 got.2

      by_serve : has_explain v ≡ true → has_stop v ≡ true → has_choice of_sessions v ≡ true
          → (n s x y : Bool) → bytes_eq (codes "sessions") name ≡ n → bytes_eq (codes "stop-with-input") name ≡ s → bytes_eq (codes "explain") name ≡ x → bytes_eq (codes "no-explain") name ≡ y
          → long_fault c false (cond (n || false) (Some sessions_built) (stop_rule s (explain_rule x y more))) o h ≡ []
          → Passes v name o
      by_serve has stops most false s x y is also third fourth e = by_stop has stops s x y also third fourth e
      by_serve has stops most true s x y is also third fourth e = spaced_or_joined of_sessions most (named name (codes "sessions") is) o refl e

      by_past : has_explain v ≡ true → has_stop v ≡ true → has_choice of_past v ≡ true
          → (n s x y : Bool) → bytes_eq (codes "past") name ≡ n → bytes_eq (codes "stop-with-input") name ≡ s → bytes_eq (codes "explain") name ≡ x → bytes_eq (codes "no-explain") name ≡ y
          → long_fault c false (cond (n || false) (Some past_built) (stop_rule s (explain_rule x y more))) o h ≡ []
          → Passes v name o
      by_past has stops most false s x y is also third fourth e = by_stop has stops s x y also third fourth e
      by_past has stops most true s x y is also third fourth e = spaced_or_joined of_past most (named name (codes "past") is) o refl e

      by_traces : has_explain v ≡ true → has_stop v ≡ true → has_choice of_traces v ≡ true → has_choice of_past v ≡ true
          → (m n s x y : Bool) → bytes_eq (codes "traces") name ≡ m → bytes_eq (codes "past") name ≡ n → bytes_eq (codes "stop-with-input") name ≡ s → bytes_eq (codes "explain") name ≡ x
          → bytes_eq (codes "no-explain") name ≡ y
          → long_fault c false (cond (m || false) (Some traces_built) (cond (n || false) (Some past_built) (stop_rule s (explain_rule x y more)))) o h ≡ []
          → Passes v name o
      by_traces has stops most pasts false n s x y is also third fourth fifth e = by_past has stops pasts n s x y also third fourth fifth e
      by_traces has stops most pasts true n s x y is also third fourth fifth e = spaced_or_joined of_traces most (named name (codes "traces") is) o refl e

      by_sync : has_explain v ≡ true → has_stop v ≡ true → has_choice of_sync v ≡ true → has_choice of_traces v ≡ true → has_choice of_past v ≡ true
          → (l m n s x y : Bool) → bytes_eq (codes "sync") name ≡ l → bytes_eq (codes "traces") name ≡ m → bytes_eq (codes "past") name ≡ n → bytes_eq (codes "stop-with-input") name ≡ s
          → bytes_eq (codes "explain") name ≡ x → bytes_eq (codes "no-explain") name ≡ y
          → long_fault c false (cond (l || false) (Some sync_built) (cond (m || false) (Some traces_built) (cond (n || false) (Some past_built) (stop_rule s (explain_rule x y more))))) o h ≡ []
          → Passes v name o
      by_sync has stops most kept pasts false m n s x y is also third fourth fifth sixth e = by_traces has stops kept pasts m n s x y also third fourth fifth sixth e
      by_sync has stops most kept pasts true m n s x y is also third fourth fifth sixth e = spaced_or_joined of_sync most (named name (codes "sync") is) o refl e

      by_keep : has_explain v ≡ true → has_stop v ≡ true → has_choice of_at_once v ≡ true → has_choice of_sync v ≡ true → has_choice of_traces v ≡ true → has_choice of_past v ≡ true
          → (k l m n s x y : Bool) → bytes_eq (codes "at-once") name ≡ k → bytes_eq (codes "sync") name ≡ l → bytes_eq (codes "traces") name ≡ m → bytes_eq (codes "past") name ≡ n
          → bytes_eq (codes "stop-with-input") name ≡ s → bytes_eq (codes "explain") name ≡ x → bytes_eq (codes "no-explain") name ≡ y
          → long_fault c false (cond (k || false) (Some at_once_built) (cond (l || false) (Some sync_built) (cond (m || false) (Some traces_built) (cond (n || false) (Some past_built)
          (stop_rule s (explain_rule x y more)))))) o h ≡ []
          → Passes v name o
      by_keep has stops most syncs kept pasts false l m n s x y is also third fourth fifth sixth seventh e = by_sync has stops syncs kept pasts l m n s x y also third fourth fifth sixth seventh e
      by_keep has stops most syncs kept pasts true l m n s x y is also third fourth fifth sixth seventh e = spaced_or_joined of_at_once most (named name (codes "at-once") is) o refl e

pub passes : (v : Verb) (h : Held) (name : Text) (o : Option Text) → long_fault (rules v) false (arg_by_long (rules v) name) o h ≡ [] → Passes (rules v) h v name o
passes v h name o e = go v (sym (ap (λ r. long_fault (rules v) false r o h) (long_is v name)) ∙ e)
  where
    fails : (v : Verb) → long_fault (rules v) false (shown_by name) o h ≡ [] → ⊥
    fails v e = by_shown (rules v) h v name o (bytes_eq (codes "help") name) (bytes_eq (codes "version") name) e

    go : (v : Verb) → long_fault (rules v) false (long_rule v (bytes_eq (codes "explain") name) (bytes_eq (codes "no-explain") name) (bytes_eq (codes "stop-with-input") name) (bytes_eq (codes "stuck") name) (bytes_eq (codes "sessions") name) (bytes_eq (codes "at-once") name)
        (bytes_eq (codes "sync") name) (bytes_eq (codes "traces") name) (bytes_eq (codes "past") name) (shown_by name)) o h ≡ []
        → Passes (rules v) h v name o
    go paths e = absurd (fails paths e)
    go check e = by_stuck (rules check) h check name o (shown_by name) (fails check) refl refl (bytes_eq (codes "stuck") name) (bytes_eq (codes "explain") name) (bytes_eq (codes "no-explain") name) refl refl refl e
    go run e = by_explain (rules run) h run name o (shown_by name) (fails run) refl (bytes_eq (codes "explain") name) (bytes_eq (codes "no-explain") name) refl refl e
    go audit e = by_explain (rules audit) h audit name o (shown_by name) (fails audit) refl (bytes_eq (codes "explain") name) (bytes_eq (codes "no-explain") name) refl refl e
    go attempt e = by_explain (rules attempt) h attempt name o (shown_by name) (fails attempt) refl (bytes_eq (codes "explain") name) (bytes_eq (codes "no-explain") name) refl refl e
    go serve e = by_serve (rules serve) h serve name o (shown_by name) (fails serve) refl refl refl (bytes_eq (codes "sessions") name) (bytes_eq (codes "stop-with-input") name) (bytes_eq (codes "explain") name)
        (bytes_eq (codes "no-explain") name) refl refl refl refl e
    go keep e = by_keep (rules keep) h keep name o (shown_by name) (fails keep) refl refl refl refl refl refl (bytes_eq (codes "at-once") name) (bytes_eq (codes "sync") name) (bytes_eq (codes "traces") name)
        (bytes_eq (codes "past") name) (bytes_eq (codes "stop-with-input") name) (bytes_eq (codes "explain") name) (bytes_eq (codes "no-explain") name) refl refl refl refl refl refl refl e

-- a short flag always fails
pub short_fails : (c : List Rule) (h : Held) (help version : Bool) (rest : Text) (next : Held → Faults) → short_fault c false (shown_rule help version) rest h next ≡ [] → ⊥
short_fails c h false false rest next e = some_fault _ _ e
short_fails c h false true rest next e = some_fault _ _ (then_of (settle_fault c false h) _ (first_of (react_fault c false version_built [] h) _ e))
short_fails c h true version rest next e = some_fault _ _ (then_of (settle_fault c false h) _ (first_of (react_fault c false help_built [] h) _ e))
