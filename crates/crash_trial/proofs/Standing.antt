-- One call behind the other.
use Rattle.std.proofs.Common.{◌≡◌, ◌∙◌, ap, sym, subst, refl, ℕ, List, [], ◌∷◌, Result, Ok, Err, IfOk}
use Rattle.std.specs.declared.alloc.AllocError.{AllocError}
use Rattle.crash_trial.specs.declared.device.Happened.{Happened}
use Rattle.crash_trial.specs.declared.device.Happened.TheVariants.{Wrote, Stored, Replaced, Refused}
use Rattle.crash_trial.specs.declared.judge.Standing.{Standing}
use Rattle.crash_trial.specs.declared.judge.CrashOutcome.{CrashOutcome}
use Rattle.crash_trial.specs.declared.judge.CrashOutcome.TheVariants.{Right, Wrong}
use Rattle.crash_trial.specs.Kept.{Leaves}
use Rattle.crash_trial.specs.Standings.{lines_behind, stored_behind, begun_behind, Follows, StandsBehind, IsFileOf, IsJudged}

lines_then : (text : List ℕ) (c : Happened) (rest : List Happened) → lines_behind text (c ∷ rest) ≡ lines_behind (lines_behind text (c ∷ [])) rest
lines_then text (Wrote at bytes) rest = refl
lines_then text Stored rest = refl
lines_then text (Replaced bytes) rest = refl
lines_then text Refused rest = refl

stored_then : (stored : ℕ) (text : List ℕ) (c : Happened) (rest : List Happened) →
    stored_behind stored text (c ∷ rest) ≡ stored_behind (stored_behind stored text (c ∷ [])) (lines_behind text (c ∷ [])) rest
stored_then stored text (Wrote at bytes) rest = refl
stored_then stored text Stored rest = refl
stored_then stored text (Replaced bytes) rest = refl
stored_then stored text Refused rest = refl

begun_then : (begun : ℕ) (c : Happened) (rest : List Happened) → begun_behind begun (c ∷ rest) ≡ begun_behind (begun_behind begun (c ∷ [])) rest
begun_then begun (Wrote at bytes) rest = refl
begun_then begun Stored rest = refl
begun_then begun (Replaced bytes) rest = refl
begun_then begun Refused rest = refl

pub follows_then : (c : Happened) (rest : List Happened) (old mid new : Standing) → Follows (c ∷ []) old mid → Follows rest mid new → Follows (c ∷ rest) old new
follows_then c rest old mid new one more = record {
  text = more.text ∙ ap (λ t. lines_behind t rest) one.text ∙ sym (lines_then old.text.items c rest);
  stored = more.stored ∙ ap (λ n. stored_behind n mid.text.items rest) one.stored
      ∙ ap (λ t. stored_behind (stored_behind old.stored old.text.items (c ∷ [])) t rest) one.text ∙ sym (stored_then old.stored old.text.items c rest);
  epochs = more.epochs ∙ ap (λ n. begun_behind n rest) one.epochs ∙ sym (begun_then old.epochs c rest);
}

pub follows_none : (old : Standing) → Follows [] old old
follows_none old = record { text = refl; stored = refl; epochs = refl }

pub stands : (happened : List Happened) (old new : Standing) → old.text.items ≡ [] → old.stored ≡ 0 → old.epochs ≡ 0 → Follows happened old new → StandsBehind happened new
stands happened old new text stored epochs is = record {
  text = is.text ∙ ap (λ t. lines_behind t happened) text;
  stored = is.stored ∙ ap (λ n. stored_behind n old.text.items happened) stored ∙ ap (λ t. stored_behind 0 t happened) text;
  epochs = is.epochs ∙ ap (λ n. begun_behind n happened) epochs;
}

-- the file that a crash left is judged
judged : (file : List ℕ) (happened : List Happened) (left : List ℕ) (standing : Standing) (outcome : CrashOutcome) → Leaves file file happened left →
    StandsBehind happened standing → IsFileOf standing left outcome → IsJudged file happened outcome
judged file happened left standing (Right found) leaves behind is = (left, standing, leaves, behind, is)
judged file happened left standing (Wrong why) leaves behind is = tt

pub judged_or : (file : List ℕ) (happened : List Happened) (left x : List ℕ) (standing : Standing) (r : Result CrashOutcome AllocError) →
    Leaves file file happened left → StandsBehind happened standing → x ≡ left → IfOk r (IsFileOf standing x) → IfOk r (IsJudged file happened)
judged_or file happened left x standing (Ok outcome) leaves behind one is = judged file happened left standing outcome leaves behind (subst (λ f. IsFileOf standing f outcome) one is)
judged_or file happened left x standing (Err e) leaves behind one is = tt
