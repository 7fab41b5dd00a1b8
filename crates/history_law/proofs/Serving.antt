-- The bytes that a connection is written are the texts of its talk.
use Rattle.std.proofs.Common.{◌∙◌, ap, sym, subst, ℕ, List, [], ◌++◌, length}
use Rattle.keep_loop.specs.Texts.{Begins}
use Rattle.keep_loop.specs.Turns.{Turn, heard_of, said_to}
use Rattle.keep_loop.specs.declared.served.LineEnd.{LineEnd}
use Rattle.keep_loop.specs.Cuts.{IsCut}
use Rattle.keep_loop.specs.Seen.{Happened, came_from, ended_in, written_to}
use Rattle.keep_loop.proofs.Turns.{begins_twice, said_more}
use Rattle.table_core.specs.Seen.{seen}
use Rattle.table_core.specs.declared.table.Table.{Table}
use Rattle.history_law.specs.Kept.{LeavesAnswered}
use Rattle.history_law.proofs.KeptGoing.{crash_leaves_answered}
use Rattle.history_law.specs.Asker.{said_by}
use Rattle.history_law.specs.Talk.{put_together}
use Rattle.history_law.specs.Talk.Talk.{Away}
use Rattle.history_law.specs.TurnWritten.{AnswersAreWritten, AreWritten, CrashLeavesServed, HonestServesAll, IsServed}
use Rattle.history_law.proofs.OrderLists.{together_to}
use Rattle.history_law.specs.Order.{IsEmpty}
use Rattle.history_law.proofs.OrderRuns.{Over, all_away, over_all, told_once}

abbrev pub all_written : (first last : Table) (turns : List Turn) → IsEmpty (seen first) → Over [] first turns last → AreWritten first last turns
all_written first last turns empty all = record {
  told = told_once first last turns empty all;
  bytes = λ c.
      let away = all_away first empty c in
      all.bytes c (length (seen first).peers) away ∙ sym (ap put_together (all.voice c (length (seen first).peers) Away away).texts ∙ together_to c (said_by turns));
}

pub answers_are_written : AnswersAreWritten
answers_are_written first last turns runs cut held empty =
    all_written first last turns empty (over_all first last turns runs cut held empty)

-- of turns that begin with these
is_served : (first last : Table) (turns later : List Turn) (seen_so : List Happened) (c : ℕ) (w : AreWritten first last (turns ++ later)) → IsCut (ended_in c seen_so) (came_from c seen_so) (heard_of c (turns ++ later)) →
    Begins (written_to c seen_so) (said_to c turns) → IsServed c seen_so (w.told.order.each c).parts
is_served first last turns later seen_so c w heard written = record {
  heard = subst (λ (l : List (List ℕ × LineEnd)). IsCut (ended_in c seen_so) (came_from c seen_so) l) (sym (w.told.order.each c).lines) heard;
  written = subst (λ (l : List ℕ). Begins (written_to c seen_so) l) (w.bytes c) (begins_twice (written_to c seen_so) (said_to c turns) (said_to c (turns ++ later)) written (said_more c turns later));
}

pub honest_serves_all : HonestServesAll
honest_serves_all first limits seen_so honest held empty =
    let w = answers_are_written first honest.last (honest.kept_turns ++ honest.later) honest.runs (λ who. (_, _, honest.heard who)) held empty in
    record {
      turns = honest.kept_turns ++ honest.later;
      last = honest.last;
      runs = honest.runs;
      written = w;
      each = λ c. is_served first honest.last honest.kept_turns honest.later seen_so c w (honest.heard c) (honest.written c);
    }

pub crash_leaves_served : CrashLeavesServed
crash_leaves_served first limits seen_so found waits honest between held empty =
    let left : LeavesAnswered first limits seen_so found = crash_leaves_answered first limits seen_so found waits honest between in
    let s = left.left.survives in
    let w = answers_are_written first s.last (s.answered ++ s.later) s.runs (λ who. (_, _, s.heard who)) held empty in
    record { answered = left; written = w; each = λ c. is_served first s.last s.answered s.later seen_so c w (s.heard c) (s.written c) }
