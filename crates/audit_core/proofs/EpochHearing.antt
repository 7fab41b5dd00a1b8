-- Lines that have no place.
use Rattle.std.proofs.Common.{◌≡◌, ℕ, ◌<◌, List, sym, subst}
use Rattle.std.specs.Prelude.{None}
use Rattle.path_tree.specs.Identifier.{IsIdentifier}
use Rattle.path_count.specs.Stands.{started_calls}
use Rattle.decl_core.specs.ObjectForm.{ObjectForm}
use Rattle.word_core.specs.Events.{Called}
use Rattle.audit_core.specs.EpochSaid.{Said, Says, Asked, a_start, an_end, a_cancel, a_name}
use Rattle.audit_core.specs.Steps.{Begun, Heard, trace_by}
use Rattle.audit_core.specs.EpochTells.{Tells, start_told, end_told, cancel_told, name_told, IsCall, IsSession}
use Rattle.audit_core.specs.Sound.{IsBad}
use Rattle.audit_core.proofs.EpochSaying.{says_once}

module _ (o : ObjectForm) (e : Begun) (heard : Heard) (line : List ℕ) where
  unsaid : ((said : Said) → Says line said → ⊥) → (after : Heard) → Tells o e heard line after → ⊥
  unsaid none after (start_told {asked = a} says is few) = none (a_start a) says
  unsaid none after (end_told {number = n} {reply = r} says runs same) = none (an_end n r) says
  unsaid none after (cancel_told {asked = a} says is) = none (a_cancel a) says
  unsaid none after (name_told {session = s} {client = c} says rests is spelled) = none (a_name s c) says

  -- a line that says nothing has no place
  pub unsaid_bad : ((said : Said) → Says line said → ⊥) → IsBad o e heard line
  unsaid_bad none = record { untold = unsaid none; unended = λ s. none (an_end s.number s.reply) s.says }

  start_only : (asked : Asked) → Says line (a_start asked) → ((call : Called) → IsCall o e heard asked call → started_calls (trace_by e heard.steps) < 65536 → ⊥) →
      (after : Heard) → Tells o e heard line after → ⊥
  start_only asked says none after (start_told {asked = a} {call = c} says' is few) =
      let same = says_once line (a_start asked) (a_start a) says says' in
      let one : asked ≡ a = cc in none c (subst (λ x. IsCall o e heard x c) (sym one) is) few
  start_only asked says none after (end_told {number = n} {reply = r} says' runs same) = let e' = says_once line (a_start asked) (an_end n r) says says' in cc
  start_only asked says none after (cancel_told {asked = a} says' is) = let e' = says_once line (a_start asked) (a_cancel a) says says' in cc
  start_only asked says none after (name_told {session = s} {client = c} says' rests is spelled) = let e' = says_once line (a_start asked) (a_name s c) says says' in cc

  pub start_bad : (asked : Asked) → Says line (a_start asked) → ((call : Called) → IsCall o e heard asked call → started_calls (trace_by e heard.steps) < 65536 → ⊥) → IsBad o e heard line
  start_bad asked says none = record {
    untold = start_only asked says none;
    unended = λ s. (let e' = says_once line (a_start asked) (an_end s.number s.reply) says s.says in cc);
  }

  cancel_only : (asked : Asked) → Says line (a_cancel asked) → ((call : Called) → IsCall o e heard asked call → ⊥) → (after : Heard) → Tells o e heard line after → ⊥
  cancel_only asked says none after (cancel_told {asked = a} {call = c} says' is) =
      let same = says_once line (a_cancel asked) (a_cancel a) says says' in
      let one : asked ≡ a = cc in none c (subst (λ x. IsCall o e heard x c) (sym one) is)
  cancel_only asked says none after (start_told {asked = a} says' is few) = let e' = says_once line (a_cancel asked) (a_start a) says says' in cc
  cancel_only asked says none after (end_told {number = n} {reply = r} says' runs same) = let e' = says_once line (a_cancel asked) (an_end n r) says says' in cc
  cancel_only asked says none after (name_told {session = s} {client = c} says' rests is spelled) = let e' = says_once line (a_cancel asked) (a_name s c) says says' in cc

  pub cancel_bad : (asked : Asked) → Says line (a_cancel asked) → ((call : Called) → IsCall o e heard asked call → ⊥) → IsBad o e heard line
  cancel_bad asked says none = record {
    untold = cancel_only asked says none;
    unended = λ s. (let e' = says_once line (a_cancel asked) (an_end s.number s.reply) says s.says in cc);
  }

  name_only : (session : ℕ) (client : List ℕ) → Says line (a_name session client) → (heard.running ≡ None → IsSession session → IsIdentifier client → ⊥) → (after : Heard) → Tells o e heard line after → ⊥
  name_only session client says none after (name_told {session = s} {client = c} says' rests is spelled) =
      let same = says_once line (a_name session client) (a_name s c) says says' in
      let one : session ≡ s = cc in let two : client ≡ c = cc in none rests (subst IsSession (sym one) is) (subst IsIdentifier (sym two) spelled)
  name_only session client says none after (start_told {asked = a} says' is few) = let e' = says_once line (a_name session client) (a_start a) says says' in cc
  name_only session client says none after (end_told {number = n} {reply = r} says' runs same) = let e' = says_once line (a_name session client) (an_end n r) says says' in cc
  name_only session client says none after (cancel_told {asked = a} says' is) = let e' = says_once line (a_name session client) (a_cancel a) says says' in cc

  pub name_bad : (session : ℕ) (client : List ℕ) → Says line (a_name session client) → (heard.running ≡ None → IsSession session → IsIdentifier client → ⊥) → IsBad o e heard line
  name_bad session client says none = record {
    untold = name_only session client says none;
    unended = λ s. (let e' = says_once line (a_name session client) (an_end s.number s.reply) says s.says in cc);
  }
