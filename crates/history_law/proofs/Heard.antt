-- Which lines were heard, turn by turn.
use Rattle.std.proofs.Common.{◌≡◌, inl, inr, ◌∙◌, ap, sym, subst, refl, ℕ, zero, suc, ◌-◌, List, [], ◌∷◌, ◌++◌, append_assoc}
use Rattle.std.specs.Prelude.{Bool, true, false, ◌==◌, if◌then◌else◌, Option, Some, length, take, slice_get, slice_index}
use Rattle.std.specs.Str.Lines.{strip_carriage_return}
use Rattle.std.proofs.lemmas.Bool.Decides.{eqb_tells}
use Rattle.std.proofs.lemmas.List.Elements.{All-cons, All-head, All-nil, All-tail}
use Rattle.value_core.specs.Runs.{NoLineFeed}
use Rattle.decl_core.specs.declared.object.Object.{Object}
use Rattle.word_core.specs.Events.{Called}
use Rattle.live_core.specs.Scene.{Scene}
use Rattle.keep_loop.specs.Turns.{Turn, heard_of, line_from}
use Rattle.keep_loop.specs.Turns.Asked.{Heard}
use Rattle.keep_loop.specs.declared.served.LineEnd.{LineEnd}
use Rattle.keep_loop.specs.declared.served.LineEnd.TheVariants as ends
use Rattle.keep_loop.specs.Cuts.{IsCut}
use Rattle.client_core.specs.Deeds.{Texts}
use Rattle.client_core.specs.State.{Peer, State, who_at, who_in}
use Rattle.history_law.specs.Asker.{AreCut, HasSaid, end_of_asker}
use Rattle.history_law.specs.Awaits.{IsElementOf, Lines, SaidBy, HasOpened, HasAsked, AreHeard, Awaits}
use Rattle.history_law.proofs.Lines.{heard_map, heard_whole, said_map}
use Rattle.history_law.proofs.Lists.{in_behind, in_front}
use Rattle.history_law.proofs.AskerTurning.{IsHereAt}

-- what holds of lines that were heard holds where more were
module _ (heard more : Lines) (f : (who : ℕ) (line : List ℕ) (b : Bool) → heard who line b → more who line b) where
  opened_lines : (who : ℕ) (object : Object) → HasOpened heard who object → HasOpened more who object
  opened_lines who object o = record {
    line = o.line;
    is_whole = o.is_whole;
    is_heard = f who o.line o.is_whole o.is_heard;
    had_opened = o.had_opened;
    client = o.client;
    asks_so = o.asks_so;
  }

  pub asked_lines : (who : ℕ) (object : Object) (call : Called) → HasAsked heard who object call → HasAsked more who object call
  asked_lines who object call a = record {
    opened = opened_lines who object a.opened;
    line = a.line;
    is_heard = f who a.line true a.is_heard;
    key = a.key;
    arguments = a.arguments;
    asks_so = a.asks_so;
    arguments_are = a.arguments_are;
  }

  pub awaits_lines : (past : Texts) (objects : List Scene) (peers : List Peer) → Awaits heard past objects peers → Awaits more past objects peers
  awaits_lines past objects peers a = record {
    held = a.held;
    alone = a.alone;
    seated = λ place p there.
        let s = a.seated place p there in
        record {
          held = heard_map (SaidBy heard p.who) (SaidBy more p.who) p.is_cut p.held (λ line b is. said_map heard more f p.who line b is) s.held;
          opened = λ o by.
              let m = s.opened o by in
              record { here = m.here; who_is = m.who_is; object = m.object; there = m.there; asked = opened_lines m.here m.object.hall.object m.asked };
          waits = λ o by waits.
              let w = s.waits o by waits in
              record {
                here = w.here;
                who_is = w.who_is;
                object = w.object;
                there = w.there;
                call = w.call;
                is_there = w.is_there;
                session_is = w.session_is;
                told_is = w.told_is;
                asked = asked_lines w.here w.object.hall.object w.call w.asked;
                accepted = w.accepted;
              };
        };
  }

pub heard_both : (who : ℕ) (ts us : List Turn) → heard_of who (ts ++ us) ≡ heard_of who ts ++ heard_of who us
heard_both who [] us = refl
heard_both who (t ∷ ts) us =
    ap (λ (l : List (List ℕ × LineEnd)). line_from who t.asked ++ l) (heard_both who ts us) ∙ sym (append_assoc (line_from who t.asked) (heard_of who ts) (heard_of who us))

-- what was said was said where more was
pub said_more : (ts us : List Turn) (who : ℕ) (line : List ℕ) (b : Bool) → HasSaid ts who line b → HasSaid (ts ++ us) who line b
said_more ts us who line b is = record {
  heard = is.heard;
  is_heard = subst (λ (l : List (List ℕ × LineEnd)). IsElementOf (is.heard, end_of_asker b) l) (sym (heard_both who ts us)) (in_front (is.heard, end_of_asker b) (heard_of who ts) (heard_of who us) is.is_heard);
  line_is = is.line_is;
}

own_line : (who : ℕ) (line : List ℕ) (end : LineEnd) → line_from who (Heard who line end) ≡ (line, end) ∷ []
own_line who line end =
    elim (eqb_tells who who) [ inl x ↦ ap (λ (b : Bool). if b then (line, end) ∷ [] else []) x.0 | inr x ↦ absurd (x.1 refl) ]

-- the line of a turn, behind those of the turns before
pub own_heard : (before after : List Turn) (t : Turn) (who : ℕ) (line : List ℕ) (end : LineEnd) → t.asked ≡ Heard who line end →
    heard_of who (before ++ t ∷ after) ≡ heard_of who before ++ (line, end) ∷ heard_of who after
own_heard before after t who line end is =
    heard_both who before (t ∷ after) ∙ ap (λ (l : List (List ℕ × LineEnd)). heard_of who before ++ (l ++ heard_of who after)) (ap (line_from who) is ∙ own_line who line end)

no_end : (line : List ℕ × LineEnd) (xs ys : List (List ℕ × LineEnd)) → xs ++ line ∷ ys ≡ [] → ⊥
no_end line [] ys is = cc
no_end line (x ∷ xs) ys is = cc

-- no line has an LF in it
cut_no_feed : (ended : ℕ) (came : List ℕ) (xs ys : List (List ℕ × LineEnd)) (line : List ℕ) (end : LineEnd) → IsCut ended came (xs ++ (line, end) ∷ ys) → NoLineFeed line
cut_no_feed ended came [] ys line end is = is.0
cut_no_feed ended came ((x, ends.Feed) ∷ xs) ys line end (free, (few, rest, cut, goes)) = cut_no_feed ended rest xs ys line end goes
cut_no_feed ended came ((x, ends.Input) ∷ xs) ys line end (free, (few, cut, some, none)) = absurd (no_end (line, end) xs ys none)
cut_no_feed ended came ((x, ends.TooLong) ∷ xs) ys line end (free, (many, rest, cut, none)) = absurd (no_end (line, end) xs ys none)

no_feed_input : (x y : List ℕ) → ◌≡◌ {A = List ℕ × LineEnd} (x, ends.Feed) (y, ends.Input) → ⊥
no_feed_input x y is = wrong (ap (λ (z : List ℕ × LineEnd). z.1) is)
  where
    wrong : ends.Feed ≡ ends.Input → ⊥
    wrong e = cc

-- behind a line without an LF there is none
pub cut_last : (ended : ℕ) (came : List ℕ) (xs ys : List (List ℕ × LineEnd)) (line : List ℕ) (end : LineEnd) (earlier : List ℕ) → IsCut ended came (xs ++ (line, end) ∷ ys) → IsElementOf (earlier, ends.Input) xs → ⊥
cut_last ended came [] ys line end earlier cuts is = is
cut_last ended came ((x, ends.Feed) ∷ xs) ys line end earlier (free, (few, rest, cut, goes)) (inl is) = no_feed_input x earlier is
cut_last ended came ((x, ends.Feed) ∷ xs) ys line end earlier (free, (few, rest, cut, goes)) (inr is) = cut_last ended rest xs ys line end earlier goes is
cut_last ended came ((x, ends.Input) ∷ xs) ys line end earlier (free, (few, cut, some, none)) is = no_end (line, end) xs ys none
cut_last ended came ((x, ends.TooLong) ∷ xs) ys line end earlier (free, (many, rest, cut, none)) is = no_end (line, end) xs ys none

abbrev IsNoFeed : ℕ → Type 0
IsNoFeed b = (b == 10) ≡ false

take_no_feed : (n : ℕ) (line : List ℕ) → NoLineFeed line → NoLineFeed (take n line)
take_no_feed zero [] free = free
take_no_feed zero (b ∷ line) free = All-nil IsNoFeed
take_no_feed (suc n) [] free = free
take_no_feed (suc n) (b ∷ line) free = All-cons IsNoFeed b (take n line) (All-head IsNoFeed b line free) (take_no_feed n line (All-tail IsNoFeed b line free))

strip_no_feed : (line : List ℕ) → NoLineFeed line → NoLineFeed (strip_carriage_return line)
strip_no_feed line free = by (slice_index line (length line - 1) == 13)
  where
    by : (b : Bool) → NoLineFeed (if b then take (length line - 1) line else line)
    by true = take_no_feed (length line - 1) line free
    by false = free

-- a line that is heard of one that is there, and lines that were heard of it before
pub is_here_at : (before after : List Turn) (t : Turn) (who : ℕ) (line : List ℕ) (end : LineEnd) (past : Texts) (s : State) (place : ℕ) → t.asked ≡ Heard who line end → AreCut (before ++ t ∷ after) →
    Awaits (HasSaid before) past s.objects s.peers → who_at s place ≡ Some who → IsHereAt (HasSaid (before ++ t ∷ [])) place who line end s
is_here_at before after t who line end past s place is cut a here = by end refl
  where
    cuts : (ended : ℕ) × (came : List ℕ) × IsCut ended came (heard_of who before ++ (line, end) ∷ heard_of who after)
    cuts = let c = cut who in (c.0, c.1, subst (λ (l : List (List ℕ × LineEnd)). IsCut c.0 c.1 l) (own_heard before after t who line end is) c.2)

    free : NoLineFeed (strip_carriage_return line)
    free = strip_no_feed line (cut_no_feed cuts.0 cuts.1 (heard_of who before) (heard_of who after) line end cuts.2)

    said : (b : Bool) → end ≡ end_of_asker b → HasSaid (before ++ t ∷ []) who (strip_carriage_return line) b
    said b ended = record {
      heard = line;
      is_heard = subst (λ (l : List (List ℕ × LineEnd)). IsElementOf (line, end_of_asker b) l) (sym (own_heard before [] t who line end is))
          (in_behind (line, end_of_asker b) (heard_of who before) ((line, end) ∷ []) (inl (ap (λ (e : LineEnd). (line, e)) ended)));
      line_is = refl;
    }

    whole : (earlier : List ℕ) (b : Bool) → HasSaid before who earlier b → HasSaid (before ++ t ∷ []) who earlier true
    whole earlier true x = said_more before (t ∷ []) who earlier true x
    whole earlier false x = absurd (cut_last cuts.0 cuts.1 (heard_of who before) (heard_of who after) line end x.heard cuts.2 x.is_heard)

    held : (p : Peer) → slice_get s.peers place ≡ Some p → AreHeard (SaidBy (HasSaid (before ++ t ∷ [])) p.who) false p.held
    held p there =
        let who_is : p.who ≡ Some who = sym (ap who_in there) ∙ here in
        subst (λ (w : Option ℕ). AreHeard (SaidBy (HasSaid (before ++ t ∷ [])) w) false p.held) (sym who_is)
        (heard_whole (SaidBy (HasSaid before) (Some who)) (SaidBy (HasSaid (before ++ t ∷ [])) (Some who)) p.is_cut p.held whole
        (subst (λ (w : Option ℕ). AreHeard (SaidBy (HasSaid before) w) p.is_cut p.held) who_is (a.seated place p there).held))

    by : (e : LineEnd) → end ≡ e → IsHereAt (HasSaid (before ++ t ∷ [])) place who line e s
    by ends.Feed ended = record { here = here; is_heard = said true ended; no_feed = free; before = held }
    by ends.Input ended = record { here = here; is_heard = said false ended; no_feed = free; before = held }
    by ends.TooLong ended = tt
