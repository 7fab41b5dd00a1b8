-- Parts of talks, and what is told of lists of texts.
use Rattle.std.proofs.Common.{◌≡◌, ◌⊎◌, inl, inr, ◌∙◌, ap, sym, subst, refl, ℕ, List, [], ◌∷◌, ◌++◌, append_assoc}
use Rattle.std.specs.Prelude.{Bool, true, false, ◌==◌, if◌then◌else◌, Option, Some, None, map, slice_get}
use Rattle.std.proofs.lemmas.Bool.Decides.{eqb_tells}
use Rattle.std.proofs.lemmas.List.{append-nil}
use Rattle.apply_core.specs.History.{End}
use Rattle.decl_core.specs.ObjectForm.{ObjectForm}
use Rattle.word_core.specs.Events.{Called, end_of, history_of}
use Rattle.live_core.specs.declared.call.Ran.{Ran}
use Rattle.audit_core.specs.Steps.{Step, happened_of, ran, cancelled, named}
use Rattle.live_core.specs.Scene.{Scene}
use Rattle.history_law.specs.Happens.{with_ran}
use Rattle.keep_loop.specs.Texts.{to}
use Rattle.keep_loop.specs.declared.served.LineEnd.{LineEnd}
use Rattle.client_core.specs.Deeds.{Texts}
use Rattle.client_core.specs.State.{Peer, one_text, told_to, who_in}
use Rattle.history_law.specs.Talk.{Talk, Part, Wanted, Course, line_in, lines_of, text_of_part, texts_of, end_in, ends_of, IsWanted, IsKept, AllKept, ArePicked, put_together, texts_to}
use Rattle.history_law.specs.Talk.Part.{Comes, Hears, Between, Answers, Accepts, Ends, Withdraws, Quits, Leaves}

pub course_both : (xs ys : List Part) (a b c : Talk) → Course xs a b → Course ys b c → Course (xs ++ ys) a c
course_both [] ys a b c is more = subst (λ (t : Talk). Course ys t c) is more
course_both (x ∷ xs) ys a b c (mid, one, is) more = (mid, one, course_both xs ys mid b c is more)

pub lines_both : (xs ys : List Part) → lines_of (xs ++ ys) ≡ lines_of xs ++ lines_of ys
lines_both [] ys = refl
lines_both (x ∷ xs) ys = ap (λ (l : List (List ℕ × LineEnd)). line_in x ++ l) (lines_both xs ys) ∙ sym (append_assoc (line_in x) (lines_of xs) (lines_of ys))

pub texts_both : (xs ys : List Part) → texts_of (xs ++ ys) ≡ texts_of xs ++ texts_of ys
texts_both [] ys = refl
texts_both (x ∷ xs) ys = ap (λ (l : List (List ℕ)). text_of_part x ++ l) (texts_both xs ys) ∙ sym (append_assoc (text_of_part x) (texts_of xs) (texts_of ys))

pub ends_both : (o : ObjectForm) (j : ℕ) (xs ys : List Part) → ends_of o j (xs ++ ys) ≡ ends_of o j xs ++ ends_of o j ys
ends_both o j [] ys = refl
ends_both o j (x ∷ xs) ys = ap (λ (l : List End). end_in o j x ++ l) (ends_both o j xs ys) ∙ sym (append_assoc (end_in o j x) (ends_of o j xs) (ends_of o j ys))

pub kept_both : (objects : List Scene) (xs ys : List Part) → AllKept objects xs → AllKept objects ys → AllKept objects (xs ++ ys)
kept_both objects [] ys all more = more
kept_both objects (x ∷ xs) ys (one, all) more = (one, kept_both objects xs ys all more)

-- what is wanted of some objects is wanted of others
abbrev pub WantedMoves : List Scene → List Scene → Type 0
WantedMoves a b = (at : ℕ) (w : Wanted) (call : Called) → IsWanted a at w call → IsWanted b at w call

kept_one : (a b : List Scene) → WantedMoves a b → (p : Part) → IsKept a p → IsKept b p
kept_one a b f Comes is = tt
kept_one a b f (Hears line end) is = tt
kept_one a b f (Between line end text) is = tt
kept_one a b f (Answers line text) is = tt
kept_one a b f (Accepts w) is = tt
kept_one a b f (Ends object w call reply) is = f object w call is
kept_one a b f (Withdraws w) is = tt
kept_one a b f (Quits line) is = tt
kept_one a b f Leaves is = tt

pub kept_map : (a b : List Scene) → WantedMoves a b → (parts : List Part) → AllKept a parts → AllKept b parts
kept_map a b f [] all = tt
kept_map a b f (p ∷ parts) (one, all) = (kept_one a b f p one, kept_map a b f parts all)

-- what is picked of a list is picked of a longer one
pub picked_behind : {X : Type 0} (xs fs bs : List X) → ArePicked xs bs → ArePicked xs (fs ++ bs)
picked_behind [] fs bs is = tt
picked_behind (x ∷ xs) [] bs is = is
picked_behind (x ∷ xs) (f ∷ fs) bs is = inr (picked_behind (x ∷ xs) fs bs is)

pub picked_both : {X : Type 0} (xs ys fs bs : List X) → ArePicked xs fs → ArePicked ys bs → ArePicked (xs ++ ys) (fs ++ bs)
picked_both [] ys fs bs is more = picked_behind ys fs bs more
picked_both (x ∷ xs) ys [] bs is more = absurd is
picked_both (x ∷ xs) ys (f ∷ fs) bs (inl (same, is)) more = inl (same, picked_both xs ys fs bs is more)
picked_both (x ∷ xs) ys (f ∷ fs) bs (inr is) more = inr (picked_both (x ∷ xs) ys fs bs is more)

-- what is picked of nothing is picked of all
pub picked_none : {X : Type 0} (xs ys : List X) → ArePicked xs [] → ArePicked xs ys
picked_none [] ys is = tt
picked_none (x ∷ xs) ys is = absurd is

pub history_both : (o : ObjectForm) (more first : List Step) → history_of o (happened_of (more ++ first)) ≡ history_of o (happened_of first) ++ history_of o (happened_of more)
history_both o [] first = sym (append-nil (history_of o (happened_of first)))
history_both o (ran c reply ∷ more) first =
    ap (λ (l : List End). l ++ end_of o c reply ∷ []) (history_both o more first)
    ∙ append_assoc (history_of o (happened_of first)) (history_of o (happened_of more)) (end_of o c reply ∷ [])
history_both o (cancelled c ∷ more) first = history_both o more first
history_both o (named session client ∷ more) first = history_both o more first

-- the ends of calls that ran, in their order
abbrev pub ran_ends : ObjectForm → List Ran → List End
ran_ends o all = map (λ (r : Ran). end_of o r.call r.reply) all

ran_behind : (o : ObjectForm) (all : List Ran) (steps : List Step) → history_of o (happened_of (with_ran all steps)) ≡ history_of o (happened_of steps) ++ ran_ends o all
ran_behind o [] steps = sym (append-nil (history_of o (happened_of steps)))
ran_behind o (r ∷ all) steps =
    ran_behind o all (ran r.call r.reply ∷ steps) ∙ append_assoc (history_of o (happened_of steps)) (end_of o r.call r.reply ∷ []) (ran_ends o all)

pub ran_history : (o : ObjectForm) (all : List Ran) → history_of o (happened_of (with_ran all [])) ≡ ran_ends o all
ran_history o all = ran_behind o all []

-- texts

pub to_both : (c : ℕ) (xs ys : Texts) → texts_to c (xs ++ ys) ≡ texts_to c xs ++ texts_to c ys
to_both c [] ys = refl
to_both c (x ∷ xs) ys =
    ap (λ (l : List (List ℕ)). (if x.0 == c then x.1 ∷ [] else []) ++ l) (to_both c xs ys)
    ∙ sym (append_assoc (if x.0 == c then x.1 ∷ [] else []) (texts_to c xs) (texts_to c ys))

-- the bytes of what is told are its texts, put together
pub together_to : (c : ℕ) (xs : Texts) → put_together (texts_to c xs) ≡ to c xs
together_to c [] = refl
together_to c (x ∷ xs) = by (x.0 == c) (together_to c xs)
  where
    by : (b : Bool) → put_together (texts_to c xs) ≡ to c xs → put_together ((if b then x.1 ∷ [] else []) ++ texts_to c xs) ≡ (if b then x.1 else []) ++ to c xs
    by true is = ap (λ (l : List ℕ). x.1 ++ l) is
    by false is = is

own_text : (c : ℕ) (text : List ℕ) → texts_to c ((c, text) ∷ []) ≡ text ∷ []
own_text c text = elim (eqb_tells c c) [ inl x ↦ ap (λ (b : Bool). (if b then text ∷ [] else []) ++ []) x.0 | inr x ↦ absurd (x.1 refl) ]

other_text : (c w : ℕ) (text : List ℕ) → (w ≡ c → ⊥) → texts_to c ((w, text) ∷ []) ≡ []
other_text c w text other = elim (eqb_tells w c) [ inl x ↦ absurd (other x.1) | inr x ↦ ap (λ (b : Bool). (if b then text ∷ [] else []) ++ []) x.0 ]

pub told_mine : (c : ℕ) (peers : List Peer) (place : ℕ) (text : List ℕ) → who_in (slice_get peers place) ≡ Some c → texts_to c (told_to peers place text) ≡ text ∷ []
told_mine c peers place text is = ap (λ (w : Option ℕ). texts_to c (one_text w text)) is ∙ own_text c text

none_of : (c : ℕ) (x : Option ℕ) (text : List ℕ) → (x ≡ Some c → ⊥) → texts_to c (one_text x text) ≡ []
none_of c None text other = refl
none_of c (Some w) text other = other_text c w text (λ e. other (ap Some e))

pub told_other : (c : ℕ) (peers : List Peer) (place : ℕ) (text : List ℕ) → (who_in (slice_get peers place) ≡ Some c → ⊥) → texts_to c (told_to peers place text) ≡ []
told_other c peers place text other = none_of c (who_in (slice_get peers place)) text other

pub is_who : (x : Option ℕ) (c : ℕ) → (x ≡ Some c) ⊎ (x ≡ Some c → ⊥)
is_who None c = inr none_some
  where
    none_some : None ≡ Some c → ⊥
    none_some e = cc
is_who (Some w) c = elim (eqb_tells w c) [ inl x ↦ inl (ap Some x.1) | inr x ↦ inr (λ e. x.1 (some_same e)) ]
  where
    some_same : Some w ≡ Some c → w ≡ c
    some_same e = cc
