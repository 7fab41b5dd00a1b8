-- What each waiting call may still end, behind the end of one.
use Rattle.std.proofs.Common.{◌≡◌, ◌≢◌, ◌⊎◌, inl, inr, ◌∙◌, ap, sym, subst, refl, arith, ℕ, zero, suc, ◌+◌, ◌-◌, ◌<◌, List, [], ◌∷◌, ◌++◌}
use Rattle.std.specs.Prelude.{false, Option, Some, None, All, slice_get, take, drop}
use Rattle.std.proofs.lemmas.Bool.{cases_lt, cases_eq}
use Rattle.std.proofs.lemmas.Option.{slice_get_within, get_or_from_slice_get, same_Some}
use Rattle.value_core.specs.declared.datum.Datum.{Datum}
use Rattle.decl_core.specs.ObjectForm.{ObjectForm}
use Rattle.apply_core.specs.declared.reply.Reply.{Reply}
use Rattle.apply_core.specs.declared.reply.Reply.TheVariants.{Done, Refused, Failed}
use Rattle.word_core.specs.Events.{Called, Happened, began, ended}
use Rattle.live_core.specs.declared.call.Ran.{Ran}
use Rattle.live_core.specs.Hall.{Every, EachPair, Told}
use Rattle.live_core.specs.Settles.{Settles, rests, runs}
use Rattle.decl_core.specs.HoldForm.{HoldForm}
use Rattle.guest_core.specs.declared.hold_ends.HoldEnds.TheVariants.{ByDone}
use Rattle.guest_core.proofs.Given.{may_so}
use Rattle.guest_core.specs.Held.{HeldCall, Fits, NoneOwn, NoneFits, IsEnded, GivesOne, GivesBy, Gives, ended_so, hold_ended, hold_of_op, begun_by, begun, is_loose, AreHeld, at_first, at_begin, at_end, HoldsOwn, MayUndoBy, MayUndo}
use Rattle.live_core.specs.Scene.{Scene, told_of}
use Rattle.client_core.specs.Custody.{HeldBehindAll, as_told}
use Rattle.history_law.specs.Keeps.{Keeps}

-- lists

pub at_place : (P : HeldCall → Type 0) (xs : List HeldCall) (k : ℕ) (x : HeldCall) → slice_get xs k ≡ Some x → All P xs → P x
at_place P xs k x e all = subst P (get_or_from_slice_get xs k x x e) (all k x (slice_get_within xs k x e))

behind_get : (xs : List HeldCall) (n j : ℕ) → slice_get (drop n xs) j ≡ slice_get xs (n + j)
behind_get xs zero j = ap (slice_get xs) (omega arith)
behind_get [] (suc n) j = refl
behind_get (x ∷ xs) (suc n) j =
    let more : suc n + j ≡ suc (n + j) = omega arith in
    behind_get xs n j ∙ ap (slice_get (x ∷ xs)) (sym more)

at_behind : (xs : List HeldCall) (n j k : ℕ) (x : HeldCall) → k ≡ n + j → slice_get xs k ≡ Some x → slice_get (drop n xs) j ≡ Some x
at_behind xs n j k x e is = behind_get xs n j ∙ ap (slice_get xs) (sym e) ∙ is

before_get : (xs : List HeldCall) (n k : ℕ) (x : HeldCall) → k < n → slice_get xs k ≡ Some x → slice_get (take n xs) k ≡ Some x
before_get [] n k x less is = absurd (grind (arith, is))
before_get (y ∷ xs) zero k x less is = absurd (omega (arith, less))
before_get (y ∷ xs) (suc n) zero x less is = is
before_get (y ∷ xs) (suc n) (suc k) x less is = before_get xs n k x (omega (arith, less)) is

-- what is not the one that is taken out stays
kept_at : (xs : List HeldCall) (k n p : ℕ) (x : HeldCall) → n ≡ k + 1 → (p ≡ k → ⊥) → slice_get xs p ≡ Some x → (q : ℕ) × (slice_get (take k xs ++ drop n xs) q ≡ Some x)
kept_at [] k n p x same ne is = absurd (grind (arith, is))
kept_at (y ∷ xs) zero n zero x same ne is = absurd (ne refl)
kept_at (y ∷ xs) zero n (suc p) x same ne is =
    let one : n ≡ 1 = omega (arith, same) in
    (p, subst (λ m. slice_get (drop m (y ∷ xs)) p ≡ Some x) (sym one) is)
kept_at (y ∷ xs) (suc k) n zero x same ne is = (zero, is)
kept_at (y ∷ xs) (suc k) n (suc p) x same ne is =
    let more : n ≡ suc (k + 1) = omega (arith, same) in
    let at = kept_at xs k (k + 1) p x refl (λ e. ne (ap suc e)) is in
    (suc at.0, subst (λ m. slice_get (y ∷ (take k xs ++ drop m (y ∷ xs))) (suc at.0) ≡ Some x) (sym more) at.1)

get_front : (xs ys : List HeldCall) (k : ℕ) (x : HeldCall) → slice_get xs k ≡ Some x → slice_get (xs ++ ys) k ≡ Some x
get_front [] ys k x is = absurd (grind (arith, is))
get_front (y ∷ xs) ys zero x is = is
get_front (y ∷ xs) ys (suc k) x is = get_front xs ys k x is

every_map : {X : Type 0} (P Q : X → Type 0) → ((x : X) → P x → Q x) → (xs : List X) → Every P xs → Every Q xs
every_map P Q f [] all = tt
every_map P Q f (x ∷ xs) all = (f x all.0, every_map P Q f xs all.1)

every_two : {X : Type 0} (P Q R : X → Type 0) → ((x : X) → P x → Q x → R x) → (xs : List X) → Every P xs → Every Q xs → Every R xs
every_two P Q R f [] ps qs = tt
every_two P Q R f (x ∷ xs) ps qs = (f x ps.0 qs.0, every_two P Q R f xs ps.1 qs.1)

pub every_both : {X : Type 0} (P : X → Type 0) (xs ys : List X) → Every P xs → Every P ys → Every P (xs ++ ys)
every_both P [] ys all more = more
every_both P (x ∷ xs) ys all more = (all.0, every_both P xs ys all.1 more)

every_take : {X : Type 0} (P : X → Type 0) (n : ℕ) (xs : List X) → Every P xs → Every P (take n xs)
every_take P zero xs all = tt
every_take P (suc n) [] all = tt
every_take P (suc n) (x ∷ xs) all = (all.0, every_take P n xs all.1)

every_drop : {X : Type 0} (P : X → Type 0) (n : ℕ) (xs : List X) → Every P xs → Every P (drop n xs)
every_drop P zero xs all = all
every_drop P (suc n) [] all = tt
every_drop P (suc n) (x ∷ xs) all = every_drop P n xs all.1

-- one of some, and the others
pub every_here : {X : Type 0} (P : X → Type 0) (front behind : List X) (x : X) → Every P (front ++ x ∷ behind) → P x
every_here P [] behind x all = all.0
every_here P (y ∷ front) behind x all = every_here P front behind x all.1

every_without : {X : Type 0} (P : X → Type 0) (front behind : List X) (x : X) → Every P (front ++ x ∷ behind) → Every P (front ++ behind)
every_without P [] behind x all = all.1
every_without P (y ∷ front) behind x all = (all.0, every_without P front behind x all.1)

pub every_get : {X : Type 0} (P : X → Type 0) (xs : List X) (k : ℕ) (x : X) → Every P xs → slice_get xs k ≡ Some x → P x
every_get P [] k x all is = absurd (grind (arith, is))
every_get P (y ∷ xs) zero x all is = subst P (same_Some y x is) all.0
every_get P (y ∷ xs) (suc k) x all is = every_get P xs k x all.1 is

-- no two have one session
abbrev pub AreOfOwn : List Called → Type 0
AreOfOwn waiting = EachPair (λ (c d : Called). c.session ≢ d.session) waiting

own_without : (front behind : List Called) (c : Called) → AreOfOwn (front ++ c ∷ behind) → AreOfOwn (front ++ behind)
own_without [] behind c each = each.1
own_without (x ∷ front) behind c each = (every_without (λ (d : Called). x.session ≢ d.session) front behind c each.0, own_without front behind c each.1)

others_of : (front behind : List Called) (c : Called) → AreOfOwn (front ++ c ∷ behind) → Every (λ (d : Called). d.session ≢ c.session) (front ++ behind)
others_of [] behind c each = every_map (λ (d : Called). c.session ≢ d.session) (λ (d : Called). d.session ≢ c.session) (λ d other same. other (sym same)) behind each.0
others_of (x ∷ front) behind c each = (every_here (λ (d : Called). x.session ≢ d.session) front behind c each.0, others_of front behind c each.1)

-- what a call that ends gives back is one and the same

-- the place of the one that is ended
one_place : (fits : HeldCall → Type 0) (session : ℕ) (held : List HeldCall) (k m : ℕ) → IsEnded fits session held k → IsEnded fits session held m → k < m → ⊥
one_place fits session held k m a b less = by a.first b.first
  where
    by : ((a.hold.session ≡ session) × NoneOwn fits session (drop (k + 1) held)) ⊎ (NoneOwn fits session held × NoneFits fits (take k held)) →
        ((b.hold.session ≡ session) × NoneOwn fits session (drop (m + 1) held)) ⊎ (NoneOwn fits session held × NoneFits fits (take m held)) → ⊥
    by (inl own) (inl more) =
        at_place (λ h. fits h → h.session ≢ session) (drop (k + 1) held) (m - (k + 1)) b.hold
        (at_behind held (k + 1) (m - (k + 1)) m b.hold (omega (arith, less)) b.there) own.1 b.fit more.0
    by (inl own) (inr none) = at_place (λ h. fits h → h.session ≢ session) held k a.hold a.there none.0 a.fit own.0
    by (inr none) (inl own) = at_place (λ h. fits h → h.session ≢ session) held m b.hold b.there none.0 b.fit own.0
    by (inr none) (inr more) = at_place (λ h. fits h → ⊥) (take m held) k a.hold (before_get held m k a.hold less a.there) more.1 a.fit

same_place : (fits : HeldCall → Type 0) (session : ℕ) (held : List HeldCall) (k m : ℕ) → IsEnded fits session held k → IsEnded fits session held m → k ≡ m
same_place fits session held k m a b = elim (cases_eq k m) [
  | inl e ↦ e
  | inr differ ↦ (elim (cases_lt k m) [
    | inl less ↦ absurd (one_place fits session held k m a b less)
    | inr more ↦ absurd (one_place fits session held m k b a (omega (arith, more, differ)))
  ])
]

one_given : (fits : HeldCall → Type 0) (session : ℕ) (held left other : List HeldCall) → GivesOne fits session held left → GivesOne fits session held other → left ≡ other
one_given fits session held left other (inl x) (inl y) =
    x.2 ∙ ap (λ n. take n held ++ drop (n + 1) held) (same_place fits session held x.0 y.0 x.1 y.1) ∙ sym y.2
one_given fits session held left other (inl x) (inr y) = absurd (at_place (λ h. fits h → ⊥) held x.0 x.1.hold x.1.there y.0 x.1.fit)
one_given fits session held left other (inr x) (inl y) = absurd (at_place (λ h. fits h → ⊥) held y.0 y.1.hold y.1.there x.0 y.1.fit)
one_given fits session held left other (inr x) (inr y) = x.1 ∙ sym y.1

given_by : (o : Option ℕ) (c : Called) (held left other : List HeldCall) → GivesBy o c held left → GivesBy o c held other → left ≡ other
given_by None c held left other x y = x ∙ sym y
given_by (Some r) c held left other x y = one_given (Fits r c.arguments) c.session held left other x y

-- what is held behind what happened, by what that was
abbrev HeldBy : List HoldForm → List Happened → List HeldCall → Type 0
HeldBy holds [] held = held ≡ []
HeldBy holds (began c ∷ past) held = AreHeld holds past held
HeldBy holds (ended c reply ∷ past) held =
    (was : List HeldCall) × (left : List HeldCall) × AreHeld holds past was × Gives ByDone holds c reply was left × (held ≡ left ++ begun holds c reply)

inverted : (holds : List HoldForm) (past : List Happened) (held : List HeldCall) → AreHeld holds past held → HeldBy holds past held
inverted holds past held at_first = refl
inverted holds past held (at_begin are) = are
inverted holds past held (at_end was left are gives) = (was, left, are, gives, refl)

-- what happened has left one and the same
pub held_once : (holds : List HoldForm) (past : List Happened) (a b : List HeldCall) → AreHeld holds past a → AreHeld holds past b → a ≡ b
held_once holds [] a b one two = inverted holds [] a one ∙ sym (inverted holds [] b two)
held_once holds (began c ∷ past) a b one two = held_once holds past a b (inverted holds (began c ∷ past) a one) (inverted holds (began c ∷ past) b two)
held_once holds (ended c reply ∷ past) a b one two =
    let x = inverted holds (ended c reply ∷ past) a one in
    let y = inverted holds (ended c reply ∷ past) b two in
    let same : x.0 ≡ y.0 = held_once holds past x.0 y.0 x.2 y.2 in
    let left : x.1 ≡ y.1 = given_by (ended_so ByDone reply (hold_ended holds c.operation)) c y.0 x.1 y.1 (subst (λ (l : List HeldCall). Gives ByDone holds c reply l x.1) same x.3) y.3 in
    x.4 ∙ ap (λ (l : List HeldCall). l ++ begun holds c reply) left ∙ sym y.4

-- what others hold that not everybody may give back stays

own_by : (holds : List HoldForm) (q : ℕ) (c : Called) (held left : List HeldCall) → MayUndoBy holds (Some q) c.session c.arguments held → GivesOne (Fits q c.arguments) c.session held left →
    (r session : ℕ) (arguments : List Datum) → is_loose holds r ≡ false → session ≢ c.session → HoldsOwn r session arguments held → HoldsOwn r session arguments left
own_by holds q c held left may (inr same) r session arguments strict other own = subst (λ (l : List HeldCall). HoldsOwn r session arguments l) (sym same.1) own
own_by holds q c held left may (inl x) r session arguments strict other own =
    let at = kept_at held x.0 (x.0 + 1) own.place own.hold refl not_ended own.there in
    record {
      place = at.0;
      hold = own.hold;
      there = ap (λ (l : List HeldCall). slice_get l at.0) x.2 ∙ at.1;
      fit = own.fit;
      own = own.own;
    }
  where
    not_ended : own.place ≡ x.0 → ⊥
    not_ended same = by x.1.first
      where
        hold_is : own.hold ≡ x.1.hold
        hold_is = same_Some own.hold x.1.hold (sym own.there ∙ ap (slice_get held) same ∙ x.1.there)

        rule_is : q ≡ r
        rule_is = sym x.1.fit.rule ∙ ap (λ (h : HeldCall). h.rule) (sym hold_is) ∙ own.fit.rule

        by : ((x.1.hold.session ≡ c.session) × NoneOwn (Fits q c.arguments) c.session (drop (x.0 + 1) held))
            ⊎ (NoneOwn (Fits q c.arguments) c.session held × NoneFits (Fits q c.arguments) (take x.0 held)) → ⊥
        by (inl mine) = other (sym own.own ∙ ap (λ (h : HeldCall). h.session) hold_is ∙ mine.0)
        by (inr none) =
            let has = may (ap (is_loose holds) rule_is ∙ strict) in
            at_place (λ h. Fits q c.arguments h → h.session ≢ c.session) held has.place has.hold has.there none.0 has.fit has.own

own_stays : (holds : List HoldForm) (e : Option ℕ) (c : Called) (held left : List HeldCall) → MayUndoBy holds e c.session c.arguments held → GivesBy e c held left →
    (r session : ℕ) (arguments : List Datum) → is_loose holds r ≡ false → session ≢ c.session → HoldsOwn r session arguments held → HoldsOwn r session arguments left
own_stays holds None c held left may same r session arguments strict other own = subst (λ (l : List HeldCall). HoldsOwn r session arguments l) (sym same) own
own_stays holds (Some q) c held left may gives r session arguments strict other own = own_by holds q c held left may gives r session arguments strict other own

-- and behind what a call holds from its end on
may_stay : (holds : List HoldForm) (c : Called) (reply : Reply) (held left more : List HeldCall) → MayUndo holds c.session c.operation c.arguments held → Gives ByDone holds c reply held left →
    (e : Option ℕ) (session : ℕ) (arguments : List Datum) → session ≢ c.session → MayUndoBy holds e session arguments held → MayUndoBy holds e session arguments (left ++ more)
may_stay holds c reply held left more may gives None session arguments other has = tt
may_stay holds c reply held left more may gives (Some r) session arguments other has = λ strict.
    let own = own_stays holds (ended_so ByDone reply (hold_ended holds c.operation)) c held left (may_so ByDone holds reply (hold_ended holds c.operation) c.session c.arguments held may) gives r session arguments strict other (has strict) in
    record { place = own.place; hold = own.hold; there = get_front left more own.place own.hold own.there; fit = own.fit; own = own.own }

-- no session of what is held has the number 0
left_seated : (e : Option ℕ) (c : Called) (held left : List HeldCall) → GivesBy e c held left → Every (λ (h : HeldCall). h.session ≢ 0) held → Every (λ (h : HeldCall). h.session ≢ 0) left
left_seated None c held left same all = subst (Every (λ (h : HeldCall). h.session ≢ 0)) (sym same) all
left_seated (Some r) c held left (inr same) all = subst (Every (λ (h : HeldCall). h.session ≢ 0)) (sym same.1) all
left_seated (Some r) c held left (inl x) all =
    subst (Every (λ (h : HeldCall). h.session ≢ 0)) (sym x.2)
    (every_both (λ (h : HeldCall). h.session ≢ 0) (take x.0 held) (drop (x.0 + 1) held) (every_take (λ (h : HeldCall). h.session ≢ 0) x.0 held all)
    (every_drop (λ (h : HeldCall). h.session ≢ 0) (x.0 + 1) held all))

begun_seated : (e : Option ℕ) (c : Called) (reply : Reply) → c.session ≢ 0 → Every (λ (h : HeldCall). h.session ≢ 0) (begun_by e c reply)
begun_seated None c reply is = tt
begun_seated (Some r) c (Done d) is = (is, tt)
begun_seated (Some r) c (Refused word) is = tt
begun_seated (Some r) c (Failed failure) is = tt

-- one call ended, with this number that was told of it
one_keeps : (holds : List HoldForm) (front behind : List Called) (c : Called) (told : ℕ) (reply : Reply) (past : List Happened) (held new left : List HeldCall) →
    AreOfOwn (front ++ c ∷ behind) → Keeps holds (front ++ c ∷ behind) past held → Gives ByDone holds (record c { number = told }) reply held left → new ≡ left ++ begun holds (record c { number = told }) reply →
    Keeps holds (front ++ behind) (ended (record c { number = told }) reply ∷ past) new
one_keeps holds front behind c told reply past held new left each k gives is =
    let t : Called = record c { number = told } in
    let may : MayUndo holds c.session c.operation c.arguments held = every_here (λ (d : Called). MayUndo holds d.session d.operation d.arguments held) front behind c k.may in
    let more : List HeldCall = begun holds t reply in
    record {
      are = subst (λ (l : List HeldCall). AreHeld holds (ended t reply ∷ past) l) (sym is) (at_end held left k.are gives);
      kept = (k.kept, λ other are. subst (λ (l : List HeldCall). MayUndo holds c.session c.operation c.arguments l) (held_once holds past held other k.are are) may);
      may = subst (λ (l : List HeldCall). Every (λ (d : Called). MayUndo holds d.session d.operation d.arguments l) (front ++ behind)) (sym is)
          (every_two (λ (d : Called). MayUndo holds d.session d.operation d.arguments held) (λ (d : Called). d.session ≢ c.session)
          (λ (d : Called). MayUndo holds d.session d.operation d.arguments (left ++ more))
          (λ d has other. may_stay holds t reply held left more may gives (hold_ended holds d.operation) d.session d.arguments other has) (front ++ behind)
          (every_without (λ (d : Called). MayUndo holds d.session d.operation d.arguments held) front behind c k.may) (others_of front behind c each));
      waits = every_without (λ (d : Called). d.session ≢ 0) front behind c k.waits;
      seated = subst (Every (λ (h : HeldCall). h.session ≢ 0)) (sym is)
          (every_both (λ (h : HeldCall). h.session ≢ 0) left more (left_seated (ended_so ByDone reply (hold_ended holds c.operation)) t held left gives k.seated)
          (begun_seated (hold_of_op holds c.operation) t reply (every_here (λ (d : Called). d.session ≢ 0) front behind c k.waits)));
    }

-- the ends of calls that ran, each with the number that was told of it, behind what had happened
abbrev pub ran_ends : Scene → List Ran → List Happened → List Happened
ran_ends object [] past = past
ran_ends object (r ∷ ran) past = ran_ends object ran (ended (as_told object r.call) r.reply ∷ past)

-- all calls of a step ended
pub all_keep : (holds : List HoldForm) (o : ObjectForm) (t : Told) (waiting left : List Called) (ran : List Ran) (object : Scene) (past : List Happened) (held now : List HeldCall) →
    Settles o t waiting ran left → AreOfOwn waiting → Keeps holds waiting past held → HeldBehindAll holds object ran held now → Keeps holds left (ran_ends object ran past) now
all_keep holds o t waiting left ran object past held now (rests none) each k same = subst (λ (l : List HeldCall). Keeps holds waiting past l) (sym same) k
all_keep holds o t waiting left ran object past held now (runs front behind r more first reply fails later) each k (mid, (gave, gives, is), on) =
    all_keep holds o _ (front ++ behind) left more object (ended (as_told object r.call) r.reply ∷ past) mid now later (own_without front behind r.call each)
    (one_keeps holds front behind r.call (told_of object r.call.number) r.reply past held mid gave each k gives is) on

-- a call more waits
pub joined_own : (waiting : List Called) (c : Called) → AreOfOwn waiting → Every (λ (d : Called). d.session ≢ c.session) waiting → AreOfOwn (waiting ++ c ∷ [])
joined_own [] c each free = (tt, tt)
joined_own (x ∷ waiting) c each free =
    (every_both (λ (d : Called). x.session ≢ d.session) waiting (c ∷ []) each.0 (free.0, tt), joined_own waiting c each.1 free.1)

pub joined_keeps : (holds : List HoldForm) (waiting : List Called) (c : Called) (past : List Happened) (held : List HeldCall) → Keeps holds waiting past held →
    MayUndo holds c.session c.operation c.arguments held → c.session ≢ 0 → Keeps holds (waiting ++ c ∷ []) past held
joined_keeps holds waiting c past held k may is = record {
  are = k.are;
  kept = k.kept;
  may = every_both (λ (d : Called). MayUndo holds d.session d.operation d.arguments held) waiting (c ∷ []) k.may (may, tt);
  waits = every_both (λ (d : Called). d.session ≢ 0) waiting (c ∷ []) k.waits (is, tt);
  seated = k.seated;
}

-- one waits no more
pub less_keeps : (holds : List HoldForm) (front behind : List Called) (c : Called) (past : List Happened) (held : List HeldCall) → Keeps holds (front ++ c ∷ behind) past held →
    Keeps holds (front ++ behind) past held
less_keeps holds front behind c past held k = record {
  are = k.are;
  kept = k.kept;
  may = every_without (λ (d : Called). MayUndo holds d.session d.operation d.arguments held) front behind c k.may;
  waits = every_without (λ (d : Called). d.session ≢ 0) front behind c k.waits;
  seated = k.seated;
}
