-- The contents under pins.
use Rattle.std.proofs.Common.{◌≡◌, ℕ, zero, suc, ◌+◌, ◌≤◌, List, [], ◌∷◌, ◌++◌, length, Some, sym, ◌∙◌, ap, subst, arith, take, map, take_all}
use Rattle.std.specs.Prelude.{slice_get}
use Rattle.std.specs.Global.{Vec}
use Rattle.value_core.specs.declared.kind.Kind.{Kind}
use Rattle.value_core.specs.Contents.{Contents}
use Rattle.value_bytes.specs.Spelling.{Spells}
use Rattle.value_bytes.proofs.Unique.{unique}
use Rattle.device_core.specs.declared.file.File.{File}
use Rattle.device_core.specs.declared.hand.Stamp.{Stamp}
use Rattle.device_core.specs.Device.{Assignment}
use Rattle.device_core.specs.Files.{HasFiles, files_of}
use Rattle.page_core.specs.Bytes.{list_bytes}
use Rattle.device_core.proofs.Agreeing.{some_map}
use Rattle.apply_core.specs.History.{leads_to}
use Rattle.decl_core.specs.declared.object.Object.{Object}
use Rattle.decl_core.specs.declared.object.Part.{Part}
use Rattle.board_core.specs.Board.{Board}
use Rattle.board_core.specs.Chain.{Shows, history_of}
use Rattle.board_core.specs.Sound.{kinds_of}
use Rattle.world_core.specs.declared.stage.WorldTables.{WorldTables}
use Rattle.world_core.specs.Scene.{Scene}
use Rattle.world_core.specs.declared.event.EventAnswer.{EventAnswer}
use Rattle.world_core.specs.declared.event.WorldAnswer.TheVariants.{Shown, Refused}
use Rattle.world_core.specs.declared.event.EventRefusal.TheVariants.{Memory}
use Rattle.world_core.specs.Events.{look}
use Rattle.world_core.specs.Answers.{Answers, with_starts, shown, not_shown}
use Rattle.world_core.specs.Kept.{IsStaged}
use Rattle.world_core.proofs.Sequential.{contents_shown}

some_is : {X : Type 0} {x y : X} → Some x ≡ Some y → x ≡ y
some_is e = cc

-- the bytes under a pin that shows a value spell it
pub spells_it : (a : Assignment) (kind : Kind) (pin : List Stamp) (value : Contents) (bytes : List ℕ) → Shows a kind pin value → list_bytes a pin ≡ Some bytes → Spells bytes kind value
spells_it a kind pin value bytes shows are = subst (λ b. Spells b kind value) (some_is (sym shows.there ∙ are)) shows.spells

-- and no other
pub one_value : (files : List File) (kind : Kind) (pin : List Stamp) (v value : Contents) (bytes : List ℕ) → ((a : Assignment) → HasFiles files a → Shows a kind pin value)
    → ((a : Assignment) → HasFiles files a → list_bytes a pin ≡ Some bytes) → Spells bytes kind v → v ≡ value
one_value files kind pin v value bytes shows are spells =
    let some = some_map files in
    unique bytes kind kind v value spells (spells_it some.0 kind pin value bytes (shows some.0 some.1) (are some.0 some.1))

-- Some parts are shown: of the tables only the hand was used, and its files are the same.
pub record Showing (old new : WorldTables) (values : List Contents) (part : ℕ) : Type 0 where
  pub desk : new.desk ≡ old.desk
  pub files : files_of new.hand ≡ files_of old.hand
  pub runs : new.runs ≡ old.runs
  pub opening : new.opening ≡ old.opening
  pub so_far : values ≡ take part (leads_to (history_of old.desk.history) old.opening.items)

take_at : {X : Type 0} (xs : List X) (k : ℕ) (x : X) → slice_get xs k ≡ Some x → take (suc k) xs ≡ take k xs ++ x ∷ []
take_at [] k x at = absurd cc
take_at (y ∷ xs) zero x at = ap (λ z. z ∷ []) (some_is at)
take_at (y ∷ xs) (suc k) x at = ap (λ zs. y ∷ zs) (take_at xs k x at)

-- with one part more
pub one_more : (old mid new : WorldTables) (before values : List Contents) (part : ℕ) (value : Contents) → Showing old mid before part → new.desk ≡ mid.desk → files_of new.hand ≡ files_of mid.hand → new.runs ≡ mid.runs → new.opening ≡ mid.opening
    → values ≡ before ++ value ∷ [] → slice_get (leads_to (history_of old.desk.history) old.opening.items) part ≡ Some value → Showing old new values (part + 1)
one_more old mid new before values part value so desk files runs opening more at = let next : suc part ≡ part + 1 = omega arith in record {
  desk = desk ∙ so.desk;
  files = files ∙ so.files;
  runs = runs ∙ so.runs;
  opening = opening ∙ so.opening;
  so_far = more ∙ ap (λ vs. vs ++ value ∷ []) so.so_far ∙ sym (take_at (leads_to (history_of old.desk.history) old.opening.items) part value at)
      ∙ ap (λ k. take k (leads_to (history_of old.desk.history) old.opening.items)) next;
}

-- the value of a part, which its pin shows whatever assignment agrees
pub part_shown : (s : WorldTables) (k : ℕ) (kind : Kind) (pin : List Stamp) → IsStaged s → slice_get (kinds_of s.desk.object) k ≡ Some kind → slice_get s.desk.pins k ≡ Some pin
    → (value : Contents) × (slice_get (leads_to (history_of s.desk.history) s.opening.items) k ≡ Some value) × ((a : Assignment) → HasFiles (files_of s.hand) a → Shows a kind pin value)
part_shown s k kind pin staged at there = (
  first.1,
  first.3,
  λ a agrees.
      let this = (contents_shown s staged a agrees).each k kind at in
      subst (λ v. Shows a kind pin v) (some_is (sym this.3 ∙ first.3)) (subst (λ p. Shows a kind p this.1) (some_is (sym this.2 ∙ there)) this.4),
) where
  some : (a : Assignment) × HasFiles (files_of s.hand) a
  some = some_map s.hand.files.items

  first : (p : List Stamp) × (value : Contents) × (slice_get s.desk.pins k ≡ Some p) × (slice_get (leads_to (history_of s.desk.history) s.opening.items) k ≡ Some value) × Shows some.0 kind p value
  first = (contents_shown s staged some.0 some.1).each k kind at

pub kind_at : (parts : List Part) (k : ℕ) (part : Part) → slice_get parts k ≡ Some part → slice_get (map (λ (p : Part). p.kind) parts) k ≡ Some part.kind
kind_at [] k part at = absurd cc
kind_at (p ∷ parts) zero part at = ap (λ (q : Part). Some q.kind) (some_is at)
kind_at (p ∷ parts) (suc k) part at = kind_at parts k part at

-- the value that stands at the next place, which its pin shows
pub value_of : (old mid : WorldTables) (values : List Contents) (k : ℕ) (o : Object) (part : Part) (pins : List (List Stamp)) (pin : List Stamp) → IsStaged old → Showing old mid values k → o ≡ mid.desk.object → pins ≡ old.desk.pins
    → slice_get o.parts.items k ≡ Some part → slice_get pins k ≡ Some pin
    → (value : Contents) × (slice_get (leads_to (history_of old.desk.history) old.opening.items) k ≡ Some value) × ((a : Assignment) → HasFiles (files_of mid.hand) a → Shows a part.kind pin value)
value_of old mid values k o part pins pin staged so same its there stands =
    let at : slice_get (kinds_of old.desk.object) k ≡ Some part.kind =
    subst (λ (x : Object). slice_get (kinds_of x) k ≡ Some part.kind) (same ∙ ap (λ (b : Board). b.object) so.desk) (kind_at o.parts.items k part there) in
    let its_value = part_shown old k part.kind pin staged at (subst (λ ps. slice_get ps k ≡ Some pin) its stands) in
    (its_value.0, its_value.1, λ a agrees. its_value.2 a (subst (λ fs. HasFiles fs a) so.files agrees))

-- all parts are shown
pub all_shown : (old new : WorldTables) (values : List Contents) (part : ℕ) → IsStaged old → Showing old new values part → length old.desk.pins ≤ part → values ≡ leads_to (history_of old.desk.history) old.opening.items
all_shown old new values part staged so all =
    let some = some_map old.hand.files.items in
    let spelled = contents_shown old staged some.0 some.1 in
    let pins = spelled.pins_each in
    let contents = spelled.contents_each in
    so.so_far ∙ take_all part (leads_to (history_of old.desk.history) old.opening.items) (omega (arith, pins, contents, all))

-- the answer to a look
pub look_shown : (old new : Scene) (values : Vec Contents) (given : EventAnswer) → given ≡ with_starts (Shown values) 0 → new ≡ old → values.items ≡ leads_to (history_of old.board.history) old.opening → Answers old look given new
look_shown old new values given is same values_are = subst (λ g. Answers old look g new) (sym is) (subst (λ w. Answers old look (with_starts (Shown values) 0) w) (sym same) (shown values values_are))

pub look_refused : (old new : Scene) (given : EventAnswer) → given ≡ with_starts (Refused Memory) 0 → new ≡ old → Answers old look given new
look_refused old new given is same = subst (λ g. Answers old look g new) (sym is) (subst (λ w. Answers old look (with_starts (Refused Memory) 0) w) (sym same) not_shown)
