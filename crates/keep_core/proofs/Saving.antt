-- Parts that are saved one by one.
use Rattle.std.proofs.Common.{◌≡◌, ℕ, List, [], ◌∷◌, length, refl, inr}
use Rattle.std.specs.Prelude.{Result, Ok, Err, OnOk}
use Rattle.device_core.specs.Papers.{Papers, part_key}
use Rattle.value_core.specs.Contents.{Contents}
use Rattle.decl_core.specs.declared.object.Part.{Part}
use Rattle.live_core.specs.Scene.{Scene}
use Rattle.keep_core.specs.Saved.{IsSaved, MayBeSaved}
use Rattle.keep_core.specs.Ending.{AreSaved, MayAllBeSaved, ObjectsAreSaved, ObjectsMayBeSaved}

-- what holds behind a call that works
pub on_ok : {E : Type 0} (r : Result (Unit {0}) E) (P Q : Type 0) → (P → Q) → OnOk r P → OnOk r Q
on_ok (Ok u) P Q f p = f p
on_ok (Err e) P Q f p = tt

-- what a shelf that is as it was may hold
pub no_parts : (Was : Papers → Type 0) (object : List ℕ) (parts : List Part) (values : List Contents) → length parts ≡ 0 → (papers : Papers) → Was papers → (before : Papers) × Was before × AreSaved object parts values before papers
no_parts Was object [] values none papers is = (papers, is, refl)
no_parts Was object (part ∷ parts) values none papers is = absurd cc

pub no_parts_maybe : (Was : Papers → Type 0) (object : List ℕ) (parts : List Part) (values : List Contents) → length parts ≡ 0 → (papers : Papers) → Was papers → (before : Papers) × Was before × MayAllBeSaved object parts values before papers
no_parts_maybe Was object [] values none papers is = (papers, is, refl)
no_parts_maybe Was object (part ∷ parts) values none papers is = absurd cc

pub no_values : (Was : Papers → Type 0) (object : List ℕ) (parts : List Part) (values : List Contents) → length values ≡ 0 → (papers : Papers) → Was papers → (before : Papers) × Was before × MayAllBeSaved object parts values before papers
no_values Was object [] values none papers is = (papers, is, refl)
no_values Was object (part ∷ parts) [] none papers is = (papers, is, refl)
no_values Was object (part ∷ parts) (value ∷ values) none papers is = absurd cc

-- a part is saved, and then the others
pub more_saved : (Was Is End : Papers → Type 0) (object : List ℕ) (part : Part) (parts : List Part) (value : Contents) (values : List Contents) → ((papers : Papers) → Is papers → (before : Papers) × Was before × IsSaved before (part_key object part.name) value papers) → ((papers : Papers) → End papers → (before : Papers) × Is before × AreSaved object parts values before papers) → (papers : Papers) → End papers → (before : Papers) × Was before × AreSaved object (part ∷ parts) (value ∷ values) before papers
more_saved Was Is End object part parts value values one rest papers ends =
    let r = rest papers ends in
    let o = one r.0 r.1 in
    (o.0, o.1, (r.0, o.2, r.2))

pub more_maybe : (Was Is End : Papers → Type 0) (object : List ℕ) (part : Part) (parts : List Part) (value : Contents) (values : List Contents) → ((papers : Papers) → Is papers → (before : Papers) × Was before × MayBeSaved before (part_key object part.name) value papers) → ((papers : Papers) → End papers → (before : Papers) × Is before × MayAllBeSaved object parts values before papers) → (papers : Papers) → End papers → (before : Papers) × Was before × MayAllBeSaved object (part ∷ parts) (value ∷ values) before papers
more_maybe Was Is End object part parts value values one rest papers ends =
    let r = rest papers ends in
    let o = one r.0 r.1 in
    (o.0, o.1, (r.0, o.2, r.2))

-- what is saved may be saved
pub is_maybe : (Was Is : Papers → Type 0) (key : List ℕ) (value : Contents) → ((papers : Papers) → Is papers → (before : Papers) × Was before × IsSaved before key value papers) → (papers : Papers) → Is papers → (before : Papers) × Was before × MayBeSaved before key value papers
is_maybe Was Is key value one papers is =
    let o = one papers is in
    (o.0, o.1, inr o.2)

-- objects
pub no_objects : (Was : Papers → Type 0) (objects : List Scene) → length objects ≡ 0 → (papers : Papers) → Was papers → (before : Papers) × Was before × ObjectsAreSaved objects before papers
no_objects Was [] none papers is = (papers, is, refl)
no_objects Was (s ∷ rest) none papers is = absurd cc

pub no_objects_maybe : (Was : Papers → Type 0) (objects : List Scene) → length objects ≡ 0 → (papers : Papers) → Was papers → (before : Papers) × Was before × ObjectsMayBeSaved objects before papers
no_objects_maybe Was [] none papers is = (papers, is, refl)
no_objects_maybe Was (s ∷ rest) none papers is = absurd cc

pub more_objects : (Was Is End : Papers → Type 0) (s : Scene) (rest : List Scene) → ((papers : Papers) → Is papers → (before : Papers) × Was before × AreSaved s.hall.object.name s.hall.object.parts.items s.hall.contents before papers) → ((papers : Papers) → End papers → (before : Papers) × Is before × ObjectsAreSaved rest before papers) → (papers : Papers) → End papers → (before : Papers) × Was before × ObjectsAreSaved (s ∷ rest) before papers
more_objects Was Is End s rest one others papers ends =
    let r = others papers ends in
    let o = one r.0 r.1 in
    (o.0, o.1, (r.0, o.2, r.2))

pub more_objects_maybe : (Was Is End : Papers → Type 0) (s : Scene) (rest : List Scene) → ((papers : Papers) → Is papers → (before : Papers) × Was before × MayAllBeSaved s.hall.object.name s.hall.object.parts.items s.hall.contents before papers) → ((papers : Papers) → End papers → (before : Papers) × Is before × ObjectsMayBeSaved rest before papers) → (papers : Papers) → End papers → (before : Papers) × Was before × ObjectsMayBeSaved (s ∷ rest) before papers
more_objects_maybe Was Is End s rest one others papers ends =
    let r = others papers ends in
    let o = one r.0 r.1 in
    (o.0, o.1, (r.0, o.2, r.2))
