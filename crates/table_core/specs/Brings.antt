-- What is done while a post is filled.
use Rattle.std.specs.Prelude.{ℕ, ◌++◌}
use Rattle.keep_loop.specs.Posts.{Tells}
use Rattle.keep_loop.specs.declared.post.Post.{Post}
use Rattle.client_core.specs.State.{State}
use Rattle.client_core.specs.Deeds.{Texts, Deed}
use Rattle.client_core.specs.Gone.{Settles}
use Rattle.client_core.specs.Turns.{GoesOn, EndsHeld}

-- something is told and added, and it is what is told and added where this is done
pub record Brings (deed : Deed) (before : Post) (old : State) (after : Post) (new : State) : Type 0 where
  pub said : Texts
  pub added : Texts
  pub tells : Tells before after said added
  pub is : deed old said added new

-- held lines are done, behind those that were done before
abbrev pub Continues : Post → State → Post → State → Type 0
Continues before old after new = (p : Post) (first : State) → Brings GoesOn p first before old → Brings GoesOn p first after new

-- what is due is called, behind what was done before
abbrev pub SettlesOn : Post → State → Post → State → Type 0
SettlesOn before old after new = (p : Post) (first : State) → Brings Settles p first before old → Brings Settles p first after new

-- some held lines of one that has left are answered: with those that are left it is all of them
pub record EndsSome (place : ℕ) (before : Post) (old : State) (after : Post) (new : State) : Type 0 where
  pub said : Texts
  pub added : Texts
  pub tells : Tells before after said added
  pub more : (more further : Texts) (last : State) → EndsHeld place new more further last → EndsHeld place old (said ++ more) (added ++ further) last
