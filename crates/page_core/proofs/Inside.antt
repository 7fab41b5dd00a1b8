-- An outcome has new page lists of parts that its operation writes alone.
use Rattle.std.proofs.Common.{ℕ, List, refl}
use Rattle.std.specs.Prelude.{◌≢◌, None}
use Rattle.decl_core.specs.Form.{Statements}
use Rattle.decl_core.specs.Touched.{Writes}
use Rattle.apply_core.specs.declared.reply.Reply.{Reply}
use Rattle.apply_core.specs.declared.reply.Reply.TheVariants.{Done, Refused, Failed}
use Rattle.page_core.specs.PartPins.{PartPin, pin_at}
use Rattle.page_core.specs.Outcomes.{if_done}
use Rattle.page_core.proofs.Touching.{surely, written_or_not}

-- what is not otherwise than written is written
pub surely_written : (all : Statements) (p : ℕ) → ((Writes all p → ⊥) → ⊥) → Writes all p
surely_written all p h = surely (written_or_not all p) h

-- a part that has a new pin where the body was done has one of the lists
pub done_has : (reply : Reply) (news : List PartPin) (p : ℕ) → pin_at (if_done reply news) p ≢ None → pin_at news p ≢ None
done_has (Done reply) news p some = some
done_has (Refused word) news p some = absurd (some refl)
done_has (Failed failure) news p some = absurd (some refl)
