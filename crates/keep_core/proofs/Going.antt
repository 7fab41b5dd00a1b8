-- What an object goes on with, and why it does not.
use Rattle.std.proofs.Common.{◌≡◌, ℕ, ◌⊎◌, inl, inr, List, sym, subst}
use Rattle.decl_core.specs.declared.object.Object.{Object}
use Rattle.decl_core.specs.ObjectMap.{object_of}
use Rattle.live_core.specs.declared.call.Limits.{Limits}
use Rattle.recover_core.specs.declared.recover.House.{House}
use Rattle.recover_core.specs.declared.recover.Recovered.{Recovered}
use Rattle.recover_core.specs.Text.{IsRecovered}
use Rattle.live_core.specs.Again.{BeginsAgain}
use Rattle.live_core.specs.Scene.{Scene}
use Rattle.keep_core.specs.Behind.{BeginsBehind, BeginsNot, ended_of}
use Rattle.keep_core.specs.declared.start.NotBegun.{NotBegun}
use Rattle.keep_core.specs.declared.start.NotBegun.TheVariants.{NoPast, Memory}

pub begun : (object : Object) (h : House) (lines : List ℕ) (limits : Limits) (s : Scene) (came : Recovered) → IsRecovered (object_of object) h lines came →
    (source : ℕ) × BeginsAgain object (ended_of came) source limits s → BeginsBehind object h lines limits s
begun object h lines limits s came is b = record { front = is.0; came = came; read = is.1; source = b.0; again = b.1 }

pub not_begun : (object : Object) (h : House) (lines : List ℕ) (came : Recovered) (why : NotBegun) → IsRecovered (object_of object) h lines came → (why ≡ NoPast) ⊎ (why ≡ Memory) → BeginsNot object h lines why
not_begun object h lines came why is (inl none) = subst (BeginsNot object h lines) (sym none) (came, is)
not_begun object h lines came why is (inr memory) = subst (BeginsNot object h lines) (sym memory) tt
