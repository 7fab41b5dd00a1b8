-- Parts that are read page by page.
use Rattle.std.proofs.Common.{◌≡◌, ℕ, List, Some}
use Rattle.std.specs.Prelude.{slice_get}
use Rattle.value_core.specs.declared.kind.Elem.TheVariants as elem
use Rattle.value_core.specs.declared.kind.Kind.TheVariants as kind
use Rattle.decl_core.specs.Bodies.{body_of}
use Rattle.decl_core.specs.Touched.{Reads}
use Rattle.device_core.specs.declared.hand.Stamp.{Stamp}
use Rattle.apply_core.specs.Fits.{IsNamed}
use Rattle.page_core.proofs.Touching.{read}
use Rattle.apply_core.specs.Pages.{page_bytes}
use Rattle.page_core.specs.Cut.{lengths, AreFull}
use Rattle.page_core.specs.PartPins.{pin_at}
use Rattle.page_core.specs.CallPins.{Call}
use Rattle.run_core.specs.Seen.{IsPaged}

-- what makes a part one that is read page by page
pub is_paged : (call : Call) (part many : ℕ) (pages : List Stamp) → ((Reads (body_of call.operation).statements part → ⊥) → ⊥) → slice_get call.operation.kinds.items part ≡ Some (Some (kind.Array many elem.Integer)) → pin_at call.pins part ≡ Some pages
    → AreFull page_bytes (lengths pages) → IsPaged call part × IsNamed call.operation part (kind.Array many elem.Integer)
is_paged call part many pages reads held pinned full =
    let named : IsNamed call.operation part (kind.Array many elem.Integer) = record { named = read _ part reads; held = held } in
    (record { wanted = record { many = many; named = named }; pages = pages; pinned = pinned; full = full }, named)
