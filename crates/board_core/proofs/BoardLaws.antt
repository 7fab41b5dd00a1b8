-- Laws of boards.
use Rattle.std.proofs.Common.{◌≡◌, ℕ, List, [], ◌∷◌, Some, refl, sym, ◌∙◌, ap, subst}
use Rattle.std.specs.Prelude.{slice_get, map}
use Rattle.value_core.specs.declared.kind.Kind.{Kind}
use Rattle.value_core.specs.declared.kind.Elem.{Elem}
use Rattle.value_core.specs.declared.datum.Datum.{Datum}
use Rattle.value_core.specs.Contents.{Contents}
use Rattle.decl_core.specs.Bodies.{body_of}
use Rattle.decl_core.specs.ObjectForm.{OperationForm}
use Rattle.decl_core.specs.ObjectMap.{operation_of, params_of}
use Rattle.decl_core.specs.Meaning.{apply_body}
use Rattle.decl_core.specs.Touched.{Reads}
use Rattle.decl_core.specs.declared.object.Operation.{Operation}
use Rattle.decl_core.specs.declared.object.Param.{Param}
use Rattle.decl_core.proofs.Footprints.{writes_are_reads}
use Rattle.device_core.specs.Device.{Assignment}
use Rattle.page_core.specs.PartPins.{PartPin}
use Rattle.apply_core.specs.declared.reply.Failure.TheVariants as failures
use Rattle.apply_core.specs.declared.reply.Reply.{Reply}
use Rattle.apply_core.specs.declared.reply.Reply.TheVariants.{Done, Refused, Failed}
use Rattle.apply_core.specs.Fits.{IsNamed}
use Rattle.page_core.specs.Given.{AreSpelled}
use Rattle.page_core.specs.CallPins.{call_of}
use Rattle.page_core.specs.Truths.{IsTrueOf, IsTrueAt, AreLeft, PinHolds}
use Rattle.page_core.specs.Outcomes.{if_done}
use Rattle.board_core.specs.Free.{IsNeeded}
use Rattle.board_core.specs.Sound.{IsPinned}
use Rattle.board_core.specs.Laws.{RunningNeverConflict, PinsStay, PickedAreFree, TruthIsNoted}
use Rattle.page_core.proofs.Lists.{Every-among}
use Rattle.board_core.proofs.Sound.{never_conflict}
use Rattle.board_core.proofs.Freed.{picks_none}

pub running_never_conflict : RunningNeverConflict
running_never_conflict b h r s runs too differ conflict = never_conflict b h r s runs too differ conflict.0 conflict.1

pub pins_stay : PinsStay
pins_stay b h r runs p =
    let pinned : IsPinned b.pins r = Every-among (IsPinned b.pins) b.running r h.pinned.pinned runs in
    (λ reads. pinned p reads, λ writes. pinned p (writes_are_reads (body_of r.call.operation) p writes))

pub picked_are_free : PickedAreFree
picked_are_free pins stamps all running picks = picks_none (IsNeeded pins running) [] stamps all tt picks

-- operations of one form name the same parts
same_named : (a b : Operation) → operation_of a ≡ operation_of b → (p : ℕ) (kind : Kind) → IsNamed a p kind → IsNamed b p kind
same_named a b same p kind is = record {
  named = subst (λ st. Reads st p) (ap (λ (f : OperationForm). f.statements) same) is.named;
  held = subst (λ ks. slice_get ks p ≡ Some (Some kind)) (ap (λ (f : OperationForm). f.kinds) same) is.held;
}

kinds_from_params : (params : List Param) → map (λ (p : Param). p.kind) params ≡ map (λ (x : List ℕ × Elem). x.1) (params_of params)
kinds_from_params [] = refl
kinds_from_params (p ∷ params) = ap (λ ks. p.kind ∷ ks) (kinds_from_params params)

-- operations of one form have one body
same_body : (a b : Operation) → operation_of a ≡ operation_of b → body_of a ≡ body_of b
same_body a b same =
    λ i. record {
      params = (kinds_from_params a.params.items ∙ ap (λ (f : OperationForm). map (λ (x : List ℕ × Elem). x.1) f.params) same ∙ sym (kinds_from_params b.params.items)) i;
      result = (ap (λ (f : OperationForm). f.result) same) i;
      statements = (ap (λ (f : OperationForm). f.statements) same) i;
    }

module _ (a : Assignment) (arguments : List Datum) (pins : List PartPin) (m n : ℕ) (f g : Operation) (same : operation_of f ≡ operation_of g) where
  spelled_same : (parts : List Contents) → AreSpelled (PinHolds a pins) f parts → AreSpelled (PinHolds a pins) g parts
  spelled_same parts h p kind is = h p kind (same_named g f (sym same) p kind is)

  true_same : (reply : Reply) (news : List PartPin) → IsTrueAt a (call_of m f arguments pins) reply news → IsTrueAt a (call_of n g arguments pins) reply (if_done reply news)
  true_same (Done reply) news h = record {
    parts = h.parts;
    spelled = spelled_same h.parts h.spelled;
    gives = ap (λ body. (apply_body body arguments h.parts).0) (sym (same_body f g same)) ∙ h.gives;
    leaves = subst (λ body. AreLeft a news h.parts (apply_body body arguments h.parts).1) (same_body f g same) h.leaves;
  }
  true_same (Refused word) news h = (
    record {
      parts = h.0.parts;
      spelled = spelled_same h.0.parts h.0.spelled;
      gives = ap (λ body. (apply_body body arguments h.0.parts).0) (sym (same_body f g same)) ∙ h.0.gives;
    },
    refl,
  )
  true_same (Failed failures.Damaged) news h = record { p = h.p; kind = h.kind; named = same_named f g same h.p h.kind h.named; bytes = h.bytes; there = h.there; spell_none = h.spell_none }
  true_same (Failed failures.Device) news h = tt
  true_same (Failed failures.Memory) news h = tt

  truth_same : (reply : Reply) (news : List PartPin) → IsTrueOf a (call_of m f arguments pins) reply news → IsTrueOf a (call_of n g arguments pins) reply (if_done reply news)
  truth_same reply news h whole = true_same reply news (h (λ p kind pin is there. whole p kind pin (same_named f g same p kind is) there))

pub truth_is_noted : TruthIsNoted
truth_is_noted a call r reply news of =
    λ h. subst (λ args. IsTrueOf a (call_of r.number r.call.operation args r.pins) reply (if_done reply news)) (sym of.arguments)
    (subst (λ pins. IsTrueOf a (call_of r.number r.call.operation call.arguments pins) reply (if_done reply news)) (sym of.pins)
    (truth_same a call.arguments call.pins call.number r.number call.operation r.call.operation (sym of.operation) reply news h))
