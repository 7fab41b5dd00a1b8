-- Dialogues that are joined and parted.
use Rattle.std.proofs.Common.{List, [], ◌∷◌, ◌++◌, refl, sym, subst, append_assoc}
use Rattle.session_text.specs.Answers.{Said}
use Rattle.session_core.specs.declared.stage.SessionStage.{SessionStage}
use Rattle.session_core.specs.Dialogue.{Moves, IsDialogue, IsDialogueSoFar}

-- one after the other
pub joined : (first here to : SessionStage) (before behind : List Said) → IsDialogue first before here → IsDialogue here behind to → IsDialogue first (before ++ behind) to
joined first here to [] behind leads on = subst (λ s. IsDialogue s behind to) (sym leads) on
joined first here to (line ∷ before) behind (next, goes, leads) on = (next, goes, joined next here to before behind leads on)

-- in two
pub parted : (first to : SessionStage) (before behind : List Said) → IsDialogue first (before ++ behind) to → (here : SessionStage) × IsDialogue first before here × IsDialogue here behind to
parted first to [] behind leads = (first, refl, leads)
parted first to (line ∷ before) behind (next, goes, leads) = let r = parted next to before behind leads in (r.0, (next, goes, r.1), r.2)

-- one line more
pub one_more : (first here to : SessionStage) (before : List Said) (line : Said) → IsDialogue first before here → Moves here line to → IsDialogue first (before ++ line ∷ []) to
one_more first here to before line leads goes = joined first here to before (line ∷ []) leads (to, goes, refl)

-- the lines up to any of them
pub so_far : (before behind : List Said) → IsDialogueSoFar (before ++ behind) → IsDialogueSoFar before
so_far before behind is = let r = parted _ is.0 before behind is.1 in (r.0, r.1)

pub with_last : (before : List Said) (last : Said) (lost : List Said) → IsDialogueSoFar (before ++ last ∷ lost) → IsDialogueSoFar (before ++ last ∷ [])
with_last before last lost is = so_far (before ++ last ∷ []) lost (subst IsDialogueSoFar (sym (append_assoc before (last ∷ []) lost)) is)
