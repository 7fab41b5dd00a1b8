-- The answers to lines, from what a state stands for.
use Rattle.std.proofs.Common.{◌≡◌, ◌≢◌, ℕ, ◌<◌, ◌≤◌, ◌⊎◌, inl, inr, true, false, List, [], ◌∷◌, ◌++◌, length, map, codes, sym, ap, ◌∙◌, subst, arith, slice_index_or}
use Rattle.std.specs.Prelude.{decimal}
use Rattle.std.specs.Str.{str_to_ascii_lowercase}
use Rattle.path_tree.specs.Path.{Path}
use Rattle.path_tree.specs.Trace.{Event}
use Rattle.path_tree.specs.Canonical.{canonical_bytes}
use Rattle.path_count.specs.declared.paths.machine.Paths.{Paths}
use Rattle.path_count.specs.declared.paths.path_line.LineFault.{LineFault}
use Rattle.path_count.specs.Asked.{Asked, operations, path, start, finish, asked_of}
use Rattle.path_count.specs.Named.{IsNamed}
use Rattle.path_count.specs.PathLine.{IsPathLine}
use Rattle.path_count.specs.ReadLine.{IsLineFault, line_fault_text}
use Rattle.value_core.specs.Reply.{reply}
use Rattle.path_count.specs.Stands.{StandsFor}
use Rattle.path_count.specs.Calls.{StartAnswer, FinishAnswer}
use Rattle.path_count.specs.Told.{Told, AreOperations, IsBadLine}
use Rattle.path_count.specs.Answers.{Answers, operations_told, path_told, path_refused, start_told, finish_told, bad_line}
use Rattle.std.proofs.lemmas.List.{length-map}
use Rattle.path_count.proofs.Calling.{clash}
use Rattle.path_count.specs.Telling.{Stands, Leaves}

-- a line that has no place where it stands
pub bad_told : (told : Told) (number : ℕ) (line : List ℕ) (asked : Asked) (state : Paths) → Stands state told → asked_of line ≡ asked → IsBadLine told asked
    → Leaves told number line (reply (codes "bad line ") (decimal number)) false state
bad_told told number line asked state stands is bad = (told, stands, bad_line (subst (IsBadLine told) (sym is) bad))

-- no name is told where the state has none
pub names_told : (told : Told) (state : Paths) → Stands state told → told.names ≡ [] → state.operations ≡ []
names_told told state stands none = stands.names ∙ none

-- where a word names an operation, there are names
pub named_some : (names : List (List ℕ)) (op : ℕ) (word : List ℕ) → IsNamed names op word → names ≢ []
named_some names op word named none = absurd (omega (arith, named.0, ap length none))

-- a start is told, and the counters stand for the trace then
pub started_told : (told : Told) (number : ℕ) (line word text : List ℕ) (op : ℕ) (mid new : Paths) → Stands mid (record told { begun = true })
    → asked_of line ≡ start word → IsNamed mid.operations op word
    → ((after : List Event) × StandsFor new.counters (length told.names) told.paths after × StartAnswer told.paths told.trace op (slice_index_or mid.operations op []) text after)
    → new.operations ≡ mid.operations → new.paths.items ≡ mid.paths.items → new.begun ≡ mid.begun
    → Leaves told number line text true new
started_told told number line word text op mid new ready is named (after, stands, answer) names paths begun =
    let told_named : IsNamed told.names op word = subst (λ ns. IsNamed ns op word) ready.names named in (
      record told { trace = after; begun = true },
      record {
        names = names ∙ ready.names;
        paths = paths ∙ ready.paths;
        begun = begun ∙ ready.begun;
        unnamed = ready.unnamed;
        none = λ h. absurd (let wrong : true ≡ false = h in cc);
        counted = λ h. stands;
      },
      start_told is told_named (subst (λ n. StartAnswer told.paths told.trace op n text after) named.1 answer),
    )

-- a finish is told, and the counters stand for the trace then
pub finished_told : (told : Told) (number : ℕ) (line word text : List ℕ) (op : ℕ) (mid new : Paths) → Stands mid (record told { begun = true })
    → asked_of line ≡ finish word → IsNamed mid.operations op word
    → ((after : List Event) × StandsFor new.counters (length told.names) told.paths after × FinishAnswer told.trace op (slice_index_or mid.operations op []) text after)
    → new.operations ≡ mid.operations → new.paths.items ≡ mid.paths.items → new.begun ≡ mid.begun
    → Leaves told number line text true new
finished_told told number line word text op mid new ready is named (after, stands, answer) names paths begun =
    let told_named : IsNamed told.names op word = subst (λ ns. IsNamed ns op word) ready.names named in (
      record told { trace = after; begun = true },
      record {
        names = names ∙ ready.names;
        paths = paths ∙ ready.paths;
        begun = begun ∙ ready.begun;
        unnamed = ready.unnamed;
        none = λ h. absurd (let wrong : true ≡ false = h in cc);
        counted = λ h. stands;
      },
      finish_told is told_named (subst (λ n. FinishAnswer told.trace op n text after) named.1 answer),
    )

-- a state that has names was told some
pub some_told : (told : Told) (state : Paths) (names : List (List ℕ)) → Stands state told → names ≡ state.operations → (length names ≡ 0 → ⊥) → told.names ≢ []
some_told told state names stands same some none = some (ap length (same ∙ stands.names ∙ none))

-- a state that has no name was told none
pub none_told : (told : Told) (state : Paths) (names : List (List ℕ)) → Stands state told → names ≡ state.operations → length names ≡ 0 → told.names ≡ []
none_told told state [] stands same none = sym stands.names ∙ sym same
none_told told state (name ∷ names) stands same none = absurd (omega arith)

-- line 1 is told
pub named_told : (told : Told) (number : ℕ) (line : List ℕ) (ws names : List (List ℕ)) (old new : Paths) → Stands old told → told.names ≡ [] → asked_of line ≡ operations ws
    → AreOperations ws → names ≡ map str_to_ascii_lowercase ws → new.operations ≡ names → new.paths ≡ old.paths → new.begun ≡ old.begun
    → Leaves told number line (reply (codes "ops ") (decimal (length names))) true new
named_told told number line ws names old new stands none is are lower same paths begun =
    let unbegun = stands.unnamed none in
    let count : length ws ≡ length names = sym (ap length lower ∙ length-map ws str_to_ascii_lowercase) in
    let text : Answers told number line (reply (codes "ops ") (decimal (length names))) true (record told { names = map str_to_ascii_lowercase ws }) = rw (← count) (operations_told none is are) in (
      record told { names = map str_to_ascii_lowercase ws },
      record {
        names = same ∙ lower;
        paths = ap (λ v. v.items) paths ∙ stands.paths;
        begun = begun ∙ stands.begun;
        unnamed = λ h. unbegun;
        none = stands.none;
        counted = λ h. clash told.begun h unbegun;
      },
      text,
    )

-- a path is told
pub path_line_told : (told : Told) (number : ℕ) (line : List ℕ) (tree : Path) (text : List ℕ) (old new : Paths) → Stands old told → told.names ≢ [] → old.begun ≡ false → length old.paths.items < 16
    → asked_of line ≡ path → IsPathLine old.operations line tree → text ≡ canonical_bytes old.operations tree
    → new.operations ≡ old.operations → new.paths.items ≡ old.paths.items ++ tree ∷ [] → new.begun ≡ old.begun
    → Leaves told number line (reply text []) true new
path_line_told told number line tree text old new stands some unbegun few is stood canonical kept paths begun =
    let told_unbegun = sym stands.begun ∙ unbegun in
    let told_stood : IsPathLine told.names line tree = subst (λ ns. IsPathLine ns line tree) stands.names stood in
    let told_text : canonical_bytes told.names tree ≡ text = ap (λ ns. canonical_bytes ns tree) (sym stands.names) ∙ sym canonical in (
      record told { paths = told.paths ++ tree ∷ [] },
      record {
        names = kept ∙ stands.names;
        paths = paths ∙ ap (λ ps. ps ++ tree ∷ []) stands.paths;
        begun = begun ∙ stands.begun;
        unnamed = stands.unnamed;
        none = stands.none;
        counted = λ h. clash told.begun h told_unbegun;
      },
      rw (← told_text) (path_told some told_unbegun (subst (λ ps. length ps < 16) stands.paths few) is told_stood),
    )

-- a fault of a path line is told
pub fault_told : (told : Told) (number : ℕ) (line : List ℕ) (fault : LineFault) (old : Paths) → Stands old told → told.names ≢ [] → old.begun ≡ false → length old.paths.items < 16
    → asked_of line ≡ path → ((tree : Path) → IsPathLine old.operations line tree → ⊥) → IsLineFault old.operations line fault
    → Leaves told number line (codes "line " ++ decimal number ++ codes ": " ++ line_fault_text fault) false old
fault_told told number line fault old stands some unbegun few is none faulty =
    (told, stands, path_refused fault some (sym stands.begun ∙ unbegun) (subst (λ ps. length ps < 16) stands.paths few) is (subst (λ ns. (tree : Path) → IsPathLine ns line tree → ⊥) stands.names none) (subst (λ ns. IsLineFault ns line fault) stands.names faulty))

-- a path line is told that it has no place
pub late_path : (told : Told) (number : ℕ) (line : List ℕ) (old : Paths) → Stands old told → asked_of line ≡ path
    → (told.names ≡ []) ⊎ ((old.begun ≡ true) ⊎ (16 ≤ length old.paths.items))
    → Leaves told number line (reply (codes "bad line ") (decimal number)) false old
late_path told number line old stands is (inl none) = bad_told told number line path old stands is (inl none)
late_path told number line old stands is (inr (inl begun)) = bad_told told number line path old stands is (inr (inl (sym stands.begun ∙ begun)))
late_path told number line old stands is (inr (inr many)) = bad_told told number line path old stands is (inr (inr (subst (λ ps. 16 ≤ length ps) stands.paths many)))
