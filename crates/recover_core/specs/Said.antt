-- The lines that tell of the epochs of an object.
use Rattle.std.specs.Prelude.{ℕ, List, ◌++◌, codes, decimal}
use Rattle.audit_core.specs.declared.verdict.AuditFault.{AuditFault}
use Rattle.audit_core.specs.declared.verdict.AuditFault.TheVariants as lines
use Rattle.recover_core.specs.declared.chain.ChainFault.{ChainFault}
use Rattle.recover_core.specs.declared.chain.ChainFault.TheVariants as chains
use Rattle.recover_core.specs.declared.recover.RecoverFault.{RecoverFault}
use Rattle.recover_core.specs.declared.recover.RecoverFault.TheVariants as faults
use Rattle.recover_core.specs.declared.epochs.EpochFault.{EpochFault}
use Rattle.recover_core.specs.declared.epochs.EpochFault.TheVariants as epochs

-- ` line N`, and more
abbrev pub at_line : ℕ → List ℕ → List ℕ
at_line line more = (codes " line " ++ decimal line) ++ more

-- what is told of a faulty line
abbrev pub line_words : ℕ → AuditFault → List ℕ
line_words line lines.Bad = at_line line (codes " bad\n")
line_words line (lines.Breaks path) = at_line line (codes " breaks path " ++ (decimal path ++ codes "\n"))
line_words line lines.Wrong = at_line line (codes " wrong reply\n")
line_words line lines.Stranger = at_line line (codes " not running\n")

-- what of a front is not as the epoch before it left it
abbrev pub chain_words : ChainFault → List ℕ
chain_words chains.Epoch = codes " does not follow: epoch\n"
chain_words chains.Values = codes " does not follow: values\n"
chain_words chains.Past = codes " does not follow: past\n"
chain_words chains.Numbers = codes " does not follow: numbers\n"
chain_words chains.Clients = codes " does not follow: clients\n"

-- why nothing is recovered of an epoch
abbrev pub fault_words : RecoverFault → List ℕ
fault_words (faults.Front line) = at_line line (codes " bad\n")
fault_words faults.Changed = codes " was changed\n"
fault_words (faults.Contradicts line) = at_line line (codes " contradicts\n")
fault_words faults.Past = codes " past does not fit\n"
fault_words (faults.Line line fault) = line_words line fault

-- ` epoch E`, and more
abbrev pub of_epoch : ℕ → List ℕ → List ℕ
of_epoch epoch more = (codes " epoch " ++ decimal epoch) ++ more

-- what is told of the text of an epoch that is refused, in a file of this name
abbrev pub epoch_words : List ℕ → EpochFault → List ℕ
epoch_words file (epochs.Front line) = (codes " " ++ file) ++ at_line line (codes " bad\n")
epoch_words file (epochs.Chain epoch fault) = of_epoch epoch (chain_words fault)
epoch_words file (epochs.Epoch epoch fault) = of_epoch epoch (fault_words fault)

-- what is told of epochs that are whole: how many they are, and how many calls ended in them
abbrev pub whole_words : ℕ → ℕ → List ℕ
whole_words count entries =
    (codes " epochs " ++ decimal count) ++ ((codes " entries " ++ decimal entries) ++ codes " whole\n")
