-- Expressions, conditions and statements without where they lie in memory. A part and a parameter are their numbers.
use Rattle.std.specs.Prelude.{ℕ, List, Option}
use Rattle.value_core.specs.declared.kind.Elem.{Elem}
use Rattle.decl_core.specs.declared.stmt.Relation.{Relation}

mutual
  -- where an integer or a text is taken from
  pub data From : Type 0 where
    argument : ℕ → From
    element : ℕ → Integers → From
    oldest : ℕ → From
    under : ℕ → Texts → From

  -- expressions that are integers; `a + b - c` is the difference of a sum and c
  pub data Integers : Type 0 where
    number : ℕ → Integers
    integer_from : From → Integers
    count : ℕ → Integers
    add : Integers → Integers → Integers
    subtract : Integers → Integers → Integers

  -- expressions that are texts
  pub data Texts : Type 0 where
    literal : List ℕ → Texts
    text_from : From → Texts

-- expressions
pub data Form : Type 0 where
  an_integer : Integers → Form
  a_text : Texts → Form

-- conditions
pub data Condition : Type 0 where
  compare : Relation → Integers → Integers → Condition
  same_texts : Texts → Texts → Condition
  other_texts : Texts → Texts → Condition
  has : ℕ → Texts → Condition
  is_not : Condition → Condition

mutual
  -- statements
  pub data Statement : Type 0 where
    block : Statements → Statement
    set_element : ℕ → Integers → Form → Statement
    set_result : Form → Statement
    append : ℕ → Form → Statement
    take : ℕ → Statement
    store : ℕ → Texts → Form → Statement
    erase : ℕ → Texts → Statement
    choose : Condition → Statement → Statement → Statement
    refuse : List ℕ → Statement

  -- statements in order
  pub data Statements : Type 0 where
    nothing : Statements
    first_and : Statement → Statements → Statements

-- what an operation is given, what it replies, and what it does
pub record Body : Type 0 where
  pub params : List Elem
  pub result : Option Elem
  pub statements : Statements
