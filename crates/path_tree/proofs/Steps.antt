-- One step of reading, where there is one.
use Rattle.std.proofs.Common.{◌≡◌, ℕ, zero, suc, ◌-◌, ◌<◌, List, refl, arith, None}
use Rattle.path_tree.specs.declared.token.Symbol.{Symbol}
use Rattle.path_tree.specs.Path.{Path}
use Rattle.path_tree.specs.Lexeme.{Lexeme}
use Rattle.path_tree.specs.Reading.{symbol_at, Reader, ◌>>=◌, with_others, parts_at, list_in, item_in, nested_at}
use Rattle.path_tree.specs.Known.{Known}

pub parts_step : (separator : Symbol) (member : Reader Path) (left : ℕ) (seen : List ℕ) (ws : List Lexeme) → 0 < left →
    parts_at separator member left seen ws ≡ (member seen ws >>= λ x. with_others (parts_at separator member (left - 1)) x (symbol_at separator x.2))
unfolding parts_at
parts_step separator member zero seen ws h = absurd (omega arith)
parts_step separator member (suc left) seen ws h = let e : suc left - 1 ≡ left = omega arith in rw e refl

pub nested_step : (known : Known) (most depth : ℕ) (seen : List ℕ) (ws : List Lexeme) → 0 < depth →
    nested_at known most depth seen ws ≡ list_in (item_in known (nested_at known most (depth - 1))) most seen ws
unfolding nested_at
nested_step known most zero seen ws h = absurd (omega arith)
nested_step known most (suc depth) seen ws h = let e : suc depth - 1 ≡ depth = omega arith in rw e refl

pub parts_none : (separator : Symbol) (member : Reader Path) (left : ℕ) (seen : List ℕ) (ws : List Lexeme) → left ≡ 0 → parts_at separator member left seen ws ≡ None
unfolding parts_at
parts_none separator member zero seen ws h = refl
parts_none separator member (suc left) seen ws h = absurd (omega arith)

pub nested_none : (known : Known) (most depth : ℕ) (seen : List ℕ) (ws : List Lexeme) → depth ≡ 0 → nested_at known most depth seen ws ≡ None
unfolding nested_at
nested_none known most zero seen ws h = refl
nested_none known most (suc depth) seen ws h = absurd (omega arith)
