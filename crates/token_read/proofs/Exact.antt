-- Readers that read exactly what stands before the rest.
use Rattle.std.proofs.Common.{◌≡◌, ℕ, zero, suc, ◌<◌, ◌≤◌, Bool, true, false, List, length, Option, Some, None, refl, sym, ap, arith}
use Rattle.path_tree.specs.Lexeme.{Lexeme}
use Rattle.token_read.specs.Reader.{◌>>=◌, Reader}
use Rattle.token_read.specs.Series.{IsSeries, no_more, and_another, series_by, series_at}

-- A reader reads what is meant, and nothing else; what is meant is never longer than what it stands before.
pub record Exact {A : Type 0} (most : ℕ) (Is : List Lexeme → A → List Lexeme → Type 0) (reader : Reader A) : Type 0 where
  pub found : (ws : List Lexeme) (x : A) (rest : List Lexeme) → reader ws ≡ Some (x, rest) → Is ws x rest
  pub read : (ws : List Lexeme) (x : A) (rest : List Lexeme) → length ws < most → Is ws x rest → reader ws ≡ Some (x, rest)
  pub shorter : (ws : List Lexeme) (x : A) (rest : List Lexeme) → Is ws x rest → length rest ≤ length ws

-- what was bound
pub bind_some : {A B : Type 0} (o : Option A) (f : A → Option B) (y : B) → (o >>= f) ≡ Some y → (x : A) × (o ≡ Some x) × (f x ≡ Some y)
bind_some (Some x) f y h = (x, refl, h)
bind_some None f y h = absurd cc

-- what a reader answered, part by part
pub read_is : {A : Type 0} (x y : A × List Lexeme) → Some x ≡ Some y → (x.0 ≡ y.0) × (x.1 ≡ y.1)
read_is x y h = let k : x ≡ y = cc in (ap (λ p. p.0) k, ap (λ p. p.1) k)

module _ {S : Type 0} (most : ℕ) (IsItem : S → List Lexeme → S → List Lexeme → Type 0) (item : S → Reader S) (begins : List Lexeme → Bool) (exact : (s : S) → Exact most (IsItem s) (item s)) where
  series_found : (left : ℕ) (b : Bool) (s : S) (ws : List Lexeme) (t : S) (rest : List Lexeme) → begins ws ≡ b → series_by item begins left s ws b ≡ Some (t, rest) → IsSeries IsItem begins left s ws t rest
  unfolding series_by
  series_found left false s ws t rest is h =
      let k = read_is (s, ws) (t, rest) h in
      rw (sym k.0, sym k.1) (no_more is)
  series_found zero true s ws t rest is h = absurd cc
  series_found (suc left) true s ws t rest is h =
      let a = bind_some (item s ws) (λ x. series_by item begins left x.0 x.1 (begins x.1)) (t, rest) h in
      and_another is ((exact s).found ws a.0.0 a.0.1 a.1) (series_found left (begins a.0.1) a.0.0 a.0.1 t rest refl a.2)

  series_shorter : (left : ℕ) (s : S) (ws : List Lexeme) (t : S) (rest : List Lexeme) → IsSeries IsItem begins left s ws t rest → length rest ≤ length ws
  series_shorter left s ws t rest (no_more is) = omega arith
  series_shorter (suc left) s ws t rest (and_another {t = u} {vs = vs} is one others) =
      omega (arith, (exact s).shorter ws u vs one, series_shorter left u vs t rest others)

  series_read : (left : ℕ) (s : S) (ws : List Lexeme) (t : S) (rest : List Lexeme) → length ws < most → IsSeries IsItem begins left s ws t rest → series_by item begins left s ws (begins ws) ≡ Some (t, rest)
  unfolding series_by
  series_read left s ws t rest long (no_more is) = rw is refl
  series_read (suc left) s ws t rest long (and_another {t = u} {vs = vs} is one others) =
      let short = (exact s).shorter ws u vs one in
      let first = (exact s).read ws u vs long one in
      let more = series_read left u vs t rest (omega arith) others in
      rw (is, first) more

  pub series_exact : (left : ℕ) (s : S) → Exact most (IsSeries IsItem begins left s) (series_at item begins left s)
  series_exact left s = record {
    found = λ ws t rest h. series_found left (begins ws) s ws t rest refl h;
    read = λ ws t rest long h. series_read left s ws t rest long h;
    shorter = λ ws t rest h. series_shorter left s ws t rest h;
  }
