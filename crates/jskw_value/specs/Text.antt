-- Texts that grow at their end.
use Rattle.std.specs.Prelude.{◌≡◌, ℕ, List, ◌++◌}

-- the new text begins with the old one
abbrev pub Extends : List ℕ → List ℕ → Type 0
Extends old new = (rest : List ℕ) × (new ≡ old ++ rest)

-- the new text is the old one followed by a part of `all`, of which `rest` is still to come
pub record AppendsUpTo (old new rest all : List ℕ) : Type 0 where
  pub part : List ℕ
  pub is_new : new ≡ old ++ part
  pub is_all : part ++ rest ≡ all

-- the new text is the old one followed by a beginning of `all`
pub record AppendsPart (old new all : List ℕ) : Type 0 where
  pub rest : List ℕ
  pub appends : AppendsUpTo old new rest all
