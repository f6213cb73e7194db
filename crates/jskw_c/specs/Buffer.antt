-- What a call leaves in the buffer of its caller.
use Rattle.std.specs.Prelude.{◌≡◌, ◌≤◌, ◌<◌, ◌⊎◌, ℕ, List, ◌++◌, length, drop}
use Rattle.jskw_c.specs.Status.{NO_MEMORY, TOO_SMALL}

-- the text is at the head of the buffer, and the rest of the buffer is unchanged
pub record HasText (text before after : List ℕ) (count : ℕ) : Type 0 where
  pub fits : length text ≤ length before
  pub wrote : after ≡ text ++ drop (length text) before
  pub counts : count ≡ length text

-- the text is longer than the buffer, which is unchanged
pub record HasNoRoom (text before after : List ℕ) (count : ℕ) : Type 0 where
  pub longer : length before < length text
  pub kept : after ≡ before
  pub counts : count ≡ length text

-- there is no text, and the buffer is unchanged
pub record IsUnchanged (before after : List ℕ) (count : ℕ) : Type 0 where
  pub kept : after ≡ before
  pub counts : count ≡ 0

-- the status and the whole text, or that the buffer is too small for it
abbrev pub WritesText : ℕ → ℕ → List ℕ → List ℕ → List ℕ → ℕ → Type 0
WritesText result status text before after count =
    ((result ≡ status) × HasText text before after count) ⊎ ((result ≡ TOO_SMALL) × HasNoRoom text before after count)

-- memory ran out, and the buffer is unchanged
abbrev pub RunsOut : ℕ → List ℕ → List ℕ → ℕ → Type 0
RunsOut result before after count = (result ≡ NO_MEMORY) × IsUnchanged before after count

-- a status and a text that is as it should be
pub record WritesSuchText (IsText : List ℕ → Type 0) (result status : ℕ) (before after : List ℕ)
    (count : ℕ) : Type 0 where
  pub text : List ℕ
  pub right : IsText text
  pub gives : WritesText result status text before after count

-- the status and such a text, or that memory ran out
abbrev pub WritesOrRunsOut : (List ℕ → Type 0) → ℕ → ℕ → List ℕ → List ℕ → ℕ → Type 0
WritesOrRunsOut IsText result status before after count =
    WritesSuchText IsText result status before after count ⊎ RunsOut result before after count

-- the status, or that memory ran out
abbrev pub IsStatus : ℕ → ℕ → Type 0
IsStatus status result = (result ≡ status) ⊎ (result ≡ NO_MEMORY)
