-- Bytes put into others: what the whole stretch then is.
use Rattle.std.specs.Prelude.{ℕ, ◌+◌, List, ◌≡◌, length}
use Rattle.std.proofs.lemmas.List.Edits.{sets}

-- s with the bytes b from place `at` on; those past the end go nowhere, and all else stays. Where b fits, that is
-- what stands before the place, then b, then what stands behind (`put-fits`)
unfoldable pub put_at : ℕ → List ℕ → List ℕ → List ℕ
put_at at b s = sets s at b

-- s became v: the bytes b were put at `at`, and end at e
pub record Put (s : List ℕ) (at : ℕ) (b : List ℕ) (v : List ℕ) (e : ℕ) : Type 0 where
  pub bytes : v ≡ put_at at b s
  pub end : e ≡ at + length b
