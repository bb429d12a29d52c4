-- Document 02, (vii), "A page for the site binder": texts in columns.
use Rattle.std.specs.Prelude.{List, ◌++◌, ℕ, ◌-◌, length, replicate}

-- so many spaces (32)
abbrev pub spaces : ℕ → List ℕ
spaces n = replicate n 32

-- "right aligned": spaces up to the width of the column, then the text
unfoldable pub right_aligned : (width : ℕ) → List ℕ → List ℕ
right_aligned width text = spaces (width - length text) ++ text
