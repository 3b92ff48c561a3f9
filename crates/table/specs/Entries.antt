-- A table by its rule: the entries that a rule gives for the places from one on. Assumes nothing.
use Rattle.std.specs.Prelude.{List, [], ◌∷◌, ℕ, zero, suc}

-- n entries, the first one's place is k
unfoldable pub entries : (ℕ → ℕ) → ℕ → ℕ → List ℕ
entries rule k zero = []
entries rule k (suc n) = rule k ∷ entries rule (suc k) n
