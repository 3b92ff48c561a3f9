-- 02, P6: "a 256-entry check table". Assumes nothing.
use Rattle.std.specs.Prelude.{false, List, ℕ, replicate}
use Rattle.line.specs.Check.{sdlc, check_over}
use Rattle.mirror.specs.Mirror.{mirror}
use Rattle.table.specs.Entries.{entries}

-- eight steps by 0 of the register that holds this byte; both are mirrored
abbrev pub check_entry : ℕ → ℕ
check_entry k = mirror 16 (check_over sdlc (mirror 16 k) (replicate 8 false))

unfoldable pub check_table : List ℕ
check_table = entries check_entry 0 256
