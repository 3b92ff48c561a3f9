-- What the buffer holds where a test says whether a byte waits in it. Assumes nothing.
use Rattle.std.specs.Prelude.{◌≡◌, refl, Bool, true, false, ℕ, Option, None, Some, is_some, unwrap_or}
use Rattle.std.proofs.Common.{sym, ap}
use Rattle.common.specs.Tools.{void}
use Rattle.shared.specs.declared.Shared.{Shared}
use Rattle.shared.specs.Shared.{full, waiting_byte, byte_entered, entered}

none_waits : (o : Option ℕ) → is_some o ≡ false → o ≡ None
none_waits None e = refl
none_waits (Some v) e = void (sym e)

one_waits : (o : Option ℕ) → is_some o ≡ true → o ≡ Some (unwrap_or o 0)
one_waits None e = void e
one_waits (Some v) e = refl

pub buffer_empty : (k : Shared) → full k ≡ false → k.buffer ≡ None
buffer_empty k e = none_waits k.buffer e

pub buffer_full : (k : Shared) → full k ≡ true → k.buffer ≡ Some (waiting_byte k)
buffer_full k e = one_waits k.buffer e

-- what waits in the buffer is the byte that enters
pub buffer_entered : (p : ℕ) (included : Bool) (k : Shared) (v : ℕ) → k.buffer ≡ Some v
    → entered p included k ≡ byte_entered p included v k
buffer_entered p included k v e =
    ap (λ (o : Option ℕ). byte_entered p included (unwrap_or o 0) k) e
