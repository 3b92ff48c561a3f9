-- `tabled::put_check` meets its contract: each byte by its call. Assumes nothing.
use mathlib.Core.Path.{refl}
use Rattle.tabled.specs.Tabled.{bytes_stamped}
use Rattle.tabled.proofs.put_check.Goals as goal

pub returns : goal.returns
unfolding bytes_stamped
returns c =
    let last = c.put_byte-q-2.ensures in
    let first = c.put_byte-q.ensures in
    rw (last.value, last.out_after, first.value, first.out_after) (record { value = refl; out_after = refl })
