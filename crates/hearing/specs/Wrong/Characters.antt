-- Wrong chips that do not tell the tales of Characters: asynchronous receiving. Assumes nothing.
use Rattle.std.specs.Prelude.{refl, true, false, not, ◌&&◌, ℕ, ◌+◌, ◌-◌, ◌*◌, ◌/◌, ◌%◌, ◌^◌, eqb, if◌then◌else◌}
use Rattle.shapes.specs.Shapes.{shape_bits}
use Rattle.asynchronous.specs.Hearing.{no_assembly}
use Rattle.settings.specs.Settings.{store3, store4, auto_enables, heard_field, parity_on, even_parity}
use Rattle.tales.specs.Tale.{Happens, telling}
use Rattle.tales.specs.Kind.{is_queued, is_deaf, is_bit}
use Rattle.tales.specs.Parts.{with_assembly, with_parity, with_broken, with_entries, with_heard_bits}
use Rattle.tales.specs.Parts.{with_latches}
use Rattle.tales.specs.Wrong.{but_a, first_a, taking_a}
use Rattle.tales.specs.Refused.{other_number, other_list}
use Rattle.hearing.specs.Characters.{Told}

-- of a byte as many low bits as its shape says, the others 1
abbrev shaped : ℕ → ℕ
shaped v = let n = 2 ^ shape_bits v in 256 - n + v % n

-- the high bits of A's five-bit characters read 0
abbrev unused_bits_read0 : Happens
unused_bits_read0 =
    but_a (λ was e is.
    if is_queued 0 was e is && eqb (heard_field is.registers.wr3) 0
    then with_entries is (λ x. record {
      byte = x.byte % 64;
      parity = x.parity;
      overrun = x.overrun;
      framing = x.framing;
      ends = x.ends;
      bad = x.bad;
    })
    else is)

pub unused_bits_read0_refused : Told unused_bits_read0 → ⊥
unfolding telling
unused_bits_read0_refused t = other_list t.five_bits refl

-- A gives as much of a five-bit character as its shape says, the others read 1
abbrev shapes_in_the_receiver : Happens
shapes_in_the_receiver =
    first_a (λ a e.
    let k = a.receiver.assembly in
    if is_bit 0 e && (eqb k.left 1 && (eqb k.weight 32 && not k.parity))
    then with_heard_bits a (shaped k.bits)
    else a)

pub shapes_in_the_receiver_refused : Told shapes_in_the_receiver → ⊥
unfolding telling
shapes_in_the_receiver_refused t = other_list t.no_shape refl

-- A takes odd parity for even, and even for odd
abbrev hears_parity_the_other_way : Happens
hears_parity_the_other_way =
    taking_a (λ r. store4 r (if even_parity r.wr4 then r.wr4 - 2 else r.wr4 + 2))

pub hears_parity_the_other_way_refused : Told hears_parity_the_other_way → ⊥
unfolding telling
hears_parity_the_other_way_refused t = other_number t.odd_heard refl

-- A marks right parity wrong, and wrong parity right
abbrev parity_is_swapped : Happens
parity_is_swapped =
    but_a (λ was e is.
    let turned = with_entries is (λ x. record {
      byte = x.byte;
      parity = not x.parity;
      overrun = x.overrun;
      framing = x.framing;
      ends = x.ends;
      bad = x.bad;
    }) in
    if is_queued 0 was e is
    then with_latches turned (not is.queue.parity) is.queue.overrun
    else is)

pub parity_is_swapped_refused : Told parity_is_swapped → ⊥
unfolding telling
parity_is_swapped_refused t = other_number t.odd_heard refl

-- A judges parity as WR4 is when the stop bit comes
abbrev parity_is_judged_at_the_stop : Happens
parity_is_judged_at_the_stop =
    first_a (λ a e.
    if is_bit 0 e && eqb a.receiver.assembly.left 1
    then with_parity a (parity_on a.registers.wr4) (even_parity a.registers.wr4)
    else a)

pub parity_is_judged_at_the_stop_refused : Told parity_is_judged_at_the_stop → ⊥
unfolding telling
parity_is_judged_at_the_stop_refused t = other_number t.parity_as_set refl

-- behind a stop bit of 0 the next 0 starts a character of A
abbrev waits_for_no1 : Happens
waits_for_no1 =
    but_a (λ was e is.
    if is.receiver.assembly.wait
    then with_assembly is (no_assembly false)
    else is)

pub waits_for_no1_refused : Told waits_for_no1 → ⊥
unfolding telling
waits_for_no1_refused t = other_number t.no_start refl

-- every framing error sets A's D7
abbrev break_is_any_stop_of0 : Happens
break_is_any_stop_of0 =
    but_a (λ was e is.
    if is.receiver.assembly.wait && not was.receiver.assembly.wait
    then with_broken is true
    else is)

pub break_is_any_stop_of0_refused : Told break_is_any_stop_of0 → ⊥
unfolding telling
break_is_any_stop_of0_refused t = other_number t.no_break refl

-- a tick while off does not clear A's D7
abbrev off_leaves_d7 : Happens
off_leaves_d7 =
    but_a (λ was e is. if is_deaf 0 was e then with_broken is was.receiver.broken else is)

pub off_leaves_d7_refused : Told off_leaves_d7 → ⊥
unfolding telling
off_leaves_d7_refused t = other_number t.off_clears_d7 refl

-- a tick while off leaves the character that A was hearing
abbrev off_keeps_half_a_character : Happens
off_keeps_half_a_character =
    but_a (λ was e is. if is_deaf 0 was e then with_assembly is was.receiver.assembly else is)

pub off_keeps_half_a_character_refused : Told off_keeps_half_a_character → ⊥
unfolding telling
off_keeps_half_a_character_refused t = other_number t.off_drops refl

-- A hears without DCD though auto enables are set
abbrev receiver_ignores_auto_enables : Happens
receiver_ignores_auto_enables = taking_a (λ r. store3 r (r.wr3 % 32 + r.wr3 / 64 * 64))

pub receiver_ignores_auto_enables_refused : Told receiver_ignores_auto_enables → ⊥
unfolding telling
receiver_ignores_auto_enables_refused t = other_number t.no_dcd refl

-- with auto enables DCD turns A's receiver on, whatever WR3 D0 is
abbrev hears_by_dcd_alone : Happens
hears_by_dcd_alone c e =
    taking_a (λ r.
    if auto_enables r.wr3 && c.a.lines.dcd
    then store3 r (r.wr3 / 2 * 2 + 1)
    else r) c e

pub hears_by_dcd_alone_refused : Told hears_by_dcd_alone → ⊥
unfolding telling
hears_by_dcd_alone_refused t = other_number t.dcd_alone refl
