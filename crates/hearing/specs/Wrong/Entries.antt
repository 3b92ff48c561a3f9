-- Wrong chips that do not tell the tales of Entries: the queue. Assumes nothing.
use Rattle.std.specs.Prelude.{refl, Bool, true, not, ◌&&◌, eqb, get_or, set, if◌then◌else◌}
use Rattle.entry.specs.declared.Entry.{Entry}
use Rattle.entry.specs.Entry.{no_entry}
use Rattle.queue.specs.Queue.{oldest, queue}
use Rattle.channel.specs.declared.Channel.{Channel}
use Rattle.channel.specs.Channel.{with_queue}
use Rattle.chip.specs.Event.{Event}
use Rattle.tales.specs.Tale.{Happens, telling}
use Rattle.tales.specs.Kind.{is_queued, is_take, is_bit, is_command}
use Rattle.tales.specs.Parts.{with_entries, with_latches}
use Rattle.tales.specs.Wrong.{but_a}
use Rattle.tales.specs.Refused.{other_number, other_list}
use Rattle.hearing.specs.Entries.{Told}

-- the third entry of A's queue; and one comes while three wait
abbrev third : Channel → Entry
third c = get_or c.queue.entries 2 no_entry

abbrev overruns : Channel → Event → Channel → Bool
overruns was e is = is_bit 0 e && ((third is).overrun && not (third was).overrun)

-- a fourth character of A is dropped
abbrev drops_a_fourth_character : Happens
drops_a_fourth_character =
    but_a (λ was e is. if overruns was e is then with_queue is was.queue else is)

pub drops_a_fourth_character_refused : Told drops_a_fourth_character → ⊥
unfolding telling
drops_a_fourth_character_refused t = other_list t.replaced refl

-- a fourth character of A replaces the oldest
abbrev fourth_character_replaces_the_oldest : Happens
fourth_character_replaces_the_oldest =
    but_a (λ was e is.
    let q = is.queue in
    if overruns was e is
    then with_queue is
    (queue (set was.queue.entries 0 (third is)) 3 q.parity q.overrun)
    else is)

pub fourth_character_replaces_the_oldest_refused : Told fourth_character_replaces_the_oldest → ⊥
unfolding telling
fourth_character_replaces_the_oldest_refused t = other_list t.replaced refl

-- an entry of A that overran has no parity mark
abbrev overrun_hides_parity : Happens
overrun_hides_parity =
    but_a (λ was e is. with_entries is (λ x. record {
      byte = x.byte;
      parity = x.parity && not x.overrun;
      overrun = x.overrun;
      framing = x.framing;
      ends = x.ends;
      bad = x.bad;
    }))

pub overrun_hides_parity_refused : Told overrun_hides_parity → ⊥
unfolding telling
overrun_hides_parity_refused t = other_number t.marks_kept refl

-- D4 of A's RR1 is latched when a wrong character comes, though others wait
abbrev d4_comes_with_the_character : Happens
d4_comes_with_the_character =
    but_a (λ was e is.
    if is_queued 0 was e is && (get_or is.queue.entries was.queue.count no_entry).parity
    then with_latches is true is.queue.overrun
    else is)

pub d4_comes_with_the_character_refused : Told d4_comes_with_the_character → ⊥
unfolding telling
d4_comes_with_the_character_refused t = other_number t.not_oldest refl

-- D4 and D5 of A's RR1 are not latched by the entry that a data read makes the oldest
abbrev next_entry_latches_nothing : Happens
next_entry_latches_nothing =
    but_a (λ was e is.
    if is_take 0 e
    then with_latches is was.queue.parity was.queue.overrun
    else is)

pub next_entry_latches_nothing_refused : Told next_entry_latches_nothing → ⊥
unfolding telling
next_entry_latches_nothing_refused t = other_number t.oldest refl

-- D4 and D5 of A's RR1 are not latched by an entry that comes to an empty queue
abbrev first_entry_latches_nothing : Happens
first_entry_latches_nothing =
    but_a (λ was e is.
    if is_queued 0 was e is && eqb was.queue.count 0
    then with_latches is was.queue.parity was.queue.overrun
    else is)

pub first_entry_latches_nothing_refused : Told first_entry_latches_nothing → ⊥
unfolding telling
first_entry_latches_nothing_refused t = other_number t.latched refl

-- D4 and D5 of A's RR1 follow the oldest entry
abbrev d4_is_the_oldest_entrys : Happens
d4_is_the_oldest_entrys =
    but_a (λ was e is.
    if is_take 0 e
    then with_latches is (oldest is.queue).parity (oldest is.queue).overrun
    else is)

pub d4_is_the_oldest_entrys_refused : Told d4_is_the_oldest_entrys → ⊥
unfolding telling
d4_is_the_oldest_entrys_refused t = other_number t.latched refl

-- Error Reset clears D4 of A's RR1 alone
abbrev error_reset_leaves_d5 : Happens
error_reset_leaves_d5 =
    but_a (λ was e is.
    if is_command 0 6 was e
    then with_latches is is.queue.parity was.queue.overrun
    else is)

pub error_reset_leaves_d5_refused : Told error_reset_leaves_d5 → ⊥
unfolding telling
error_reset_leaves_d5_refused t = other_number t.error_reset_lem refl
