-- 01, Receiving: the paragraph on SDLC, a bit at a time. Every receiver is accepted, also one that
-- no history made. Assumes nothing.
use Rattle.std.specs.Prelude.{Option, Some, None, is_none, option_map, Bool, true, false, not, ◌&&◌, ◌||◌, ℕ, ◌+◌, ◌*◌, ◌/◌, ◌%◌, eqb, ltb, if◌then◌else◌}
use Rattle.line.specs.Bits.{odd, one_if}
use Rattle.line.specs.Check.{sdlc, ones, check_step, remainder}
use Rattle.entry.specs.Entry.{plain_entry}
use Rattle.entry.specs.declared.Entry.{Entry}
use Rattle.sdlc.specs.declared.Addressing.{Addressing}
use Rattle.sdlc.specs.declared.Chars.{Chars}
use Rattle.sdlc.specs.declared.Content.{Content}
use Rattle.sdlc.specs.declared.Listener.{Listener}
use Rattle.sdlc.specs.declared.Listened.{Listened}

-- The parts of a receiver

-- behind the delay: n bits of a character in p; a whole one is held, or none
abbrev pub chars : ℕ → ℕ → Option ℕ → Chars
chars n p h = record { count = n; part = p; held = h }

-- no bit of a character and none held
abbrev pub no_chars : Chars
no_chars = chars 0 0 None

-- the delay is a number: the bits in it, under a leading one; with seven bits it is at least this
abbrev pub empty_delay : ℕ
empty_delay = 1

abbrev pub full_delay : ℕ
full_delay = 128

abbrev pub content : Bool → Bool → ℕ → ℕ → Chars → Content
content h s o d c = record { hunt = h; skip = s; ones = o; delay = d; chars = c }

-- nothing has been heard of a frame
abbrev pub content_at : Bool → Bool → ℕ → Content
content_at h s o = content h s o empty_delay no_chars

abbrev pub heard_so : Content → ℕ → Bool → Listener
heard_so c k x = record { content = c; check = k; broken = x }

-- between two flags: o ones in a row, the delay d, characters c, the check k; D7 is x
abbrev pub listener : ℕ → ℕ → Chars → ℕ → Bool → Listener
listener o d c k x = heard_so (content false false o d c) k x

-- the frame is dropped until a flag
abbrev pub dropping : ℕ → ℕ → Bool → Listener
dropping o k x = heard_so (content_at false true o) k x

-- of the content only the ones in a row change
abbrev pub with_ones : Listener → ℕ → Bool → Listener
with_ones s o x =
    let c = s.content in heard_so (content c.hunt c.skip o c.delay c.chars) s.check x

-- what a tick gives: the receiver, and an entry for the queue or none
abbrev pub listened : Listener → Option Entry → Listened
listened s e = record { listener = s; entry = e }

abbrev pub unheard : Listener → Listened
unheard s = listened s None

-- Bits and characters

-- ones in a row; more than an abort's seven are counted as seven
abbrev pub ones_counted : ℕ → ℕ
ones_counted o = if ltb o 7 then o + 1 else 7

-- "byte (low bit first)": a bit enters from above
abbrev pub shift_in : Bool → ℕ → ℕ
shift_in b p = p / 2 + one_if b * 128

-- "In SDLC all characters have eight bits": the place of the last
abbrev pub last_bit : ℕ
last_bit = 7

-- "a seven-bit delay": a bit enters behind the others; a full one gives its oldest
abbrev pub appended : ℕ → Bool → ℕ
appended d b = d * 2 + one_if b

abbrev pub spilled : ℕ → Bool → ℕ
spilled d b = full_delay + d % 64 * 2 + one_if b

abbrev pub oldest_bit : ℕ → Bool
oldest_bit d = odd (d / 64)

-- the address that every station takes for its own
abbrev pub everyone : ℕ
everyone = 0xFF

-- "Address search, applied when the first byte has left the delay, drops a frame if that byte is
-- neither WR6 nor FF": it is the first if none is held
abbrev pub wrong : Addressing → Option ℕ → ℕ → Bool
wrong g h v = g.search && (is_none h && (not (eqb v g.address) && not (eqb v everyone)))

-- "A character is queued when the next has left the delay": the one held, if one is; it has no mark
abbrev pub unmarked : Option ℕ → Option Entry
unmarked h = option_map (λ v. plain_entry v false false) h

-- a bit leaves the delay behind the characters c. The check is k; o ones in a row, D7 and the delay
-- are then these
unfoldable pub accept : Addressing → Chars → ℕ → ℕ → Bool → ℕ → Bool → Listened
accept g c k o x d b =
    let v = shift_in b c.part in
    let n = check_step sdlc k b in
    if ltb c.count last_bit
    then unheard (listener o d (chars (c.count + 1) v c.held) n x)
    else (if wrong g c.held v then unheard (dropping o n x)
    else listened (listener o d (chars 0 0 (Some v)) n x) (unmarked c.held))

-- a bit of content: "through a seven-bit delay so that flag bits never enter". o ones in a row
-- stand behind it; D7 is x
unfoldable pub push : Addressing → Listener → ℕ → Bool → Bool → Listened
push g s o x b =
    let d = s.content.delay in
    let c = s.content.chars in
    if ltb d full_delay then unheard (listener o (appended d b) c s.check x)
    else accept g c s.check o x (spilled d b) (oldest_bit d)

-- in hunt, or the frame is dropped
abbrev pub deaf : Content → Bool
deaf c = c.hunt || c.skip

-- "or at the flag with the end mark. Its check is good when content is whole bytes and the
-- remainder from ones is 1D0F hex"
abbrev pub closing : Chars → ℕ → Option Entry
closing c k =
    option_map (λ v. plain_entry v true (not (eqb c.count 0 && eqb k remainder))) c.held

-- what every flag leaves: "a flag ends hunt", "Each flag presets this check"
abbrev pub past_flag : Listener
past_flag = heard_so (content_at false false 0) ones false

-- A tick

-- a 1: "a seventh one is an abort (outside hunt): D7 sets until the next 0, and the frame is
-- dropped until a flag"
unfoldable pub one : Addressing → Listener → Listened
one g s =
    let c = s.content in
    if c.hunt then unheard (with_ones s (ones_counted c.ones) s.broken)
    else (if ltb c.ones 6
    then (if c.skip then unheard (with_ones s (c.ones + 1) s.broken)
    else push g s (c.ones + 1) s.broken true)
    else unheard (dropping 7 s.check true))

-- a 0: "a 0 after five ones is dropped, after six it ends a flag"
unfoldable pub zero_bit : Addressing → Listener → Listened
zero_bit g s =
    let c = s.content in
    if eqb c.ones 6
    then listened past_flag (if deaf c then None else closing c.chars s.check)
    else (if deaf c then unheard (with_ones s 0 false)
    else (if eqb c.ones 5 then unheard (with_ones s 0 false)
    else push g s 0 false false))

unfoldable pub hear_sdlc : Addressing → Listener → Bool → Listened
hear_sdlc g s b = if b then one g s else zero_bit g s
