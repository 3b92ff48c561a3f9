-- A channel with one part of a part changed, for the making of wrong chips: the parts that have
-- more fields than a wrong chip wants to name. Assumes nothing.
use Rattle.std.specs.Prelude.{Bool, map, ℕ, Option}
use Rattle.line.specs.declared.Insertion.{Insertion}
use Rattle.entry.specs.declared.Entry.{Entry}
use Rattle.queue.specs.Queue.{queue}
use Rattle.shared.specs.Shared.{shared}
use Rattle.asynchronous.specs.declared.Character.{Character}
use Rattle.asynchronous.specs.declared.Assembly.{Assembly}
use Rattle.bytesync.specs.declared.Reception.{Reception}
use Rattle.sdlc.specs.declared.LineUnit.{LineUnit}
use Rattle.sdlc.specs.declared.Content.{Content}
use Rattle.sdlc.specs.declared.Chars.{Chars}
use Rattle.sdlc.specs.Hearing.{content}
use Rattle.sender.specs.Sender.{sender, with_shared}
use Rattle.receiver.specs.Receiver.{receiver}
use Rattle.status.specs.declared.Live.{Live}
use Rattle.status.specs.Status.{status}
use Rattle.settings.specs.Settings.{store1, store3, store4, store5, store6}
use Rattle.channel.specs.declared.Channel.{Channel}
use Rattle.channel.specs.Channel.{with_registers, with_sender, with_receiver, with_queue, with_status}

-- The registers

abbrev pub with_wr1 : Channel → ℕ → Channel
with_wr1 c v = with_registers c (store1 c.registers v)

abbrev pub with_wr3 : Channel → ℕ → Channel
with_wr3 c v = with_registers c (store3 c.registers v)

abbrev pub with_wr4 : Channel → ℕ → Channel
with_wr4 c v = with_registers c (store4 c.registers v)

abbrev pub with_wr5 : Channel → ℕ → Channel
with_wr5 c v = with_registers c (store5 c.registers v)

abbrev pub with_wr6 : Channel → ℕ → Channel
with_wr6 c v = with_registers c (store6 c.registers v)

-- The sender

abbrev pub with_unit : Channel → LineUnit → Channel
with_unit c u =
    let s = c.sender in
    with_sender c (sender u s.insertion s.character s.block s.shared)

abbrev pub with_insertion : Channel → Insertion → Channel
with_insertion c i =
    let s = c.sender in
    with_sender c (sender s.unit i s.character s.block s.shared)

abbrev pub with_character : Channel → Character → Channel
with_character c k =
    let s = c.sender in
    with_sender c (sender s.unit s.insertion k s.block s.shared)

abbrev pub with_buffer : Channel → Option ℕ → Channel
with_buffer c b =
    let k = c.sender.shared in
    with_sender c (with_shared c.sender (shared b k.latch k.check))

abbrev pub with_latch : Channel → Bool → Channel
with_latch c l =
    let k = c.sender.shared in
    with_sender c (with_shared c.sender (shared k.buffer l k.check))

abbrev pub with_sent_check : Channel → ℕ → Channel
with_sent_check c x =
    let k = c.sender.shared in
    with_sender c (with_shared c.sender (shared k.buffer k.latch x))

-- The receiver

abbrev pub with_content : Channel → Content → Channel
with_content c t =
    let v = c.receiver in
    with_receiver c (receiver t v.assembly v.reception v.check v.broken)

abbrev pub with_assembly : Channel → Assembly → Channel
with_assembly c a =
    let v = c.receiver in
    with_receiver c (receiver v.content a v.reception v.check v.broken)

abbrev pub with_reception : Channel → Reception → Channel
with_reception c r =
    let v = c.receiver in
    with_receiver c (receiver v.content v.assembly r v.check v.broken)

-- the parity that a character under way is judged by
abbrev pub with_parity : Channel → Bool → Bool → Channel
with_parity c p e =
    let a = c.receiver.assembly in
    with_assembly c (record {
      wait = a.wait;
      left = a.left;
      bits = a.bits;
      weight = a.weight;
      odd = a.odd;
      blank = a.blank;
      parity = p;
      even = e;
    })

-- the bits that a character under way has
abbrev pub with_heard_bits : Channel → ℕ → Channel
with_heard_bits c v =
    let a = c.receiver.assembly in
    with_assembly c (record {
      wait = a.wait;
      left = a.left;
      bits = v;
      weight = a.weight;
      odd = a.odd;
      blank = a.blank;
      parity = a.parity;
      even = a.even;
    })

abbrev pub with_heard_check : Channel → ℕ → Channel
with_heard_check c k =
    let v = c.receiver in
    with_receiver c (receiver v.content v.assembly v.reception k v.broken)

-- D7 of RR0, as it now is
abbrev pub with_broken : Channel → Bool → Channel
with_broken c x =
    let v = c.receiver in
    with_receiver c (receiver v.content v.assembly v.reception v.check x)

abbrev pub with_hunt : Channel → Bool → Channel
with_hunt c h =
    let t = c.receiver.content in
    with_content c (content h t.skip t.ones t.delay t.chars)

abbrev pub with_skip : Channel → Bool → Channel
with_skip c s =
    let t = c.receiver.content in
    with_content c (content t.hunt s t.ones t.delay t.chars)

abbrev pub with_ones : Channel → ℕ → Channel
with_ones c o =
    let t = c.receiver.content in
    with_content c (content t.hunt t.skip o t.delay t.chars)

abbrev pub with_delay : Channel → ℕ → Channel
with_delay c d =
    let t = c.receiver.content in
    with_content c (content t.hunt t.skip t.ones d t.chars)

abbrev pub with_chars : Channel → Chars → Channel
with_chars c k =
    let t = c.receiver.content in
    with_content c (content t.hunt t.skip t.ones t.delay k)

-- The queue and the status

-- every entry that waits, changed so
abbrev pub with_entries : Channel → (Entry → Entry) → Channel
with_entries c f =
    let q = c.queue in
    with_queue c (queue (map f q.entries) q.count q.parity q.overrun)

-- D4 and D5 of RR1
abbrev pub with_latches : Channel → Bool → Bool → Channel
with_latches c p o =
    let q = c.queue in
    with_queue c (queue q.entries q.count p o)

abbrev pub with_latched : Channel → Option Live → Channel
with_latched c l = with_status c (status l)
