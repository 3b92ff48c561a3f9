-- The chip meets the receiving side: what a receive tick and a data read of a channel do to it, and
-- what the reads answer. Assumes nothing.
use Rattle.std.specs.Prelude.{Option, Some, None, is_none, option_to_list, IfSome, ◌≡◌, Bool, true, false}
use Rattle.std.specs.Prelude.{not, ◌&&◌, ◌||◌, List, [], ◌∷◌, ◌++◌, ℕ, eqb, ltb, if◌then◌else◌}
use Rattle.std.proofs.Math.Path.{refl}
use Rattle.std.proofs.Common.{sym, ap, ap₂, ◌∙◌, append-nil}
use Rattle.common.specs.Tools.{by_test, bool_or, void}
use Rattle.common.specs.declared.Mode.TheVariants.{Sdlc}
use Rattle.entry.specs.declared.Entry.{Entry}
use Rattle.queue.specs.declared.Queue.{Queue}
use Rattle.queue.specs.Queue.{room, taken, oldest, waits}
use Rattle.queue.specs.Holding.{Plain, Holds, entry_if}
use Rattle.queue.specs.Laws.{push_holds}
use Rattle.sdlc.specs.Hearing.{hear_sdlc}
use Rattle.receiver.specs.declared.Heard.{Heard}
use Rattle.receiver.specs.declared.Receiver.{Receiver}
use Rattle.receiver.specs.declared.Receiving.{Receiving}
use Rattle.receiver.specs.Receiver.{listener_of}
use Rattle.receiver.specs.Laws.Tick.{hear_sdlc_lem}
use Rattle.channel.specs.declared.Answer.{Answer}
use Rattle.channel.specs.declared.Answered.{Answered}
use Rattle.channel.specs.declared.Channel.{Channel}
use Rattle.channel.specs.Channel.{settled}
use Rattle.channel.specs.Events.{data_read, queued, receive_tick}
use Rattle.chip.specs.declared.Chip.{Chip}
use Rattle.chip.specs.Event.{Event}
use Rattle.stories.specs.Story.{Which, chan, happens}
use Rattle.stories.specs.Received.{ToReceiver, Hears, Reads, Else, to_receiver}
use Rattle.stories.specs.Received.{is_read, taking, value_if, values_of, took_of, bytes_of}
use Rattle.history.specs.Quiet.{part_in}
use Rattle.history.specs.Receiving.Side.{Heeded, heeded, Side, side, receiving_in, part}
use Rattle.history.specs.Receiving.Side.{side_in, side_of}
use Rattle.history.specs.Receiving.Roles.{by_role}
use Rattle.history.specs.Receiving.Quiet.{heard_part}

-- what a tick hands over finds room
abbrev pub room_if : Option Entry → Queue → Bool
room_if e q = is_none e || ltb q.count room

abbrev pub heard_side : Bool → Side → Side
heard_side b x =
    let h = hear_sdlc x.settings.addressing x.listener b in
    side h.listener (queued x.queue h.entry) x.settings

abbrev pub read_side : Side → Side
read_side x = side x.listener (taken x.queue) x.settings

-- SDLC, and on
pub record Hearing (g : Heeded) : Type 0 where
  pub mode : g.mode ≡ Sdlc
  pub on : g.on ≡ true

heard_in_lem : (c : Channel) (b : Bool) → Hearing (side_in c).settings
    → side_in (receive_tick c b) ≡ heard_side b (side_in c)
unfolding receive_tick settled
heard_in_lem c b h =
    let g = receiving_in c in
    ap (λ (x : Heard). side (listener_of x.receiver) (queued c.queue x.entry) (heeded g))
    (hear_sdlc_lem g c.receiver b h.mode h.on)

-- with none waiting a read changes nothing
taken_none : (q : Queue) → waits q ≡ false → taken q ≡ q
unfolding taken
taken_none q e =
    by_test (λ (x : Queue). x ≡ q) (eqb q.count 0) (λ t. refl) (λ t. void (sym e ∙ ap not t))

-- the queue takes what a tick hands over, if there is room for it
pub queue_takes : {p o : Bool} {q : Queue} {es : List Entry} (x : Option Entry)
    → Holds p o q es → room_if x q ≡ true → IfSome x Plain
    → Holds p o (queued q x) (es ++ option_to_list x)
queue_takes (Some x) k r e = push_holds k r e
queue_takes {es = es} None k r e = rw (append-nil es) k

-- a read, for every part that receiver and queue say
pub read_in : {X : Type 0} (g : Receiving → Receiver → Queue → X) (c : Channel)
    → part_in (heard_part g) (data_read c).channel
    ≡ g (receiving_in c) c.receiver (taken c.queue)
unfolding data_read
read_in g c =
    by_test (λ (d : Answered). part_in (heard_part g) d.channel
    ≡ g (receiving_in c) c.receiver (taken c.queue))
    (waits c.queue) (λ e. refl)
    (λ e. ap (g (receiving_in c) c.receiver) (sym (taken_none c.queue e)))

-- what an event's role says of such a part behind it, `heard` being what a tick makes of it
abbrev pub FollowsIn : {X : Type 0} → (Receiving → Receiver → Queue → X) → (Bool → X) → Channel
    → Channel → ToReceiver → Type 0
FollowsIn g heard c d (Hears b) = part_in (heard_part g) d ≡ heard b
FollowsIn g heard c d Reads =
    part_in (heard_part g) d ≡ g (receiving_in c) c.receiver (taken c.queue)
FollowsIn g heard c d Else = Unit

pub follows_in : {X : Type 0} (g : Receiving → Receiver → Queue → X) (heard : Bool → X) (w : Which)
    (c : Chip) → ((b : Bool) → part_in (heard_part g) (receive_tick (chan w c) b) ≡ heard b)
    → (e : Event)
    → FollowsIn g heard (chan w c) (chan w (happens c e).chip) (to_receiver w e)
follows_in g heard w c h e =
    by_role w c (λ x r. FollowsIn g heard (chan w c) x.channel r) (λ x. tt) h
    (read_in g (chan w c)) e

abbrev pub Follows : Which → Chip → Chip → ToReceiver → Type 0
Follows w c d r = FollowsIn part (λ b. heard_side b (side_of w c)) (chan w c) (chan w d) r

pub follows : (w : Which) (c : Chip) (e : Event) → Hearing (side_of w c).settings
    → Follows w c (happens c e).chip (to_receiver w e)
follows w c e h =
    follows_in part (λ b. heard_side b (side_of w c)) w c (λ b. heard_in_lem (chan w c) b h) e

-- what the reads answered are the bytes of the entries that they took

pub bytes_append : (xs ys : List Entry) → bytes_of (xs ++ ys) ≡ bytes_of xs ++ bytes_of ys
unfolding bytes_of
bytes_append [] ys = refl
bytes_append (x ∷ xs) ys = ap (λ (l : List ℕ). x.byte ∷ l) (bytes_append xs ys)

abbrev Answers : Channel → Answer → ToReceiver → Type 0
Answers c a r =
    bytes_of (entry_if (is_read r && waits c.queue) (oldest c.queue)) ≡ value_if (is_read r) a

read_gives : (c : Channel) → Answers c (data_read c).answer Reads
unfolding bytes_of data_read
read_gives c = bool_or (waits c.queue) (λ e. rw e) (λ e. rw e)

answers : (w : Which) (c : Chip) (e : Event)
    → Answers (chan w c) (happens c e).answer (to_receiver w e)
unfolding bytes_of
answers w c e =
    by_role w c (λ x r. Answers (chan w c) x.answer r) (λ x. refl) (λ b. refl)
    (read_gives (chan w c)) e

pub values_are : (w : Which) (c : Chip) (st : List Event)
    → bytes_of (took_of w c st) ≡ values_of w c st
unfolding took_of values_of
values_are w c [] = unfold bytes_of in refl
values_are w c (e ∷ st) =
    bytes_append (entry_if (taking w c (to_receiver w e)) (oldest (chan w c).queue))
    (took_of w (happens c e).chip st)
    ∙ ap₂ (λ (x y : List ℕ). x ++ y) (answers w c e) (values_are w (happens c e).chip st)
