-- The line of a list that a station sends: behind the first flag it is the notes' frames, joined as
-- the choice says, whatever the chip was. Assumes nothing.
use Rattle.std.specs.Prelude.{◌≡◌, refl, Bool, true, false, not, ◌&&◌, List, [], ◌∷◌, ◌++◌, ℕ, length, drop, if◌then◌else◌}
use Rattle.std.proofs.Common.{ap, ap₂, ◌∙◌, append_assoc}
use Rattle.common.specs.Tools.{void}
use Rattle.line.specs.Frame.{flag_bits}
use Rattle.shared.specs.Shared.{full}
use Rattle.flags.specs.declared.Between.{Between}
use Rattle.flags.specs.declared.Between.TheVariants.{SharedFlag, TwoFlags}
use Rattle.flags.specs.Flags as flags
use Rattle.flags.specs.Flags.{own_flag, next_frames, line_behind, list_line}
use Rattle.notes.specs.NoteList.{AllFit, fits_more}
use Rattle.shared.specs.declared.Shared.{Shared}
use Rattle.sdlc.specs.declared.LineUnit.{LineUnit}
use Rattle.sdlc.specs.declared.LineUnit.TheVariants.{Mark}
use Rattle.sdlc.specs.declared.Framer.{Framer}
use Rattle.sdlc.specs.Sending.{aborting}
use Rattle.sender.specs.declared.Sending.{Sending}
use Rattle.sender.specs.Sender.{framer_in}
use Rattle.sender.specs.Good.{Good}
use Rattle.chip.specs.declared.Chip.{Chip}
use Rattle.chip.specs.Chip.{hard_reset, control_read_call}
use Rattle.chip.specs.Computing.{computing}
use Rattle.feed.specs.Feeding.{flag_sent, after_ticks}
use Rattle.feed.specs.Laws.Feeding.{if_true}
use Rattle.drive.specs.Drive.{look_a, can_send, stands_still, set_up, freed, prepared, ticks_to_flag}
use Rattle.settings.specs.Bytes.{send_abort}
use Rattle.drive.specs.Drive.{control_a, driven, driven_line, frame_opened, ticks_left}
use Rattle.drive.specs.Drive.{sent_by}
use Rattle.drive.proofs.Laws.Calls.{sending_a, Stands, stands_as, set_up_stands}
use Rattle.drive.proofs.Laws.Look.{look_same}
use Rattle.drive.proofs.Laws.Frame.{flag_before, opens, flag_again, beginning}
use Rattle.drive.proofs.Laws.Frame.{frame_stage, come_length, sent_stands, frame_sent}
use Rattle.listline.specs.ListLine.{flagged, sent_next, sent_all}
use Rattle.listline.specs.ListLine.{note_line, flag_line, next_lines, all_line}
use Rattle.listline.proofs.Laws.Empty.{rests}

-- Behind a flag

-- a chip that has sent a frame, or a flag behind one: no byte waits
record Behind (c : Chip) : Type 0 where
  own : Shared
  stands : Stands c (flag_sent own)
  empty : full own ≡ false

-- nothing is done to prepare it
good_can : (g : Sending) → Good g → can_send g ≡ true
unfolding can_send
good_can g h = rw (h.sdlc_mode_lem, h.on, h.included, h.no_break)

prepared_same : (c : Chip) → Behind c → prepared c ≡ c
unfolding prepared freed stands_still
prepared_same c b =
    let h = b.stands in
    let still : Framer → Bool = λ s. stands_still (framer_in c.a.sender s) in
    ap (λ (d : Chip). freed d (sending_a d) d.a.sender) (look_same c h.pointer)
    ∙ if_true _ _ (ap₂ ◌&&◌ (good_can (sending_a c) h.good) (ap still h.sends))

-- the line of a note behind a flag is its frame behind its opening flag
frame_line : (c : Chip) (v : ℕ) (vs : List ℕ)
    → driven_line (ticks_left (v ∷ vs)) (frame_opened c v) vs ≡ flags.behind_flag (v ∷ vs)
frame_line c v vs = ap (drop (length flag_bits)) (frame_sent c v vs)

note_line_lem : (c : Chip) (v : ℕ) (vs : List ℕ) → Behind c
    → note_line c (v ∷ vs) ≡ flags.behind_flag (v ∷ vs)
unfolding driven_line
note_line_lem c v vs b =
    let driven = driven_line (ticks_left (v ∷ vs)) (frame_opened c v) vs in
    let unit = ap (λ (s : Framer). s.unit) b.stands.sends in
    ap (λ (d : Chip). driven_line (ticks_to_flag d.a.sender.unit) d [] ++ driven)
    (prepared_same c b)
    ∙ ap (λ (u : LineUnit). driven_line (ticks_to_flag u) c [] ++ driven) unit
    ∙ frame_line c v vs

sent_behind : (c : Chip) (v : ℕ) (vs : List ℕ) → Behind (sent_by c (v ∷ vs))
unfolding sent_by
sent_behind c v vs =
    let n = ticks_left (v ∷ vs) in
    let r = rests n vs (frame_stage v vs) (λ l. void l) (come_length v vs) in
    record {
      own = (after_ticks n (beginning v) vs).shared;
      stands = stands_as (sent_stands c v n vs) r.behind;
      empty = r.empty;
    }

flagged_behind : (between : Between) (c : Chip) → Behind c
    → (flag_line between c ≡ own_flag between) × Behind (flagged between c)
unfolding driven driven_line
flagged_behind SharedFlag c b = (refl, b)
flagged_behind TwoFlags c b =
    let r = flag_again b.own c b.stands b.empty in
    (r.line, record { own = b.own; stands = r.stands; empty = b.empty })

-- The notes that follow, and all of them

-- the next note is sent behind the flag that goes before it
sent_next_lem : (between : Between) (c : Chip) (note : List ℕ)
    → sent_next between c note ≡ sent_by (flagged between c) note
sent_next_lem between c note = refl

next_lines_lem : (between : Between) (c : Chip) (notes : List (List ℕ)) → AllFit notes → Behind c
    → next_lines between c notes ≡ next_frames between notes
unfolding next_lines next_frames
next_lines_lem between c [] fit b = refl
next_lines_lem between c ([] ∷ notes) (fits_more f fit) b = void f
next_lines_lem between c ((v ∷ vs) ∷ notes) (fits_more f fit) b =
    let d = flagged between c in
    let g = flagged_behind between c b in
    ap₂ ◌++◌ (ap₂ ◌++◌ g.0 (note_line_lem d v vs g.1))
    (ap (λ (e : Chip). next_lines between e notes) (sent_next_lem between c (v ∷ vs))
    ∙ next_lines_lem between (sent_by d (v ∷ vs)) notes fit (sent_behind d v vs))

-- a chip that cannot send is set up, and stands behind a mark
anew : (c : Chip) → can_send (sending_a (look_a c)) ≡ false → (prepared c).a.sender.unit ≡ Mark
unfolding prepared freed look_a control_read_call
anew c e =
    let d = look_a c in
    let s = d.a.sender in
    let free = not (aborting s.unit) in
    let is : Bool → Chip = λ b. if b && stands_still s then d
    else (if b && free then control_a d send_abort else set_up d) in
    ap (λ (b : Bool). (is b).a.sender.unit) e
    ∙ ap (λ (f : Framer). f.unit) (set_up_stands d refl).sends

-- each is sent by the chip that has sent the one before
pub sent_second : (between : Between) (c : Chip) (first second : List ℕ)
    → sent_all between c (first ∷ second ∷ []) ≡ sent_next between (sent_by c first) second
sent_second between c first second = refl

-- Whatever the chip was: the bits up to a flag's end, then the notes' frames
pub list_line_lem : (between : Between) (c : Chip) (note : List ℕ) (notes : List (List ℕ))
    → AllFit (note ∷ notes)
    → all_line between c (note ∷ notes)
    ≡ flag_before (prepared c).a.sender.unit ++ line_behind between (note ∷ notes)
list_line_lem between c [] notes (fits_more f fit) = void f
list_line_lem between c (v ∷ vs) notes (fits_more f fit) =
    let before = flag_before (prepared c).a.sender.unit in
    let after = next_lines between (sent_by c (v ∷ vs)) notes in
    ap (λ (bits : List Bool). bits ++ after) (ap₂ ◌++◌ (opens c).line (frame_line c v vs))
    ∙ append_assoc before (flags.behind_flag (v ∷ vs)) after
    ∙ ap (λ (bits : List Bool). before ++ (flags.behind_flag (v ∷ vs) ++ bits))
    (next_lines_lem between (sent_by c (v ∷ vs)) notes fit (sent_behind c v vs))

-- A chip that cannot send is set up anew, and so is a reset one: the line is that of the list
pub list_line_anew : (between : Between) (c : Chip) (note : List ℕ) (notes : List (List ℕ))
    → AllFit (note ∷ notes) → can_send (sending_a (look_a c)) ≡ false
    → all_line between c (note ∷ notes) ≡ list_line between (note ∷ notes)
list_line_anew between c note notes fit e =
    list_line_lem between c note notes fit
    ∙ ap (λ (u : LineUnit). flag_before u ++ line_behind between (note ∷ notes)) (anew c e)

pub list_line_reset : (between : Between) (note : List ℕ) (notes : List (List ℕ))
    → AllFit (note ∷ notes)
    → all_line between hard_reset (note ∷ notes) ≡ list_line between (note ∷ notes)
unfolding computing look_a can_send
list_line_reset between note notes fit = list_line_anew between hard_reset note notes fit refl
