-- What a station's ticks put on the line: a flag, then the note's frame behind it. Demand 3 at
-- work, by the laws of what is to come. Assumes nothing.
use Rattle.std.specs.Prelude.{◌≡◌, refl, Some, Bool, true, false, List, [], ◌∷◌, ◌++◌, length, replicate}
use Rattle.std.proofs.Common.{sym, ap, subst, ◌∙◌, arith, sub-one, length-append}
use Prim.Native.Nat.{ℕ, zero, suc, ◌+◌, ◌-◌, ◌≤◌, ◌<◌}
use Rattle.common.specs.Tools.{void}
use Rattle.line.specs.Check.{ones}
use Rattle.line.specs.Frame.{flag_bits, frame}
use Rattle.line.specs.declared.Insertion.{Insertion}
use Rattle.shared.specs.declared.Shared.{Shared}
use Rattle.shared.specs.Shared.{shared, full}
use Rattle.sdlc.specs.declared.LineUnit.{LineUnit}
use Rattle.sdlc.specs.declared.LineUnit.TheVariants.{Mark, Flag, Byte, Check, Abort}
use Rattle.sdlc.specs.declared.Framer.{Framer}
use Rattle.sdlc.specs.declared.Framed.{Framed}
use Rattle.sdlc.specs.Sending.{not_counted, framer, framed, tick_sdlc}
use Rattle.sdlc.specs.Laws.Tick.{tick_flag, tick_abort, tick_chooses}
use Rattle.sdlc.specs.Laws.Tick.{next_mark, next_abort, next_flag_empty}
use Rattle.whole.specs.Come.{good, flag_tail, to_come}
use Rattle.whole.specs.Stage.{Stage}
use Rattle.whole.specs.Start.{frame_ended}
use Rattle.whole.specs.Laws.Come.{moves}
use Rattle.whole.specs.Laws.Start.{at_start, start_stage}
use Rattle.chip.specs.declared.Chip.{Chip}
use Rattle.chip.specs.Chip.{data_write_call}
use Rattle.feed.specs.Feeding.{after_ticks, ticks_line, flag_sent}
use Rattle.feed.specs.Laws.Feeding.{ends}
use Rattle.drive.specs.Drive.{between_frames, write_a, tick_a, offer, driven, driven_line}
use Rattle.drive.specs.Drive.{prepared, ticks_to_flag, flag_ended, frame_opened, ticks_left}
use Rattle.drive.specs.Framer.{chip_with}
use Rattle.drive.proofs.Laws.Calls.{Stands, stands_as, tick_stands, bit_stands, write_stands}
use Rattle.drive.proofs.Laws.Calls.{preset_stands, clear_stands, prepared_well}
use Rattle.drive.proofs.Laws.Framer.{driven_with, line_with, own_framer}

-- Up to a flag's end

-- one tick without a byte to write, and none
pub driven_step : (n : ℕ) (c : Chip) → 0 < n → driven n c [] ≡ driven (n - 1) (tick_a c) []
unfolding driven offer
driven_step zero c h = absurd (omega arith)
driven_step (suc n) c h = rw sub-one

pub driven_none : (n : ℕ) (c : Chip) → n ≤ 0 → driven n c [] ≡ c
unfolding driven
driven_none zero c h = refl
driven_none (suc n) c h = absurd (omega arith)

-- what `n` ticks without a byte to write put on the line, and the sender after them
pub record RunsTo (n : ℕ) (c : Chip) (bits : List Bool) (s : Framer) : Type 0 where
  pub line : driven_line n c [] ≡ bits
  pub stands : Stands (driven n c []) s

runs_on : {n : ℕ} {c : Chip} {s t e : Framer} {b l : Bool} {bits : List Bool} → Stands c s
    → tick_sdlc good s ≡ framed b l t → (Stands (tick_a c) t → RunsTo n (tick_a c) bits e)
    → RunsTo (suc n) c (b ∷ bits) e
unfolding driven driven_line offer
runs_on {n} {c} {b = b} h k r =
    let x = r (stands_as (tick_stands h) (ap (λ (y : Framed). y.framer) k)) in
    let bit = bit_stands h ∙ ap (λ (y : Framed). y.bit) k in
    record {
      line = ap (λ (y : Bool). y ∷ driven_line n (tick_a c) []) bit
          ∙ ap (λ (y : List Bool). b ∷ y) x.line;
      stands = x.stands;
    }

-- the bits up to the flag's end: what is left of an abort, and the flag or what is left of it
abbrev pub flag_before : LineUnit → List Bool
flag_before Mark = flag_bits
flag_before (Flag n) = flag_tail n
flag_before (Byte n v) = []
flag_before (Check n v) = []
flag_before (Abort n) = replicate n true ++ flag_bits

module _ (k : Shared) where
  abbrev still : LineUnit → Framer
  still u = framer u not_counted k

  flag_ends_lem : (n : ℕ) (c : Chip) → Stands c (still (Flag n))
      → RunsTo n c (flag_tail n) (flag_sent k)
  unfolding driven_line driven
  flag_ends_lem zero c h = record { line = refl; stands = h }
  flag_ends_lem (suc n) c h = runs_on h (tick_flag good k n 0) (flag_ends_lem n (tick_a c))

  mark_ends : (c : Chip) → Stands c (still Mark) → RunsTo 8 c flag_bits (flag_sent k)
  mark_ends c h =
      runs_on h (tick_chooses good 0 k Mark refl ∙ next_mark good 0 k refl) (flag_ends_lem 7 (tick_a c))

  -- while no byte waits a flag follows a flag
  pub flag_again : (c : Chip) → Stands c (flag_sent k) → full k ≡ false
      → RunsTo 8 c flag_bits (flag_sent k)
  flag_again c h e =
      runs_on h (tick_chooses good 0 k (Flag 0) refl ∙ next_flag_empty good 0 k refl 0 e)
      (flag_ends_lem 7 (tick_a c))

  abort_ends : (n : ℕ) (c : Chip) → Stands c (still (Abort n))
      → RunsTo (n + 8) c (replicate n true ++ flag_bits) (flag_sent k)
  abort_ends zero c h =
      runs_on h (tick_chooses good 0 k (Abort 0) refl ∙ next_abort good 0 k refl 0)
      (flag_ends_lem 7 (tick_a c))
  abort_ends (suc n) c h =
      let e : suc (n + 8) ≡ suc n + 8 = omega arith in
      subst (λ (m : ℕ). RunsTo m c (true ∷ (replicate n true ++ flag_bits)) (flag_sent k)) e
      (runs_on h (tick_abort good k n 0) (abort_ends n (tick_a c)))

  unit_ends : (u : LineUnit) (c : Chip) → between_frames u ≡ true → Stands c (still u)
      → RunsTo (ticks_to_flag u) c (flag_before u) (flag_sent k)
  unit_ends Mark c e h = mark_ends c h
  unit_ends (Flag n) c e h = flag_ends_lem n c h
  unit_ends (Byte n v) c e h = void e
  unit_ends (Check n v) c e h = void e
  unit_ends (Abort n) c e h = abort_ends n c h

-- whatever the chip was: a flag has ended, and the sender waits behind it with the buffer, latch
-- and check that it had
pub opens : (c : Chip) → let d = prepared c in
    let s = d.a.sender in
    RunsTo (ticks_to_flag s.unit) d (flag_before s.unit) (flag_sent s.shared)
opens c =
    let d = prepared c in
    let w = prepared_well c in
    let s = d.a.sender in
    let rest = ap (λ (i : Insertion). framer s.unit i s.shared) w.rests.still in
    unit_ends s.shared s.unit d w.rests.between (stands_as w.stands rest)

-- The frame

-- it can begin: the first byte waits, the check is ones, the latch is clear
abbrev pub beginning : ℕ → Framer
beginning v = flag_sent (shared (Some v) false ones)

pub begins : (c : Chip) (v : ℕ) → Stands (frame_opened c v) (beginning v)
unfolding frame_opened flag_ended
begins c v = write_stands (clear_stands (preset_stands (opens c).stands)) v

written_ends : (c : Chip) (v : ℕ) → (frame_opened c v).a.transmit ≡ false
unfolding frame_opened write_a data_write_call
written_ends c v = refl

-- so its ticks are those of the SDLC sender alone
module _ (c : Chip) (v : ℕ) where
  abbrev opened : Chip
  opened = frame_opened c v

  latch_clear : opened.a.sender.shared.latch ≡ false
  latch_clear = ap (λ (s : Framer). s.shared.latch) (begins c v).sends

  opened_as : opened ≡ chip_with opened (beginning v)
  opened_as =
      let waits = ap (λ (s : Framer). full s.shared) (begins c v).sends in
      sym (own_framer opened (written_ends c v) waits) ∙ ap (chip_with opened) (begins c v).sends

  pub driven_frame : (n : ℕ) (vs : List ℕ)
      → driven n opened vs ≡ chip_with opened (after_ticks n (beginning v) vs)
  driven_frame n vs =
      ap (λ (d : Chip). driven n d vs) opened_as
      ∙ driven_with opened (begins c v).pointer (begins c v).good latch_clear n (beginning v) vs

  driven_line_lem : (n : ℕ) (vs : List ℕ) → driven_line n opened vs ≡ ticks_line n (beginning v) vs
  driven_line_lem n vs =
      ap (λ (d : Chip). driven_line n d vs) opened_as
      ∙ line_with opened (begins c v).pointer (begins c v).good latch_clear n (beginning v) vs

-- the first byte waits: the rest of the frame is to come
pub frame_begins : (v : ℕ) (vs : List ℕ) → flag_bits ++ to_come (beginning v) vs ≡ frame (v ∷ vs)
frame_begins v vs =
    ap (λ (x : List Bool). flag_bits ++ x)
    (sym (moves (start_stage {a = false} 8 v vs (omega arith) (omega arith)) refl).0)
    ∙ at_start 8 (v ∷ vs) (omega arith) (omega arith)

pub frame_stage : (v : ℕ) (vs : List ℕ) → Stage false (beginning v) 7 vs
frame_stage v vs = (moves (start_stage 8 v vs (omega arith) (omega arith)) refl).1

pub come_length : (v : ℕ) (vs : List ℕ) → length (to_come (beginning v) vs) ≡ ticks_left (v ∷ vs)
come_length v vs =
    let bits = to_come (beginning v) vs in
    omega (arith, length-append flag_bits bits, ap length (frame_begins v vs))

-- as many ticks as bits are to come put them on the line, and leave the closing flag ended
pub record Drives (n : ℕ) (c : Chip) (rest : List ℕ) (bits : List Bool) : Type 0 where
  pub line : driven_line n c rest ≡ bits
  pub last : Framer
  pub stands : Stands (driven n c rest) last
  pub ended : frame_ended last ≡ true

pub sent_stands : (c : Chip) (v n : ℕ) (vs : List ℕ)
    → Stands (driven n (frame_opened c v) vs) (after_ticks n (beginning v) vs)
sent_stands c v n vs =
    let h = begins c v in
    subst (λ (d : Chip). Stands d (after_ticks n (beginning v) vs)) (sym (driven_frame c v n vs))
    (record { pointer = h.pointer; good = h.good; sends = refl })

-- Demand 3 at work: whatever the chip was, the note's frame goes out behind the flag, and the next
-- note may follow in the closing one
pub sends : (c : Chip) (v : ℕ) (vs : List ℕ)
    → Drives (ticks_left (v ∷ vs)) (frame_opened c v) vs (to_come (beginning v) vs)
sends c v vs =
    let n = ticks_left (v ∷ vs) in
    let e = ends n vs (frame_stage v vs) (come_length v vs) in
    record {
      line = driven_line_lem c v n vs ∙ e.line;
      last = after_ticks n (beginning v) vs;
      stands = sent_stands c v n vs;
      ended = e.ended;
    }

pub frame_sent : (c : Chip) (v : ℕ) (vs : List ℕ)
    → flag_bits ++ driven_line (ticks_left (v ∷ vs)) (frame_opened c v) vs ≡ frame (v ∷ vs)
frame_sent c v vs =
    ap (λ (x : List Bool). flag_bits ++ x) (sends c v vs).line ∙ frame_begins v vs
