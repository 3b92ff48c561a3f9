-- A note that fits: the SDLC sender of a chip that is ready, fed to the end of its frame, is what
-- the drive of the whole chip leaves; and the flag before a next note. Assumes nothing.
use Rattle.std.specs.Prelude.{◌≡◌, refl, Bool, true, false, List, [], ◌∷◌, ℕ, ◌+◌, ◌-◌, ◌<◌, eqb, length, get_or, take, drop, if◌then◌else◌}
use Rattle.std.proofs.Common.{sym, ap, subst, ◌∙◌, arith, length-drop, lt-ltb}
use Rattle.std.proofs.Math.Seq.{take-length}
use Rattle.common.specs.Tools.{void}
use Rattle.line.specs.Frame.{flag_bits, ticks_of}
use Rattle.line.specs.Line.{note_fits}
use Rattle.line.specs.Laws.Frame.{ticks_are}
use Rattle.shared.specs.declared.Shared.{Shared}
use Rattle.sdlc.specs.declared.Framer.{Framer}
use Rattle.chip.specs.declared.Chip.{Chip}
use Rattle.feed.specs.declared.Run.{Run}
use Rattle.feed.specs.Feeding.{after_ticks, ran, to_the_end, frame_fed, most_to_write}
use Rattle.feed.specs.Laws.Feeding.{if_true}
use Rattle.flags.specs.declared.Between.{Between}
use Rattle.flags.specs.Flags.{own_flag}
use Rattle.drive.specs.Drive.{driven, frame_opened, ticks_left, sent_by}
use Rattle.drive.specs.Framer.{chip_with}
use Rattle.drive.proofs.Laws.Frame.{beginning, begins, driven_frame, come_length}
use Rattle.listline.specs.ListLine.{flagged, before_note}
use Rattle.line.specs.Laws.Line.{fits_few}
use Rattle.station.specs.Walk.{flag_ticks}

fed_frame : (c : Chip) (v : ℕ) (vs : List ℕ) → note_fits (length (v ∷ vs)) ≡ true
    → frame_fed (frame_opened c v).a.sender.shared vs
    ≡ ran (ticks_left (v ∷ vs)) (after_ticks (ticks_left (v ∷ vs)) (beginning v) vs)
unfolding frame_fed to_the_end
fed_frame c v vs f =
    let own = ap (λ (s : Framer). s.shared) (begins c v).sends in
    let few : length vs < most_to_write = omega (arith, (fits_few (length (v ∷ vs)) f).1) in
    ap (λ (k : Shared). frame_fed k vs) own
    ∙ if_true (to_the_end (beginning v) vs) (ran 0 (beginning v)) (lt-ltb (length vs) most_to_write few)
    ∙ ap (λ (n : ℕ). ran n (after_ticks n (beginning v) vs)) (come_length v vs)

-- the part of a note behind its first byte
pub rest_whole : (note : List ℕ) → take (length note - 1) (drop 1 note) ≡ drop 1 note
rest_whole note =
    let e : length note - 1 ≡ length (drop 1 note) = sym (length-drop 1 note) in
    ap (λ (n : ℕ). take n (drop 1 note)) e ∙ take-length (drop 1 note)

-- the chip d that is ready for a note, and the run r of its sender
pub record Feeds (c : Chip) (note : List ℕ) (d : Chip) (r : Run) : Type 0 where
  pub ticks : r.ticks + length flag_bits ≡ ticks_of note
  pub chip : chip_with d r.framer ≡ sent_by c note

fed_whole : (c : Chip) (note : List ℕ) → note_fits (length note) ≡ true
    → let d = frame_opened c (get_or note 0 0) in
    Feeds c note d (frame_fed d.a.sender.shared (drop 1 note))
unfolding sent_by
fed_whole c [] f = void f
fed_whole c (v ∷ vs) f =
    let e = fed_frame c v vs f in
    record {
      ticks = omega (arith, ap (λ (r : Run). r.ticks) e, ticks_are (v ∷ vs));
      chip = ap (λ (r : Run). chip_with (frame_opened c v) r.framer) e
          ∙ sym (driven_frame c v (ticks_left (v ∷ vs)) vs);
    }

pub feeds : (c : Chip) (note : List ℕ) (d : Chip) (r : Run) → note_fits (length note) ≡ true
    → d ≡ frame_opened c (get_or note 0 0)
    → r ≡ frame_fed d.a.sender.shared (drop 1 note) → Feeds c note d r
feeds c note d r f ed er =
    let P : Chip → Run → Type 0 = λ x y. Feeds c note x y in
    subst (P d) (sym er)
    (subst (λ (x : Chip). P x (frame_fed x.a.sender.shared (drop 1 note))) (sym ed)
    (fed_whole c note f))

-- before a next note: no tick is none
pub flag_gone : (between : Between) (gone : ℕ) (c : Chip)
    → driven (flag_ticks between gone) c [] ≡ before_note between gone c
unfolding flag_ticks driven
flag_gone between gone c = go (eqb gone 0)
  where
    go : (first : Bool)
        → driven (if first then 0 else length (own_flag between)) c []
        ≡ (if first then c else flagged between c)
    go true = refl
    go false = refl
