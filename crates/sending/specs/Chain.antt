-- A closing flag opens the next frame: the check preset and the latch cleared within it, demand 3
-- starts again. Assumes nothing.
use Rattle.std.specs.Prelude.{◌≡◌, refl, false, [], ◌∷◌, ◌++◌, ℕ, zero, suc, length}
use Rattle.std.proofs.Common.{sym, ap, ◌∙◌, subst, arith, length-append}
use Rattle.common.specs.declared.Mode.TheVariants.{Sdlc}
use Rattle.line.specs.Laws.Frame.{ticks_are}
use Rattle.shared.specs.Preset.{preset_for}
use Rattle.shared.specs.Shared.{full}
use Rattle.sdlc.specs.declared.LineUnit.TheVariants.{Flag}
use Rattle.sender.specs.declared.Sender.{Sender}
use Rattle.sender.specs.Sender.{framer_of, check_preset, latch_cleared}
use Rattle.sender.specs.Good.{Good}
use Rattle.settings.specs.Settings.{mode_in, sending_of}
use Rattle.settings.specs.Bytes.{preset_sent, clear_underrun}
use Rattle.sdlc.specs.declared.Framer.{Framer}
use Rattle.sdlc.specs.Sound.{SoundUnit}
use Rattle.channel.specs.declared.Channel.{Channel}
use Rattle.chip.specs.Event.{ControlWrite}
use Rattle.whole.specs.Come.{to_come}
use Rattle.whole.specs.Stage.{Stage, opening, in_byte, in_check, closing}
use Rattle.whole.specs.Start.{flag_head}
use Rattle.whole.specs.Laws.Start.{unended_some}
use Rattle.stories.specs.Story.{number, chan, happens, after}
use Rattle.stories.specs.Sent.{line_of}
use Rattle.history.specs.Sending.Side.{SenderSide, good_of, sending_in}
use Rattle.history.specs.Sending.Anew.{write_preset, write_clear}
use Rattle.sending.specs.Statement.{StartsAnew, FrameEnds}
use Rattle.sending.specs.Frame.{frame_kept, sent_length}

pub mode_in_lem : (c : Channel) → Good (sending_in c) → mode_in c.registers ≡ Sdlc
unfolding sending_of
mode_in_lem c h = h.sdlc_mode_lem

pub starts_anew : StartsAnew
unfolding after
starts_anew w c p h =
    let d = (happens c (ControlWrite (number w) preset_sent)).chip in
    let x = write_preset w c h.to_wr0 in
    let y = write_clear w d x.pointer in
    let e = chan w (happens d (ControlWrite (number w) clear_underrun)).chip in
    let s : e.sender
    ≡ latch_cleared (check_preset (mode_in (chan w c).registers) (chan w c).sender) = y.sender
    ∙ ap latch_cleared x.sender in
    let g : sending_in e ≡ sending_in (chan w c) = y.settings ∙ x.settings in
    record {
      some = h.some;
      inside = h.inside;
      flag = ap (λ (t : Sender). t.unit) s ∙ h.flag;
      empty = ap (λ (t : Sender). full t.shared) s ∙ h.empty;
      preset =
          ap (λ (t : Sender). t.shared.check) s ∙ ap preset_for (mode_in_lem (chan w c) h.settings);
      cleared = ap (λ (t : Sender). t.shared.latch) s;
      settings = rw g h.settings;
      history = subst (λ (x : Sender). SoundUnit x.unit x.insertion) (sym s) h.history;
    }

-- nothing is to come: the closing flag's last bit is sent
flag_ended_lem : {s : Framer} {n : ℕ} → Stage false s n [] → length (to_come s []) ≡ 0
    → (s.unit ≡ Flag 0) × SoundUnit s.unit s.insertion
flag_ended_lem (opening k b c n _ m p) z =
    absurd (omega (arith, unended_some (opening {a = false} k b c n [] m p) refl))
flag_ended_lem (in_byte k v r o b c n _ m) z =
    absurd (omega (arith, unended_some (in_byte {a = false} k v r o b c n [] m) refl))
flag_ended_lem (in_check k v r o b c n) z =
    absurd (omega (arith, unended_some (in_check {a = false} k v r o b c n) refl))
flag_ended_lem (closing zero b c n) z = (refl, ((refl, refl), omega arith))
flag_ended_lem (closing (suc k) b c n) z = absurd (omega arith)

pub frame_ends : FrameEnds
frame_ends w c p v vs st s i n f q =
    let m = ticks_are (v ∷ vs) in
    let k = frame_kept w c p v vs [] st s i (omega arith) in
    let t = to_come k.0.last [] in
    let z : length t ≡ 0 =
    omega (
      arith,
      ap length k.1,
      length-append (flag_head p) (line_of w c st ++ t),
      length-append (line_of w c st) t,
      length-append (flag_head p) (line_of w c st),
      sent_length w c p st s.inside,
    ) in
    let e = flag_ended_lem k.0.stage z in
    let there : framer_of (chan w (after c st)).sender ≡ k.0.last =
    ap (λ (x : SenderSide). x.sender) k.0.there in
    record {
      some = omega arith;
      inside = omega arith;
      flag = ap (λ (x : Framer). x.unit) there ∙ e.0;
      empty = f;
      settings =
          good_of (sending_in (chan w (after c st)))
          (ap (λ (x : SenderSide). x.heeds) k.0.there);
      history = subst (λ (x : Framer). SoundUnit x.unit x.insertion) (sym there) e.1;
      to_wr0 = q;
    }
