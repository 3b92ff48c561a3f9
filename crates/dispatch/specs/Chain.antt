-- Two blocks in a row: where one has ended, the check preset and the latch cleared, the next
-- starts. Assumes nothing.
use Rattle.std.specs.Prelude.{◌≡◌, refl, Bool, true, false, List, [], ◌∷◌, ◌++◌, ℕ, zero, suc, ◌+◌, ◌≤◌, length, if◌then◌else◌, Some, None}
use Rattle.std.proofs.Common.{sym, ◌∙◌, append-nil, arith, length-append}
use Rattle.std.proofs.Math.Path.{ap, subst}
use Rattle.std.proofs.Math.ListN.{take}
use Rattle.std.proofs.Math.Seq.{take-length}
use Rattle.common.specs.Mode.{in_blocks}
use Rattle.common.specs.Tools.{if_elim}
use Rattle.line.specs.Bits.{low_bits, text_bits}
use Rattle.line.specs.Check.{ones, top_bits}
use Rattle.line.specs.Laws.Bits.{low_bits_length}
use Rattle.shared.specs.Preset.{zeros, preset_for}
use Rattle.shared.specs.Shared.{shared, full}
use Rattle.bytesync.specs.declared.Syncs.{Syncs}
use Rattle.bytesync.specs.declared.BlockUnit.TheVariants.{Sync}
use Rattle.bytesync.specs.declared.Syncing.{Syncing}
use Rattle.whole.specs.Come.{waiting}
use Rattle.blocks.specs.Come.{Sends, sync_bits, behind, closed, to_come, Stage, at_mark}
use Rattle.blocks.specs.Come.{opening, in_byte, in_check, in_tail, closing, sync_length, sync_head}
use Rattle.blocks.proofs.Laws.Sent.{sync_length_lem, closed_length}
use Rattle.sender.specs.declared.Sender.{Sender}
use Rattle.sender.specs.Sender.{check_preset, latch_cleared}
use Rattle.settings.specs.Settings.{mode_in, sending_of}
use Rattle.settings.specs.Bytes.{preset_sent, clear_underrun}
use Rattle.chip.specs.declared.Chip.{Chip}
use Rattle.chip.specs.Event.{ControlWrite}
use Rattle.stories.specs.Story.{Which, number, chan, happens, after}
use Rattle.stories.specs.Sent.{ticks}
use Rattle.dispatch.specs.Side.{Heeded, heeded, Good, SenderSide, side_of}
use Rattle.dispatch.specs.Side.{syncing_of}
use Rattle.history.specs.Sending.Anew.{write_preset, write_clear}
use Rattle.history.specs.Sending.Stories.{anew}
use Rattle.dispatch.specs.Statement.{syncs_of, Start, block_ticks, NextBlock}
use Rattle.dispatch.specs.Block.{kept, all_come}

-- Where nothing is to come the closing sync has ended

some_sync : (y : Syncs) → 8 ≤ sync_length y
some_sync y = if_elim (λ (n : ℕ). 8 ≤ n) y.both (omega arith) (omega arith)

some_behind : (g : Syncing) (vs : List ℕ) → 8 ≤ length (behind g vs)
some_behind g vs =
    omega (
      arith,
      length-append (text_bits 8 vs) (sync_bits g.syncs),
      sync_length_lem g.syncs,
      some_sync g.syncs,
    )

pub record Ended (s : Sends) : Type 0 where
  pub x : ℕ
  pub unit : s.unit ≡ Sync 0 x
  pub empty : full s.shared ≡ false

-- something behind it is still to come
not_over : (xs ys : List Bool) → 8 ≤ length ys → xs ++ ys ≡ [] → ⊥
not_over xs ys h e = omega (arith, ap length e, length-append xs ys)

not_closed : (g : Syncing) (xs : List Bool) (c : ℕ) (vs : List ℕ) → xs ++ closed g c vs [] ≡ [] → ⊥
not_closed g xs c vs e =
    not_over xs (closed g c vs []) (omega (arith, closed_length g c vs [])) e

ended : (g : Syncing) {s : Sends} → Stage s [] [] → to_come g s [] [] ≡ [] → Ended s
ended g (at_mark (Some b) c _ _ s) e = absurd (not_closed g (sync_bits g.syncs) c (b ∷ []) e)
ended g (at_mark None c _ _ s) e = absurd s
ended g (opening n v (Some b) c _ _ s) e = absurd (not_closed g (low_bits n v) c (b ∷ []) e)
ended g (opening n v None c _ _ s) e = absurd s
ended g (in_byte n v b c _ _) e =
    absurd (not_closed g (low_bits n v) c (waiting (shared b false c) []) e)
ended g (in_check n v b c _) e =
    let vs = waiting (shared b true c) [] in
    absurd (not_over (top_bits n v) (behind g vs) (some_behind g vs) e)
ended g (in_tail n v b c _) e =
    let vs = waiting (shared b true c) [] in
    absurd (not_over (low_bits n v) (behind g vs) (some_behind g vs) e)
ended g (closing zero v c) e = record { x = v; unit = refl; empty = refl }
ended g (closing (suc n) v c) e = absurd (omega (arith, ap length e, low_bits_length (suc n) v))

-- "preset to zeros here"
zeros_here : (w : Which) (c : Chip) → in_blocks (side_of w c).heeds.mode ≡ true
    → preset_for (mode_in (chan w c).registers) ≡ zeros
unfolding sending_of
zeros_here w c m = ap (λ (b : Bool). if b then zeros else ones) m

-- the next block starts where all of a sync is sent
starts : (w : Which) (c : Chip) (x : ℕ) → (chan w c).sender.block ≡ Sync 0 x
    → full (chan w c).sender.shared ≡ false → (chan w c).pointer ≡ 0 → Good (side_of w c).heeds
    → Start w (after c (anew w)) (sync_length (syncs_of w c))
unfolding after
starts w c x u f p g =
    let d = (happens c (ControlWrite (number w) preset_sent)).chip in
    let a = write_preset w c p in
    let b = write_clear w d a.pointer in
    let e = (happens d (ControlWrite (number w) clear_underrun)).chip in
    let s : (chan w e).sender ≡ latch_cleared
    (check_preset (mode_in (chan w c).registers) (chan w c).sender) =
    b.sender ∙ ap latch_cleared a.sender in
    let q : (side_of w e).heeds ≡ (side_of w c).heeds = ap heeded (b.settings ∙ a.settings) in
    let y = syncs_of w c in
    let all : sync_head y (sync_length y) ++ low_bits 0 x ≡ sync_bits y =
    unfold low_bits in (append-nil (sync_head y (sync_length y))
    ∙ ap (λ (n : ℕ). take n (sync_bits y)) (sym (sync_length_lem y)) ∙ take-length (sync_bits y)) in
    record {
      inside = subst (λ (h : Heeded). sync_length y ≤ sync_length h.syncing.syncs) (sym q)
          (omega arith);
      n = 0;
      x = x;
      sync = ap (λ (t : Sender). t.block) s ∙ u;
      left = subst (λ (h : Heeded). sync_head h.syncing.syncs (sync_length y) ++ low_bits 0 x
          ≡ sync_bits h.syncing.syncs) (sym q) all;
      empty = ap (λ (t : Sender). full t.shared) s ∙ f;
      preset = ap (λ (t : Sender). t.shared.check) s ∙ zeros_here w c g.mode;
      cleared = ap (λ (t : Sender). t.shared.latch) s;
      settings = subst Good (sym q) g;
    }

pub next_block : NextBlock
next_block w c p v vs tail st s i n z =
    let l : p + ticks w st ≤ block_ticks (syncs_of w c) (v ∷ vs) tail = omega arith in
    let k = kept w c p v vs tail [] [] st s i l in
    let e = ended (syncing_of w c) k.stage (all_come w c p v vs tail [] [] st s i l n) in
    let q : (side_of w (after c st)).heeds ≡ (side_of w c).heeds =
    ap (λ (x : SenderSide). x.heeds) k.there in
    subst (λ (h : Heeded). Start w (after (after c st) (anew w)) (sync_length h.syncing.syncs)) q
    (starts w (after c st) e.x
    (ap (λ (x : SenderSide). x.sender.unit) k.there ∙ e.unit)
    (ap (λ (x : SenderSide). full x.sender.shared) k.there ∙ e.empty) z
    (subst Good (sym q) s.settings))
