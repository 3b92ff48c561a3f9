-- Blocks sent in time: the line from the sync on is sync, bytes, check, what goes straight behind
-- it, sync; at every moment what was sent and what is to come are that; and a second block follows
-- in the sync behind the first. Assumes nothing.
use Rattle.std.specs.Prelude.{◌≡◌, None, refl, Bool, true, false, List, [], ◌∷◌, ◌++◌, ℕ, suc, ◌+◌, ◌*◌, ◌-◌, ◌/◌, ◌^◌, ◌≤◌, ◌<◌, length, take, if◌then◌else◌}
use Rattle.std.proofs.Common.{sym, ap, ap₂, ◌∙◌, append_assoc, append-nil, arith, length-append, take_at}
use Rattle.common.specs.Tools.{void, no_items}
use Rattle.line.specs.Bits.{low_bits, text_bits}
use Rattle.line.specs.Check.{top_bits}
use Rattle.line.specs.Laws.Bits.{low_bits_length, low_bits_split, text_bits_length}
use Rattle.shared.specs.Shared.{shared}
use Rattle.bytesync.specs.declared.Syncs.{Syncs}
use Rattle.bytesync.specs.declared.BlockUnit.{BlockUnit}
use Rattle.bytesync.specs.declared.BlockUnit.TheVariants.{Mark, Sync, Byte, Check}
use Rattle.bytesync.specs.declared.Syncing.{Syncing}
use Rattle.bytesync.specs.Syncs.{pair}
use Rattle.bytesync.specs.Sending.{sync_sent, tick_block}
use Rattle.shared.specs.Preset.{zeros}
use Rattle.blocks.specs.Check.{check_from}
use Rattle.blocks.specs.Come.{Good, Sends, sends, ticked, filled_with, sync_bits, behind}
use Rattle.blocks.specs.Come.{closed, to_come, Stage, at_mark, opening, in_byte, in_check, in_tail}
use Rattle.blocks.specs.Come.{closing, Act, Tick, Write, acts_line, ticks, last_of, InTime}
use Rattle.blocks.specs.Come.{over, ticking, writing, writing_behind, sync_length, started}
use Rattle.blocks.specs.Come.{sync_head, block_bits, readied}
use Rattle.blocks.proofs.Laws.Hunt.{low_bits_above}
use Rattle.blocks.proofs.Laws.Come.{takes, moves, moves_behind}
use Rattle.blocks.proofs.Laws.Check.{top_bits_length}

-- Stories

-- behind a story in time: what was sent and what is to come are what was to come, at some stage
pub record Kept (g : Syncing) (s : Sends) (acts : List Act) (whole : List Bool)
    (left more : List ℕ) : Type 0 where
  pub line : acts_line g s acts ++ to_come g (last_of g s acts) left more ≡ whole
  pub stage : Stage (last_of g s acts) left more

pub in_time_sends : (g : Syncing) → Good g → {left more : List ℕ} {s : Sends} {rest tail : List ℕ}
    {acts : List Act} → InTime g left more s rest tail acts → Stage s rest tail
    → ticks acts ≤ length (to_come g s rest tail)
    → Kept g s acts (to_come g s rest tail) left more
unfolding acts_line ticks last_of
in_time_sends g h over s l = record { line = refl; stage = s }
in_time_sends g h (ticking {s = x} t i) s l =
    let m = takes g h s t (omega arith) in
    let k = in_time_sends g h i m.stage (omega (arith, ap length m.head)) in
    record {
      line = ap (λ (b : List Bool). (tick_block g x.unit x.shared).bit ∷ b) k.line
          ∙ sym m.head;
      stage = k.stage;
    }
in_time_sends g h (writing e i) s l =
    let m = moves g s e in
    let k = in_time_sends g h i m.1 (omega (arith, ap length m.0)) in
    record { line = k.line ∙ sym m.0; stage = k.stage }
in_time_sends g h (writing_behind f e i) s l =
    let m = moves_behind g s f e in
    let k = in_time_sends g h i m.1 (omega (arith, ap length m.0)) in
    record { line = k.line ∙ sym m.0; stage = k.stage }

pub line_length : (g : Syncing) (s : Sends) (acts : List Act)
    → length (acts_line g s acts) ≡ ticks acts
unfolding acts_line ticks
line_length g s [] = refl
line_length g s (Tick ∷ acts) = ap suc (line_length g (ticked g s) acts)
line_length g s (Write v ∷ acts) = line_length g (filled_with s v) acts

-- as many ticks as there are bits to come bring them all
pub all_sent_lem : (g : Syncing) → Good g → {s : Sends} {rest tail : List ℕ} {acts : List Act}
    → InTime g [] [] s rest tail acts → Stage s rest tail
    → ticks acts ≡ length (to_come g s rest tail) → acts_line g s acts ≡ to_come g s rest tail
all_sent_lem g h {s} {rest} {tail} {acts} i x e =
    let k = in_time_sends g h i x (omega arith) in
    let l = acts_line g s acts in
    let t = to_come g (last_of g s acts) [] [] in
    let z : t ≡ [] =
    no_items t (omega (arith, ap length k.line, length-append l t, line_length g s acts)) in
    sym (append-nil l) ∙ ap (λ (y : List Bool). l ++ y) (sym z) ∙ k.line

-- Lengths

pub sync_length_lem : (y : Syncs) → length (sync_bits y) ≡ sync_length y
sync_length_lem y = go y.both
  where
    go : (m : Bool)
        → length (if m then low_bits 8 y.first ++ low_bits 8 y.second else low_bits 8 y.first)
        ≡ (if m then 16 else 8)
    go true =
        length-append (low_bits 8 y.first) (low_bits 8 y.second)
        ∙ ap₂ ◌+◌ (low_bits_length 8 y.first) (low_bits_length 8 y.second)
    go false = low_bits_length 8 y.first

-- n bytes, the check, m bytes behind it, a sync
pub closed_length : (g : Syncing) (c : ℕ) (vs tail : List ℕ)
    → length (closed g c vs tail)
    ≡ 8 * length vs + 16 + 8 * length tail + sync_length g.syncs
unfolding closed
closed_length g c vs tail =
    let k = top_bits 16 (check_from g.polynomial c vs) in
    omega (
      arith,
      length-append (text_bits 8 vs) (k ++ behind g tail),
      length-append k (behind g tail),
      length-append (text_bits 8 tail) (sync_bits g.syncs),
      text_bits_length 8 vs,
      top_bits_length 16 (check_from g.polynomial c vs),
      text_bits_length 8 tail,
      sync_length_lem g.syncs,
    )

-- A sync of which p bits are sent

sync_bits_lem : (y : Syncs) → y.first < 256 → sync_bits y ≡ low_bits (sync_length y) (sync_sent y)
sync_bits_lem y h = go y.both
  where
    go : (b : Bool)
        → (if b then low_bits 8 y.first ++ low_bits 8 y.second else low_bits 8 y.first)
        ≡ low_bits (if b then 16 else 8) (if b then pair y else y.first)
    go true = sym (low_bits_above 8 8 y.first y.second h)
    go false = refl

pub sync_under_way : (y : Syncs) (p : ℕ) → y.first < 256 → p ≤ sync_length y
    → sync_head y p ++ low_bits (sync_length y - p) (sync_sent y / 2 ^ p) ≡ sync_bits y
sync_under_way y p h l =
    let m = sync_length y - p in
    let v = sync_sent y in
    let e : p + m ≡ sync_length y = omega arith in
    let s : sync_bits y ≡ low_bits p v ++ low_bits m (v / 2 ^ p) =
    sync_bits_lem y h ∙ ap (λ (n : ℕ). low_bits n v) (sym e) ∙ low_bits_split p m v in
    let t : sync_head y p ≡ low_bits p v =
    ap (take p) s ∙ take_at (low_bits p v) (low_bits m (v / 2 ^ p)) p (low_bits_length p v) in
    ap (λ (x : List Bool). x ++ low_bits m (v / 2 ^ p)) t ∙ sym s

-- Blocks

-- the state at the start: what is to come is the rest of the sync and the block
pub to_come_started : (g : Syncing) → Good g → (p v : ℕ) (vs tail : List ℕ)
    → p ≤ sync_length g.syncs
    → sync_head g.syncs p ++ to_come g (started g.syncs p) (v ∷ vs) tail
    ≡ block_bits g (v ∷ vs) tail
to_come_started g h p v vs tail l =
    let y = g.syncs in
    sym (append_assoc (sync_head y p) (low_bits (sync_length y - p) (sync_sent y / 2 ^ p))
    (closed g zeros (v ∷ vs) tail))
    ∙ ap (λ (x : List Bool). x ++ closed g zeros (v ∷ vs) tail) (sync_under_way y p h.first l)

pub started_stage : (y : Syncs) (p v : ℕ) (vs tail : List ℕ)
    → Stage (started y p) (v ∷ vs) tail
started_stage y p v vs tail =
    opening (sync_length y - p) (sync_sent y / 2 ^ p) None zeros (v ∷ vs) tail tt

pub to_come_length : (g : Syncing) (p v : ℕ) (vs tail : List ℕ)
    → length (to_come g (started g.syncs p) (v ∷ vs) tail)
    ≡ sync_length g.syncs - p
    + (8 * length (v ∷ vs) + 16 + 8 * length tail + sync_length g.syncs)
to_come_length g p v vs tail =
    let y = g.syncs in
    let x = low_bits (sync_length y - p) (sync_sent y / 2 ^ p) in
    length-append x (closed g zeros (v ∷ vs) tail)
    ∙ ap₂ ◌+◌ (low_bits_length (sync_length y - p) (sync_sent y / 2 ^ p))
    (closed_length g zeros (v ∷ vs) tail)

-- from a sync of which p bits are sent, n bytes and m behind the check: the line is that sync, the
-- bytes, their check, those behind it, a sync
pub block_sent : (g : Syncing) → Good g → (p v : ℕ) (vs tail : List ℕ) {acts : List Act}
    → p ≤ sync_length g.syncs → InTime g [] [] (started g.syncs p) (v ∷ vs) tail acts
    → p + ticks acts
    ≡ 2 * sync_length g.syncs + 8 * length (v ∷ vs) + 16 + 8 * length tail
    → sync_head g.syncs p ++ acts_line g (started g.syncs p) acts ≡ block_bits g (v ∷ vs) tail
block_sent g h p v vs tail l i e =
    ap (λ (x : List Bool). sync_head g.syncs p ++ x)
    (all_sent_lem g h i (started_stage g.syncs p v vs tail)
    (omega (arith, to_come_length g p v vs tail)))
    ∙ to_come_started g h p v vs tail l

-- from a mark, with a whole sync
pub block_sent_from_mark : (g : Syncing) → Good g → (v : ℕ) (vs tail : List ℕ) {acts : List Act}
    → let s = sends Mark (shared None false zeros) in
    InTime g [] [] s (v ∷ vs) tail acts → ticks acts ≡ length (block_bits g (v ∷ vs) tail)
    → acts_line g s acts ≡ block_bits g (v ∷ vs) tail
block_sent_from_mark g h v vs tail i e = all_sent_lem g h i (at_mark None zeros (v ∷ vs) tail tt) e

-- Two blocks in a row: within the sync behind the first the host clears the latch and presets the
-- check

abbrev is_sync : BlockUnit → Bool
is_sync Mark = false
is_sync (Sync n v) = true
is_sync (Byte n v) = false
is_sync (Check n v) = false

closing_readied : (g : Syncing) {s : Sends} → Stage s [] [] → (n x v : ℕ) (vs tail : List ℕ)
    → s.unit ≡ Sync n x → s.shared.latch ≡ true
    → (to_come g (readied s) (v ∷ vs) tail ≡ to_come g s [] [] ++ closed g zeros (v ∷ vs) tail)
    × Stage (readied s) (v ∷ vs) tail
closing_readied g (at_mark b c rest tail s) n x v vs more e l = void l
closing_readied g (opening m y b c rest tail s) n x v vs more e l = void l
closing_readied g (in_byte m y b c rest tail) n x v vs more e l = void l
closing_readied g (in_check m y b c tail) n x v vs more e l = void (ap is_sync e)
closing_readied g (in_tail m y b c tail) n x v vs more e l = void (ap is_sync e)
closing_readied g (closing m y c) n x v vs more e l =
    (refl, opening m y None zeros (v ∷ vs) more tt)

pub two_blocks : (g : Syncing) → Good g → (p v : ℕ) (vs tail : List ℕ) (xs ys : List Act)
    → p ≤ sync_length g.syncs → let s = started g.syncs p in
    InTime g [] [] s (v ∷ vs) tail xs
    → p + ticks xs ≤ 2 * sync_length g.syncs + 8 * length (v ∷ vs) + 16 + 8 * length tail
    → let m = last_of g s xs in (n x : ℕ) → m.unit ≡ Sync n x → m.shared.latch ≡ true
    → (w : ℕ) (ws more : List ℕ) → InTime g [] [] (readied m) (w ∷ ws) more ys
    → ticks ys ≡ length (to_come g (readied m) (w ∷ ws) more)
    → sync_head g.syncs p ++ (acts_line g s xs ++ acts_line g (readied m) ys)
    ≡ block_bits g (v ∷ vs) tail ++ closed g zeros (w ∷ ws) more
two_blocks g h p v vs tail xs ys l i e n x u f w ws more j d =
    let y = g.syncs in
    let s = started y p in
    let m = last_of g s xs in
    let k = in_time_sends g h i (started_stage y p v vs tail)
    (omega (arith, to_come_length g p v vs tail)) in
    let a = closing_readied g k.stage n x w ws more u f in
    let next = closed g zeros (w ∷ ws) more in
    let head = sync_head y p in
    ap (λ (z : List Bool). head ++ (acts_line g s xs ++ z)) (all_sent_lem g h j a.1 d ∙ a.0)
    ∙ ap (λ (z : List Bool). head ++ z)
    (sym (append_assoc (acts_line g s xs) (to_come g m [] []) next)
    ∙ ap (λ (z : List Bool). z ++ next) k.line)
    ∙ sym (append_assoc head (to_come g s (v ∷ vs) tail) next)
    ∙ ap (λ (z : List Bool). z ++ next) (to_come_started g h p v vs tail l)
