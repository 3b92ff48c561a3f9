-- A tick in time takes the first bit of what is to come and goes on to a stage of the block; a
-- write takes none. Assumes nothing.
use Rattle.std.specs.Prelude.{◌≡◌, Some, None, Bool, List, [], ◌∷◌, ◌++◌, length, if◌then◌else◌}
use Rattle.std.proofs.Math.Path.{refl, ap}
use Rattle.std.proofs.Common.{sym, ◌∙◌, subst, append_assoc}
use Rattle.std.proofs.Math.Bool.{true, false}
use Prim.Native.Nat.{ℕ, zero, suc, ◌-◌, ◌/◌, ◌≤◌, ◌<◌}
use native.Mathlib.Omega.{arith}
use Rattle.std.proofs.Math.Dec.{eqb-suc-zero}
use Rattle.common.specs.Tools.{void}
use Rattle.line.specs.Bits.{odd, low_bits, text_bits}
use Rattle.line.specs.Check.{top, shifted, check_over, top_bits}
use Rattle.line.specs.Laws.Bits.{low_bits_length}
use Rattle.line.specs.Laws.Check.{check_join}
use Rattle.shared.specs.declared.Shared.{Shared}
use Rattle.shared.specs.Shared.{shared, full}
use Rattle.bytesync.specs.declared.Syncs.{Syncs}
use Rattle.bytesync.specs.declared.BlockUnit.{BlockUnit}
use Rattle.bytesync.specs.declared.BlockUnit.TheVariants.{Mark, Sync, Byte, Check}
use Rattle.bytesync.specs.declared.Syncing.{Syncing}
use Rattle.bytesync.specs.declared.Synced.{Synced}
use Rattle.bytesync.specs.Syncs.{pair}
use Rattle.bytesync.specs.Sending.{sent_bit, sync_sent, sync_left, start_sync, start_byte, start_check}
use Rattle.bytesync.specs.Sending.{following, tick_block, sends_check}
use Rattle.whole.specs.Come.{waiting}
use Rattle.blocks.specs.Check.{check_from}
use Rattle.blocks.specs.Come.{Good, Sends, sends, ticked, filled_with, sync_bits, behind}
use Rattle.blocks.specs.Come.{closed, to_come, chooses, in_time, Stage, at_mark}
use Rattle.blocks.specs.Come.{opening, in_byte, in_check, in_tail, closing}
use Rattle.blocks.proofs.Laws.Hunt.{low_bits_above}

-- Bits

-- the first bit of a sync, and those behind it
sync_starts : (y : Syncs) → y.first < 256
    → sync_bits y ≡ odd (sync_sent y) ∷ low_bits (sync_left y) (sync_sent y / 2)
sync_starts y h = go y.both
  where
    go : (b : Bool)
        → (if b then low_bits 8 y.first ++ low_bits 8 y.second else low_bits 8 y.first)
        ≡ odd (if b then pair y else y.first)
        ∷ low_bits (if b then 15 else 7) ((if b then pair y else y.first) / 2)
    go true = sym (low_bits_above 8 8 y.first y.second h) ∙ (unfold low_bits in refl)
    go false = unfold low_bits in refl

-- a byte's bits go before what is behind it
byte_first : (b : ℕ) (more : List ℕ) (l : List Bool)
    → text_bits 8 (b ∷ more) ++ l ≡ odd b ∷ (low_bits 7 (b / 2) ++ (text_bits 8 more ++ l))
unfolding text_bits
byte_first b more l =
    append_assoc (low_bits 8 b) (text_bits 8 more) l ∙ (unfold low_bits in refl)

-- the byte that waits enters the check
load : (g : Syncing) (b c : ℕ) (rest tail : List ℕ)
    → closed g c (b ∷ rest) tail
    ≡ odd b ∷ (low_bits 7 (b / 2) ++ closed g (check_over g.polynomial c (low_bits 8 b)) rest tail)
unfolding closed
load g b c rest tail =
    let p = g.polynomial in
    let d = check_over p c (low_bits 8 b) in
    let e : check_from p c (b ∷ rest) ≡ check_from p d rest =
    unfold text_bits in (check_join p c (low_bits 8 b) (text_bits 8 rest)) in
    ap (λ (x : ℕ). text_bits 8 (b ∷ rest) ++ (top_bits 16 x ++ behind g tail)) e
    ∙ byte_first b rest (top_bits 16 (check_from p d rest) ++ behind g tail)

-- nothing more: the check
closed_none : (g : Syncing) (c : ℕ) (tail : List ℕ)
    → closed g c [] tail ≡ top c ∷ (top_bits 15 (shifted c) ++ behind g tail)
unfolding closed text_bits check_over top_bits
closed_none g c tail = refl

-- Ticks

module _ (g : Syncing) where
  pub tick_sync : (k : Shared) (n v : ℕ)
      → tick_block g (Sync (suc n) v) k ≡ sent_bit (odd v) (Sync n (v / 2)) k
  unfolding tick_block
  tick_sync k n v = let p : suc n - 1 ≡ n = omega arith in rw (eqb-suc-zero n, p)

  pub tick_byte : (k : Shared) (n v : ℕ)
      → tick_block g (Byte (suc n) v) k ≡ sent_bit (odd v) (Byte n (v / 2)) k
  unfolding tick_block
  tick_byte k n v = let p : suc n - 1 ≡ n = omega arith in rw (eqb-suc-zero n, p)

  pub tick_check : (k : Shared) (n v : ℕ)
      → tick_block g (Check (suc n) v) k ≡ sent_bit (top v) (Check n (shifted v)) k
  unfolding tick_block
  tick_check k n v = let p : suc n - 1 ≡ n = omega arith in rw (eqb-suc-zero n, p)

-- the choice, behind a mark and behind a unit of which nothing is left

module _ (g : Syncing) (h : Good g) where
  mark_sync : (k : Shared) → tick_block g Mark k ≡ start_sync g k
  unfolding tick_block following
  mark_sync k = rw h.on

  abbrev loaded : ℕ → Bool → ℕ → Shared
  loaded b l c = shared None l (check_over g.polynomial c (low_bits 8 b))

  abbrev byte_started : ℕ → Bool → ℕ → Synced
  byte_started b l c =
      record { bit = odd b; loaded = true; unit = Byte 7 (b / 2); shared = loaded b l c }

  entered_is : (b : ℕ) (l : Bool) (c : ℕ)
      → start_byte g b (shared (Some b) l c) ≡ byte_started b l c
  entered_is b l c =
      ap (λ (i : Bool). record {
        bit = odd b;
        loaded = true;
        unit = Byte 7 (b / 2);
        shared = shared None l (if i then check_over g.polynomial c (low_bits 8 b) else c);
      }) h.included

  next_on : (u : BlockUnit) (k : Shared) (n : Synced) → following g u k ≡ n
      → (if g.on then following g u k else sent_bit true Mark k) ≡ n
  next_on u k n e =
      ap (λ (o : Bool). if o then following g u k else sent_bit true Mark k) h.on ∙ e

  -- the byte that waits
  byte_starts : (u : BlockUnit) → chooses u ≡ true → (b c : ℕ) (l : Bool)
      → tick_block g u (shared (Some b) l c) ≡ byte_started b l c
  unfolding tick_block following
  byte_starts Mark e b c l = void e
  byte_starts (Sync n v) e b c l = rw (e, h.on) (entered_is b l c)
  byte_starts (Byte n v) e b c l = rw (e, h.on) (entered_is b l c)
  byte_starts (Check n v) e b c l = rw (e, h.on) (entered_is b l c)

  -- "At an underrun .. the check if the latch is clear and WR5 D0 set, and sets the latch"
  pub check_begins : (c v : ℕ)
      → tick_block g (Byte 0 v) (shared None false c) ≡ start_check (shared None true c)
  unfolding tick_block
  check_begins c v =
      let k = shared None true c in
      next_on (Byte 0 v) (shared None false c) (start_check k)
      (unfold following in
      (ap (λ (i : Bool). if i then start_check k else start_sync g k) h.included))

  -- none waits, and the latch is set
  sync_follows : (u : BlockUnit) → chooses u ≡ true → (c : ℕ)
      → tick_block g u (shared None true c) ≡ start_sync g (shared None true c)
  unfolding tick_block following
  sync_follows Mark e c = void e
  sync_follows (Sync n v) e c = rw (e, h.on)
  sync_follows (Byte n v) e c = rw (e, h.on)
  sync_follows (Check n v) e c = rw (e, h.on)

-- a tick in time takes the first bit of what is to come, and goes on to a stage; while the latch is
-- clear, the tick sets it exactly if it begins the check
pub record Takes (g : Syncing) (s : Sends) (rest tail : List ℕ) : Type 0 where
  pub head : to_come g s rest tail
      ≡ (tick_block g s.unit s.shared).bit ∷ to_come g (ticked g s) rest tail
  pub stage : Stage (ticked g s) rest tail
  pub rises : s.shared.latch ≡ false
      → (ticked g s).shared.latch ≡ sends_check (ticked g s).unit

by_tick : {g : Syncing} {s : Sends} {rest tail : List ℕ} (n : Synced)
    → tick_block g s.unit s.shared ≡ n
    → to_come g s rest tail ≡ n.bit ∷ to_come g (sends n.unit n.shared) rest tail
    → Stage (sends n.unit n.shared) rest tail
    → (s.shared.latch ≡ false → n.shared.latch ≡ sends_check n.unit) → Takes g s rest tail
by_tick {g} {s} {rest} {tail} n e h t l =
    record {
      head = h ∙ ap (λ (x : Synced).
          x.bit ∷ to_come g (sends x.unit x.shared) rest tail) (sym e);
      stage = subst (λ (x : Synced). Stage (sends x.unit x.shared) rest tail) (sym e) t;
      rises = subst (λ (x : Synced).
          s.shared.latch ≡ false → x.shared.latch ≡ sends_check x.unit) (sym e) l;
    }

-- behind a unit of which nothing is left, so that what is to come is what is behind it: a byte of
-- the block, a byte behind the check, the sync behind all of them
module _ (g : Syncing) (h : Good g) (u : BlockUnit) (over : chooses u ≡ true) where
  takes_byte_lem : (b c : ℕ) (rest tail : List ℕ)
      → to_come g (sends u (shared (Some b) false c)) rest tail ≡ closed g c (b ∷ rest) tail
      → Takes g (sends u (shared (Some b) false c)) rest tail
  takes_byte_lem b c rest tail e =
      by_tick (byte_started g h b false c) (byte_starts g h u over b c false)
      (e ∙ load g b c rest tail)
      (in_byte 7 (b / 2) None (check_over g.polynomial c (low_bits 8 b)) rest tail) (λ l. refl)

  takes_behind : (b c : ℕ) (tail : List ℕ)
      → to_come g (sends u (shared (Some b) true c)) [] tail ≡ behind g (b ∷ tail)
      → Takes g (sends u (shared (Some b) true c)) [] tail
  takes_behind b c tail e =
      by_tick (byte_started g h b true c) (byte_starts g h u over b c true)
      (e ∙ byte_first b tail (sync_bits g.syncs))
      (in_tail 7 (b / 2) None (check_over g.polynomial c (low_bits 8 b)) tail)
      (λ l. void (sym l))

  takes_sync : (c : ℕ) → to_come g (sends u (shared None true c)) [] [] ≡ behind g []
      → Takes g (sends u (shared None true c)) [] []
  takes_sync c e =
      let y = g.syncs in
      by_tick (start_sync g (shared None true c)) (sync_follows g h u over c)
      (e ∙ (unfold text_bits in (sync_starts y h.first)))
      (closing (sync_left y) (sync_sent y / 2) c) (λ l. void (sym l))

pub takes : (g : Syncing) → Good g → {s : Sends} {rest tail : List ℕ} → Stage s rest tail
    → in_time s rest tail ≡ true → 1 ≤ length (to_come g s rest tail) → Takes g s rest tail
takes g h (at_mark b c rest tail s) t l =
    let k = shared b false c in
    let v = sync_sent g.syncs in
    by_tick (start_sync g k) (mark_sync g h k)
    (ap (λ (x : List Bool). x ++ closed g c (waiting k rest) tail)
    (sync_starts g.syncs h.first))
    (opening (sync_left g.syncs) (v / 2) b c rest tail s) (λ e. refl)
takes g h (opening (suc n) v b c rest tail s) t l =
    let k = shared b false c in
    by_tick (sent_bit (odd v) (Sync n (v / 2)) k) (tick_sync g k n v) (unfold low_bits in refl)
    (opening n (v / 2) b c rest tail s) (λ e. refl)
takes g h (opening zero v (Some b) c rest tail s) t l =
    takes_byte_lem g h (Sync 0 v) refl b c rest tail (unfold low_bits in refl)
takes g h (opening zero v None c [] tail s) t l = absurd s
takes g h (opening zero v None c (x ∷ rest) tail s) t l = void t
takes g h (in_byte (suc n) v b c rest tail) t l =
    let k = shared b false c in
    by_tick (sent_bit (odd v) (Byte n (v / 2)) k) (tick_byte g k n v) (unfold low_bits in refl)
    (in_byte n (v / 2) b c rest tail) (λ e. refl)
takes g h (in_byte zero v (Some b) c rest tail) t l =
    takes_byte_lem g h (Byte 0 v) refl b c rest tail (unfold low_bits in refl)
takes g h (in_byte zero v None c [] tail) t l =
    by_tick (start_check (shared None true c)) (check_begins g h c v)
    (unfold low_bits in (closed_none g c tail)) (in_check 15 (shifted c) None c tail) (λ e. refl)
takes g h (in_byte zero v None c (x ∷ rest) tail) t l = void t
takes g h (in_check (suc n) v b c tail) t l =
    let k = shared b true c in
    by_tick (sent_bit (top v) (Check n (shifted v)) k) (tick_check g k n v) (unfold top_bits in refl)
    (in_check n (shifted v) b c tail) (λ e. refl)
takes g h (in_check zero v (Some b) c tail) t l =
    takes_behind g h (Check 0 v) refl b c tail (unfold top_bits in refl)
takes g h (in_check zero v None c []) t l =
    takes_sync g h (Check 0 v) refl c (unfold top_bits in refl)
takes g h (in_check zero v None c (x ∷ tail)) t l = void t
takes g h (in_tail (suc n) v b c tail) t l =
    let k = shared b true c in
    by_tick (sent_bit (odd v) (Byte n (v / 2)) k) (tick_byte g k n v) (unfold low_bits in refl)
    (in_tail n (v / 2) b c tail) (λ e. void (sym e))
takes g h (in_tail zero v (Some b) c tail) t l =
    takes_behind g h (Byte 0 v) refl b c tail (unfold low_bits in refl)
takes g h (in_tail zero v None c []) t l =
    takes_sync g h (Byte 0 v) refl c (unfold low_bits in refl)
takes g h (in_tail zero v None c (x ∷ tail)) t l = void t
takes g h (closing (suc n) v c) t l =
    let k = shared None true c in
    by_tick (sent_bit (odd v) (Sync n (v / 2)) k) (tick_sync g k n v) (unfold low_bits in refl)
    (closing n (v / 2) c) (λ e. void (sym e))
takes g h (closing zero v c) t l = absurd (omega (arith, low_bits_length 0 v))

-- a write into the empty buffer moves a byte from what is to be written to what waits
pub moves : (g : Syncing) {s : Sends} {v : ℕ} {rest tail : List ℕ} → Stage s (v ∷ rest) tail
    → full s.shared ≡ false
    → (to_come g s (v ∷ rest) tail ≡ to_come g (filled_with s v) rest tail)
    × Stage (filled_with s v) rest tail
moves g (at_mark (Some b) c rest tail s) e = void (sym e)
moves g {v = v} {rest = rest} (at_mark None c _ tail s) e = (refl, at_mark (Some v) c rest tail tt)
moves g (opening n x (Some b) c rest tail s) e = void (sym e)
moves g {v = v} {rest = rest} (opening n x None c _ tail s) e =
    (refl, opening n x (Some v) c rest tail tt)
moves g (in_byte n x (Some b) c rest tail) e = void (sym e)
moves g {v = v} {rest = rest} (in_byte n x None c _ tail) e =
    (refl, in_byte n x (Some v) c rest tail)

-- and, once the latch is set, from what goes straight behind the check
pub moves_behind : (g : Syncing) {s : Sends} {v : ℕ} {rest tail : List ℕ} → Stage s rest (v ∷ tail)
    → s.shared.latch ≡ true → full s.shared ≡ false
    → (to_come g s rest (v ∷ tail) ≡ to_come g (filled_with s v) rest tail)
    × Stage (filled_with s v) rest tail
moves_behind g (at_mark b c rest _ s) l e = void l
moves_behind g (opening n x b c rest _ s) l e = void l
moves_behind g (in_byte n x b c rest _) l e = void l
moves_behind g (in_check n x (Some b) c _) l e = void (sym e)
moves_behind g {v = v} {tail = tail} (in_check n x None c _) l e =
    (refl, in_check n x (Some v) c tail)
moves_behind g (in_tail n x (Some b) c _) l e = void (sym e)
moves_behind g {v = v} {tail = tail} (in_tail n x None c _) l e =
    (refl, in_tail n x (Some v) c tail)
