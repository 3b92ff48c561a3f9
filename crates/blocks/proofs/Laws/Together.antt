-- Both ends: a block that was sent in time is heard, and its check is good, up to the character
-- behind the check. Assumes nothing.
use Rattle.std.specs.Prelude.{◌≡◌, refl, ◌≢◌, Bool, ℕ, ◌+◌, ◌*◌, ◌≤◌, ◌<◌, length, take, if◌then◌else◌}
use Rattle.std.proofs.Math.Path.{sym, ap}
use Rattle.std.proofs.Common.{ap₂, ◌∙◌, arith, length-append, take_at}
use Rattle.std.proofs.Math.Bool.{true, false}
use mathlib.Core.List.{List, [], ◌∷◌, ◌++◌, append_assoc, append-nil}
use Rattle.common.specs.Tools.{if_elim}
use Rattle.line.specs.Bits.{low_bits, text_bits, Below, below_none, below_more}
use Rattle.line.specs.Check.{top_bits}
use Rattle.line.specs.Laws.Bits.{text_bits_join}
use Rattle.bytesync.specs.declared.Syncs.{Syncs}
use Rattle.bytesync.specs.declared.Syncing.{Syncing}
use Rattle.bytesync.specs.declared.Matching.{Matching}
use Rattle.bytesync.specs.Hearing.{expected, searching}
use Rattle.shared.specs.Preset.{zeros}
use Rattle.blocks.specs.Check.{check_from, with_check}
use Rattle.blocks.specs.Heard.{Moment, hear_all, entries_of}
use Rattle.blocks.specs.Characters.{bits_of, ends_of, pattern_bits, pattern_length, further_syncs}
use Rattle.blocks.specs.Characters.{turn_after, block_given, block_bytes, letting, Feeds}
use Rattle.blocks.specs.Come.{Good, sync_bits, behind, closed, Act, acts_line, ticks, InTime}
use Rattle.blocks.specs.Come.{sync_length, started, sync_head, block_bits}
use Rattle.blocks.proofs.Laws.Check.{with_check_bits, with_check_below, with_check_length}
use Rattle.whole.specs.Laws.Bytes.{below_join}
use Rattle.blocks.proofs.Laws.Brought.{block_fed}
use Rattle.blocks.proofs.Laws.Sent.{block_sent}

-- the character behind the check, and the bits behind that
abbrev pub last_byte : Syncing → List ℕ → ℕ
last_byte g [] = g.syncs.first
last_byte g (w ∷ more) = w

abbrev pub bits_left : Syncing → List ℕ → List Bool
bits_left g [] = if g.syncs.both then low_bits 8 g.syncs.second else []
bits_left g (w ∷ more) = behind g more

one_text : (w : ℕ) → text_bits 8 (w ∷ []) ≡ low_bits 8 w
unfolding text_bits
one_text w = append-nil (low_bits 8 w)

behind_is : (g : Syncing) (tail : List ℕ)
    → behind g tail ≡ text_bits 8 (last_byte g tail ∷ []) ++ bits_left g tail
behind_is g [] = unfold text_bits in (halves g.syncs.both)
  where
    halves : (b : Bool) → let x = g.syncs.first in let y = g.syncs.second in
        (if b then low_bits 8 x ++ low_bits 8 y else low_bits 8 x)
        ≡ (low_bits 8 x ++ []) ++ (if b then low_bits 8 y else [])
    halves true =
        ap (λ (l : List Bool). l ++ low_bits 8 g.syncs.second)
        (sym (append-nil (low_bits 8 g.syncs.first)))
    halves false =
        sym (append-nil (low_bits 8 g.syncs.first ++ [])
        ∙ append-nil (low_bits 8 g.syncs.first))
behind_is g (w ∷ more) =
    let e = text_bits_join 8 (w ∷ []) more in
    ap (λ (l : List Bool). l ++ sync_bits g.syncs) e
    ∙ append_assoc (text_bits 8 (w ∷ [])) (text_bits 8 more) (sync_bits g.syncs)

-- a block as a text
pub block_bytes_lem : (g : Syncing) (vs tail : List ℕ)
    → closed g zeros vs tail
    ≡ text_bits 8 (with_check g.polynomial vs ++ (last_byte g tail ∷ [])) ++ bits_left g tail
unfolding closed
block_bytes_lem g vs tail =
    let p = g.polynomial in
    let c = top_bits 16 (check_from p zeros vs) in
    let w = text_bits 8 (last_byte g tail ∷ []) in
    let r = bits_left g tail in
    ap (λ (l : List Bool). text_bits 8 vs ++ (c ++ l)) (behind_is g tail)
    ∙ sym (append_assoc (text_bits 8 vs) c (w ++ r))
    ∙ sym (append_assoc (text_bits 8 vs ++ c) w r)
    ∙ ap (λ (l : List Bool). (l ++ w) ++ r) (sym (with_check_bits p vs))
    ∙ ap (λ (l : List Bool). l ++ r) (sym (text_bits_join 8 (with_check p vs) (last_byte g tail ∷ [])))

append_cancel : (xs ys zs : List Bool) → xs ++ zs ≡ ys ++ zs → xs ≡ ys
append_cancel xs ys zs e =
    let n : length xs ≡ length ys =
    omega (arith, ap length e, length-append xs zs, length-append ys zs) in
    sym (take_at xs zs (length ys) n) ∙ ap (take (length ys)) e ∙ take_at ys zs (length ys) refl

-- the bits of a block that was sent, up to the character behind the check
pub line_bytes : (g : Syncing) (vs tail : List ℕ) (bits : List Bool)
    → bits ++ bits_left g tail ≡ block_bits g vs tail
    → bits ≡ sync_bits g.syncs
    ++ text_bits 8 (with_check g.polynomial vs ++ (last_byte g tail ∷ []))
line_bytes g vs tail bits e =
    let y = sync_bits g.syncs in
    let text = text_bits 8 (with_check g.polynomial vs ++ (last_byte g tail ∷ [])) in
    append_cancel bits (y ++ text) (bits_left g tail)
    (e ∙ ap (λ (x : List Bool). y ++ x) (block_bytes_lem g vs tail)
    ∙ sym (append_assoc y text (bits_left g tail)))

-- the other end has the same sync and the same polynomial
pub record Alike (s : Syncing) (r : Matching) : Type 0 where
  pub sync : pattern_bits r.syncs ≡ sync_bits s.syncs
  pub polynomial : r.polynomial ≡ s.polynomial

pub same_bytes : (s : Syncing) (r : Matching) (vs : List ℕ) (w : ℕ) → Alike s r
    → sync_bits s.syncs ++ text_bits 8 (with_check s.polynomial vs ++ (w ∷ []))
    ≡ pattern_bits r.syncs
    ++ text_bits 8 (block_bytes r.syncs 0 (with_check r.polynomial vs) w)
unfolding further_syncs
same_bytes s r vs w a =
    ap₂ (λ (x : List Bool) (p : ℕ). x ++ text_bits 8 (with_check p vs ++ (w ∷ [])))
    (sym a.sync) (sym a.polynomial)

pub all_below : (y : Syncs) (p : ℕ) {vs : List ℕ} {w : ℕ} → Below 256 vs → w < 256
    → Below 256 (block_bytes y 0 (with_check p vs) w)
unfolding further_syncs
all_below y p k m = below_join (with_check_below p k) (below_more m below_none)

-- no further syncs: all is handed over
pub given_all : (g : Matching) (vs : List ℕ) (w : ℕ) → block_given g 0 vs w ≡ vs ++ (w ∷ [])
unfolding further_syncs
given_all g vs w =
    if_elim (λ (l : List ℕ). l ++ (vs ++ (w ∷ [])) ≡ vs ++ (w ∷ [])) g.strip refl refl

-- what one sends in time, the other hears whole and with a good check: the bits that it hears are
-- those of the sync, the bytes, the check and one character more
pub together : (s : Syncing) (r : Matching) (p v : ℕ) (vs tail : List ℕ) {acts : List Act}
    → Good s → p ≤ sync_length s.syncs
    → InTime s [] [] (started s.syncs p) (v ∷ vs) tail acts
    → p + ticks acts
    ≡ 2 * sync_length s.syncs + 8 * length (v ∷ vs) + 16 + 8 * length tail
    → Alike s r → r.syncs.first < 256 → r.syncs.second < 256 → r.polynomial < 65536
    → v ≢ expected r.syncs false → Below 256 (v ∷ vs) → last_byte s tail < 256
    → (i : Bool) (ts : List Moment)
    → bits_of ts ++ bits_left s tail
    ≡ sync_head s.syncs p ++ acts_line s (started s.syncs p) acts
    → ends_of (pattern_length r.syncs + 7) ts ≡ letting i 0 (length (v ∷ vs) + 2)
    → let f = hear_all r (searching true) zeros ts in
    (f.got ≡ entries_of (with_check r.polynomial (v ∷ vs) ++ (last_byte s tail ∷ [])))
    × (f.check ≡ 0)
together s r p v vs tail h l t n a first second small d k m i ts e o =
    let w = last_byte s tail in
    let bytes = with_check r.polynomial (v ∷ vs) in
    let fed : Feeds r.syncs 0 bytes w ts = record {
      bits =
          line_bytes s (v ∷ vs) tail (bits_of ts) (e ∙ block_sent s h p v vs tail l t n)
          ∙ same_bytes s r (v ∷ vs) w a;
      first = i;
      lets = o ∙ ap (letting i 0) (sym (with_check_length r.polynomial (v ∷ vs)));
      below = all_below r.syncs r.polynomial k m;
    } in
    let g = block_fed r first second small 0 v w vs ts (unfold turn_after in d) fed in
    (g.0 ∙ ap entries_of (given_all r bytes w), g.1)
