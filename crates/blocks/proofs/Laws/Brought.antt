-- Ticks whose bits are a text's bring its characters, each with WR3 D3 as it is on its last tick;
-- so a block on the line is brought. Assumes nothing.
use Rattle.std.specs.Prelude.{◌≡◌, refl, Bool, true, false, not, List, [], ◌∷◌, ◌++◌, ◌≢◌, ℕ, zero, suc, ◌+◌, ◌%◌, ◌<◌, length, replicate}
use Rattle.std.proofs.Common.{sym, ap, ap₂, ◌∙◌, subst, arith}
use Rattle.line.specs.Bits.{low_bits, text_bits, Below, below_more}
use Rattle.line.specs.Laws.Bits.{low_bits_length}
use Rattle.bytesync.specs.declared.Syncs.{Syncs}
use Rattle.bytesync.specs.declared.Matching.{Matching}
use Rattle.bytesync.specs.Hearing.{searching, expected}
use Rattle.shared.specs.Preset.{zeros}
use Rattle.blocks.specs.Check.{check_from, check_bytes, with_check}
use Rattle.blocks.specs.Heard.{Moment, moment, hear_all, along, entries_of}
use Rattle.blocks.specs.Characters.{Character, char, Brings, nothing, brings, bits_of, ends_of}
use Rattle.blocks.specs.Characters.{lets_of, further_syncs, each, let_in, first_free, block_of}
use Rattle.blocks.specs.Characters.{pattern_bits, pattern_length, turn_after, block_given}
use Rattle.blocks.specs.Characters.{block_bytes, letting, Feeds}
use Rattle.blocks.proofs.Laws.Hunt.{pattern_length_lem}
use Rattle.blocks.proofs.Laws.Received.{block_heard, block_flipped}

-- Bits found in ticks

abbrev head_of : List Bool → Bool
head_of [] = false
head_of (b ∷ bs) = b

abbrev tail_of : List Bool → List Bool
tail_of [] = []
tail_of (b ∷ bs) = bs

-- the first ticks bring these bits, and the rest the others
pub record Apart (ts : List Moment) (bs more : List Bool) : Type 0 where
  pub is : List Bool
  pub rest : List Moment
  pub many : length is ≡ length bs
  pub are : ts ≡ along is bs ++ rest
  pub left : bits_of rest ≡ more

pub apart : (bs : List Bool) (ts : List Moment) (more : List Bool) → bits_of ts ≡ bs ++ more
    → Apart ts bs more
unfolding bits_of along
apart [] ts more e = record { is = []; rest = ts; many = refl; are = refl; left = e }
apart (b ∷ bs) [] more e = absurd (omega (arith, ap length e))
apart (b ∷ bs) (t ∷ ts) more e =
    let a = apart bs ts more (ap tail_of e) in
    let h : t.bit ≡ b = ap head_of e in
    record {
      is = t.checking ∷ a.is;
      rest = a.rest;
      many = ap suc a.many;
      are = ap₂ (λ (x : Bool) (l : List Moment). moment t.checking x ∷ l) h a.are;
      left = a.left;
    }

-- Characters

-- bytes, with WR3 D3 beside each
unfoldable pub zipped : List ℕ → List Bool → List Character
zipped [] ls = []
zipped (v ∷ vs) [] = []
zipped (v ∷ vs) (l ∷ ls) = char v l ∷ zipped vs ls

byte_brings : (v : ℕ) (vs : List ℕ) (is : List Bool) (rest : List Moment) → length is ≡ 8 → v < 256
    → Brings (zipped vs (lets_of rest)) rest
    → let ts = along is (low_bits 8 v) ++ rest in Brings (zipped (v ∷ vs) (lets_of ts)) ts
unfolding along low_bits ends_of zipped
byte_brings v vs [] rest l h k = absurd (omega arith)
byte_brings v vs (a ∷ []) rest l h k = absurd (omega arith)
byte_brings v vs (a ∷ b ∷ []) rest l h k = absurd (omega arith)
byte_brings v vs (a ∷ b ∷ c ∷ []) rest l h k = absurd (omega arith)
byte_brings v vs (a ∷ b ∷ c ∷ d ∷ []) rest l h k = absurd (omega arith)
byte_brings v vs (a ∷ b ∷ c ∷ d ∷ e ∷ []) rest l h k = absurd (omega arith)
byte_brings v vs (a ∷ b ∷ c ∷ d ∷ e ∷ f ∷ []) rest l h k = absurd (omega arith)
byte_brings v vs (a ∷ b ∷ c ∷ d ∷ e ∷ f ∷ g ∷ []) rest l h k = absurd (omega arith)
byte_brings v vs (a ∷ b ∷ c ∷ d ∷ e ∷ f ∷ g ∷ i ∷ []) rest l h k = brings a b c d e f g h k
byte_brings v vs (a ∷ b ∷ c ∷ d ∷ e ∷ f ∷ g ∷ i ∷ j ∷ is) rest l h k = absurd (omega arith)

no_ticks : (ts : List Moment) → bits_of ts ≡ [] → ts ≡ []
unfolding bits_of
no_ticks [] e = refl
no_ticks (t ∷ ts) e = absurd (omega (arith, ap length e))

pub brings_text : (vs : List ℕ) (ts : List Moment) → Below 256 vs → bits_of ts ≡ text_bits 8 vs
    → Brings (zipped vs (lets_of ts)) ts
unfolding text_bits
brings_text [] ts b e = unfold zipped in (subst (Brings []) (sym (no_ticks ts e)) nothing)
brings_text (v ∷ vs) ts (below_more h b) e =
    let a = apart (low_bits 8 v) ts (text_bits 8 vs) e in
    let k = brings_text vs a.rest b a.left in
    subst (λ (l : List Moment). Brings (zipped (v ∷ vs) (lets_of l)) l) (sym a.are)
    (byte_brings v vs a.is a.rest (a.many ∙ low_bits_length 8 v) h k)

-- A block

zipped_all : (vs : List ℕ) (w : ℕ)
    → zipped (vs ++ (w ∷ [])) (true ∷ replicate (length vs) true) ≡ each true (vs ++ (w ∷ []))
unfolding zipped each
zipped_all [] w = refl
zipped_all (v ∷ vs) w = ap (λ (l : List Character). char v true ∷ l) (zipped_all vs w)

-- the first character with WR3 D3 clear, k of them, and the rest with it set
zipped_block : (y : Syncs) (t : Bool) (k v w : ℕ) (vs : List ℕ)
    → zipped (further_syncs y t k ++ ((v ∷ vs) ++ (w ∷ [])))
    (false ∷ (replicate k false ++ replicate (length (v ∷ vs)) true))
    ≡ each false (further_syncs y t k) ++ let_in ((v ∷ vs) ++ (w ∷ []))
unfolding zipped each further_syncs let_in
zipped_block y t zero v w vs = ap (λ (l : List Character). char v false ∷ l) (zipped_all vs w)
zipped_block y t (suc k) v w vs =
    ap (λ (l : List Character). char (expected y t) false ∷ l) (zipped_block y (not t) k v w vs)

zipped_first : (i : Bool) (vs : List ℕ) (ls : List Bool)
    → zipped vs (i ∷ ls) ≡ first_free i (zipped vs (false ∷ ls))
unfolding zipped first_free
zipped_first i [] ls = refl
zipped_first i (v ∷ vs) ls = refl

-- ticks with a block's bits and WR3 D3 set for just its bytes
pub block_brought : (y : Syncs) (i : Bool) (k v w : ℕ) (vs : List ℕ) (ts : List Moment)
    → Below 256 (block_bytes y k (v ∷ vs) w) → bits_of ts ≡ text_bits 8 (block_bytes y k (v ∷ vs) w)
    → lets_of ts ≡ letting i k (length (v ∷ vs)) → Brings (block_of y i k (v ∷ vs) w) ts
block_brought y i k v w vs ts b e l =
    let bytes = block_bytes y k (v ∷ vs) w in
    let ls = replicate k false ++ replicate (length (v ∷ vs)) true in
    subst (λ (cs : List Character). Brings cs ts)
    (ap (zipped bytes) l ∙ zipped_first i bytes ls
    ∙ ap (first_free i) (zipped_block y false k v w vs))
    (brings_text bytes ts b e)

-- From hunt begun, the bits of a sync and of a block

ends_behind : (is bs : List Bool) (rest : List Moment) (n : ℕ) → length is ≡ length bs
    → ends_of (length bs + n) (along is bs ++ rest) ≡ ends_of n rest
unfolding along ends_of
ends_behind [] [] rest n l = let z : 0 + n ≡ n = omega arith in ap (λ (m : ℕ). ends_of m rest) z
ends_behind [] (b ∷ bs) rest n l = absurd (omega arith)
ends_behind (i ∷ is) [] rest n l = absurd (omega arith)
ends_behind (i ∷ is) (b ∷ bs) rest n l =
    let z : suc (length bs) + n ≡ suc (length bs + n) = omega arith in
    ap (λ (m : ℕ). ends_of m (moment i b ∷ (along is bs ++ rest))) z
    ∙ ends_behind is bs rest n (omega arith)

-- the ticks, apart: those of the sync, and those that bring the block
pub record Parts (y : Syncs) (k : ℕ) (vs : List ℕ) (w : ℕ) (ts : List Moment) : Type 0 where
  pub is : List Bool
  pub rest : List Moment
  pub first : Bool
  pub full : length is ≡ pattern_length y
  pub are : ts ≡ along is (pattern_bits y) ++ rest
  pub brought : Brings (block_of y first k vs w) rest

pub parts : (y : Syncs) (k v w : ℕ) (vs : List ℕ) (ts : List Moment) → Feeds y k (v ∷ vs) w ts
    → Parts y k (v ∷ vs) w ts
parts y k v w vs ts f =
    let bytes = block_bytes y k (v ∷ vs) w in
    let a = apart (pattern_bits y) ts (text_bits 8 bytes) f.bits in
    let n = pattern_length_lem y in
    let e : ends_of (pattern_length y + 7) ts ≡ lets_of a.rest =
    ap₂ (λ (m : ℕ) (l : List Moment). ends_of (m + 7) l) (sym n) a.are
    ∙ ends_behind a.is (pattern_bits y) a.rest 7 a.many in
    record {
      is = a.is;
      rest = a.rest;
      first = f.first;
      full = a.many ∙ n;
      are = a.are;
      brought = block_brought y f.first k v w vs a.rest f.below a.left
          (sym e ∙ f.lets);
    }

module _ (g : Matching) (first : g.syncs.first < 256) (second : g.syncs.second < 256)
    (small : g.polynomial < 65536) where
  abbrev p : ℕ
  p = g.polynomial

  -- a block of n bytes and their check, of which the first is no sync: all of it is handed over
  -- but, if WR3 D1 is set, the further syncs, and the register is zero
  pub block_fed : (k v w : ℕ) (vs : List ℕ) (ts : List Moment)
      → v ≢ expected g.syncs (turn_after false k)
      → Feeds g.syncs k (with_check p (v ∷ vs)) w ts
      → let f = hear_all g (searching true) zeros ts in
      (f.got ≡ entries_of (block_given g k (with_check p (v ∷ vs)) w)) × (f.check ≡ 0)
  block_fed k v w vs ts n f =
      let q = parts g.syncs k v w (vs ++ check_bytes (check_from p zeros (v ∷ vs))) ts f in
      subst (λ (l : List Moment). let f = hear_all g (searching true) zeros l in
      (f.got ≡ entries_of (block_given g k (with_check p (v ∷ vs)) w)) × (f.check ≡ 0))
      (sym q.are)
      (block_heard g first second q.is q.full q.first k v w vs small n q.brought)

  -- one bit of bytes or check turned over: the register is not zero
  pub flipped_fed : (k v w : ℕ) (text vs : List ℕ) (xs ys : List Bool) (a : Bool) (ts : List Moment)
      → p % 2 ≡ 1 → text_bits 8 (with_check p text) ≡ xs ++ (a ∷ ys)
      → text_bits 8 (v ∷ vs) ≡ xs ++ (not a ∷ ys) → Feeds g.syncs k (v ∷ vs) w ts
      → (hear_all g (searching true) zeros ts).check ≢ 0
  flipped_fed k v w text vs xs ys a ts o e d f =
      let q = parts g.syncs k v w vs ts f in
      subst (λ (l : List Moment). (hear_all g (searching true) zeros l).check ≢ 0) (sym q.are)
      (block_flipped g first second q.is q.full q.first k w text (v ∷ vs) xs ys a
      small o e d
      q.brought)
