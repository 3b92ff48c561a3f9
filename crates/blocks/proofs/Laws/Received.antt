-- A block's way through a receiver: what is handed over, what enters the check, and what that
-- leaves. Assumes nothing.
use Rattle.std.specs.Prelude.{Option, Some, None, option_to_list, ◌≡◌, ◌≢◌, Bool, true, false, not, ◌&&◌, List, [], ◌∷◌, ◌++◌, ℕ, zero, suc, ◌%◌, ◌<◌, length, if◌then◌else◌}
use Rattle.std.proofs.Math.Path.{refl, ap}
use Rattle.std.proofs.Common.{sym, ◌∙◌, append-nil, eq-eqb, ne_eqb}
use Rattle.line.specs.Bits.{low_bits, text_bits}
use Rattle.line.specs.Check.{check_over}
use Rattle.line.specs.Laws.Bits.{text_bits_join}
use Rattle.line.specs.Laws.Check.{check_join}
use Rattle.entry.specs.declared.Entry.{Entry}
use Rattle.entry.specs.Entry.{plain_entry}
use Rattle.bytesync.specs.declared.Syncs.{Syncs}
use Rattle.bytesync.specs.declared.Matching.{Matching}
use Rattle.bytesync.specs.declared.Block.{Block}
use Rattle.bytesync.specs.Hearing.{no_block, reception_at, searching, expected, entering, arrived}
use Rattle.bytesync.specs.Hearing.{check_behind, assembling, hear_block}
use Rattle.shared.specs.Preset.{zeros}
use Rattle.blocks.specs.Check.{check_from, check_bytes, with_check}
use Rattle.blocks.specs.Heard.{Moment, heeding, Final, before, handed, hear_all, along}
use Rattle.blocks.specs.Heard.{entries_of}
use Rattle.blocks.specs.Characters.{Character, Brings, nothing, brings, kept, entrants}
use Rattle.blocks.specs.Characters.{pattern_bits, pattern_length, further_syncs, turn_after, each}
use Rattle.blocks.specs.Characters.{let_in, first_free, block_of, block_given}
use Rattle.whole.specs.Laws.Flip.{flip_found}
use Rattle.blocks.proofs.Laws.Checked.{with_check_zero}
use Rattle.blocks.proofs.Laws.Hunt.{assembled, byte_whole, sync_found}

-- Characters

char_in : (g : Matching) (d : Block) (x v : ℕ) (i : Bool) (ts : List Moment) (a b c e f h j : Bool)
    → v < 256
    → hear_all g (reception_at false d) x
    (along (a ∷ b ∷ c ∷ e ∷ f ∷ h ∷ j ∷ i ∷ []) (low_bits 8 v) ++ ts)
    ≡ let m = arrived (heeding g i) d x v in
    before (handed m) (hear_all g m.reception m.check ts)
unfolding hear_all along hear_block assembling low_bits
char_in g d x v i ts a b c e f h j l =
    ap (λ (u : ℕ). let m = arrived (heeding g i) d x u in
    before (handed m) (hear_all g m.reception m.check ts))
    (unfold assembled low_bits in byte_whole v l)

-- What is handed over goes by leading and turn, and the check by what waits: each apart from the
-- other

given_one : (b : Bool) (v : ℕ) (ws : List ℕ)
    → option_to_list (if b then None else Some (plain_entry v false false)) ++ entries_of ws
    ≡ entries_of ((if not b then v ∷ [] else []) ++ ws)
unfolding entries_of
given_one true v ws = refl
given_one false v ws = refl

got_is : (g : Matching) {cs : List Character} {ts : List Moment} (d : Block) (x : ℕ) → Brings cs ts
    → (hear_all g (reception_at false d) x ts).got ≡ entries_of (kept g d.leading d.turn cs)
unfolding kept arrived
got_is g d x nothing = unfold hear_all entries_of in refl
got_is g d x (brings {v = v} {i = i} {cs = cs} {ts = ts} a b c e f h j l k) =
    let m = arrived (heeding g i) d x v in
    let s = m.reception.block.leading in
    ap (λ (y : Final). y.got) (char_in g d x v i ts a b c e f h j l)
    ∙ ap (λ (y : List Entry). handed m ++ y) (got_is g m.reception.block m.check k)
    ∙ given_one (s && g.strip) v (kept g s (not d.turn) cs)

enters_is : (p c : ℕ) (h : Option ℕ) (b : Bool)
    → (if b then check_behind p c h else c) ≡ check_from p c (if b then option_to_list h else [])
enters_is p c None true = unfold text_bits check_over in refl
enters_is p c (Some v) true =
    unfold text_bits in ap (check_over p c) (sym (append-nil (low_bits 8 v)))
enters_is p c h false = unfold text_bits check_over in refl

check_is : (g : Matching) {cs : List Character} {ts : List Moment} (d : Block) (x : ℕ)
    → Brings cs ts
    → (hear_all g (reception_at false d) x ts).check
    ≡ check_from g.polynomial x (entrants d.held cs)
unfolding entrants arrived entering
check_is g d x nothing = unfold hear_all text_bits check_over in refl
check_is g d x (brings {v = v} {i = i} {cs = cs} {ts = ts} a b c e f h j l k) =
    let p = g.polynomial in
    let m = arrived (heeding g i) d x v in
    let vs = if i then option_to_list d.held else [] in
    let ws = entrants (Some v) cs in
    ap (λ (y : Final). y.check) (char_in g d x v i ts a b c e f h j l)
    ∙ check_is g m.reception.block m.check k
    ∙ ap (λ (y : ℕ). check_from p y ws) (enters_is p x d.held i)
    ∙ sym (check_join p x (text_bits 8 vs) (text_bits 8 ws))
    ∙ ap (check_over p x) (sym (text_bits_join 8 vs ws))

-- A block

kept_free : (g : Matching) (l t i : Bool) (cs : List Character)
    → kept g l t (first_free i cs) ≡ kept g l t cs
unfolding kept first_free
kept_free g l t i [] = refl
kept_free g l t i (c ∷ cs) = refl

entrants_free : (i : Bool) (cs : List Character)
    → entrants None (first_free i cs) ≡ entrants None cs
unfolding entrants first_free
entrants_free i [] = refl
entrants_free i (c ∷ cs) =
    ap (λ (l : List ℕ). l ++ entrants (Some c.byte) cs) (none_either i ∙ sym (none_either c.lets))
  where
    none_either : (b : Bool) → ◌≡◌ {A = List ℕ} (if b then [] else []) []
    none_either true = refl
    none_either false = refl

all_enter : (v w : ℕ) (vs : List ℕ) → entrants (Some v) (each true (vs ++ (w ∷ []))) ≡ v ∷ vs
unfolding entrants each
all_enter v w [] = refl
all_enter v w (y ∷ vs) = ap (λ (l : List ℕ). v ∷ l) (all_enter y w vs)

block_enters : (h : Option ℕ) (w : ℕ) (ss vs : List ℕ)
    → entrants h (each false ss ++ let_in (vs ++ (w ∷ []))) ≡ vs
unfolding entrants each let_in
block_enters h w [] [] = refl
block_enters h w [] (v ∷ vs) = all_enter v w vs
block_enters h w (s ∷ ss) vs = block_enters (Some s) w ss vs

kept_all : (g : Matching) (t i : Bool) (vs : List ℕ) → kept g false t (each i vs) ≡ vs
unfolding kept each
kept_all g t i [] = refl
kept_all g t i (v ∷ vs) = ap (λ (l : List ℕ). v ∷ l) (kept_all g (not t) i vs)

-- a leading sync is dropped, or goes before what follows
stripped : (z : Bool) (x : ℕ) (ss vs ws : List ℕ) → ws ≡ (if z then [] else ss) ++ vs
    → (if not (true && z) then x ∷ [] else []) ++ ws ≡ (if z then [] else x ∷ ss) ++ vs
stripped true x ss vs ws e = e
stripped false x ss vs ws e = ap (λ (l : List ℕ). x ∷ l) e

no_syncs : (z : Bool) (vs : List ℕ) → vs ≡ (if z then [] else []) ++ vs
no_syncs true vs = refl
no_syncs false vs = refl

kept_block : (g : Matching) (t : Bool) (k v : ℕ) (vs : List ℕ)
    → v ≢ expected g.syncs (turn_after t k)
    → kept g true t (each false (further_syncs g.syncs t k) ++ let_in (v ∷ vs))
    ≡ (if g.strip then [] else further_syncs g.syncs t k) ++ (v ∷ vs)
unfolding kept further_syncs turn_after each let_in
kept_block g t zero v vs n =
    rw (ne_eqb v (expected g.syncs t) n)
    (ap (λ (l : List ℕ). v ∷ l) (kept_all g (not t) true vs) ∙ no_syncs g.strip (v ∷ vs))
kept_block g t (suc k) v vs n =
    let x = expected g.syncs t in
    let ss = further_syncs g.syncs (not t) k in
    rw (eq-eqb x x refl)
    (stripped g.strip x ss (v ∷ vs) (kept g true (not t) (each false ss ++ let_in (v ∷ vs)))
    (kept_block g (not t) k v vs n))

-- From hunt begun: a sync, k further sync characters, bytes and a last character, WR3 D3 letting in
-- exactly the bytes

module _ (g : Matching) (first : g.syncs.first < 256) (second : g.syncs.second < 256)
    (is : List Bool) (full : length is ≡ pattern_length g.syncs) where
  abbrev y : Syncs
  y = g.syncs

  abbrev p : ℕ
  p = g.polynomial

  abbrev pub fed : ℕ → List Moment → Final
  fed c ts = hear_all g (searching true) c (along is (pattern_bits y) ++ ts)

  pub block_handed : (i : Bool) (c k v w : ℕ) (vs : List ℕ) {ts : List Moment}
      → Brings (block_of y i k (v ∷ vs) w) ts → v ≢ expected y (turn_after false k)
      → (fed c ts).got ≡ entries_of (block_given g k (v ∷ vs) w)
  block_handed i c k v w vs {ts} b n =
      ap (λ (f : Final). f.got) (sync_found g is c ts first second full)
      ∙ got_is g (no_block true) c b
      ∙ ap entries_of (kept_free g true false i
      (each false (further_syncs y false k) ++ let_in (v ∷ (vs ++ (w ∷ []))))
      ∙ kept_block g false k v (vs ++ (w ∷ [])) n)

  pub block_register : (i : Bool) (c k w : ℕ) (vs : List ℕ) {ts : List Moment}
      → Brings (block_of y i k vs w) ts → (fed c ts).check ≡ check_from p c vs
  block_register i c k w vs {ts} b =
      let ss = further_syncs y false k in
      ap (λ (f : Final). f.check) (sync_found g is c ts first second full)
      ∙ check_is g (no_block true) c b
      ∙ ap (check_from p c)
      (entrants_free i (each false ss ++ let_in (vs ++ (w ∷ []))) ∙ block_enters None w ss vs)

  -- a text, of which the first byte is no sync, and its check: all is handed over, and the register
  -- is zero
  pub block_heard : (i : Bool) (k v w : ℕ) (vs : List ℕ) {ts : List Moment} → p < 65536
      → v ≢ expected y (turn_after false k) → Brings (block_of y i k (with_check p (v ∷ vs)) w) ts
      → ((fed zeros ts).got ≡ entries_of (block_given g k (with_check p (v ∷ vs)) w))
      × ((fed zeros ts).check ≡ 0)
  block_heard i k v w vs s n b = (
    block_handed i zeros k v w (vs ++ check_bytes (check_from p zeros (v ∷ vs))) b n,
    block_register i zeros k w (with_check p (v ∷ vs)) b ∙ with_check_zero p (v ∷ vs) s,
  )

  -- bytes that differ from a text and its check in one bit, wherever it is: the register is not
  -- zero
  pub block_flipped : (i : Bool) (k w : ℕ) (text vs : List ℕ) (xs ys : List Bool) (a : Bool)
      {ts : List Moment} → p < 65536 → p % 2 ≡ 1
      → text_bits 8 (with_check p text) ≡ xs ++ (a ∷ ys) → text_bits 8 vs ≡ xs ++ (not a ∷ ys)
      → Brings (block_of y i k vs w) ts → (fed zeros ts).check ≢ 0
  block_flipped i k w text vs xs ys a s o e f b z =
      flip_found p s o 0 0 xs ys a (ap (check_over p 0) (sym e) ∙ with_check_zero p text s)
      (ap (check_over p 0) (sym f) ∙ sym (block_register i zeros k w vs b) ∙ z)
