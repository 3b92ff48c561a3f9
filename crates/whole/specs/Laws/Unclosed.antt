-- While the latch is clear the line holds no closed frame: a flag ends only right behind another;
-- and a frame is closed. Assumes nothing.
use Rattle.std.specs.Prelude.{◌≡◌, refl, Bool, true, false, not, ◌&&◌, Option, Some, None, List, []}
use Rattle.std.specs.Prelude.{◌∷◌, ◌++◌, ℕ, zero, suc, ◌+◌, ◌-◌, ◌/◌, ◌≤◌, ◌<◌, eqb, length, if◌then◌else◌}
use Rattle.std.proofs.Common.{sym, ap, ◌∙◌, append_assoc, arith, length-append, ne_eqb, lt-ltb}
use Rattle.common.specs.Tools.{lt_or, both_left, both_right, not_true}
use Rattle.line.specs.Bits.{odd, low_bits}
use Rattle.line.specs.Check.{sdlc, check_over}
use Rattle.line.specs.Insertion.{owes, run_after, stuff}
use Rattle.line.specs.Frame.{flag_bits, content_of}
use Rattle.line.specs.Laws.Frame.{content_length}
use Rattle.line.specs.Laws.Insertion.{stuff_length}
use Rattle.shared.specs.Shared.{shared}
use Rattle.sdlc.specs.declared.LineUnit.{LineUnit}
use Rattle.sdlc.specs.declared.LineUnit.TheVariants.{Flag, Byte}
use Rattle.sdlc.specs.declared.Framer.{Framer}
use Rattle.sdlc.specs.declared.Framed.{Framed}
use Rattle.sdlc.specs.Sending.{insertion, not_counted, framer, framed, start_byte, flag_bit, tick_sdlc}
use Rattle.sdlc.specs.Within.{ones_after}
use Rattle.sdlc.specs.Laws.Tick.{tick_owed, tick_flag, tick_byte, tick_chooses, next_flag_full}
use Rattle.sdlc.specs.Laws.Tick.{next_flag_empty, next_byte_full, next_byte_check}
use Rattle.whole.specs.Come.{good, flag_tail, filled_with}
use Rattle.whole.specs.Heard.{flag_ends, ones_over, flag_free, lead}
use Rattle.whole.specs.Laws.Deaf.{content_free}

-- o ones and g bits behind the last flag: a flag ends only eight bits behind the one before it
unfoldable pub unclosed : ℕ → ℕ → List Bool → Bool
unclosed o g [] = true
unclosed o g (b ∷ bs) =
    if flag_ends o b then eqb g 7 && unclosed 0 0 bs else unclosed (ones_after o b) (g + 1) bs

-- A frame is closed

ends_later : (o g : ℕ) (xs : List Bool) → flag_free o xs ≡ true → ones_over o xs ≡ 6
    → (g + length xs ≡ 7 → ⊥) → unclosed o g (xs ++ (false ∷ [])) ≡ false
unfolding unclosed flag_free ones_over
ends_later o g [] f e n = let t : eqb g 7 ≡ false = ne_eqb g 7 (λ q. n (omega arith)) in rw (e, t)
ends_later o g (x ∷ xs) f e n =
    let a = not (flag_ends o x) in
    let b = flag_free (ones_after o x) xs in
    let t = not_true (flag_ends o x) (both_left a b f) in
    rw t (ends_later (ones_after o x) (g + 1) xs (both_right a b f) e (λ q. n (omega arith)))

ones_join : (o : ℕ) (xs ys : List Bool) → ones_over o (xs ++ ys) ≡ ones_over (ones_over o xs) ys
unfolding ones_over
ones_join o [] ys = refl
ones_join o (x ∷ xs) ys = ones_join (ones_after o x) xs ys

pub lead_six : (o : ℕ) → ones_over o lead ≡ 6
unfolding ones_over
lead_six o = refl

pub frame_closed : (note : List ℕ) → unclosed 0 0 (stuff 0 (content_of note) ++ flag_bits) ≡ false
frame_closed note =
    let s = stuff 0 (content_of note) in
    ap (unclosed 0 0) (sym (append_assoc s lead (false ∷ [])))
    ∙ ends_later 0 0 (s ++ lead) (content_free (content_of note))
    (ones_join 0 s lead ∙ lead_six (ones_over 0 s))
    (λ q. omega (arith, length-append s lead, stuff_length 0 (content_of note), content_length note))

-- A sender whose latch is clear

-- ones and bits behind the last flag, when n bits of this one are left
abbrev pub ones_in : ℕ → ℕ
ones_in zero = 0
ones_in (suc n) = 6 - n

abbrev pub bits_in : ℕ → ℕ
bits_in zero = 0
bits_in (suc n) = 7 - n

pub data Opened : Framer → ℕ → ℕ → Type 0 where
  in_flag : (n : ℕ) (b : Option ℕ) (c : ℕ) → n ≤ 7
      → Opened (framer (Flag n) not_counted (shared b false c)) (ones_in n) (bits_in n)
  in_byte_lem : (n v r : ℕ) (b : Option ℕ) (c g : ℕ) → r < 5
      → Opened (framer (Byte n v) (insertion r false) (shared b false c)) r g
  owing : (n v : ℕ) (b : Option ℕ) (c g : ℕ)
      → Opened (framer (Byte n v) (insertion 0 true) (shared b false c)) 5 g

-- a bit of content
record Content (s : Framer) (r g : ℕ) (bit : Bool) : Type 0 where
  pub ones : ℕ
  pub bits : ℕ
  pub there : Opened s ones bits
  pub on : (bs : List Bool) → unclosed r g (bit ∷ bs) ≡ unclosed ones bits bs

content : (n v r : ℕ) (b : Option ℕ) (c g : ℕ) (bit : Bool) → r < 5
    → Content (framer (Byte n v) (insertion (run_after r bit) (owes r bit))
    (shared b false c)) r g bit
unfolding unclosed
content n v r b c g false h = record {
  ones = 0;
  bits = g + 1;
  there = in_byte_lem n v 0 b c (g + 1) (omega arith);
  on = λ bs. rw (ne_eqb r 6 (λ e. omega arith));
}
content n v r b c g true h =
    lt_or r 4
    (λ l. rw (lt-ltb r 4 l) (record {
      ones = r + 1;
      bits = g + 1;
      there = in_byte_lem n v (r + 1) b c (g + 1) (omega arith);
      on = λ bs. rw (lt-ltb r 7 (omega arith));
    }))
    (λ l. let e : r ≡ 4 = omega arith in
    rw e (record { ones = 5; bits = g + 1; there = owing n v b c (g + 1); on = λ bs. refl }))

-- a tick goes on so, or sets the latch
pub data Goes (s : Framer) (o g : ℕ) : Type 0 where
  goes : (bit loaded : Bool) (t : Framer) (p q : ℕ) → tick_sdlc good s ≡ framed bit loaded t
      → Opened t p q
      → ((bs : List Bool) → unclosed o g (bit ∷ bs) ≡ unclosed p q bs) → Goes s o g
  shuts : (tick_sdlc good s).framer.shared.latch ≡ true → Goes s o g

flag_on : (n : ℕ) → n ≤ 6 → (bs : List Bool)
    → unclosed (ones_in (suc n)) (bits_in (suc n)) (flag_bit (suc n) ∷ bs)
    ≡ unclosed (ones_in n) (bits_in n) bs
unfolding unclosed
flag_on zero h bs = refl
flag_on (suc zero) h bs = refl
flag_on (suc (suc zero)) h bs = refl
flag_on (suc (suc (suc zero))) h bs = refl
flag_on (suc (suc (suc (suc zero)))) h bs = refl
flag_on (suc (suc (suc (suc (suc zero))))) h bs = refl
flag_on (suc (suc (suc (suc (suc (suc zero)))))) h bs = refl
flag_on (suc (suc (suc (suc (suc (suc (suc n))))))) h bs = absurd (omega arith)

loads : (r b c g : ℕ) (u : LineUnit) → r < 5
    → let k = shared (Some b) false c in
    tick_sdlc good (framer u (insertion r false) k) ≡ start_byte good r b k
    → Goes (framer u (insertion r false) k) r g
loads r b c g u l e =
    let k = content 7 (b / 2) r None (check_over sdlc c (low_bits 8 b)) g (odd b) l in
    goes (odd b) true _ k.ones k.bits e k.there k.on

pub tick_goes : {s : Framer} {o g : ℕ} → Opened s o g → Goes s o g
unfolding unclosed
tick_goes (in_flag (suc n) b c l) =
    let k = shared b false c in
    goes (flag_bit (suc n)) false (framer (Flag n) not_counted k) (ones_in n) (bits_in n)
    (tick_flag good k n 0)
    (in_flag n b c (omega arith)) (flag_on n (omega arith))
tick_goes (in_flag zero (Some b) c l) =
    let k = shared (Some b) false c in
    loads 0 b c 0 (Flag 0) (omega arith)
    (tick_chooses good 0 k (Flag 0) refl ∙ next_flag_full good 0 k refl 0 refl)
tick_goes (in_flag zero None c l) =
    let k = shared None false c in
    goes false false (framer (Flag 7) not_counted k) 0 1
    (tick_chooses good 0 k (Flag 0) refl ∙ next_flag_empty good 0 k refl 0 refl)
    (in_flag 7 None c (omega arith)) (λ bs. refl)
tick_goes (in_byte_lem (suc n) v r b c g l) =
    let k = shared b false c in
    let x = content n (v / 2) r b c g (odd v) l in
    goes (odd v) false _ x.ones x.bits (tick_byte good k n v r) x.there x.on
tick_goes (in_byte_lem zero v r (Some b) c g l) =
    let k = shared (Some b) false c in
    loads r b c g (Byte 0 v) l
    (tick_chooses good r k (Byte 0 v) refl ∙ next_byte_full good r k refl 0 v refl)
tick_goes (in_byte_lem zero v r None c g l) =
    let k = shared None false c in
    shuts (ap (λ (t : Framed). t.framer.shared.latch)
    (tick_chooses good r k (Byte 0 v) refl ∙ next_byte_check good r k refl 0 v refl refl refl))
tick_goes (owing n v b c g) =
    let k = shared b false c in
    goes false false (framer (Byte n v) (insertion 0 false) k) 0 (g + 1)
    (tick_owed good k (Byte n v) 0)
    (in_byte_lem n v 0 b c (g + 1) (omega arith)) (λ bs. refl)

pub opened_filled : {s : Framer} {o g : ℕ} (v : ℕ) → Opened s o g → Opened (filled_with s v) o g
opened_filled v (in_flag n b c l) = in_flag n (Some v) c l
opened_filled v (in_byte_lem n y r b c g l) = in_byte_lem n y r (Some v) c g l
opened_filled v (owing n y b c g) = owing n y (Some v) c g

-- what is left of a flag passes
pub tail_passes : (n : ℕ) → n ≤ 7 → (bs : List Bool)
    → unclosed (ones_in n) (bits_in n) (flag_tail n ++ bs) ≡ unclosed 0 0 bs
tail_passes zero h bs = refl
tail_passes (suc n) h bs =
    flag_on n (omega arith) (flag_tail n ++ bs) ∙ tail_passes n (omega arith) bs
