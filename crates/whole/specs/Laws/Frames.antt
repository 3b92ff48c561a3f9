-- A frame's line, heard: its bytes, the check's two, the last with the end mark and a good check.
-- Assumes nothing.
use Rattle.std.specs.Prelude.{Option, Some, None, option_to_list, ◌≡◌, Bool, not, eqb, ltb, take, if◌then◌else◌}
use Rattle.std.proofs.Math.Path.{refl, ap, ap₂}
use Rattle.std.proofs.Common.{sym, ◌∙◌, subst, take_at}
use Rattle.std.proofs.Math.Bool.{true, false}
use mathlib.Core.List.{List, [], ◌∷◌, ◌++◌, append_assoc, append-nil}
use Prim.Native.Nat.{ℕ, zero, suc, ◌+◌, ◌-◌, ◌*◌, ◌/◌, ◌%◌, ◌≤◌, ◌<◌}
use native.Mathlib.Omega.{arith}
use Rattle.std.proofs.Math.ListN.{length, length-append}
use borrow.Author.Tests.{ne_eqb, lt-ltb, le-ltb}
use Rattle.common.specs.Tools.{eqb_elim, ltb_elim, lt_or}
use Rattle.line.specs.Bits.{one_if, low_bits, text_bits}
use Rattle.line.specs.Check.{sdlc, ones, check_step, check_over, remainder}
use Rattle.line.specs.Insertion.{zero_if, stuff}
use Rattle.line.specs.Frame.{flag_bits, note_bits, content_of, frame}
use Rattle.line.specs.Bits.{Below, below_none as none, below_more as more}
use Rattle.line.specs.Laws.Check.{check_join}
use Rattle.line.specs.Laws.Bits.{bit_few}
use Rattle.entry.specs.declared.Entry.{Entry}
use Rattle.entry.specs.Entry.{plain_entry}
use Rattle.sdlc.specs.declared.Addressing.{Addressing}
use Rattle.sdlc.specs.declared.Chars.{Chars}
use Rattle.sdlc.specs.declared.Content.{Content}
use Rattle.sdlc.specs.declared.Listener.{Listener}
use Rattle.sdlc.specs.declared.Listened.{Listened}
use Rattle.sdlc.specs.Hearing.{chars, no_chars, empty_delay, full_delay, content, heard_so, listener}
use Rattle.sdlc.specs.Hearing.{listened, unheard, shift_in, last_bit, unmarked, accept, push, closing}
use Rattle.sdlc.specs.Hearing.{past_flag, one, zero_bit, hear_sdlc}
use Rattle.whole.specs.Heard.{handed, Final, final, before, hear_all, Fresh, in_hunt}
use Rattle.whole.specs.Heard.{past_flag_lem, lead}
use Rattle.whole.specs.Frames.{ended, between_flags, frames_of, all_ended, Notes, no_more}
use Rattle.line.specs.Frame.{with_check}
use Rattle.whole.specs.Frames.{one_more_lem}
use Rattle.whole.specs.Laws.Heard.{hear_join}
use Rattle.whole.specs.Laws.Bytes.{assembled, assembled_whole, content_bytes, with_check_below}
use Rattle.whole.specs.Laws.Bytes.{with_check_good}

-- address search off
abbrev pub unaddressed : ℕ → Addressing
unaddressed a = record { search = false; address = a }

-- "just past a flag": what the tick that ends one leaves, whatever was before
pub flag_leaves : (g : Addressing) (s : Listener) → s.content.ones ≡ 6
    → (hear_sdlc g s false).listener ≡ past_flag
unfolding hear_sdlc zero_bit
flag_leaves g s e = rw e

-- The characters, with the check: what a bit that leaves the delay does, and what a flag then does

pub record Text : Type 0 where
  pub chars : Chars
  pub check : ℕ

abbrev text : Chars → ℕ → Text
text c k = record { chars = c; check = k }

abbrev next_text : Text → Bool → Text
next_text t b =
    let c = t.chars in
    let v = shift_in b c.part in
    let k = check_step sdlc t.check b in
    if ltb c.count last_bit then text (chars (c.count + 1) v c.held) k
    else text (chars 0 0 (Some v)) k

abbrev gave : Chars → List Entry
gave c = if ltb c.count last_bit then [] else option_to_list (unmarked c.held)

unfoldable char_run : Text → List Bool → List Entry
char_run t [] = option_to_list (closing t.chars t.check)
char_run t (b ∷ bs) = gave t.chars ++ char_run (next_text t b) bs

-- The delay: the number for the bits in it

unfoldable delay_of : ℕ → List Bool → ℕ
delay_of a [] = a
delay_of a (b ∷ bs) = delay_of (a * 2 + one_if b) bs

one_if_is : (b : Bool) → eqb (one_if b) 1 ≡ b
one_if_is true = refl
one_if_is false = refl

delay_more : (a : ℕ) (ds : List Bool) (b : Bool)
    → delay_of a (ds ++ (b ∷ [])) ≡ delay_of a ds * 2 + one_if b
unfolding delay_of
delay_more a [] b = refl
delay_more a (d ∷ ds) b = delay_more (a * 2 + one_if d) ds b

abbrev limit : ℕ → ℕ
limit zero = full_delay
limit (suc n) = limit n / 2

few : (n a : ℕ) (ds : List Bool) → length ds ≤ n → a < limit n → delay_of a ds < full_delay
unfolding delay_of
few zero a [] h l = l
few zero a (d ∷ ds) h l = absurd (omega arith)
few (suc n) a [] h l = few n a [] (omega arith) (omega arith)
few (suc n) a (d ∷ ds) h l = few n (a * 2 + one_if d) ds (omega arith) (omega (arith, bit_few d))

-- The line

module _ (address : ℕ) where
  abbrev g : Addressing
  g = unaddressed address

  abbrev at : ℕ → Bool → ℕ → Text → Listener
  at r x d t = listener r d t.chars t.check x

  abbrev now : ℕ → Bool → List Bool → Text → Listener
  now r x ds t = at r x (delay_of empty_delay ds) t

  push_few : (r o : ℕ) (x y b : Bool) (ds : List Bool) (t : Text) → length ds < 7
      → push g (now r x ds t) o y b ≡ unheard (now o y (ds ++ (b ∷ [])) t)
  unfolding push
  push_few r o x y b ds t l =
      rw (lt-ltb (delay_of 1 ds) 128 (few 6 1 ds (omega arith) (omega arith)), delay_more 1 ds b)

  push_full : (r o : ℕ) (x y b d : Bool) (ds : List Bool) (t : Text) → length ds ≡ 6
      → push g (now r x (d ∷ ds) t) o y b
      ≡ accept g t.chars t.check o y (delay_of 1 (ds ++ (b ∷ []))) d
  unfolding push delay_of
  push_full r o x y b d [] t l = absurd (omega arith)
  push_full r o x y b d (p ∷ []) t l = absurd (omega arith)
  push_full r o x y b d (p ∷ q ∷ []) t l = absurd (omega arith)
  push_full r o x y b d (p ∷ q ∷ k ∷ []) t l = absurd (omega arith)
  push_full r o x y b d (p ∷ q ∷ k ∷ s ∷ []) t l = absurd (omega arith)
  push_full r o x y b d (p ∷ q ∷ k ∷ s ∷ u ∷ []) t l = absurd (omega arith)
  push_full r o x y b d (p ∷ q ∷ k ∷ s ∷ u ∷ w ∷ []) t l =
      let v = delay_of 1 (d ∷ p ∷ q ∷ k ∷ s ∷ u ∷ w ∷ []) in
      let hd = bit_few d in let hp = bit_few p in let hq = bit_few q in let hk = bit_few k in
      let hs = bit_few s in let hu = bit_few u in let hw = bit_few w in
      let top : v / 64 % 2 ≡ one_if d = omega arith in
      let full : 128 ≤ v = omega arith in
      let rest : 128 + v % 64 * 2 + one_if b ≡ delay_of 1 (p ∷ q ∷ k ∷ s ∷ u ∷ w ∷ b ∷ []) =
      omega arith in
      rw (le-ltb v 128 full, top, one_if_is d, rest)
  push_full r o x y b d (p ∷ q ∷ k ∷ s ∷ u ∷ w ∷ z ∷ ds) t l = absurd (omega arith)

  accept_is : (o d : ℕ) (y b : Bool) (t : Text) (tail : List Bool)
      → let h = accept g t.chars t.check o y d b in
      before (handed h) (hear_all g h.listener tail)
      ≡ before (gave t.chars) (hear_all g (at o y d (next_text t b)) tail)
  unfolding accept
  accept_is o d y b t tail =
      let c = t.chars in
      let v = shift_in b c.part in
      let k = check_step sdlc t.check b in
      let less = text (chars (c.count + 1) v c.held) k in
      let full = text (chars 0 0 (Some v)) k in
      let n = unmarked c.held in
      elim (ltb c.count last_bit) as
      (λ q. let h = if q then unheard (at o y d less) else listened (at o y d full) n in
      before (handed h) (hear_all g h.listener tail)
      ≡ before (if q then [] else option_to_list n)
      (hear_all g (at o y d (if q then less else full)) tail))
      [ true ↦ refl | false ↦ refl ]

  -- from here the tail's bits push ys into the delay, and then a flag ends
  abbrev ReadyAt : ℕ → Bool → List Bool → List Bool → Type 0
  ReadyAt r x tail ys = (t : Text) (ds : List Bool) → length ds ≤ 7
      → hear_all g (now r x ds t) tail
      ≡ final past_flag (char_run t (take (length ds + length ys - 7) (ds ++ ys)))

  record Ready (r : ℕ) (x : Bool) (tail ys : List Bool) : Type 0 where
    heard_at : ReadyAt r x tail ys

  -- one more bit that enters the delay
  abbrev Enters : ℕ → ℕ → Bool → Bool → Bool → Type 0
  Enters r o x y b = (d : ℕ) (t : Text) → hear_sdlc g (at r x d t) b ≡ push g (at r x d t) o y b

  into_at : (r o : ℕ) (x y b : Bool) (tail ys : List Bool) → Enters r o x y b → Ready o y tail ys
      → ReadyAt r x (b ∷ tail) (b ∷ ys)
  unfolding hear_all char_run
  into_at r o x y b tail ys p k t ds l =
      lt_or (length ds) 7
      (λ m.
      ap (λ (h : Listened). before (handed h) (hear_all g h.listener tail))
      (p (delay_of 1 ds) t ∙ push_few r o x y b ds t m)
      ∙ k.heard_at t (ds ++ (b ∷ [])) (omega (arith, length-append ds (b ∷ [])))
      ∙ (let n : length (ds ++ (b ∷ [])) + length ys - 7 ≡ length ds + suc (length ys) - 7 =
      omega (arith, length-append ds (b ∷ [])) in
      ap₂ (λ (n : ℕ) (l : List Bool). final past_flag (char_run t (take n l))) n
      (append_assoc ds (b ∷ []) ys)))
      (λ m. full ds l m)
    where
      full : (ds : List Bool) → length ds ≤ 7 → 7 ≤ length ds
          → let h = hear_sdlc g (now r x ds t) b in
          before (handed h) (hear_all g h.listener tail)
          ≡ final past_flag (char_run t (take (length ds + suc (length ys) - 7) (ds ++ (b ∷ ys))))
      full [] l m = absurd (omega arith)
      full (d ∷ ds) l m =
          let rest = ds ++ (b ∷ []) in
          let c = t.chars in
          let i : length rest + length ys - 7 ≡ length ys =
          omega (arith, length-append ds (b ∷ [])) in
          let n : suc (length ys) ≡ suc (length ds) + suc (length ys) - 7 = omega arith in
          ap (λ (h : Listened). before (handed h) (hear_all g h.listener tail))
          (p (delay_of 1 (d ∷ ds)) t ∙ push_full r o x y b d ds t (omega arith))
          ∙ accept_is o (delay_of 1 rest) y d t tail
          ∙ ap (before (gave c))
          (k.heard_at (next_text t d) rest (omega (arith, length-append ds (b ∷ []))))
          ∙ ap₂ (λ (n : ℕ) (l : List Bool). final past_flag
          (gave c ++ char_run (next_text t d) (take n l))) i
          (append_assoc ds (b ∷ []) ys)
          ∙ ap (λ (n : ℕ). final past_flag (char_run t (take n (d ∷ (ds ++ (b ∷ ys)))))) n

  into : {r o : ℕ} {x y b : Bool} {tail ys : List Bool} → Enters r o x y b → Ready o y tail ys
      → Ready r x (b ∷ tail) (b ∷ ys)
  into p k = record { heard_at = into_at _ _ _ _ _ _ _ p k }

  -- a zero after five ones is dropped
  dropped : {r : ℕ} {x : Bool} {tail ys : List Bool} → r ≡ 5 → Ready 0 false tail ys
      → Ready r x (false ∷ tail) ys
  unfolding hear_all hear_sdlc zero_bit
  dropped e k = record { heard_at = λ t ds l. rw e (k.heard_at t ds l) }

  zero_enters : (r : ℕ) (x : Bool) → r < 5 → Enters r 0 x false false
  unfolding hear_sdlc zero_bit
  zero_enters r x l d t = rw (ne_eqb r 6 (λ e. omega arith), ne_eqb r 5 (λ e. omega arith))

  one_enters : (r : ℕ) (x : Bool) → r < 6 → Enters r (r + 1) x x true
  unfolding hear_sdlc one
  one_enters r x l d t = rw (lt-ltb r 6 l)

  -- a flag's first seven bits enter and stay in the delay; the eighth ends the frame

  last_zero : (x : Bool) → Ready 6 x (false ∷ []) []
  unfolding hear_all hear_sdlc zero_bit char_run
  last_zero x = record {
    heard_at = λ t ds l.
        let e : 0 ≡ length ds + 0 - 7 = omega arith in
        ap (λ (l : List Entry). final past_flag l)
        (append-nil (option_to_list (closing t.chars t.check)))
        ∙ ap (λ (n : ℕ). final past_flag (char_run t (take n (ds ++ [])))) e;
  }

  closing_flag : (r : ℕ) (x : Bool) → r < 5 → Ready r x flag_bits lead
  closing_flag r x l =
      into (zero_enters r x l)
      (into (one_enters 0 false (omega arith))
      (into (one_enters 1 false (omega arith))
      (into (one_enters 2 false (omega arith))
      (into (one_enters 3 false (omega arith))
      (into (one_enters 4 false (omega arith))
      (into (one_enters 5 false (omega arith)) (last_zero false)))))))

  -- content with its inserted zeros: its bits alone enter
  stuffed : (bs : List Bool) (r : ℕ) (x : Bool) → r < 5
      → Ready r x (stuff r bs ++ flag_bits) (bs ++ lead)
  unfolding stuff
  stuffed [] r x l = closing_flag r x l
  stuffed (false ∷ bs) r x l = into (zero_enters r x l) (stuffed bs 0 false (omega arith))
  stuffed (true ∷ bs) r x l =
      ltb_elim (λ t. Ready r x
      (true ∷ ((zero_if (not t) ++ stuff (if t then r + 1 else 0) bs) ++ flag_bits))
      (true ∷ (bs ++ lead))) r 4
      (λ m. into (one_enters r x (omega arith)) (stuffed bs (r + 1) x (omega arith)))
      (λ m. into (one_enters r x (omega arith))
      (dropped (omega arith) (stuffed bs 0 false (omega arith))))

  abbrev fresh_text : Text
  fresh_text = text no_chars ones

  content_in : (bs : List Bool)
      → hear_all g past_flag (stuff 0 bs ++ flag_bits) ≡ final past_flag (char_run fresh_text bs)
  unfolding delay_of
  content_in bs =
      let n : 0 + length (bs ++ lead) - 7 ≡ length bs = omega (arith, length-append bs lead) in
      (stuffed bs 0 false (omega arith)).heard_at fresh_text [] (omega arith)
      ∙ ap (λ (n : ℕ). final past_flag (char_run fresh_text (take n (bs ++ lead)))) n
      ∙ ap (λ (l : List Bool). final past_flag (char_run fresh_text l))
      (take_at bs lead (length bs) refl)

  -- the opening flag; in hunt its first 0 may itself end a flag
  abbrev Opened : Content → ℕ → Bool → Type 0
  Opened c k x = hear_all g (heard_so c k x) flag_bits ≡ final past_flag []

  from_hunt : (s : Bool) (o d : ℕ) (c : Chars) (k : ℕ) (x : Bool)
      → Opened (content true s o d c) k x
  unfolding hear_all hear_sdlc one zero_bit push
  from_hunt s o d c k x =
      eqb_elim (λ t. let h = if t then listened past_flag None
      else unheard (heard_so (content true s 0 d c) k false) in
      before (handed h)
      (hear_all g h.listener (true ∷ true ∷ true ∷ true ∷ true ∷ true ∷ false ∷ []))
      ≡ final past_flag []) o 6 (λ e. refl) (λ e. refl)

  from_flag : (x : Bool) → Opened past_flag.content ones x
  unfolding hear_all hear_sdlc one zero_bit push
  from_flag x = refl

  opened : (s : Listener) → Fresh s → hear_all g s flag_bits ≡ final past_flag []
  opened s (in_hunt p) =
      let c = s.content in
      subst (λ (t : Bool). Opened (content t c.skip c.ones c.delay c.chars) s.check
      s.broken)
      (sym p) (from_hunt c.skip c.ones c.delay c.chars s.check s.broken)
  opened s (past_flag_lem p q) =
      subst (λ (k : ℕ). Opened s.content k s.broken) (sym q)
      (subst (λ (c : Content). Opened c ones s.broken) (sym p) (from_flag s.broken))

-- The bytes

-- the check is bad unless it leaves the remainder
abbrev pub bad_if : ℕ → Bool
bad_if k = not (eqb k remainder)

byte_in : (h : Option ℕ) (k v : ℕ) (rest : List Bool)
    → char_run (text (chars 0 0 h) k) (low_bits 8 v ++ rest)
    ≡ option_to_list (unmarked h)
    ++ char_run (text (chars 0 0 (Some (assembled 0 (low_bits 8 v))))
    (check_over sdlc k (low_bits 8 v))) rest
unfolding char_run low_bits assembled check_over
byte_in h k v rest = refl

byte_whole : (h : Option ℕ) (k v : ℕ) (rest : List Bool) → v < 256
    → char_run (text (chars 0 0 h) k) (low_bits 8 v ++ rest)
    ≡ option_to_list (unmarked h)
    ++ char_run (text (chars 0 0 (Some v)) (check_over sdlc k (low_bits 8 v))) rest
byte_whole h k v rest l =
    let c = check_over sdlc k (low_bits 8 v) in
    byte_in h k v rest
    ∙ ap (λ (x : ℕ). option_to_list (unmarked h) ++ char_run (text (chars 0 0 (Some x)) c) rest)
    (assembled_whole v l)

bytes_in : (o k : ℕ) {vs : List ℕ} → Below 256 vs
    → char_run (text (chars 0 0 (Some o)) k) (note_bits vs)
    ≡ ended (bad_if (check_over sdlc k (note_bits vs))) (o ∷ vs)
unfolding text_bits char_run ended check_over
bytes_in o k none = refl
bytes_in o k (more {v = v} {vs = vs} l bs) =
    let e = plain_entry o false false in
    byte_whole (Some o) k v (note_bits vs) l
    ∙ ap (λ (l : List Entry). e ∷ l) (bytes_in v (check_over sdlc k (low_bits 8 v)) bs)
    ∙ ap (λ (x : ℕ). e ∷ ended (bad_if x) (v ∷ vs))
    (sym (check_join sdlc k (low_bits 8 v) (note_bits vs)))

-- whole bytes from a flag on, at least one
fresh_in : (v : ℕ) {vs : List ℕ} → Below 256 (v ∷ vs)
    → char_run (text no_chars ones) (note_bits (v ∷ vs))
    ≡ ended (bad_if (check_over sdlc ones (note_bits (v ∷ vs)))) (v ∷ vs)
unfolding text_bits
fresh_in v {vs} (more l bs) =
    byte_whole None ones v (note_bits vs) l
    ∙ bytes_in v (check_over sdlc ones (low_bits 8 v)) bs
    ∙ ap (λ (x : ℕ). ended (bad_if x) (v ∷ vs))
    (sym (check_join sdlc ones (low_bits 8 v) (note_bits vs)))

-- The whole line

module _ (a : ℕ) where
  abbrev f : Addressing
  f = unaddressed a

  opening : (s : Listener) → Fresh s → (tail : List Bool)
      → hear_all f s (flag_bits ++ tail) ≡ hear_all f past_flag tail
  opening s t tail =
      hear_join f s flag_bits tail
      ∙ ap (λ (y : Final). before y.got (hear_all f y.listener tail)) (opened a s t)

  bytes_past : (v : ℕ) {vs : List ℕ} → Below 256 (v ∷ vs)
      → hear_all f past_flag (stuff 0 (note_bits (v ∷ vs)) ++ flag_bits)
      ≡ final past_flag (ended (bad_if (check_over sdlc ones (note_bits (v ∷ vs)))) (v ∷ vs))
  bytes_past v {vs} b = content_in a (note_bits (v ∷ vs)) ∙ ap (final past_flag) (fresh_in v b)

  -- any whole bytes between flags
  pub bytes_heard : (s : Listener) (bytes : List ℕ) → 1 ≤ length bytes → Fresh s → Below 256 bytes
      → hear_all f s (between_flags (note_bits bytes))
      ≡ final past_flag (ended (bad_if (check_over sdlc ones (note_bits bytes))) bytes)
  bytes_heard s [] n t b = absurd (omega arith)
  bytes_heard s (v ∷ vs) n t b =
      opening s t (stuff 0 (note_bits (v ∷ vs)) ++ flag_bits) ∙ bytes_past v b

  note_past : (v : ℕ) {vs : List ℕ} → Below 256 (v ∷ vs)
      → hear_all f past_flag (stuff 0 (content_of (v ∷ vs)) ++ flag_bits)
      ≡ final past_flag (ended false (with_check (v ∷ vs)))
  note_past v {vs} b =
      ap (λ (l : List Bool). hear_all f past_flag (stuff 0 l ++ flag_bits)) (content_bytes (v ∷ vs))
      ∙ bytes_past v (with_check_below b)
      ∙ ap (λ (k : ℕ). final past_flag (ended (bad_if k) (with_check (v ∷ vs))))
      (with_check_good (v ∷ vs))

  -- the frame of a note
  pub frame_heard : (s : Listener) (note : List ℕ) → 1 ≤ length note → Fresh s → Below 256 note
      → hear_all f s (frame note) ≡ final past_flag (ended false (with_check note))
  frame_heard s [] n t b = absurd (omega arith)
  frame_heard s (v ∷ vs) n t b =
      opening s t (stuff 0 (content_of (v ∷ vs)) ++ flag_bits) ∙ note_past v b

  -- several notes: each closing flag is the next one's opening flag
  notes_past : {ns : List (List ℕ)} → Notes ns
      → hear_all f past_flag (frames_of ns) ≡ final past_flag (all_ended ns)
  unfolding frames_of all_ended
  notes_past no_more = unfold hear_all in refl
  notes_past (one_more_lem {v = v} {vs = vs} {ns = ns} b n) =
      hear_join f past_flag (stuff 0 (content_of (v ∷ vs)) ++ flag_bits) (frames_of ns)
      ∙ ap (λ (y : Final). before y.got (hear_all f y.listener (frames_of ns))) (note_past v b)
      ∙ ap (before (ended false (with_check (v ∷ vs)))) (notes_past n)

  pub notes_heard : (s : Listener) {ns : List (List ℕ)} → Fresh s → Notes ns
      → hear_all f s (flag_bits ++ frames_of ns) ≡ final past_flag (all_ended ns)
  notes_heard s {ns} t n = opening s t (frames_of ns) ∙ notes_past n
