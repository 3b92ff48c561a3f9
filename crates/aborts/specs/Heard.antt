-- What a receiver hears of a frame that is cut: behind its opening flags, an abort before the
-- closing flag's last bit leaves no end to tell. Assumes nothing.
use Rattle.std.specs.Prelude.{◌≡◌, refl, Bool, true, false, ℕ, zero, suc, ◌+◌, ◌-◌, ◌*◌, ◌≤◌, ◌<◌, length, replicate}
use Rattle.std.proofs.Common.{sym, ap₂, ◌∙◌, arith, length-append, take-append-drop, take_at}
use Rattle.std.proofs.Math.Path.{ap}
use mathlib.Core.List.{List, [], ◌∷◌, ◌++◌, append_assoc}
use Rattle.std.proofs.Math.ListN.{take, drop, length-take, drop_of_length-le}
use Rattle.std.proofs.lemmas.List.{take-append-le}
use Rattle.std.proofs.Math.Seq.{take-append-add}
use Rattle.common.specs.Tools.{lt_or}
use Rattle.line.specs.Insertion.{stuff}
use Rattle.line.specs.Frame.{flag_bits, content_of, frame}
use Rattle.sdlc.specs.declared.Addressing.{Addressing}
use Rattle.sdlc.specs.declared.Listener.{Listener}
use Rattle.sdlc.specs.Hearing.{past_flag, hear_sdlc, zero_bit, one, push}
use Rattle.whole.specs.Heard.{Final, final, before, hear_all, flag_free, lead, end_marks}
use Rattle.whole.specs.Laws.Heard.{hear_join}
use Rattle.whole.specs.Laws.Frames.{flag_leaves}
use Rattle.whole.specs.Laws.Deaf.{content_free, free_front, ones_counted_lem, abort_no_end}
use Rattle.whole.specs.Laws.Unclosed.{lead_six}
use Rattle.hosts.specs.Loaded.{flags}

-- A flag leaves every receiver just past it, and one that is there hears nothing in another flag

pub flag_past : (g : Addressing) (s : Listener) → (hear_all g s flag_bits).listener ≡ past_flag
unfolding hear_all
flag_past g s =
    let t = (hear_all g s lead).listener in
    ap (λ (f : Final). f.listener) (hear_join g s lead (false ∷ []))
    ∙ flag_leaves g t (ones_counted_lem g s lead ∙ lead_six s.content.ones)

flag_silent : (g : Addressing) → hear_all g past_flag flag_bits ≡ final past_flag []
unfolding hear_all hear_sdlc zero_bit one push
flag_silent g = refl

silent_first : (g : Addressing) (bits : List Bool)
    → hear_all g past_flag (flag_bits ++ bits) ≡ hear_all g past_flag bits
silent_first g bits =
    hear_join g past_flag flag_bits bits
    ∙ ap (λ (f : Final). before f.got (hear_all g f.listener bits)) (flag_silent g)

flags_first : (g : Addressing) (n : ℕ) (bits : List Bool)
    → hear_all g past_flag (flags n ++ bits) ≡ hear_all g past_flag bits
unfolding flags
flags_first g zero bits = refl
flags_first g (suc n) bits =
    ap (hear_all g past_flag) (append_assoc flag_bits (flags n) bits)
    ∙ silent_first g (flags n ++ bits) ∙ flags_first g n bits

pub flags_length : (n : ℕ) → length (flags n) ≡ 8 * n
unfolding flags
flags_length zero = refl
flags_length (suc n) = omega (arith, length-append flag_bits (flags n), flags_length n)

-- A frame that is cut

-- behind its opening flag and before its last bit it holds no flag
module _ (note : List ℕ) where
  body : List Bool
  body = stuff 0 (content_of note) ++ lead

  frame_is : frame note ≡ flag_bits ++ (body ++ (false ∷ []))
  unfolding body
  frame_is =
      ap (λ (x : List Bool). flag_bits ++ x)
      (sym (append_assoc (stuff 0 (content_of note)) lead (false ∷ [])))

  body_free : (m : ℕ) → flag_free 0 (take m body) ≡ true
  unfolding body
  body_free m =
      free_front 0 (take m body) (drop m body)
      (ap (flag_free 0) (take-append-drop m body) ∙ content_free (content_of note))

  body_cut : (m : ℕ) → m < length (body ++ (false ∷ []))
      → take m (body ++ (false ∷ [])) ≡ take m body
  body_cut m l = take-append-le m body (false ∷ []) (omega (arith, length-append body (false ∷ [])))

head_free : (m : ℕ) → m ≤ 7 → flag_free 0 (take m flag_bits) ≡ true
unfolding flag_free
head_free zero h = refl
head_free (suc zero) h = refl
head_free (suc (suc zero)) h = refl
head_free (suc (suc (suc zero))) h = refl
head_free (suc (suc (suc (suc zero)))) h = refl
head_free (suc (suc (suc (suc (suc zero))))) h = refl
head_free (suc (suc (suc (suc (suc (suc zero)))))) h = refl
head_free (suc (suc (suc (suc (suc (suc (suc zero))))))) h = refl
head_free (suc (suc (suc (suc (suc (suc (suc (suc m)))))))) h = absurd (omega arith)

module _ (g : Addressing) (zs : List Bool) (b : Bool) (f : flag_free 7 zs ≡ true) where
  abbrev rest : List Bool
  rest = replicate 8 true ++ (zs ++ (b ∷ []))

  abbrev Silent : Listener → List Bool → Type 0
  Silent s bits = end_marks (hear_all g s (bits ++ rest)).got ≡ 0

  -- the content, cut
  body_silent : (note : List ℕ) (m : ℕ) → m < length (body note ++ (false ∷ []))
      → Silent past_flag (take m (body note ++ (false ∷ [])))
  body_silent note m l =
      ap (λ (x : List Bool). end_marks (hear_all g past_flag (x ++ rest)).got) (body_cut note m l)
      ∙ abort_no_end g past_flag (take m (body note)) 8 zs b (omega arith) (body_free note m) f

  -- the frame, cut
  frame_silent : (note : List ℕ) (m : ℕ) → m < length (frame note)
      → Silent past_flag (take m (frame note))
  frame_silent note m l = lt_or m 8 few more
    where
      few : m < 8 → Silent past_flag (take m (frame note))
      few h =
          let e : take m (frame note) ≡ take m flag_bits =
          take-append-le m flag_bits (stuff 0 (content_of note) ++ flag_bits) (omega arith) in
          ap (λ (x : List Bool). end_marks (hear_all g past_flag (x ++ rest)).got) e
          ∙ abort_no_end g past_flag (take m flag_bits) 8 zs b (omega arith)
          (head_free m (omega arith)) f

      more : 8 ≤ m → Silent past_flag (take m (frame note))
      more h =
          let k = m - 8 in
          let n : m ≡ length flag_bits + k = omega arith in
          let inner = body note ++ (false ∷ []) in
          let e : take m (frame note) ≡ flag_bits ++ take k inner =
          ap₂ (λ (x : ℕ) (y : List Bool). take x y) n (frame_is note)
          ∙ take-append-add flag_bits inner k in
          ap (λ (x : List Bool). end_marks (hear_all g past_flag (x ++ rest)).got) e
          ∙ ap (λ (x : List Bool). end_marks (hear_all g past_flag x).got)
          (append_assoc flag_bits (take k inner) rest)
          ∙ ap (λ (x : Final). end_marks x.got) (silent_first g (take k inner ++ rest))
          ∙ body_silent note k (omega (arith, ap length (frame_is note)))

  -- so many flags, then the frame, cut within the frame
  flags_silent : (j : ℕ) (note : List ℕ) (m : ℕ) → 8 * j ≤ m → m < length (flags j ++ frame note)
      → Silent past_flag (take m (flags j ++ frame note))
  flags_silent j note m h l =
      let k = m - 8 * j in
      let n : m ≡ length (flags j) + k = omega (arith, flags_length j) in
      let e : take m (flags j ++ frame note) ≡ flags j ++ take k (frame note) =
      ap (λ (x : ℕ). take x (flags j ++ frame note)) n ∙ take-append-add (flags j) (frame note) k in
      ap (λ (x : List Bool). end_marks (hear_all g past_flag (x ++ rest)).got) e
      ∙ ap (λ (x : List Bool). end_marks (hear_all g past_flag x).got)
      (append_assoc (flags j) (take k (frame note)) rest)
      ∙ ap (λ (x : Final). end_marks x.got) (flags_first g j (take k (frame note) ++ rest))
      ∙ frame_silent note k (omega (arith, length-append (flags j) (frame note), flags_length j))

  -- whatever the receiver was, behind the first flag or what was sent of it
  abbrev Behind : Listener → List Bool → Type 0
  Behind s bits = Silent (hear_all g s (take 8 bits)).listener (drop 8 bits)

  behind_flag_lem : (s : Listener) (more : List Bool) (m : ℕ) → 8 ≤ m
      → Silent past_flag (take (m - 8) more)
      → Behind s (take m (flag_bits ++ more))
  behind_flag_lem s more m h q =
      let k = m - 8 in
      let n : m ≡ length flag_bits + k = omega arith in
      let e : take m (flag_bits ++ more) ≡ flag_bits ++ take k more =
      ap (λ (x : ℕ). take x (flag_bits ++ more)) n ∙ take-append-add flag_bits more k in
      ap (λ (x : List Bool). end_marks
      (hear_all g (hear_all g s (take 8 x)).listener (drop 8 x ++ rest)).got) e
      ∙ ap (λ (x : List Bool). end_marks
      (hear_all g (hear_all g s x).listener (take k more ++ rest)).got)
      (take_at flag_bits (take k more) 8 refl)
      ∙ ap (λ (x : Listener). end_marks (hear_all g x (take k more ++ rest)).got) (flag_past g s)
      ∙ q

  pub cut_silent : (s : Listener) (k : ℕ) (note : List ℕ) (m : ℕ) → 8 * k < m
      → m < length (flags k ++ frame note)
      → Behind s (take m (flags k ++ frame note))
  unfolding flags
  cut_silent s k note m h l = lt_or m 8 few (more k h l)
    where
      few : m < 8 → Behind s (take m (flags k ++ frame note))
      few n =
          let bits = take m (flags k ++ frame note) in
          let e : drop 8 bits ≡ [] =
          drop_of_length-le bits {i = 8} (omega (arith, length-take m (flags k ++ frame note))) in
          ap (λ (x : List Bool). end_marks
          (hear_all g (hear_all g s (take 8 bits)).listener (x ++ rest)).got) e
          ∙ abort_no_end g (hear_all g s (take 8 bits)).listener [] 8 zs b (omega arith)
          (unfold flag_free in refl) f

      more : (k : ℕ) → 8 * k < m → m < length (flags k ++ frame note) → 8 ≤ m
          → Behind s (take m (flags k ++ frame note))
      more zero h l n =
          ap (λ (x : List Bool). end_marks
          (hear_all g (hear_all g s (take 8 (take m x))).listener (drop 8 (take m x) ++ rest)).got)
          (frame_is note)
          ∙ behind_flag_lem s (body note ++ (false ∷ [])) m n
          (body_silent note (m - 8) (omega (arith, ap length (frame_is note))))
      more (suc j) h l n =
          let e : flags (suc j) ++ frame note ≡ flag_bits ++ (flags j ++ frame note) =
          append_assoc flag_bits (flags j) (frame note) in
          ap (λ (x : List Bool). end_marks
          (hear_all g (hear_all g s (take 8 (take m x))).listener
          (drop 8 (take m x) ++ rest)).got) e
          ∙ behind_flag_lem s (flags j ++ frame note) m n
          (flags_silent j note (m - 8) (omega arith) (omega (arith, ap length e)))
