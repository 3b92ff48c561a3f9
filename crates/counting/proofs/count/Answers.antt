-- `counting::count` meets its contract: the bytes that remain, the check's two among them, make of the present tally what the content
-- makes of none. Assumes nothing.
use native.Mathlib.Omega.{arith}
use mathlib.Core.Path.{◌≡◌, sym, ap, ◌∙◌}
use mathlib.Core.Bool.{Bool}
use mathlib.Core.List.{List, [], ◌∷◌}
use Prim.Native.Nat.{ℕ, ◌+◌, ◌/◌, ◌%◌, ◌≤◌, ◌<◌}
use lib.Bits.{bit_xor}
use lib.ListN.{length, get_or}
use Rattle.std.proofs.lemmas.Nat.{xor_lt}
use Rattle.line.specs.Bits.{low_bits, text_bits}
use Rattle.line.specs.Check.{ones}
use Rattle.line.specs.Frame.{content_of}
use Rattle.line.specs.Laws.Frame.{zeros_few}
use Rattle.line.proofs.Content.{content_is}
use Rattle.mirror.specs.Mirror.{mirrored_byte}
use Rattle.mirror.specs.Laws.{remaining, remaining_all, remaining_step, remaining_none}
use Rattle.tally.specs.declared.Tally.{Tally}
use Rattle.tally.specs.Tally.{tally, tallied}
use Rattle.tally.specs.Laws.{tallied_byte, tallied_last, tallied_runs}
use Rattle.counting.specs.Counting.{zeros_in, zeros_in_few}
use Rattle.counting.proofs.Branch.{tests}
use Rattle.counting.proofs.count.Goals as goal

-- the closed fives of a part of a note are no more than those of the note
few : (note : List ℕ) (t : Tally) (bits : List Bool) → length note ≤ 2048
    → tallied t bits ≡ tallied (tally 0 0) (content_of note) → t.closed ≤ 16400
few note t bits h e = omega (arith, ap (λ (x : Tally). x.closed) e, zeros_few note)

-- behind the note and the check's first byte its last one remains
last_byte : (note : List ℕ) (t : Tally) (i m : ℕ) → tallied t (text_bits 8 (remaining note i m)) ≡ tallied (tally 0 0) (content_of note)
    → length note ≤ i → m < 65536
    → tallied (tallied t (low_bits 8 (bit_xor m ones % 256))) (text_bits 8 (bit_xor m ones / 256 ∷ [])) ≡ tallied (tally 0 0) (content_of note)
last_byte note t i m e h l =
    sym (tallied_byte t (bit_xor m ones % 256) (bit_xor m ones / 256 ∷ []))
    ∙ (rw (remaining_none note i m h l) at e)

pub returns-then-note-gt-LONGEST_NOTE : goal.returns-then-note-gt-LONGEST_NOTE
unfolding zeros_in
returns-then-note-gt-LONGEST_NOTE c = simp (tests, c.if-note-gt-LONGEST_NOTE.true)

pub loop-v-init : goal.loop-v-init
loop-v-init c =
    let note = c.args.note.now in
    record {
      left = ap (tallied (tally 0 0)) (ap (text_bits 8) (remaining_all note) ∙ sym (content_is note));
      closed = omega arith;
      run = omega arith;
    }

pub count_byte-t-requires : goal.count_byte-t-requires
count_byte-t-requires c =
    let l = c.loop-v in
    let i = l.invariant in
    let note = c.args.note.now in
    let n = few note l.t (text_bits 8 (remaining note l.v-index l.m)) c.if-note-gt-LONGEST_NOTE.false i.left in
    (omega (arith, i.closed), (omega (arith, i.run), omega (arith, i.run)))

pub loop-v-preserved : goal.loop-v-preserved
loop-v-preserved c =
    let l = c.loop-v in
    let note = c.args.note.now in
    let v = get_or note l.v-index 0 in
    let rest = remaining note (l.v-index + 1) (mirrored_byte l.m v) in
    let all = rw (remaining_step note l.v-index l.m c.loop-v-test.true) at l.invariant.left in
    let on = sym (tallied_byte l.t v rest) ∙ all in
    let runs = tallied_runs l.t (low_bits 8 v) l.invariant.run in
    rw (c.count_byte-t.ensures, c.mirrored_byte-m.ensures) (record { left = on; closed = runs.0; run = runs.1 })

pub count_byte-t-requires-2 : goal.count_byte-t-requires-2
count_byte-t-requires-2 c =
    let l = c.loop-v in
    let i = l.invariant in
    let note = c.args.note.now in
    let n = few note l.t (text_bits 8 (remaining note l.v-index l.m)) c.if-note-gt-LONGEST_NOTE.false i.left in
    (i.closed, (i.run, omega (arith, i.run)))

pub count_byte-t-requires-3 : goal.count_byte-t-requires-3
count_byte-t-requires-3 c =
    let l = c.loop-v in
    let note = c.args.note.now in
    let check = bit_xor l.m ones in
    let t = tallied l.t (low_bits 8 (check % 256)) in
    let runs = tallied_runs l.t (low_bits 8 (check % 256)) l.invariant.run in
    let last = last_byte note l.t l.v-index l.m l.invariant.left c.loop-v-test.false (omega (arith, l.auto.m-fits)) in
    let n = few note t (text_bits 8 (check / 256 ∷ [])) c.if-note-gt-LONGEST_NOTE.false last in
    rw (c.count_byte-t-2.ensures, c.to_le_bytes.ensures) (runs.0, (runs.1, omega (arith, n, runs.1)))

pub returns : goal.returns
returns c =
    let l = c.loop-v in
    let note = c.args.note.now in
    let check = bit_xor l.m ones in
    let t = tallied l.t (low_bits 8 (check % 256)) in
    let all = last_byte note l.t l.v-index l.m l.invariant.left c.loop-v-test.false (omega (arith, l.auto.m-fits)) in
    let small : check < 65536 = xor_lt 16 l.m ones (omega (arith, l.auto.m-fits)) (omega arith) in
    let high : check / 256 % 256 ≡ check / 256 = omega (arith, small) in
    let end : tallied t (low_bits 8 (check / 256)) ≡ tallied (tally 0 0) (content_of note) =
    sym (tallied_last t (check / 256)) ∙ all in
    let few = zeros_in_few note c.if-note-gt-LONGEST_NOTE.false in
    rw (c.count_byte-t-3.ensures, c.count_byte-t-2.ensures, c.to_le_bytes.ensures, high)
    (omega (arith, few, ap (λ (x : Tally). x.closed) end))
