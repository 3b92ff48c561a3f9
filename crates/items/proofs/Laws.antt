-- A pattern copied into a part of cells is laid there, a time more is laid behind the others, and a part up to the end. Assumes nothing.
use Rattle.std.proofs.Common.{◌≡◌, List, ℕ, ◌+◌, ◌-◌, ◌≤◌, min, length, take, drop, arith, le-ltb, append_assoc, add-one}
use Rattle.std.proofs.lemmas.List.Edits.{sets-eq}
use Rattle.std.proofs.lemmas.List.{drop_min, length-drop, length-take}
use Rattle.std.proofs.Math.Seq.{take-length}
use borrow.Rule.Slice.PartMut.{put_mid, Post-is}
use Rattle.items.specs.Desk.{Desk, desk, laid, laid_times}

pub copied_laid : (cells pattern : List ℕ) (end behind : ℕ) → behind ≡ end + length pattern → behind ≤ length cells
    → put_mid end (behind - end) cells pattern ≡ (laid pattern (desk cells end)).cells
copied_laid cells pattern end behind e h =
    let room : end + length pattern ≤ length cells = omega arith in
    let far : end ≤ behind = omega arith in
    rw (le-ltb (length cells) (end + length pattern) room, sets-eq pattern cells end room, Post-is end behind cells far, e, append_assoc)

pub times_more : (n : ℕ) (pattern : List ℕ) (d : Desk) → laid_times (n + 1) pattern d ≡ laid pattern (laid_times n pattern d)
unfolding laid_times
times_more n pattern d = rw add-one

-- what is left from a place on, cut off at the end; and so many bytes behind its first
pub left_from : (bytes : List ℕ) (at m : ℕ) → m ≡ min at (length bytes) → take (length bytes - m) (drop m bytes) ≡ drop at bytes
left_from bytes at m e =
    let all : length bytes - m ≡ length (drop at bytes) = omega (arith, length-drop at bytes) in
    rw (all, e, drop_min at bytes) (take-length (drop at bytes))

pub length_behind : (n : ℕ) (left : List ℕ) → length (take (length left - n) (drop n left)) ≡ length left - n
length_behind n left = omega (arith, length-take (length left - n) (drop n left), length-drop n left)
