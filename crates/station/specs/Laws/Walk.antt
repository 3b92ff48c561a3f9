-- A walk over a list, note by note, gives the whole report. Assumes nothing.
use Rattle.std.specs.Prelude.{◌≡◌, refl, Result, Ok, Err, Bool, eqb, if◌then◌else◌}
use Rattle.std.proofs.Common.{sym, ◌∙◌, add-zero, leb-true, ne_eqb}
use Rattle.std.proofs.Math.Path.{ap}
use Rattle.std.proofs.Math.Bool.{true, false}
use mathlib.Core.List.{List, [], ◌∷◌, foldl}
use Prim.Native.Nat.{ℕ, suc, ◌+◌, ◌-◌, ◌*◌, ◌/◌, ◌≤◌, ◌<◌}
use native.Mathlib.Omega.{arith}
use Rattle.std.proofs.Math.ListN.{length}
use Rattle.std.proofs.lemmas.List.Edits.{sets}
use Rattle.std.proofs.Math.Seq.{length-sets}
use Rattle.common.specs.declared.Refusal.{Refusal}
use Rattle.flags.specs.declared.Between.{Between}
use Rattle.flags.specs.Flags.{with_note, in_all, total_ticks}
use Rattle.line.specs.Frame.{ticks_of}
use Rattle.line.specs.Line.{note_fits}
use Rattle.line.specs.Laws.Line.{fits_few}
use Rattle.head.specs.NoteHead.{length_bytes, note_at}
use Rattle.head.specs.Laws.{note_at_note}
use Rattle.notes.specs.Scanned.{scanned_notes}
use Rattle.notes.specs.NoteList.{Reading, whole, refuses, first_note, rest_from, read_list, scanned, walk}
use Rattle.notes.specs.Notes.{notes_from, notes_of}
use Rattle.notes.specs.Laws.Reading.{scanned_rest, scanned_refuses, scanned_size}
use Rattle.notes.specs.Laws.Notes.{next_note, accepted_notes}
use Rattle.chip.specs.declared.Chip.{Chip}
use Rattle.drive.specs.Drive.{sent_by}
use Rattle.listline.specs.ListLine.{flagged, sent_next, sent_all, before_note, chip_after}
use Rattle.report.specs.Report.{row_of, row_length, rows_from, reported, has_room}
use Rattle.report.specs.Report.{told_at, rows_in}
use Rattle.report.specs.Laws.Notes.{Next, next_note_lem}
use Rattle.report.specs.Laws.Ticks.{ticks_few}
use Rattle.told.specs.declared.Total.{Total}
use Rattle.station.specs.Station.{total, listed_of}
use Rattle.station.specs.Walk.{listed_by, Room}

-- What a walk has done so far, and what it comes to

pub record Walked : Type 0 where
  pub chip : Chip
  pub notes : ℕ
  pub sum : ℕ
  pub rows : List ℕ

abbrev pub walked : Chip → ℕ → ℕ → List ℕ → Walked
walked c n t r = record { chip = c; notes = n; sum = t; rows = r }

abbrev pub one_sent : Between → Bool → Walked → List ℕ → Walked
one_sent between told w note =
    walked (sent_by (before_note between w.notes w.chip) note) (w.notes + 1)
    (with_note w.sum note)
    (told_at told w.rows (row_length * w.notes) (row_of (w.notes + 1) note))

pub record WalkedList : Type 0 where
  pub answer : Result Total Refusal
  pub chip : Chip
  pub rows : List ℕ

abbrev pub walked_list : Result Total Refusal → Chip → List ℕ → WalkedList
walked_list l c r = record { answer = l; chip = c; rows = r }

abbrev pub all_sent : Between → Walked → WalkedList
all_sent between w =
    walked_list (Ok (total w.notes (in_all between w.sum w.notes))) w.chip w.rows

abbrev pub none_sent : Chip → List ℕ → Refusal → WalkedList
none_sent c lent k = walked_list (Err k) c lent

-- the notes of a list, all of them
module _ (between : Between) where
  -- the chip behind these notes, n having gone before
  abbrev chip_from : ℕ → Chip → List (List ℕ) → Chip
  chip_from n c [] = c
  chip_from n c (note ∷ notes) = chip_from (n + 1) (sent_by (before_note between n c) note) notes

  notes_sent : (told : Bool) (c : Chip) (n t : ℕ) (r : List ℕ) (notes : List (List ℕ))
      → foldl (one_sent between told) (walked c n t r) notes
      ≡ walked (chip_from n c notes) (n + length notes) (foldl with_note t notes)
      (told_at told r (row_length * n) (rows_from (n + 1) notes))
  unfolding rows_from
  notes_sent true c n t r [] = ap (λ (k : ℕ). walked c k t r) (sym (add-zero n))
  notes_sent false c n t r [] = ap (λ (k : ℕ). walked c k t r) (sym (add-zero n))
  notes_sent true c n t r (note ∷ notes) =
      let d = sent_by (before_note between n c) note in
      let row = row_of (n + 1) note in
      let at = row_length * n in
      let last = chip_from (n + 1) d notes in
      let sum = foldl with_note (with_note t note) notes in
      let more = rows_from (n + 1 + 1) notes in
      let e : n + 1 + length notes ≡ n + length (note ∷ notes) = omega arith in
      let f : row_length * (n + 1) ≡ suc (suc (suc (suc at))) = omega arith in
      notes_sent true d (n + 1) (with_note t note) (sets r at row) notes
      ∙ ap (λ (k : ℕ). walked last k sum (sets (sets r at row) (row_length * (n + 1)) more)) e
      ∙ ap (λ (k : ℕ). walked last (n + length (note ∷ notes)) sum (sets (sets r at row) k more)) f
  notes_sent false c n t r (note ∷ notes) =
      let d = sent_by (before_note between n c) note in
      let e : n + 1 + length notes ≡ n + length (note ∷ notes) = omega arith in
      let sum = foldl with_note (with_note t note) notes in
      notes_sent false d (n + 1) (with_note t note) r notes
      ∙ ap (λ (k : ℕ). walked (chip_from (n + 1) d notes) k sum r) e

  -- each but the first goes behind a flag of its own, if the choice says so
  from_next : (n : ℕ) (c : Chip) (notes : List (List ℕ)) → 0 < n
      → chip_from n c notes ≡ foldl (sent_next between) c notes
  from_next n c [] h = refl
  from_next n c (note ∷ notes) h =
      let first : eqb n 0 ≡ false = ne_eqb n 0 (λ (e : n ≡ 0). omega arith) in
      let d = sent_next between c note in
      ap (λ (b : Bool).
      chip_from (n + 1) (sent_by (if b then c else flagged between c) note) notes) first
      ∙ from_next (n + 1) d notes (omega arith)

  from_first : (c : Chip) (notes : List (List ℕ)) → chip_from 0 c notes ≡ sent_all between c notes
  from_first c [] = refl
  from_first c (note ∷ notes) = from_next 1 (sent_by c note) notes (omega arith)

  -- of a list that the scan accepted, with the rows told if the lent part has room for those of its
  -- notes
  sent_walk : (c : Chip) (lent : List ℕ) (n : ℕ) (r : Reading) → scanned r ≡ Ok n
      → walk (one_sent between (has_room n lent)) (all_sent between) (none_sent c lent)
      (walked c 0 0 lent) r
      ≡ walked_list (listed_of (reported between r)) (chip_after between c r)
      (rows_in lent (reported between r))
  sent_walk c lent n (whole notes) e =
      let m : length notes ≡ n = cc in
      rw (← m)
      (ap (all_sent between) (notes_sent (has_room (length notes) lent) c 0 0 lent notes)
      ∙ plain (has_room (length notes) lent))
    where
      plain : (b : Bool)
          → all_sent between (walked (chip_from 0 c notes) (0 + length notes) (foldl with_note 0 notes)
          (told_at b lent (row_length * 0) (rows_from (0 + 1) notes)))
          ≡ walked_list (Ok (total (length notes) (total_ticks between notes)))
          (sent_all between c notes)
          (told_at b lent 0 (rows_from 1 notes))
      plain b =
          let z : 0 + length notes ≡ length notes = omega arith in rw (z, from_first c notes)
  sent_walk c lent n (refuses k) e = refl

-- A row

-- one that is told has room
room_for : (n notes : ℕ) (lent rows : List ℕ) → notes + 1 ≤ n → length rows ≡ length lent
    → Room (has_room n lent) (row_length * notes) rows
room_for n notes lent rows l e = go (has_room n lent) refl
  where
    go : (b : Bool) → has_room n lent ≡ b → Room b (row_length * notes) rows
    go true f = omega (arith, leb-true n (length lent / row_length) f)
    go false f = tt

told_at_length : (told : Bool) (lent : List ℕ) (at : ℕ) (rows : List ℕ)
    → length (told_at told lent at rows) ≡ length lent
told_at_length true lent at rows = length-sets lent at rows
told_at_length false lent at rows = refl

-- The loop over a list

-- what has gone, walked over the notes that are left, is the whole report
module _ (between : Between) (c₀ : Chip) (lent list : List ℕ) where
  abbrev pub whole_report : Reading → WalkedList
  whole_report r =
      walked_list (listed_of (reported between r)) (chip_after between c₀ r)
      (rows_in lent (reported between r))

  abbrev walk_from : ℕ → Walked → List (List ℕ) → Walked
  walk_from all = foldl (one_sent between (has_room all lent))

  pub record Underway (all : ℕ) (c : Chip) (rows : List ℕ) (notes sum : ℕ) (left : List (List ℕ)) : Type 0 where
    pub comes : all_sent between (walk_from all (walked c notes sum rows) left) ≡ whole_report (read_list list)
    pub length_kept : length rows ≡ length lent
    pub counted : notes + length left ≡ all
    pub sum_few : sum ≤ 19696 * notes
    -- the place of the notes that are left
    pub at : ℕ
    pub stands : left ≡ notes_from list at
    pub rest : scanned (rest_from list at) ≡ Ok (all - notes)
    pub short : 3 * notes + 1 ≤ at
    pub inside : at ≤ length list + 1

  -- a list that is refused has no note, and nothing has happened
  pub record Loop (r : Result ℕ Refusal) (c : Chip) (rows : List ℕ) (notes sum : ℕ) (left : List (List ℕ)) : Type 0 where
    pub none : scanned_notes r ≡ 0 → (c ≡ c₀) × (rows ≡ lent)
    pub some : r ≡ Ok (scanned_notes r) → Underway (scanned_notes r) c rows notes sum left

  starts : (all : ℕ) → scanned (read_list list) ≡ Ok all → Underway all c₀ lent 0 0 (notes_of list)
  starts all s =
      let walk_all = walk (one_sent between (has_room all lent)) (all_sent between) (none_sent c₀ lent)
      (walked c₀ 0 0 lent) in
      let none : all ≡ all - 0 = omega arith in
      record {
        comes = sym (ap walk_all (accepted_notes list all s).0) ∙ sent_walk between c₀ lent all (read_list list) s;
        length_kept = refl;
        counted = omega (arith, (accepted_notes list all s).1);
        sum_few = omega arith;
        at = first_note;
        stands = refl;
        rest = ap scanned (sym (scanned_rest list all s)) ∙ s ∙ ap Ok none;
        short = omega arith;
        inside = omega arith;
      }

  pub loop_starts : (r : Result ℕ Refusal) → r ≡ scanned (read_list list)
      → Loop r c₀ lent 0 0 (notes_of list)
  loop_starts r e = record {
    none = λ z. (refl, refl);
    some = λ s. starts (scanned_notes r) (sym e ∙ s);
  }

  accepted : (r : Result ℕ Refusal) → 0 < scanned_notes r → r ≡ Ok (scanned_notes r)
  accepted (Ok all) p = refl
  accepted (Err k) p = absurd (omega (arith, p))

  module _ (r : Result ℕ Refusal) (e : r ≡ scanned (read_list list)) {c : Chip} {rows : List ℕ} {notes sum : ℕ} {left : List (List ℕ)}
      (l : Loop r c rows notes sum left) (more : notes < scanned_notes r) where
    reads : scanned (read_list list) ≡ Ok (scanned_notes r)
    reads = sym e ∙ accepted r (omega (arith, more))

    pub begun : Underway (scanned_notes r) c rows notes sum left
    begun = l.some (accepted r (omega (arith, more)))

    -- the note that stands at the place, and what is behind it
    pub next : Next list begun.at (scanned_notes r - notes - 1)
    next =
        next_note_lem list begun.at (scanned_notes r - notes) (omega (arith, more)) begun.rest

    abbrev behind : ℕ
    behind = begun.at + length_bytes + length (note_at list begun.at)

    pub next_left : left ≡ note_at list begun.at ∷ notes_from list behind
    next_left =
        let k = length (note_at list begun.at) in
        begun.stands
        ∙ next_note list begun.at k next.head
        ∙ ap (λ (t : List ℕ). t ∷ notes_from list behind) (sym (note_at_note list begun.at k next.head))

    -- what a turn asks of its numbers and of the lent part
    pub room : Room (has_room (scanned_notes r) lent) (row_length * notes) rows
    room = room_for (scanned_notes r) notes lent rows (omega (arith, more)) begun.length_kept

    pub notes_small : notes < 65536
    notes_small = omega (arith, begun.short, begun.inside, scanned_size list (scanned_notes r) reads)

    pub at_small : begun.at < 4294967296
    at_small = omega (arith, begun.inside, scanned_size list (scanned_notes r) reads)

    module _ {note : List ℕ} {rest : List (List ℕ)} (here : left ≡ note ∷ rest) where
      is_next : note ≡ note_at list begun.at
      is_next = let both = sym here ∙ next_left in cc

      is_behind : rest ≡ notes_from list behind
      is_behind = let both = sym here ∙ next_left in cc

      pub fits : note_fits (length note) ≡ true
      fits = ap (λ (t : List ℕ). note_fits (length t)) is_next ∙ next.fits

      pub sum_small : sum + ticks_of note < 4294967296
      sum_small = omega (arith, begun.sum_few, notes_small, ticks_few note fits)

      -- a turn
      pub loop_turns : {after : Chip} {now : List ℕ} {ticks : ℕ}
          → after ≡ sent_by (before_note between notes c) note
          → now ≡ told_at (has_room (scanned_notes r) lent) rows (row_length * notes) (row_of (notes + 1) note)
          → ticks ≡ with_note sum note → Loop r after now (notes + 1) ticks rest
      loop_turns {after} {now} {ticks} ea er es =
          let all = scanned_notes r in
          let told = has_room all lent in
          let less : all - notes - 1 ≡ all - (notes + 1) = omega arith in
          record {
            none = λ z. absurd (omega (arith, z, more));
            some = λ s. record {
              comes = (λ i. all_sent between (walk_from all (walked (ea i) (notes + 1) (es i) (er i)) rest))
                  ∙ sym (ap (λ (x : List (List ℕ)). all_sent between (walk_from all (walked c notes sum rows) x)) here)
                  ∙ begun.comes;
              length_kept = ap length er
                  ∙ told_at_length told rows (row_length * notes) (row_of (notes + 1) note)
                  ∙ begun.length_kept;
              counted = omega (arith, begun.counted, ap length here);
              sum_few = omega (arith, begun.sum_few, ticks_few note fits, es);
              at = behind;
              stands = is_behind;
              rest = next.rest ∙ ap Ok less;
              short = omega (arith, begun.short, (fits_few (length (note_at list begun.at)) next.fits).0);
              inside = omega (arith, next.inside);
            };
          }

  -- its end
  pub loop_ends : (r : Result ℕ Refusal) → r ≡ scanned (read_list list)
      → {c : Chip} {rows : List ℕ} {notes sum : ℕ} {left : List (List ℕ)}
      → Loop r c rows notes sum left → scanned_notes r ≤ notes
      → walked_list (listed_by r between notes sum) c rows
      ≡ whole_report (read_list list)
  loop_ends (Ok all) e {c} {rows} {notes} {sum} {left} l end =
      let u = l.some refl in
      let none_left : [] ≡ left = sym (empty left (omega (arith, u.counted, end))) in
      ap (λ (x : List (List ℕ)). all_sent between (walk_from all (walked c notes sum rows) x)) none_left ∙ u.comes
    where
      empty : (notes : List (List ℕ)) → length notes ≤ 0 → notes ≡ []
      empty [] h = refl
      empty (note ∷ notes) h = absurd (omega (arith, h))
  loop_ends (Err k) e l end =
      let z = l.none refl in
      (λ i. walked_list (Err k) (z.0 i) (z.1 i))
      ∙ ap whole_report (sym (scanned_refuses list k (sym e)))
