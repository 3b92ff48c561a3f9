-- Demand 2 for Monosync and Bisync, proved: a block received, and a flipped bit seen. Assumes
-- nothing.
use Rattle.std.specs.Prelude.{◌≡◌, refl, Bool, true, false, not, List, [], ◌∷◌, ◌++◌, ℕ, ◌%◌, ◌<◌}
use Rattle.std.proofs.Common.{sym, ap, ap₂, ◌∙◌, append-nil, arith, ne_eqb}
use Rattle.common.specs.Mode.{in_blocks}
use Rattle.shared.specs.Preset.{zeros}
use Rattle.queue.specs.Laws.{three_empty}
use Rattle.bytesync.specs.declared.Reception.{Reception}
use Rattle.bytesync.specs.Syncs.{polynomial_of}
use Rattle.bytesync.specs.Hearing.{searching, wrong}
use Rattle.blocks.specs.Check.{with_check}
use Rattle.blocks.specs.Heard.{Final, hear_all, before, entries_of}
use Rattle.blocks.specs.Characters.{block_given, Feeds}
use Rattle.blocks.proofs.Laws.Brought.{block_fed, flipped_fed}
use Rattle.settings.specs.Settings.{crc16_chosen, receiving_of}
use Rattle.chip.specs.declared.Chip.{Chip}
use Rattle.chip.specs.Event.{Event}
use Rattle.stories.specs.Story.{Which, chan, after}
use Rattle.stories.specs.Received.{took_of, bytes_of}
use Rattle.history.specs.Receiving.Events.{bytes_append, values_are}
use Rattle.terminals.specs.Side.{Side, side_of, moments_of}
use Rattle.terminals.specs.Events.{moments_bits}
use Rattle.terminals.specs.Conserved.{Conserved, conserved}
use Rattle.terminals.specs.Statement.{Listening, Fed, matching_of, syncs_of, polynomial_at}
use Rattle.terminals.specs.Statement.{BlockFed, rr1_d6, BlockReceived}
use Rattle.terminals.specs.Statement.{FlipSeen}
use Rattle.terminals.specs.Shown.{d6_is}

-- either polynomial is one of sixteen bits, with a 1
small : (d2 : Bool) → polynomial_of d2 < 65536
small true = omega arith
small false = omega arith

with_one : (d2 : Bool) → polynomial_of d2 % 2 ≡ 1
with_one true = refl
with_one false = refl

polynomial_small : (w : Which) (c : Chip) → polynomial_at w c < 65536
unfolding receiving_of
polynomial_small w c = small (crc16_chosen (chan w c).registers.wr5)

polynomial_one : (w : Which) (c : Chip) → polynomial_at w c % 2 ≡ 1
unfolding receiving_of
polynomial_one w c = with_one (crc16_chosen (chan w c).registers.wr5)

-- a story, from hunt begun with the check preset
module _ (w : Which) (c : Chip) (st : List Event) (l : Listening (side_of w c))
    (f : Fed w c st) where
  abbrev x : Side
  x = side_of w c

  abbrev heard : Final
  heard = hear_all (matching_of w c) (searching true) zeros (moments_of w c st)

  abbrev kept : Conserved w c st x.reception x.check x.heeds [] x.queue.parity
      x.queue.overrun
  kept =
      let q = x.queue in
      conserved w f x.reception x.check q x.heeds []
      (record { mode = l.mode; on = l.on }) refl
      (three_empty q.entries q.count q.parity q.overrun l.three l.empty)

  whole : heard ≡ before (took_of w c st ++ kept.waiting)
      (hear_all (matching_of w c) kept.last kept.check [])
  whole =
      ap₂ (λ (r : Reception) (k : ℕ). hear_all (matching_of w c) r k (moments_of w c st))
      (sym l.begun) (sym l.preset)
      ∙ ap (hear_all (matching_of w c) x.reception x.check)
      (sym (append-nil (moments_of w c st)))
      ∙ kept.whole []

  got_is : took_of w c st ++ kept.waiting ≡ heard.got
  got_is =
      sym (ap (λ (y : Final). y.got) whole
      ∙ (unfold hear_all in (append-nil (took_of w c st ++ kept.waiting))))

  check_is : (chan w (after c st)).receiver.check ≡ heard.check
  check_is =
      ap (λ (y : Side). y.check) kept.there
      ∙ sym (ap (λ (y : Final). y.check) whole ∙ (unfold hear_all in refl))

  d6_shows : (chan w (after c st)).pointer ≡ 1
      → rr1_d6 w (after c st) ≡ wrong heard.check
  d6_shows p =
      d6_is w (after c st) (ap (λ (y : Side). in_blocks y.heeds.mode) kept.there ∙ l.mode) p
      ∙ ap wrong check_is

bytes_of_lem : (vs : List ℕ) → bytes_of (entries_of vs) ≡ vs
unfolding bytes_of entries_of
bytes_of_lem [] = refl
bytes_of_lem (v ∷ vs) = ap (λ (l : List ℕ). v ∷ l) (bytes_of_lem vs)

feeds : (w : Which) (c : Chip) (st : List Event) (k : ℕ) (vs : List ℕ) (last : ℕ)
    → BlockFed w c st k vs last → Feeds (syncs_of w c) k vs last (moments_of w c st)
feeds w c st k vs last f = record {
  bits = moments_bits w c st ∙ f.bits;
  first = f.first;
  lets = f.lets;
  below = f.below;
}

pub block_received : BlockReceived
block_received w c st k v last vs l n f =
    let p = polynomial_at w c in
    let bytes = with_check p (v ∷ vs) in
    let s = f.story in
    let h = block_fed (matching_of w c) l.first l.second (polynomial_small w c) k v last vs
    (moments_of w c st) n (feeds w c st k bytes last f) in
    let m = got_is w c st l s ∙ h.0 in
    let waiting = (kept w c st l s).waiting in
    record {
      waiting = waiting;
      holds = rw (ap (λ (y : Side). y.queue) (kept w c st l s).there) (kept w c st l s).holds;
      values = ap (λ (y : List ℕ). y ++ bytes_of waiting) (sym (values_are w c st))
          ∙ sym (bytes_append (took_of w c st) waiting) ∙ ap bytes_of m
          ∙ bytes_of_lem (block_given (matching_of w c) k bytes last);
      marks = m;
      d6 = λ q. d6_shows w c st l s q ∙ ap wrong h.1;
    }

pub flip_seen : FlipSeen
flip_seen w c st k v last text vs xs ys b l e d f q =
    let s = f.story in
    let h = flipped_fed (matching_of w c) l.first l.second
    (polynomial_small w c) k v last text vs
    xs ys b (moments_of w c st) (polynomial_one w c) e d (feeds w c st k (v ∷ vs) last f) in
    d6_shows w c st l s q ∙ ap not (ne_eqb (heard w c st l s).check 0 h)
