-- Both ends: what channel w of one chip sends in time, channel u of another that listens gives
-- back, with RR1 D6 at 0. Assumes nothing.
use Rattle.std.specs.Prelude.{◌≡◌, ◌≢◌, Bool, false, List, [], ◌∷◌, ◌++◌, ℕ, ◌+◌, ◌<◌, length}
use Rattle.std.proofs.Common.{sym, ◌∙◌, subst}
use Rattle.std.proofs.Math.Path.{ap}
use Rattle.line.specs.Bits.{Below}
use Rattle.bytesync.specs.Hearing.{expected}
use Rattle.blocks.specs.Check.{with_check}
use Rattle.blocks.specs.Characters.{ends_of, pattern_length, turn_after, letting}
use Rattle.blocks.specs.Come.{sync_head}
use Rattle.blocks.proofs.Laws.Check.{with_check_length}
use Rattle.blocks.proofs.Laws.Together.{last_byte, bits_left, line_bytes, Alike, same_bytes, all_below}
use Rattle.blocks.proofs.Laws.Together.{given_all}
use Rattle.chip.specs.declared.Chip.{Chip}
use Rattle.chip.specs.Event.{Event}
use Rattle.stories.specs.Story.{Which}
use Rattle.stories.specs.Sent.{line_of, ticks}
use Rattle.stories.specs.Received.{bits_of}
use Rattle.terminals.specs.Side.{moments_of}
use Rattle.terminals.specs.Side as receiving
use Rattle.terminals.specs.Statement.{Listening, Fed, matching_of, polynomial_at, Received}
use Rattle.terminals.specs.Demand.{block_received}
use Rattle.dispatch.specs.Side.{syncing_of}
use Rattle.dispatch.specs.Statement.{syncs_of, Start, InTime, block_ticks}
use Rattle.dispatch.specs.Block.{block_sent}

-- the bits that r hears are those that c sends, from the first of the sync to the character behind
-- the check; WR3 D3 is set for just the bytes and the check
abbrev pub Together : Type 0
Together =
    (w : Which) (c : Chip) (p v : ℕ) (vs tail : List ℕ) (st : List Event) → Start w c p
    → InTime w [] [] c (v ∷ vs) tail st
    → p + ticks w st ≡ block_ticks (syncs_of w c) (v ∷ vs) tail
    → Below 256 (v ∷ vs) → last_byte (syncing_of w c) tail < 256
    → (u : Which) (r : Chip) (rs : List Event) (i : Bool) → Listening (receiving.side_of u r)
    → Alike (syncing_of w c) (matching_of u r) → v ≢ expected (matching_of u r).syncs false
    → Fed u r rs
    → bits_of u rs ++ bits_left (syncing_of w c) tail ≡ sync_head (syncs_of w c) p ++ line_of w c st
    → ends_of (pattern_length (matching_of u r).syncs + 7) (moments_of u r rs)
    ≡ letting i 0 (length (v ∷ vs) + 2)
    → Received u r rs
    (with_check (polynomial_at u r) (v ∷ vs) ++ (last_byte (syncing_of w c) tail ∷ [])) false

pub together : Together
together w c p v vs tail st s t n b m u r rs i l a d f e o =
    let g = syncing_of w c in
    let q = polynomial_at u r in
    let last = last_byte g tail in
    let bytes = with_check q (v ∷ vs) in
    subst (λ (z : List ℕ). Received u r rs z false) (given_all (matching_of u r) bytes last)
    (block_received u r rs 0 v last vs l (unfold turn_after in d) (record {
      story = f;
      bits =
          line_bytes g (v ∷ vs) tail (bits_of u rs) (e ∙ block_sent w c p v vs tail st s t n)
          ∙ same_bytes g (matching_of u r) (v ∷ vs) last a;
      first = i;
      lets = o ∙ ap (letting i 0) (sym (with_check_length q (v ∷ vs)));
      below = all_below (matching_of u r).syncs q b m;
    }))
