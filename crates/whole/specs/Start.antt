-- A frame from end to end: where demand 3 starts, the bits of the opening flag that are sent there,
-- and when the closing flag has ended. Assumes nothing.
use Rattle.std.specs.Prelude.{Bool, false, None, ◌&&◌, List, ℕ, ◌-◌, eqb, take}
use Rattle.line.specs.Check.{ones}
use Rattle.line.specs.Frame.{flag_bits}
use Rattle.shared.specs.Shared.{shared}
use Rattle.sdlc.specs.declared.LineUnit.{LineUnit}
use Rattle.sdlc.specs.declared.LineUnit.TheVariants.{Mark, Flag, Byte, Check, Abort}
use Rattle.sdlc.specs.declared.Framer.{Framer}
use Rattle.sdlc.specs.Sending.{not_counted, framer}

-- "Start during a flag", p of its bits sent: "buffer empty, check preset to ones .., underrun latch
-- cleared"
abbrev pub started : ℕ → Framer
started p = framer (Flag (8 - p)) not_counted (shared None false ones)

-- the bits of that flag that are sent
abbrev pub flag_head : ℕ → List Bool
flag_head p = take p flag_bits

-- the closing flag's last bit is sent
abbrev pub ended_by : Bool → LineUnit → Bool
ended_by latch Mark = false
ended_by latch (Flag n) = latch && eqb n 0
ended_by latch (Byte n v) = false
ended_by latch (Check n v) = false
ended_by latch (Abort n) = false

abbrev pub frame_ended : Framer → Bool
frame_ended s = ended_by s.shared.latch s.unit
