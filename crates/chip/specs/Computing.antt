-- The chip's definitions, opened together: what is computed of a chip by its events says `unfolding
-- computing` and needs no list of names. Assumes nothing.
use Rattle.std.specs.Prelude.{ℕ}
use Rattle.line.specs.Bits.{low_bits, text_bits}
use Rattle.line.specs.Check.{check_step, check_over, top_bits, check_bits}
use Rattle.line.specs.Insertion.{stuff}
use Rattle.line.specs.Bits.{from_low}
use Rattle.queue.specs.Queue.{pushed, taken, oldest, rr1, rr1_told, special}
use Rattle.shapes.specs.Shapes.{shape_bits}
use Rattle.shapes.specs.Sent.{length_named, bits_sent, odd_over}
use Rattle.asynchronous.specs.Sending.{stop_bits, stops_named, tick_character}
use Rattle.asynchronous.specs.Hearing.{bits_with, hear_character}
use Rattle.sdlc.specs.Sending.{following, going, tick_sdlc}
use Rattle.sdlc.specs.Hearing.{accept, push, one, zero_bit, hear_sdlc}
use Rattle.bytesync.specs.Sending.{following as following_block, tick_block}
use Rattle.bytesync.specs.Hearing.{sync_seen, hunting, entering, arrived, assembling, hear_block}
use Rattle.sender.specs.Sender.{tick}
use Rattle.receiver.specs.Receiver.{hear}
use Rattle.settings.specs.Settings.{mode_of, not_built, length_of, sending_of, receiving_of}
use Rattle.status.specs.Status.{changed, noticed, afresh}
use Rattle.interrupts.specs.Interrupts.{highest, any_of, with_source, may_take, acknowledged, ended}
use Rattle.vector.specs.Vector.{code_of, vector_of}
use Rattle.channel.specs.Channel.{live_of, settled}
use Rattle.channel.specs.Control.{commanded, preset, command_step, preset_step, write_wr0, set_wr4}
use Rattle.channel.specs.Control.{set_register, control_written, rr0, rr1_now, read_register}
use Rattle.channel.specs.Events.{data_read, transmit_tick, receive_tick, lines_set, special_waits}
use Rattle.channel.specs.Events.{receive_pending, pending_in}
use Rattle.chip.specs.Interrupts.{pending_of, any_pending, rr2, acknowledge, reti}
use Rattle.chip.specs.Chip.{control_write_a, control_write_b, control_write}
use Rattle.chip.specs.Chip.{control_read_call, data_write_call}
use Rattle.chip.specs.Chip.{data_read_call, transmit_call, receive_call, lines_call}

unfoldable pub computing : ℕ
unfolding
    low_bits text_bits check_step check_over top_bits check_bits stuff from_low pushed taken oldest rr1
    rr1_told special shape_bits length_named bits_sent odd_over stop_bits stops_named tick_character bits_with hear_character
    following going tick_sdlc accept push one zero_bit hear_sdlc following_block tick_block sync_seen
    hunting entering arrived assembling hear_block tick hear mode_of not_built length_of sending_of
    receiving_of changed noticed afresh live_of settled commanded preset command_step preset_step
    write_wr0 set_wr4 set_register control_written rr0 rr1_now read_register data_read transmit_tick
    receive_tick lines_set special_waits receive_pending pending_in highest any_of with_source may_take
    acknowledged ended code_of vector_of pending_of any_pending rr2 acknowledge reti control_write_a
    control_write_b control_write control_read_call data_write_call data_read_call transmit_call receive_call
    lines_call
computing = 0
