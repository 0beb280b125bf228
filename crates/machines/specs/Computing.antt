-- One name that opens every definition of the two machines, so that a worked run computes: `unfolding computing`.
use Rattle.std.specs.Prelude.{ℕ}
use Rattle.verdict.specs.Bits.{bits, shift_in}
use Rattle.verdict.specs.File.{in_order, file_verdict, bytes_verdict}
use Rattle.verdict.specs.Output.{tabulate, join}
use Rattle.frame.specs.List as list
use Rattle.frame.specs.List.{transaction_at}
use Rattle.frame.specs.Steps.{steps_of}
use Rattle.frame.specs.Log.{level_at, log_part}
use Rattle.frame.specs.Answers.{answer_in}
use Rattle.wire.specs.Wire.{runs, driven}
use Rattle.wire.specs.Machines.{quiet, plain_answers, plain_parties}
use Rattle.phy.specs.Computing as phy
use Rattle.phy.specs.Record.{any, every, others_implemented, register_set_right, unimplemented_zero, words_right, derived_control, defaults_right}
use Rattle.phy.specs.Sound.{in_own_read, blank, control_sound, follower_sound, is_blank, others_at_default, phy_sound, registers_stand, stands_outside}
use Rattle.board.specs.Record.{fault_of, has_address}
use Rattle.board.specs.Load.{board_of, loaded, phy_at, record_fault, used_before, words_at}
use Rattle.board.specs.Check.{checked, place_sound, record_passes}
use Rattle.board.specs.Events.{event_fault}
use Rattle.between.specs.Events.{happens_from}
use Rattle.wire_machine.specs.Log.{clock_record, mask_from}

unfoldable pub computing : ℕ
unfolding bits shift_in in_order file_verdict tabulate join list.record_fault transaction_at steps_of level_at log_part answer_in runs driven quiet plain_answers plain_parties phy.computing any every others_implemented register_set_right unimplemented_zero words_right derived_control defaults_right in_own_read blank control_sound follower_sound is_blank others_at_default phy_sound registers_stand stands_outside fault_of has_address board_of loaded phy_at record_fault used_before words_at checked place_sound record_passes event_fault happens_from clock_record mask_from bytes_verdict
computing = 0
