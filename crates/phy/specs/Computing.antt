-- One name that opens every definition of the PHY, so that a worked example computes: `unfolding computing`.
use Rattle.std.specs.Prelude.{ℕ}
use Rattle.verdict.specs.Bits.{shift_in}
use Rattle.wire.specs.Follower.{follow, header_of, answering}
use Rattle.phy.specs.Words.{word_of}
use Rattle.phy.specs.Own.{takes, implements, answers, stores, drives_in}
use Rattle.phy.specs.Control.{reset, speed_from, new_bit12, new_bit9, new_bit8, new_bit5, new_control, new_status, write_control}
use Rattle.phy.specs.Registers.{in_reset, masked, write_ordinary, read_status, after_read, write_by, after_write}
use Rattle.phy.specs.Events.{completes, happening, event}
use Rattle.phy.specs.Clock.{enough, after_header, after_frame, at_header, acts, clock}

unfoldable pub computing : ℕ
unfolding shift_in follow header_of answering word_of reset speed_from new_bit12 new_bit9 new_bit8 new_bit5 new_control new_status write_control takes implements answers stores drives_in in_reset masked write_ordinary read_status after_read write_by after_write completes happening event enough after_header after_frame at_header acts clock
computing = 0
