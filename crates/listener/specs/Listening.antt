-- The call `listen`. Document 02, E1: "Our analyser saves one byte per clock, 0 or 1. We want a listener that turns up to 4,160 such bytes into answer records."
use Rattle.std.specs.Prelude.{ℕ, ◌*◌, Bool, List, map, length, eqb}
use Rattle.verdict.specs.Refusal.{Verdict, wrong_level, and_then}
use Rattle.verdict.specs.File.{bytes_verdict}
use Rattle.verdict.specs.Output.{join, room_for, Writes}
use Rattle.frame.specs.declared.answer.Answer.{Answer}
use Rattle.frame.specs.Answers.{answer_record, answer_bytes}
use Rattle.frame.specs.Steps.{most_steps}
use Rattle.listener.specs.Frames.{at_first, frames_from}
use Rattle.listener.specs.Records.{records_of_all}

-- "up to 4,160 such bytes": as many as the longest run has clocks
abbrev pub most_levels : ℕ
most_levels = most_steps

-- 16: "a byte over 1"
abbrev pub largest_level : ℕ
largest_level = 1

-- the capture's checks: 2, then 16 at the first byte over 1
abbrev pub capture_verdict : List ℕ → Verdict
capture_verdict capture = bytes_verdict most_levels largest_level wrong_level capture

-- the levels that its bytes say
abbrev pub levels_in : List ℕ → List Bool
levels_in capture = map (λ byte. eqb byte 1) capture

-- the records that it gives, and their bytes
unfoldable pub records_in : List ℕ → List Answer
records_in capture = records_of_all (frames_from at_first (levels_in capture))

abbrev pub record_bytes : List ℕ → List ℕ
record_bytes capture = join (map answer_bytes (records_in capture))

-- the capture's checks, then 10 by the records found
abbrev pub listening : List ℕ → List ℕ → Verdict
listening capture out = and_then (capture_verdict capture) (λ n. room_for out (length (records_in capture) * answer_record))

-- what `listen` promises
abbrev pub Listened : List ℕ → List ℕ → Verdict → List ℕ → Type 0
Listened capture out r out' = Writes (listening capture out) (record_bytes capture) out r out'
