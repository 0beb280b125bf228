-- Document 01, "Records": "Log, 5 bytes per clock: flags (1 level, 2 station drives, 4 two or more parties drive) and a 4-byte mask".
use Rattle.std.specs.Prelude.{ℕ, ◌+◌, ◌*◌, ◌-◌, ◌%◌, ◌≡◌, Bool, ◌&&◌, cond, List, length, take, drop, leb}
use Rattle.std.specs.Borrow.{Bor}
use Rattle.verdict.specs.File.{byte_at}
use Rattle.verdict.specs.Output.{tabulate}
use Rattle.frame.specs.Frame.{log_record, log_part_bytes}
use Rattle.frame.specs.List.{most_transactions}

-- the level at a clock, from 1: flag 1 of the clock's record
unfoldable pub level_at : List ℕ → ℕ → ℕ
level_at log clock = byte_at log ((clock - 1) * log_record) % 2

-- the levels of n clocks from a clock on
abbrev pub levels : List ℕ → ℕ → ℕ → List ℕ
levels log clock n = tabulate n (λ i. level_at log (clock + i))

-- "k from 1 to 64", and the log has 325k bytes
abbrev pub has_part : List ℕ → ℕ → Bool
has_part log k = leb 1 k && (leb k most_transactions && leb (k * log_part_bytes) (length log))

-- where the k-th part starts, and its bytes: "k outside that, or a log shorter than 325k, hands back the empty part at the log's start"
abbrev pub part_start : List ℕ → ℕ → ℕ
part_start log k = cond (has_part log k) ((k - 1) * log_part_bytes) 0

abbrev pub part_length : List ℕ → ℕ → ℕ
part_length log k = cond (has_part log k) log_part_bytes 0

unfoldable pub log_part : List ℕ → ℕ → List ℕ
log_part log k = take (part_length log k) (drop (part_start log k) log)

-- what `log_part` promises: those bytes, in the place where they lie in the caller's own log
pub record PartOf (log : Bor (List ℕ)) (k : ℕ) (part : Bor (List ℕ)) : Type 0 where
  pub bytes : part.now ≡ log_part log.now k
  pub block : part.ref_ptr.0 ≡ log.ref_ptr.0
  pub place : part.ref_ptr.1 ≡ part_start log.now k + log.ref_ptr.1
