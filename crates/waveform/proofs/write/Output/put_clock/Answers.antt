-- Time, level, enable and contention, one behind the other, or nothing.
use Prim.Native.Nat.{ℕ}
use mathlib.Core.Path.{◌≡◌, subst, sym, ◌∙◌}
use mathlib.Core.Bool.{Bool, true, ◌||◌}
use mathlib.Core.List.{List, ◌++◌}
use Rattle.waveform.specs.declared.write.Output.{Output}
use Rattle.waveform.specs.declared.signals.Signals.{Signals}
use Rattle.waveform.specs.declared.signals.Signal.TheVariants.{Level, Enable, Contention}
use Rattle.waveform.specs.Text.{time_line}
use Rattle.waveform.specs.Signals.{value_line}
use Rattle.waveform.specs.Waveform.{clock_lines}
use Rattle.waveform.specs.Passes.{HasRoom, Puts, shown_at}
use Rattle.waveform.proofs.Puts.{puts-nothing, room-first, room-second, puts_both}
use Rattle.waveform.proofs.Clocks.{lines_shown, lines-by, no-lines-by}
use Rattle.waveform.proofs.write.Output.put_clock.Goals as goal

-- the lines of a clock that shows any signal, and the room that is left behind each of them
module _ (out : Output) (clock : ℕ) (old new shown : Signals) (has_room : HasRoom out (clock_lines clock old new)) (is : shown ≡ shown_at clock old new)
    (any : Bool) (says : any ≡ shown.level || shown.enable || shown.contention) (yes : any ≡ true) where
  abbrev level : List ℕ
  level = value_line Level shown.level new.level

  abbrev enable : List ℕ
  enable = value_line Enable shown.enable new.enable

  abbrev contention : List ℕ
  contention = value_line Contention shown.contention new.contention

  lines : clock_lines clock old new ≡ lines_shown clock new shown
  lines = lines-by clock old new shown is (sym says ∙ yes)

  room : HasRoom out (lines_shown clock new shown)
  room = subst (HasRoom out) lines has_room

  module _ (out₁ : Output) (timed : Puts out (time_line clock) out₁) where
    values-room : HasRoom out₁ (level ++ (enable ++ contention))
    values-room = room-second {out = out} (time_line clock) (level ++ (enable ++ contention)) room timed

    module _ (out₂ : Output) (leveled : Puts out₁ level out₂) where
      later-room : HasRoom out₂ (enable ++ contention)
      later-room = room-second {out = out₁} level (enable ++ contention) values-room leveled

      all : (out₃ out' : Output) → Puts out₂ enable out₃ → Puts out₃ contention out' → Puts out (clock_lines clock old new) out'
      all out₃ out' enabled last =
          subst (λ lines. Puts out lines out') (sym lines)
          (puts_both {out = out} (time_line clock) (level ++ (enable ++ contention)) room timed
          (puts_both {out = out₁} level (enable ++ contention) values-room leveled (puts_both {out = out₂} enable contention later-room enabled last)))

pub put_time-requires : goal.put_time-requires
put_time-requires c =
    room-first c.args.self.now _ _ (room c.args.self.now c.args.clock.number c.args.clock.old _ _ c.requires c.shown-shown.ensures _ c.any.ensures c.if-any.true)

pub put_value-requires : goal.put_value-requires
put_value-requires c =
    room-first c.put_time.new.self _ _ (values-room c.args.self.now c.args.clock.number c.args.clock.old _ _ c.requires c.shown-shown.ensures _ c.any.ensures c.if-any.true _ c.put_time.ensures)

pub put_value-requires-then-any : goal.put_value-requires-then-any
put_value-requires-then-any c =
    room-first c.put_value.new.self _ _ (later-room c.args.self.now c.args.clock.number c.args.clock.old _ _ c.requires c.shown-shown.ensures _ c.any.ensures c.if-any.true _ c.put_time.ensures _ c.put_value.ensures)

pub put_value-requires-then-any-2 : goal.put_value-requires-then-any-2
put_value-requires-then-any-2 c =
    room-second {out = c.put_value.new.self} _ _
    (later-room c.args.self.now c.args.clock.number c.args.clock.old _ _ c.requires c.shown-shown.ensures _ c.any.ensures c.if-any.true _ c.put_time.ensures _ c.put_value.ensures)
    c.put_value-then-any.ensures

pub returns-then-any : goal.returns-then-any
returns-then-any c =
    all c.args.self.now c.args.clock.number c.args.clock.old _ _ c.requires c.shown-shown.ensures _ c.any.ensures c.if-any.true _ c.put_time.ensures _ c.put_value.ensures _ _ c.put_value-then-any.ensures c.put_value-then-any-2.ensures

pub returns-else-any : goal.returns-else-any
returns-else-any c =
    rw (no-lines-by c.args.clock.number c.args.clock.old c.args.clock.new _ c.shown-shown.ensures (sym c.any.ensures ∙ c.if-any.false)) (puts-nothing c.args.self.now)
