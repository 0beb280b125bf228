-- What demand 3 asks of a party: it follows frames as document 01, "The PHY's follower", says, and answers in an own read alone.
use Rattle.std.specs.Prelude.{ℕ, ◌+◌, ◌-◌, ◌%◌, ◌^◌, ◌≤◌, ◌<◌, ◌≡◌, Bool, false, cond, List}
use Rattle.verdict.specs.Lists.{All, count}
use Rattle.frame.specs.Frame.{header_bits, frame_bits}
use Rattle.frame.specs.List.{write, read}
use Rattle.wire.specs.declared.Drive.TheVariants.{Released}
use Rattle.wire.specs.declared.Follower.{Follower}
use Rattle.wire.specs.declared.Follower.TheVariants.{Hunting, Inside}
use Rattle.wire.specs.declared.Header.{Header}
use Rattle.wire.specs.Wire.{Party}
use Rattle.wire.specs.Follower.{one_more, follow, header_seen, answering}
use Rattle.wire.specs.Machines.{Core}

-- what a party has of the wire, beside its core: the ones that let a 0 start a frame, its follower and its captured word, and how these two are put
pub record Line (P : Type 0) : Type 0 where
  pub enough : P → ℕ
  pub follower : P → Follower
  pub captured : P → ℕ
  pub put : Follower → ℕ → P → P

module _ {P : Type 0} (core : Core P) (line : Line P) where
  -- the 14th bit of a frame: its header has its effect, and who answers captures the word
  abbrev pub header_done : ℕ → P → P
  header_done bits p =
      let h = header_seen header_bits bits in
      line.put (Inside header_bits bits) (cond (core.answers h p) (core.word h p) 0) (core.after_header h p)

  -- the 32nd bit: the frame has its effect, and the party hunts
  abbrev pub frame_done : ℕ → P → P
  frame_done bits p = line.put (Hunting 0) 0 (core.after_frame (header_seen frame_bits bits) (bits % 2 ^ 16) p)

-- A party of the wire and of the plain machine; Good is what its laws ask of a value
module _ {P : Type 0} (wire : Party P) (core : Core P) (line : Line P) (Good : P → Type 0) where
  -- follower and captured word are two fields of a party, and nothing else goes by them
  pub record Fields : Type 0 where
    pub follower : (f : Follower) (w : ℕ) (p : P) → line.follower (line.put f w p) ≡ f
    pub captured : (f : Follower) (w : ℕ) (p : P) → line.captured (line.put f w p) ≡ w
    pub same : (p : P) → line.put (line.follower p) (line.captured p) p ≡ p
    pub again : (f g : Follower) (v w : ℕ) (p : P) → line.put f w (line.put g v p) ≡ line.put f w p
    pub good : (f : Follower) (w : ℕ) (p : P) → Good p → Good (line.put f w p)
    pub enough : (f : Follower) (w : ℕ) (p : P) → line.enough (line.put f w p) ≡ line.enough p
    pub answers : (h : Header) (f : Follower) (w : ℕ) (p : P) → core.answers h (line.put f w p) ≡ core.answers h p
    pub word : (h : Header) (f : Follower) (w : ℕ) (p : P) → core.word h (line.put f w p) ≡ core.word h p

  -- what a party drives, by its follower's place
  pub record Driving : Type 0 where
    pub hunting : (ones w : ℕ) (p : P) → wire.drives (line.put (Hunting ones) w p) ≡ Released
    pub inside : (seen bits w : ℕ) (p : P) →
        wire.drives (line.put (Inside seen bits) w p) ≡ cond (core.answers (header_seen seen bits) p) (answering seen w) Released

  -- what a level makes of it: the follower moves, and the 14th and the 32nd bit have their effects
  pub record Sampling : Type 0 where
    pub hunting : (level : Bool) (ones : ℕ) (p : P) →
        wire.samples level (line.put (Hunting ones) 0 p) ≡ line.put (follow (line.enough p) level (Hunting ones)) 0 p
    pub inside : (level : Bool) (seen bits w : ℕ) (p : P) → seen < frame_bits - 1 → (seen ≡ header_bits - 1 → ⊥) →
        wire.samples level (line.put (Inside seen bits) w p) ≡ line.put (follow (line.enough p) level (Inside seen bits)) w p
    pub header : (level : Bool) (bits : ℕ) (p : P) →
        wire.samples level (line.put (Inside (header_bits - 1) bits) 0 p) ≡ header_done core line (one_more bits level) p
    pub end : (level : Bool) (bits w : ℕ) (p : P) →
        wire.samples level (line.put (Inside (frame_bits - 1) bits) w p) ≡ frame_done core line (one_more bits level) p

  -- what every effect and every event keeps; it goes by neither follower nor captured word, and touches neither
  pub record Keeps (effect : P → P) : Type 0 where
    pub put : (f : Follower) (w : ℕ) (p : P) → effect (line.put f w p) ≡ line.put f w (effect p)
    pub good : (p : P) → Good p → Good (effect p)
    pub enough : (p : P) → Good p → line.enough (effect p) ≡ line.enough p
    pub answers : (h : Header) (p : P) → core.answers h (effect p) ≡ core.answers h p

  -- a party that follows frames: nobody answers a write, a write does nothing at its header and a read nothing at its frame's end
  pub record Follows : Type 0 where
    pub fields : Fields
    pub driving : Driving
    pub sampling : Sampling
    pub same-events : (c : ℕ) → wire.happens c ≡ core.happens c
    pub keeps-header : (h : Header) → Keeps (core.after_header h)
    pub keeps-frame : (h : Header) (w : ℕ) → Keeps (core.after_frame h w)
    pub keeps-events : (c : ℕ) → Keeps (core.happens c)
    pub few-enough : (p : P) → Good p → line.enough p ≤ 32
    pub word_fits : (h : Header) (p : P) → Good p → core.word h p < 2 ^ 16
    pub write-unanswered : (h : Header) (p : P) → h.op ≡ write → core.answers h p ≡ false
    pub write-header : (h : Header) (p : P) → h.op ≡ write → core.after_header h p ≡ p
    pub read-end : (h : Header) (w : ℕ) (p : P) → h.op ≡ read → core.after_frame h w p ≡ p

module _ {P : Type 0} (line : Line P) (Good : P → Type 0) where
  -- a party that hunts, with nothing captured
  pub record Waits (p : P) : Type 0 where
    pub good : Good p
    pub ones : ℕ
    pub hunts : line.follower p ≡ Hunting ones
    pub empty : line.captured p ≡ 0

  -- and that takes a 0 after m more ones for a start
  pub record Ready (m : ℕ) (p : P) : Type 0 where
    pub waits : Waits p
    pub enough : line.enough p ≤ waits.ones + m

-- of a board at most one party answers each header
abbrev pub OneAnswers : {P : Type 0} → Core P → List P → Type 0
OneAnswers core ps = (h : Header) → count (core.answers h) ps ≤ 1

-- a board on which a first preamble of m ones is enough for all, and so are, later, the idle clock's 1 and n more
pub record Hunts {P : Type 0} (core : Core P) (line : Line P) (Good : P → Type 0) (m n : ℕ) (ps : List P) : Type 0 where
  pub ready : All (Ready line Good m) ps
  pub later : All (λ p. line.enough p ≤ 1 + n) ps
  pub one : OneAnswers core ps
