-- What stays true of a frame while its bits come in: how it started, its header, and that only an own read has a captured word.
use Prim.Native.Nat.{ℕ, suc, ◌+◌, ◌-◌, ◌^◌, ◌≤◌, ◌<◌}
use mathlib.Core.Path.{◌≡◌, refl, sym, ap, ap₂, subst, ◌∙◌}
use mathlib.Core.Logic.{◌⊎◌, inl, inr}
use mathlib.Core.Bool.{Bool, true, false, cond}
use native.Mathlib.Omega.{arith}
use native.Mathlib.Numerals.{add-one}
use native.Mathlib.Decide.{ℕ_discrete}
use Rattle.wire.specs.declared.Follower.{Follower}
use Rattle.wire.specs.declared.Follower.TheVariants.{Hunting, Inside}
use Rattle.wire.specs.declared.Header.{Header}
use Rattle.wire.specs.Follower.{one_more, follow, header_seen}
use Rattle.wire.proofs.Followers.{more-fits, header-stays, follow-keeps, goes_on}
use Rattle.phy.specs.declared.Phy.{Phy}
use Rattle.phy.specs.Fields.{with_line}
use Rattle.phy.specs.Own.{answers}
use Rattle.phy.specs.Clock.{enough, word, after_header, clock}
use Rattle.phy.proofs.Clocks.{OwnRead}
use Rattle.phy.proofs.Lines.{clock-hunting, clock-inside, clock-header, clock-frame}
use Rattle.phy.proofs.Effects.{after_header-effect}
use Rattle.phy.proofs.Keeping.{keeps-own}

-- "hunting with 0 to 32 ones, or inside a frame with 1 to 31 bits, the first 0"
abbrev pub Started : Follower → Type 0
Started (Hunting ones) = ones ≤ 32
Started (Inside seen bits) = (1 ≤ seen) × (seen ≤ 31) × (bits < 2 ^ (seen - 1))

pub follow-started : (n : ℕ) (level : Bool) (f : Follower) → Started f → Started (follow n level f)
follow-started =
    follow-keeps Started (omega arith) (omega arith, omega arith, omega arith) (λ ones. omega arith)
    (λ level seen bits s l.
    let place : suc (seen - 1) ≡ seen + 1 - 1 = omega arith in
    (omega arith, omega arith, subst (λ (k : ℕ). one_more bits level < 2 ^ k) place (more-fits (seen - 1) bits s.2 (omega arith) level)))

-- "a captured word, of any value, only in an own read of an implemented register from its 14th bit on, else 0"
abbrev pub CapturedOnly : Phy → Type 0
CapturedOnly phy = (phy.captured ≡ 0) ⊎ OwnRead 14 phy

-- what is known of an own read with these bits
pub own-here : (phy : Phy) (seen bits : ℕ) → phy.follower ≡ Inside seen bits → OwnRead 14 phy
    → (14 ≤ seen) × (answers (header_seen seen bits) phy.own ≡ true)
own-here phy seen bits now read =
    let same_seen : read.seen ≡ seen = cc read.now in
    let same_bits : read.bits ≡ bits = cc read.now in
    (omega (arith, read.from), ap₂ (λ (n b : ℕ). answers (header_seen n b) phy.own) (sym same_seen) (sym same_bits) ∙ read.own)

-- a clock keeps that, of a frame that started as it must
module _ (level : Bool) (phy : Phy) where
  hunted : (ones : ℕ) → phy.follower ≡ Hunting ones → CapturedOnly phy → CapturedOnly (clock level phy)
  hunted ones now (inl none) = inl (ap (λ p. p.captured) (ap (λ f. clock level (with_line f phy.captured phy)) now ∙ clock-hunting level ones phy.captured phy) ∙ none)
  hunted ones now (inr read) = let z : ◌≡◌ {A = ℕ} 0 1 = cc read.now in absurd (omega arith)

  went_on : (seen bits : ℕ) → phy.follower ≡ Inside seen bits → Started (Inside seen bits) → (seen ≡ 13 → ⊥) → (seen ≡ 31 → ⊥)
      → CapturedOnly phy → CapturedOnly (clock level phy)
  went_on seen bits now s n13 n31 only = subst CapturedOnly (sym is) (after only)
    where
      next : Follower
      next = follow (enough phy) level (Inside seen bits)

      is : clock level phy ≡ with_line next phy.captured phy
      is = ap (λ f. clock level (with_line f phy.captured phy)) now ∙ clock-inside level seen bits phy.captured phy n13 n31

      after : CapturedOnly phy → CapturedOnly (with_line next phy.captured phy)
      after (inl none) = inl none
      after (inr read) =
          let own = own-here phy seen bits now read in
          inr record {
            seen = suc seen;
            bits = one_more bits level;
            now = goes_on (enough phy) level seen bits (omega arith) ∙ ap (λ (k : ℕ). Inside k (one_more bits level)) (add-one seen);
            own = ap (λ h. answers h phy.own) (header-stays (seen - 1) bits s.2 (omega arith) level seen own.0) ∙ own.1;
            from = omega arith;
            upto = omega arith;
          }

  -- at the 14th bit the read under way, if it is one, has its word
  headed : (bits : ℕ) → phy.follower ≡ Inside 13 bits → CapturedOnly phy → CapturedOnly (clock level phy)
  headed bits now only = subst CapturedOnly (sym is) (by (answers header phy.own) refl only)
    where
      header : Header
      header = header_seen 14 (one_more bits level)

      after : ℕ → Phy
      after w = with_line (Inside 14 (one_more bits level)) w (after_header header phy)

      is : clock level phy ≡ after (cond (answers header phy.own) (word header phy) phy.captured)
      is = ap (λ f. clock level (with_line f phy.captured phy)) now ∙ clock-header level bits phy.captured phy

      by : (t : Bool) → answers header phy.own ≡ t → CapturedOnly phy → CapturedOnly (after (cond t (word header phy) phy.captured))
      by true own any =
          inr record {
            seen = 14;
            bits = one_more bits level;
            now = refl;
            own = ap (answers header) (keeps-own (after_header-effect header) phy) ∙ own;
            from = omega arith;
            upto = omega arith;
          }
      by false other (inl none) = inl none
      by false other (inr read) = absurd (omega (arith, (own-here phy 13 bits now read).0))

  ended : (bits : ℕ) → phy.follower ≡ Inside 31 bits → CapturedOnly (clock level phy)
  ended bits now = inl (ap (λ p. p.captured) (ap (λ f. clock level (with_line f phy.captured phy)) now ∙ clock-frame level bits phy.captured phy))

  pub clock-captured : Started phy.follower → CapturedOnly phy → CapturedOnly (clock level phy)
  clock-captured started only = go phy.follower refl started
    where
      go : (f : Follower) → phy.follower ≡ f → Started f → CapturedOnly (clock level phy)
      go (Hunting ones) now s = hunted ones now only
      go (Inside seen bits) now s = by (ℕ_discrete seen 13) (ℕ_discrete seen 31)
        where
          here : (n : ℕ) → seen ≡ n → phy.follower ≡ Inside n bits
          here n e = now ∙ ap (λ (k : ℕ). Inside k bits) e

          by : Dec (seen ≡ 13) → Dec (seen ≡ 31) → CapturedOnly (clock level phy)
          by (yes e) d = headed bits (here 13 e) only
          by (no n13) (yes e) = ended bits (here 31 e)
          by (no n13) (no n31) = went_on seen bits now s n13 n31 only
