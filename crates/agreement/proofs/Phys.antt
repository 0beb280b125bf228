-- A PHY follows frames, whatever its events are, if they are effects: each law is one that the PHY's crate shows.
use Prim.Native.Nat.{ℕ, ◌<◌}
use mathlib.Core.Path.{◌≡◌, refl, ap}
use mathlib.Core.Bool.{true}
use mathlib.Core.List.{List}
use native.Mathlib.Omega.{arith}
use lib.ListN.{length, get_or}
use Rattle.verdict.proofs.Elements.{count-one}
use Rattle.wire.specs.Follower.{answering}
use Rattle.phy.specs.declared.Phy.{Phy}
use Rattle.phy.specs.Own.{takes, answers}
use Rattle.phy.specs.Clock.{enough, phy_party, phy_core}
use Rattle.phy.specs.Typed.{Steady}
use Rattle.phy.proofs.Effects.{Effect, after_header-effect, after_frame-effect}
use Rattle.phy.proofs.Headers.{answers-taken, answers-reads-only, write-header, read-frame}
use Rattle.phy.proofs.Keeping.{enough-most, keeps-own, keeps-enough, keeps-steady, line-steady, word_small}
use Rattle.phy.proofs.Lines.{drives-line-hunting, drives-line, clock-hunting, clock-inside, clock-header, clock-frame}
use Rattle.agreement.specs.Follows.{Fields, Driving, Sampling, Keeps, Follows, OneAnswers}
use Rattle.agreement.specs.Phys.{phy_line}

module _ (happens : ℕ → Phy → Phy) (events : (c : ℕ) → Effect (happens c)) where
  fields : Fields (phy_party happens) (phy_core happens) phy_line Steady
  unfolding enough
  fields =
      record {
        follower = λ f w phy. refl;
        captured = λ f w phy. refl;
        same = λ phy. refl;
        again = λ f g v w phy. refl;
        good = line-steady;
        enough = λ f w phy. refl;
        answers = λ h f w phy. refl;
        word = λ h f w phy. refl;
      }

  driving : Driving (phy_party happens) (phy_core happens) phy_line Steady
  unfolding answering
  driving = record { hunting = drives-line-hunting; inside = drives-line }

  sampling : Sampling (phy_party happens) (phy_core happens) phy_line Steady
  sampling =
      record {
        hunting = λ level ones phy. clock-hunting level ones 0 phy;
        inside = λ level seen bits w phy before ordinary. clock-inside level seen bits w phy ordinary (omega arith);
        header = λ level bits phy. clock-header level bits 0 phy;
        end = clock-frame;
      }

  keeps : {f : Phy → Phy} → Effect f → Keeps (phy_party happens) (phy_core happens) phy_line Steady f
  keeps effect =
      record {
        put = effect.blind;
        good = keeps-steady effect;
        enough = λ phy steady. keeps-enough effect phy steady.fixed;
        answers = λ h phy. ap (answers h) (keeps-own effect phy);
      }

  pub phy-follows : Follows (phy_party happens) (phy_core happens) phy_line Steady
  phy-follows =
      record {
        fields = fields;
        driving = driving;
        sampling = sampling;
        same-events = λ c. refl;
        keeps-header = λ h. keeps (after_header-effect h);
        keeps-frame = λ h w. keeps (after_frame-effect h w);
        keeps-events = λ c. keeps (events c);
        few-enough = λ phy steady. enough-most phy;
        word_fits = λ h phy steady. word_small h phy steady.words;
        write-unanswered = λ h phy op. answers-reads-only h phy.own (λ read. omega arith);
        write-header = write-header;
        read-end = read-frame;
      }

-- of PHYs that never take the same address at most one answers
pub phys-one : (happens : ℕ → Phy → Phy) (phys : List Phy) (d : Phy) →
    ((i j : ℕ) → i < j → j < length phys → (address : ℕ) → takes address (get_or phys i d).own ≡ true → takes address (get_or phys j d).own ≡ true → ⊥) → OneAnswers (phy_core happens) phys
phys-one happens phys d apart h =
    count-one (λ phy. answers h phy.own) phys d (λ i j before within one other. apart i j before within h.address (answers-taken h (get_or phys i d).own one) (answers-taken h (get_or phys j d).own other))
