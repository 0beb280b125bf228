-- Clocks in which nothing acts: their events alone, so what events keep is kept over any number of clocks.
use Prim.Native.Nat.{ℕ, zero, suc, ◌+◌}
use mathlib.Core.Path.{◌≡◌, refl, ap, ◌∙◌}
use mathlib.Core.Bool.{Bool}
use mathlib.Core.List.{List, map}
use native.Mathlib.Omega.{arith}
use Rattle.verdict.specs.Lists.{All, count}
use Rattle.verdict.proofs.Elements.{all_map, map-past, count_kept}
use Rattle.wire.specs.Machines.{Core, quiet}

module _ {P : Type 0} (core : Core P) where
  -- the events of one clock, then some more clocks
  pub quiet-clock : (c n : ℕ) (ps : List P) → quiet core (suc c) n (map (core.happens (suc c)) ps) ≡ quiet core c (suc n) ps
  unfolding quiet
  quiet-clock c n ps = refl

  -- some clocks, then some more
  pub quiet-append : (a b c c' : ℕ) (ps : List P) → c' ≡ c + a → quiet core c (a + b) ps ≡ quiet core c' b (quiet core c a ps)
  unfolding quiet
  quiet-append zero b c c' ps e =
      let here : c ≡ c' = omega arith in
      let all : 0 + b ≡ b = omega arith in
      rw (here, all)
  quiet-append (suc a) b c c' ps e =
      let all : suc a + b ≡ suc (a + b) = omega arith in
      rw all (quiet-append a b (suc c) c' (map (core.happens (suc c)) ps) (omega arith))

  -- what goes by no event may be done before or after
  pub quiet-map : (f : P → P) → ((c : ℕ) (p : P) → core.happens c (f p) ≡ f (core.happens c p)) → (c n : ℕ) (ps : List P) → quiet core c n (map f ps) ≡ map f (quiet core c n ps)
  unfolding quiet
  quiet-map f same c zero ps = refl
  quiet-map f same c (suc n) ps =
      ap (quiet core (suc c) n) (map-past f (core.happens (suc c)) (same (suc c)) ps) ∙ quiet-map f same (suc c) n (map (core.happens (suc c)) ps)

  pub quiet_all : (Q : P → Type 0) → ((c : ℕ) (p : P) → Q p → Q (core.happens c p)) → (c n : ℕ) (ps : List P) → All Q ps → All Q (quiet core c n ps)
  unfolding quiet
  quiet_all Q keeps c zero ps h = h
  quiet_all Q keeps c (suc n) ps h =
      quiet_all Q keeps (suc c) n (map (core.happens (suc c)) ps)
      (all_map Q Q (core.happens (suc c)) ps (keeps (suc c)) h)

  pub quiet-count : (test : P → Bool) → ((c : ℕ) (p : P) → test (core.happens c p) ≡ test p) → (c n : ℕ) (ps : List P) → count test (quiet core c n ps) ≡ count test ps
  unfolding quiet
  quiet-count test keeps c zero ps = refl
  quiet-count test keeps c (suc n) ps =
      quiet-count test keeps (suc c) n (map (core.happens (suc c)) ps) ∙ count_kept test (core.happens (suc c)) (keeps (suc c)) ps
