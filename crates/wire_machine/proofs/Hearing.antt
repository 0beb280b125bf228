-- What is heard line by line: of those passed and of those that are left it is what is heard of all.
use Prim.Native.Nat.{ℕ, suc, ◌+◌, ◌≤◌, ◌<◌}
use mathlib.Core.Path.{◌≡◌, refl, sym, ap, ◌∙◌}
use mathlib.Core.List.{List}
use native.Mathlib.Omega.{arith}
use native.Mathlib.Numerals.{add-one}
use lib.ListN.{length, get_or, drop, drop_of_length-le, length-map}
use lib.Seq.{drop-cons}
use Rattle.std.specs.Prelude.{Some, None}
use Rattle.verdict.specs.Lists.{All}
use Rattle.verdict.proofs.Elements.{all-at}
use Rattle.wire.specs.declared.Drive.{Drive}
use Rattle.wire.specs.declared.Follower.{Follower}
use Rattle.wire_machine.specs.declared.line.Line.{Line}
use Rattle.wire_machine.specs.declared.hear.Heard.{Heard}
use Rattle.wire_machine.specs.declared.common.Common.{Common}
use Rattle.wire_machine.specs.Lines.{no_line, line_drives, hears_drive, hears, heard_from}
use Rattle.wire_machine.specs.Common.{apart, alike_by, stands, standing}
use Rattle.between.proofs.Filling.{map_at}

-- A line as it stands is for the same frames
pub same-own : (common : Common) (line : Line) → (stands common line).own ≡ line.own
unfolding stands
same-own common line = refl

-- By what lines stand
module _ (common : Common) (lines : List Line) where
  -- where a follower is common, by that one
  pub stands_alike : (follower : Follower) → common.follower ≡ Some follower → standing common lines ≡ standing (alike_by follower) lines
  stands_alike follower e = ap (λ (c : Common). standing c lines) (λ i. record { follower = e i })

  -- and where none is, each as it is
  pub stands-apart : common.follower ≡ None → standing common lines ≡ standing apart lines
  stands-apart e = ap (λ (c : Common). standing c lines) (λ i. record { follower = e i })

module _ (common : Common) (lines : List Line) where
  abbrev all : List Line
  all = standing common lines

  module _ (i : ℕ) (there : i < length lines) where
    at : get_or all i no_line ≡ stands common (get_or lines i no_line)
    at = map_at (stands common) lines i no_line no_line there

    pub small_at : All (λ line. line.own.address < 32) all → (get_or lines i no_line).own.address < 32
    small_at small = rw (at, same-own common (get_or lines i no_line)) at (all-at (λ line. line.own.address < 32) all i no_line (omega (arith, length-map lines (stands common))) small)

    -- one more is heard
    pub heard-next : (heard next : Heard) (drive : Drive) → drive ≡ line_drives (stands common (get_or lines i no_line)) → next ≡ hears_drive (get_or lines i no_line).own.address drive heard → heard_from next (drop (i + 1) all) ≡ heard_from heard (drop i all)
    unfolding heard_from stands
    heard-next heard next drive drives is =
        let line = get_or lines i no_line in
        let same : next ≡ hears (get_or all i no_line) heard = is ∙ ap (λ d. hears_drive line.own.address d heard) drives ∙ ap (λ l. hears l heard) (sym at) in
        rw (drop-cons all i no_line (omega (arith, length-map lines (stands common))), add-one) (ap (λ n. heard_from n (drop (suc i) all)) same)

  -- and past the last none is
  pub heard_all : (heard : Heard) (i : ℕ) → length lines ≤ i → heard_from heard (drop i all) ≡ heard
  unfolding heard_from
  heard_all heard i past = ap (heard_from heard) (drop_of_length-le all {i = i} (omega (arith, length-map lines (stands common))))
