-- Where the followers of all PHYs are alike one follower tells of every line what it drives and how it moves; and how a loop over the lines finds whether they are alike.
use Prim.Native.Nat.{ℕ, zero, suc, ◌+◌, ◌≤◌, ◌<◌}
use mathlib.Core.Path.{◌≡◌, refl, sym, ap, ap₂, subst, ◌∙◌}
use mathlib.Core.Bool.{Bool, true, false, not, ◌&&◌, ◌||◌, cond}
use mathlib.Core.List.{List, [], ◌∷◌, ◌++◌, map, append-nil}
use native.Mathlib.Omega.{arith}
use native.Mathlib.Numerals.{add-one}
use lib.Dec.{eqb, ltb, leb}
use lib.ListN.{length, get_or, set, take, drop, drop_of_length-le, length-map}
use lib.Seq.{take_all}
use borrow.Author.Tests.{ltb-true, leb-true, le-leb, eqb-true, not-true}
use Rattle.std.specs.Prelude.{Option, Some, None, unwrap_or, option_map}
use Rattle.std.specs.List.{list_all, slice_get}
use Rattle.std.specs.Option.{option_map_or}
use Rattle.verdict.specs.Lists.{All}
use Rattle.verdict.proofs.Elements.{all-map-of, all_then, map_same, map-stays, map-then}
use Rattle.wire.specs.declared.Drive.TheVariants.{Released}
use Rattle.wire.specs.declared.Follower.{Follower}
use Rattle.wire.specs.declared.Follower.TheVariants.{Hunting, Inside}
use Rattle.wire.specs.declared.Header.{Header}
use Rattle.wire.specs.Follower.{one_more, follow, header_seen}
use Rattle.phy.specs.declared.own.Own.{Own}
use Rattle.phy.specs.declared.Phy.{Phy}
use Rattle.phy.specs.Own.{takes, is_own, answers, drives_in}
use Rattle.phy.specs.Clock.{clock}
use Rattle.phy.proofs.Every.{both}
use Rattle.phy.proofs.Clocks.{drives-hunting, drives-early}
use Rattle.phy.proofs.Headers.{unanswered}
use Rattle.phy.proofs.Keeping.{enough-most}
use Rattle.board.specs.declared.Board.{Board}
use Rattle.wire_machine.specs.declared.line.Line.{Line}
use Rattle.wire_machine.specs.declared.hear.Heard.{Heard}
use Rattle.wire_machine.specs.declared.common.Common.{Common}
use Rattle.wire_machine.specs.Lines.{line_of, place_in, line_with, line_drives, acts_in, line_acts, line_follows, hears_drive, hears, heard_from}
use Rattle.wire_machine.specs.Common.{apart, alike_by, same_follower, common_of, stands, standing, asks_to_read, silent_in, is_silent, moves_alike_in, moves_alike, common_follows}
use Rattle.wire_machine.proofs.Quiet.{bare, quiet_line, quiet-bare}
use Rattle.between.specs.Outcome.{phys_of, owns_of}
use Rattle.between.specs.Happened.{first_of, place_of}
use Rattle.between.proofs.Finding.{first-map, first-same}
use Rattle.between.proofs.Happenings.{Rising}
use Rattle.wire_machine.proofs.Hearing.{same-own}
use Rattle.wire_machine.proofs.Stands.{Shows, Stands, owns-are}

never : {A : Type 0} → false ≡ true → A
never e = absurd (let z : ◌≡◌ {A = ℕ} 0 1 = cc in omega arith)

-- where nothing is common every line stands as it is
pub standing_apart : (lines : List Line) → standing apart lines ≡ lines
unfolding stands
standing_apart lines = map-stays (stands apart) (λ line. refl) lines

-- Nobody drives: a header that does not ask to read is answered by nobody
unread : (header : Header) (own : Own) → asks_to_read header ≡ false → is_own 2 header own ≡ false
unread header own e = go (eqb header.start 1) (eqb header.op 2) e
  where
    go : (a b : Bool) → a && b ≡ false → a && (b && takes header.address own) ≡ false
    go true true e = never (sym e)
    go true false e = refl
    go false b e = refl

unasked : (header : Header) (own : Own) → asks_to_read header ≡ false → answers header own ≡ false
unasked header own e = unanswered header own (unread header own e)

drives-silent : (line : Line) → silent_in line.follower ≡ true → line_drives line ≡ Released
unfolding silent_in drives_in
drives-silent line silent = go line.follower refl silent
  where
    by : (f : Follower) (seen bits : ℕ) → f ≡ Inside seen bits → (early late asks : Bool) → ltb seen 15 ≡ early → asks_to_read (header_seen seen bits) ≡ asks → early || (late && not asks) ≡ true → drives_in f line.captured line.own ≡ Released
    by f seen bits is true late asks e a s = drives-early line.own line.captured f seen bits is (ltb-true seen 15 e)
    by f seen bits is false true false e a s = rw (is, unasked (header_seen seen bits) line.own a)
    by f seen bits is false true true e a s = never s
    by f seen bits is false false asks e a s = never s

    go : (f : Follower) → line.follower ≡ f → silent_in f ≡ true → line_drives line ≡ Released
    go (Hunting ones) e s = drives-hunting line.own line.captured line.follower ones e
    go (Inside seen bits) e s = by line.follower seen bits e (ltb seen 15) (leb seen 31) (asks_to_read (header_seen seen bits)) refl refl s

stands-silent : (common : Common) (line : Line) → is_silent common ≡ true → line_drives (stands common line) ≡ Released
unfolding stands
stands-silent common line silent = go common.follower silent
  where
    go : (o : Option Follower) → option_map_or silent_in o false ≡ true → line_drives (line_with (unwrap_or o line.follower) line) ≡ Released
    go None s = never s
    go (Some f) s = drives-silent (line_with f line) s

pub hears-silent : (common : Common) → is_silent common ≡ true → (heard : Heard) (lines : List Line) → heard_from heard (standing common lines) ≡ heard
unfolding heard_from hears_drive
hears-silent common silent heard [] = refl
hears-silent common silent heard (line ∷ lines) =
    let same : hears (stands common line) heard ≡ heard = rw (stands-silent common line silent) in
    ap (λ h. heard_from h (standing common lines)) same ∙ hears-silent common silent heard lines

-- A clock that moves all alike
neither-test : (a b : Bool) → not a && not b ≡ true → (a ≡ false) × (b ≡ false)
neither-test a b e = let tests = both (not a) (not b) e in (not-true a tests.0, not-true b tests.1)

-- the header whose last bit comes next, as far as it is known
abbrev coming : ℕ → Header
coming bits = header_seen 14 (one_more bits false)

module _ (level : Bool) (common : Common) (alike : moves_alike level common ≡ true) where
  -- no PHY acts
  stands-quiet : (line : Line) → line_acts (stands common line) ≡ false
  unfolding stands acts_in moves_alike_in
  stands-quiet line = go common.follower alike
    where
      by : (seen bits : ℕ) (a asks : Bool) → eqb seen 13 ≡ a → asks_to_read (coming bits) ≡ asks → a && asks ≡ false → eqb seen 31 ≡ false → acts_in (Inside seen bits) line ≡ false
      by seen bits true true e q none last = never (sym none)
      by seen bits true false e q none last = rw e (unread (coming bits) line.own q)
      by seen bits false asks e q none last = rw (e, last)

      go : (o : Option Follower) → option_map_or (moves_alike_in level) o false ≡ true → line_acts (line_with (unwrap_or o line.follower) line) ≡ false
      go None e = never e
      go (Some (Hunting ones)) e = refl
      go (Some (Inside seen bits)) e =
          let tests = neither-test (eqb seen 13 && asks_to_read (coming bits)) (eqb seen 31) e in
          by seen bits (eqb seen 13) (asks_to_read (coming bits)) refl refl tests.0 tests.1

  -- every follower moves as the common one: 32 ones are enough for all
  stands-follows : (line : Line) → line.enough ≤ 32 → line_follows level (stands common line) ≡ stands (common_follows level common) line
  unfolding stands line_follows common_follows follow moves_alike_in
  stands-follows line few = go common.follower alike
    where
      hunting : (ones : ℕ) (l : Bool) → l || leb 32 ones ≡ true → line_follows l (line_with (Hunting ones) line) ≡ line_with (follow 32 l (Hunting ones)) line
      hunting ones true e = refl
      hunting ones false e = rw (e, le-leb line.enough ones (omega (arith, leb-true 32 ones e)))

      go : (o : Option Follower) → option_map_or (moves_alike_in level) o false ≡ true → line_follows level (line_with (unwrap_or o line.follower) line) ≡ line_with (unwrap_or (option_map (follow 32 level) o) line.follower) line
      go None e = never e
      go (Some (Hunting ones)) e = hunting ones level e
      go (Some (Inside seen bits)) e =
          let tests = neither-test (eqb seen 13 && asks_to_read (coming bits)) (eqb seen 31) e in
          rw tests.1

  -- and no PHY needs more
  few-enough : (ls : List Line) (phys : List Phy) → map (stands common) ls ≡ map line_of phys → All (λ line. line.enough ≤ 32) ls
  unfolding stands
  few-enough ls phys are =
      all-map-back ls (subst (All (λ line. line.enough ≤ 32)) (sym are) (all-map-of (λ line. line.enough ≤ 32) line_of phys enough-most))
    where
      all-map-back : (ls : List Line) → All (λ line. line.enough ≤ 32) (map (stands common) ls) → All (λ line. line.enough ≤ 32) ls
      all-map-back [] h = tt
      all-map-back (line ∷ ls) h = (h.0, all-map-back ls h.1)

  quiet-phys : (phys : List Phy) → All (λ line. line_acts line ≡ false) (map line_of phys) → (map (line_follows level) (map line_of phys) ≡ map line_of (map (clock level) phys)) × (map bare (map (clock level) phys) ≡ map bare phys)
  quiet-phys [] h = (refl, refl)
  quiet-phys (phy ∷ phys) h =
      let rest = quiet-phys phys h.1 in
      (ap₂ (λ l ls. l ∷ ls) (quiet_line level phy h.0) rest.0, ap₂ (λ p ps. p ∷ ps) (quiet-bare level phy h.0) rest.1)

  pub all-follow : {start now : Board} (lines : List Line) {phys : List Phy} → Shows start now (standing common lines) phys → Shows start now (standing (common_follows level common) lines) (map (clock level) phys)
  all-follow {start} {now} lines {phys} shows =
      let quiet = subst (All (λ line. line_acts line ≡ false)) shows.lines_are (all-map-of (λ line. line_acts line ≡ false) (stands common) lines stands-quiet) in
      let phys-move = quiet-phys phys quiet in
      record {
        counted = shows.counted;
        beyond = shows.beyond;
        bares = shows.bares ∙ sym phys-move.1;
        lines_are =
            sym (map-then (line_follows level) (stands common) (λ line. line_follows level (stands common line)) (λ line. refl) lines ∙ map_same _ _ lines (all_then _ _ lines stands-follows (few-enough lines phys shows.lines_are)))
            ∙ ap (map (line_follows level)) shows.lines_are
            ∙ phys-move.0;
      }

-- A loop over the lines: those passed are as they stand, the others stand by what is common
module _ {A : Type 0} (f : A → A) where
  abbrev pub mixed : ℕ → List A → List A
  mixed i xs = take i xs ++ map f (drop i xs)

  pub mixed-at : (i : ℕ) (xs : List A) (d : A) → i < length xs → get_or (mixed i xs) i d ≡ f (get_or xs i d)
  mixed-at i [] d h = absurd (omega arith)
  mixed-at zero (x ∷ xs) d h = refl
  mixed-at (suc i) (x ∷ xs) d h = mixed-at i xs d (omega arith)

  mixed-turn : (i : ℕ) (xs : List A) (v : A) → set (mixed i xs) i v ≡ mixed (suc i) (set xs i v)
  mixed-turn zero [] v = refl
  mixed-turn (suc i) [] v = refl
  mixed-turn zero (x ∷ xs) v = refl
  mixed-turn (suc i) (x ∷ xs) v = ap (λ ys. x ∷ ys) (mixed-turn i xs v)

  pub mixed-set : (i : ℕ) (xs : List A) (v : A) → set (mixed i xs) i v ≡ mixed (i + 1) (set xs i v)
  mixed-set i xs v = rw add-one (mixed-turn i xs v)

  -- the first n are as they were once they are passed
  pub mixed-all : (n : ℕ) (xs : List A) → take n (mixed n xs) ≡ take n xs
  mixed-all zero xs = refl
  mixed-all (suc n) [] = refl
  mixed-all (suc n) (x ∷ xs) = ap (λ ys. x ∷ ys) (mixed-all n xs)

  -- where all are passed nothing is changed any more
  mixed-whole : (n : ℕ) (xs : List A) → n ≡ length xs → mixed n xs ≡ xs
  mixed-whole n xs all =
      let none : drop n xs ≡ [] = drop_of_length-le xs {i = n} (omega arith) in
      let whole : take n xs ≡ xs = take_all n xs (omega arith) in
      rw (none, append-nil, whole)

-- Two followers that pass the test are the same
same-is : (f g : Follower) → same_follower f g ≡ true → f ≡ g
same-is (Hunting ones) (Hunting others) e = ap Hunting (eqb-true ones others e)
same-is (Hunting ones) (Inside seen bits) e = never e
same-is (Inside seen bits) (Hunting ones) e = never e
same-is (Inside seen bits) (Inside seen' bits') e =
    let tests = both (eqb seen seen') (eqb bits bits') e in
    ap₂ Inside (eqb-true seen seen' tests.0) (eqb-true bits bits' tests.1)

-- what lines have in common, told by the first and by a test of all
pub common-is : (lines : List Line) (first : Line) (b : Bool) → Some first ≡ slice_get lines 0 → b ≡ list_all (λ line. same_follower line.follower first.follower) lines → cond b (alike_by first.follower) apart ≡ common_of lines
unfolding common_of
common-is [] first b there tests = absurd (let z : ◌≡◌ {A = ℕ} 0 1 = cc in omega arith)
common-is (line ∷ lines) first b there tests =
    ap (λ t. cond t (alike_by first.follower) apart) tests
    ∙ ap (λ (l : Line). cond (list_all (λ other. same_follower other.follower l.follower) (line ∷ lines)) (alike_by l.follower) apart) (ap (λ o. unwrap_or o first) there)

-- where lines are found to be alike each stands as it is
common-of : (lines : List Line) → standing (common_of lines) lines ≡ lines
unfolding common_of stands
common-of [] = refl
common-of (line ∷ lines) = go (list_all same (line ∷ lines)) refl
  where
    same : Line → Bool
    same other = same_follower other.follower line.follower

    own : (other : Line) → same other ≡ true → line_with line.follower other ≡ other
    own other e = ap (λ f. line_with f other) (sym (same-is other.follower line.follower e))

    each : (others : List Line) → list_all same others ≡ true → map (line_with line.follower) others ≡ others
    each [] e = refl
    each (other ∷ others) e =
        let tests = both (same other) (list_all same others) e in
        ap₂ (λ l ls. l ∷ ls) (own other tests.0) (each others tests.1)

    go : (b : Bool) → list_all same (line ∷ lines) ≡ b → standing (cond b (alike_by line.follower) apart) (line ∷ lines) ≡ line ∷ lines
    go true e = each (line ∷ lines) e
    go false e = standing_apart (line ∷ lines)

-- Lines tell where an event is for: as they stand they are those of the PHYs, and their addresses do not go by how they stand
module _ (events steps log₀ : List ℕ) (board : Board) (full : length (phys_of board) ≡ board.count) (rising : Rising events) (common : Common) (lines : List Line) {log : List ℕ} {now : Board} {next c : ℕ} where
  pub event-place : Stands events steps log₀ board log now next (standing common lines) c → (address : ℕ) → place_in lines address ≡ place_of (owns_of (phys_of board)) address
  event-place stands-so address =
      let asks : Line → Bool = λ line. eqb address line.own.address in
      let at-stands : (line : Line) → asks (stands common line) ≡ asks line = λ line. ap (λ own. eqb address own.address) (same-own common line) in
      sym (first-map asks (stands common) lines ∙ first-same (λ line. asks (stands common line)) asks at-stands lines)
      ∙ ap (first_of asks) stands-so.shows.lines_are
      ∙ first-map asks line_of stands-so.waiting
      ∙ sym (first-map (λ own. eqb address own.address) (λ (phy : Phy). phy.own) stands-so.waiting)
      ∙ ap (λ owns. place_of owns address) (owns-are events steps log₀ board full rising stands-so)

-- where all lines are passed they stand by what they are found to have in common
pub all-passed : {start now : Board} {phys : List Phy} (common : Common) (lines : List Line) (n : ℕ) → n ≡ length lines → Shows start now (mixed (stands common) n lines) phys → Shows start now (standing (common_of lines) lines) phys
all-passed {start} {now} {phys} common lines n all = subst (λ ls. Shows start now ls phys) (mixed-whole (stands common) n lines all ∙ sym (common-of lines))

-- there are as many lines as PHYs
pub as-many : {start now : Board} {phys : List Phy} (common : Common) (lines : List Line) → Shows start now (standing common lines) phys → length lines ≡ length phys
as-many common lines shows = sym (length-map lines (stands common)) ∙ ap length shows.lines_are ∙ length-map _ line_of
