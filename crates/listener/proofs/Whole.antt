-- A frame is heard whole where the capture has its 32 bits, and gives nothing where it is cut off.
use Prim.Native.Nat.{ℕ, suc, ◌+◌, ◌≤◌, ◌<◌}
use mathlib.Core.Path.{◌≡◌, refl, ap, ap₂, sym, ◌∙◌}
use mathlib.Core.Bool.{Bool}
use mathlib.Core.List.{List, [], ◌∷◌, ◌++◌, map-append}
use native.Mathlib.Omega.{arith}
use native.Mathlib.Numerals.{add-one}
use lib.ListN.{length, length-map}
use lib.Dec.{eqb}
use borrow.Author.Tests.{lt-leb}
use Rattle.std.proofs.lemmas.List.{take-append-drop}
use Rattle.std.specs.List.{fold, IsSplitAt}
use Rattle.wire.specs.declared.Follower.TheVariants.{Hunting, Inside}
use Rattle.wire.specs.Follower.{one_more, follow}
use Rattle.wire.proofs.Followers.{shown}
use Rattle.listener.specs.Frames.{frames_from}
use Rattle.listener.specs.Listening.{levels_in}
use Rattle.listener.specs.Parts.{frames_in, frames_started, started, frame_of}

-- inside a frame, to its last bit
pub in_frame : (levels rest : List Bool) (seen bits : ℕ) → seen ≤ 31 → seen + length levels ≡ 32 →
    frames_from (Inside seen bits) (levels ++ rest) ≡ shown bits levels ∷ frames_from (Hunting 0) rest
unfolding frames_from follow
in_frame [] rest seen bits before place = absurd (omega arith)
in_frame (level ∷ []) rest seen bits before place =
    let last : seen ≡ 31 = omega arith in
    rw last
in_frame (level ∷ next ∷ levels) rest seen bits before place =
    rw (lt-leb 31 seen (omega arith), add-one seen)
    (in_frame (next ∷ levels) rest (suc seen) (one_more bits level) (omega arith) (omega arith))

-- inside a frame of which bits are left when the capture ends
too-short : (levels : List Bool) (seen bits : ℕ) → seen + length levels < 32 → frames_from (Inside seen bits) levels ≡ []
unfolding frames_from follow
too-short [] seen bits few = refl
too-short (level ∷ levels) seen bits few =
    rw (lt-leb 31 seen (omega arith), add-one seen)
    (too-short levels (suc seen) (one_more bits level) (omega arith))

-- the bits that bytes say, as a number
bits-shown : (capture : List ℕ) (bits : ℕ) → shown bits (levels_in capture) ≡ fold (λ b byte. one_more b (eqb byte 1)) bits capture
bits-shown [] bits = refl
bits-shown (byte ∷ capture) bits = bits-shown capture (one_more bits (eqb byte 1))

pub cut_off : (capture : List ℕ) → length capture < 31 → frames_started capture ≡ []
unfolding frames_started
cut_off capture short = too-short (levels_in capture) 1 0 (omega (arith, short, length-map capture (λ byte. eqb byte 1)))

pub whole : (capture bits rest : List ℕ) → IsSplitAt capture 31 bits rest → frames_started capture ≡ frame_of bits ∷ frames_in rest
unfolding frames_started frames_in
whole capture bits rest split =
    let apart : bits ++ rest ≡ capture = ap₂ (λ front back. front ++ back) split.1 split.2 ∙ take-append-drop 31 capture in
    ap (λ bytes. frames_from started (levels_in bytes)) (sym apart)
    ∙ ap (frames_from started) (map-append (λ byte. eqb byte 1) bits rest)
    ∙ in_frame (levels_in bits) (levels_in rest) 1 0 (omega arith) (omega (arith, split.3, length-map bits (λ byte. eqb byte 1)))
    ∙ ap (λ frame. frame ∷ frames_in rest) (bits-shown bits 0)
