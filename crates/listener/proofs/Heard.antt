-- Hearing the frames one by one gives the records of the capture.
use Prim.Native.Nat.{ℕ, ◌+◌, ◌*◌, ◌-◌, ◌≤◌, ◌<◌}
use mathlib.Core.Path.{◌≡◌, refl, ap, ap₂, sym, subst, ◌∙◌}
use mathlib.Core.Bool.{Bool, true, false, ◌&&◌, cond}
use mathlib.Core.List.{List, [], ◌∷◌, ◌++◌, map, map-id, map-append, append-nil}
use native.Mathlib.Omega.{arith}
use lib.ListN.{length, take, drop, length-append, length-take, length-drop}
use borrow.Rule.Slice.PartMut.{put_mid}
use Rattle.std.specs.Prelude.{Option, Some, None}
use Rattle.std.specs.List.{filter_map, cons_option}
use Rattle.std.specs.Iterator.{YieldsFirst, Yields, Drains}
use Rattle.std.specs.Iterator.Adapters.{filter_map_source, filter_map_callee, filter_map_steps}
use Rattle.std.specs.Fn.{Called}
use Rattle.std.proofs.lemmas.Iterator.{YieldsList}
use Rattle.std.proofs.lemmas.Iterator.Consumers.{YieldsList-from_first, YieldsList-from_filter_map, YieldsList-at, YieldsList-turn, YieldsList-end, count_from_yields_List}
use Rattle.std.specs.declared.iter.FilterMap.{FilterMap}
use denote.Param.Members.{Mut}
use Rattle.verdict.specs.Output.{join, written}
use Rattle.verdict.proofs.Lists.{join-append}
use Rattle.verdict.proofs.Outputs.{put_next}
use Rattle.frame.specs.declared.answer.Answer.{Answer}
use Rattle.frame.specs.Answers.{answer_by, answer_record, answer_bytes, put_in}
use Rattle.frame.proofs.Lists.{put-fills}
use Rattle.listener.specs.declared.Listener.{Listener}
use Rattle.listener.specs.Records.{transaction_in, turnaround_in, starts_right, is_ours, records_of, records_of_all, records_given}
use Rattle.listener.specs.Listening.{records_in}
use Rattle.listener.specs.Parts.{frames_in}

-- the one of at most one record
abbrev pub one_of : List Answer → Option Answer
one_of [] = None
one_of (answer ∷ _) = Some answer

abbrev pub answer_in : ℕ → Option Answer
answer_in frame = one_of (records_of frame)

-- what a frame gives tells its record
pub gives-answer : (given : Option Answer) (frame : ℕ) → records_given given ≡ records_of frame → given ≡ answer_in frame
gives-answer None frame e = ap one_of e
gives-answer (Some answer) frame e = ap one_of e

one-goes-first : (frame : ℕ) (answers : List Answer) → cons_option (answer_in frame) answers ≡ records_of frame ++ answers
unfolding records_of
one-goes-first frame answers = go (starts_right frame && is_ours (transaction_in frame))
  where
    records : Bool → List Answer
    records b = cond b (answer_by (transaction_in frame) (turnaround_in frame) (transaction_in frame).«data» ∷ []) []

    go : (b : Bool) → cons_option (one_of (records b)) answers ≡ records b ++ answers
    go true = refl
    go false = refl

all-given : (frames : List ℕ) → filter_map answer_in frames ≡ records_of_all frames
unfolding join
all-given [] = refl
all-given (frame ∷ frames) = one-goes-first frame (filter_map answer_in frames) ∙ ap (λ answers. records_of frame ++ answers) (all-given frames)

pub records-given : (capture : List ℕ) → filter_map answer_in (frames_in capture) ≡ records_in capture
unfolding frames_in records_in
records-given capture = all-given (frames_in capture)

-- the bytes of records, six each
abbrev pub bytes_of : List Answer → List ℕ
bytes_of records = join (map answer_bytes records)

pub length-bytes : (records : List Answer) → length (bytes_of records) ≡ length records * answer_record
unfolding join
length-bytes [] = refl
length-bytes (a ∷ records) = omega (arith, length-append (answer_bytes a) (bytes_of records), length-bytes records)

bytes-more : (records : List Answer) (a : Answer) → bytes_of (records ++ (a ∷ [])) ≡ bytes_of records ++ answer_bytes a
unfolding join
bytes-more records a =
    ap join (map-append answer_bytes records (a ∷ [])) ∙ join-append (map answer_bytes records) (answer_bytes a ∷ []) ∙ ap (λ bytes. bytes_of records ++ bytes) (append-nil (answer_bytes a))

-- A listener that has the whole capture before it, and gives the record of each frame, where it has one
module _ {F : Type 0} (g : Mut F (ℕ × Unit {0}) (Option Answer)) where
  abbrev steps : FilterMap Listener F → Option Answer → FilterMap Listener F → Type 0
  steps = filter_map_steps (YieldsFirst (λ l. frames_in l.levels.now)) g

  -- what each call gives
  abbrev Calls : F → Type 0
  Calls f = (frame : ℕ) (given : Option Answer) (q : F) → Called g f (frame, tt) given q → (q ≡ f) × (records_given given ≡ records_of frame)

  road : {s : FilterMap Listener F} {f : F} (capture : List ℕ) → (filter_map_source s).levels.now ≡ capture → filter_map_callee s ≡ f → Calls f →
      YieldsList steps (λ answer. answer) s (records_in capture)
  road capture source callee calls =
      subst (YieldsList steps (λ answer. answer) _) (records-given capture)
      (YieldsList-from_filter_map g answer_in (YieldsList-from_first (λ frame. frame) (λ l. frames_in l.levels.now) (frames_in capture) (ap frames_in source)) callee
      (λ frame given q call. let c = calls frame given q call in (c.0, gives-answer given frame c.1)))

  -- their count
  pub counted : (s : FilterMap Listener F) (n : ℕ) → ((xs : List Answer) × Drains steps s xs × (n ≡ length xs)) →
      {l : Listener} → filter_map_source s ≡ l → {f : F} → filter_map_callee s ≡ f → Calls f → n ≡ length (records_in l.levels.now)
  counted s n ran {l} source callee calls = count_from_yields_List s n ran (road l.levels.now (ap (λ l. l.levels.now) source) callee calls)

  -- a loop over them, that has come to the state t
  module _ {s : FilterMap Listener F} (records : List Answer) (t u : FilterMap Listener F) (r : Option Answer) (sofar : Yields steps s records t) (next : steps t r u)
      {s' : FilterMap Listener F} (start : s ≡ s') {l : Listener} (source : filter_map_source s' ≡ l) {f : F} (callee : filter_map_callee s' ≡ f) (calls : Calls f) where
    abbrev way : YieldsList steps (λ answer. answer) s (records_in l.levels.now)
    way = YieldsList-at start (road l.levels.now (ap (λ l. l.levels.now) source) callee calls)

    pub more : (answer : Answer) → r ≡ Some answer → length records < length (records_in l.levels.now)
    more answer is = (YieldsList-turn way records t sofar r u answer is next).0

    pub all : r ≡ None → records ≡ records_in l.levels.now
    all is = sym (map-id records) ∙ (YieldsList-end way records t sofar r u is next).0

-- A record more, which fills the part behind those that are written
pub record-put : (records : List Answer) (answer : Answer) (out before part : List ℕ) (at : ℕ) → at ≡ length records * answer_record → before ≡ written (bytes_of records) out → at + 6 ≤ length before →
    part ≡ put_in (take (at + 6 - at) (drop at before)) answer → put_mid at (at + 6 - at) before part ≡ written (bytes_of (records ++ (answer ∷ []))) out
record-put records answer out before part at place so-far within put =
    let done = bytes_of records in
    let here : length done ≡ at = omega (arith, length-bytes records, place) in
    let six : length (take (at + 6 - at) (drop at before)) ≡ 6 = omega (arith, length-take (at + 6 - at) (drop at before), length-drop at before) in
    let start : before ≡ done ++ drop at out = so-far ∙ ap (λ n. done ++ drop n out) here in
    let long : at + 6 ≡ length (bytes_of (records ++ (answer ∷ []))) = omega (arith, length-bytes (records ++ (answer ∷ [])), length-append records (answer ∷ []), place) in
    ap₂ (put_mid at (at + 6 - at)) start (put ∙ put-fills _ answer six)
    ∙ put_next done (answer_bytes answer) out at 6 here refl
    ∙ ap₂ (λ bytes n. bytes ++ drop n out) (sym (bytes-more records answer)) long
