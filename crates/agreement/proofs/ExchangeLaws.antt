-- `exchange` answers as the plain machine does, since both are refused alike and demand 3 holds of what is not refused.
use Prim.Native.Nat.{ℕ, ◌<◌}
use mathlib.Core.Path.{◌≡◌, refl, ap, sym, subst, ◌∙◌}
use mathlib.Core.List.{List, [], ◌∷◌, ◌++◌, map, map-append}
use lib.ListN.{length, drop, length-map}
use lib.Seq.{take_at}
use Rattle.verdict.specs.declared.Refusal.{Refusal}
use Rattle.verdict.specs.Refusal.{Verdict, Done, Refused}
use Rattle.verdict.specs.File.{byte_at}
use Rattle.verdict.specs.Lists.{All}
use Rattle.verdict.specs.Output.{tabulate, join, written, output_after}
use Rattle.verdict.proofs.Checks.{done-by}
use Rattle.verdict.proofs.Elements.{all_map, all-map-of}
use Rattle.verdict.proofs.Lists.{length-tabulate, all-tabulate}
use Rattle.frame.specs.declared.list.Transaction.{Transaction}
use Rattle.frame.specs.List.{list_verdict, transactions}
use Rattle.frame.specs.Steps.{translation}
use Rattle.frame.specs.Answers.{answer_bytes}
use Rattle.wire.specs.declared.Follower.{Follower}
use Rattle.wire.specs.declared.Follower.TheVariants.{Hunting}
use Rattle.phy.specs.declared.Phy.{Phy}
use Rattle.board.specs.declared.Board.{Board}
use Rattle.board.specs.Load.{phy_at, board_verdict, board_of, loaded_by, loaded}
use Rattle.board.specs.Check.{checked}
use Rattle.board.specs.Typed.{TypedBoard}
use Rattle.board.proofs.LoadSound.{load-sound}
use Rattle.board.proofs.LoadTyped.{load_typed}
use Rattle.board.specs.declared.Outcome.{Outcome}
use Rattle.board.specs.Outcome.{Told, told}
use Rattle.between.specs.Outcome.{phys_of, with_phys, handed_back}
use Rattle.wire_machine.specs.Run.{phys_after_run}
use Rattle.plain_machine.specs.Plain.{planning, answers_of_plain, phys_after_plain, board_after_plain, Planned}
use Rattle.between.proofs.Laws.{outcome-unique}
use Rattle.between.proofs.Places.{phys-of-with}
use Rattle.machines.proofs.SoundBoards.{SoundBoard, handed-back-sound, run_sound}
use Rattle.agreement.specs.Demand3.{Hunts, Demand3, registers_of, links_of, followers_of, ends_hunting}
use Rattle.agreement.specs.Exchange.{board_after_exchange, Sent, answers_of_exchange, Exchanged, SameAsPlain}
use Rattle.agreement.proofs.Demand3.{demand-3}

-- two results that meet the promise of `send` are equal, as are the logs
pub send-unique : (board : Board) (list events out : List ℕ) {r s : Outcome Refusal} {out₁ out₂ : List ℕ} → Sent board list events out (told r) out₁ → Sent board list events out (told s) out₂ → (r ≡ s) × (out₁ ≡ out₂)
send-unique board list events out p q = outcome-unique p q

-- two results that meet the promise of `exchange` are equal, as are the answers
pub exchange-unique : (board : Board) (list events out : List ℕ) {r s : Outcome Refusal} {out₁ out₂ : List ℕ} → Exchanged board list events out (told r) out₁ → Exchanged board list events out (told s) out₂ → (r ≡ s) × (out₁ ≡ out₂)
exchange-unique board list events out p q = outcome-unique p q

-- a field that two rows of PHYs have alike, they have alike in their places
same-places : {A : Type 0} (field : Phy → A) (board : Board) (phys others : List Phy) → map field phys ≡ map field others → map field (with_phys board phys).phys ≡ map field (with_phys board others).phys
same-places field board phys others same =
    let unused = drop board.count board.phys in
    map-append field phys unused ∙ ap (λ xs. xs ++ map field unused) same ∙ sym (map-append field others unused)

-- a follower that hunts
record HuntsIn (follower : Follower) : Type 0 where
  ones : ℕ
  hunting : follower ≡ Hunting ones

all-hunt : (phys : List Phy) → All HuntsIn (followers_of phys) → All Hunts phys
all-hunt [] h = tt
all-hunt (phy ∷ phys) h = (record { ones = h.0.ones; hunting = h.0.hunting }, all-hunt phys h.1)

ends-hunt : (ts : List Transaction) (board : Board) → All Hunts (phys_of board) → All HuntsIn (ends_hunting ts board)
ends-hunt [] board hunt = all_map Hunts HuntsIn (λ phy. phy.follower) (phys_of board) (λ phy h. record { ones = h.ones; hunting = h.hunting }) hunt
ends-hunt (t ∷ ts) board hunt = all-map-of HuntsIn (λ phy. Hunting 1) (phys_of board) (λ phy. record { ones = 1; hunting = refl })

ends-length : (ts : List Transaction) (board : Board) → length (ends_hunting ts board) ≡ length (phys_of board)
ends-length [] board = length-map (phys_of board) (λ phy. phy.follower)
ends-length (t ∷ ts) board = length-map (phys_of board) (λ phy. Hunting 1)

-- a board of n PHYs that is ready for exchanges: sound, every field within its type, and every PHY hunting
pub record ReadyBoard (n : ℕ) (board : Board) : Type 0 where
  pub sound : SoundBoard n board
  pub hunt : All Hunts (phys_of board)

-- Every PHY hunts; what Rust's types say holds; the board need not be sound, nor the list accepted
module _ (board : Board) (list events out : List ℕ) (typed : TypedBoard board) (bytes : (i : ℕ) → byte_at list i < 256) (hunt : All Hunts (phys_of board)) where
  -- what is not refused is what demand 3 asks for
  demanded : {n : ℕ} → planning board list events out ≡ Done n → Demand3 board list events
  demanded e =
      let board-passes = done-by (checked board) _ e in
      let list-passes = done-by (list_verdict list) _ board-passes.rest in
      demand-3 board list events (record {
        typed = typed;
        bytes = bytes;
        phys = board-passes.count;
        sound = board-passes.passes;
        hunt = hunt;
        count = list-passes.count;
        accepted = list-passes.passes;
      })

  -- what the two promise, whatever the answer
  same_after : (v : Verdict) → planning board list events out ≡ v →
      SameAsPlain (record { verdict = v; board = handed_back v (board_after_exchange board list events) board }) (record { verdict = v; board = handed_back v (board_after_plain board list events) board })
      (output_after v (join (map answer_bytes (answers_of_exchange board list events))) out) (output_after v (join (map answer_bytes (answers_of_plain board list events))) out)
  same_after (Done n) e =
      let holds = demanded e in
      let on-wire = phys_after_run board (translation list) events in
      let without = phys_after_plain board list events in
      record {
        verdict = refl;
        output = ap (λ answers. written (join (map answer_bytes answers)) out) holds.answers;
        count = refl;
        registers = same-places (λ phy. phy.registers) board on-wire without holds.registers;
        links = same-places (λ phy. phy.link) board on-wire without holds.links;
      }
  same_after (Refused c k) e = record { verdict = refl; output = refl; count = refl; registers = refl; links = refl }

  -- where every PHY hunts, `exchange` answers as `plain` does
  pub exchange-agrees : {r s : Told} {out₁ out₂ : List ℕ} → Exchanged board list events out r out₁ → Planned board list events out s out₂ → SameAsPlain r s out₁ out₂
  exchange-agrees p q =
      let same = same_after (planning board list events out) refl in
      record {
        verdict = p.writes.verdict ∙ sym q.writes.verdict;
        output = p.writes.output ∙ same.output ∙ sym q.writes.output;
        count = ap (λ b. b.count) p.board ∙ same.count ∙ sym (ap (λ b. b.count) q.board);
        registers = ap (λ b. registers_of b.phys) p.board ∙ same.registers ∙ sym (ap (λ b. registers_of b.phys) q.board);
        links = ap (λ b. links_of b.phys) p.board ∙ same.links ∙ sym (ap (λ b. links_of b.phys) q.board);
      }

  -- and every PHY hunts again
  pub exchange-hunts : {r : Told} {out' : List ℕ} → Exchanged board list events out r out' → All Hunts (phys_of r.board)
  exchange-hunts p = subst (λ b. All Hunts (phys_of b)) (sym p.board) (go (planning board list events out) refl)
    where
      go : (v : Verdict) → planning board list events out ≡ v → All Hunts (phys_of (handed_back v (board_after_exchange board list events) board))
      go (Refused c k) e = hunt
      go (Done n) e =
          let after = phys_after_run board (translation list) events in
          let ends = (demanded e).hunting in
          let same : length after ≡ length (phys_of board) = sym (length-map after (λ phy. phy.follower)) ∙ ap length ends ∙ ends-length (transactions list) board in
          subst (All Hunts) (sym (phys-of-with board after same)) (all-hunt after (subst (All HuntsIn) (sym ends) (ends-hunt (transactions list) board hunt)))

-- "Every call keeps it": a list sent is a run of translated steps or a refusal, and so is an exchange
module _ {n : ℕ} {board : Board} (list events : List ℕ) {out : List ℕ} {r : Told} {out' : List ℕ} where
  pub send-sound : SoundBoard n board → Sent board list events out r out' → SoundBoard n r.board
  send-sound is sent = handed-back-sound is (run_sound is events (translation list)) sent

  pub exchange-sound : SoundBoard n board → Exchanged board list events out r out' → SoundBoard n r.board
  exchange-sound is exchanged = handed-back-sound is (run_sound is events (translation list)) exchanged

  -- so after an exchange the board is ready for another, which again answers as `plain` does
  pub exchange-ready : ((i : ℕ) → byte_at list i < 256) → ReadyBoard n board → Exchanged board list events out r out' → ReadyBoard n r.board
  exchange-ready bytes ready exchanged =
      record {
        sound = exchange-sound ready.sound exchanged;
        hunt = exchange-hunts board list events out ready.sound.typed bytes ready.hunt exchanged;
      }

-- "A load gives hunting": so on a board that was just loaded the two answer alike
pub loaded-hunts : (file : List ℕ) → All Hunts (phys_of (loaded file).board)
unfolding loaded board_of phy_at
loaded-hunts file = go (board_verdict file)
  where
    go : (v : Verdict) → All Hunts (phys_of (loaded_by v file).board)
    go (Done n) =
        subst (All Hunts) (sym (take_at (tabulate n (phy_at file)) _ n (length-tabulate n (phy_at file))))
        (all-tabulate Hunts n (phy_at file) (λ k within. record { ones = 0; hunting = refl }))
    go (Refused c k) = tt

pub loaded-ready : (file : List ℕ) → ((i : ℕ) → byte_at file i < 256) → ReadyBoard (loaded file).board.count (loaded file).board
loaded-ready file bytes = record { sound = record { typed = load_typed file bytes; passes = load-sound file }; hunt = loaded-hunts file }

module _ (file list events out : List ℕ) (file-bytes : (i : ℕ) → byte_at file i < 256) (bytes : (i : ℕ) → byte_at list i < 256) where
  pub loaded-agrees : {r s : Told} {out₁ out₂ : List ℕ} → Exchanged (loaded file).board list events out r out₁ → Planned (loaded file).board list events out s out₂ → SameAsPlain r s out₁ out₂
  loaded-agrees p q = exchange-agrees (loaded file).board list events out (load_typed file file-bytes) bytes (loaded-hunts file) p q
