-- The loop of `print_by`, turn by turn.
use Prim.Native.Nat.{ℕ, ◌+◌, ◌*◌, ◌≤◌, ◌<◌}
use mathlib.Core.Path.{◌≡◌, ◌∙◌, ap}
use mathlib.Core.List.{List, ◌++◌}
use native.Mathlib.Omega.{arith}
use lib.ListN.{length, take, length-append}
use lib.Seq.{length-take-le}
use Rattle.model.specs.SchemeBytes.{longest_scheme}
use Rattle.model.specs.Text.{start, over, Prints, ReadOf, Text}
use Rattle.model.proofs.Texts.{Bounded, bounded, prints_then, whole_text}
use Rattle.fresh_start.specs.Stands.{state_of, Sized, Ready, Moment}
use Rattle.fresh_start.specs.declared.Stand.{Stand}
use Rattle.fresh_start.specs.declared.Stand.TheVariants.{Start, At, Over}
use Rattle.replay.specs.declared.Cut.{Cut}
use Rattle.std.specs.Prelude.{Option, Ok, Err}
use Rattle.std.specs.Io.KnownBytes.{Appends}
use Rattle.std.proofs.KnownBytes.{Appends-trans}
use Rattle.replay.specs.Fills.{IsOver, Fills, Gives, Printed, Handed}
use Rattle.replay.proofs.Ranking.{rank, prints_less}
use Rattle.replay.proofs.Filling.{Reached, reached, moved}

-- what was handed over so far, to a writer that was given what it was given before and this
pub record Sent (before now : Option (List ℕ)) (b log net : List ℕ) (here : Stand) (written : ℕ) : Type 0 where
  pub text : List ℕ
  pub count : ℕ
  pub prints : Prints b log count start text (state_of here net)
  pub bytes : written ≡ length text
  pub given : Appends before now text
  pub sized : Sized here (length net)
  pub small : written + 65536 * rank b log (state_of here net) ≤ 65536 * 16387

-- until the end there is a next step
go_on : (b log net : List ℕ) (here : Stand) (lent : ℕ) → (IsOver here → ⊥) → Sized here lent → Bounded b log (state_of here net) → Ready here lent
go_on b log net Start lent n s l = s
go_on b log net (At place position count) lent n s (l, p, q) = (omega arith, s)
go_on b log net Over lent n s l = absurd (n tt)

module _ {before now : Option (List ℕ)} {b log : List ℕ} {m n : Moment} {written : ℕ} (s : Sent before now b log m.network m.stand written) (fills : Fills b log m n) (empty : m.used ≡ 0) where
  r : Reached b log fills.count m n
  r = reached b log fills.count m n fills.steps

  -- what is used is inside the buffer
  pub within_buffer : n.used ≤ length n.buffer
  within_buffer = r.fits (omega arith)

  prints : Prints b log fills.count (state_of m.stand m.network) (take n.used n.buffer) (state_of n.stand n.network)
  prints = rw whole r.prints
    where
      whole : take n.used n.buffer ≡ r.text
      whole = r.front ∙ ap (λ (k : ℕ). take k m.buffer ++ r.text) empty

  module _ (go : IsOver m.stand → ⊥) (room : 1548 ≤ length m.buffer) where
    -- each buffer takes the program further
    pub fewer : rank b log (state_of n.stand n.network) < rank b log (state_of m.stand m.network)
    fewer =
        let ready = go_on b log m.network m.stand (length m.network) go s.sized (bounded b log s.count start (state_of m.stand m.network) s.text tt s.prints) in
        let moves = moved b log fills.count m n fills.steps fills.stops (ready, omega arith) in
        omega (arith, moves, prints_less b log fills.count (state_of m.stand m.network) (state_of n.stand n.network) (take n.used n.buffer) prints)

    pub small_more : length m.buffer ≤ 65536 → (written + length (take n.used n.buffer)) + 65536 * rank b log (state_of n.stand n.network) ≤ 65536 * 16387
    small_more small = omega (arith, s.small, fewer, within_buffer, r.long, length-take-le n.used n.buffer within_buffer)

    pub sent_more : {then : Option (List ℕ)} → length m.buffer ≤ 65536 → Appends now then (take n.used n.buffer)
        → Sent before then b log n.network n.stand (written + length (take n.used n.buffer))
    sent_more {then} small given = record {
      text = s.text ++ take n.used n.buffer;
      count = s.count + fills.count;
      prints = prints_then b log s.count fills.count start (state_of m.stand m.network) (state_of n.stand n.network) s.text (take n.used n.buffer) s.prints prints;
      bytes = omega (arith, s.bytes, length-append s.text (take n.used n.buffer));
      given = Appends-trans before now then s.text (take n.used n.buffer) s.given given;
      sized = r.sized s.sized;
      small = small_more small;
    }

  -- a write failed
  pub sent_cut : {then : Option (List ℕ)} (cut : Cut) → cut.written ≡ written → Gives now then (take n.used n.buffer) (Err cut) → Handed before then b log (Err cut)
  sent_cut {then} cut same part = (
    s.text,
    same ∙ s.bytes,
    s.count,
    state_of m.stand m.network,
    s.prints,
    take n.used n.buffer,
    fills.count,
    state_of n.stand n.network,
    prints,
    part.count,
    Appends-trans before now then s.text (take part.count (take n.used n.buffer)) s.given part.appends,
  )

ended : (b log net : List ℕ) (here : Stand) (count : ℕ) (text : List ℕ) → IsOver here → Prints b log count start text (state_of here net) → Prints b log count start text over
ended b log net Start count text o p = absurd o
ended b log net (At place position size) count text o p = absurd o
ended b log net Over count text o p = p

pub all_sent : {before now : Option (List ℕ)} {b log net : List ℕ} {here : Stand} {written : ℕ} → Sent before now b log net here written → IsOver here
    → Printed b log (Ok written) × Handed before now b log (Ok written)
all_sent {before} {now} {b} {log} {net} {here} {written} s o =
    let text : (more rest : List ℕ) → ReadOf longest_scheme b more → ReadOf 16384 log rest → Text (b ++ more) (log ++ rest) s.text =
    λ more rest m r. whole_text b log more rest s.text m r (s.count, ended b log net here s.count s.text o s.prints) in
    ((s.text, s.bytes, text), (s.text, s.given, s.bytes, text))
