-- The call degree, answer by answer.
use Rattle.std.proofs.Common.{ℕ, ◌≡◌, List, [], ◌∷◌, get_or, Option, None, Some, Ok, Err, refl, inl, inr, arith}
use Rattle.model.specs.Answers.{Requirement}
use Rattle.model.specs.Finding.{Finds}
use Rattle.model.specs.Network.{held}
use Rattle.model.specs.SchemeBytes.{scheme_of}
use Rattle.model.proofs.Degrees.{degree_none}
use Rattle.model.proofs.Judging.{world_inside}
use Rattle.refusals.specs.declared.Refusal.TheVariants.{NotFound}
use Rattle.network.specs.Ready.{world_of, graph_of}
use Rattle.network.specs.Worlds.{world_in, graph_in}
use Rattle.network.specs.declared.world.World.{World}
use Rattle.distance_mark.specs.Mark.{distance_at, IsDistance}
use Rattle.distance.specs.Distances.{Distances}
use Rattle.opening.specs.Opened.{WorldOf}
use Rattle.opening.proofs.Opening.{opened_ready, later_answers}
use Rattle.degree.specs.Told.{Tells, DegreeCalled}

module _ {b net : List ℕ} {v u : ℕ} {w : World} (h : WorldOf b net v u w) where
  -- what find asks beyond 6
  found_needs : List Requirement
  found_needs = (9, Finds (world_of b net) v u) ∷ []

  pub degree_9 : (Finds (world_in w) v u → ⊥) → DegreeCalled b net v u (Err NotFound)
  unfolding found_needs
  degree_9 n = record { answered = later_answers b net v u found_needs h (inl (rw (h.scheme, h.network) at n, refl)); told = tt }

  -- of 256 members, whom no walk of 255 friendships joins, none does
  pub degree_told : {marks : List ℕ} {told : Option ℕ} → Finds (world_in w) v u → Distances (graph_in w) v 255 marks → told ≡ distance_at (get_or marks u 0)
      → DegreeCalled b net v u (Ok told)
  unfolding found_needs
  degree_told {marks} {told} found d e = record {
    answered = later_answers b net v u found_needs h (inr (rw (h.scheme, h.network) at found, refl));
    told = tells told (rw e (rw (h.scheme, h.network) at (d.each u (omega (arith, h.other, w.ready.counts.members)))));
  }
    where
      tells : (told : Option ℕ) → IsDistance (graph_of b net) 255 u v told → Tells (graph_of b net) u v (Ok told)
      tells (Some d) i = i.1
      tells None far =
          let r = opened_ready h in
          degree_none (graph_of b net) (world_inside (scheme_of b) (held (scheme_of b) net)) 255 u v
          (omega (arith, h.other, r.counts.members))
          (omega (arith, r.counts.members, w.scheme.counts.few_members.1))
          far
