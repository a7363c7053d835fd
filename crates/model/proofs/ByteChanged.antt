-- What a change of one byte does to the maps that the bytes hold.
use Prim.Native.Nat.{ℕ, ◌<◌}
use mathlib.Core.Path.{◌≡◌, refl, sym}
use mathlib.Core.Bool.{Bool, true, false, cond}
use mathlib.Core.List.{List}
use native.Mathlib.Omega.{arith}
use lib.ListN.{length, set}
use lib.Seq.{get_or-set_same, get_or-set_other}
use Rattle.model.specs.Scheme.{Scheme, resources, lowest}
use Rattle.model.specs.Network.{pairs, pair_place, setting_place, size, held}
use Rattle.model.specs.Requests.{put}
use Rattle.model.proofs.Deciding.{Says}
use Rattle.model.proofs.Held.{by_test, is_pair, is_setting, at_place, maps_path}
use Rattle.model.proofs.Places.{pair_before, pair_injective, setting_before, setting_injective}

under_test : {b : Bool} {P : Type 0} {x x' : ℕ} (y : ℕ) → Says b P → (P → x ≡ x') → cond b x y ≡ cond b x' y
under_test {b} {P} {x} {x'} y d f = go b d.yes_if
  where
    go : (t : Bool) → (t ≡ true → P) → cond t x y ≡ cond t x' y
    go true p = f (p refl)
    go false p = refl

module _ (c : Scheme) (net : List ℕ) (sized : length net ≡ size c) where
  -- one pair's byte
  pub pair_held : (i j x : ℕ) → i < j → j < c.members
      → held c (set net (pair_place i j) x) ≡ record { pair = put (held c net).pair i j x; setting = (held c net).setting }
  unfolding held put
  pair_held i j x a b =
      maps_path (held c (set net (pair_place i j) x)) (record { pair = put (held c net).pair i j x; setting = (held c net).setting })
      (λ k l. sym (by_test (at_place i j k l)
      (λ (p, q). sym (by_test (is_pair c k l) (λ h. rw (p, q) (get_or-set_same net (pair_place i j) x 0 inside)) (λ n. absurd (n (omega arith)))))
      (λ n. under_test 0 (is_pair c k l) (λ (d, e). sym (get_or-set_other net (pair_place i j) (pair_place k l) x 0 (λ z. n (pair_injective k l i j d a z)))))))
      (λ m r. under_test (lowest (c.mask r)) (is_setting c m r) (λ h. get_or-set_other net (pair_place i j) (setting_place c m r) x 0 (λ z. omega (arith, before))))
    where
      before : pair_place i j < pairs c.members
      before = pair_before i j c.members a b

      inside : pair_place i j < length net
      inside = omega (arith, before)

  -- one setting's byte
  pub set_held : (m r x : ℕ) → m < c.members → r < resources c
      → held c (set net (setting_place c m r) x) ≡ record { pair = (held c net).pair; setting = put (held c net).setting m r x }
  unfolding held put
  set_held m r x a b =
      maps_path (held c (set net (setting_place c m r) x)) (record { pair = (held c net).pair; setting = put (held c net).setting m r x })
      (λ i j. under_test 0 (is_pair c i j) (λ (d, e). get_or-set_other net (setting_place c m r) (pair_place i j) x 0 (λ z. omega (arith, pair_before i j c.members d e))))
      (λ k t. sym (by_test (at_place m r k t)
      (λ (p, q). sym (by_test (is_setting c k t) (λ h. rw (p, q) (get_or-set_same net (setting_place c m r) x 0 inside)) (λ n. absurd (n (omega arith)))))
      (λ n. under_test (lowest (c.mask t)) (is_setting c k t) (λ (d, e). sym (get_or-set_other net (setting_place c m r) (setting_place c k t) x 0 (λ z. n (setting_injective c k t m r e b z)))))))
    where
      inside : setting_place c m r < length net
      inside = omega (arith, setting_before c m r a b)
