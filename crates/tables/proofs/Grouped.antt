-- The bytes behind the fifth record tell who is a group.
use Prim.Native.Nat.{ℕ, ◌+◌, ◌-◌, ◌≤◌, min}
use mathlib.Core.Path.{◌≡◌, refl, ◌∙◌, sym}
use mathlib.Core.List.{List}
use mathlib.Core.Logic.{◌⊎◌, inl, inr}
use native.Mathlib.Omega.{arith}
use native.Mathlib.Decide.{dec_le}
use lib.ListN.{length, take, drop}
use Rattle.std.proofs.lemmas.List.{get_or-drop, take_all, drop_all}
use Rattle.std.proofs.Common.{length-drop}
use Rattle.model.specs.Bytes.{RecordAt}
use Rattle.model.specs.SchemeBytes.{n, at6, Records}
use Rattle.model.proofs.Groups.{group_byte}
use Rattle.tables.specs.Schemes.{GroupBytes}
use Rattle.tables.specs.declared.reading.Scheme.{Scheme}

-- what stands behind a place, or nothing
pub behind : (b : List ℕ) (at k : ℕ) → k ≡ min at (length b) → take (length b - k) (drop k b) ≡ drop at b
behind b at k e = take_all (length b - k) (drop k b) (omega (arith, length-drop k b)) ∙ go (dec_le at (length b))
  where
    go : Dec (at ≤ length b) → drop k b ≡ drop at b
    go (yes h) = let f : k ≡ at = omega (arith, e, h) in rw f refl
    go (no h) = let f : k ≡ length b = omega (arith, e, h) in rw f (drop_all (length b) b (omega arith) ∙ sym (drop_all at b (omega arith)))

-- at most a byte for each member
pub few_behind : (b : List ℕ) → Records b → length (drop (at6 b + 4) b) ≤ n b
few_behind b r = go r.groups
  where
    go : (length b ≡ at6 b) ⊎ (RecordAt b (at6 b) 6 (n b) × (length b ≡ at6 b + 4 + n b)) → length (drop (at6 b + 4) b) ≤ n b
    go (inl h) = omega (arith, length-drop (at6 b + 4) b)
    go (inr (p, h)) = omega (arith, length-drop (at6 b + 4) b)

pub group_bytes : (s : Scheme) (at k : ℕ) → at ≡ at6 s.bytes.now + 4 → k ≡ min at (length s.bytes.now)
    → GroupBytes s (take (length s.bytes.now - k) (drop k s.bytes.now))
group_bytes s at k place e =
    let b = s.bytes.now in
    rw (behind b at k e, place)
    (record { body = refl; each = λ m. get_or-drop (at6 b + 4) b m 0 ∙ group_byte b s.read.records s.read.bytes m; few = few_behind b s.read.records })
