-- The places of each list, after one of them is written.
use Prim.Native.Nat.{ℕ, zero, suc, ◌+◌, ◌-◌, ◌*◌, ◌<◌, ◌≤◌}
use mathlib.Core.Path.{◌≡◌, refl, sym, ◌∙◌, ap}
use mathlib.Core.List.{List, [], ◌∷◌, ◌++◌}
use native.Mathlib.Omega.{arith}
use native.Mathlib.Decide.{dec_le}
use lib.ListN.{length, get_or, take, drop, set, take-append-drop, length-drop}
use lib.Seq.{length-take-le, take-append-le, drop-append-le, get_or-take, get_or-drop, get_or-set_same, get_or-set_other}
use Rattle.encoded.specs.Encoded.{places_of}
use Rattle.traces.specs.Ran.{lists_of}

before : (front behind : List ℕ) (m : ℕ) → 256 * m + 256 ≤ length front → places_of (front ++ behind) m ≡ places_of front m
before front behind m h =
    ap (λ (l : List ℕ). take 256 l) (drop-append-le (256 * m) front behind (omega arith))
    ∙ take-append-le 256 (drop (256 * m) front) behind (omega (arith, length-drop (256 * m) front))

front : (l : List ℕ) (at m : ℕ) → 256 * m + 256 ≤ at → at ≤ length l → places_of (take at l) m ≡ places_of l m
front l at m h b =
    let e : length (take at l) ≡ at = length-take-le at l b in
    sym (before (take at l) (drop at l) m (omega arith)) ∙ ap (λ (k : List ℕ). places_of k m) (take-append-drop at l)

row_kept : (lists left : List ℕ) (at m : ℕ) → 256 * m + 256 ≤ at → at ≤ length lists → length left ≡ length lists → take at left ≡ take at lists
    → places_of left m ≡ places_of lists m
row_kept lists left at m h b s e =
    sym (front left at m h (omega arith)) ∙ ap (λ (l : List ℕ). places_of l m) e ∙ front lists at m h b

pub lists_kept : (counts counts' lists lists' : List ℕ) (n : ℕ) → ((m : ℕ) → m < n → get_or counts' m 0 ≡ get_or counts m 0)
    → ((m : ℕ) → m < n → places_of lists' m ≡ places_of lists m)
    → lists_of counts' lists' n ≡ lists_of counts lists n
unfolding lists_of
lists_kept counts counts' lists lists' zero f g = refl
lists_kept counts counts' lists lists' (suc n) f g =
    rw (lists_kept counts counts' lists lists' n (λ m b. f m (omega arith)) (λ m b. g m (omega arith)), f n (omega arith), g n (omega arith)) refl

pub lists_written : (counts lists left : List ℕ) (n count : ℕ) → n < length counts → 256 * n ≤ length lists → length left ≡ length lists
    → take (256 * n) left ≡ take (256 * n) lists
    → lists_of (set counts n count) left (suc n) ≡ lists_of counts lists n ++ take count (places_of left n) ∷ []
unfolding lists_of
lists_written counts lists left n count a b s e =
    rw (
      lists_kept counts (set counts n count) lists left n
          (λ m h. get_or-set_other counts n m count 0 (λ e. omega arith))
          (λ m h. row_kept lists left (256 * n) m (omega arith) b s e),
      get_or-set_same counts n count 0 a,
    ) refl

same_before : (l l' : List ℕ) (at k : ℕ) → k < at → take at l' ≡ take at l → get_or l' k 0 ≡ get_or l k 0
same_before l l' at k h e = sym (get_or-take at l' k 0 h) ∙ ap (λ (x : List ℕ). get_or x k 0) e ∙ get_or-take at l k 0 h

same_behind : (l l' : List ℕ) (at k : ℕ) → at ≤ k → drop at l' ≡ drop at l → get_or l' k 0 ≡ get_or l k 0
same_behind l l' at k h e =
    let i : k ≡ at + (k - at) = omega arith in
    rw i (sym (get_or-drop at l' (k - at) 0) ∙ ap (λ (x : List ℕ). get_or x (k - at) 0) e ∙ get_or-drop at l (k - at) 0)

-- a place outside the list just written is as it was
pub place_kept : (lists left : List ℕ) (n count k : ℕ) → (256 * n ≤ k → 256 * n + count ≤ k)
    → take (256 * n) left ≡ take (256 * n) lists
    → drop (256 * n + count) left ≡ drop (256 * n + count) lists
    → get_or left k 0 ≡ get_or lists k 0
place_kept lists left n count k h e f = go (dec_le (256 * n) k)
  where
    go : Dec (256 * n ≤ k) → get_or left k 0 ≡ get_or lists k 0
    go (yes p) = same_behind lists left (256 * n + count) k (h p) f
    go (no q) = same_before lists left (256 * n) k (omega arith) e
