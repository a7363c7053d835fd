-- The greatest of some bytes.
use Rattle.std.proofs.Common.{ℕ, ◌+◌, ◌%◌, ◌<◌, ◌≤◌, max, ◌↔◌, List, arith, below_more}
use Rattle.model.specs.Bytes.{byte}

-- most is the greatest of the values of f below n, or 0 where there is none
abbrev pub Most : (ℕ → ℕ) → ℕ → ℕ → Type 0
Most f n most = (limit : ℕ) → (most ≤ limit) ↔ ((k : ℕ) → k < n → f k ≤ limit)

pub most_more : (f : ℕ → ℕ) (n most : ℕ) → Most f n most → Most f (n + 1) (max most (f n))
most_more f n most m limit = (
  λ l. below_more (λ (k : ℕ). f k ≤ limit) n ((m limit).0 (omega arith)) (omega arith),
  λ h. omega (arith, (m limit).1 (λ k l. h k (omega arith)), h n (omega arith)),
)

-- byte k raised by a number
abbrev pub raised : List ℕ → ℕ → ℕ → ℕ
raised b raise k = (byte b k + raise) % 256
