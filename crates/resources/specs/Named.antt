-- Resources as the code has them.
use Rattle.std.specs.Prelude.{ℕ, ◌+◌, ◌≤◌, ◌<◌, ◌≡◌, Option, None, Some}
use Rattle.model.specs.Scheme.{search, traversal, primitive, item, resource_number}
use Rattle.resources.specs.declared.Resource.{Resource as Named}
use Rattle.resources.specs.declared.Resource.TheVariants.{Search, Traversal, Primitive, Item}

-- resource number r is that, or nothing, where there are A primitives and I items
abbrev pub ResourceOf : ℕ → ℕ → ℕ → Option Named → Type 0
ResourceOf A I r (Some Search) = r ≡ resource_number A search
ResourceOf A I r (Some Traversal) = r ≡ resource_number A traversal
ResourceOf A I r (Some (Primitive a)) = (a < A) × (r ≡ resource_number A (primitive a))
ResourceOf A I r (Some (Item o)) = (o < I) × (r ≡ resource_number A (item o))
ResourceOf A I r None = 2 + A + I ≤ r
