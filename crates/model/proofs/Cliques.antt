-- Laws of cliques.
use Prim.Native.Nat.{ℕ, suc, ◌<◌}
use mathlib.Core.Path.{◌≡◌, refl, sym, ap, ◌∙◌}
use mathlib.Core.List.{List, [], ◌∷◌}
use mathlib.Core.Logic.{◌⊎◌, inl, inr, ⊎_elim}
use lib.ListN.{length}
use Rattle.model.specs.Graph.{Graph, Friends, FriendOfAll, Mutual, Among}

module _ (g : Graph) where
  -- x is another than y, and its friend
  abbrev pub Other : ℕ → ℕ → Type 0
  Other x y = (x ≡ y → ⊥) × Friends g x y

  other_at : (x y : ℕ) (l : List ℕ) → FriendOfAll g x l → Among y l → Other x y
  other_at x y [] f i = absurd i
  other_at x y (z ∷ l) (d, h, f) (inl e) = rw e (d, h)
  other_at x y (z ∷ l) (d, h, f) (inr i) = other_at x y l f i

  -- two of a clique are friends, the one that stands first of the other
  pub mutual_friends : (l : List ℕ) (u v : ℕ) → Mutual g l → Among u l → Among v l → (u ≡ v → ⊥) → Friends g u v ⊎ Friends g v u
  mutual_friends [] u v m i j n = absurd i
  mutual_friends (x ∷ l) u v (b, f, m) (inl d) (inl e) n = absurd (n (d ∙ sym e))
  mutual_friends (x ∷ l) u v (b, f, m) (inl d) (inr j) n = inl (rw d (other_at x v l f j).1)
  mutual_friends (x ∷ l) u v (b, f, m) (inr i) (inl e) n = inr (rw e (other_at x u l f i).1)
  mutual_friends (x ∷ l) u v (b, f, m) (inr i) (inr j) n = mutual_friends l u v m i j n

  pub friend_of_all_lem : (x : ℕ) (l : List ℕ) → ((y : ℕ) → Among y l → Other x y) → FriendOfAll g x l
  friend_of_all_lem x [] h = tt
  friend_of_all_lem x (y ∷ l) h = ((h y (inl refl)).0, (h y (inl refl)).1, friend_of_all_lem x l (λ z i. h z (inr i)))

  pub mutual_member : (l : List ℕ) (x : ℕ) → Mutual g l → Among x l → x < g.members
  mutual_member [] x m i = absurd i
  mutual_member (y ∷ l) x (b, f, m) (inl e) = rw e b
  mutual_member (y ∷ l) x (b, f, m) (inr i) = mutual_member l x m i

  -- a clique's list with x taken out
  pub record Without (x : ℕ) (l : List ℕ) : Type 0 where
    pub rest : List ℕ
    pub long : length l ≡ suc (length rest)
    pub clique : Mutual g rest
    pub friends : (y : ℕ) → Among y rest → Other x y
    pub within : (y : ℕ) → Among y rest → Among y l
    pub kept : (y : ℕ) → Among y l → (y ≡ x → ⊥) → Among y rest

  pub without : ((a b : ℕ) → g.friends a b ≡ g.friends b a) → (x : ℕ) (l : List ℕ) → Mutual g l → Among x l → Without x l
  without s x [] m i = absurd i
  without s x (z ∷ l) (b, f, m) (inl e) = record {
    rest = l;
    long = refl;
    clique = m;
    friends = λ y i. rw e (other_at z y l f i);
    within = λ y i. inr i;
    kept = λ y i n. ⊎_elim (λ d. absurd (n (d ∙ sym e))) (λ j. j) i;
  }
  without s x (z ∷ l) (b, f, m) (inr i) =
      let w = without s x l m i in
      let (n, h) = other_at z x l f i in
      record {
        rest = z ∷ w.rest;
        long = ap suc w.long;
        clique = (b, friend_of_all_lem z w.rest (λ y j. other_at z y l f (w.within y j)), w.clique);
        friends = λ y j. ⊎_elim (λ e. rw e (λ d. n (sym d), s x z ∙ h)) (w.friends y) j;
        within = λ y j. ⊎_elim inl (λ k. inr (w.within y k)) j;
        kept = λ y j d. ⊎_elim inl (λ k. inr (w.kept y k d)) j;
      }
