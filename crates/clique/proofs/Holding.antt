-- The mutual friends that a set holds, and cliques.
use Prim.Native.Nat.{ℕ, zero, suc, ◌+◌, ◌<◌, ◌≤◌}
use mathlib.Core.Path.{◌≡◌, refl, sym, ap, ◌∙◌}
use mathlib.Core.Bool.{Bool, true, false, ◌&&◌}
use mathlib.Core.List.{List, [], ◌∷◌}
use mathlib.Core.Logic.{inl, inr, ⊎_elim}
use native.Mathlib.Decide.{ℕ_discrete, dec_le, dec_lt}
use native.Mathlib.Omega.{arith}
use lib.ListN.{length, get_or}
use Rattle.model.specs.Graph.{Graph, Friends, Mutual, Among, Clique}
use Rattle.model.proofs.Cliques.{Other, mutual_friends, friend_of_all_lem, mutual_member, Without, without}
use Rattle.sets.specs.Rows.{row_bit, FriendRow}
use Rattle.clique.specs.Cliques.{Undirected, LargestClique}
use Rattle.sets.specs.Sets.{Meet, Has, NotEmpty}
use Rattle.clique.specs.Mutual.{Holds, RowsOf, Inside, TellsEach, CliqueSize, FriendsOf}

pub never : {b : Bool} → b ≡ true → b ≡ false → ⊥
never t f = let z : ◌≡◌ {A = ℕ} 0 1 = cc in omega arith

both : (a b : Bool) → (a && b) ≡ true → (a ≡ true) × (b ≡ true)
both true b e = (refl, e)
both false b e = absurd (never e refl)

module _ {a b r : List ℕ} (m : Meet a b r) where
  in_both : (x : ℕ) → Has r x → Has a x × Has b x
  in_both x h = both _ _ (sym (m.bits x) ∙ h)

  both_in : (x : ℕ) → Has a x → Has b x → Has r x
  both_in x h k = m.bits x ∙ rw (h, k)

abbrev AllIn : List ℕ → ℕ → List ℕ → Type 0
AllIn set from l = (y : ℕ) → Among y l → Has set y × (from ≤ y)

module _ {g : Graph} {set : List ℕ} {from : ℕ} where
  -- one member less
  holds_pred : {j : ℕ} → Holds g set from (suc j) → Holds g set from j
  holds_pred {j} h = go h.list h.long h.friends h.inside
    where
      go : (l : List ℕ) → length l ≡ suc j → Mutual g l → AllIn set from l → Holds g set from j
      go [] e m i = absurd (omega arith)
      go (x ∷ l) e (b, f, m) i = record { list = l; long = omega arith; friends = m; inside = λ y k. i y (inr k) }

  holds_less : (j k : ℕ) → k ≤ j → Holds g set from j → Holds g set from k
  holds_less zero k b h = let e : k ≡ 0 = omega arith in rw e h
  holds_less (suc j) k b h = go (dec_le k j) (λ d. holds_less j k d (holds_pred h))
    where
      go : Dec (k ≤ j) → (k ≤ j → Holds g set from k) → Holds g set from k
      go (yes d) ih = ih d
      go (no d) ih = let e : k ≡ suc j = omega arith in rw e h

  -- nobody is a member from there on
  holds_beyond : {j : ℕ} → g.members ≤ from → Holds g set from (suc j) → ⊥
  holds_beyond {j} b h = go h.list h.long h.friends h.inside
    where
      go : (l : List ℕ) → length l ≡ suc j → Mutual g l → AllIn set from l → ⊥
      go [] e m i = omega arith
      go (x ∷ l) e (c, f, m) i = omega (arith, (i x (inl refl)).1)

  -- from the next place on, where the one at this place is not among them
  holds_next : {j : ℕ} (h : Holds g set from j) → (Among from h.list → ⊥) → Holds g set (from + 1) j
  holds_next h n = record {
    list = h.list;
    long = h.long;
    friends = h.friends;
    inside = λ y i. ((h.inside y i).0, later y i (ℕ_discrete y from));
  }
    where
      later : (y : ℕ) → Among y h.list → Dec (y ≡ from) → from + 1 ≤ y
      later y i (yes d) = absurd (n (rw d at i))
      later y i (no d) = omega (arith, (h.inside y i).1)

  holds_past : {j n : ℕ} → Holds g set from j → ((k : ℕ) → from ≤ k → k < n → row_bit set k ≡ false) → Holds g set n j
  holds_past {n = n} h e = record {
    list = h.list;
    long = h.long;
    friends = h.friends;
    inside = λ y i. let (k, l) = h.inside y i in (k, later y k l (dec_lt y n));
  }
    where
      later : (y : ℕ) → Has set y → from ≤ y → Dec (y < n) → n ≤ y
      later y k l (yes d) = absurd (never k (e y l d))
      later y k l (no d) = omega arith

-- m's row has members only: others, and friends of m
row_inside : {g : Graph} {m : ℕ} {row : List ℕ} → FriendRow g m row → Inside g row
row_inside {g} r y h = go (dec_lt y g.members)
  where
    go : Dec (y < g.members) → y < g.members
    go (yes b) = b
    go (no b) = absurd (never h (r.none_above y (omega arith)))

row_others : {g : Graph} {m : ℕ} {row : List ℕ} → g.members ≤ 256 → Undirected g → FriendRow g m row → (y : ℕ) → Has row y → Other g m y
row_others {g} {m} few two r y h =
    let f : Friends g m y = sym (r.bits y (omega (arith, row_inside r y h))) ∙ h in
    (λ e. never f (rw (← e) (two.none_own m)), f)

-- m's row, and the set's members in it
module _ {g : Graph} {set row common : List ℕ} {m : ℕ} (few : g.members ≤ 256) (two : Undirected g) (r : FriendRow g m row) (c : Meet row set common) where
  -- with m, one more
  holds_with : {j : ℕ} → m < g.members → Has set m → Holds g common 0 j → Holds g set 0 (suc j)
  holds_with b k h = record {
    list = m ∷ h.list;
    long = ap suc h.long;
    friends = (b, friend_of_all_lem g m h.list (λ y i. row_others few two r y (in_both c y (h.inside y i).0).0), h.friends);
    inside = λ y i. ⊎_elim (λ e. (rw e k, omega arith)) (λ j. ((in_both c y (h.inside y j).0).1, omega arith)) i;
  }

  -- where m's row holds none, m is not needed
  holds_tried : {j : ℕ} → (Holds g common (m + 1) j → ⊥) → Holds g set m (suc j) → Holds g set (m + 1) (suc j)
  holds_tried {j} n h = holds_next h (λ i. n (rest (without g two.both_ways m h.list h.friends i)))
    where
      rest : Without g m h.list → Holds g common (m + 1) j
      rest w = record {
        list = w.rest;
        long = omega (arith, w.long, h.long);
        friends = w.clique;
        inside = λ y i.
            let (d, f) = w.friends y i in
            let (k, l) = h.inside y (w.within y i) in
            (both_in c y (r.bits y (omega (arith, mutual_member g w.rest y w.clique i)) ∙ f) k, omega arith);
      }

-- ---- a loop over the members of a set

-- what is to be found is found from m on
pub record Left (rows : List (List ℕ)) (set : List ℕ) (from j m : ℕ) : Type 0 where
  pub left : (g : Graph) → RowsOf g rows → Inside g set → Holds g set from j → Holds g set m j

pub left_all : {rows : List (List ℕ)} {set : List ℕ} {from j : ℕ} → Left rows set from j from
left_all = record { left = λ g r i h. h }

module _ {rows : List (List ℕ)} {set : List ℕ} {from j m : ℕ} where
  -- the set has none from m to before n
  pub left_past : {n : ℕ} → ((k : ℕ) → m ≤ k → k < n → row_bit set k ≡ false) → Left rows set from j m → Left rows set from j n
  left_past {n} e l = record { left = λ g r i h. holds_past (l.left g r i h) e }

  pub left_none : 256 ≤ m → Left rows set from (suc j) m → TellsEach rows set from (suc j) false
  left_none b l = record {
    tells = λ g r i. record {
      sound = λ e. absurd (never e refl);
      complete = λ h. absurd (holds_beyond (omega (arith, r.few)) (l.left g r i h));
    };
  }

common_inside : {row set common : List ℕ} → Meet row set common → (g : Graph) → Inside g set → Inside g common
common_inside c g i y k = i y (in_both c y k).1

-- the set has m, and this is what its members in m's row tell
module _ (rows : List (List ℕ)) (set : List ℕ) (m : ℕ) {common : List ℕ} {from j : ℕ} (h : Has set m) (c : Meet (get_or rows m []) set common) where
  pub left_tried : TellsEach rows common (m + 1) j false → Left rows set from (suc j) m → Left rows set from (suc j) (m + 1)
  left_tried a l = record {
    left = λ g r i k. holds_tried r.few r.undirected (r.each m (i m h)) c (λ z. never ((a.tells g r (common_inside c g i)).complete z) refl) (l.left g r i k);
  }

  pub found : {at : ℕ} → TellsEach rows common at j true → TellsEach rows set from (suc j) true
  found a = record {
    tells = λ g r i. record {
      sound = λ e. holds_with r.few r.undirected (r.each m (i m h)) c (i m h) h ((a.tells g r (common_inside c g i)).sound refl);
      complete = λ k. refl;
    };
  }

-- one member
pub some_member : {set : List ℕ} {t : Bool} → NotEmpty set t → (rows : List (List ℕ)) (from : ℕ) → TellsEach rows set from 1 t
some_member {set} {t} e rows from = record {
  tells = λ g r i. record {
    sound = λ d. let (m, h) = e.tells.0 d in record {
      list = m ∷ [];
      long = refl;
      friends = (i m h, tt, tt);
      inside = λ y k. ⊎_elim (λ q. (rw q h, omega arith)) (λ z. absurd z) k;
    };
    complete = λ h. e.tells.1 (first h.list h.long h.inside);
  };
}
  where
    first : (l : List ℕ) → length l ≡ 1 → AllIn set from l → (m : ℕ) × Has set m
    first [] e i = absurd (omega arith)
    first (x ∷ l) e i = (x, (i x (inl refl)).0)

-- two members: one that is a friend of another
pub pair : {rows : List (List ℕ)} {set all both : List ℕ} {from m : ℕ} {t : Bool} → Left rows set from 2 m → FriendsOf rows set m 256 all → Meet all set both → NotEmpty both t → TellsEach rows set from 2 t
pair {rows} {set} {all} {both} {from} {m} {t} l f c e = record {
  tells = λ g r i. record {
    sound = λ d.
        let (y, h) = e.tells.0 d in
        let (a, b) = in_both c y h in
        let (x, k, n) = f.only y a in
        let o = row_others r.few r.undirected (r.each x (i x k)) y n in
        record {
          list = x ∷ y ∷ [];
          long = refl;
          friends = (i x k, (o.0, o.1, tt), (i y b, tt, tt));
          inside = λ z q. ⊎_elim (λ p. (rw p k, omega arith)) (λ p. ⊎_elim (λ s. (rw s b, omega arith)) (λ s. absurd s) p) q;
        };
    complete = λ h. let k = l.left g r i h in e.tells.1 (two g r i k.list k.long k.friends k.inside);
  };
}
  where
    two : (g : Graph) → RowsOf g rows → Inside g set → (l : List ℕ) → length l ≡ 2 → Mutual g l → AllIn set m l → (y : ℕ) × Has both y
    two g r i [] e k a = absurd (omega arith)
    two g r i (x ∷ []) e k a = absurd (omega arith)
    two g r i (x ∷ y ∷ l) e (b, (o, s, v), (d, w, z)) a =
        let (h, n) = a x (inl refl) in
        (y, both_in c y (f.each x y n (omega (arith, r.few)) h ((r.each x b).bits y (omega (arith, r.few)) ∙ s)) (a y (inr (inl refl))).0)

-- ---- cliques

largest_none : {g : Graph} {u v : ℕ} → Undirected g → (u ≡ v → ⊥) → g.friends u v ≡ false → LargestClique g u v 1
largest_none {g} {u} {v} two d n k s t =
    (λ e. absurd (omega arith), λ (l, e, m, i, j). absurd (⊎_elim (λ f. never f n) (λ f. never (two.both_ways u v ∙ f) n) (mutual_friends g l u v m i j d)))

module _ {g : Graph} {u v : ℕ} {rowU row_v common : List ℕ} (few : g.members ≤ 256) (two : Undirected g) (a : u < g.members) (b : v < g.members)
    (d : u ≡ v → ⊥) (p : FriendRow g u rowU) (q : FriendRow g v row_v) (c : Meet rowU row_v common) where
  clique_common : {j : ℕ} → Clique g (suc (suc j)) u v → Holds g common 0 j
  clique_common {j} (l, e, m, i, k) = go (without g two.both_ways u l m i)
    where
      rest : (w : Without g u l) → Without g v w.rest → Holds g common 0 j
      rest w x = record {
        list = x.rest;
        long = omega (arith, w.long, x.long);
        friends = x.clique;
        inside = λ y s.
            let y< : y < 256 = omega (arith, mutual_member g x.rest y x.clique s) in
            (both_in c y (p.bits y y< ∙ (w.friends y (x.within y s)).1) (q.bits y y< ∙ (x.friends y s).1), omega arith);
      }

      go : Without g u l → Holds g common 0 j
      go w = rest w (without g two.both_ways v w.rest w.clique (w.kept v k (λ e. d (sym e))))

  common_clique : {j : ℕ} → Friends g u v → Holds g common 0 j → Clique g (suc (suc j)) u v
  common_clique f h = (
    u ∷ v ∷ h.list,
    ap (λ (n : ℕ). suc (suc n)) h.long,
    (
      a,
      (d, f, friend_of_all_lem g u h.list (λ y i. row_others few two p y (in_both c y (h.inside y i).0).0)),
      (b, friend_of_all_lem g v h.list (λ y i. row_others few two q y (in_both c y (h.inside y i).0).1), h.friends),
    ),
    inl refl,
    inr (inl refl),
  )

  -- the common friends hold j members, and, of up to three, no more
  largest_holds : (j : ℕ) → Friends g u v → Holds g common 0 j → (j < 3 → Holds g common 0 (suc j) → ⊥) → LargestClique g u v (2 + j)
  largest_holds j f h n zero s t = absurd (omega arith)
  largest_holds j f h n (suc zero) s t = absurd (omega arith)
  largest_holds j f h n (suc (suc k)) s t = (λ e. common_clique f (holds_less j k (omega arith) h), λ z. go (dec_le k j) (clique_common z))
    where
      go : Dec (k ≤ j) → Holds g common 0 k → suc (suc k) ≤ 2 + j
      go (yes e) x = omega arith
      go (no e) x = absurd (n (omega arith) (holds_less k (suc j) (omega arith) x))

pub no_friends : (rows : List (List ℕ)) (u v : ℕ) → row_bit (get_or rows u []) v ≡ false → CliqueSize rows u v 1
no_friends rows u v n = record {
  some = omega arith;
  most = omega arith;
  largest = λ g r a b d. largest_none r.undirected d (sym ((r.each u a).bits v (omega (arith, r.few))) ∙ n);
  alone = λ g r a e. refl;
}

pub none_asked : {rows : List (List ℕ)} {set : List ℕ} → TellsEach rows set 0 0 true
none_asked = record {
  tells = λ g r i. record { sound = λ e. record { list = []; long = refl; friends = tt; inside = λ y k. absurd k }; complete = λ h. refl };
}

-- friends whose common friends hold j mutual members and, of up to three, no more
pub friends_with : {rows : List (List ℕ)} {common : List ℕ} {u v : ℕ} (j : ℕ) → Has (get_or rows u []) v → Meet (get_or rows u []) (get_or rows v []) common
    → j ≤ 3
    → TellsEach rows common 0 j true
    → (j < 3 → TellsEach rows common 0 (suc j) false)
    → CliqueSize rows u v (2 + j)
friends_with {rows} {common = common} {u} {v} j f c few x y = record {
  some = omega arith;
  most = omega arith;
  largest = λ g r a b d.
      let p = r.each u a in
      let i : Inside g common = λ m h. row_inside p m (in_both c m h).0 in
      largest_holds r.few r.undirected a b d p (r.each v b) c j (sym (p.bits v (omega (arith, r.few))) ∙ f) ((x.tells g r i).sound refl)
      (λ l h. never (((y l).tells g r i).complete h) refl);
  alone = λ g r a e. absurd (never (sym ((r.each u a).bits v (omega (arith, r.few))) ∙ f) (rw (← e) (r.undirected.none_own u)));
}

-- a common friend x, a common friend y of the three, and one more of the four: a clique of five
pub five : {g : Graph} {u v x y : ℕ} {rowU row_v rowX rowY common common' common'' : List ℕ} → g.members ≤ 256 → Undirected g
    → u < g.members
    → v < g.members
    → Friends g u v
    → FriendRow g u rowU
    → FriendRow g v row_v
    → Meet rowU row_v common
    → Has common x
    → FriendRow g x rowX
    → Meet rowX common common'
    → Has common' y
    → FriendRow g y rowY
    → Meet rowY common' common''
    → NotEmpty common'' true
    → (u ≡ v → ⊥)
    → LargestClique g u v 5
five {g} {u} {v} {x} {y} {common = common} {common' = common'} {common'' = common''} few two a b f p q c hx px cx hy py cy e d =
    let inside : Inside g common = λ m h. row_inside p m (in_both c m h).0 in
    let inside' : Inside g common' = λ m h. inside m (in_both cx m h).1 in
    let (z, hz) = e.tells.0 refl in
    let one : Holds g common'' 0 1 = record {
      list = z ∷ [];
      long = refl;
      friends = (inside' z (in_both cy z hz).1, tt, tt);
      inside = λ m k. ⊎_elim (λ i. (rw i hz, omega arith)) (λ i. absurd i) k;
    } in
    let two' : Holds g common' 0 2 = holds_with few two py cy (inside' y hy) hy one in
    let three : Holds g common 0 3 = holds_with few two px cx (inside x hx) hx two' in
    largest_holds few two a b d p q c 3 f three (λ l h. omega arith)
