-- Networks: the two maps, the bytes that hold them, and the graph that they give (docs/reference.md, "Network").
use Rattle.std.specs.Prelude.{ℕ, ◌+◌, ◌*◌, ◌/◌, ◌-◌, ◌<◌, min, max, ◌≡◌, Bool, true, ◌&&◌, not, cond, List, eqb, ltb, length, get_or}
use Rattle.model.specs.Bytes.{bit}
use Rattle.model.specs.Graph.{Graph}
use Rattle.model.specs.Finding.{World}
use Rattle.model.specs.Scheme.{Scheme, resources, lowest}

-- each pair's state, the lesser member first, and each member's policy number for each resource
pub record Maps : Type 0 where
  pub pair : ℕ → ℕ → ℕ
  pub setting : ℕ → ℕ → ℕ

-- every pair is 0 and each setting is the lowest policy number in its resource's mask
abbrev pub fresh : Scheme → Maps
fresh c = record { pair = λ i j. 0; setting = λ m r. lowest (c.mask r) }

-- how many pairs n members have
abbrev pub pairs : ℕ → ℕ
pairs n = n * (n - 1) / 2

-- where the state of the pair i < j stands
abbrev pub pair_place : ℕ → ℕ → ℕ
pair_place i j = pairs j + i

-- where member m's setting for resource r stands
abbrev pub setting_place : Scheme → ℕ → ℕ → ℕ
setting_place c m r = pairs c.members + (m * resources c + r)

-- how many bytes a network has
abbrev pub size : Scheme → ℕ
size c = pairs c.members + c.members * resources c

-- the bytes are the two maps laid out
pub record Laid (c : Scheme) (s : Maps) (net : List ℕ) : Type 0 where
  pub sized : length net ≡ size c
  pub states : (i j : ℕ) → i < j → j < c.members → get_or net (pair_place i j) 0 ≡ s.pair i j
  pub settings : (m r : ℕ) → m < c.members → r < resources c → get_or net (setting_place c m r) 0 ≡ s.setting m r

-- the two maps that the bytes hold; where there is no byte, what a fresh network has
unfoldable pub held : Scheme → List ℕ → Maps
held c net = record {
  pair = λ i j. cond (ltb i j && ltb j c.members) (get_or net (pair_place i j) 0) 0;
  setting = λ m r. cond (ltb m c.members && ltb r (resources c)) (get_or net (setting_place c m r) 0) (lowest (c.mask r));
}

-- each pair's state is below S, each setting is in its resource's mask
pub record Fits (c : Scheme) (s : Maps) : Type 0 where
  pub states : (i j : ℕ) → i < j → j < c.members → s.pair i j < c.states
  pub settings : (m r : ℕ) → m < c.members → r < resources c → bit (c.mask r) (s.setting m r) ≡ true

-- neither length nor any byte of the network is off
pub record Valid (c : Scheme) (net : List ℕ) : Type 0 where
  pub sized : length net ≡ size c
  pub fits : Fits c (held c net)

-- the side of v in its pair with u: 1 for the greater number, 0 for the lesser
abbrev pub side : ℕ → ℕ → ℕ
side v u = cond (ltb u v) 1 0

-- the state of u and v; 0 where u = v
abbrev pub state_of : Maps → ℕ → ℕ → ℕ
state_of s u v = cond (eqb u v) 0 (s.pair (min u v) (max u v))

-- the graph in which those pairs are friends that are marked: two members, and nobody is its own friend
abbrev pub marked_graph : ℕ → (ℕ → ℕ → Bool) → (ℕ → ℕ → ℕ → Bool) → (ℕ → Bool) → Graph
marked_graph n marked in_set group = record {
  members = n;
  friends = λ u v. ltb u n && ltb v n && not (eqb u v) && marked u v;
  in_set = in_set;
  group = group;
}

-- what requests are judged on
abbrev pub world : Scheme → Maps → World
world c s = record {
  graph = marked_graph c.members (λ u v. c.friendly (state_of s u v)) (λ set u v. bit set (state_of s u v)) c.group;
  setting = λ m r. c.policy (s.setting m r);
}
