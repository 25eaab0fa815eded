-- The ends of each bridge one behind the other. Assumes nothing.
use Rattle.std.specs.Prelude.{ℕ, suc, ◌*◌, ◌<◌, ◌≤◌, ◌≡◌, List, get_or}
use Rattle.bench.specs.declared.tables.Chains.{Chains}

-- n is the first of bridge y's ends from end e on, 2 × links where there is none
pub record IsNext (links : ℕ) (places : List ℕ) (y e n : ℕ) : Type 0 where
  pub from : e ≤ n
  pub most : n ≤ 2 * links
  pub its : n < 2 * links → get_or places n 0 ≡ y
  pub none : (i : ℕ) → e ≤ i → i < n → get_or places i 0 ≡ y → ⊥

-- there is the first end of each bridge, and at each end the one that comes after it at its bridge
pub record Chained (links : ℕ) (places : List ℕ) (chains : Chains) : Type 0 where
  pub first : (y : ℕ) → y < 16 → IsNext links places y 0 (get_or chains.first y 0)
  pub next : (e : ℕ) → e < 2 * links → IsNext links places (get_or places e 0) (suc e) (get_or chains.next e 0)
