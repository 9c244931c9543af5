-- What is known on the way along a chain, from its newest slot to its oldest. Assumes nothing.
use mathlib.Core.Path.{◌≡◌, sym, ◌∙◌}
use Prim.Native.Nat.{ℕ, ◌+◌, ◌≤◌, ◌<◌}
use native.Mathlib.Decide.{dec_lt}
use native.Mathlib.Omega.{arith}
use borrow.Author.Count.{below_more}
use Rattle.row_map.specs.Map.{Top}

-- slots that are looked for, all in chain h; at the entry cur of that chain: no slot from cur on is one of them
pub record Walk (home : ℕ → ℕ) (h : ℕ) (asked : ℕ → Type 0) (n cur : ℕ) : Type 0 where
  pub within : cur ≤ n
  pub homed : (s : ℕ) → cur ≡ s + 1 → home s ≡ h
  pub none : (t : ℕ) → cur ≤ t → t < n → asked t → ⊥

module _ (home : ℕ → ℕ) (h : ℕ) (asked : ℕ → Type 0) (there : (t : ℕ) → asked t → home t ≡ h) (n : ℕ) where
  -- at the chain's head
  pub walk_start : (v : ℕ) → Top home n h v → Walk home h asked n v
  walk_start v top = record {
    within = top.within;
    homed = top.homed;
    none = λ t le lt is. top.newest t le lt (there t is);
  }

  -- past a slot that isn't looked for
  pub walk_on : (cur s v : ℕ) → cur ≡ s + 1 → (asked s → ⊥) → Top home s (home s) v → Walk home h asked n cur → Walk home h asked n v
  walk_on cur s v ec other top walk = record {
    within = omega (arith, top.within, walk.within);
    homed = λ u eu. top.homed u eu ∙ walk.homed s ec;
    none = λ t le lt is. elim (dec_lt t cur) [
      | yes before ↦ below_more (λ (k : ℕ). v ≤ k → asked k → ⊥) s
          (λ k lk lv ik. top.newest k lv lk (there k ik ∙ sym (walk.homed s ec))) (λ _. other) t (omega arith) le is
      | no after ↦ walk.none t (omega arith) lt is
    ];
  }
