-- Laws of a walk along the chain of a row: which residual rows it can be, and what the walk answers. Assumes nothing.
use Rattle.std.proofs.Common.{◌≡◌, ℕ, ◌+◌, ◌*◌, ◌%◌, ◌^◌, ◌<◌, ◌≤◌, true, false, List, [], ◌∷◌, get_or, sym, ap, ◌∙◌, subst, mod-lt, arith, pow_pos}
use lib.Bits.{bit_xor}
use Rattle.arrays.specs.Parts.{part_at}
use Rattle.arrays.proofs.Lists.{false_true, is_false}
use Rattle.row_gates.proofs.Rows.{same-row_eq}
use Rattle.row_map.specs.Map.{Top, Chained}
use Rattle.row_map.proofs.Walks.{Walk, walk_start, walk_on}
use Rattle.search_residual_trial.specs.Steps.{wanted, same}
use Rattle.search_residual_map.specs.Map.{mixer, swapped_of, mixed_from, mixed, home_of, Read}

-- every row has a chain
mixed_lt : (sum power : ℕ) (row : List ℕ) → sum < 2 ^ 64 → mixed_from sum power row < 2 ^ 64
unfolding mixed_from
mixed_lt sum power [] h = h
mixed_lt sum power (x ∷ []) h = h
mixed_lt sum power (x ∷ (y ∷ row)) h =
    mixed_lt ((sum + bit_xor x (swapped_of y) * power % 2 ^ 64) % 2 ^ 64) (power * mixer % 2 ^ 64) row (mod-lt (sum + bit_xor x (swapped_of y) * power % 2 ^ 64) (pow_pos 64))

pub home-small : (row : List ℕ) → home_of row < 4096
unfolding home_of mixed
home-small row = omega (arith, mixed_lt 0 mixer row (omega arith))

module _ (w count : ℕ) (atoms target rows : List ℕ) (slot : ℕ) where
  abbrev homes : ℕ → ℕ
  homes t = home_of (wanted w count atoms target t)

  abbrev asked : ℕ → Type 0
  asked t = same w count atoms target rows t slot ≡ true

  there : (t : ℕ) → asked t → homes t ≡ home_of (part_at 16 rows slot)
  unfolding same
  there t e = ap home_of (sym (same-row_eq (part_at 16 rows slot) (wanted w count atoms target t) e))

  -- at an entry of the row's chain
  abbrev pub Along : ℕ → Type 0
  Along cur = Walk homes (home_of (part_at 16 rows slot)) asked (2 * count) cur

  module _ (work : List ℕ) (chained : Chained work homes 12 (2 * count)) where
    pub along_start : (v : ℕ) → v ≡ get_or work (home_of (part_at 16 rows slot)) 0 → Along v
    along_start v e =
        let h = home_of (part_at 16 rows slot) in
        walk_start homes h asked there (2 * count) v
        (subst (λ (k : ℕ). Top homes (2 * count) h k) (sym e) (chained.heads h (home-small (part_at 16 rows slot))))

    pub link-low : (t : ℕ) → t < 2 * count → get_or work (4096 + t) 0 ≤ t
    link-low t h = (chained.links t h).within

    pub along_on : (cur t : ℕ) → cur ≡ t + 1 → same w count atoms target rows t slot ≡ false → Along cur → Along (get_or work (4096 + t) 0)
    along_on cur t e other walk =
        walk_on homes (home_of (part_at 16 rows slot)) asked there (2 * count) cur t _ e (λ is. false_true (sym other ∙ is)) (chained.links t (omega (arith, walk.within))) walk

  -- none from here on
  past : (cur : ℕ) → Along cur → (t : ℕ) → cur ≤ t → t < 2 * count → same w count atoms target rows t slot ≡ false
  past cur walk t le lt = is_false _ (walk.none t le lt)

  pub read_hit : (beaten cur t : ℕ) → cur ≡ t + 1 → beaten < cur → same w count atoms target rows t slot ≡ true → Along cur → Read w count atoms target rows slot beaten cur
  read_hit beaten cur t e above is walk = record {
    least = omega arith;
    most = walk.within;
    none = past cur walk;
    hit = λ u eu le. subst (λ (k : ℕ). same w count atoms target rows k slot ≡ true) (omega arith) is;
  }

  pub read_none : (beaten cur : ℕ) → beaten ≤ 2 * count → cur ≤ beaten → Along cur → Read w count atoms target rows slot beaten beaten
  read_none beaten cur most low walk = record {
    least = omega arith;
    most = most;
    none = λ t le lt. past cur walk t (omega arith) lt;
    hit = λ t e le. absurd (omega arith);
  }
