-- Laws of the work area's two parts, when one of them was lent and is back. Assumes nothing.
use mathlib.Core.Path.{◌≡◌, sym, ap, ◌∙◌, subst}
use mathlib.Core.List.{List, ◌++◌, append-nil}
use Prim.Native.Nat.{ℕ, ◌-◌, ◌^◌, ◌≤◌, ◌<◌}
use native.Mathlib.Omega.{arith}
use borrow.Rule.Slice.PartMut.{put_mid}
use lib.ListN.{length, take, drop, length-drop, drop_of_length-le}
use lib.Pow.{pow_mono}
use lib.Seq.{take_all, take_at, drop_at, length-take-le}
use Rattle.row_map.specs.Map.{Inserted}
use Rattle.index_maps.specs.Area.{bank_area, InsertedPair}

-- the part from a on is all that lies there
pub back_whole : (a e : ℕ) (xs : List ℕ) → e ≡ length xs → take (e - a) (drop a xs) ≡ drop a xs
back_whole a e xs h = take_all (e - a) (drop a xs) (omega (arith, length-drop a xs))

pub back_lent : (a e : ℕ) (xs ys : List ℕ) → a ≤ length xs → e ≡ length xs → drop a (put_mid a (e - a) xs ys) ≡ ys
back_lent a e xs ys h k =
    drop_at (take a xs) (ys ++ drop (e - a) (drop a xs)) a (length-take-le a xs h)
    ∙ ap (λ (z : List ℕ). ys ++ z) (drop_of_length-le (drop a xs) {i = e - a} (omega (arith, length-drop a xs)))
    ∙ append-nil ys

pub front_kept : (a e : ℕ) (xs ys : List ℕ) → a ≤ length xs → take a (put_mid a (e - a) xs ys) ≡ take a xs
front_kept a e xs ys h = take_at (take a xs) (ys ++ drop (e - a) (drop a xs)) a (length-take-le a xs h)

pub front_lent : (a : ℕ) (xs ys : List ℕ) → length ys ≡ a → take a (put_mid 0 (a - 0) xs ys) ≡ ys
front_lent a xs ys h = take_at ys (drop (a - 0) (drop 0 xs)) a h

-- what `insert` did to the part
pub inserted-back : (work new : List ℕ) (e bits n h : ℕ) → bank_area ≤ length work → e ≡ length work → Inserted (take (e - bank_area) (drop bank_area work)) new bits n h
    → InsertedPair work (put_mid bank_area (e - bank_area) work new) bits n h
inserted-back work new e bits n h long k step = record {
  bank = front_kept bank_area e work new long;
  map = subst (λ (z : List ℕ). Inserted (drop bank_area work) z bits n h) (sym (back_lent bank_area e work new long k))
      (subst (λ (z : List ℕ). Inserted z new bits n h) (back_whole bank_area e work k) step);
}

-- ---- the number of heads
pub few_bits : (bits room : ℕ) → 2 ^ bits ≤ room → room < 4294967296 → bits ≤ 31
few_bits bits room h l = elim (native.Mathlib.Decide.dec_lt 31 bits) [
  | yes m ↦ absurd (omega (arith, pow_mono {i = 32} {j = bits} m))
  | no m ↦ omega arith
]
