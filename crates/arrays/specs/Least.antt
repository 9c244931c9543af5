-- Keeping the least along a list. Assumes nothing.
use Rattle.std.specs.Prelude.{◌≡◌, Bool, true, false, cond, ◌&&◌}
use mathlib.Core.List.{List, [], ◌∷◌, ◌++◌}
use Rattle.std.proofs.Math.Option.{Option, none, some}
use Rattle.arrays.specs.Lists.{In}

module _ {A : Type 0} (test : A → Bool) (better : A → A → Bool) where
  -- x takes the place of what is kept exactly if it passes the test and is better, or nothing is kept
  unfoldable pub kept : Option A → A → Option A
  kept none x = cond (test x) (some x) none
  kept (some y) x = cond (test x && better x y) (some x) (some y)

  -- element after element, beginning with what is kept already
  unfoldable pub keep_least : Option A → List A → Option A
  unfolding kept
  keep_least o [] = o
  keep_least o (x ∷ l) = keep_least (kept o x) l

  -- the least element that passes the test, among equals the first; none if none passes
  unfoldable pub least_that : List A → Option A
  unfolding keep_least
  least_that l = keep_least none l

  -- x is the least of the list: it stands in it and passes; what passes before it is strictly dearer, and nothing that passes is better
  pub record IsLeast (l : List A) (x : A) : Type 0 where
    pub earlier : List A
    pub later : List A
    pub stands : l ≡ earlier ++ (x ∷ later)
    pub passes : test x ≡ true
    pub dearer : (y : A) → In y earlier → test y ≡ true → better x y ≡ true
    pub no_better : (y : A) → In y later → test y ≡ true → better y x ≡ false

-- a strict order whose "neither is better" is an equivalence
pub record Ranks {A : Type 0} (better : A → A → Bool) : Type 0 where
  pub irrefl : (x : A) → better x x ≡ false
  pub trans : (x y z : A) → better x y ≡ true → better y z ≡ true → better x z ≡ true
  pub not-trans : (x y z : A) → better x y ≡ false → better y z ≡ false → better x z ≡ false
