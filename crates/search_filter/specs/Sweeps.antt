-- A sweep over the places whose words are of one residue class, place after place. Assumes nothing.
use Rattle.std.specs.Prelude.{◌≡◌, Bool, true, List, ℕ, ◌-◌, ◌%◌, ◌^◌, ◌≤◌, ◌<◌, eqb, get_or}
use Rattle.search_equation.specs.Equation.{running_value}
use Rattle.index_order.specs.Order.{first_word}
use Rattle.search_filter.specs.declared.inner.Residue.{Residue}
use Rattle.search_filter.specs.declared.inner.Sweep.{Sweep}
use Rattle.search_filter.specs.Places.{word_at, Skips}

-- the first word of slot s leaves `first` modulo 2^(w - zeros)
abbrev pub in_class : Residue → List ℕ → ℕ → Bool
in_class c rows s = eqb (first_word rows s % 2 ^ (c.w - c.zeros)) c.first

-- at most 2^8 of the class are below 2^w
pub record Small (c : Residue) : Type 0 where
  pub width : c.w ≤ 64
  pub within : c.zeros ≤ c.w
  pub few : c.zeros ≤ 8
  pub below : c.first < 2 ^ (c.w - c.zeros)

-- the keys are the first 2^zeros values of the running value from `first` on: where `left` of them are still to come, `key` included, `key` is number 2^zeros - left, from 0 on
pub record IsKey (c : Residue) (key left : ℕ) : Type 0 where
  pub some : 0 < left
  pub most : left ≤ 2 ^ c.zeros
  pub is : key ≡ running_value c.w c.zeros c.first (2 ^ c.zeros - left)

-- where a sweep stands: from its place on, no word of the class is below its key; with no key left, none is below 2^w
pub record Sweeping (c : Residue) (n : ℕ) (rows order : List ℕ) (s : Sweep) : Type 0 where
  pub within : s.at ≤ n
  pub key_is : 0 < s.left → IsKey c s.key s.left
  pub above : 0 < s.left → (k : ℕ) → s.at ≤ k → k < n → in_class c rows (get_or order k 0) ≡ true → s.key ≤ word_at rows order k
  pub beyond : s.left ≡ 0 → (k : ℕ) → s.at ≤ k → k < n → in_class c rows (get_or order k 0) ≡ true → 2 ^ c.w ≤ word_at rows order k

-- the sweep's key is the word at its place, as long as a key is left
pub record AtKey (n : ℕ) (rows order : List ℕ) (s : Sweep) : Type 0 where
  pub within : 0 < s.left → s.at < n
  pub is : 0 < s.left → word_at rows order s.at ≡ s.key

-- the first place from a on whose word is of the class, n if there is none
pub record Settled (c : Residue) (n : ℕ) (rows order : List ℕ) (a : ℕ) (s : Sweep) : Type 0 where
  pub sweeping : Sweeping c n rows order s
  pub from : a ≤ s.at
  pub skips : Skips (in_class c rows) order a s.at
  pub stops : s.at < n → in_class c rows (get_or order s.at 0) ≡ true
  pub at_key : AtKey n rows order s
