-- Places of an order list: place k holds a slot, whose row has a first word. Assumes nothing.
use Rattle.std.specs.Prelude.{◌≡◌, Bool, true, false, List, ℕ, ◌*◌, ◌≤◌, ◌<◌, length, take, get_or}
use Rattle.limits.specs.Limits.{pairs_max}
use Rattle.index_order.specs.Order.{first_word, is_order}

-- the first word of the slot at place k
abbrev pub word_at : List ℕ → List ℕ → ℕ → ℕ
word_at rows order k = first_word rows (get_or order k 0)

-- a lent order list of n slots that no refusal turns back
pub record Ordered (n : ℕ) (rows order : List ℕ) : Type 0 where
  pub most : n ≤ pairs_max
  pub rows_fit : 16 * n ≤ length rows
  pub order-fit : n ≤ length order
  pub is : is_order n rows (take n order) ≡ true

-- a sample is taken of each so many places; `SAMPLE_STEP` of src/inner.rt is the same number
abbrev pub sample_step : ℕ
sample_step = 64

-- m samples: number j is the first word at place sample_step × j
pub record Sampled (n : ℕ) (rows order samples : List ℕ) (m : ℕ) : Type 0 where
  pub fit : m ≤ length samples
  pub within : (j : ℕ) → j < m → sample_step * j < n
  pub is : (j : ℕ) → j < m → get_or samples j 0 ≡ word_at rows order (sample_step * j)

-- r is the first number from lo on, n at the latest, at which f is key or more; so it is at all numbers from r on
pub record Reached (f : ℕ → ℕ) (n lo key r : ℕ) : Type 0 where
  pub from : lo ≤ r
  pub to : r ≤ n
  pub before : (k : ℕ) → lo ≤ k → k < r → f k < key
  pub after : (k : ℕ) → r ≤ k → k < n → key ≤ f k

-- r is the first place from lo on whose word is key or more
abbrev pub Lower : ℕ → List ℕ → List ℕ → ℕ → ℕ → ℕ → Type 0
Lower n rows order lo key r = Reached (word_at rows order) n lo key r

-- no slot at a place from a up to b passes the test
abbrev pub Skips : (ℕ → Bool) → List ℕ → ℕ → ℕ → Type 0
Skips test order a b = (k : ℕ) → a ≤ k → k < b → test (get_or order k 0) ≡ false

-- r is the first place from a on whose slot passes the test, n if there is none
pub record FirstOf (test : ℕ → Bool) (n : ℕ) (order : List ℕ) (a r : ℕ) : Type 0 where
  pub from : a ≤ r
  pub to : r ≤ n
  pub skips : Skips test order a r
  pub stops : r < n → test (get_or order r 0) ≡ true
