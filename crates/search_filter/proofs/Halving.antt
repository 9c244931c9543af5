-- Binary search over anything that ascends. Assumes nothing.
use mathlib.Core.Path.{◌≡◌, subst}
use Prim.Native.Nat.{ℕ, ◌+◌, ◌≤◌, ◌<◌}
use native.Mathlib.Decide.{dec_lt}
use native.Mathlib.Omega.{arith}
use Rattle.search_filter.specs.Places.{Reached}
use Rattle.search_filter.specs.Steps.{Ascends}

-- the invariant: what is looked for lies between from and to
pub record Seek (f : ℕ → ℕ) (n lo key from to : ℕ) : Type 0 where
  pub start : lo ≤ from
  pub up : from ≤ to
  pub end : to ≤ n
  pub before : (k : ℕ) → lo ≤ k → k < from → f k < key
  pub after : (k : ℕ) → to ≤ k → k < n → key ≤ f k

module _ (f : ℕ → ℕ) (n lo key from to mid : ℕ) (o : Ascends f n) (l : from ≤ mid) (h : mid < to) (s : Seek f n lo key from to) where
  -- at mid f is below the key: the answer is after it
  pub seek_right : f mid < key → Seek f n lo key (mid + 1) to
  seek_right lt = record {
    start = omega (arith, s.start);
    up = omega arith;
    end = s.end;
    before = λ k a b. omega (arith, o.up k mid (omega arith) (omega (arith, s.end)));
    after = s.after;
  }

  -- at mid f is key or more: the answer is mid or before it
  pub seek_left : key ≤ f mid → Seek f n lo key from mid
  seek_left le = record {
    start = s.start;
    up = l;
    end = omega (arith, s.end);
    before = s.before;
    after = λ k a b. omega (arith, o.up mid k a b);
  }

-- f is key or more where the search begins
pub reached_here : (f : ℕ → ℕ) (n lo key : ℕ) → Ascends f n → lo < n → key ≤ f lo → Reached f n lo key lo
reached_here f n lo key o h le = record {
  from = omega arith;
  to = omega arith;
  before = λ k a b. absurd (omega arith);
  after = λ k a b. omega (arith, o.up lo k a b);
}

-- what comes before a later start is below the key
pub reached_earlier : (f : ℕ → ℕ) (n lo from key r : ℕ) → lo ≤ from → ((k : ℕ) → lo ≤ k → k < from → f k < key) → Reached f n from key r → Reached f n lo key r
reached_earlier f n lo from key r l low d = record {
  from = omega (arith, d.from);
  to = d.to;
  before = λ k a b. elim (dec_lt k from) [ yes h ↦ low k a h | no h ↦ d.before k (omega arith) b ];
  after = d.after;
}

-- ---- word by word, up to i
-- f i is below the key, and so is all before it
pub scan_below : (f : ℕ → ℕ) (n lo key i a : ℕ) → Ascends f n → i < n → f i < key → Reached f i lo key a → Reached f (i + 1) lo key (i + 1)
scan_below f n lo key i a o h lt r = record {
  from = omega (arith, r.from, r.to);
  to = omega arith;
  before = λ k l b. omega (arith, o.up k i (omega arith) h);
  after = λ k l b. absurd (omega arith);
}

-- f i is key or more
pub scan_over : (f : ℕ → ℕ) (lo key i a : ℕ) → key ≤ f i → Reached f i lo key a → Reached f (i + 1) lo key a
scan_over f lo key i a le r = record {
  from = r.from;
  to = omega (arith, r.to);
  before = r.before;
  after = λ k l b. elim (dec_lt k i) [ yes h ↦ r.after k l h | no h ↦ let e : i ≡ k = omega arith in subst (λ (j : ℕ). key ≤ f j) e le ];
}
