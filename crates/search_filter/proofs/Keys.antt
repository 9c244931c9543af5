-- The sweep over the keys: from its place on, no word of the class is below its key. Assumes nothing.
use mathlib.Core.Path.{◌≡◌, sym, ap, ◌∙◌, subst}
use mathlib.Core.Bool.{true}
use mathlib.Core.List.{List}
use Prim.Native.Nat.{ℕ, ◌+◌, ◌-◌, ◌*◌, ◌/◌, ◌%◌, ◌^◌, ◌≤◌, ◌<◌}
use native.Mathlib.Nat.{zero-mul, mod-le, div-add-mod', add-mul, one-mul, mul-le-mul_right, lt_of_mul-lt-mul_right}
use native.Mathlib.Omega.{arith}
use lib.ListN.{get_or}
use borrow.Author.Tests.{eq-eqb, eqb-true}
use Rattle.arith.specs.Word.{modulus}
use Rattle.arith.proofs.Remainders.{modulus-is}
use Rattle.search_equation.specs.Equation.{running_value}
use Rattle.search_filter.specs.declared.inner.Residue.{Residue}
use Rattle.search_filter.specs.declared.inner.Sweep.{Sweep}
use Rattle.search_filter.specs.Places.{word_at, Ordered, Skips}
use Rattle.search_filter.specs.Sweeps.{in_class, Small, IsKey, Sweeping, Settled}
use Rattle.search_filter.specs.Steps.{Fresh, KeySettled}
use Rattle.search_filter.proofs.PlaceLaws.{skips-none}
use Rattle.search_filter.proofs.Running.{step_of, key_class, rest-next, next-value}
use Rattle.search_filter.proofs.Words.{words-ascend}

-- of two numbers with the same remainder the larger is a step further on
step-further : (S k v f : ℕ) → k % S ≡ f → v % S ≡ f → k < v → k + S ≤ v
step-further S k v f a b lt =
    let p = div-add-mod' k S in
    let q = div-add-mod' v S in
    let less : k / S < v / S = lt_of_mul-lt-mul_right S (let h : k / S * S < v / S * S = omega arith in h) in
    let more : (k / S + 1) * S ≤ v / S * S = mul-le-mul_right S (let h : k / S + 1 ≤ v / S = omega arith in h) in
    let e : (k / S + 1) * S ≡ k / S * S + S = add-mul (k / S) 1 S ∙ ap (λ (x : ℕ). k / S * S + x) (one-mul S) in
    omega arith

-- a sweep that began at place a has come to place `at`
pub record Going (c : Residue) (n : ℕ) (rows order : List ℕ) (a at key left : ℕ) : Type 0 where
  pub sweeping : Sweeping c n rows order (record { at = at; key = key; left = left })
  pub from : a ≤ at
  pub skips : Skips (in_class c rows) order a at

module _ (c : Residue) (small : Small c) where
  abbrev step : ℕ
  step = step_of c

  -- ---- the test of one word
  module _ (rows : List ℕ) (s r : ℕ) (is : r ≡ get_or rows (16 * s) 0 % modulus (c.w - c.zeros)) where
    word-is : get_or rows (16 * s) 0 % step ≡ r
    word-is = ap (λ (m : ℕ). get_or rows (16 * s) 0 % m) (sym (modulus-is (c.w - c.zeros) (omega (arith, small.width)))) ∙ sym is

  module _ (n : ℕ) (rows order : List ℕ) where
    of_class : (k : ℕ) → in_class c rows (get_or order k 0) ≡ true → word_at rows order k % step ≡ c.first
    of_class k e = eqb-true _ _ e

    -- ---- where a sweep begins
    begins : {s : Sweep} → Fresh c s → s.key ≡ c.first
    unfolding running_value
    begins {s} b =
        let none : 2 ^ c.zeros - s.left ≡ 0 = omega (arith, b.all_left) in
        b.key_is.is ∙ ap (running_value c.w c.zeros c.first) none

    pub sweeping-start : (s : Sweep) → Fresh c s → Sweeping c n rows order s
    sweeping-start s b = record {
      within = omega (arith, b.at_first);
      key_is = λ _. b.key_is;
      above = λ _ k l h y. subst (λ (x : ℕ). x ≤ word_at rows order k) (of_class k y ∙ sym (begins b)) (mod-le (word_at rows order k) step);
      beyond = λ z. absurd (omega (arith, b.key_is.some));
    }

    -- ---- from turn to turn
    pub going_start : (s : Sweep) → Sweeping c n rows order s → Going c n rows order s.at s.at s.key s.left
    going_start s w = record {
      sweeping = record { within = w.within; key_is = w.key_is; above = w.above; beyond = w.beyond };
      from = omega arith;
      skips = skips-none (in_class c rows) order s.at;
    }

    module _ (a at key left : ℕ) (g : Going c n rows order a at key left) where
      -- all keys are passed
      pub going_done : left ≤ 0 → KeySettled c n rows order a (record { at = at; key = key; left = 0 })
      going_done z =
          let w = g.sweeping in
          record {
            sweeping = record {
              within = w.within;
              key_is = λ p. absurd (omega arith);
              above = λ p. absurd (omega arith);
              beyond = λ _. w.beyond (omega arith);
            };
            from = g.from;
            skips = g.skips;
            at_key = record { within = λ p. absurd (omega arith); is = λ p. absurd (omega arith) };
          }

      module _ (some : 0 < left) where
        is_key : IsKey c key left
        is_key = g.sweeping.key_is some

        -- the word there is beyond the key: one key less
        module _ (o : Ordered n rows order) (h : at < n) (le : key ≤ word_at rows order at) (ne : word_at rows order at ≡ key → ⊥) where
          further : (k : ℕ) → at ≤ k → k < n → in_class c rows (get_or order k 0) ≡ true → key + step ≤ word_at rows order k
          further k l b y =
              let up = (words-ascend n rows order o).up at k l b in
              let lt : key < word_at rows order k = omega arith in
              step-further step key (word_at rows order k) c.first (key_class c small key left is_key) (of_class k y) lt

          -- it was the last
          pub going_last : left ≤ 1 → KeySettled c n rows order a (record { at = at; key = key; left = 0 })
          going_last e = record {
            sweeping = record {
              within = g.sweeping.within;
              key_is = λ p. absurd (omega arith);
              above = λ p. absurd (omega arith);
              beyond = λ _ k l b y. passed (word_at rows order k) (further k l b y);
            };
            from = g.from;
            skips = g.skips;
            at_key = record { within = λ p. absurd (omega arith); is = λ p. absurd (omega arith) };
          }
            where
              passed : (v : ℕ) → key + step ≤ v → 2 ^ c.w ≤ v
              passed v h =
                  let none : (left - 1) * step ≡ 0 = let z : left - 1 ≡ 0 = omega arith in ap (λ (x : ℕ). x * step) z ∙ zero-mul step in
                  let rest = rest-next c small key left is_key in
                  omega arith

          -- or there is a next
          pub going_next : 1 < left → (r : ℕ) → IsKey c r (left - 1) → Going c n rows order a at r (left - 1)
          going_next more r is =
              let next : key + step ≡ r = next-value c small key left is_key more ∙ sym is.is in
              record {
                sweeping = record {
                  within = g.sweeping.within;
                  key_is = λ _. is;
                  above = λ _ k l b y. subst (λ (x : ℕ). x ≤ word_at rows order k) next (further k l b y);
                  beyond = λ z. absurd (omega arith);
                };
                from = g.from;
                skips = g.skips;
              }

    -- ---- the keys, and the tail after them
    pub settled_key : (a : ℕ) (s : Sweep) → 0 < s.left → KeySettled c n rows order a s → Settled c n rows order a s
    settled_key a s p k = record {
      sweeping = k.sweeping;
      from = k.from;
      skips = k.skips;
      stops = λ _. eq-eqb _ _ (ap (λ (x : ℕ). x % step) (k.at_key.is p) ∙ key_class c small s.key s.left (k.sweeping.key_is p));
      at_key = k.at_key;
    }
