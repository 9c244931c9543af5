-- Places that are replaced one after the other, and rule after rule over the same records. Assumes nothing.
use mathlib.Core.Path.{◌≡◌, refl, sym, ap, ap₂, ◌∙◌, subst}
use mathlib.Core.Logic.{inl, inr}
use mathlib.Core.Bool.{Bool, cond}
use mathlib.Core.List.{List}
use Prim.Native.Nat.{ℕ, ◌+◌, ◌≤◌, ◌<◌}
use native.Mathlib.Numerals.{add-one}
use native.Mathlib.Omega.{arith}
use borrow.Author.Tests.{lt-ltb, le-ltb}
use lib.Dec.{eqb}
use lib.ListN.{length, get_or, set, length-set}
use lib.Seq.{get_or-set_same, get_or-set_other}
use Rattle.limits.proofs.Refusals.{le_or_lt}
use Rattle.log_rules.specs.Rules.{Rules, rank_of, rule_at}
use Rattle.log_rules.specs.Firing.{no_rank, lesser, least_rank}
use Rattle.log_rules.specs.Steps.{formulas_refusal, rule_refusal, least_number, past_at, fires_on, rank_at, window_at}
use Rattle.log_rules.proofs.Tests.{numbers_none, numbers_more, numbers_zero}

-- ---- places
-- the first k places of `now` are those of `old` by f, the others as they were
pub record Mapped (f : ℕ → ℕ → ℕ) (old now : List ℕ) (k : ℕ) : Type 0 where
  pub long : length now ≡ length old
  pub done : (t : ℕ) → t < k → get_or now t 0 ≡ f t (get_or old t 0)
  pub rest : (t : ℕ) → k ≤ t → get_or now t 0 ≡ get_or old t 0

module _ (f : ℕ → ℕ → ℕ) where
  pub mapped_start : (old : List ℕ) → Mapped f old old 0
  mapped_start old = record { long = refl; done = λ t l. absurd (omega arith); rest = λ t l. refl }

  pub mapped_more : (old now : List ℕ) (k v : ℕ) → k < length now → v ≡ f k (get_or now k 0) → Mapped f old now k → Mapped f old (set now k v) (k + 1)
  mapped_more old now k v h e m = record {
    long = length-set now k v ∙ m.long;
    done = λ t l. elim (le_or_lt k t) [
      | inl a ↦ ap (λ (j : ℕ). get_or (set now k v) j 0) (same t l a) ∙ get_or-set_same now k v 0 h ∙ e ∙ ap₂ (λ (j x : ℕ). f j x) (sym (same t l a)) (m.rest k (omega arith) ∙ ap (λ (j : ℕ). get_or old j 0) (sym (same t l a)))
      | inr b ↦ get_or-set_other now k t v 0 (λ q. omega arith) ∙ m.done t b
    ];
    rest = λ t l. get_or-set_other now k t v 0 (λ q. omega arith) ∙ m.rest t (omega arith);
  }
    where
      same : (t : ℕ) → t < k + 1 → k ≤ t → t ≡ k
      same t l a = omega arith

-- ---- rules
module _ (nv w : ℕ) (rules : Rules) (records seen : List ℕ) (n : ℕ) where
  -- the first i rules went over the records
  pub record Went (i refusal : ℕ) (after fired : List ℕ) : Type 0 where
    pub number : refusal ≡ formulas_refusal nv rules i
    pub pasts : refusal ≡ 0 → Mapped (λ (t s : ℕ). past_at nv w (rule_at rules t) records s n) seen after i
    pub ranks : refusal ≡ 0 → (k : ℕ) → k < n → get_or fired k 0 ≡ rank_at nv w rules records seen i k

  pub went_none : (fired : List ℕ) → ((k : ℕ) → k < n → get_or fired k 0 ≡ no_rank) → Went 0 0 seen fired
  unfolding least_rank
  went_none fired h = record {
    number = numbers_none nv rules;
    pasts = λ e. mapped_start (λ (t s : ℕ). past_at nv w (rule_at rules t) records s n) seen;
    ranks = λ e k l. h k l;
  }

  module _ (i refusal : ℕ) (after fired : List ℕ) (x past refusal' rank : ℕ) (answers fired' : List ℕ) where
    pub went-more :
        i < length after → rank ≡ rank_of rules i
        → x ≡ rule_refusal nv (rule_at rules i)
        → (x ≡ 0 → past ≡ past_at nv w (rule_at rules i) records (get_or after i 0) n)
        → (x ≡ 0 → (k : ℕ) → k < n → eqb (get_or answers k 0) 1 ≡ fires_on nv w (rule_at rules i) records (get_or after i 0) k)
        → ((k : ℕ) → k < n → get_or fired' k 0 ≡ cond (eqb (get_or answers k 0) 1) (lesser (get_or fired k 0) rank) (get_or fired k 0))
        → refusal' ≡ least_number refusal x
        → Went i refusal after fired → Went (i + 1) refusal' (set after i past) fired'
    unfolding least_rank
    went-more h er ex ep ea eo el g = record {
      number = number;
      pasts = λ e. mapped_more (λ (t s : ℕ). past_at nv w (rule_at rules t) records s n) seen after i past h (ep (zeros e).1) (g.pasts (zeros e).0);
      ranks = λ e k l.
          let stays : get_or after i 0 ≡ get_or seen i 0 = (g.pasts (zeros e).0).rest i (omega arith) in
          let test = ea (zeros e).1 k l ∙ ap (λ (s : ℕ). fires_on nv w (rule_at rules i) records s k) stays in
          let least = g.ranks (zeros e).0 k l in
          eo k l
          ∙ (λ j. cond (test j) (lesser (least j) (er j)) (least j))
          ∙ ap (λ (m : ℕ). rank_at nv w rules records seen m k) (sym (add-one i));
    }
      where
        number : refusal' ≡ formulas_refusal nv rules (i + 1)
        number = numbers_more nv rules i refusal' refusal x g.number ex el

        zeros : refusal' ≡ 0 → (refusal ≡ 0) × (x ≡ 0)
        zeros e = let z = numbers_zero nv rules i (sym number ∙ e) in (g.number ∙ z.0, ex ∙ z.1)

  -- so many rules by another name
  pub went_at : {i count : ℕ} (refusal : ℕ) (after fired : List ℕ) → i ≡ count → Went i refusal after fired → Went count refusal after fired
  went_at {i} {count} refusal after fired e g = subst (λ (k : ℕ). Went k refusal after fired) e g

  -- all of them
  pub went_windows : (count refusal : ℕ) (after fired : List ℕ) → Went count refusal after fired → refusal ≡ 0 → (i : ℕ) → get_or after i 0 ≡ window_at nv w rules records seen count n i
  went_windows count refusal after fired g e i = elim (le_or_lt count i) [
    | inl a ↦ (g.pasts e).rest i a ∙ sym (ap (λ (b : Bool). cond b (past_at nv w (rule_at rules i) records (get_or seen i 0) n) (get_or seen i 0)) (le-ltb i count a))
    | inr b ↦ (g.pasts e).done i b ∙ sym (ap (λ (t : Bool). cond t (past_at nv w (rule_at rules i) records (get_or seen i 0) n) (get_or seen i 0)) (lt-ltb i count b))
  ]
