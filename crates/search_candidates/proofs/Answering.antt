-- Laws of the candidates' answer: what is known where nothing is refused, and what each answer says. Assumes nothing.
use mathlib.Core.Path.{◌≡◌, sym, ap, ◌∙◌}
use mathlib.Core.Bool.{Bool, true, ◌||◌, cond}
use mathlib.Core.List.{List, [], ◌++◌}
use mathlib.Core.Option.{none, some}
use Prim.Native.Nat.{ℕ, ◌/◌, ◌^◌, ◌≤◌, ◌<◌}
use native.Mathlib.Omega.{arith}
use borrow.Author.Tests.{ltb-false, leb-false, not-false}
use lib.Dec.{leb, ltb}
use lib.ListN.{length, take, drop}
use Rattle.arrays.specs.Lists.{keep}
use Rattle.std.specs.Prelude.{Ok, Some}
use Rattle.limits.specs.Refusal.{bad_width, answer}
use Rattle.arrays.proofs.Lists.{keep-none, keep_same}
use Rattle.limits.proofs.Refusals.{within, passed, neither, enough, unless_not}
use Rattle.index_order.specs.Order.{first_word, order_of, is_order}
use Rattle.index_order.proofs.OrderLaws.{order_exactly}
use Rattle.search_equation.specs.Equation.{used, solves}
use Rattle.search_equation.specs.Solved.{IsClass, IsNone}
use Rattle.search_filter.specs.Places.{Ordered}
use Rattle.search_filter.specs.Refusals.{short_pairs, wrong_order}
use Rattle.limits.specs.Limits.{too_many_pairs}
use Rattle.search_filter.specs.Sweeps.{in_class}
use Rattle.search_filter.proofs.Running.{class_of}
use Rattle.search_candidates.specs.Candidates.{candidates, candidates_refusal, Collected}
use Rattle.search_candidates.specs.Steps.{Kept}

-- ---- what is known where nothing is refused
pub record Passed (w n : ℕ) (rows order : List ℕ) (p t : ℕ) (list : List ℕ) : Type 0 where
  pub width : w ≤ 64
  pub p_below : p < 2 ^ w
  pub t-below : t < 2 ^ w
  pub ordered : Ordered n rows order
  pub room : n ≤ length list

-- a call's own answer to its test, where it is 0
pub zero_of : (w n : ℕ) (rows order : List ℕ) (p t : ℕ) (list : List ℕ) (r : ℕ) → r ≡ candidates_refusal w n rows order p t list → r ≡ 0 → candidates_refusal w n rows order p t list ≡ 0
zero_of w n rows order p t list r is e = sym is ∙ e

pub none-refused : (w n : ℕ) (rows order : List ℕ) (p t : ℕ) (list : List ℕ) → candidates_refusal w n rows order p t list ≡ 0 → Passed w n rows order p t list
none-refused w n rows order p t list e =
    let wide = passed (bad_width w) 2 _ (omega arith) e in
    let short = passed (short_pairs n rows order || ltb (length list) n) 4 _ (omega arith) wide.1 in
    let above = passed (leb (2 ^ w) p || leb (2 ^ w) t) 5 _ (omega arith) short.1 in
    let many = passed (too_many_pairs n) 7 _ (omega arith) above.1 in
    let wrong = passed (wrong_order n rows order) 8 0 (omega arith) many.1 in
    let lists = neither (short_pairs n rows order) (ltb (length list) n) short.0 in
    let pairs = neither (ltb (length rows / 16) n) (ltb (length order) n) lists.0 in
    let words = neither (leb (2 ^ w) p) (leb (2 ^ w) t) above.0 in
    record {
      width = (within 1 64 w wide.0).most;
      p_below = leb-false _ _ words.0;
      t-below = leb-false _ _ words.1;
      ordered = record {
        most = ltb-false _ _ many.0;
        rows_fit = enough 16 (length rows) n (omega arith) pairs.0;
        order-fit = ltb-false _ _ pairs.1;
        is = not-false (is_order n rows (take n order)) wrong.0;
      };
      room = ltb-false _ _ lists.1;
    }

-- ---- what each answer says
module _ (w n : ℕ) (rows order : List ℕ) (p t : ℕ) (old : List ℕ) where
  abbrev number : ℕ
  number = candidates_refusal w n rows order p t old

  abbrev listed : List ℕ
  listed = candidates w p t n rows

  module _ (ok : number ≡ 0) where
    module _ (u : used p t ≡ true) where
      used_collected : (new : List ℕ) (k : ℕ) → k ≡ length listed → new ≡ listed ++ drop k old → Collected w n rows order p t old new (Ok (Some k))
      used_collected new k e f = record {
        says = ap (λ (i : ℕ). answer (some i)) e ∙ ap (λ (b : Bool). answer (cond b (some (length listed)) none)) (sym u) ∙ sym (unless_not number _ _ ok);
        list = f ∙ ap (λ (i : ℕ). listed ++ drop i old) e ∙ ap (λ (b : Bool). cond b (listed ++ drop (length listed) old) old) (sym u) ∙ sym (unless_not number _ _ ok);
      }

      -- no word solves, so none is listed
      pub none_collected : IsNone w p t → Collected w n rows order p t old old (Ok (Some 0))
      unfolding candidates
      none_collected is =
          let none : candidates w p t n rows ≡ [] = keep-none (λ (s : ℕ). solves w p t (first_word rows s)) (order_of n rows) (λ s. is.is (first_word rows s)) in
          used_collected old 0 (sym (ap length none)) (sym (ap (λ (l : List ℕ). l ++ old) none))

      -- those that solve are those of the class
      pub class_collected : {zeros first : ℕ} → IsClass w p t zeros first → Ordered n rows order → (new : List ℕ) (k : ℕ)
          → Kept (in_class (class_of w zeros first) rows) n order old new k → Collected w n rows order p t old new (Ok (Some k))
      unfolding candidates
      class_collected {zeros} {first} is ordered new k kept =
          let same : keep (in_class (class_of w zeros first) rows) (take n order) ≡ candidates w p t n rows =
          ap (keep (in_class (class_of w zeros first) rows)) ((order_exactly n rows (take n order)).only_it ordered.is)
          ∙ sym (keep_same (λ (s : ℕ). solves w p t (first_word rows s)) (in_class (class_of w zeros first) rows) (order_of n rows) (λ s. is.is (first_word rows s))) in
          used_collected new k (kept.count ∙ ap length same) (kept.whole ∙ ap (λ (l : List ℕ). l ++ drop k old) same)
