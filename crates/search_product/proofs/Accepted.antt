-- What a bank build and an index build over it left passes the product search's tests. Assumes nothing.
use mathlib.Core.Path.{◌≡◌, refl, sym, ap, ◌∙◌}
use mathlib.Core.Bool.{Bool, true, false, not}
use mathlib.Core.List.{List}
use Prim.Native.Nat.{ℕ, ◌+◌, ◌*◌, ◌/◌, ◌≤◌, ◌<◌}
use native.Mathlib.Nat.{le-div_iff_mul-le, mul_comm}
use native.Mathlib.Omega.{arith}
use borrow.Author.Tests.{le-ltb, lt-leb}
use lib.Dec.{ltb}
use lib.ListN.{length, get_or, take, drop, length-append}
use lib.Seq.{get_or-take}
use Rattle.arrays.specs.Parts.{encode, spread}
use Rattle.arrays.proofs.Lists.{up-nothing}
use Rattle.arrays.proofs.Parts.{length-encode, get_d_part, encode_part}
use Rattle.limits.specs.Refusal.{bad_count, bad_width}
use Rattle.limits.proofs.Refusals.{or_later, refused-later, within, inside, passed, unless_not}
use Rattle.row_gates.specs.Gates.{gate_number}
use Rattle.row_gates.specs.declared.Gate.{Gate}
use Rattle.row_gates.specs.declared.Gate.TheVariants.{And, Or, Xor, Add, Mul}
use Rattle.expr.specs.Formula.{is_some, tokens, is_formula}
use Rattle.expr.proofs.Machine.{formula-more}
use Rattle.bank_spec.specs.Push.{Atom, no_atom}
use Rattle.bank_spec.specs.Bank.{bank_of}
use Rattle.bank_spec.specs.Encoding as Bank
use Rattle.bank_spec.specs.Encoding.{length_part, ops_part, operands_part, written}
use Rattle.bank_spec.proofs.Banks.{bank-is_sound}
use Rattle.bank_spec.proofs.Encodings.{length-wide, ops-wide, operands-wide, form-back, length_at, ops-at, operands-at}
use Rattle.bank.specs.Build.{bank_refusal, sizes_of}
use Rattle.index_order.specs.Order.{order_of}
use Rattle.index_order.proofs.OrderLaws.{order-length, order_same, order_exactly}
use Rattle.index_spec.specs.Index.{Pair, all_gates, rows_of}
use Rattle.index_spec.specs.Encoding.{pair_part, pair_row}
use Rattle.index_spec.specs.Facts.{no_pair}
use Rattle.index_spec.proofs.IndexLaws.{index-is_sound, at-most_limit}
use Rattle.index_spec.proofs.RowLaws.{length-rows_of}
use Rattle.index.specs.declared.BuiltIndex.{BuiltIndex}
use Rattle.index.specs.Build.{index_refusal, lent_index, summary_of, order_list}
use Rattle.index.proofs.Passing as index
use Rattle.search_product_forms.specs.Forms.{Forms, atom_form, pair_gate, pair_b, pair_c}
use Rattle.search_product_forms.specs.Refusals.{some_below, bad_atom, bad_pair}
use Rattle.search_product_forms.specs.Written.{forms}
use Rattle.search_filter.specs.Refusals.{wrong_order}
use Rattle.search_product.specs.Demand.{OwnIndex}
use Rattle.search_product.specs.Own.{BuiltPasses}
use Rattle.search_product.proofs.OwnPairs.{Fit, answered, zero_of, built-is_own, rows_long, row-long}

-- ---- tests that pass
long_enough_lem : (s n k : ℕ) → 0 < s → s * k ≤ n → ltb (n / s) k ≡ false
long_enough_lem s n k h l = le-ltb (n / s) k ((le-div_iff_mul-le {k = s} {x = k} {y = n} h).1 (omega (arith, mul_comm k s)))

none-bad : (n : ℕ) (test : ℕ → Bool) → ((k : ℕ) → k < n → test k ≡ false) → some_below n test ≡ false
none-bad n test h = ap is_some (up-nothing test n h)

-- an array that begins with the parts of n records has room for them
spread-long : {A : Type 0} (s : ℕ) (f : A → List ℕ) → ((a : A) → length (f a) ≡ s) → (records : List A) (old : List ℕ) → s * length records ≤ length (spread s f records old)
spread-long s f wide records old = omega (arith, length-encode s f wide records, length-append (encode f records) (drop (s * length records) old))

-- ---- a built bank
module _ (bank : List Atom) (old : Bank.Arrays) (pairs : List ℕ) (nv : ℕ) (few : nv ≤ 6) where
  abbrev of_bank : Forms
  of_bank = forms (written bank old).lengths (written bank old).ops (written bank old).operands pairs

  form-at : (k : ℕ) → k < length bank → length (get_or bank k no_atom).form ≤ 6 → atom_form of_bank k ≡ (get_or bank k no_atom).form
  unfolding atom_form
  form-at k h short =
      (λ i. tokens (length_at bank old k h i) (ops-at bank old k h i) (operands-at bank old k h i)) ∙ form-back (get_or bank k no_atom) short

  good_atom : (k : ℕ) → k < length bank → length (get_or bank k no_atom).form ≤ 6 → is_formula nv (get_or bank k no_atom).form ≡ true → bad_atom of_bank k ≡ false
  good_atom k h short formula =
      or_later (le-ltb 6 (get_or (written bank old).lengths k 0) (omega (arith, length_at bank old k h, short)))
      (ap not (ap (is_formula 6) (form-at k h short) ∙ formula-more nv 6 few (get_or bank k no_atom).form formula))

-- ---- a built index
gate-low : (g : Gate) → gate_number g ≤ 4
gate-low And = omega arith
gate-low Or = omega arith
gate-low Xor = omega arith
gate-low Add = omega arith
gate-low Mul = omega arith

pair-wide : (p : Pair) → length (pair_part p) ≡ 3
pair-wide p = refl

module _ (ps : List Pair) (old : List ℕ) (lengths ops operands : List ℕ) (s : ℕ) (h : s < length ps) where
  abbrev of_index : Forms
  of_index = forms lengths ops operands (spread 3 pair_part ps old)

  word-at : (j : ℕ) → j < 3 → get_or of_index.pairs (3 * s + j) 0 ≡ get_or (pair_part (get_or ps s no_pair)) j 0
  word-at j l =
      sym (get_d_part 3 of_index.pairs s j l) ∙ ap (λ (x : List ℕ). get_or x j 0) (encode_part 3 pair_part pair-wide ps (drop (3 * length ps) old) no_pair s h)

  good_pair : (count : ℕ) → (get_or ps s no_pair).b < count → (get_or ps s no_pair).c < count → bad_pair count of_index s ≡ false
  good_pair count hb hc =
      let p = get_or ps s no_pair in
      let z : 3 * s + 0 ≡ 3 * s = omega arith in
      let g = ap (λ (i : ℕ). get_or of_index.pairs i 0) (sym z) ∙ word-at 0 (omega arith) in
      or_later (le-ltb 4 (pair_gate of_index s) (omega (arith, g, gate-low p.gate)))
      (or_later (lt-leb count (pair_b of_index s) (omega (arith, word-at 1 (omega arith), hb))) (lt-leb count (pair_c of_index s) (omega (arith, word-at 2 (omega arith), hc))))

-- the order list that a build left is that of the rows that it left
right-order : (w count : ℕ) (atoms : List ℕ) (L n : ℕ) (listed order : List ℕ) → OwnIndex w count atoms L n listed order → wrong_order n listed order ≡ false
right-order w count atoms L n listed order own =
    let ps = (lent_index w count atoms L).pairs in
    ap not ((order_exactly n listed (take n order)).it_does
    (own.order_is
    ∙ ap (λ (k : ℕ). order_of k (encode pair_row ps)) (sym own.count-is)
    ∙ order_same n (encode pair_row ps) listed (λ s h.
    ap (λ (l : List ℕ). get_or l (16 * s) 0) (sym own.rows_are) ∙ get_or-take (16 * n) listed (16 * s) 0 (omega arith))))

pub built-passes : BuiltPasses
built-passes nv v points seeding old left old_work left_work b count bank-built bank-says w L lent made r said index-built index-says target low =
    let bank = bank_of nv v points seeding in
    let number = bank_refusal nv v points seeding (sizes_of old old_work) in
    let done = answered number (length bank) count (sym bank-built.result ∙ bank-says) in
    let none-b = zero_of number done.free in
    let counted = within 1 6 nv (passed (bad_count nv) 1 _ (omega arith) none-b).0 in
    let sound = bank-is_sound nv v points seeding counted.least counted.most in
    let there : left ≡ written bank old = bank-built.arrays ∙ unless_not number _ _ none-b in
    let index_number = index_refusal w count left.rows L lent in
    let index-done = answered index_number (summary_of (lent_index w count left.rows L)) said (sym index-built.says ∙ index-says) in
    let none-i = zero_of index_number index-done.free in
    let wide = within 1 64 w (passed (bad_width w) 2 _ (omega arith) none-i).0 in
    let fit = index.none-refused w count L (length left.rows) _ _ _ _ none-i in
    let ps = (lent_index w count left.rows L).pairs in
    let n : length ps ≡ said.pairs = ap (λ (x : BuiltIndex). x.pairs) index-done.is in
    let own = built-is_own w count left.rows L lent made r said index-built index-says in
    let rows_fit : Fit w count left.rows L = record { rows = fit.atoms } in
    let pairs-there = index-built.pairs ∙ unless_not index_number _ _ none-i in
    let listed-there = index-built.rows_are ∙ unless_not index_number _ _ none-i in
    let order-there = index-built.order ∙ unless_not index_number _ _ none-i in
    let lengths-long : count ≤ length left.lengths = omega (arith, done.is, ap (λ (x : Bank.Arrays). length x.lengths) there, spread-long 1 length_part length-wide bank old.lengths) in
    let ops-long : 6 * count ≤ length left.ops = omega (arith, done.is, ap (λ (x : Bank.Arrays). length x.ops) there, spread-long 6 ops_part ops-wide bank old.ops) in
    let operands-long : 6 * count ≤ length left.operands = omega (arith, done.is, ap (λ (x : Bank.Arrays). length x.operands) there, spread-long 6 operands_part operands-wide bank old.operands) in
    let pairs-long : 3 * said.pairs ≤ length made.pairs = omega (arith, n, ap length pairs-there, spread-long 3 pair_part pair-wide ps lent.pairs) in
    let listed-long : 16 * said.pairs ≤ length made.rows = omega (arith, n, ap length listed-there, length-append (encode pair_row ps) (drop (16 * length ps) lent.rows), rows_long ps (row-long rows_fit)) in
    let order-long : said.pairs ≤ length made.order = omega (arith, n, ap length order-there, length-append (order_list ps) (drop (length ps) lent.order), order-length (length ps) (encode pair_row ps)) in
    let few-pairs : said.pairs ≤ 262144 = omega (arith, n, at-most_limit w L all_gates (rows_of count left.rows), fit.most) in
    refused-later 2 (inside 1 64 w wide.least wide.most)
    (refused-later 4
    (or_later (long_enough_lem 16 (length left.rows) count (omega arith) fit.atoms)
    (or_later (or_later (long_enough_lem 16 (length made.rows) said.pairs (omega arith) listed-long) (le-ltb (length made.order) said.pairs order-long))
    (or_later (le-ltb (length left.lengths) count lengths-long)
    (or_later (long_enough_lem 6 (length left.ops) count (omega arith) ops-long)
    (or_later (long_enough_lem 6 (length left.operands) count (omega arith) operands-long) (long_enough_lem 3 (length made.pairs) said.pairs (omega arith) pairs-long))))))
    (refused-later 5 low
    (refused-later 6
    (none-bad count (bad_atom (forms left.lengths left.ops left.operands made.pairs)) (λ k h.
    let below : k < length bank = omega (arith, done.is) in
    ap (λ (x : Bank.Arrays). bad_atom (forms x.lengths x.ops x.operands made.pairs) k) there
    ∙ good_atom bank old made.pairs nv counted.most k below (sound.tokens k below) (sound.atom k below).formula))
    (refused-later 7
    (or_later (le-ltb 479 count fit.few)
    (or_later (le-ltb 262144 said.pairs few-pairs)
    (none-bad said.pairs (bad_pair count (forms left.lengths left.ops left.operands made.pairs)) (λ s h.
    let below : s < length ps = omega (arith, n) in
    let p = (index-is_sound w L all_gates (rows_of count left.rows)).pair s below in
    let hc : (get_or ps s no_pair).c < count = omega (arith, p.below, length-rows_of count left.rows) in
    ap (λ (l : List ℕ). bad_pair count (forms left.lengths left.ops left.operands l) s) pairs-there
    ∙ good_pair ps lent.pairs left.lengths left.ops left.operands s below count (omega (arith, p.ordered, hc)) hc))))
    (refused-later 8 (right-order w count left.rows L said.pairs made.rows made.order own) refl)))))
