-- 01's bench sheet, P1 to P10 and the last line, as one joint statement about the definitions. Assumes nothing.
use Rattle.std.specs.Prelude.{◌≡◌, true, false, List, [], ◌∷◌, map, ◌↔◌, ℕ, ◌+◌, ◌-◌, ◌*◌, ◌^◌, ◌<◌, length, get_or, replicate}
use Rattle.arrays.specs.Lists.{count_up, keep}
use Rattle.row_gates.specs.declared.Gate.TheVariants.{And, Mul}
use Rattle.expr.specs.declared.Token.TheVariants.{Constant, Variable, Binary, Not}
use Rattle.expr_cost.specs.Cost.{cost_of}
use Rattle.search_equation.specs.Equation.{used, solves}
use Rattle.bank_spec.specs.Push.{Atom, no_atom}
use Rattle.bank_spec.specs.Bank.{seeds_of}
use Rattle.index_spec.specs.Index.{Index, all_gates, index_of}
use Rattle.index_spec.specs.Facts.{no_pair}
use Rattle.bank.specs.Build.{bank_refusal}
use Rattle.listing.specs.Listing.{listing}
use Rattle.sheet_spec.specs.Inputs.{again, points, zeros, bank2, bank9, target10, exact, input1, output1}

-- P3: the index of P2's bank with the limit L
abbrev pub index3 : ℕ → Index
index3 L = index_of 2 L all_gates (map (λ (a : Atom). a.row) bank2)

-- P5 to P7: all first words f below 2^w with p × f = t modulo 2^w, ascending
abbrev pub first_words : ℕ → ℕ → ℕ → List ℕ
first_words w p t = keep (solves w p t) (count_up 0 (2 ^ w))

-- 01, Agreed between us: the sheet's P cases as one joint statement about the definitions
pub record Sheet : Type 0 where
  -- P1: what the listing program writes of its text
  pub p1 : listing input1 ≡ output1
  -- P2: 14 atoms; the last is `v0 v0 * !`, row 3 2 3 2 repeated
  pub p2_count : length bank2 ≡ 14
  pub p2_last : (get_or bank2 13 no_atom).form ≡ Variable 0 ∷ (Variable 0 ∷ (Binary Mul ∷ (Not ∷ [])))
  pub p2_row : (get_or bank2 13 no_atom).row ≡ again 8 (3 ∷ (2 ∷ []))
  -- P3: the first pair is And, 1, 6, row 1 0 1 0 repeated. L = 0: no pairs, cut. L equal to the full number of pairs: whole; one less: cut
  pub p3_first : get_or (index3 1).pairs 0 no_pair ≡ record { gate = And; b = 1; c = 6; row = again 8 (1 ∷ (0 ∷ [])) }
  pub p3_none : index3 0 ≡ record { pairs = []; cut = true }
  pub p3_full : length (index3 500).pairs ≡ 36
  pub p3_whole : (index3 36).cut ≡ false
  pub p3_cut : (index3 35).cut ≡ true
  -- P4: v0 × v0 costs (5, 1, 2); 3 × v0 costs (3, 0, 2)
  pub p4_square : cost_of (Variable 0 ∷ (Variable 0 ∷ (Binary Mul ∷ []))) ≡ record { size = 5; products = 1; depth = 2 }
  pub p4_triple : cost_of (Constant 3 ∷ (Variable 0 ∷ (Binary Mul ∷ []))) ≡ record { size = 3; products = 0; depth = 2 }
  -- P5: width 8, p = 6, t = 4: first words 86 and 214. t = 3: used, empty
  pub p5_four : (used 6 4 ≡ true) × (first_words 8 6 4 ≡ 86 ∷ (214 ∷ []))
  pub p5_three : (used 6 3 ≡ true) × (first_words 8 6 3 ≡ [])
  -- P6: p = 0: t = 0 not used; t = 1 used, empty
  pub p6_zero : used 0 0 ≡ false
  pub p6_one : (used 0 1 ≡ true) × (first_words 8 0 1 ≡ [])
  -- P7: width 16, p = 256, t = 512: first words 2, 258, ... 65,282. p = 512: t = 512 not used; t = 256 used, empty
  pub p7_many : (used 256 512 ≡ true) × (first_words 16 256 512 ≡ map (λ (i : ℕ). 2 + 256 * i) (count_up 0 256))
  pub p7_unused : used 512 512 ≡ false
  pub p7_none : (used 512 256 ≡ true) × (first_words 16 512 256 ≡ [])
  -- P8: width 64, p = 1, t = 2^64 - 1: that word alone
  pub p8 : (used 1 (2 ^ 64 - 1) ≡ true) × ((f : ℕ) → f < 2 ^ 64 → (solves 64 1 (2 ^ 64 - 1) f ≡ true) ↔ (f ≡ 2 ^ 64 - 1))
  -- P9: `c1 !` gives way to `c254` in its slot where the target is all 254
  pub p9_before : (get_or (bank9 zeros) 9 no_atom).form ≡ Constant 1 ∷ (Not ∷ [])
  pub p9_after : (get_or (bank9 (replicate 16 254)) 9 no_atom).form ≡ Constant 254 ∷ []
  -- P10: seeds 5 and 1, not 4
  pub p10_seeds : seeds_of target10 ≡ 5 ∷ replicate 7 1
  pub p10_counts : (length (bank9 zeros) ≡ 17) × (length (bank9 target10) ≡ 18)
  pub p10_forms : ((get_or (bank9 target10) 1 no_atom).form ≡ Constant 1 ∷ []) × ((get_or (bank9 target10) 17 no_atom).form ≡ Constant 5 ∷ [])
  -- the last line: target word 256 at width 8 is refused 5; 255 passes
  pub last_256 : bank_refusal 1 8 (points (count_up 0 16)) (256 ∷ replicate 15 0) exact ≡ 5
  pub last_255 : bank_refusal 1 8 (points (count_up 0 16)) (255 ∷ replicate 15 0) exact ≡ 0
