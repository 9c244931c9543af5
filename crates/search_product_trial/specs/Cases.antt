-- 02, 2.4 in small cases, worked out by hand; proofs/Worked has their proofs. Width 8; a row here is one word, sixteen times. Assumes nothing.
use Rattle.std.specs.Prelude.{◌≡◌, ℕ, length, replicate, take}
use mathlib.Core.List.{List, [], ◌∷◌, ◌++◌, map, flat_map}
use Rattle.std.proofs.Math.Option.{Option, none, some}
use Rattle.expr.specs.Formula.{opcode_of, operand_of}
use Rattle.expr.specs.declared.Token.{Token}
use Rattle.expr.specs.declared.Token.TheVariants.{Constant, Variable, Binary, Neg}
use Rattle.row_gates.specs.declared.Gate.TheVariants.{And}
use Rattle.search_product_forms.specs.Forms.{Forms}
use Rattle.search_product_trial.specs.Trying.{Product, try_everything}
use Rattle.search_product_trial.specs.Trying.Product.{of_atoms, of_pair}

-- an atom: its formula and its row. A pair: gate, b, c and its row
pub record Lends : Type 0 where
  pub form : List Token
  pub row : List ℕ

abbrev pub lends : List Token → ℕ → Lends
lends form word = record { form = form; row = replicate 16 word }

pub record Lists : Type 0 where
  pub words : List ℕ
  pub row : List ℕ

abbrev pub lists : ℕ → ℕ → ℕ → ℕ → Lists
lists gate b c word = record { words = gate ∷ (b ∷ (c ∷ [])); row = replicate 16 word }

-- the arrays: six places an atom, past its formula opcode 255 and operand 0
abbrev pub six_of : ℕ → List ℕ → List ℕ
six_of d l = take 6 (l ++ replicate 6 d)

abbrev pub arrays_of : List Lends → List Lists → Forms
arrays_of atoms pairs = record {
  lengths = map (λ (a : Lends). length a.form) atoms;
  ops = flat_map (λ (a : Lends). six_of 255 (map opcode_of a.form)) atoms;
  operands = flat_map (λ (a : Lends). six_of 0 (map operand_of a.form)) atoms;
  pairs = flat_map (λ (p : Lists). p.words) pairs;
}

-- a row whose first word is another
abbrev pub from : ℕ → ℕ → List ℕ
from first word = first ∷ replicate 15 word

-- what is found for a target
abbrev pub FindsRow : List Lends → List Lists → List ℕ → Option Product → Type 0
FindsRow atoms pairs target found =
    try_everything 8 (length atoms) (flat_map (λ (a : Lends). a.row) atoms) (length pairs) (flat_map (λ (p : Lists). p.row) pairs) target (arrays_of atoms pairs)
    ≡ found

-- .. of one word
abbrev pub Finds : List Lends → List Lists → ℕ → Option Product → Type 0
Finds atoms pairs target found = FindsRow atoms pairs (replicate 16 target) found

-- formulas: the constant 1, v0, 1 And 1, 1 negated twice and v0 five times
abbrev pub one : List Token
one = Constant 1 ∷ []

abbrev pub v0 : List Token
v0 = Variable 0 ∷ []

abbrev pub anded : List Token
anded = Constant 1 ∷ (Constant 1 ∷ (Binary And ∷ []))

abbrev pub twice : List Token
twice = Constant 1 ∷ (Neg ∷ (Neg ∷ []))

abbrev pub often : List Token
often = Variable 0 ∷ (Neg ∷ (Neg ∷ (Neg ∷ (Neg ∷ (Neg ∷ [])))))

pub record Cases : Type 0 where
  -- over atom pairs and listed pairs together: atom 1 with itself fits (15, 1, 7), and atom 0 with the pair is cheaper (5, 0, 3)
  pub together : Finds (lends one 3 ∷ (lends often 1 ∷ [])) (lists 0 0 0 171 ∷ []) 1 (some (of_pair 0 0))
  -- among equal costs the earlier: of atoms, a ascending, then b ascending
  pub first-atoms : Finds (lends one 1 ∷ (lends one 1 ∷ [])) [] 1 (some (of_atoms 0 0))
  -- two atoms before an atom and a pair: both (5, 0, 3)
  pub atoms-first : Finds (lends one 3 ∷ (lends anded 171 ∷ [])) (lists 0 0 0 171 ∷ []) 1 (some (of_atoms 0 1))
  -- pairs by first word where the rule says "used": 2 × 129 and 2 × 1 are 2 modulo 256
  pub by_first-word : Finds (lends v0 2 ∷ []) (lists 0 0 0 129 ∷ (lists 0 0 0 1 ∷ [])) 2 (some (of_pair 0 1))
  -- by slot otherwise: with first words 0 and 0 it says "not used", and 5 comes before 1
  pub by_slot : FindsRow (record { form = v0; row = from 0 3 } ∷ []) (record { words = 0 ∷ (0 ∷ (0 ∷ [])); row = from 5 171 } ∷ (record { words = 0 ∷ (0 ∷ (0 ∷ [])); row = from 1 171 } ∷ [])) (from 0 1) (some (of_pair 0 0))
  -- the pair's gate counts: v0 × (v0 × v0) is (9, 2, 3), v0 × (v0 And v0) is (7, 1, 3)
  pub gate-counts : Finds (lends v0 3 ∷ []) (lists 4 0 0 171 ∷ (lists 0 0 0 171 ∷ [])) 1 (some (of_pair 0 1))
  -- sizes alone don't decide: v0 × v0 is (5, 1, 2), 1 × (1 And 1) is (5, 0, 3)
  pub products_decide : Finds (lends v0 3 ∷ (lends one 5 ∷ (lends anded 53 ∷ []))) [] 9 (some (of_atoms 1 2))
  -- nor sizes and products: 1 × (1 Neg Neg) is (5, 0, 4), 1 × (1 And 1) is (5, 0, 3)
  pub depth_decides : Finds (lends one 5 ∷ (lends twice 53 ∷ (lends one 7 ∷ (lends anded 111 ∷ [])))) [] 9 (some (of_atoms 2 3))
  -- 3 for variables on both sides: v0 × v0 is (5, 1, 2), 1 × v0 is (3, 0, 2)
  pub both_sides : Finds (lends v0 3 ∷ (lends one 9 ∷ (lends v0 1 ∷ []))) [] 9 (some (of_atoms 1 2))
  -- nothing fits
  pub nothing : Finds (lends one 2 ∷ []) (lists 0 0 0 2 ∷ []) 1 none
