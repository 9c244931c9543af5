-- 02, 2.1's order of search in small cases, worked out by hand; proofs/Worked has their proofs. A row here is one word, sixteen times. Assumes nothing.
use Rattle.std.specs.Prelude.{◌≡◌, ℕ, replicate}
use mathlib.Core.List.{List, [], ◌∷◌, flat_map}
use Rattle.std.proofs.Math.Option.{Option, none, some}
use Rattle.row_gates.specs.declared.Gate.TheVariants.{Xor, Add}
use Rattle.search_residual_trial.specs.Trying.{Completion, try_residuals}

-- rows of these words, one after the other
abbrev pub rows : List ℕ → List ℕ
rows words = flat_map (λ (v : ℕ). replicate 16 v) words

-- what is found at this width, of atoms with these words, pairs with these words, and a target with this one
abbrev pub Finds : ℕ → ℕ → List ℕ → ℕ → List ℕ → ℕ → Option Completion → Type 0
Finds w count atoms n pairs target found = try_residuals w count (rows atoms) n (rows pairs) (replicate 16 target) ≡ found

pub record Cases : Type 0 where
  -- the whole of it over Xor, then over Add: under Add atom 0 would be completed by itself, and under Xor only atom 1 is, by the pair
  pub xor_first : Finds 2 2 (1 ∷ (2 ∷ [])) 1 (0 ∷ []) 2 (some (Completion.of_pair Xor 1 0))
  -- for each atom first the bank, then the index: atom 0's pair before atom 1's atom
  pub atom-first : Finds 2 3 (0 ∷ (3 ∷ (2 ∷ []))) 1 (1 ∷ []) 1 (some (Completion.of_pair Xor 0 0))
  -- the bank before the index, the least slot first; an atom may complete itself
  pub bank-first : Finds 1 2 (0 ∷ (0 ∷ [])) 2 (0 ∷ (0 ∷ [])) 0 (some (Completion.of_atoms Xor 0 0))
  pub least-pair : Finds 1 1 (1 ∷ []) 2 (0 ∷ (0 ∷ [])) 1 (some (Completion.of_pair Xor 0 0))
  -- under Add where nothing completes under Xor
  pub then_add : Finds 2 1 (1 ∷ []) 0 [] 2 (some (Completion.of_atoms Add 0 0))
  -- 02, 2.3: Xor's row is reduced, so that an atom that reaches 2^w is completed under Xor as well, also by a slot before its own
  pub raw_atom : Finds 2 1 (6 ∷ []) 1 (3 ∷ []) 1 (some (Completion.of_pair Xor 0 0))
  pub slot-before : Finds 1 2 (0 ∷ (3 ∷ [])) 0 [] 1 (some (Completion.of_atoms Xor 1 0))
  pub from-above : Finds 8 2 (257 ∷ (4 ∷ [])) 0 [] 5 (some (Completion.of_atoms Xor 0 1))
  -- and a row that reaches 2^w completes nothing, itself neither. 6 xor 6 is 0, and the atom's whole index is one pair of 0 (`PassedOverIsLost` of index_spec):
  -- so over a lent bank without an atom of zeros "nothing" asks for rows below 2^w
  pub raw_part : Finds 2 1 (6 ∷ []) 1 (0 ∷ []) 0 none
  -- rows past the counts don't count
  pub counted : Finds 2 2 (0 ∷ (1 ∷ (3 ∷ []))) 0 (3 ∷ []) 3 none
  -- all sixteen words do
  pub last_word : try_residuals 1 1 (rows (0 ∷ [])) 1 (rows (1 ∷ [])) (0 ∷ (0 ∷ (0 ∷ (0 ∷ (0 ∷ (0 ∷ (0 ∷ (0 ∷ (0 ∷ (0 ∷ (0 ∷ (0 ∷ (0 ∷ (0 ∷ (0 ∷ (1 ∷ [])))))))))))))))) ≡ none
  pub first_word : try_residuals 1 1 (rows (0 ∷ [])) 1 (rows (1 ∷ [])) (1 ∷ (0 ∷ (0 ∷ (0 ∷ (0 ∷ (0 ∷ (0 ∷ (0 ∷ (0 ∷ (0 ∷ (0 ∷ (0 ∷ (0 ∷ (0 ∷ (0 ∷ (0 ∷ [])))))))))))))))) ≡ none
