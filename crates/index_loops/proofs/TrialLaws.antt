-- Laws of the list of trials, as the three loops pass through it. Assumes nothing.
use mathlib.Core.Path.{◌≡◌, refl, sym, ap, ◌∙◌}
use mathlib.Core.List.{List, [], ◌∷◌, ◌++◌, map, flat_map, map-append, append-nil}
use Prim.Native.Nat.{ℕ, ◌+◌, ◌-◌, ◌≤◌, ◌<◌}
use native.Mathlib.Numerals.{add-one}
use native.Mathlib.Omega.{arith}
use lib.ListN.{get_or, take, drop, take-append-drop}
use lib.Seq.{take-suc}
use Rattle.row_gates.specs.declared.Gate.{Gate}
use Rattle.row_gates.specs.declared.Gate.TheVariants.{And}
use Rattle.arrays.specs.Lists.{count_up}
use Rattle.index_spec.specs.Index.{Trial, all_gates, first_c, trials_up_to, trials_with, trials_of_gate, trials_of}
use Rattle.index_trial.specs.Steps.{trial}
use Rattle.arrays.proofs.Lists.{count_add, flat_append}

-- ---- c ascending
up-add : (g : Gate) (b k m : ℕ) → trials_up_to g b (k + m) ≡ trials_up_to g b k ++ map (λ (c : ℕ). record { gate = g; b = b; c = c }) (count_up (first_c g b + k) m)
unfolding trials_up_to
up-add g b k m = ap (λ (l : List ℕ). map (λ (c : ℕ). record { gate = g; b = b; c = c }) l) (count_add (first_c g b) k m) ∙ map-append (λ (c : ℕ). record { gate = g; b = b; c = c }) (count_up (first_c g b) k) (count_up (first_c g b + k) m)

pub up_none : (g : Gate) (b : ℕ) → trials_up_to g b 0 ≡ []
unfolding trials_up_to count_up
up_none g b = refl

pub up_start : (g : Gate) (b c : ℕ) → c ≡ first_c g b → [] ≡ trials_up_to g b (c - first_c g b)
up_start g b c e =
    let z : c - first_c g b ≡ 0 = omega arith in
    sym (ap (trials_up_to g b) z ∙ up_none g b)

-- the trial of c is the next
pub up_more : (g : Gate) (b c : ℕ) → first_c g b ≤ c → trials_up_to g b (c - first_c g b) ++ (trial g b c ∷ []) ≡ trials_up_to g b (c + 1 - first_c g b)
unfolding count_up
up_more g b c h =
    let e : first_c g b + (c - first_c g b) ≡ c = omega arith in
    let f : c - first_c g b + 1 ≡ c + 1 - first_c g b = omega arith in
    ap (λ (k : ℕ). trials_up_to g b (c - first_c g b) ++ (trial g b k ∷ [])) (sym e) ∙ sym (up-add g b (c - first_c g b) 1) ∙ ap (trials_up_to g b) f

-- what is left
abbrev pub up_left : Gate → ℕ → ℕ → ℕ → List Trial
up_left g b n c = map (λ (k : ℕ). record { gate = g; b = b; c = k }) (count_up (first_c g b + (c - first_c g b)) (n - c))

pub up_rest : (g : Gate) (b n c : ℕ) → first_c g b ≤ c → c ≤ n → trials_up_to g b (c - first_c g b) ++ up_left g b n c ≡ trials_with n g b
unfolding trials_with
up_rest g b n c h l =
    let f : c - first_c g b + (n - c) ≡ n - first_c g b = omega arith in
    sym (up-add g b (c - first_c g b) (n - c)) ∙ ap (trials_up_to g b) f

pub up-all : (g : Gate) (b n c : ℕ) → c ≡ n → trials_up_to g b (c - first_c g b) ≡ trials_with n g b
unfolding trials_with
up-all g b n c e = ap (λ (k : ℕ). trials_up_to g b (k - first_c g b)) e

-- ---- b ascending: the trials of a gate with the first k atoms
unfoldable pub gate_up_to : ℕ → Gate → ℕ → List Trial
gate_up_to n g k = flat_map (trials_with n g) (count_up 0 k)

gate-add : (n : ℕ) (g : Gate) (k m : ℕ) → gate_up_to n g (k + m) ≡ gate_up_to n g k ++ flat_map (trials_with n g) (count_up (0 + k) m)
unfolding gate_up_to
gate-add n g k m = ap (flat_map (trials_with n g)) (count_add 0 k m) ∙ flat_append (trials_with n g) (count_up 0 k) (count_up (0 + k) m)

pub gate-none : (n : ℕ) (g : Gate) → gate_up_to n g 0 ≡ []
unfolding gate_up_to count_up flat_map
gate-none n g = refl

pub gate-more : (n : ℕ) (g : Gate) (b : ℕ) → gate_up_to n g b ++ trials_with n g b ≡ gate_up_to n g (b + 1)
unfolding count_up flat_map
gate-more n g b =
    let e : 0 + b ≡ b = omega arith in
    ap (λ (l : List Trial). gate_up_to n g b ++ l) (sym (append-nil (trials_with n g b)))
    ∙ ap (λ (k : ℕ). gate_up_to n g b ++ (trials_with n g k ++ [])) (sym e)
    ∙ sym (gate-add n g b 1)

abbrev pub gate_left : ℕ → Gate → ℕ → List Trial
gate_left n g b = flat_map (trials_with n g) (count_up (0 + b) (n - b))

pub gate-rest : (n : ℕ) (g : Gate) (b : ℕ) → b ≤ n → gate_up_to n g b ++ gate_left n g b ≡ trials_of_gate n g
unfolding trials_of_gate gate_up_to
gate-rest n g b h =
    let f : b + (n - b) ≡ n = omega arith in
    sym (gate-add n g b (n - b)) ∙ ap (gate_up_to n g) f

pub gate-all : (n : ℕ) (g : Gate) (b : ℕ) → b ≡ n → gate_up_to n g b ≡ trials_of_gate n g
unfolding trials_of_gate gate_up_to
gate-all n g b e = ap (gate_up_to n g) e

-- ---- gates in number order: the trials of the first k gates
unfoldable pub gates_up_to : ℕ → ℕ → List Trial
gates_up_to n k = flat_map (trials_of_gate n) (take k all_gates)

pub gates-none : (n : ℕ) → gates_up_to n 0 ≡ []
unfolding gates_up_to flat_map
gates-none n = refl

pub gates-more : (n k : ℕ) → k < 5 → gates_up_to n k ++ trials_of_gate n (get_or all_gates k And) ≡ gates_up_to n (k + 1)
unfolding gates_up_to flat_map all_gates
gates-more n k h =
    ap (λ (l : List Trial). gates_up_to n k ++ l) (sym (append-nil (trials_of_gate n (get_or all_gates k And))))
    ∙ sym (flat_append (trials_of_gate n) (take k all_gates) (get_or all_gates k And ∷ []))
    ∙ ap (flat_map (trials_of_gate n)) (sym (ap (λ (j : ℕ). take j all_gates) (add-one k) ∙ take-suc all_gates k And h))

abbrev pub gates_left : ℕ → ℕ → List Trial
gates_left n k = flat_map (trials_of_gate n) (drop k all_gates)

pub gates-rest : (n k : ℕ) → gates_up_to n k ++ gates_left n k ≡ trials_of all_gates n
unfolding gates_up_to trials_of
gates-rest n k = sym (flat_append (trials_of_gate n) (take k all_gates) (drop k all_gates)) ∙ ap (flat_map (trials_of_gate n)) (take-append-drop k all_gates)

pub gates-all : (n k : ℕ) → k ≡ 5 → gates_up_to n k ≡ trials_of all_gates n
unfolding gates_up_to trials_of all_gates
gates-all n k e = ap (gates_up_to n) e
