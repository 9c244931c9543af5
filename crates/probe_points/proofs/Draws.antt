-- Laws of draws: one word more, one point more. Assumes nothing.
use Rattle.std.proofs.Common.{◌≡◌, ℕ, zero, suc, ◌+◌, ◌-◌, ◌%◌, ◌^◌, ◌<◌, List, [], ◌∷◌, ◌++◌, length, take, set, replicate, sym, refl, ap, ◌∙◌, ap₂, add-one, arith, take-suc-set}
use lib.Seq.{set_at, append_snoc}
use Rattle.probe_points.specs.declared.Point.{Point}
use Rattle.probe_points.specs.Points.{next_state, word_of, state_after, words_from, point_from, points_from}

pub state-after-suc : (n s : ℕ) → next_state (state_after n s) ≡ state_after (suc n) s
unfolding state_after
state-after-suc zero s = refl
state-after-suc (suc n) s = state-after-suc n (next_state s)

pub length-words : (w n s : ℕ) → length (words_from w n s) ≡ n
unfolding words_from
length-words w zero s = refl
length-words w (suc n) s = ap suc (length-words w n (next_state s))

words_snoc : (w n s : ℕ) → words_from w n s ++ ((word_of (next_state (state_after n s)) % 2 ^ w) ∷ []) ≡ words_from w (suc n) s
unfolding words_from state_after
words_snoc w zero s = refl
words_snoc w (suc n) s = ap (λ (l : List ℕ). (word_of (next_state s) % 2 ^ w) ∷ l) (words_snoc w n (next_state s))

-- one word more, in the first place that holds 0
pub word_more : (w i s v : ℕ) → i < 6 → v ≡ word_of (next_state (state_after i s)) % 2 ^ w
    → set (words_from w i s ++ replicate (6 - i) 0) i v ≡ words_from w (i + 1) s ++ replicate (6 - (i + 1)) 0
word_more w i s v h e =
    let k : 6 - i ≡ suc (6 - (i + 1)) = omega arith in
    ap (λ (n : ℕ). set (words_from w i s ++ replicate n 0) i v) k
    ∙ set_at (words_from w i s) 0 (replicate (6 - (i + 1)) 0) v i (length-words w i s)
    ∙ sym (append_snoc (words_from w i s) v (replicate (6 - (i + 1)) 0))
    ∙ ap (λ (x : ℕ). (words_from w i s ++ (x ∷ [])) ++ replicate (6 - (i + 1)) 0) e
    ∙ ap (λ (l : List ℕ). l ++ replicate (6 - (i + 1)) 0) (words_snoc w i s ∙ ap (λ (n : ℕ). words_from w n s) (sym (add-one i)))

-- one point more: those made and those still to come stay the same list
pub point-more : (nv w k : ℕ) (points : List Point) (p : Point) (state next : ℕ) → k < 16 → length points ≡ 16 → p ≡ point_from nv w state → next ≡ state_after nv state
    → take (k + 1) (set points k p) ++ points_from nv w (16 - (k + 1)) next ≡ take k points ++ points_from nv w (16 - k) state
unfolding points_from
point-more nv w k points p state next h l e f =
    let rest : List Point = points_from nv w (16 - (k + 1)) next in
    let n : 16 - k ≡ suc (16 - (k + 1)) = omega arith in
    ap (λ (x : List Point). x ++ rest) (ap (λ (j : ℕ). take j (set points k p)) (add-one k) ∙ take-suc-set points k p (omega arith))
    ∙ append_snoc (take k points) p rest
    ∙ ap₂ (λ (x : Point) (s : ℕ). take k points ++ (x ∷ points_from nv w (16 - (k + 1)) s)) e f
    ∙ ap (λ (j : ℕ). take k points ++ points_from nv w j state) (sym n)
