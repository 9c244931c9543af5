-- Laws of the kept numbers: they ask for what the numbers of the text ask for. Assumes nothing.
use mathlib.Core.Path.{◌≡◌, refl, sym, ap, ap₂, ◌∙◌}
use mathlib.Core.Logic.{inl, inr}
use mathlib.Core.Bool.{true, ◌||◌}
use mathlib.Core.List.{List, [], ◌∷◌, map}
use mathlib.Core.Option.{none, some}
use Rattle.std.specs.Prelude.{Ok}
use Prim.Native.Nat.{ℕ, zero, suc, ◌+◌, ◌*◌, ◌^◌, ◌≤◌, ◌<◌}
use native.Mathlib.Nat.{mul-suc, mul-le-mul_left}
use native.Mathlib.Omega.{arith}
use borrow.Author.Tests.{eqb-true}
use lib.Dec.{ltb}
use lib.ListN.{length, take, drop, length-drop}
use lib.Seq.{length-take-le, get_or-take, get_or-drop, ext_get_or}
use Rattle.arrays.specs.Lists.{count_up}
use Rattle.limits.specs.Refusal.{refuse, bad_count, bad_width, answer}
use Rattle.arrays.proofs.Lists.{bool_cases, false_true}
use Rattle.limits.proofs.Refusals.{within}
use Rattle.probe_points.specs.declared.Point.{Point}
use Rattle.bank_spec.specs.Encoding.{pad_to}
use Rattle.bank_spec.specs.Bank.{bank_of}
use Rattle.row_lent.specs.Range.{reaches}
use Rattle.bank.specs.Build.{points_reach}
use Rattle.text_parse.specs.Text.{listing_many, read_text}
use Rattle.text_parse.specs.Reading.{Keeps, Given}
use Rattle.text_parse.proofs.Rules.{right-many}
use Rattle.text_print.specs.Text.{refused_line, listing_of}
use Rattle.text_print.specs.Printing.{Wrote, text_max}
use Rattle.text_print.proofs.Decimals.{reads}
use Rattle.text_print.proofs.Answers.{answer_nine, answer-refused, answer-text}
use Rattle.listing.specs.Listing.{count_of, width_of, limit_of, point_of, points_of, target_of, numbers_refusal, bank_for, text_for, listing, Laid}
use Rattle.listing.specs.Steps.{point_from, bank_index}
use Rattle.listing.proofs.Refusing.{number_1, none-refused}

-- ---- a text that 9 doesn't turn back has right many numbers
many : (ns : List ℕ) → listing_many ns ≡ true → length ns ≡ 19 + 16 * count_of ns
unfolding listing_many
many [] e = absurd (false_true e)
many (n ∷ ns) e = eqb-true _ _ e

many_read : (text ns : List ℕ) → read_text listing_many text ≡ some ns → length ns ≡ 19 + 16 * count_of ns
many_read text ns e = many ns (right-many listing_many text ns e)

-- ---- what is asked for
-- functions that agree on the numbers counted have the same values
map_same : (f g : ℕ → Point) (i n : ℕ) → ((k : ℕ) → k < i + n → f k ≡ g k) → map f (count_up i n) ≡ map g (count_up i n)
unfolding count_up
map_same f g i zero same = refl
map_same f g i (suc n) same = ap₂ (λ (p : Point) (ps : List Point). p ∷ ps) (same i (omega arith)) (map_same f g (suc i) n (λ k h. same k (omega arith)))

-- `numbers_refusal` by what the numbers ask for
abbrev refusal_with : ℕ → ℕ → ℕ → List Point → List ℕ → ℕ
refusal_with c w L points target =
    refuse (bad_count c) 1 (refuse (bad_width w) 2 (refuse (ltb 500 L) 3 (refuse (points_reach (2 ^ w) c points || reaches (2 ^ w) target) 5 0)))

module _ (numbers ns : List ℕ) (keeps : Keeps numbers ns) (right : length ns ≡ 19 + 16 * count_of ns) where
  count_kept : count_of numbers ≡ count_of ns
  count_kept = keeps.is 0 (omega arith) (omega (arith, right))

  width-kept : width_of numbers ≡ width_of ns
  width-kept = keeps.is 1 (omega arith) (omega (arith, right))

  limit_kept : limit_of numbers ≡ limit_of ns
  limit_kept = keeps.is 2 (omega arith) (omega (arith, right))

  -- n numbers from place b on
  part_kept : (n b : ℕ) → b + n ≤ 115 → b + n ≤ length ns → take n (drop b numbers) ≡ take n (drop b ns)
  part_kept n b h l =
      let one : length (take n (drop b numbers)) ≡ n = length-take-le n (drop b numbers) (omega (arith, length-drop b numbers, keeps.room)) in
      let two : length (take n (drop b ns)) ≡ n = length-take-le n (drop b ns) (omega (arith, length-drop b ns)) in
      ext_get_or 0 (take n (drop b numbers)) (take n (drop b ns)) (one ∙ sym two)
      (λ i m.
      get_or-take n (drop b numbers) i 0 (omega arith)
      ∙ get_or-drop b numbers i 0
      ∙ keeps.is (b + i) (omega arith) (omega arith)
      ∙ sym (get_or-drop b ns i 0)
      ∙ sym (get_or-take n (drop b ns) i 0 (omega arith)))

  module _ (few : count_of ns ≤ 6) where
    point-kept : (k : ℕ) → k < 16 → point_of numbers k ≡ point_of ns k
    unfolding point_of
    point-kept k h =
        let c = count_of ns in
        let up : c * suc k ≤ c * 16 = mul-le-mul_left c (omega arith) in
        let next : c * suc k ≡ c * k + c = mul-suc c k in
        ap (λ (n : ℕ). point_from numbers (3 + n * k) n) count_kept
        ∙ ap (λ (l : List ℕ). record { words = pad_to 6 0 l }) (part_kept c (3 + c * k) (omega (arith, up, next, few)) (omega (arith, up, next, right)))

    points_kept : points_of numbers ≡ points_of ns
    unfolding points_of
    points_kept = map_same (point_of numbers) (point_of ns) 0 16 (λ k h. point-kept k (omega arith))

    target-kept : target_of numbers ≡ target_of ns
    unfolding target_of
    target-kept =
        ap (λ (n : ℕ). take 16 (drop (3 + 16 * n) numbers)) count_kept
        ∙ part_kept 16 (3 + 16 * count_of ns) (omega (arith, few)) (omega (arith, right))

    -- whatever is made of count, width, limit, points and target
    same_asked : {A : Type 0} (f : ℕ → ℕ → ℕ → List Point → List ℕ → A)
        → f (count_of numbers) (width_of numbers) (limit_of numbers) (points_of numbers) (target_of numbers) ≡ f (count_of ns) (width_of ns) (limit_of ns) (points_of ns) (target_of ns)
    same_asked f =
        ap (λ (c : ℕ). f c (width_of numbers) (limit_of numbers) (points_of numbers) (target_of numbers)) count_kept
        ∙ ap₂ (λ (w L : ℕ). f (count_of ns) w L (points_of numbers) (target_of numbers)) width-kept limit_kept
        ∙ ap₂ (f (count_of ns) (width_of ns) (limit_of ns)) points_kept target-kept

    few-kept : numbers_refusal numbers ≡ numbers_refusal ns
    unfolding numbers_refusal
    few-kept = same_asked refusal_with

    text-kept : text_for numbers ≡ text_for ns
    unfolding text_for bank_for
    text-kept = same_asked (λ c w L points target. listing_of (bank_of c w points target) (bank_index w L (bank_of c w points target)))

  -- above six variables nothing past the first number tells
  refusal-kept : numbers_refusal numbers ≡ numbers_refusal ns
  refusal-kept = elim (bool_cases (bad_count (count_of ns))) [
    | inl bad ↦ number_1 numbers (ap bad_count count_kept ∙ bad) ∙ sym (number_1 ns bad)
    | inr good ↦ few-kept (within 1 6 (count_of ns) good).most
  ]

-- ---- the text
pub listing_nine : (text : List ℕ) → read_text listing_many text ≡ none → refused_line 9 ≡ listing text
unfolding listing
listing_nine text e = answer_nine numbers_refusal text_for (read_text listing_many text) e

-- what is written from the buffer's start on
pub laid : (xs ys : List ℕ) {out out' : List ℕ} {r : ℕ} → xs ≡ ys → Wrote out 0 out' r xs → r ≤ text_max → Laid out out' (Ok r) ys
laid xs ys e w h =
    let n : length ys ≡ 0 + length ys = omega arith in
    let same = reads e w in
    record {
      says = ap answer (same.next ∙ sym n);
      fits = omega (arith, same.next, h);
      wrote = record { next = n; laid = same.laid };
    }

-- ---- the numbers of a text that 9 doesn't turn back
module _ (text numbers : List ℕ) (given : Given listing_many numbers text) where
  kept : numbers_refusal numbers ≡ numbers_refusal given.ns
  kept = refusal-kept numbers given.ns given.keeps (many_read text given.ns given.is)

  pub given-refused : (n : ℕ) → n ≡ numbers_refusal numbers → 0 < n → refused_line n ≡ listing text
  unfolding listing
  given-refused n e h = answer-refused numbers_refusal text_for (read_text listing_many text) given.ns given.is n (e ∙ kept) h

  pub given-text : numbers_refusal numbers ≡ 0 → text_for numbers ≡ listing text
  unfolding listing
  given-text e =
      let none : numbers_refusal given.ns ≡ 0 = sym kept ∙ e in
      text-kept numbers given.ns given.keeps (many_read text given.ns given.is) (none-refused given.ns none).few
      ∙ answer-text numbers_refusal text_for (read_text listing_many text) given.ns given.is none
