-- What one byte does to a reading, and what its end says: the words of the whole text are those done, the one begun, and those of the rest.
-- Assumes nothing.
use Rattle.std.proofs.Common.{◌≡◌, ℕ, zero, suc, ◌+◌, ◌-◌, ◌*◌, ◌%◌, ◌^◌, ◌<◌, ◌≤◌, Bool, true, false, cond, not, ◌&&◌, ◌||◌, eqb, leb, List, [], ◌∷◌, ◌++◌, length, get_or, set, replicate, sym, refl, ap, ◌∙◌, subst, append-nil, mod-eq_of_lt, arith, length-append, length-set, get_or-set_other, get_or-set_same, le-ltb, ne_eqb, leb-true}
use mathlib.Core.Bool.{and-false}
use mathlib.Core.Option.{Option, none, some}
use native.Mathlib.Decide.{ℕ_discrete}
use lib.ListN.{get_or-append, length-replicate}
use lib.Seq.{append_snoc, get_or_at}
use Rattle.std.specs.Prelude.{Some, None}
use Rattle.std.specs.declared.option.Option as Answer
use Rattle.std.proofs.lemmas.Option.{none-some, same_Some}
use Rattle.arrays.proofs.Lists.{false_true}
use Rattle.text_parse.specs.declared.Parse.{Parse}
use Rattle.text_parse.specs.Text.{is_parting, is_digit, all_digits, value_of, is_number, with_word, words_after, words_of, before, numbers_of, listing_many, load_many, if_many, read_text}
use Rattle.text_parse.specs.Reading.{kept, Keeps, ahead, Midway, Reads, Ends}
use Rattle.text_parse.specs.Steps.{Fed, Kept, Parted, AtEnd, answered}
use Rattle.text_parse.proofs.Words.{digits_snoc, value_snoc, spoils, after_parting, after_other, numbers_of_lem, ahead_before, parted_end}

-- ---- bytes
-- a digit is one of 48 to 57, and parts nothing
pub digit_bounds : (b : ℕ) → is_digit b ≡ true → (48 ≤ b) × (b ≤ 57)
digit_bounds b h = go (leb 48 b) (leb b 57) (leb-true 48 b) (leb-true b 57) h
  where
    go : (t u : Bool) → (t ≡ true → 48 ≤ b) → (u ≡ true → b ≤ 57) → (t && u) ≡ true → (48 ≤ b) × (b ≤ 57)
    go true true p q h = (p refl, q refl)
    go true false p q h = absurd (false_true h)
    go false u p q h = absurd (false_true h)

digit_no_parting : (b : ℕ) → is_digit b ≡ true → is_parting b ≡ false
digit_no_parting b h =
    let low = (digit_bounds b h).0 in
    rw (ne_eqb b 32 (λ e. omega arith), ne_eqb b 10 (λ e. omega arith), ne_eqb b 13 (λ e. omega arith))

-- the text's end moved on by one byte
moved : (text : List ℕ) (b : ℕ) (rest : List ℕ) → numbers_of (words_of ((text ++ (b ∷ [])) ++ rest)) ≡ numbers_of (words_of (text ++ (b ∷ rest)))
moved text b rest = ap (λ (l : List ℕ). numbers_of (words_of l)) (append_snoc text b rest)

-- ---- the numbers kept
-- one number more, where there is a place for it and where there is none
pub keeps-set : (numbers done : List ℕ) (count value : ℕ) → count < length numbers → length done ≡ count → Keeps numbers done → Keeps (set numbers count value) (done ++ (value ∷ []))
keeps-set numbers done count value room long k =
    record {
      room = simp length-set k.room;
      is =
          λ i small below.
          elim (ℕ_discrete i count) [
            | yes e ↦ rw (e, get_or-set_same numbers count value 0 (omega arith)) (sym (get_or_at done value [] 0 count long))
            | no n ↦
                let less : i < length done = omega (arith, simp length-append at below) in
                rw (get_or-set_other numbers count i value 0 n, get_or-append done (value ∷ []) 0 i less) (k.is i small less)
          ];
      rest =
          λ i past.
          let after : length done + 1 ≤ i = omega (arith, simp length-append at past) in
          rw (get_or-set_other numbers count i value 0 (λ e. omega (arith, after, e, long))) (k.rest i (omega (arith, after)));
    }

pub keeps-full : (numbers done : List ℕ) (count value : ℕ) → length numbers ≤ count → length done ≡ count → Keeps numbers done → Keeps numbers (done ++ (value ∷ []))
keeps-full numbers done count value full long k =
    record {
      room = k.room;
      is = λ i small below. k.is i small (omega (arith, k.room)) ∙ sym (get_or-append done (value ∷ []) 0 i (omega (arith, k.room)));
      rest =
          λ i past.
          let after : length done + 1 ≤ i = omega (arith, simp length-append at past) in
          k.rest i (omega (arith, after));
    }

-- ---- an empty text
zero_at : (n i : ℕ) → ◌≡◌ {A = ℕ} (get_or (replicate n 0) i 0) 0
zero_at zero i = refl
zero_at (suc n) zero = refl
zero_at (suc n) (suc i) = zero_at n i

ahead_none : (rest : Option (List ℕ)) → ahead [] rest ≡ rest
unfolding ahead
ahead_none none = refl
ahead_none (some ns) = refl

pub begun : (p : Parse) → p.numbers ≡ replicate kept 0 → p.count ≡ 0 → p.value ≡ 0 → p.within ≡ false → p.spoilt ≡ false → Reads p []
unfolding all_digits value_of words_of
begun p zeros count value between clean =
    record {
      midway =
          λ _.
          record {
            done = [];
            word = [];
            few = omega arith;
            count = count;
            keeps =
                record {
                  room = ap length zeros ∙ length-replicate {A = ℕ} kept 0;
                  is = λ i small below. absurd (omega arith);
                  rest = λ i past. ap (λ (l : List ℕ). get_or l i 0) zeros ∙ zero_at kept i;
                };
            digits = refl;
            value = value;
            begun = λ e. absurd (false_true (sym between ∙ e));
            between = λ _. refl;
            splits = λ rest. sym (ahead_none (numbers_of (words_after [] rest)));
          };
      spoilt = λ e. absurd (false_true (sym clean ∙ e));
    }

-- ---- a spoilt text
pub spoilt_stays : (p : Parse) (b : ℕ) → p.spoilt ≡ true → Fed p b p
spoilt_stays p b bad text small h =
    record {
      midway = λ e. absurd (false_true (sym e ∙ bad));
      spoilt = λ _ rest. moved text b rest ∙ h.spoilt bad (b ∷ rest);
    }

-- a byte that makes the word begun no number
spoilt_by : (p r : Parse) (b : ℕ) → p.spoilt ≡ false → r.spoilt ≡ true → is_parting b ≡ false
    → ((word : List ℕ) → p.value ≡ value_of word → is_number (word ++ (b ∷ [])) ≡ false) → Fed p b r
unfolding ahead
spoilt_by p r b clean bad other never text small h =
    let m = h.midway clean in
    record {
      midway = λ e. absurd (false_true (sym e ∙ bad));
      spoilt =
          λ _ rest.
          moved text b rest
          ∙ m.splits (b ∷ rest)
          ∙ ap (λ o. ahead m.done o)
          (ap numbers_of (after_other m.word b rest other) ∙ spoils rest (m.word ++ (b ∷ [])) (never m.word m.value));
    }

pub spoilt_by_byte : (p r : Parse) (b : ℕ) → p.spoilt ≡ false → r.spoilt ≡ true → is_parting b ≡ false → is_digit b ≡ false → Fed p b r
unfolding is_number
spoilt_by_byte p r b clean bad other letter =
    spoilt_by p r b clean bad other (λ word _. rw (digits_snoc word b, letter, and-false (all_digits word)))

pub spoilt_by_value : (p r : Parse) (b : ℕ) → p.spoilt ≡ false → r.spoilt ≡ true → is_digit b ≡ true → 2 ^ 64 ≤ p.value * 10 + (b - 48) → Fed p b r
unfolding is_number
spoilt_by_value p r b clean bad digit big =
    spoilt_by p r b clean bad (digit_no_parting b digit) (λ word v.
    rw (value_snoc word b, le-ltb (value_of word * 10 + (b - 48)) (2 ^ 64) (omega arith), and-false (all_digits (word ++ (b ∷ [])))))

-- ---- a digit
pub longer : (p r : Parse) (b : ℕ) → p.spoilt ≡ false → is_digit b ≡ true → r.numbers ≡ p.numbers → r.count ≡ p.count
    → r.value ≡ p.value * 10 + (b - 48) → r.within ≡ true → r.spoilt ≡ false → Fed p b r
longer p r b clean digit numbers count value within fine text small h =
    let m = h.midway clean in
    record {
      midway =
          λ _.
          record {
            done = m.done;
            word = m.word ++ (b ∷ []);
            few = simp length-append (omega (arith, m.few));
            count = count ∙ m.count;
            keeps = rw numbers m.keeps;
            digits = rw (digits_snoc m.word b, m.digits, digit);
            value = value ∙ ap (λ v. v * 10 + (b - 48)) m.value ∙ sym (value_snoc m.word b);
            begun = λ _. simp length-append (omega arith);
            between = λ e. absurd (false_true (sym e ∙ within));
            splits =
                λ rest.
                moved text b rest
                ∙ m.splits (b ∷ rest)
                ∙ ap (λ ws. ahead m.done (numbers_of ws)) (after_other m.word b rest (digit_no_parting b digit));
          };
      spoilt = λ e. absurd (false_true (sym fine ∙ e));
    }

-- ---- a parting byte
pub closed : (p r : Parse) → p.within ≡ true → p.spoilt ≡ false → p.value < 2 ^ 64
    → Kept p.numbers p.count p.value r.numbers
    → r.count ≡ (p.count + 1) % 2 ^ 64 → r.value ≡ 0 → r.within ≡ false → r.spoilt ≡ false → Parted p r
unfolding all_digits value_of
closed p r within clean low keeps count value between fine =
    record {
      between = between;
      clean = fine;
      reads =
          λ b parting text small h.
          let m = h.midway clean in
          record {
            midway =
                λ _.
                record {
                  done = m.done ++ (p.value ∷ []);
                  word = [];
                  few = simp length-append (omega (arith, m.few));
                  count = count ∙ mod-eq_of_lt (omega (arith, m.few, m.count)) ∙ simp length-append (omega (arith, m.count));
                  keeps = keeps m.done (sym m.count) m.keeps;
                  digits = refl;
                  value = value;
                  begun = λ e. absurd (false_true (sym between ∙ e));
                  between = λ _. refl;
                  splits =
                      λ rest.
                      moved text b rest
                      ∙ m.splits (b ∷ rest)
                      ∙ ap (λ o. ahead m.done o)
                      (ap numbers_of (after_parting m.word b rest parting)
                      ∙ numbers_of_lem m.word (words_after [] rest) (m.begun within) m.digits (omega (arith, m.value, low))
                      ∙ ap (λ v. before v (numbers_of (words_after [] rest))) (sym m.value))
                      ∙ ahead_before m.done p.value (numbers_of (words_after [] rest));
                };
            spoilt = λ e. absurd (false_true (sym fine ∙ e));
          };
    }

-- where no number is begun nothing changes
pub passed : (p : Parse) → p.within ≡ false → p.spoilt ≡ false → Parted p p
unfolding with_word
passed p between clean =
    record {
      between = between;
      clean = clean;
      reads =
          λ b parting text small h.
          let m = h.midway clean in
          record {
            midway =
                λ _.
                record {
                  done = m.done;
                  word = m.word;
                  few = simp length-append (omega (arith, m.few));
                  count = m.count;
                  keeps = m.keeps;
                  digits = m.digits;
                  value = m.value;
                  begun = m.begun;
                  between = m.between;
                  splits =
                      λ rest.
                      moved text b rest
                      ∙ m.splits (b ∷ rest)
                      ∙ ap (λ ws. ahead m.done (numbers_of ws))
                      (rw (m.between between) (after_parting [] b rest parting));
                };
            spoilt = λ e. absurd (false_true (sym clean ∙ e));
          };
    }

-- ---- the end
-- the numbers of a text whose last number is at its end
all_done : (q : Parse) (text : List ℕ) (m : Midway q (text ++ (32 ∷ []))) → m.word ≡ [] → numbers_of (words_of text) ≡ some m.done
unfolding words_of words_after with_word numbers_of ahead
all_done q text m none-begun =
    ap numbers_of (sym (parted_end text [] 32 refl))
    ∙ ap (λ (l : List ℕ). numbers_of (words_of l)) (sym (append-nil (text ++ (32 ∷ []))))
    ∙ m.splits []
    ∙ ap (λ w. ahead m.done (numbers_of (words_after w []))) none-begun
    ∙ ap (λ (l : List ℕ). some l) (append-nil m.done)

-- a parting byte at the end changes no word, and after it all numbers are done
at_end : (p q : Parse) → p.spoilt ≡ false → Parted p q → AtEnd p q
at_end p q clean parted =
    record {
      counts =
          λ _ text small h.
          let m = (parted.reads 32 refl text small h).midway parted.clean in
          record {
            ns = m.done;
            is = all_done q text m (m.between parted.between);
            count = m.count;
            keeps = m.keeps;
          };
      spoilt = λ e. absurd (false_true (sym parted.clean ∙ e));
    }

pub at_end_of : {p q a b : Parse} → p ≡ a → q ≡ b → p.spoilt ≡ false → Parted a b → AtEnd p q
at_end_of {p} {q} {a} {b} e f clean parted =
    at_end p q clean (subst (λ (x : Parse). Parted x q) (sym e) (subst (λ (y : Parse). Parted a y) (sym f) parted))

pub at_end_spoilt : (p : Parse) → p.spoilt ≡ true → AtEnd p p
at_end_spoilt p bad =
    record {
      counts = λ e. absurd (false_true (sym e ∙ bad));
      spoilt = λ _ text h. ap (λ (l : List ℕ). numbers_of (words_of l)) (sym (append-nil text)) ∙ h.spoilt bad [];
    }

-- ---- what is answered, under any rule that the test follows
pub ended : (many : List ℕ → Bool) (p q : Parse) (right : Bool) → AtEnd p q → ((ns : List ℕ) → q.count ≡ length ns → Keeps q.numbers ns → right ≡ many ns)
    → (r : Answer.Option (List ℕ)) → r ≡ answered q right → (text : List ℕ) → length text + 1 < 2 ^ 64 → Reads p text → Ends many r text
unfolding read_text if_many
ended many p q right at follows r e text small h = go q.spoilt right refl refl e
  where
    go : (bad fits : Bool) → q.spoilt ≡ bad → right ≡ fits → r ≡ cond (bad || not fits) None (Some q.numbers) → Ends many r text
    go true fits bad w a =
        record {
          given = λ numbers yes. absurd (none-some numbers (sym a ∙ yes));
          refused = λ _. rw (at.spoilt bad text h);
        }
    go false true clean w a =
        let n = at.counts clean text small h in
        let so : many n.ns ≡ true = sym (follows n.ns n.count n.keeps) ∙ w in
        record {
          given = λ numbers yes. record { ns = n.ns; is = rw (n.is, so); keeps = rw (same_Some numbers q.numbers (sym yes ∙ a)) n.keeps };
          refused = λ no. absurd (none-some q.numbers (sym no ∙ a));
        }
    go false false clean w a =
        let n = at.counts clean text small h in
        let so : many n.ns ≡ false = sym (follows n.ns n.count n.keeps) ∙ w in
        record {
          given = λ numbers yes. absurd (none-some numbers (sym a ∙ yes));
          refused = λ _. rw (n.is, so);
        }

-- the two rules, by the count and the first number
pub listing_follows : (numbers : List ℕ) (count : ℕ) (right : Bool) → right ≡ eqb count (19 + 16 * get_or numbers 0 0) → (ns : List ℕ) → count ≡ length ns → Keeps numbers ns → right ≡ listing_many ns
unfolding listing_many
listing_follows numbers count right is [] e k = is ∙ ne_eqb count (19 + 16 * get_or numbers 0 0) (λ f. omega arith)
listing_follows numbers count right is (n ∷ ns) e k = is ∙ rw (e, k.is 0 (omega arith) (omega arith))

pub load_follows : (count : ℕ) (right : Bool) → right ≡ eqb count 5 → (ns : List ℕ) → count ≡ length ns → right ≡ load_many ns
unfolding load_many
load_follows count right is ns e = is ∙ ap (λ (n : ℕ). eqb n 5) e
