-- Laws of the map for those who call it: it is empty after `clear`, it takes one slot more, it speaks of the rows below n alone, and what each
-- case of `Lookup` gives. Assumes nothing.
use mathlib.Core.Path.{◌≡◌, sym, ap, ◌∙◌, subst}
use mathlib.Core.Logic.{inl, inr}
use mathlib.Core.List.{List}
use Prim.Native.Nat.{ℕ, ◌+◌, ◌*◌, ◌^◌, ◌≤◌, ◌<◌}
use native.Mathlib.Decide.{ℕ_discrete}
use native.Mathlib.Nat.{mod-lt}
use native.Mathlib.Omega.{arith}
use borrow.Author.Count.{below_more}
use lib.ListN.{length, drop, get_or, set, replicate, length-set, length-replicate, get_or-replicate, get_or-append}
use lib.Pow.{pow_pos}
use lib.Seq.{get_or-set_same, get_or-set_other}
use Rattle.arrays.specs.Parts.{part_at, put_part}
use Rattle.arrays.proofs.Parts.{part_put-same, part_put_other}
use Rattle.limits.proofs.Refusals.{le_or_lt}
use Rattle.row_fingerprint.specs.Fingerprint.{fingerprint_of}
use Rattle.row_map.specs.Map.{home_of, homes_of, Top, Chained, Held, cleared, Hit, Miss, FindOk, Inserted}
use Rattle.row_map.specs.declared.Lookup.{Lookup}
use Rattle.row_map.specs.declared.Lookup.TheVariants.{At, Free}

-- every row has a chain
pub home-small : (bits : ℕ) (row : List ℕ) → home_of bits row < 2 ^ bits
unfolding home_of
home-small bits row = mod-lt (fingerprint_of row) (pow_pos bits)

-- ---- one entry
-- an entry that is known by an equation
top_eq : {home : ℕ → ℕ} {n h v : ℕ} (w : ℕ) → w ≡ v → Top home n h v → Top home n h w
top_eq w e top = record {
  within = rw e top.within;
  homed = λ s es. top.homed s (sym e ∙ es);
  newest = λ t le lt. top.newest t (rw e at le) lt;
}

top_none : (home : ℕ → ℕ) (h : ℕ) → Top home 0 h 0
top_none home h = record { within = omega arith; homed = λ s e. absurd (omega arith); newest = λ t le lt. absurd (omega arith) }

-- the chain that slot n joins
top_joined : (home : ℕ → ℕ) (n h v : ℕ) → home n ≡ h → v ≡ n + 1 → Top home (n + 1) h v
top_joined home n h v e ev = record {
  within = omega arith;
  homed = λ s es. let same : s ≡ n = omega arith in rw same e;
  newest = λ t le lt. absurd (omega arith);
}

-- the other chains
top_kept : {home : ℕ → ℕ} {n h v : ℕ} → (home n ≡ h → ⊥) → Top home n h v → Top home (n + 1) h v
top_kept {home} {n} {h} {v} other top = record {
  within = omega (arith, top.within);
  homed = top.homed;
  newest = λ t le lt. below_more (λ (k : ℕ). v ≤ k → home k ≡ h → ⊥) n (λ k l g. top.newest k g l) (λ _. other) t lt le;
}

-- ---- the chains
-- where every head is 0
pub chained-none : (work : List ℕ) (home : ℕ → ℕ) (bits : ℕ) → ((h : ℕ) → h < 2 ^ bits → get_or work h 0 ≡ 0) → Chained work home bits 0
chained-none work home bits zeros = record {
  heads = λ h l. top_eq _ (zeros h l) (top_none home h);
  links = λ t l. absurd (omega arith);
}

-- after `clear`, whatever the area held before
pub held-empty : (work rows : List ℕ) (bits : ℕ) → Held (cleared bits work) rows bits 0
unfolding cleared
held-empty work rows bits = record {
  chained = chained-none (cleared bits work) (homes_of bits rows) bits
      (λ h l. get_or-append (replicate (2 ^ bits) 0) (drop (2 ^ bits) work) 0 h (rw length-replicate l) ∙ get_or-replicate (2 ^ bits) h 0 0 l);
}

-- slot n is the newest of its chain, and its link leads to the one that was
pub chained_more : (work : List ℕ) (home : ℕ → ℕ) (bits n h : ℕ) → 2 ^ bits + n < length work → h < 2 ^ bits → h ≡ home n
    → Chained work home bits n → Chained (set (set work (2 ^ bits + n) (get_or work h 0)) h (n + 1)) home bits (n + 1)
chained_more work home bits n h room small e held = record {
  heads = λ k l. elim (ℕ_discrete k h) [
    | yes same ↦ top_joined home n k _ (sym e ∙ sym same)
        (ap (λ (i : ℕ). get_or new i 0) same ∙ get_or-set_same one h (n + 1) 0 (rw length-set (omega arith)))
    | no other ↦ top_kept (λ q. other (sym q ∙ sym e))
        (top_eq _ (get_or-set_other one h k (n + 1) 0 other ∙ get_or-set_other work (2 ^ bits + n) k (get_or work h 0) 0 (omega arith)) (held.heads k l))
  ];
  links = below_more (λ (t : ℕ). Top home t (home t) (get_or new (2 ^ bits + t) 0)) n
      (λ t l. top_eq _ (get_or-set_other one h (2 ^ bits + t) (n + 1) 0 (omega arith) ∙ get_or-set_other work (2 ^ bits + n) (2 ^ bits + t) (get_or work h 0) 0 (omega arith)) (held.links t l))
      (top_eq _ (get_or-set_other one h (2 ^ bits + n) (n + 1) 0 (omega arith) ∙ get_or-set_same work (2 ^ bits + n) (get_or work h 0) 0 room)
      (subst (λ (k : ℕ). Top home n k (get_or work h 0)) e (held.heads h small)));
}
  where
    one : List ℕ
    one = set work (2 ^ bits + n) (get_or work h 0)

    new : List ℕ
    new = set one h (n + 1)

-- the map speaks of the rows below n alone
top_agree : (home home' : ℕ → ℕ) (n h v : ℕ) → ((t : ℕ) → t < n → home t ≡ home' t) → Top home n h v → Top home' n h v
top_agree home home' n h v same top = record {
  within = top.within;
  homed = λ s e. sym (same s (omega (arith, top.within))) ∙ top.homed s e;
  newest = λ t le lt e. top.newest t le lt (same t lt ∙ e);
}

pub held_agree : {work rows : List ℕ} {bits n : ℕ} (rows' : List ℕ) → ((t : ℕ) → t < n → part_at 16 rows t ≡ part_at 16 rows' t)
    → Held work rows bits n → Held work rows' bits n
held_agree {work} {rows} {bits} {n} rows' same held = record {
  chained = record {
    heads = λ h l. top_agree (homes_of bits rows) (homes_of bits rows') n h _ homes (held.chained.heads h l);
    links = λ t l. subst (λ (k : ℕ). Top (homes_of bits rows') t k (get_or work (2 ^ bits + t) 0)) (homes t l)
        (top_agree (homes_of bits rows) (homes_of bits rows') t _ _ (λ u lu. homes u (omega arith)) (held.chained.links t l));
  };
}
  where
    homes : (t : ℕ) → t < n → homes_of bits rows t ≡ homes_of bits rows' t
    homes t l = ap (home_of bits) (same t l)

-- a row written at n or later
pub held-put : {work rows : List ℕ} {bits n : ℕ} (k : ℕ) (row : List ℕ) {rows' : List ℕ} → n ≤ k → 16 * k + 16 ≤ length rows → length row ≡ 16
    → rows' ≡ put_part 16 rows k row → Held work rows bits n → Held work rows' bits n
held-put {work} {rows} {bits} {n} k row {rows'} later fits long e held =
    held_agree rows'
    (λ t l. sym (part_put_other 16 rows k row fits long t (inl (omega arith))) ∙ ap (λ (z : List ℕ). part_at 16 z t) (sym e))
    held

-- a row written at n and slot n inserted, in either order
pub held-put_insert : {work work' rows : List ℕ} {bits n h : ℕ} (row : List ℕ) {rows' : List ℕ} → 16 * n + 16 ≤ length rows → length row ≡ 16
    → rows' ≡ put_part 16 rows n row → h ≡ home_of bits row → Inserted work work' bits n h → Held work rows bits n → Held work' rows' bits (n + 1)
held-put_insert {work} {work'} {rows} {bits} {n} {h} row {rows'} fits long e home step held =
    record {
      chained = step.chained (homes_of bits rows') (held-put n row (omega arith) fits long e held).chained
          (home ∙ ap (home_of bits) (sym (ap (λ (z : List ℕ). part_at 16 z n) e ∙ part_put-same 16 rows n row fits long)));
    }

-- ---- what a caller of `find` learns in each arm of a match on its answer
pub lookup_at : (bits : ℕ) {n s : ℕ} {rows row : List ℕ} {r : Lookup} → r ≡ At s → FindOk bits rows n row r → Hit rows n row s
lookup_at bits {n} {s} {rows} {row} e ok = subst (λ (g : Lookup). FindOk bits rows n row g) e ok

pub lookup_free : {bits n h : ℕ} {rows row : List ℕ} {r : Lookup} → r ≡ Free h → FindOk bits rows n row r → Miss bits rows n row h
lookup_free {bits} {n} {h} {rows} {row} e ok = subst (λ (g : Lookup). FindOk bits rows n row g) e ok

-- one answer is right: what is found depends on the rows alone, on no content of the area before or after `clear`
pub lookup_one : (bits n : ℕ) (rows row : List ℕ) (r r' : Lookup) → FindOk bits rows n row r → FindOk bits rows n row r' → r ≡ r'
lookup_one bits n rows row (At s) (At t) a b = elim (ℕ_discrete s t) [
  | yes e ↦ ap (λ (k : ℕ). At k) e
  | no other ↦ elim (le_or_lt s t) [
    | inl le ↦ absurd (a.newest t (omega arith) b.below b.same)
    | inr lt ↦ absurd (b.newest s lt a.below a.same)
  ]
]
lookup_one bits n rows row (At s) (Free h) a b = absurd (b.none s a.below a.same)
lookup_one bits n rows row (Free h) (At t) a b = absurd (a.none t b.below b.same)
lookup_one bits n rows row (Free h) (Free k) a b = ap (λ (g : ℕ). Free g) (a.home ∙ sym b.home)
