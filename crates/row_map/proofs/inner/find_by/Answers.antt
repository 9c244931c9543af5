-- `row_map::inner::find_by` meets its contract: no slot from the entry on has the row, and links fall, so that the walk ends. Assumes nothing.
use mathlib.Core.Path.{◌≡◌, sym, ap, ◌∙◌, subst}
use Prim.Native.Nat.{ℕ, ◌+◌, ◌-◌, ◌%◌, ◌^◌}
use native.Mathlib.Omega.{arith}
use lib.ListN.{get_or}
use Rattle.arrays.specs.Parts.{part_at}
use Rattle.limits.proofs.Refusals.{true_not_false}
use Rattle.row_gates.proofs.Rows.{same-row_eq, same-row_of}
use Rattle.row_map.specs.Map.{home_of, homes_of, Top}
use Rattle.row_map.proofs.Walks.{walk_start, walk_on}
use Rattle.row_map.proofs.inner.find_by.Goals as goal

pub loop-entry-init : goal.loop-entry-init
unfolding home_of
loop-entry-init c =
    let homed : c.home_of-home.result ≡ home_of c.args.bits c.args.row
    = c.home_of-home.ensures.0 ∙ ap (λ (x : ℕ). x % 2 ^ c.args.bits) c.requires.print_value in
    let h = c.home_of-home in
    let bits = c.args.bits in
    let rows = c.args.rows.now in
    let row = c.args.row in
    walk_start (homes_of bits rows) (home_of bits row) (λ (t : ℕ). part_at 16 rows t ≡ row) (λ t e. ap (home_of bits) e) c.args.n _
    (subst (λ (k : ℕ). Top (homes_of bits rows) c.args.n k (get_or c.args.work.now h.result 0)) homed (c.requires.searchable.held.chained.heads h.result h.ensures.1))

pub returns-then-same_row : goal.returns-then-same_row
returns-then-same_row c =
    let walk = c.loop-entry.invariant in
    record {
      below = omega (arith, walk.within);
      same = same-row_eq _ _ (sym c.same_row.ensures ∙ c.if-same_row.true);
      newest = λ t le lt. walk.none t (omega arith) lt;
    }

pub loop-entry-smaller : goal.loop-entry-smaller
loop-entry-smaller c =
    let link : let slot = c.loop-entry.entry - 1 in
    Top (homes_of c.args.bits c.args.rows.now) slot (homes_of c.args.bits c.args.rows.now slot) (get_or c.args.work.now (c.heads-links.result + slot) 0)
    = rw c.heads-links.ensures (c.requires.searchable.held.chained.links (c.loop-entry.entry - 1) (omega (arith, c.loop-entry.invariant.within))) in
    let top = link in
    omega (arith, top.within)

pub loop-entry-preserved : goal.loop-entry-preserved
loop-entry-preserved c =
    let link : let slot = c.loop-entry.entry - 1 in
    Top (homes_of c.args.bits c.args.rows.now) slot (homes_of c.args.bits c.args.rows.now slot) (get_or c.args.work.now (c.heads-links.result + slot) 0)
    = rw c.heads-links.ensures (c.requires.searchable.held.chained.links (c.loop-entry.entry - 1) (omega (arith, c.loop-entry.invariant.within))) in
    let cur = c.loop-entry.entry in
    let bits = c.args.bits in
    let rows = c.args.rows.now in
    let row = c.args.row in
    walk_on (homes_of bits rows) (home_of bits row) (λ (c : ℕ). part_at 16 rows c ≡ row) (λ c e. ap (home_of bits) e) c.args.n cur (cur - 1) _ (omega arith)
    (λ e. true_not_false (sym (same-row_of e) ∙ sym c.same_row.ensures ∙ c.if-same_row.false))
    link
    c.loop-entry.invariant

pub returns : goal.returns
unfolding home_of
returns c =
    let homed : c.home_of-home.result ≡ home_of c.args.bits c.args.row
    = c.home_of-home.ensures.0 ∙ ap (λ (x : ℕ). x % 2 ^ c.args.bits) c.requires.print_value in
    record { none = λ k lt. c.loop-entry.invariant.none k (omega arith) lt; home = homed; small = c.home_of-home.ensures.1 }
