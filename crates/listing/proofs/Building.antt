-- Laws of a bank and its index in lent arrays. Assumes nothing.
use mathlib.Core.Path.{◌≡◌, sym, ap, ap₂, ◌∙◌}
use mathlib.Core.List.{List, [], map}
use Prim.Native.Nat.{ℕ, ◌+◌, ◌*◌, ◌≤◌, ◌<◌}
use native.Mathlib.Omega.{arith}
use lib.ListN.{length, get_or, length-map}
use lib.Seq.{ext_get_or}
use Rattle.arrays.specs.Parts.{spread}
use Rattle.arrays.proofs.Lists.{get_d_map}
use Rattle.probe_points.specs.declared.Point.{Point}
use Rattle.index_trial.specs.declared.inner.Tally.{Tally}
use Rattle.index_spec.specs.Index.{Index, all_gates, rows_of, index_of}
use Rattle.index_spec.specs.Encoding.{pair_part}
use Rattle.index.specs.Build.{lent_index}
use Rattle.index.specs.Steps as index
use Rattle.index_spec.proofs.RowLaws.{length-rows_of, rows_at}
use Rattle.bank_spec.specs.Push.{Atom, no_atom}
use Rattle.bank_spec.specs.Bank.{bank_of}
use Rattle.bank_spec.specs.Encoding.{Arrays, written}
use Rattle.bank_spec.proofs.Encodings.{length_at, row_at}
use Rattle.bank_spec.proofs.Banks.{bank-is_sound}
use Rattle.bank_unary.specs.Phases.{Asked, Holding, Phase}
use Rattle.text_print.specs.Text.{listing_of}
use Rattle.text_print.specs.Printing.{Wrote}
use Rattle.text_print.proofs.Decimals.{reads}
use Rattle.listing.specs.declared.inner.Demand.{Demand}
use Rattle.listing.specs.Listing.{count_of, width_of, limit_of, points_of, target_of, bank_for, text_for}
use Rattle.listing.specs.Steps.{bank_index, IsDemand, atoms_for, index_for, Both}

-- the lent rows of a bank are its atoms' rows
rows-joined : (bank : List Atom) (old : Arrays) (n : ℕ) → n ≡ length bank → ((k : ℕ) → k < length bank → length (get_or bank k no_atom).row ≡ 16)
    → rows_of n (written bank old).rows ≡ map (λ (a : Atom). a.row) bank
rows-joined bank old n e wide =
    let rows = (written bank old).rows in
    let long : length (rows_of n rows) ≡ n = length-rows_of n rows in
    let all : length (map (λ (a : Atom). a.row) bank) ≡ length bank = length-map bank (λ (a : Atom). a.row) in
    ext_get_or [] (rows_of n rows) (map (λ (a : Atom). a.row) bank) (long ∙ e ∙ sym all)
    (λ k h. rows_at n rows k (omega arith) ∙ row_at bank old k (omega arith) (wide k (omega arith)) ∙ sym (get_d_map (λ (a : Atom). a.row) bank k no_atom [] (omega arith)))

module _ (nv w limit : ℕ) (points : List Point) (target : List ℕ) (a a' : Arrays) (work' : List ℕ) (n : ℕ) (asked : Asked nv w) (phase : Phase a a' work' n (bank_of nv w points target)) where
  abbrev bank : List Atom
  bank = bank_of nv w points target

  -- the index of the lent rows is the bank's
  index-joined : lent_index w n a'.rows limit ≡ bank_index w limit bank
  index-joined =
      ap (index_of w limit all_gates) (ap (λ (x : Arrays). rows_of n x.rows) phase.bank.arrays ∙ rows-joined bank a n phase.bank.count phase.bank.wide)

  pub few-built : n ≤ 479
  few-built = omega (arith, phase.bank.count, (bank-is_sound nv w points target asked.least asked.most).few)

  short : (k : ℕ) → k < n → get_or a'.lengths k 0 ≤ 6
  short k h =
      let count = phase.bank.count in
      let e : get_or a'.lengths k 0 ≡ length (get_or bank k no_atom).form = ap (λ (x : Arrays). get_or x.lengths k 0) phase.bank.arrays ∙ length_at bank a k (omega arith) in
      omega (arith, e, (bank-is_sound nv w points target asked.least asked.most).tokens k (omega arith))

  -- what the index build asks for
  pub index-fits : (pairs listed slots : List ℕ) → limit ≤ 500 → 4 * (500 + 479) ≤ length work' → 3 * 500 ≤ length pairs → 16 * 500 ≤ length listed → 500 ≤ length slots
      → index.Fits w n limit a'.rows work' pairs listed slots
  index-fits pairs listed slots h area p l o = record {
    width = asked.width;
    few = few-built;
    atoms = omega (arith, few-built, phase.ready.room.rows);
    most = omega arith;
    pairs-fit = omega (arith, p);
    rows_fit = omega (arith, l);
    order-fit = omega (arith, o);
    area = omega (arith, area);
  }

  -- bank and index
  pub both-built : (pairs listed slots pairs' listed' slots' : List ℕ) (r : Tally) → limit ≤ 500 → 3 * 500 ≤ length pairs'
      → index.Made w n limit a'.rows pairs listed slots pairs' listed' slots' r
      → Both a'.lengths a'.ops a'.operands a'.costs n pairs' r.pairs r.cut bank (bank_index w limit bank)
  both-built pairs listed slots pairs' listed' slots' r h room made = record {
    shown = record {
      few = few-built;
      lengths-fit = omega (arith, few-built, phase.ready.room.texts.lengths);
      ops-fit = omega (arith, few-built, phase.ready.room.texts.ops);
      operands-fit = omega (arith, few-built, phase.ready.room.texts.operands);
      costs-fit = omega (arith, few-built, phase.ready.room.texts.costs);
      short = short;
      some = omega (arith, made.within);
      pairs-fit = omega (arith, made.within);
    };
    holding = record {
      old = a;
      rows = a'.rows;
      old_pairs = pairs;
      arrays = sym phase.bank.arrays;
      pairs-are = made.pairs-are ∙ ap (λ (i : Index). spread 3 pair_part i.pairs pairs) index-joined;
      count = phase.bank.count;
      pair-count = made.count-is ∙ ap (λ (i : Index). length i.pairs) index-joined;
      mark = made.mark-is ∙ ap (λ (i : Index). i.cut) index-joined;
    };
  }

-- the same of a bank that is built and may be listed
module _ (d : Demand) (a : Arrays) (work : List ℕ) (n : ℕ) (is : IsDemand d) (h : Holding a work n (atoms_for d)) where
  abbrev phase : Phase a a work n (atoms_for d)
  phase = record { ready = h.ready; bank = h.bank }

  pub demand-fits : (pairs listed slots : List ℕ) → 4 * (500 + 479) ≤ length work → 3 * 500 ≤ length pairs → 16 * 500 ≤ length listed → 500 ≤ length slots
      → index.Fits d.setting.w n d.limit a.rows work pairs listed slots
  demand-fits pairs listed slots area p l o =
      index-fits d.setting.nv d.setting.w d.limit d.setting.points d.target a a work n is.asked phase pairs listed slots is.most area p l o

  pub demand-built : (pairs listed slots pairs' listed' slots' : List ℕ) (r : Tally) → 3 * 500 ≤ length pairs'
      → index.Made d.setting.w n d.limit a.rows pairs listed slots pairs' listed' slots' r
      → Both a.lengths a.ops a.operands a.costs n pairs' r.pairs r.cut (atoms_for d) (index_for d)
  demand-built pairs listed slots pairs' listed' slots' r room made =
      both-built d.setting.nv d.setting.w d.limit d.setting.points d.target a a work n is.asked phase pairs listed slots pairs' listed' slots' r is.most room made

-- the text of the numbers' own points and target
pub text-is : (ns : List ℕ) (points : List Point) (target : List ℕ) {out out' : List ℕ} {r : ℕ} → points ≡ points_of ns → target ≡ target_of ns
    → Wrote out 0 out' r (listing_of (bank_of (count_of ns) (width_of ns) points target) (bank_index (width_of ns) (limit_of ns) (bank_of (count_of ns) (width_of ns) points target)))
    → Wrote out 0 out' r (text_for ns)
unfolding text_for bank_for
text-is ns points target p t wrote =
    reads (ap₂ (λ (ps : List Point) (row : List ℕ). listing_of (bank_of (count_of ns) (width_of ns) ps row) (bank_index (width_of ns) (limit_of ns) (bank_of (count_of ns) (width_of ns) ps row))) p t) wrote
