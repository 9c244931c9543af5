-- `index_maps::inner::prepare` meets its contract: the first part is filled, and the heads of the second are cleared. Assumes nothing.
use mathlib.Core.Path.{◌≡◌, refl, sym, ◌∙◌, subst}
use mathlib.Core.List.{List}
use Prim.Native.Nat.{ℕ, ◌-◌, ◌≤◌}
use borrow.Author.Rules.{rules}
use borrow.Rule.Slice.PartMut.{put_mid}
use lib.ListN.{length, take, drop}
use Rattle.row_map.specs.Map.{Held}
use Rattle.row_map.proofs.MapLaws.{held-empty}
use Rattle.index_maps.specs.Area.{bank_bits, bank_area}
use Rattle.index_maps.proofs.AreaLaws.{front_kept, front_lent, back_lent}
use Rattle.index_maps.proofs.inner.prepare.Goals as goal

pub returns : goal.returns
returns c =
    let rows = c.args.atoms.now in
    let work = c.args.work.now in
    let new = c.fill_bank_map.new.map in
    let one = put_mid 0 (bank_area - 0) work new in
    let back = c.clear.new.work in
    let long : length new ≡ bank_area = search rules in
    let size : bank_area ≤ length one = search rules in
    record {
      bank = subst (λ (z : List ℕ). Held z rows bank_bits c.args.job.count) (sym (front_kept bank_area (length one) one back size ∙ front_lent bank_area work new long)) c.fill_bank_map.ensures;
      pairs = λ pairRows. subst (λ (z : List ℕ). Held z pairRows c.args.job.bits 0) (sym (back_lent bank_area (length one) one back size refl ∙ c.clear.ensures))
          (held-empty (take (length one - bank_area) (drop bank_area one)) pairRows c.args.job.bits);
    }
