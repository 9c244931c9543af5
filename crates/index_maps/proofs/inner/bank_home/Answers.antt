-- `index_maps::inner::bank_home` meets its contract: the chain is the fingerprint modulo 2^10. Assumes nothing.
use mathlib.Core.Path.{◌≡◌, sym, ap, ◌∙◌, subst}
use Prim.Native.Nat.{ℕ, ◌%◌, ◌^◌, ◌<◌}
use Rattle.arrays.specs.Parts.{part_at}
use Rattle.row_fingerprint.specs.Fingerprint.{fingerprint_of}
use Rattle.row_map.specs.Map.{home_of}
use Rattle.row_map.proofs.MapLaws.{home-small}
use Rattle.index_maps.specs.Area.{bank_bits}
use Rattle.index_maps.proofs.inner.bank_home.Goals as goal

pub returns : goal.returns
unfolding home_of
returns c =
    let e : c.reduce.result ≡ home_of bank_bits (part_at 16 c.args.atoms.now c.args.i)
    = c.reduce.ensures ∙ ap (λ (x : ℕ). x % 2 ^ bank_bits) (c.fingerprint.ensures ∙ ap fingerprint_of c.load_row-row.ensures) in
    (e, subst (λ (k : ℕ). k < 2 ^ bank_bits) (sym e) (home-small bank_bits (part_at 16 c.args.atoms.now c.args.i)))
