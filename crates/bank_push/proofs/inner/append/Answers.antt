-- `bank_push::inner::append` meets its contract: the parts of slot n are put, and the map takes the row that was written there. Assumes nothing.
use mathlib.Core.Path.{◌≡◌, sym, ap, ◌∙◌}
use mathlib.Core.List.{List}
use Prim.Native.Nat.{ℕ}
use native.Mathlib.Omega.{arith}
use borrow.Author.Rules.{rules}
use lib.ListN.{length}
use Rattle.arrays.specs.Parts.{put_part}
use Rattle.arrays.proofs.Parts.{put_is}
use Rattle.row_map.proofs.MapLaws.{home-small, held-put_insert}
use Rattle.bank_push.proofs.Pushing.{rows_with}
use Rattle.bank_push.proofs.inner.append.Goals as goal

pub insert-requires : goal.insert-requires
insert-requires c =
    record {
      small = omega arith;
      link = omega (arith, c.requires.n_bound, c.requires.ready.area);
      entry = omega (arith, c.requires.n_bound);
      chain = rw c.requires.n_bound.1 (home-small 10 c.args.e.row);
    }

pub returns-clause-appended : goal.returns-clause-appended
returns-clause-appended c =
    let s = c.args in
    let rows = s.bank.now.rows.now in
    let long : length s.e.row ≡ 16 = ap length (sym c.write_row.ensures) ∙ c.write_row.auto.part ∙ (search rules) in
    let put =
    put_is 16 c.write_text.new.bank.rows.now s.n c.write_row.new.part
    ∙ ap (λ (l : List ℕ). put_part 16 l s.n c.write_row.new.part) c.write_text.ensures.rows
    ∙ ap (λ (z : List ℕ). put_part 16 rows s.n z) c.write_row.ensures in
    record {
      ready = record {
        room = record {
          texts = c.write_text.ensures.room;
          rows = search rules;
        };
        area = search rules;
        held = held-put_insert s.e.row (omega (arith, c.requires.n_bound, c.requires.ready.room.rows)) long put c.requires.n_bound.1 c.insert.ensures c.requires.ready.held;
      };
      arrays = rows_with c.write_text.ensures.texts put;
      wide = long;
    }
