-- `text_print::inner::decimal::put` meets its contract: the part is lent, copied to, and back in its place. Assumes nothing.
use mathlib.Core.Path.{◌∙◌, ap, sym, refl}
use mathlib.Core.List.{List, ◌++◌, append_assoc}
use Prim.Native.Nat.{ℕ, ◌+◌}
use native.Mathlib.Nat.{le-add_right}
use borrow.Rule.Slice.PartMut.{Post-is}
use lib.ListN.{length, take, drop}
use lib.Seq.{sets-eq}
use Rattle.text_print.proofs.inner.decimal.put.Goals as goal

pub returns : goal.returns
returns c =
    let a = c.args in
    let n = length a.s.now in
    record {
      next = refl;
      laid =
          ap (λ (z : List ℕ). take a.at a.out.now ++ (c.copy_from_slice.new.self ++ z)) (Post-is a.at (a.at + n) a.out.now (le-add_right a.at n))
          ∙ ap (λ (ys : List ℕ). take a.at a.out.now ++ (ys ++ drop (a.at + n) a.out.now)) c.copy_from_slice.ensures.after
          ∙ sym (append_assoc (take a.at a.out.now) a.s.now (drop (a.at + n) a.out.now))
          ∙ sym (sets-eq a.s.now a.out.now a.at c.requires);
    }
