-- `load::write_load` ends, since after each call fewer lines are left, and it writes what the load owes. Assumes nothing.
use Rattle.std.proofs.Common.{◌≡◌, ◌≤◌, true, length, ap, arith}
use Rattle.load_text.specs.declared.LoadPart.{LoadPart}
use Rattle.load_text.specs.Writing.{line_max}
use Rattle.load_text.proofs.Parts.{part_fewer}
use Rattle.load.proofs.Progress.{part_is, part_length, write_more, write_whole}
use Rattle.load.proofs.write_load.Goals as goal

pub loop-text-smaller : goal.loop-text-smaller
loop-text-smaller g c =
    let l = c.loop-text in
    let room : line_max ≤ length l.text = omega (arith, l.invariant.room) in
    omega (arith, ap (λ (r : LoadPart). r.load.left) (part_is room c.in-Ok.ensures), part_fewer l.l (length l.text) room (omega (arith, c.loop-text-test.true, c.left.ensures)))

pub loop-text-preserved : goal.loop-text-preserved
loop-text-preserved g c =
    let l = c.loop-text in
    let room : line_max ≤ length l.text = omega (arith, l.invariant.room) in
    record {
      room = omega (arith, l.invariant.room);
      written = write_more room c.in-Ok.ensures (omega (arith, c.loop-text-test.true, c.left.ensures)) l.invariant.written (c.in_ok-write_text.ensures.bytes c.if-not-branch.false);
    }

pub returns-then-not-branch : goal.returns-then-not-branch
returns-then-not-branch g c =
    let l = c.loop-text in
    let room : line_max ≤ length l.text = omega (arith, l.invariant.room) in
    let fits : c.in-Ok.part.length ≤ length c.loop-text.text = part_length room c.in-Ok.ensures in
    let yes : c.in_ok-write_text.field-0 ≡ true = c.in_ok-write_text.ensures.all.1 (omega (arith, fits)) in
    absurd (grind (arith, yes, c.if-not-branch.true))

pub returns : goal.returns
returns g c = write_whole (g.W.Write.contents c.args.writer.now) (g.W.Write.contents c.loop-text.writer) c.loop-text.invariant.written (omega (arith, c.loop-text-test.false, c.left.ensures))
