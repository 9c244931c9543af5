-- `bank_atom::inner::joined` meets its contract: the tokens of b that are passed stand after those of a. Assumes nothing.
use mathlib.Core.Path.{refl}
use Rattle.bank_atom.proofs.Texts as texts
use borrow.Author.Rules.{rules}
use Rattle.bank_atom.proofs.inner.joined.Goals as goal

pub loop-k-init : goal.loop-k-init
loop-k-init c =
    (search rules, (search rules, (texts.copied_none 255 c.args.a.len c.args.b.len c.args.a.ops c.args.b.ops, texts.copied_none 0 c.args.a.len c.args.b.len c.args.a.operands c.args.b.operands)))

pub loop-k-preserved : goal.loop-k-preserved
loop-k-preserved c =
    let l = c.loop-k in (
      search rules,
      (
        search rules,
        (
          texts.copied_more 255 c.args.a.len c.args.b.len c.args.a.ops c.args.b.ops l.ops l.k c.requires (search rules) l.invariant.1.1.0,
          texts.copied_more 0 c.args.a.len c.args.b.len c.args.a.operands c.args.b.operands l.operands l.k c.requires (search rules) l.invariant.1.1.1,
        ),
      ),
    )

pub returns : goal.returns
returns c =
    let l = c.loop-k in
    texts.joined c.args.a c.args.b _ l.k (search rules) refl l.invariant.1.1.0 l.invariant.1.1.1
