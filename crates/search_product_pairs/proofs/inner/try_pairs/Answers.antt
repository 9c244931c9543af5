-- `search_product_pairs::inner::try_pairs` meets its contract: where the rule says "used", what fits is a solution; an atom that has too many tokens can't be cheaper, one that no row can fit doesn't. Assumes nothing.
use mathlib.Core.Path.{sym, ◌∙◌, subst}
use mathlib.Core.List.{List, map}
use Prim.Native.Nat.{ℕ}
use borrow.Author.Tests.{leb-false}
use lib.ListN.{get_or}
use Rattle.index_order.specs.Order.{first_word}
use Rattle.search_equation.proofs.Solutions.{solved_class, solved_none}
use Rattle.search_product_forms.specs.Lent.{forms_of}
use Rattle.search_product_trial.specs.Trying.{Product}
use Rattle.search_product_trial.specs.Searches.{fits_in, slots_tried}
use Rattle.search_product_trial.specs.Stages.{Tried}
use Rattle.search_product_trial.specs.Steps.{Target}
use Rattle.search_product_trial.proofs.Slots.{slots_in}
use Rattle.search_product_trial.proofs.Keeping.{none_kept, pairs_dear, pairs-same}
use Rattle.search_filter.proofs.Running.{class_small}
use Rattle.search_product_pairs.proofs.Slots.{slots-used, slots_unused, none-fits, narrows, listed-is}
use Rattle.search_product_pairs.proofs.inner.try_pairs.Goals as goal

pub returns-then-not-may_beat : goal.returns-then-not-may_beat
returns-then-not-may_beat c =
    let a = c.args in
    let lent = c.requires.0 in
    pairs_dear lent.written (fits_in a.search.now) a.a c.requires.2 a.best lent.paired
    (leb-false _ _ (sym c.may_beat.ensures ∙ c.if-not-may_beat.true)) (slots_tried a.search.now a.a)
    (slots_in a.search.now.w (first_word a.search.now.atoms.now a.a) (get_or a.search.now.target.now 0 0) a.search.now.forms.n a.search.now.listed.now)

pub returns-then-not-may_fit : goal.returns-then-not-may_fit
returns-then-not-may_fit c =
    let a = c.args in
    none_kept (forms_of a.search.now.forms) (fits_in a.search.now) (Product.of_pair a.a) (slots_tried a.search.now a.a) a.best
    (λ k. pairs-same a.search.now.w a.search.now.atoms.now a.search.now.listed.now a.search.now.target.now a.a k ∙ c.may_fit.ensures.never c.if-not-may_fit.true a.search.now.listed.now k)

pub try_class-requires : goal.try_class-requires
try_class-requires c =
    let a = c.args in
    let lent = c.requires.0 in
    let ok : Target a.search.now.w a.search.now.target.now = record { width = lent.width; long = lent.long; reduced = lent.reduced } in
    let class = solved_class c.solve.ensures c.in-Some.is in (
      lent,
      c.requires.1,
      class_small lent.width class,
      narrows a.search.now.w a.search.now.target.now a.search.now.atoms.now a.search.now.listed.now a.a ok c.reduce-p.result c.reduce-p.ensures _ _ class,
      c.requires.2,
    )

pub returns-then-is_used : goal.returns-then-is_used
returns-then-is_used c =
    let a = c.args in
    let lent = c.requires.0 in
    let ok : Target a.search.now.w a.search.now.target.now = record { width = lent.width; long = lent.long; reduced = lent.reduced } in
    let used = sym c.is_used.ensures ∙ c.if-is_used.true in
    subst (λ (l : List ℕ). Tried (forms_of a.search.now.forms) (fits_in a.search.now) (map (Product.of_pair a.a) l) a.best c.try_class.result)
    (listed-is a.search.now.forms.n a.search.now.listed.now a.search.now.order.now lent.ordered ∙ sym (slots-used a.search.now.w a.search.now.target.now a.search.now.atoms.now a.search.now.listed.now a.a ok c.reduce-p.result c.reduce-p.ensures a.search.now.forms.n used))
    c.try_class.ensures

pub returns-in_default : goal.returns-in_default
returns-in_default c =
    let a = c.args in
    let lent = c.requires.0 in
    let ok : Target a.search.now.w a.search.now.target.now = record { width = lent.width; long = lent.long; reduced = lent.reduced } in
    let none = solved_none c.solve.ensures c.in_default.is in
    none_kept (forms_of a.search.now.forms) (fits_in a.search.now) (Product.of_pair a.a) (slots_tried a.search.now a.a) a.best
    (λ k. pairs-same a.search.now.w a.search.now.atoms.now a.search.now.listed.now a.search.now.target.now a.a k ∙ none-fits a.search.now.w a.search.now.target.now a.search.now.atoms.now a.search.now.listed.now a.a ok c.reduce-p.result c.reduce-p.ensures none k)

pub returns : goal.returns
returns c =
    let a = c.args in
    let lent = c.requires.0 in
    let ok : Target a.search.now.w a.search.now.target.now = record { width = lent.width; long = lent.long; reduced = lent.reduced } in
    subst (λ (l : List ℕ). Tried (forms_of a.search.now.forms) (fits_in a.search.now) (map (Product.of_pair a.a) l) a.best c.try_slots.result)
    (sym (slots_unused a.search.now.w a.search.now.target.now a.search.now.atoms.now a.search.now.listed.now a.a ok c.reduce-p.result c.reduce-p.ensures a.search.now.forms.n (sym c.is_used.ensures ∙ c.if-is_used.false)))
    c.try_slots.ensures
