-- A product search over the struct that is handed over: Answer's definitions of what stands in it. Assumes nothing.
use Rattle.std.specs.Prelude.{Bool, ℕ}
use Rattle.std.proofs.Math.Option.{Option}
use Rattle.limits.specs.Refusal.{Outcome}
use Rattle.search_product_forms.specs.Lent.{forms_of}
use Rattle.search_product_trial.specs.declared.inner.Search.{Search}
use Rattle.search_product_trial.specs.Trying.{Product, try_everything}
use Rattle.search_product.specs.Answer.{short_arrays, search_refusal, product}

abbrev pub lent_short : Search → Bool
lent_short s = short_arrays s.forms.count s.atoms.now s.forms.n s.listed.now s.order.now (forms_of s.forms)

abbrev pub lent_refusal : Search → ℕ
lent_refusal s = search_refusal s.w s.forms.count s.atoms.now s.forms.n s.listed.now s.order.now s.target.now (forms_of s.forms)

abbrev pub tried_all : Search → Option Product
tried_all s = try_everything s.w s.forms.count s.atoms.now s.forms.n s.listed.now s.target.now (forms_of s.forms)

abbrev pub searched : Search → Outcome (Option Product)
searched s = product s.w s.forms.count s.atoms.now s.forms.n s.listed.now s.order.now s.target.now (forms_of s.forms)
