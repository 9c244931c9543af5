-- `simjaldek_write_listing` meets its contract: the text is read in one part, and the answer is the call's by numbers. Assumes nothing.
use mathlib.Core.Path.{sym, ap, ◌∙◌}
use mathlib.Core.List.{[]}
use native.Mathlib.Omega.{arith}
use Rattle.simjaldek.proofs.Texts.{answer_text, refused_text, texted}
use Rattle.simjaldek.proofs.simjaldek_write_listing.Goals as goal

pub returns-in-Ok : goal.returns-in-Ok
returns-in-Ok c =
    texted _ _ _ c.feed-read.result c.write_listing.result _ (λ h. c.feed-read.ensures [] (omega (arith, h)) c.begin.ensures) c.write_listing.ensures (ap answer_text (sym c.in-Ok.is))

pub returns-in-Err : goal.returns-in-Err
returns-in-Err c =
    texted _ _ _ c.feed-read.result c.write_listing.result _ (λ h. c.feed-read.ensures [] (omega (arith, h)) c.begin.ensures) c.write_listing.ensures (ap refused_text c.from.ensures ∙ ap answer_text (sym c.in-Err.is))
